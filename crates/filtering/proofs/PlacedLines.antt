-- The lines that filters puts in: `filter` in front of the inner pattern, and behind it the `and` lines and each placed filter's expression. Assumes nothing.
use mathlib.Core.Path.{◌≡◌, refl, sym, ap, subst, ◌∙◌}
use mathlib.Core.Bool.{Bool, true, false, cond, not, ◌&&◌}
use mathlib.Core.List.{List, [], ◌∷◌, ◌++◌, append_assoc}
use mathlib.Core.Option.{Option, none, some}
use Prim.Native.Nat.{ℕ, zero, suc, ◌-◌, ◌≤◌}
use native.Mathlib.Omega.{arith}
use lib.ListN.{length}
use Rattle.text.specs.Text.{Bytes, Line, same}
use Rattle.text.specs.Word.{bytes}
use Rattle.text.specs.Field.{given}
use Rattle.text.proofs.Basics.{deeper}
use Rattle.algebra.specs.Tree.{Pattern, filter, Expression}
use Rattle.algebra.specs.Query.{UN, BIN, TERN, NARY, Filter, leaf, ref, function}
use Rattle.algebra.specs.Valid.{ValidFilters}
use Rattle.algebra.specs.Layout.{put_arity, put, put_e, put_values, put_filter, put_filters}
use Rattle.filtering.specs.Functions.{try_expression_from_tree, is_constant_true}
use Rattle.filtering.specs.Filters.{placed_expression, and_those, expressions, both, conjunction, filtered}
use Rattle.filtering.specs.NotPlaced.{numbers_failing}
use Rattle.filtering.specs.bridge.SetLines.{repeated}
use Rattle.filtering.specs.bridge.FilterLines.{is_true_line, Walked, tree_to_expression, Placed, one_more, placed_filters}
use Rattle.filtering.proofs.FilterLines.{Made, filter-made, filter-long}
use Rattle.filtering.proofs.BindingLines.{repeated-in}

-- ---- the whole

-- the lines of several expressions, in front of others
unfoldable pub put_expressions : List Expression → List Line → List Line
unfolding put_e
put_expressions [] t = t
put_expressions (e ∷ es) t = put_e e (put_expressions es t)

-- all `and` lines first, then the expressions in their order
pub conjunction-lines : (e : Expression) (es : List Expression) (t : List Line) → put_e (conjunction e es) t ≡ repeated (length es) (bytes "and") (put_e e (put_expressions es t))
unfolding conjunction repeated put_expressions put_e put_arity
conjunction-lines e [] t = refl
conjunction-lines e (d ∷ ds) t = conjunction-lines (both e d) ds t ∙ repeated-in (length ds) (bytes "and") (put_e e (put_e d (put_expressions ds t)))

pub placed-lines : (e : Expression) (es : List Expression) (q : Pattern) (u : List Line) → put (filtered (e ∷ es) q) u ≡ (bytes "filter" ∷ []) ∷ put q (repeated (length es) (bytes "and") (put_expressions (e ∷ es) u))
unfolding filtered put put_expressions
placed-lines e es q u = ap (λ (l : List Line). (bytes "filter" ∷ []) ∷ put q l) (conjunction-lines e es u)

-- ---- all filters

first-line : List Line → Line
first-line [] = []
first-line (l ∷ ls) = l

-- an always-true filter is known by its first line
true-line : (f : Filter) (t : List Line) → is_true_line (first-line (put_filter f t)) ≡ is_constant_true f
unfolding is_true_line is_constant_true first-line put_filter put_values same
true-line (leaf v) t = refl
true-line (ref k) t = refl
true-line (function UN n fs) t = refl
true-line (function BIN n fs) t = refl
true-line (function TERN n fs) t = refl
true-line (function NARY n fs) t = refl

-- a placed filter is one that is not always true and is expressed
pub placed-given : (cs : List Bytes) (f : Filter) → given (placed_expression cs f) ≡ (not (is_constant_true f) && given (try_expression_from_tree cs f))
unfolding placed_expression
placed-given cs f = go (is_constant_true f)
  where
    go : (b : Bool) → given (cond b none (try_expression_from_tree cs f)) ≡ (not b && given (try_expression_from_tree cs f))
    go true = refl
    go false = refl

-- the expression of a filter, where a projection was found
abbrev pub found_expression : Bool → List Bytes → Filter → Option Expression
found_expression found cs f = cond found (placed_expression cs f) none

unfoldable pub found_expressions : Bool → List Bytes → List Filter → List Expression
unfolding placed_expression
found_expressions found cs [] = []
found_expressions found cs (f ∷ fs) = and_those (found_expression found cs f) (found_expressions found cs fs)

pub found_all : (cs : List Bytes) (fs : List Filter) → found_expressions true cs fs ≡ expressions cs fs
unfolding found_expressions expressions
found_all cs [] = refl
found_all cs (f ∷ fs) = ap (and_those (placed_expression cs f)) (found_all cs fs)

-- what is placed of a list of filters, and the numbers of the others
pub record PlacedAs (x : Placed) (es : List Expression) (ks : List ℕ) : Type 0 where
  pub many : x.many ≡ length es
  pub lines : (u : List Line) → x.lines ++ u ≡ put_expressions es u
  pub others : x.others ≡ ks

module _ (found : Bool) (cs : List Bytes) (n : ℕ) where
  one_placed : (b : Bool) (o : Option Expression) (w : Walked) (s : List Line) (i : ℕ) (x : Placed) (es : List Expression) (ks : List ℕ) → Made w o s → PlacedAs x es ks
      → PlacedAs (one_more (found && (not b && w.expressed)) i w.lines x) (and_those (cond found (cond b none o) none) es) (cond (given (cond found (cond b none o) none)) ks (i ∷ ks))
  unfolding put_expressions
  one_placed b o w s i x es ks m p = go found b o m
    where
      other : PlacedAs (one_more false i w.lines x) es (i ∷ ks)
      other = record { many = p.many; lines = p.lines; others = ap (λ (ns : List ℕ). i ∷ ns) p.others }

      go : (a c : Bool) (q : Option Expression) → Made w q s → PlacedAs (one_more (a && (not c && w.expressed)) i w.lines x) (and_those (cond a (cond c none q) none) es) (cond (given (cond a (cond c none q) none)) ks (i ∷ ks))
      go false c q k = other
      go true true q k = other
      go true false none k = subst (λ (d : Bool). PlacedAs (one_more d i w.lines x) es (i ∷ ks)) (sym k.expressed) other
      go true false (some e) k = subst (λ (d : Bool). PlacedAs (one_more d i w.lines x) (e ∷ es) ks) (sym k.expressed) (record {
        many = ap suc p.many;
        lines = λ u. append_assoc w.lines x.lines u ∙ ap (λ (l : List Line). w.lines ++ l) (p.lines u) ∙ k.lines e refl (put_expressions es u);
        others = p.others;
      })

  nothing_placed : (i k : ℕ) → PlacedAs (placed_filters found cs n i k []) [] []
  unfolding placed_filters put_expressions
  nothing_placed i zero = record { many = refl; lines = λ u. refl; others = refl }
  nothing_placed i (suc k) = record { many = refl; lines = λ u. refl; others = refl }

  open-filters : (i k : ℕ) (f : Filter) (t : List Line)
      → placed_filters found cs n i (suc k) (put_filter f t)
      ≡ one_more (found && (not (is_true_line (first-line (put_filter f t))) && (tree_to_expression cs n (put_filter f t)).expressed)) i (tree_to_expression cs n (put_filter f t)).lines (placed_filters found cs n (suc i) k (tree_to_expression cs n (put_filter f t)).left)
  unfolding placed_filters put_filter first-line
  open-filters i k (leaf v) t = refl
  open-filters i k (ref m) t = refl
  open-filters i k (function w m fs) t = refl

  -- for as many filters as there are, or more, of as many lines as there are, or more
  pub filters-placed : (i k : ℕ) (fs : List Filter) → ValidFilters fs → length (put_filters fs []) ≤ n → length fs ≤ k
      → PlacedAs (placed_filters found cs n i k (put_filters fs [])) (found_expressions found cs fs) (numbers_failing (λ f. given (found_expression found cs f)) i fs)
  unfolding put_filters ValidFilters found_expressions placed_expression numbers_failing
  filters-placed i k [] w h l = nothing_placed i k
  filters-placed i k (f ∷ fs) w h l = deeper (length fs) k l (λ (d : ℕ). PlacedAs (placed_filters found cs n i d (put_filters (f ∷ fs) [])) (found_expressions found cs (f ∷ fs)) (numbers_failing (λ g. given (found_expression found cs g)) i (f ∷ fs)))
      (λ d j.
      let t = put_filters fs [] in
      let T = tree_to_expression cs n (put_filter f t) in
      let m = filter-made cs f t n w.0 h in
      let r = filters-placed (suc i) d fs w.1 (omega (arith, filter-long f t, h)) j in
      subst (λ (x : Placed). PlacedAs x (found_expressions found cs (f ∷ fs)) (numbers_failing (λ g. given (found_expression found cs g)) i (f ∷ fs))) (sym (open-filters i d f t))
      (subst (λ (b : Bool). PlacedAs (one_more (found && (not b && T.expressed)) i T.lines (placed_filters found cs n (suc i) d T.left)) (found_expressions found cs (f ∷ fs)) (numbers_failing (λ g. given (found_expression found cs g)) i (f ∷ fs))) (sym (true-line f t))
      (one_placed (is_constant_true f) (try_expression_from_tree cs f) T t i _ (found_expressions found cs fs) _ m
      (subst (λ (ls : List Line). PlacedAs (placed_filters found cs n (suc i) d ls) (found_expressions found cs fs) (numbers_failing (λ g. given (found_expression found cs g)) (suc i) fs)) (sym m.left) r))))
