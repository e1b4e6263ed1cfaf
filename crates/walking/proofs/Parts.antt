-- The lines of a tree that add no depth, the numbers in its lines, and its words' rows of the table. Assumes nothing.
use Prim.Native.Nat.{ℕ, suc, ◌+◌, ◌-◌}
use mathlib.Core.Path.{◌≡◌, refl, sym, ap}
use mathlib.Core.List.{List, [], ◌∷◌, map}
use mathlib.Core.Bool.{Bool, false}
use mathlib.Core.Option.{some}
use native.Mathlib.Omega.{arith}
use lib.ListN.{length, get_or}
use Rattle.text.specs.Text.{Bytes, Line, same}
use Rattle.text.specs.Word.{bytes}
use Rattle.text.specs.Field.{digits_of, number_of, is_var, node, name, cell}
use Rattle.text.proofs.Numbers.{number-back}
use Rattle.algebra.specs.Tree.{Triple, Op, OR, AND, EQ, SAME, GT, GE, LT, LE, ADD, SUB, MUL, DIV, IN, PLUS, NEG, NOT, IF, COALESCE, Direction, ASC, DESC, ecount, ocount, acount}
use Rattle.algebra.specs.Tree.{Condition, always, provided, Expressions, eend, econs, Orders, oend, ocons, Aggregates, aend, agg, aggall}
use Rattle.algebra.specs.Word.{Arity, exactly, counted, arity, PatternWord}
use Rattle.algebra.specs.Word.{ExpressionWord, AggregateWord, spell_p, spell_e, spell_o, spell_d, spell_a}
use Rattle.algebra.specs.Layout.{put_triples, put_rows, put_arity, put_flag}
use Rattle.algebra.specs.Valid.{Triples, Rows, Takes, mem}
use Rattle.algebra.specs.bridge.Table.{Slot, term as slot, Sort, triples, expressions, rows, orders, row, Row, tailed, variables, texts, one, ◌of◌, Entry, entry, row_in, row_for, pattern_row, expression_row, aggregate_row, arity_row}
use Rattle.scoping.specs.Sets.{keep, variables_of, triple_variables}
use Rattle.scoping.specs.bridge.Places.{Mark, silent, marked}
use Rattle.scoping.specs.Rename.{rename_in_triple, rename_in_condition, rename_in_expressions, rename_in_orders, rename_aggregates}
use Rattle.scoping.specs.bridge.Walk.{State, state, number_in, hides, opened, part, child, times, beneath, tree}
use Rattle.walking.specs.bridge.Walk.{Output, put_line}
use Rattle.walking.proofs.After.{After, marked_append, none_after, then, told, line}
use Rattle.walking.proofs.Written.{Fields, no_fields, fixed_then, number-then, term-then, cells}

-- ---- numbers that renaming leaves

pub length-map : {A B : Type 0} (f : A → B) (xs : List A) → length (map f xs) ≡ length xs
length-map f [] = refl
length-map f (x ∷ xs) = ap suc (length-map f xs)

pub count-renamed : (f : Bytes → Bytes) (es : Expressions) → ecount (rename_in_expressions f es) ≡ ecount es
unfolding rename_in_expressions
count-renamed f eend = refl
count-renamed f (econs e es) = ap suc (count-renamed f es)

pub ocount-renamed : (f : Bytes → Bytes) (os : Orders) → ocount (rename_in_orders f os) ≡ ocount os
unfolding rename_in_orders
ocount-renamed f oend = refl
ocount-renamed f (ocons d e os) = ap suc (ocount-renamed f os)

pub acount-renamed : (f : Bytes → Bytes) (rs : Aggregates) → acount (rename_aggregates f rs) ≡ acount rs
unfolding rename_aggregates
acount-renamed f aend = refl
acount-renamed f (agg v n d e rs) = ap suc (acount-renamed f rs)
acount-renamed f (aggall v d rs) = ap suc (acount-renamed f rs)

-- a left join's expressions
abbrev pub ccount : Condition → ℕ
ccount always = 0
ccount (provided e) = 1

pub flag-number : (c : Condition) → number_of (put_flag c) ≡ some (ccount c)
unfolding number_of digits_of
flag-number always = refl
flag-number (provided e) = refl

-- ---- rows of the table

-- an operator's row tells its arity
pub op_row : (o : Op) → row_for expressions (spell_o o) ≡ some (arity_row (arity o))
unfolding row_in
op_row OR = refl
op_row AND = refl
op_row EQ = refl
op_row SAME = refl
op_row GT = refl
op_row GE = refl
op_row LT = refl
op_row LE = refl
op_row ADD = refl
op_row SUB = refl
op_row MUL = refl
op_row DIV = refl
op_row IN = refl
op_row PLUS = refl
op_row NEG = refl
op_row NOT = refl
op_row IF = refl
op_row COALESCE = refl

-- the table's entries of words
abbrev pub heading : PatternWord → Entry
heading w = entry (spell_p w) (pattern_row w)

abbrev pub heading_e : ExpressionWord → Entry
heading_e w = entry (spell_e w) (expression_row w)

abbrev pub heading_a : AggregateWord → Entry
heading_a w = entry (spell_a w) (aggregate_row w)

abbrev pub columns_row : Entry
columns_row = entry (bytes "cols") (tailed variables [])

abbrev pub order_row : Direction → Entry
order_row a = entry (spell_d a) (row [] (one of expressions ∷ []))

-- ---- lines

module _ {ns : List Bytes} {new : Bytes → Bytes} where
  -- a left join's flag
  pub flag-then : {m : Mark} {stays : Bool} {ss : List Slot} {i : ℕ} {fs gs vs : List Bytes} (c : Condition) → Fields ns new m stays ss (suc i) fs gs vs → Fields ns new m stays ss i (put_flag c ∷ fs) (put_flag (rename_in_condition new c) ∷ gs) vs
  unfolding rename_in_condition is_var
  flag-then always r = fixed_then (bytes "0") refl r
  flag-then (provided e) r = fixed_then (bytes "1") refl r

  -- the number in the line of an operator, if any
  pub arity-fields : {m : Mark} {stays : Bool} (a : Arity) (n k : ℕ) → k ≡ n → Takes a n → Fields ns new m stays (arity_row a).slots 0 (put_arity a n) (put_arity a k) []
  unfolding put_arity Takes
  arity-fields (exactly j) n k e h = no_fields
  arity-fields (counted j) n k e h = number-then (n - j) (k - j) (ap (λ (x : ℕ). x - j) e) h.1 no_fields

module _ (ns : List Bytes) (new : Bytes → Bytes) where
  module _ (trees : Sort → Mark → State Output → State Output) (hide : Bool) (m : Mark) where
    -- as many expressions as the operator takes
    pub arity-below : (a : Arity) (n x : ℕ) (st : State Output) → Takes a n
        → beneath (λ s. put_line ns new) trees hide m (arity_row a).below (number_in (get_or (put_arity a n) 0 []) ∷ x ∷ []) st ≡ times (child (λ s. put_line ns new) trees hide m expressions) n st
    unfolding put_arity Takes beneath
    arity-below (exactly j) n x st h = ap (λ (z : ℕ). times (child (λ s. put_line ns new) trees hide m expressions) z st) (sym h)
    arity-below (counted j) n x st h = let e : n - j + j ≡ n = omega arith in rw (number-back (n - j) h.1, e)

    -- rows of values are left as they are
    pub walk_rows : (n : ℕ) (rs : List (List Bytes)) (t : List Line) (o : Output) → Rows n rs
        → After ns o (put_rows rs) [] t (times (child (λ s. put_line ns new) trees hide m rows) (length rs) (state (put_rows rs t) o))
    unfolding Rows put_rows times child part row_in same marked
    walk_rows n [] t o v = none_after
    walk_rows n (r ∷ rs) t o v =
        then (times (child (λ s. put_line ns new) trees hide m rows) (length rs)) (line new m (entry (bytes "row") (tailed (texts cell) [])) (put_rows rs t) o (cells r v.1)) λ o.
        walk_rows n rs t o v.2

    -- triples
    pub walk-triples : ((f : Bytes) → mem f ns ≡ false → new f ≡ f) → (ts : List Triple) (t : List Line) (o : Output) → Triples ts
        → After ns o (put_triples (map (rename_in_triple new) ts)) (marked m (triple_variables ts)) t (times (child (λ s. put_line ns new) trees hide m triples) (length ts) (state (put_triples ts t) o))
    unfolding Triples put_triples times child part row_in same opened triple_variables variables_of keep marked
    walk-triples keeps [] t o v = none_after
    walk-triples keeps (x ∷ xs) t o v =
        told (marked_append m (variables_of (x.subj ∷ x.pred ∷ x.obj ∷ [])) (triple_variables xs))
        (then (times (child (λ s. put_line ns new) trees hide m triples) (length xs))
        (line new m (entry (bytes "t") (row (slot node ∷ slot name ∷ slot node ∷ []) [])) (put_triples xs t) o
        (term-then keeps refl x.subj (term-then keeps refl x.pred (term-then keeps refl x.obj no_fields)))) λ o.
        walk-triples keeps xs t o v.3)

  -- an expression's line, where the row of its word is known
  pub by_row : (w : Bytes) (r : Row) (fs : List Bytes) (ls : List Line) (o : Output) (d : ℕ) → row_for expressions w ≡ some r
      → tree (λ s. put_line ns new) (suc d) expressions silent (state ((w ∷ fs) ∷ ls) o)
      ≡ beneath (λ s. put_line ns new) (tree (λ s. put_line ns new) d) (hides w) silent r.below (number_in (get_or fs 0 []) ∷ number_in (get_or fs 1 []) ∷ []) (state ls (put_line ns new silent r w fs o))
  unfolding tree
  by_row w r fs ls o d e = rw e

  -- an order's line
  pub by-direction : (trees : Sort → Mark → State Output → State Output) (m : Mark) (a : Direction) (ls : List Line) (o : Output)
      → part (λ s. put_line ns new) trees orders m ((spell_d a ∷ []) ∷ ls) o ≡ trees expressions silent (state ls (put_line ns new m (order_row a).row (spell_d a) [] o))
  unfolding part row_in same
  by-direction trees m ASC ls o = refl
  by-direction trees m DESC ls o = refl
