-- One filter's lines: its references, and its expression in preorder by a recursion on the lines left of the filters' text. Assumes nothing.
use mathlib.Core.Path.{◌≡◌, refl, sym, ap, ap₂, subst, ◌∙◌}
use mathlib.Core.Bool.{Bool, true, false, cond, not, ◌&&◌}
use mathlib.Core.List.{List, [], ◌∷◌, ◌++◌, append_assoc}
use mathlib.Core.Option.{Option, none, some}
use Prim.Native.Nat.{ℕ, suc, ◌-◌, ◌≤◌}
use native.Mathlib.Omega.{arith}
use native.Mathlib.Nat.{sub-zero}
use lib.ListN.{length}
use Rattle.text.specs.Text.{Bytes, Line, same}
use Rattle.text.specs.Word.{bytes}
use Rattle.text.specs.Field.{digits, decimal, given}
use Rattle.text.proofs.Basics.{deeper}
use Rattle.text.proofs.Numbers.{number-back}
use Rattle.algebra.specs.Tree.{EQ, NOT, filter, Expression, term, apply, call, Expressions, eend, econs, ecount}
use Rattle.algebra.specs.Query.{Domain, PlainString, LanguageTaggedString, Iri, Float, Double, UnsignedLong, NonNegativeLong, UnsignedInt, NonNegativeInt, Long, Int, Boolean, Null, Tuple, Map, Other, Value, FilterWord, UN, BIN, TERN, NARY, Filter, leaf, ref, function, Filters, fend, fcons, fcount}
use Rattle.algebra.specs.Word.{spell_v, spell_f, filter_arity}
use Rattle.algebra.specs.Valid.{Takes, ValidFilter, ValidParts}
use Rattle.algebra.specs.Layout.{put_arity, put_e, put_es, put_values, put_filter, put_parts, put_filters}
use Rattle.scoping.specs.Sets.{all}
use Rattle.scoping.specs.bridge.Walk.{or_zero}
use Rattle.filtering.specs.Values.{expression_term}
use Rattle.filtering.specs.Functions.{as_term, referenced, try_expression_from_unary, try_expression_from_binary, try_expression_from_function, if_some, try_expression_from_tree, try_expressions_from_parts}
use Rattle.filtering.specs.Filters.{expressions, references_inside, parts_inside}
use Rattle.filtering.specs.bridge.Terms.{form_of, term_of}
use Rattle.filtering.specs.bridge.FilterLines.{ref_inside, parts_below, leaf_lines, unary_lines, binary_lines, expression_lines, Walked, walked, in_front, and_then, several_parts, tree_to_expression}
use Rattle.filtering.proofs.Valid.{if-some-gives}

-- ---- 3, line by line

and-assoc' : (a b c : Bool) → ((a && b) && c) ≡ (a && (b && c))
and-assoc' true b c = refl
and-assoc' false b c = refl

module _ (cs : List Bytes) where
  mutual
    unfolding put_filter references_inside all ref_inside same

    filter-refs : (f : Filter) (t : List Line) → all (ref_inside cs) (put_filter f t) ≡ (references_inside cs f && all (ref_inside cs) t)
    filter-refs (leaf v) t = refl
    filter-refs (ref k) t = refl
    filter-refs (function UN n fs) t = parts-refs fs t
    filter-refs (function BIN n fs) t = parts-refs fs t
    filter-refs (function TERN n fs) t = parts-refs fs t
    filter-refs (function NARY n fs) t = parts-refs fs t

    parts-refs : (fs : Filters) (t : List Line) → all (ref_inside cs) (put_parts fs t) ≡ (parts_inside cs fs && all (ref_inside cs) t)
    parts-refs fend t = refl
    parts-refs (fcons f fs) t = filter-refs f (put_parts fs t) ∙ ap (λ (b : Bool). references_inside cs f && b) (parts-refs fs t) ∙ sym (and-assoc' (references_inside cs f) (parts_inside cs fs) (all (ref_inside cs) t))

  -- 3: some `ref` line has a position outside
  pub references-lines : (fs : List Filter) → all (ref_inside cs) (put_filters fs []) ≡ all (references_inside cs) fs
  unfolding put_filters all
  references-lines [] = refl
  references-lines (f ∷ fs) = filter-refs f (put_filters fs []) ∙ ap (λ (b : Bool). references_inside cs f && b) (references-lines fs)

-- ---- one filter

-- what the walk makes of a filter, by what the Rust makes of it
pub record Made (w : Walked) (o : Option Expression) (t : List Line) : Type 0 where
  pub expressed : w.expressed ≡ given o
  pub lines : (e : Expression) → o ≡ some e → (u : List Line) → w.lines ++ u ≡ put_e e u
  pub left : w.left ≡ t

record MadeAll (w : Walked) (o : Option Expressions) (t : List Line) : Type 0 where
  expressed : w.expressed ≡ given o
  lines : (es : Expressions) → o ≡ some es → (u : List Line) → w.lines ++ u ≡ put_es es u
  left : w.left ≡ t

-- a leaf's line
abbrev as_lines : Option Bytes → Option (List Line)
as_lines none = none
as_lines (some b) = some ((bytes "term" ∷ b ∷ []) ∷ [])

leaf-from : (d : Domain) (l x : Bytes) → leaf_lines (spell_v d) l x ≡ as_lines (expression_term d l x)
unfolding leaf_lines form_of term_of expression_term same
leaf-from PlainString l x = refl
leaf-from LanguageTaggedString l x = refl
leaf-from Iri l x = refl
leaf-from Float l x = refl
leaf-from Double l x = refl
leaf-from UnsignedLong l x = refl
leaf-from NonNegativeLong l x = refl
leaf-from UnsignedInt l x = refl
leaf-from NonNegativeInt l x = refl
leaf-from Long l x = refl
leaf-from Int l x = refl
leaf-from Boolean l x = refl
leaf-from Null l x = refl
leaf-from Tuple l x = refl
leaf-from Map l x = refl
leaf-from Other l x = refl

leaf-made : (o : Option Bytes) (t : List Line) → Made (in_front (as_lines o) (walked true [] t)) (as_term o) t
unfolding put_e
leaf-made none t = record { expressed = refl; lines = λ e h u. let z : ◌≡◌ {A = ℕ} 0 1 = cc in absurd (omega arith); left = refl }
leaf-made (some b) t = record { expressed = refl; lines = λ e h u. let i : term b ≡ e = cc in ap (λ (d : Expression). put_e d u) i; left = refl }

-- the line of a function, its lines and how many parts are below
function_lines : FilterWord → Bytes → Option (List Line)
function_lines UN n = unary_lines n
function_lines BIN n = binary_lines n
function_lines TERN n = none
function_lines NARY n = none

abbrev function_line : FilterWord → Bytes → ℕ → Line
function_line w n k = spell_f w ∷ n ∷ put_arity (filter_arity w) k

function-lines : (cs : List Bytes) (w : FilterWord) (n : Bytes) (k : ℕ) → expression_lines cs (function_line w n k) ≡ function_lines w n
unfolding expression_lines function_lines same
function-lines cs UN n k = refl
function-lines cs BIN n k = refl
function-lines cs TERN n k = refl
function-lines cs NARY n k = refl

parts_below_lem : (w : FilterWord) (n : Bytes) (k : ℕ) → Takes (filter_arity w) k → parts_below (function_line w n k) ≡ k
unfolding parts_below Takes put_arity same
parts_below_lem UN n k t = sym t
parts_below_lem BIN n k t = sym t
parts_below_lem TERN n k t = sym t
parts_below_lem NARY n k t = ap or_zero (number-back (k - 0) t.1) ∙ sub-zero k

-- whether a function is expressed doesn't depend on its parts
function-given : (w : FilterWord) (n : Bytes) (es : Expressions) → given (try_expression_from_function w n es) ≡ given (function_lines w n)
unfolding try_expression_from_function try_expression_from_unary try_expression_from_binary function_lines unary_lines binary_lines
function-given UN n es = go (same n (bytes "Datatype")) (same n (bytes "LanguageTag"))
  where
    go : (s t : Bool) → given (cond s (some (call (bytes "DATATYPE") es)) (cond t (some (call (bytes "LANG") es)) none)) ≡ given (cond s (some ((bytes "call" ∷ bytes "DATATYPE" ∷ bytes "1" ∷ []) ∷ [])) (cond t (some ((bytes "call" ∷ bytes "LANG" ∷ bytes "1" ∷ []) ∷ [])) none))
    go true t = refl
    go false true = refl
    go false false = refl
function-given BIN n es = go (same n (bytes "Equals")) (same n (bytes "Unequals"))
  where
    go : (s t : Bool) → given (cond s (some (apply EQ es)) (cond t (some (apply NOT (econs (apply EQ es) eend))) none)) ≡ given (cond s (some ((bytes "eq" ∷ []) ∷ [])) (cond t (some ((bytes "not" ∷ []) ∷ (bytes "eq" ∷ []) ∷ [])) none))
    go true t = refl
    go false true = refl
    go false false = refl
function-given TERN n es = refl
function-given NARY n es = refl

-- a function's own lines stand in front of those of its parts
one-is : decimal 1 ≡ bytes "1"
unfolding decimal digits
one-is = refl

abbrev in_front_of : Option (List Line) → List Line → List Line
in_front_of none u = u
in_front_of (some w) u = w ++ u

function-put : (w : FilterWord) (n : Bytes) (es : Expressions) (e : Expression) (u : List Line) → Takes (filter_arity w) (ecount es) → try_expression_from_function w n es ≡ some e → in_front_of (function_lines w n) (put_es es u) ≡ put_e e u
unfolding try_expression_from_function try_expression_from_unary try_expression_from_binary function_lines unary_lines binary_lines Takes put_e put_arity
function-put UN n es e u t h = go (same n (bytes "Datatype")) (same n (bytes "LanguageTag")) h
  where
    called : (f : Bytes) → (bytes "call" ∷ f ∷ bytes "1" ∷ []) ∷ put_es es u ≡ put_e (call f es) u
    called f = ap (λ (b : Bytes). (bytes "call" ∷ f ∷ b ∷ []) ∷ put_es es u) (sym (ap decimal t ∙ one-is))

    go : (s r : Bool) → cond s (some (call (bytes "DATATYPE") es)) (cond r (some (call (bytes "LANG") es)) none) ≡ some e
        → in_front_of (cond s (some ((bytes "call" ∷ bytes "DATATYPE" ∷ bytes "1" ∷ []) ∷ [])) (cond r (some ((bytes "call" ∷ bytes "LANG" ∷ bytes "1" ∷ []) ∷ [])) none)) (put_es es u) ≡ put_e e u
    go true r h = let i : call (bytes "DATATYPE") es ≡ e = cc in called (bytes "DATATYPE") ∙ ap (λ (d : Expression). put_e d u) i
    go false true h = let i : call (bytes "LANG") es ≡ e = cc in called (bytes "LANG") ∙ ap (λ (d : Expression). put_e d u) i
    go false false h = let z : ◌≡◌ {A = ℕ} 0 1 = cc in absurd (omega arith)
function-put BIN n es e u t h = go (same n (bytes "Equals")) (same n (bytes "Unequals")) h
  where
    go : (s r : Bool) → cond s (some (apply EQ es)) (cond r (some (apply NOT (econs (apply EQ es) eend))) none) ≡ some e
        → in_front_of (cond s (some ((bytes "eq" ∷ []) ∷ [])) (cond r (some ((bytes "not" ∷ []) ∷ (bytes "eq" ∷ []) ∷ [])) none)) (put_es es u) ≡ put_e e u
    go true r h = let i : apply EQ es ≡ e = cc in ap (λ (d : Expression). put_e d u) i
    go false true h = let i : apply NOT (econs (apply EQ es) eend) ≡ e = cc in ap (λ (d : Expression). put_e d u) i
    go false false h = let z : ◌≡◌ {A = ℕ} 0 1 = cc in absurd (omega arith)
function-put TERN n es e u t h = let z : ◌≡◌ {A = ℕ} 0 1 = cc in absurd (omega arith)
function-put NARY n es e u t h = let z : ◌≡◌ {A = ℕ} 0 1 = cc in absurd (omega arith)

-- where all parts are expressed there are as many expressions
parts-count : (cs : List Bytes) (fs : Filters) (es : Expressions) → try_expressions_from_parts cs fs ≡ some es → ecount es ≡ fcount fs
unfolding try_expressions_from_parts
parts-count cs fend es h = let x : eend ≡ es = cc in ap ecount (sym x)
parts-count cs (fcons f fs) es h =
    let x = if-some-gives (try_expression_from_tree cs f) _ es h in
    let y = if-some-gives (try_expressions_from_parts cs fs) (λ ds. some (econs x.0 ds)) es x.2 in
    let z : econs x.0 y.0 ≡ es = cc in
    ap ecount (sym z) ∙ ap suc (parts-count cs fs y.0 y.1)

-- a function over its parts
function-made : (w : FilterWord) (n : Bytes) (k : ℕ) (y : Walked) (o : Option Expressions) (t : List Line) → Takes (filter_arity w) k → ((es : Expressions) → o ≡ some es → ecount es ≡ k) → MadeAll y o t
    → Made (in_front (function_lines w n) y) (if_some o (try_expression_from_function w n)) t
function-made w n k y o t a c m = go (function_lines w n) refl o refl m
  where
    go : (p : Option (List Line)) → function_lines w n ≡ p → (q : Option Expressions) → o ≡ q → MadeAll y q t → Made (in_front p y) (if_some q (try_expression_from_function w n)) t
    go none e none f m = record { expressed = refl; lines = λ d h u. let z : ◌≡◌ {A = ℕ} 0 1 = cc in absurd (omega arith); left = m.left }
    go none e (some es) f m = record {
      expressed = sym (function-given w n es ∙ ap given e);
      lines = λ d h u. let z : ◌≡◌ {A = Bool} true false = sym (ap given h) ∙ function-given w n es ∙ ap given e in let i : ◌≡◌ {A = ℕ} 0 1 = cc in absurd (omega arith);
      left = m.left;
    }
    go (some l) e none f m = record { expressed = m.expressed; lines = λ d h u. let z : ◌≡◌ {A = ℕ} 0 1 = cc in absurd (omega arith); left = m.left }
    go (some l) e (some es) f m = record {
      expressed = m.expressed ∙ sym (function-given w n es ∙ ap given e);
      lines = λ d h u.
          append_assoc l y.lines u
          ∙ ap (λ (r : List Line). l ++ r) (m.lines es refl u)
          ∙ ap (λ (p : Option (List Line)). in_front_of p (put_es es u)) (sym e)
          ∙ function-put w n es d u (subst (Takes (filter_arity w)) (sym (c es f)) a) h;
      left = m.left;
    }

-- a part and the parts behind it
part-made : (x y : Walked) (o : Option Expression) (q : Option Expressions) (s t : List Line) → Made x o s → MadeAll y q t → MadeAll (and_then x y) (if_some o λ e. if_some q λ es. some (econs e es)) t
unfolding put_e
part-made x y none q s t a b = record { expressed = ap (λ (c : Bool). c && y.expressed) a.expressed; lines = λ es h u. let z : ◌≡◌ {A = ℕ} 0 1 = cc in absurd (omega arith); left = b.left }
part-made x y (some e) none s t a b = record { expressed = ap₂ ◌&&◌ a.expressed b.expressed; lines = λ es h u. let z : ◌≡◌ {A = ℕ} 0 1 = cc in absurd (omega arith); left = b.left }
part-made x y (some e) (some es) s t a b = record {
  expressed = ap₂ ◌&&◌ a.expressed b.expressed;
  lines = λ ds h u.
      let i : econs e es ≡ ds = cc in
      append_assoc x.lines y.lines u ∙ ap (λ (l : List Line). x.lines ++ l) (b.lines es refl u) ∙ a.lines e refl (put_es es u) ∙ ap (λ (r : Expressions). put_es r u) i;
  left = b.left;
}

mutual
  unfolding put_filter

  pub filter-long : (f : Filter) (t : List Line) → suc (length t) ≤ length (put_filter f t)
  filter-long (leaf v) t = omega arith
  filter-long (ref k) t = omega arith
  filter-long (function w n fs) t = omega (arith, parts-long fs t)

  parts-long : (fs : Filters) (t : List Line) → length t ≤ length (put_parts fs t)
  parts-long fend t = omega arith
  parts-long (fcons f fs) t = omega (arith, filter-long f (put_parts fs t), parts-long fs t)

all_none : (t : List Line) → MadeAll (walked true [] t) (some eend) t
unfolding put_e
all_none t = record { expressed = refl; lines = λ es h u. let i : eend ≡ es = cc in ap (λ (r : Expressions). put_es r u) i; left = refl }

leaf-step : (cs : List Bytes) (k : ℕ) (v : Value) (t : List Line) → Made (tree_to_expression cs (suc k) (put_filter (leaf v) t)) (try_expression_from_tree cs (leaf v)) t
unfolding tree_to_expression several_parts expression_lines parts_below put_filter put_values try_expression_from_tree same
leaf-step cs k v t = subst (λ (o : Option (List Line)). Made (in_front o (walked true [] t)) (as_term (expression_term v.domain v.lexical v.extra)) t) (sym (leaf-from v.domain v.lexical v.extra)) (leaf-made (expression_term v.domain v.lexical v.extra) t)

ref-step : (cs : List Bytes) (j : ℕ) (k : Bytes) (t : List Line) → Made (tree_to_expression cs (suc j) (put_filter (ref k) t)) (try_expression_from_tree cs (ref k)) t
unfolding tree_to_expression several_parts expression_lines parts_below put_filter try_expression_from_tree referenced same
ref-step cs j k t = leaf-made (some (referenced cs k)) t

function-step : (cs : List Bytes) (j : ℕ) (w : FilterWord) (n : Bytes) (fs : Filters) (t : List Line) → Takes (filter_arity w) (fcount fs) → MadeAll (several_parts (tree_to_expression cs j) (fcount fs) (put_parts fs t)) (try_expressions_from_parts cs fs) t
    → Made (tree_to_expression cs (suc j) (put_filter (function w n fs) t)) (try_expression_from_tree cs (function w n fs)) t
unfolding tree_to_expression put_filter try_expression_from_tree
function-step cs j w n fs t a m =
    subst (λ (o : Option (List Line)). Made (in_front o (several_parts (tree_to_expression cs j) (parts_below (function_line w n (fcount fs))) (put_parts fs t))) (if_some (try_expressions_from_parts cs fs) (try_expression_from_function w n)) t)
    (sym (function-lines cs w n (fcount fs)))
    (subst (λ (i : ℕ). Made (in_front (function_lines w n) (several_parts (tree_to_expression cs j) i (put_parts fs t))) (if_some (try_expressions_from_parts cs fs) (try_expression_from_function w n)) t)
    (sym (parts_below_lem w n (fcount fs) a))
    (function-made w n (fcount fs) (several_parts (tree_to_expression cs j) (fcount fs) (put_parts fs t)) (try_expressions_from_parts cs fs) t a (λ es h. parts-count cs fs es h) m))

module _ (cs : List Bytes) where
  mutual
    unfolding tree_to_expression several_parts put_filter put_values ValidFilter try_expression_from_tree

    -- tree to expression reads one filter's lines, whatever follows, and writes its expression's lines
    pub filter-made : (f : Filter) (t : List Line) (n : ℕ) → ValidFilter f → length (put_filter f t) ≤ n → Made (tree_to_expression cs n (put_filter f t)) (try_expression_from_tree cs f) t
    filter-made (leaf v) t n w h = deeper (length t) n h (λ (d : ℕ). Made (tree_to_expression cs d (put_filter (leaf v) t)) (try_expression_from_tree cs (leaf v)) t) λ k i. leaf-step cs k v t
    filter-made (ref k) t n w h = deeper (length t) n h (λ (d : ℕ). Made (tree_to_expression cs d (put_filter (ref k) t)) (try_expression_from_tree cs (ref k)) t) λ j i. ref-step cs j k t
    filter-made (function w m fs) t n q h = deeper (length (put_parts fs t)) n h (λ (d : ℕ). Made (tree_to_expression cs d (put_filter (function w m fs) t)) (try_expression_from_tree cs (function w m fs)) t) λ k i.
        function-step cs k w m fs t q.1 (parts-made fs t k q.2 i)

    parts-made : (fs : Filters) (t : List Line) (n : ℕ) → ValidParts fs → length (put_parts fs t) ≤ n → MadeAll (several_parts (tree_to_expression cs n) (fcount fs) (put_parts fs t)) (try_expressions_from_parts cs fs) t
    parts-made fend t n w h = all_none t
    parts-made (fcons f fs) t n w h =
        let a = filter-made f (put_parts fs t) n w.0 h in
        let b = parts-made fs t n w.1 (omega (arith, filter-long f (put_parts fs t), h)) in
        part-made (tree_to_expression cs n (put_filter f (put_parts fs t))) _ (try_expression_from_tree cs f) (try_expressions_from_parts cs fs) (put_parts fs t) t a
        (subst (λ (l : List Line). MadeAll (several_parts (tree_to_expression cs n) (fcount fs) l) (try_expressions_from_parts cs fs) t) (sym a.left) b)
