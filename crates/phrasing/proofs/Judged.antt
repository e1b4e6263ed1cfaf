-- A line's verdict by the key of its word: a law for each arm of the code. Assumes nothing.
use Prim.Native.Nat.{ℕ}
use mathlib.Core.Path.{◌≡◌, refl, ◌∙◌}
use mathlib.Core.Bool.{Bool, true, false, not, ◌&&◌}
use mathlib.Core.List.{List, [], ◌∷◌}
use lib.ListN.{get_or}
use borrow.Author.Tests.{not-true, not-false}
use Rattle.text.specs.Text.{Bytes, Line, same}
use Rattle.text.specs.Word.{bytes}
use Rattle.text.specs.Field.{is_blank}
use Rattle.algebra.specs.Valid.{different}
use Rattle.scoping.specs.bridge.Walk.{number_in}
use Rattle.scoping.proofs.Sets.{same-sym}
use Rattle.words.specs.bridge.Key.{key_of, Keyed}
use Rattle.words.proofs.ByKey.{small, tells, is_word, other_key}
use Rattle.editions.specs.Token.{Edition, is11}
use Rattle.editions.specs.Lexical.{is_var1}
use Rattle.editions.specs.Readers.{nonempty}
use Rattle.editions.specs.Refusals.{line, allowed, all_allowed, all_cells, Place, free, begins, takes_distinct, takes_project, takes_order}
use Rattle.spelling.specs.bridge.Seeking.{sought_tree}
use Rattle.spelling.specs.bridge.Judging.{is_some, is_plain_pattern, is_plain_expression, verdict_of}
use Rattle.std.specs.Prelude.{Result, Ok, Err}
use Rattle.answers.specs.declared.Refusal.{Refusal}
use Rattle.answers.specs.declared.Refusal.TheVariants.{Forbidden, Unsayable}
use Rattle.phrasing.specs.bridge.Code.{verdict_told}

-- what cannot be said comes first
pub told-unsayable : (said fine : Bool) → not said ≡ true → Err Unsayable ≡ verdict_told (line said fine)
unfolding verdict_told
told-unsayable said fine h = rw (not-true said h)

pub told-forbidden : (said fine : Bool) → not said ≡ false → not fine ≡ true → Err Forbidden ≡ verdict_told (line said fine)
unfolding verdict_told
told-forbidden said fine h k = rw (not-false said h, not-true fine k)

pub told-nothing : (said fine : Bool) → not said ≡ false → not fine ≡ false → Ok tt ≡ verdict_told (line said fine)
unfolding verdict_told
told-nothing said fine h k = rw (not-false said h, not-false fine k)

-- a select query without a dataset and a base, where the code compares the other way round
pub head-told : (x : Result (Unit {0}) Refusal) (a b c : Bool) (f g h : Bytes) → x ≡ verdict_told (line (a && (b && c)) true) → a ≡ same (bytes "select") f → b ≡ same (bytes "-") g → c ≡ same (bytes "-") h → x ≡ verdict_told (line (same f (bytes "select") && (same g (bytes "-") && same h (bytes "-"))) true)
head-told x a b c f g h p q r t =
    let i : a ≡ same f (bytes "select") = q ∙ same-sym (bytes "select") f in
    let j : b ≡ same g (bytes "-") = r ∙ same-sym (bytes "-") g in
    let l : c ≡ same h (bytes "-") = t ∙ same-sym (bytes "-") h in
    cc

module _ (f : Bytes) (k : ℕ) (keyed : Keyed f k) where
  is : (w : Bytes) → tells w ≡ true → k ≡ key_of 0 w → f ≡ w
  is = is_word f k keyed

  no : (w : Bytes) → tells w ≡ true → (k ≡ key_of 0 w → ⊥) → same f w ≡ false
  no = other_key f k keyed

  module _ (ed : Edition) (n : ℕ) (w : Place) (fs : List Bytes) (next : List Line) where
    pub verdict-t : k ≡ key_of 0 (bytes "t") → (x : Result (Unit {0}) Refusal) → x ≡ verdict_told (line (not (is_blank (get_or fs 0 [])) && not (is_blank (get_or fs 2 []))) (allowed (get_or fs 0 []) && (allowed (get_or fs 1 []) && allowed (get_or fs 2 [])))) → x ≡ verdict_told (verdict_of ed n w (f ∷ fs) next)
    unfolding verdict_of is_plain_pattern is_plain_expression same small tells
    verdict-t t x p = rw (is (bytes "t") refl t) p

    pub verdict-term : k ≡ key_of 0 (bytes "term") → (x : Result (Unit {0}) Refusal) → x ≡ verdict_told (line true (allowed (get_or fs 0 []))) → x ≡ verdict_told (verdict_of ed n w (f ∷ fs) next)
    unfolding verdict_of is_plain_pattern is_plain_expression same small tells
    verdict-term t x p = rw (is (bytes "term") refl t) p

    pub verdict-bound : k ≡ key_of 0 (bytes "bound") → (x : Result (Unit {0}) Refusal) → x ≡ verdict_told (line true (is_var1 (get_or fs 0 []))) → x ≡ verdict_told (verdict_of ed n w (f ∷ fs) next)
    unfolding verdict_of is_plain_pattern is_plain_expression same small tells
    verdict-bound t x p = rw (is (bytes "bound") refl t) p

    pub verdict-bgp : k ≡ key_of 0 (bytes "bgp") → (x : Result (Unit {0}) Refusal) → x ≡ verdict_told (line (free w) true) → x ≡ verdict_told (verdict_of ed n w (f ∷ fs) next)
    unfolding verdict_of is_plain_pattern is_plain_expression same small tells
    verdict-bgp t x p = rw (is (bytes "bgp") refl t) p

    pub verdict-join : k ≡ key_of 0 (bytes "join") → (x : Result (Unit {0}) Refusal) → x ≡ verdict_told (line (free w) true) → x ≡ verdict_told (verdict_of ed n w (f ∷ fs) next)
    unfolding verdict_of is_plain_pattern is_plain_expression same small tells
    verdict-join t x p = rw (is (bytes "join") refl t) p

    pub verdict-leftjoin : k ≡ key_of 0 (bytes "leftjoin") → (x : Result (Unit {0}) Refusal) → x ≡ verdict_told (line (free w) true) → x ≡ verdict_told (verdict_of ed n w (f ∷ fs) next)
    unfolding verdict_of is_plain_pattern is_plain_expression same small tells
    verdict-leftjoin t x p = rw (is (bytes "leftjoin") refl t) p

    pub verdict-filter : k ≡ key_of 0 (bytes "filter") → (x : Result (Unit {0}) Refusal) → x ≡ verdict_told (line (free w) true) → x ≡ verdict_told (verdict_of ed n w (f ∷ fs) next)
    unfolding verdict_of is_plain_pattern is_plain_expression same small tells
    verdict-filter t x p = rw (is (bytes "filter") refl t) p

    pub verdict-union : k ≡ key_of 0 (bytes "union") → (x : Result (Unit {0}) Refusal) → x ≡ verdict_told (line (free w) true) → x ≡ verdict_told (verdict_of ed n w (f ∷ fs) next)
    unfolding verdict_of is_plain_pattern is_plain_expression same small tells
    verdict-union t x p = rw (is (bytes "union") refl t) p

    pub verdict-graph : k ≡ key_of 0 (bytes "graph") → (x : Result (Unit {0}) Refusal) → x ≡ verdict_told (line (free w) (allowed (get_or fs 0 []))) → x ≡ verdict_told (verdict_of ed n w (f ∷ fs) next)
    unfolding verdict_of is_plain_pattern is_plain_expression same small tells
    verdict-graph t x p = rw (is (bytes "graph") refl t) p

    pub verdict-or : k ≡ key_of 0 (bytes "or") → Ok tt ≡ verdict_told (verdict_of ed n w (f ∷ fs) next)
    unfolding verdict_told verdict_of is_plain_pattern is_plain_expression same small tells
    verdict-or t = rw (is (bytes "or") refl t)

    pub verdict-and : k ≡ key_of 0 (bytes "and") → Ok tt ≡ verdict_told (verdict_of ed n w (f ∷ fs) next)
    unfolding verdict_told verdict_of is_plain_pattern is_plain_expression same small tells
    verdict-and t = rw (is (bytes "and") refl t)

    pub verdict-eq : k ≡ key_of 0 (bytes "eq") → Ok tt ≡ verdict_told (verdict_of ed n w (f ∷ fs) next)
    unfolding verdict_told verdict_of is_plain_pattern is_plain_expression same small tells
    verdict-eq t = rw (is (bytes "eq") refl t)

    pub verdict-same : k ≡ key_of 0 (bytes "same") → Ok tt ≡ verdict_told (verdict_of ed n w (f ∷ fs) next)
    unfolding verdict_told verdict_of is_plain_pattern is_plain_expression same small tells
    verdict-same t = rw (is (bytes "same") refl t)

    pub verdict-not : k ≡ key_of 0 (bytes "not") → Ok tt ≡ verdict_told (verdict_of ed n w (f ∷ fs) next)
    unfolding verdict_told verdict_of is_plain_pattern is_plain_expression same small tells
    verdict-not t = rw (is (bytes "not") refl t)

    pub verdict-asc : k ≡ key_of 0 (bytes "asc") → Ok tt ≡ verdict_told (verdict_of ed n w (f ∷ fs) next)
    unfolding verdict_told verdict_of is_plain_pattern is_plain_expression same small tells
    verdict-asc t = rw (is (bytes "asc") refl t)

    pub verdict-desc : k ≡ key_of 0 (bytes "desc") → Ok tt ≡ verdict_told (verdict_of ed n w (f ∷ fs) next)
    unfolding verdict_told verdict_of is_plain_pattern is_plain_expression same small tells
    verdict-desc t = rw (is (bytes "desc") refl t)

    pub verdict-exists : k ≡ key_of 0 (bytes "exists") → (x : Result (Unit {0}) Refusal) → x ≡ verdict_told (line (is11 ed) true) → x ≡ verdict_told (verdict_of ed n w (f ∷ fs) next)
    unfolding verdict_of is_plain_pattern is_plain_expression same small tells
    verdict-exists t x p = rw (is (bytes "exists") refl t) p

    pub verdict-minus : k ≡ key_of 0 (bytes "minus") → (x : Result (Unit {0}) Refusal) → x ≡ verdict_told (line (free w && is11 ed) true) → x ≡ verdict_told (verdict_of ed n w (f ∷ fs) next)
    unfolding verdict_of is_plain_pattern is_plain_expression same small tells
    verdict-minus t x p = rw (is (bytes "minus") refl t) p

    pub verdict-values : k ≡ key_of 0 (bytes "values") → (x : Result (Unit {0}) Refusal) → x ≡ verdict_told (line (free w && is11 ed) true) → x ≡ verdict_told (verdict_of ed n w (f ∷ fs) next)
    unfolding verdict_of is_plain_pattern is_plain_expression same small tells
    verdict-values t x p = rw (is (bytes "values") refl t) p

    pub verdict-cols : k ≡ key_of 0 (bytes "cols") → (x : Result (Unit {0}) Refusal) → x ≡ verdict_told (line (different fs) (all_allowed fs)) → x ≡ verdict_told (verdict_of ed n w (f ∷ fs) next)
    unfolding verdict_of is_plain_pattern is_plain_expression same small tells
    verdict-cols t x p = rw (is (bytes "cols") refl t) p

    pub verdict-row : k ≡ key_of 0 (bytes "row") → (x : Result (Unit {0}) Refusal) → x ≡ verdict_told (line true (all_cells fs)) → x ≡ verdict_told (verdict_of ed n w (f ∷ fs) next)
    unfolding verdict_of is_plain_pattern is_plain_expression same small tells
    verdict-row t x p = rw (is (bytes "row") refl t) p

    pub verdict-extend : k ≡ key_of 0 (bytes "extend") → (x : Result (Unit {0}) Refusal) → x ≡ verdict_told (line (free w && (is11 ed && not (sought_tree n (get_or fs 0 []) true next).found)) (is_var1 (get_or fs 0 []))) → x ≡ verdict_told (verdict_of ed n w (f ∷ fs) next)
    unfolding verdict_of is_plain_pattern is_plain_expression same small tells
    verdict-extend t x p = rw (is (bytes "extend") refl t) p

    pub verdict-project : k ≡ key_of 0 (bytes "project") → (x : Result (Unit {0}) Refusal) → x ≡ verdict_told (line (takes_project ed w && nonempty fs) (all_allowed fs)) → x ≡ verdict_told (verdict_of ed n w (f ∷ fs) next)
    unfolding verdict_of is_plain_pattern is_plain_expression same small tells
    verdict-project t x p = rw (is (bytes "project") refl t) p

    pub verdict-orderby : k ≡ key_of 0 (bytes "orderby") → (x : Result (Unit {0}) Refusal) → x ≡ verdict_told (line (takes_order w && is_some (number_in (get_or fs 0 []))) true) → x ≡ verdict_told (verdict_of ed n w (f ∷ fs) next)
    unfolding verdict_of is_plain_pattern is_plain_expression same small tells
    verdict-orderby t x p = rw (is (bytes "orderby") refl t) p

    pub verdict-distinct : k ≡ key_of 0 (bytes "distinct") → (x : Result (Unit {0}) Refusal) → x ≡ verdict_told (line (takes_distinct ed w) true) → x ≡ verdict_told (verdict_of ed n w (f ∷ fs) next)
    unfolding verdict_of is_plain_pattern is_plain_expression same small tells
    verdict-distinct t x p = rw (is (bytes "distinct") refl t) p

    pub verdict-reduced : k ≡ key_of 0 (bytes "reduced") → (x : Result (Unit {0}) Refusal) → x ≡ verdict_told (line (takes_distinct ed w) true) → x ≡ verdict_told (verdict_of ed n w (f ∷ fs) next)
    unfolding verdict_of is_plain_pattern is_plain_expression same small tells
    verdict-reduced t x p = rw (is (bytes "reduced") refl t) p

    pub verdict-slice : k ≡ key_of 0 (bytes "slice") → (x : Result (Unit {0}) Refusal) → x ≡ verdict_told (line (begins ed w) true) → x ≡ verdict_told (verdict_of ed n w (f ∷ fs) next)
    unfolding verdict_of is_plain_pattern is_plain_expression same small tells
    verdict-slice t x p = rw (is (bytes "slice") refl t) p

    pub verdict-query : k ≡ key_of 0 (bytes "query") → (x : Result (Unit {0}) Refusal) → x ≡ verdict_told (line (same (get_or fs 0 []) (bytes "select") && (same (get_or fs 1 []) (bytes "-") && same (get_or fs 2 []) (bytes "-"))) true) → x ≡ verdict_told (verdict_of ed n w (f ∷ fs) next)
    unfolding verdict_of is_plain_pattern is_plain_expression same small tells
    verdict-query t x p = rw (is (bytes "query") refl t) p

    pub verdict-other : (k ≡ key_of 0 (bytes "t") → ⊥) → (k ≡ key_of 0 (bytes "term") → ⊥) → (k ≡ key_of 0 (bytes "bound") → ⊥) → (k ≡ key_of 0 (bytes "bgp") → ⊥) → (k ≡ key_of 0 (bytes "join") → ⊥) → (k ≡ key_of 0 (bytes "leftjoin") → ⊥) → (k ≡ key_of 0 (bytes "filter") → ⊥) → (k ≡ key_of 0 (bytes "union") → ⊥) → (k ≡ key_of 0 (bytes "graph") → ⊥) → (k ≡ key_of 0 (bytes "or") → ⊥) → (k ≡ key_of 0 (bytes "and") → ⊥) → (k ≡ key_of 0 (bytes "eq") → ⊥) → (k ≡ key_of 0 (bytes "same") → ⊥) → (k ≡ key_of 0 (bytes "not") → ⊥) → (k ≡ key_of 0 (bytes "asc") → ⊥) → (k ≡ key_of 0 (bytes "desc") → ⊥) → (k ≡ key_of 0 (bytes "exists") → ⊥) → (k ≡ key_of 0 (bytes "minus") → ⊥) → (k ≡ key_of 0 (bytes "values") → ⊥) → (k ≡ key_of 0 (bytes "cols") → ⊥) → (k ≡ key_of 0 (bytes "row") → ⊥) → (k ≡ key_of 0 (bytes "extend") → ⊥) → (k ≡ key_of 0 (bytes "project") → ⊥) → (k ≡ key_of 0 (bytes "orderby") → ⊥) → (k ≡ key_of 0 (bytes "distinct") → ⊥) → (k ≡ key_of 0 (bytes "reduced") → ⊥) → (k ≡ key_of 0 (bytes "slice") → ⊥) → (k ≡ key_of 0 (bytes "query") → ⊥) → Err Unsayable ≡ verdict_told (verdict_of ed n w (f ∷ fs) next)
    unfolding verdict_told verdict_of is_plain_pattern is_plain_expression small tells
    verdict-other a0 a1 a2 a3 a4 a5 a6 a7 a8 a9 a10 a11 a12 a13 a14 a15 a16 a17 a18 a19 a20 a21 a22 a23 a24 a25 a26 a27 =
        rw (no (bytes "t") refl a0, no (bytes "term") refl a1, no (bytes "bound") refl a2, no (bytes "bgp") refl a3, no (bytes "join") refl a4, no (bytes "leftjoin") refl a5, no (bytes "filter") refl a6, no (bytes "union") refl a7, no (bytes "graph") refl a8, no (bytes "or") refl a9, no (bytes "and") refl a10, no (bytes "eq") refl a11, no (bytes "same") refl a12, no (bytes "not") refl a13, no (bytes "asc") refl a14, no (bytes "desc") refl a15, no (bytes "exists") refl a16, no (bytes "minus") refl a17, no (bytes "values") refl a18, no (bytes "cols") refl a19, no (bytes "row") refl a20, no (bytes "extend") refl a21, no (bytes "project") refl a22, no (bytes "orderby") refl a23, no (bytes "distinct") refl a24, no (bytes "reduced") refl a25, no (bytes "slice") refl a26, no (bytes "query") refl a27)
