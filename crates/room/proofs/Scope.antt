-- What scope needs: one byte more than its tree, and 7 bytes for an empty file. Assumes nothing.
use Prim.Native.Nat.{ℕ, suc, ◌+◌, ◌≤◌}
use mathlib.Core.Path.{sym, ap, subst, ◌∙◌}
use mathlib.Core.Bool.{Bool, cond}
use mathlib.Core.List.{List, [], ◌∷◌}
use native.Mathlib.Omega.{arith}
use lib.ListN.{length}
use Rattle.text.specs.Text.{Bytes}
use Rattle.text.specs.Word.{bytes}
use Rattle.text.proofs.Basics.{and_left}
use Rattle.algebra.specs.Tree.{Pattern}
use Rattle.algebra.specs.Layout.{put}
use Rattle.algebra.specs.Texts.{read_tree}
use Rattle.algebra.specs.Valid.{mem}
use Rattle.algebra.proofs.Theorem.{tree-exactly}
use Rattle.answers.specs.Outcome.{written}
use Rattle.scoping.specs.Variables.{variables_in_pattern}
use Rattle.scoping.specs.bridge.Places.{Mark, visible, covered, silent, Place, Scope, counts, in_scope, hidden, names_at, names_of, places, visible_names, hidden_names}
use Rattle.scoping.specs.Numbering.{by_place, in_scope_by_place, hidden_by_place}
use Rattle.scoping.proofs.Sets.{mem-keep}
use Rattle.scoping.proofs.Walked.{visible-in-scope, covered-hidden}
use Rattle.scoping.proofs.Numbered.{in-scope-once, hidden-once}
use Rattle.surveying.specs.Scope.{scope_text, scope_outcome}
use Rattle.surveying.specs.bridge.AsIs.{scope_as_is}
use Rattle.surveying.proofs.Given.{scope-given, scope-empty}
use Rattle.room.specs.Room.{scope_room}
use Rattle.room.proofs.Enough.{Enough, then-enough, enough-more}
use Rattle.walking.proofs.Sizes.{width, size, text-size, tree-size}
use Rattle.room.proofs.Names.{once-width}
use Rattle.room.proofs.Spread.{spread, spread-size}

-- a place counts for one of the two sets, or for none
sets-apart : (xs : List Place) → width (names_at in_scope xs) + width (names_at hidden xs) ≤ spread xs
unfolding names_at names_of width
sets-apart [] = omega arith
sets-apart (x ∷ xs) = go x.mark (sets-apart xs)
  where
    one : Scope → Mark → ℕ
    one k m = width (cond (counts k m) (x.name ∷ names_at k xs) (names_at k xs))

    go : (m : Mark) → width (names_at in_scope xs) + width (names_at hidden xs) ≤ spread xs → one in_scope m + one hidden m ≤ suc (length x.name) + spread xs
    go visible h = omega arith
    go covered h = omega arith
    go silent h = omega arith

in-scope-width : (p : Pattern) → width (in_scope_by_place p) ≤ width (visible_names p)
unfolding in_scope_by_place
in-scope-width p = once-width (in_scope_by_place p) (visible_names p) (in-scope-once p) λ v h.
    let f : Bytes → Bool = λ w. mem w (variables_in_pattern p).in_scope in
    visible-in-scope p v ∙ and_left (f v) (mem v (by_place p)) (sym (mem-keep f v (by_place p)) ∙ h)

hidden-width : (p : Pattern) → width (hidden_by_place p) ≤ width (hidden_names p)
unfolding hidden_by_place
hidden-width p = once-width (hidden_by_place p) (hidden_names p) (hidden-once p) λ v h.
    let f : Bytes → Bool = λ w. mem w (variables_in_pattern p).hidden in
    covered-hidden p v ∙ and_left (f v) (mem v (by_place p)) (sym (mem-keep f v (by_place p)) ∙ h)

scope-size : (p : Pattern) → length (scope_text p) ≤ size (put p []) + 1
unfolding scope_text size width visible_names hidden_names
scope-size p =
    omega (arith, text-size ((bytes "in" ∷ in_scope_by_place p) ∷ (bytes "hid" ∷ hidden_by_place p) ∷ []), in-scope-width p, hidden-width p, sets-apart (places p visible), spread-size p visible [])

-- of a text as it stands, one byte more than the text
as-it-stands : (tree : Bytes) → Enough (length tree + 1) (scope_as_is tree)
unfolding scope_as_is Enough
as-it-stands tree = then-enough (length tree + 1) (read_tree tree) (λ p. written (scope_text p)) λ p e.
    omega (arith, scope-size p, tree-size p, ap length ((tree-exactly tree p).0 e).0)

-- of an empty file, the two words
pub scope-enough : (tree : Bytes) → Enough (scope_room (length tree)) (scope_outcome tree)
unfolding scope_room Enough
scope-enough [] = subst (Enough 7) (sym scope-empty) (omega arith)
scope-enough (b ∷ s) = subst (Enough (scope_room (length (b ∷ s)))) (sym (scope-given (b ∷ s))) (enough-more (length (b ∷ s) + 1) (length (b ∷ s) + 7) (scope_as_is (b ∷ s)) (omega arith) (as-it-stands (b ∷ s)))
