-- The new name of a variable in a merge takes at most three times its bytes: its number has four digits at most. Assumes nothing.
use Prim.Native.Nat.{ℕ, suc, ◌+◌, ◌*◌, ◌≤◌, ◌<◌}
use mathlib.Core.Path.{◌≡◌, refl, ap}
use mathlib.Core.Bool.{Bool, true, false, cond}
use mathlib.Core.List.{List, [], ◌∷◌, ◌++◌}
use mathlib.Core.Option.{some}
use native.Mathlib.Omega.{arith}
use lib.ListN.{length, length-append}
use Rattle.text.specs.Text.{Bytes, same}
use Rattle.text.specs.Field.{is_var}
use Rattle.text.proofs.Basics.{same-eq}
use Rattle.algebra.specs.Tree.{Pattern, project}
use Rattle.algebra.specs.Tally.{bounds}
use Rattle.scoping.specs.Label.{label, base, generated, prefix_j}
use Rattle.scoping.specs.Standardize.{or_self}
use Rattle.scoping.specs.Numbering.{by_place, numbered}
use Rattle.scoping.specs.bridge.Pushes.{Push, a_push, lookup, contains, pushed, pushes, all_pushes, new_name}
use Rattle.scoping.specs.Premises.{columns_at, side_name}
use Rattle.scoping.proofs.Agree.{renamed-by-pushes}
use Rattle.scoping.proofs.Theorem.{columns-length}
use Rattle.scoping.proofs.NewVariables.{numbered-few}
use Rattle.room.proofs.Digits.{four-digits}
use Rattle.walking.proofs.Fields.{variable-long}

generated-short : (prefix n : ℕ) → n < 10000 → length (generated prefix n) ≤ 6
unfolding generated
generated-short prefix n h = omega (arith, four-digits n h)

-- every number has four digits at most
abbrev Few : List Push → Type 0
Few [] = Unit {0}
Few (p ∷ ps) = (p.number < 10000) × Few ps

looked-up : (w : Bytes) (ps : List Push) → 2 ≤ length w → Few ps → suc (length (or_self (lookup w ps) w)) ≤ 3 * suc (length w)
unfolding lookup
looked-up w [] h f = omega arith
looked-up w (p ∷ ps) h f = go (same w (p.base ++ label)) refl (same w p.base) (looked-up w ps h f.1)
  where
    go : (s : Bool) → same w (p.base ++ label) ≡ s → (t : Bool) → suc (length (or_self (lookup w ps) w)) ≤ 3 * suc (length w)
        → suc (length (or_self (cond s (some (generated p.prefix p.number ++ label)) (cond t (some (generated p.prefix p.number)) (lookup w ps))) w)) ≤ 3 * suc (length w)
    go true e t r = omega (arith, ap length (same-eq w (p.base ++ label) e), length-append p.base label, length-append (generated p.prefix p.number) label, generated-short p.prefix p.number f.0)
    go false e true r = omega (arith, generated-short p.prefix p.number f.0)
    go false e false r = r

pushed-few : (prefix c : ℕ) (v : Bytes) (ps : List Push) → c < 10000 → Few ps → Few (pushed prefix c v ps)
unfolding pushed
pushed-few prefix c v ps h f = go (contains (base v) ps)
  where
    go : (t : Bool) → Few (cond t ps (a_push (base v) prefix c ∷ ps))
    go true = f
    go false = (h, f)

pushes-few : (prefix c : ℕ) (vs : List Bytes) (ps : List Push) → c + length vs ≤ 10000 → Few ps → Few (pushes prefix c vs ps)
unfolding pushes
pushes-few prefix c [] ps h f = f
pushes-few prefix c (v ∷ vs) ps h f = pushes-few prefix (suc c) vs (pushed prefix c v ps) (omega arith) (pushed-few prefix c v ps (omega arith) f)

pub side-name-short : (prefix : ℕ) (cs : List Bytes) (p : Pattern) (is : List ℕ) → length (by_place (project cs p)) ≤ 1024 → length is ≤ bounds.entries
    → (w : Bytes) → is_var w ≡ true → suc (length (side_name prefix cs p is w)) ≤ 3 * suc (length w)
unfolding side_name new_name all_pushes
side-name-short prefix cs p is a b w h =
    let vs = numbered (project cs p) in
    let js = columns_at cs is in
    let few : Few (all_pushes prefix vs js) = pushes-few prefix 0 vs (pushes prefix_j 0 js []) (omega (arith, numbered-few (project cs p))) (pushes-few prefix_j 0 js [] (omega (arith, columns-length cs is)) tt) in
    omega (arith, looked-up w (all_pushes prefix vs js) (variable-long w h) few, ap length (renamed-by-pushes prefix vs js w))
