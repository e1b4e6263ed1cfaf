-- What stands below the lines of a word begins with its first group. Assumes nothing.
use Prim.Native.Nat.{ℕ, zero, suc, ◌/◌, ◌<◌}
use mathlib.Core.Path.{◌≡◌, refl}
use mathlib.Core.Bool.{true, ◌&&◌}
use mathlib.Core.List.{List, [], ◌∷◌}
use native.Mathlib.Omega.{arith}
use lib.Dec.{ltb}
use lib.ListN.{get_or}
use borrow.Author.Tests.{ltb-true}
use Rattle.text.proofs.Basics.{and_left, and_right}
use Rattle.words.specs.bridge.Words.{code_at, is_front, all_front}

pub front_at : (ws : List (List ℕ)) (k : ℕ) → all_front ws ≡ true → (code_at ws k / 4294967296 < 134217728) × (is_front (code_at ws k / 4294967296) ≡ true)
unfolding all_front
front_at [] k h = (omega arith, refl)
front_at (w ∷ ws) zero h =
    let rest = and_right (ltb (get_or w 1 0 / 4294967296) 134217728) (is_front (get_or w 1 0 / 4294967296) && all_front ws) h in
    (ltb-true (get_or w 1 0 / 4294967296) 134217728 (and_left (ltb (get_or w 1 0 / 4294967296) 134217728) (is_front (get_or w 1 0 / 4294967296) && all_front ws) h), and_left (is_front (get_or w 1 0 / 4294967296)) (all_front ws) rest)
front_at (w ∷ ws) (suc k) h = front_at ws k (and_right (is_front (get_or w 1 0 / 4294967296)) (all_front ws) (and_right (ltb (get_or w 1 0 / 4294967296) 134217728) (is_front (get_or w 1 0 / 4294967296) && all_front ws) h))
