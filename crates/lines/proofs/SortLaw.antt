-- Which sorts of lines are noted, and which open a level, by their numbers. Assumes nothing.
use Prim.Native.Nat.{ℕ, zero, suc, ◌≤◌, ◌<◌}
use mathlib.Core.Path.{◌≡◌, refl, sym}
use mathlib.Core.Bool.{true, false}
use native.Mathlib.Omega.{arith}
use lib.Dec.{eqb}
use Rattle.algebra.specs.bridge.Table.{opens}
use Rattle.scoping.specs.bridge.Spots.{noted}
use Rattle.words.specs.bridge.Code.{sort_at}

-- sorts behind those of a tree's lines
pub high-none : (k : ℕ) → noted (sort_at (suc (suc (suc (suc (suc (suc (suc k)))))))) ≡ false
high-none zero = refl
high-none (suc zero) = refl
high-none (suc (suc zero)) = refl
high-none (suc (suc (suc zero))) = refl
high-none (suc (suc (suc (suc zero)))) = refl
high-none (suc (suc (suc (suc (suc k))))) = refl

-- the sorts that are noted, by their numbers
pub noted-low : (s : ℕ) → s < 2 → false ≡ noted (sort_at s)
noted-low zero h = refl
noted-low (suc zero) h = refl
noted-low (suc (suc k)) h = absurd (omega arith)

pub noted-rows : (s : ℕ) → s ≡ 4 → false ≡ noted (sort_at s)
noted-rows s e = rw e refl

pub noted-high : (s : ℕ) → 6 < s → false ≡ noted (sort_at s)
noted-high (suc (suc (suc (suc (suc (suc (suc k))))))) h = sym (high-none k)
noted-high zero h = absurd (omega arith)
noted-high (suc zero) h = absurd (omega arith)
noted-high (suc (suc zero)) h = absurd (omega arith)
noted-high (suc (suc (suc zero))) h = absurd (omega arith)
noted-high (suc (suc (suc (suc zero)))) h = absurd (omega arith)
noted-high (suc (suc (suc (suc (suc zero))))) h = absurd (omega arith)
noted-high (suc (suc (suc (suc (suc (suc zero)))))) h = absurd (omega arith)

pub noted-is : (s : ℕ) → 2 ≤ s → (s ≡ 4 → ⊥) → s ≤ 6 → true ≡ noted (sort_at s)
noted-is zero l n h = absurd (omega arith)
noted-is (suc zero) l n h = absurd (omega arith)
noted-is (suc (suc zero)) l n h = refl
noted-is (suc (suc (suc zero))) l n h = refl
noted-is (suc (suc (suc (suc zero)))) l n h = absurd (n refl)
noted-is (suc (suc (suc (suc (suc zero))))) l n h = refl
noted-is (suc (suc (suc (suc (suc (suc zero)))))) l n h = refl
noted-is (suc (suc (suc (suc (suc (suc (suc k))))))) l n h = absurd (omega arith)

-- the sorts that open a level, by their numbers
pub opens-low : (s : ℕ) → s < 2 → false ≡ opens (sort_at s)
opens-low zero h = refl
opens-low (suc zero) h = refl
opens-low (suc (suc k)) h = absurd (omega arith)

pub opens-tree : (s : ℕ) → 2 ≤ s → s < 4 → true ≡ opens (sort_at s)
opens-tree zero l h = absurd (omega arith)
opens-tree (suc zero) l h = absurd (omega arith)
opens-tree (suc (suc zero)) l h = refl
opens-tree (suc (suc (suc zero))) l h = refl
opens-tree (suc (suc (suc (suc k)))) l h = absurd (omega arith)

pub opens-set : (s : ℕ) → s ≡ 8 → true ≡ opens (sort_at s)
opens-set s e = rw e refl

pub opens-part : (s : ℕ) → s ≤ 11 → 4 ≤ s → (s ≡ 8 → ⊥) → eqb s 11 ≡ opens (sort_at s)
opens-part zero m l n = absurd (omega arith)
opens-part (suc zero) m l n = absurd (omega arith)
opens-part (suc (suc zero)) m l n = absurd (omega arith)
opens-part (suc (suc (suc zero))) m l n = absurd (omega arith)
opens-part (suc (suc (suc (suc zero)))) m l n = refl
opens-part (suc (suc (suc (suc (suc zero))))) m l n = refl
opens-part (suc (suc (suc (suc (suc (suc zero)))))) m l n = refl
opens-part (suc (suc (suc (suc (suc (suc (suc zero))))))) m l n = refl
opens-part (suc (suc (suc (suc (suc (suc (suc (suc zero)))))))) m l n = absurd (n refl)
opens-part (suc (suc (suc (suc (suc (suc (suc (suc (suc zero))))))))) m l n = refl
opens-part (suc (suc (suc (suc (suc (suc (suc (suc (suc (suc zero)))))))))) m l n = refl
opens-part (suc (suc (suc (suc (suc (suc (suc (suc (suc (suc (suc zero))))))))))) m l n = refl
opens-part (suc (suc (suc (suc (suc (suc (suc (suc (suc (suc (suc (suc k)))))))))))) m l n = absurd (omega arith)
