-- What a line asks for: its groups, their amounts, and the levels below it. Assumes nothing.
use Prim.Native.Nat.{ℕ, zero, suc, ◌-◌, ◌/◌, ◌%◌}
use mathlib.Core.Path.{◌≡◌, refl, sym, ◌∙◌, ap}
use mathlib.Core.List.{List, [], ◌∷◌, ◌++◌, append-nil}
use mathlib.Core.Bool.{Bool, true, false}
use native.Mathlib.Numerals.{sub-one}
use lib.ListN.{get_or, replicate}
use Rattle.algebra.specs.bridge.Table.{Sort, Below, always, given, more, opens}
use Rattle.algebra.specs.bridge.Machine.{Want, want, amount_of, wants}
use Rattle.words.specs.bridge.Code.{sort_at, group_of, groups_in}
use Rattle.lines.specs.bridge.Says.{below}
use Rattle.lines.specs.bridge.Below.{amount_in, groups}

-- ---- amounts

pub amount-by : (base from j first second : ℕ) → from ≡ j → amount_in base j first second ≡ amount_in base from first second
amount-by base from j first second e = ap (λ (f : ℕ). amount_in base f first second) (sym e)

pub amount-none : (base from first second : ℕ) → (from ≡ 0 → ⊥) → (from ≡ 1 → ⊥) → (from ≡ 2 → ⊥) → (from ≡ 3 → ⊥) → (from ≡ 4 → ⊥) → 0 ≡ amount_in base from first second
amount-none base zero x y a b c d e = absurd (a refl)
amount-none base (suc zero) x y a b c d e = absurd (b refl)
amount-none base (suc (suc zero)) x y a b c d e = absurd (c refl)
amount-none base (suc (suc (suc zero))) x y a b c d e = absurd (d refl)
amount-none base (suc (suc (suc (suc zero)))) x y a b c d e = absurd (e refl)
amount-none base (suc (suc (suc (suc (suc n))))) x y a b c d e = refl

-- no number of groups, no groups
pub groups_none : (k level first second : ℕ) → groups k 0 level first second ≡ []
unfolding groups
groups_none zero level first second = refl
groups_none (suc k) level first second = groups_none k level first second

-- ---- levels

pub below-zero : (sort level : ℕ) (t : Bool) → t ≡ opens (sort_at sort) → t ≡ true → level ≡ 0 → 0 ≡ below sort level
below-zero sort level t e q z = rw (sym e ∙ q, z)

pub below_one : (sort level : ℕ) (t : Bool) → t ≡ opens (sort_at sort) → t ≡ true → level - 1 ≡ below sort level
below_one sort level t e q = rw (sym e ∙ q) (sub-one level)

pub below-same : (sort level : ℕ) (t : Bool) → t ≡ opens (sort_at sort) → t ≡ false → level ≡ below sort level
below-same sort level t e q = rw (sym e ∙ q)

-- ---- what a line asks for, as groups

module _ (d : ℕ) (cs : List ℕ) where
  wants-cons : (b : Below) (bs : List Below) → wants d cs (b ∷ bs) ≡ replicate (amount_of b.amount cs) (want b.sort d (get_or cs 0 0)) ++ wants d cs bs
  wants-cons b [] = sym (append-nil _)
  wants-cons b (c ∷ bs) = refl

  below-group : (b f : ℕ) (s : Sort) (bs : List Below) → wants d cs (group_of b f s ++ bs) ≡ replicate (amount_in b f (get_or cs 0 0) (get_or cs 1 0)) (want s d (get_or cs 0 0)) ++ wants d cs bs
  below-group zero zero s bs = refl
  below-group (suc b) zero s bs = wants-cons (record { amount = always (suc b); sort = s }) bs
  below-group b (suc zero) s bs = wants-cons (record { amount = given 0; sort = s }) bs
  below-group b (suc (suc zero)) s bs = wants-cons (record { amount = given 1; sort = s }) bs
  below-group b (suc (suc (suc zero))) s bs = wants-cons (record { amount = more 0 b; sort = s }) bs
  below-group b (suc (suc (suc (suc zero)))) s bs = wants-cons (record { amount = more 1 b; sort = s }) bs
  below-group b (suc (suc (suc (suc (suc f))))) s bs = refl

  pub below-groups : (k n : ℕ) → wants d cs (groups_in k n) ≡ groups k n d (get_or cs 0 0) (get_or cs 1 0)
  unfolding groups_in groups
  below-groups zero n = refl
  below-groups (suc k) n =
      below-group (n % 4) (n / 4 % 8) (sort_at (n / 32 % 16)) (groups_in k (n / 512))
      ∙ ap (λ (ws : List Want). replicate (amount_in (n % 4) (n / 4 % 8) (get_or cs 0 0) (get_or cs 1 0)) (want (sort_at (n / 32 % 16)) d (get_or cs 0 0)) ++ ws) (below-groups k (n / 512))
