-- The mask of a list of positions has as many ones as the list has entries exactly if no position stands twice. Assumes nothing.
use Prim.Native.Nat.{ℕ, zero, suc, ◌+◌, ◌≤◌, ◌<◌}
use mathlib.Core.Path.{◌≡◌, refl, sym, ap, ◌∙◌}
use mathlib.Core.List.{List, [], ◌∷◌}
use mathlib.Core.Bool.{Bool, true, false, not, ◌&&◌, ◌||◌, true≢false, false≢true}
use native.Mathlib.Omega.{arith}
use lib.ListN.{length}
use lib.Dec.{eqb}
use lib.Count.{ones}
use borrow.Author.Tests.{eqb-true, eqb-false}
use Rattle.text.specs.Text.{Bytes}
use Rattle.scoping.specs.Sets.{any}
use Rattle.scoping.specs.Premises.{inside, different_positions}
use Rattle.scoping.proofs.Positions.{inside-first, inside-rest}
use Rattle.merging.specs.Names.{from, is_at}
use Rattle.mask.specs.bridge.Mask.{bit_of, count_of}
use Rattle.mask.proofs.Bits.{mask-ones}
use Rattle.columns.proofs.Places.{bits_from, bits-behind, none-set}
use Rattle.sides.specs.bridge.Side.{mask_at}

-- how many of n places from i on are among the positions
abbrev many : List ℕ → ℕ → ℕ → ℕ
many ps i n = count_of (bits_from ps i n)

-- one position more counts at its place unless it is there
one_more : (p : ℕ) (ps : List ℕ) (i n : ℕ) → i ≤ p → p < i + n → many (p ∷ ps) i n ≡ bit_of (not (is_at p ps)) + many ps i n
unfolding from is_at any
one_more p ps i zero h k = absurd (omega arith)
one_more p ps i (suc n) h k = go (eqb i p) refl (λ (l : suc i ≤ p). one_more p ps (suc i) n l (omega arith))
  where
    set : (t : Bool) (m m' : ℕ) → m ≡ m' → 1 + m ≡ bit_of (not t) + (bit_of t + m')
    set true m m' e = omega arith
    set false m m' e = omega arith

    go : (t : Bool) → eqb i p ≡ t → (suc i ≤ p → many (p ∷ ps) (suc i) n ≡ bit_of (not (is_at p ps)) + many ps (suc i) n)
        → bit_of (t || is_at i ps) + many (p ∷ ps) (suc i) n ≡ bit_of (not (is_at p ps)) + (bit_of (is_at i ps) + many ps (suc i) n)
    go true e f =
        let q : i ≡ p = eqb-true i p e in
        set (is_at p ps) (many (p ∷ ps) (suc i) n) (many ps (suc i) n) (ap count_of (bits-behind p ps (suc i) n (omega arith)))
        ∙ ap (λ (j : ℕ). bit_of (not (is_at p ps)) + (bit_of (is_at j ps) + many ps (suc i) n)) (let z : p ≡ i = omega arith in z)
    go false e f = let q = eqb-false i p e in let w = f (omega arith) in omega arith

-- no position, no one
none-at : (n : ℕ) → many [] 0 n ≡ 0
unfolding ones
none-at n = sym (mask-ones (bits_from [] 0 n)) ∙ ap ones (none-set n 0)

-- never more ones than positions, and fewer exactly if one stands twice
pub record Ones (m l : ℕ) (different : Bool) : Type 0 where
  pub few : m ≤ l
  pub all : different ≡ true → m ≡ l
  pub less : different ≡ false → m < l

counted : (cs : List Bytes) (ps : List ℕ) → inside cs ps ≡ true → Ones (many ps 0 (length cs)) (length ps) (different_positions ps)
unfolding different_positions is_at
counted cs [] h = record { few = let z = none-at (length cs) in omega arith; all = λ e. none-at (length cs); less = λ e. absurd (true≢false e) }
counted cs (p ∷ ps) h = let f = inside-first cs p ps h in
    rw (one_more p ps 0 (length cs) (omega arith) (omega arith)) (step (is_at p ps) (counted cs ps (inside-rest cs p ps h)))
  where
    step : {m l : ℕ} {d : Bool} (t : Bool) → Ones m l d → Ones (bit_of (not t) + m) (suc l) (not t && d)
    step true o = record { few = let z = o.few in omega arith; all = λ e. absurd (false≢true e); less = λ e. let z = o.few in omega arith }
    step false o = record { few = let z = o.few in omega arith; all = λ e. let z = o.all e in omega arith; less = λ e. let z = o.less e in omega arith }

-- of the mask
pub mask-counts : (cs : List Bytes) (ps : List ℕ) → inside cs ps ≡ true → Ones (ones (mask_at ps (length cs))) (length ps) (different_positions ps)
mask-counts cs ps h = rw (mask-ones (bits_from ps 0 (length cs))) (counted cs ps h)
