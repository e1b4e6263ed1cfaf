-- A start by its places in the text. Assumes nothing.
use Prim.Native.Nat.{ℕ, zero, suc, ◌+◌, ◌-◌, ◌≤◌, ◌<◌, zero-le, suc-le-suc}
use mathlib.Core.Path.{◌≡◌, refl, sym, ◌∙◌, ap}
use mathlib.Core.List.{[], ◌∷◌}
use mathlib.Core.Bool.{Bool, true, false, not, ◌&&◌}
use mathlib.Core.Logic.{⊎_elim}
use native.Mathlib.Omega.{arith}
use native.Mathlib.Nat.{eq-or-lt_of_le}
use lib.ListN.{length, get_or, drop, length-take, length-drop}
use lib.Seq.{get_or-take, get_or-drop}
use lib.Dec.{eqb}
use borrow.Author.Tests.{le-leb, lt-leb, ne_eqb, eq-eqb}
use Rattle.text.specs.Text.{Bytes, part, First}
use Rattle.scoping.specs.Sets.{all}
use Rattle.starts.specs.bridge.Starts.{is_start_field}

abbrev other : ℕ → Bool
other b = not (eqb b 62)

none_here : (p : Bytes) → ((k : ℕ) → k < length p → get_or p k 0 ≡ 62 → ⊥) → all other p ≡ true
unfolding all
none_here [] f = refl
none_here (x ∷ xs) f = rw (ne_eqb x 62 (f 0 (suc-le-suc zero-le)), none_here xs (λ k l. f (suc k) (suc-le-suc l)))

some-here : (p : Bytes) (k : ℕ) → k < length p → get_or p k 0 ≡ 62 → all other p ≡ false
unfolding all
some-here [] k h e = absurd (omega arith)
some-here (x ∷ xs) zero h e = rw (eq-eqb x 62 e) refl
some-here (x ∷ xs) (suc k) h e = rw (some-here xs k (omega arith) e) (go (other x))
  where
    go : (a : Bool) → (a && false) ≡ false
    go true = refl
    go false = refl

module _ (s : Bytes) (from to : ℕ) (low : from ≤ to) (high : to ≤ length s) where
  long : length (part from to s) ≡ to - from
  long = simp (length-take, length-drop) (omega arith)

  byte : (k : ℕ) → k < to - from → get_or (part from to s) k 0 ≡ get_or s (from + k) 0
  byte k h = get_or-take (to - from) (drop from s) k 0 h ∙ get_or-drop from s k 0

  pub no_bytes : from ≡ to → false ≡ is_start_field (part from to s)
  unfolding is_start_field
  no_bytes e = let z : length (part from to s) < 1 = rw long (omega arith) in rw (lt-leb 1 (length (part from to s)) z) refl

  pub too_many : 128 < to - from → false ≡ is_start_field (part from to s)
  unfolding is_start_field
  too_many h =
      let y : 1 ≤ length (part from to s) = rw long (omega arith) in
      let z : 128 < length (part from to s) = rw long h in
      rw (le-leb 1 (length (part from to s)) y, lt-leb (length (part from to s)) 128 z) refl

  module _ (r : ℕ) (f : First 62 s from to r) where
    searched : eqb r to ≡ all other (part from to s)
    searched =
        ⊎_elim
        (λ (q : r ≡ to). eq-eqb r to q ∙ sym (none_here (part from to s) (λ k h e.
        let h' : k < to - from = rw long at h in
        f.before (from + k) (omega arith) (omega arith) (sym (byte k h') ∙ e))))
        (λ (q : r < to).
        let l = f.low in
        let i : r - from < to - from = omega arith in
        let at : from + (r - from) ≡ r = omega arith in
        ne_eqb r to (λ e. omega arith) ∙ sym (some-here (part from to s) (r - from) (rw long i) (byte (r - from) i ∙ ap (λ (k : ℕ). get_or s k 0) at ∙ f.here q)))
        (eq-or-lt_of_le f.high)

    pub all-other : (from ≡ to → ⊥) → to - from ≤ 128 → eqb r to ≡ is_start_field (part from to s)
    unfolding is_start_field
    all-other n h =
        let y : 1 ≤ length (part from to s) = rw long (omega arith) in
        let z : length (part from to s) ≤ 128 = rw long h in
        rw (le-leb 1 (length (part from to s)) y, le-leb (length (part from to s)) 128 z) searched
