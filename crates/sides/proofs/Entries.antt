-- The entries of columns in the variable table, and the names at the entries of join positions. Assumes nothing.
use Prim.Native.Nat.{ℕ, zero, suc, ◌+◌, ◌<◌}
use mathlib.Core.Path.{◌≡◌, sym, ap, ap₂, ◌∙◌}
use mathlib.Core.List.{List, [], ◌∷◌, map}
use mathlib.Core.Logic.{⊎_elim}
use native.Mathlib.Nat.{eq-or-lt_of_le}
use native.Mathlib.Omega.{arith}
use lib.ListN.{length, get_or, set}
use lib.Seq.{get_or-set_same, get_or-set_other}
use Rattle.text.specs.Text.{Bytes}
use Rattle.names.specs.bridge.Names.{name_at, listing}
use Rattle.names.proofs.Laws.{listing-at}
use Rattle.naming.specs.bridge.Code.{names_at}

-- the entry that an array of variables has at a number
abbrev pub entry_at : List (List ℕ) → ℕ → ℕ
entry_at v i = get_or (get_or v i []) 1 0

pub joins-next : (v : List (List ℕ)) (at joins : List ℕ) (i p : ℕ) → i < length joins → p ≡ get_or at i 0 → ((k : ℕ) → k < i → get_or joins k 0 ≡ entry_at v (get_or at k 0))
    → (k : ℕ) → k < i + 1 → get_or (set joins i (entry_at v p)) k 0 ≡ entry_at v (get_or at k 0)
joins-next v at joins i p j e f k h = ⊎_elim
    (λ (u : k ≡ i). rw u (get_or-set_same joins i (entry_at v p) 0 j ∙ ap (entry_at v) e))
    (λ (u : k < i). let w : k ≡ i → ⊥ = omega arith in get_or-set_other joins i k (entry_at v p) 0 w ∙ f k u)
    (eq-or-lt_of_le (omega arith))

-- the names at m join entries from number j on are the columns at their positions
module _ (s : Bytes) (a l : List ℕ) (n : ℕ) (v : List (List ℕ)) (cs : List Bytes) (low : (i : ℕ) → i < length cs → entry_at v i < n) (named : (i : ℕ) → i < length cs → get_or (listing s a l n) (entry_at v i) [] ≡ get_or cs i []) where
  pub names-at : (joins ps : List ℕ) (m j : ℕ) → m ≡ length ps → ((k : ℕ) → k < m → get_or ps k 0 < length cs) → ((k : ℕ) → k < m → get_or joins (j + k) 0 ≡ entry_at v (get_or ps k 0))
      → names_at s a l joins m j ≡ map (λ i. get_or cs i []) ps
  unfolding names_at
  names-at joins [] m j e below f = ap (λ (k : ℕ). names_at s a l joins k j) e
  names-at joins (p ∷ ps) zero j e below f = absurd (omega arith)
  names-at joins (p ∷ ps) (suc m) j e below f =
      let z : j + 0 ≡ j = omega arith in
      let b : p < length cs = below 0 (omega arith) in
      ap₂ ◌∷◌
      (ap (λ (k : ℕ). name_at s a l (get_or joins k 0)) (sym z) ∙ ap (name_at s a l) (f 0 (omega arith)) ∙ sym (listing-at s a l (entry_at v p) n (low p b)) ∙ named p b)
      (names-at joins ps m (suc j) (omega arith) (λ k i. below (suc k) (omega arith)) (λ k i. let y : suc j + k ≡ j + suc k = omega arith in ap (λ (q : ℕ). get_or joins q 0) y ∙ f (suc k) (omega arith)))
