-- The texts of an input, their ends kept one after the other. Assumes nothing.
use Prim.Native.Nat.{ℕ, zero, suc, ◌+◌, ◌-◌, ◌≤◌, ◌<◌}
use mathlib.Core.Path.{◌≡◌, refl, sym, ◌∙◌, ap, ap₂, subst}
use mathlib.Core.List.{List, []}
use native.Mathlib.Decide.{dec_lt}
use native.Mathlib.Omega.{arith}
use lib.ListN.{length, get_or, set}
use lib.Seq.{get_or-set_same, get_or-set_other}
use Rattle.text.specs.Text.{Bytes, part}
use Rattle.parted.specs.Parted.{texts}
use Rattle.parted.specs.bridge.Code.{texts_from, Ends, start_of, Stands, Parted}
use Rattle.parted.proofs.Laws.{at-start, at_here, at_next}

-- an end that is set leaves the texts before it
start-kept : (ends : List ℕ) (i e k : ℕ) → k ≤ i → start_of (set ends i e) k ≡ start_of ends k
start-kept ends i e zero h = refl
start-kept ends i e (suc k) h = ap (λ (n : ℕ). n + 3) (get_or-set_other ends i k e 0 (let d : k ≡ i → ⊥ = omega arith in d))

module _ (s : Bytes) (ends : List ℕ) where
  stands-kept : (i e k : ℕ) → k < i → Stands s ends k → Stands s (set ends i e) k
  stands-kept i e k h st =
      let a = start-kept ends i e k (omega arith) in
      let b = get_or-set_other ends i k e 0 (let d : k ≡ i → ⊥ = omega arith in d) in
      record {
        ended = subst (λ (x : ℕ). Ends s x (get_or (set ends i e) k 0)) (sym a) (subst (λ (y : ℕ). Ends s (start_of ends k) y) (sym b) st.ended);
        left = λ i. st.left i ∙ ap (λ (x : ℕ). get_or (texts_from s x) i []) (sym a);
      }

  pub parted-start : (m e : ℕ) → 0 < m → length ends ≡ m → Ends s 0 e → Parted s (set ends 0 e) m 0
  parted-start m e some l f = record {
    each = λ k h u. go k h;
    going = λ k h u. absurd (omega arith);
  }
    where
      go : (k : ℕ) → k ≤ 0 → Stands s (set ends 0 e) k
      go zero h = record { ended = subst (Ends s 0) (sym (get_or-set_same ends 0 e 0 (omega (arith, l, some)))) f; left = λ i. let z : 0 + i ≡ i = omega arith in ap (λ (j : ℕ). get_or (texts s) j []) z ∙ at-start s i }
      go (suc k) h = absurd (omega arith)

  module _ (m n end : ℕ) (p : Parted s ends m n) (at : n < m → get_or ends n 0 ≡ end) (more : end < length s) where
    going_on : (k : ℕ) → k < n + 1 → k < m → Dec (k < n) → get_or ends k 0 < length s
    going_on k l u (yes y) = p.going k y u
    going_on k l u (no z) = let q : k ≡ n = omega arith in let r : get_or ends k 0 ≡ end = ap (λ (j : ℕ). get_or ends j 0) q ∙ at (omega arith) in omega (arith, r, more)

    -- beyond the first m nothing is kept
    pub parted-past : m ≤ n + 1 → Parted s ends m (n + 1)
    parted-past h = record {
      each = λ k l u. p.each k (omega arith) u;
      going = λ k l u. going_on k l u (dec_lt k n);
    }

    module _ (e : ℕ) (f : Ends s (end + 3) e) (few : n + 1 < m) (long : length ends ≡ m) where
      this : Stands s (set ends (n + 1) e) (suc n)
      this =
          let h = at (omega arith) in
          let a : start_of (set ends (n + 1) e) (suc n) ≡ end + 3 = ap (λ (x : ℕ). x + 3) (get_or-set_other ends (n + 1) n e 0 (let d : n ≡ n + 1 → ⊥ = omega arith in d) ∙ h) in
          let one : suc n ≡ n + 1 = omega arith in
          let b : get_or (set ends (n + 1) e) (suc n) 0 ≡ e = ap (λ (j : ℕ). get_or (set ends (n + 1) e) j 0) one ∙ get_or-set_same ends (n + 1) e 0 (omega (arith, long, few)) in
          let st = p.each n (omega arith) (omega arith) in
          record {
            ended = subst (λ (x : ℕ). Ends s x (get_or (set ends (n + 1) e) (suc n) 0)) (sym a) (subst (Ends s (end + 3)) (sym b) f);
            left = λ i.
                let two : suc n + i ≡ n + suc i = omega arith in
                ap (λ (j : ℕ). get_or (texts s) j []) two
                ∙ st.left (suc i)
                ∙ at_next s (start_of ends n) (get_or ends n 0) (suc i) st.ended (omega (arith, h, more)) (let d : suc i ≡ 0 → ⊥ = omega arith in d)
                ∙ ap₂ (λ (x j : ℕ). get_or (texts_from s x) j []) (ap (λ (x : ℕ). x + 3) h ∙ sym a) (let q : suc i - 1 ≡ i = omega arith in q);
          }

      stands_on : (k : ℕ) → k ≤ n + 1 → k < m → Dec (k < n + 1) → Stands s (set ends (n + 1) e) k
      stands_on k l u (yes y) = stands-kept (n + 1) e k y (p.each k (omega arith) u)
      stands_on k l u (no z) = subst (Stands s (set ends (n + 1) e)) (let q : suc n ≡ k = omega arith in q) this

      pub parted-next : Parted s (set ends (n + 1) e) m (n + 1)
      parted-next = record {
        each = λ k l u. stands_on k l u (dec_lt k (n + 1));
        going = λ k l u. let d : k ≡ n + 1 → ⊥ = omega arith in let q = get_or-set_other ends (n + 1) k e 0 d in let g = going_on k l u (dec_lt k n) in omega (arith, q, g);
      }

-- a text from its start to its end
pub parted-text : (s : Bytes) (ends : List ℕ) (m n k : ℕ) → Parted s ends m n → k ≤ n → k < m → part (start_of ends k) (get_or ends k 0) s ≡ get_or (texts s) k []
parted-text s ends m n k p l u =
    let st = p.each k l u in
    let z : k + 0 ≡ k = omega arith in
    sym (ap (λ (j : ℕ). get_or (texts s) j []) (sym z) ∙ st.left 0 ∙ at_here s (start_of ends k) (get_or ends k 0) 0 st.ended refl)

pub parted-same : (s : Bytes) (ends : List ℕ) (m k n : ℕ) → m ≡ k → Parted s ends m n → Parted s ends k n
parted-same s ends m k n e p = subst (λ (x : ℕ). Parted s ends x n) e p

pub start-next : (ends : List ℕ) (k : ℕ) → (k ≡ 0 → ⊥) → get_or ends (k - 1) 0 + 3 ≡ start_of ends k
start-next ends zero h = absurd (h refl)
start-next ends (suc k) h = ap (λ (j : ℕ). get_or ends j 0 + 3) (let q : suc k - 1 ≡ k = omega arith in q)

pub set-end : (ends : List ℕ) (m k e : ℕ) → length ends ≡ m → k < m → get_or (set ends k e) k 0 ≡ e
set-end ends m k e l h = get_or-set_same ends k e 0 (omega (arith, l))

-- a text that is asked for
pub ready : (s : Bytes) (ends : List ℕ) (m n k : ℕ) → length ends ≡ m → k < m → k ≤ n → Parted s ends m n → (k < length ends) × (k ≤ n) × Parted s ends (length ends) n
ready s ends m n k l h i p = (omega arith, i, parted-same s ends m (length ends) n (sym l) p)
