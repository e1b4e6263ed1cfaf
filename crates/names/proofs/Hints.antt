-- Laws of the hints: where a search from place to place leads, and what a hint more leaves as it is. Assumes nothing.
use Prim.Native.Nat.{ℕ, zero, suc, ◌+◌, ◌-◌, ◌≤◌, ◌<◌}
use mathlib.Core.Path.{◌≡◌, refl, sym, ◌∙◌, subst}
use mathlib.Core.List.{List, [], ◌∷◌, ◌++◌}
use native.Mathlib.Omega.{arith}
use lib.ListN.{length, get_or, set, length-set}
use lib.Seq.{get_or-set_other}
use Rattle.text.specs.Text.{Bytes}
use Rattle.names.specs.bridge.Names.{place_of, after, Leads, HintedFrom, Grows}

-- ---- from place to place

module _ (h : List ℕ) (v p : ℕ) where
  -- past a place that holds another hint
  pub leads-on : (k : ℕ) → 0 < k → (get_or h p 0 ≡ v → ⊥) → Leads h v p k → Leads h v (after p) (k - 1)
  unfolding Leads
  leads-on zero z ne q = absurd (omega arith)
  leads-on (suc k) z ne q = let e : suc k - 1 ≡ k = omega arith in rw e (q ne).1

  -- no empty place comes first
  pub leads-past : (k : ℕ) → 0 < k → (v ≡ 0 → ⊥) → Leads h v p k → get_or h p 0 ≡ 0 → ⊥
  unfolding Leads
  leads-past zero z nz q e = absurd (omega arith)
  leads-past (suc k) z nz q e = (q (λ w. nz (sym w ∙ e))).0 e

  -- back to a place that is not empty
  pub leads-back : (k : ℕ) → 0 < k → (get_or h p 0 ≡ 0 → ⊥) → Leads h v (after p) (k - 1) → Leads h v p k
  unfolding Leads
  leads-back zero z nz q = absurd (omega arith)
  leads-back (suc k) z nz q = let e : k ≡ suc k - 1 = omega arith in λ d. (nz, rw e q)

  -- the hint is here
  pub leads-here : (k : ℕ) → get_or h p 0 ≡ v → Leads h v p k
  unfolding Leads
  leads-here zero e = tt
  leads-here (suc k) e = λ d. absurd (d e)

  -- no place is left
  pub leads-none : (k : ℕ) → k ≤ 0 → Leads h v p k
  unfolding Leads
  leads-none zero z = tt
  leads-none (suc k) z = absurd (omega arith)

-- ---- a hint more

pub grows-set : (h : List ℕ) (p v : ℕ) → get_or h p 0 ≡ 0 → Grows h (set h p v)
grows-set h p v z = record {
  size = length-set h p v;
  stays = λ q nz. get_or-set_other h p q v 0 (λ e. nz (subst (λ i. get_or h i 0 ≡ 0) (sym e) z));
}

pub grows_same : (h : List ℕ) → Grows h h
grows_same h = record { size = refl; stays = λ q nz. refl }

leads-grows : (h g : List ℕ) (v p k : ℕ) → Grows h g → (v ≡ 0 → ⊥) → Leads h v p k → Leads g v p k
unfolding Leads
leads-grows h g v p zero gr nz q = tt
leads-grows h g v p (suc k) gr nz q = λ d.
    let y : get_or h p 0 ≡ 0 → ⊥ = λ z. (q (λ e. nz (sym e ∙ z))).0 z in
    let e = gr.stays p y in
    ((λ z. y (sym e ∙ z)), leads-grows h g v (after p) k gr nz (q (λ w. d (e ∙ w))).1)

pub hinted-grows : (h g : List ℕ) (i : ℕ) (ns : List Bytes) → Grows h g → (i ≡ 0 → ⊥) → HintedFrom i h ns → HintedFrom i g ns
unfolding HintedFrom
hinted-grows h g i [] gr nz q = tt
hinted-grows h g i (n ∷ ns) gr nz q = (leads-grows h g i (place_of n) 2048 gr nz q.0, hinted-grows h g (suc i) ns gr (omega arith) q.1)

-- ---- a name more

module _ (h : List ℕ) (f : Bytes) where
  pub hinted-more : (ns : List Bytes) (i v : ℕ) → v ≡ i + length ns → HintedFrom i h ns → Leads h v (place_of f) 2048 → HintedFrom i h (ns ++ (f ∷ []))
  unfolding HintedFrom
  hinted-more [] i v e q z = let j : i ≡ v = omega arith in (rw j z, tt)
  hinted-more (n ∷ ns) i v e q z = (q.0, hinted-more ns (suc i) v (omega arith) q.1 z)

  pub hinted-last : (ns : List Bytes) (i v : ℕ) → v ≡ i + length ns → HintedFrom i h (ns ++ (f ∷ [])) → HintedFrom i h ns × Leads h v (place_of f) 2048
  unfolding HintedFrom
  hinted-last [] i v e q = let j : v ≡ i = omega arith in (tt, rw j q.0)
  hinted-last (n ∷ ns) i v e q = let w = hinted-last ns (suc i) v (omega arith) q.1 in ((q.0, w.0), w.1)
