-- What the answer of a check that notes spots says of the text. Assumes nothing.
use Prim.Native.Nat.{ℕ, ◌*◌, ◌≤◌}
use mathlib.Core.Path.{◌≡◌, refl, ap, subst, subst₂}
use mathlib.Core.List.{List}
use native.Mathlib.Omega.{arith}
use lib.ListN.{length}
use Rattle.text.specs.Text.{Bytes}
use Rattle.algebra.specs.Reader.{Outcome as Reading, reads, refuses, malformed, over_bound}
use Rattle.names.specs.bridge.Names.{Holds}
use Rattle.lines.specs.bridge.Noded.{Noded, Roomy}
use Rattle.lines.specs.bridge.Spotted.{Noted}
use Rattle.checking.proofs.Counts.{counts-same}
use Rattle.checking.specs.bridge.Walks.{counts, Noting}
use Rattle.reading.specs.bridge.Charted.{Charted}
use Rattle.std.specs.Prelude.{Ok, Err}
use Rattle.algebra.specs.declared.Fault.TheVariants.{Malformed, OverBound}

module _ {A : Type 0} (f : A → List Bytes) (from : Bytes → A → ℕ → Type 0) (s : Bytes) (a l h : List ℕ) (before after words b : List (List ℕ)) (r : Noting) where
  -- a good text, with the table of its names, the spots of its variables and the nodes of its lines
  pub record Good-chart (o : Reading A) (n k m : ℕ) : Type 0 where
    pub value : A
    pub read : o ≡ reads value
    pub table : Holds s a l h n (f value)
    pub noted : length s ≤ 3 * length before → (n ≤ 1024) × ((i : ℕ) → from s value i → (w : Noted s i (f value) after k) × (Roomy s b → Noded words b m w.nodes))

  pub chart-good : (o : Reading A) (n k m : ℕ) → Charted f from s a l h before after words b o r → r ≡ Ok (counts n k m) → Good-chart o n k m
  unfolding Charted
  chart-good (reads x) n k m c q =
      let u = counts-same _ _ _ _ n k m c.3 q in
      let e = u.0 in
      let d = u.1 in
      let g = u.2 in
      record {
        value = x;
        read = refl;
        table = subst (λ (i : ℕ). Holds s a l h i (f x)) e c.4;
        noted = λ room. (subst (λ (i : ℕ). i ≤ 1024) e (c.5 room).0, λ i st. subst₂ (λ (u v : ℕ). (w : Noted s i (f x) after u) × (Roomy s b → Noded words b v w.nodes)) d g ((c.5 room).1 i st));
      }
  chart-good (refuses malformed) n k m c q = let z : ◌≡◌ {A = ℕ} 0 1 = cc in absurd (omega arith)
  chart-good (refuses over_bound) n k m c q = let z : ◌≡◌ {A = ℕ} 0 1 = cc in absurd (omega arith)

  pub chart-malformed : (o : Reading A) → Charted f from s a l h before after words b o r → r ≡ Err Malformed → o ≡ refuses malformed
  unfolding Charted
  chart-malformed (reads x) c q = let e = c.3 in let z : ◌≡◌ {A = ℕ} 0 1 = cc in absurd (omega arith)
  chart-malformed (refuses malformed) c q = refl
  chart-malformed (refuses over_bound) c q = let z : ◌≡◌ {A = ℕ} 0 1 = cc in absurd (omega arith)

  pub chart-over : (o : Reading A) → Charted f from s a l h before after words b o r → r ≡ Err OverBound → o ≡ refuses over_bound
  unfolding Charted
  chart-over (reads x) c q = let e = c.3 in let z : ◌≡◌ {A = ℕ} 0 1 = cc in absurd (omega arith)
  chart-over (refuses malformed) c q = let z : ◌≡◌ {A = ℕ} 0 1 = cc in absurd (omega arith)
  chart-over (refuses over_bound) c q = refl
