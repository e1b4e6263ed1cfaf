-- What a check's answer says of the text. Assumes nothing.
use Prim.Native.Nat.{ℕ, ◌*◌, ◌≤◌}
use mathlib.Core.Path.{◌≡◌, refl, sym, subst, subst₂}
use mathlib.Core.List.{List}
use native.Mathlib.Omega.{arith}
use lib.ListN.{length}
use Rattle.text.specs.Text.{Bytes}
use Rattle.algebra.specs.Reader.{Outcome as Reading, reads, refuses, malformed, over_bound}
use Rattle.algebra.specs.bridge.Answers.{Answer}
use Rattle.names.specs.bridge.Names.{Holds}
use Rattle.names.specs.bridge.Checked.{Checked}
use Rattle.lines.specs.bridge.Noded.{Noded, Roomy}
use Rattle.lines.specs.bridge.Spotted.{Noted}
use Rattle.checking.proofs.Counts.{counts-same}
use Rattle.checking.specs.bridge.Walks.{counts, Noting}
use Rattle.reading.specs.bridge.Charted.{Charted}
use Rattle.std.specs.Prelude.{Ok, Err}
use Rattle.algebra.specs.declared.Fault.TheVariants.{Malformed, OverBound}

module _ {A : Type 0} (f : A → List Bytes) (s : Bytes) (a l h : List ℕ) (r : Answer) where
  -- a good text, with the table of its names
  pub record Good-text (o : Reading A) (n : ℕ) : Type 0 where
    pub value : A
    pub read : o ≡ reads value
    pub table : Holds s a l h n (f value)

  pub said-good : (o : Reading A) (n : ℕ) → Checked f s a l h o r → r ≡ Ok n → Good-text o n
  unfolding Checked
  said-good (reads x) n c q = let e : c.0 ≡ n = cc in record { value = x; read = refl; table = subst (λ (m : ℕ). Holds s a l h m (f x)) e c.2 }
  said-good (refuses malformed) n c q = let z : ◌≡◌ {A = ℕ} 0 1 = cc in absurd (omega arith)
  said-good (refuses over_bound) n c q = let z : ◌≡◌ {A = ℕ} 0 1 = cc in absurd (omega arith)

  pub said-malformed : (o : Reading A) → Checked f s a l h o r → r ≡ Err Malformed → o ≡ refuses malformed
  unfolding Checked
  said-malformed (reads x) c q = let z : ◌≡◌ {A = ℕ} 0 1 = cc in absurd (omega arith)
  said-malformed (refuses malformed) c q = refl
  said-malformed (refuses over_bound) c q = let z : ◌≡◌ {A = ℕ} 0 1 = cc in absurd (omega arith)

  pub said-over : (o : Reading A) → Checked f s a l h o r → r ≡ Err OverBound → o ≡ refuses over_bound
  unfolding Checked
  said-over (reads x) c q = let z : ◌≡◌ {A = ℕ} 0 1 = cc in absurd (omega arith)
  said-over (refuses malformed) c q = let z : ◌≡◌ {A = ℕ} 0 1 = cc in absurd (omega arith)
  said-over (refuses over_bound) c q = refl

-- the variables and lines of a good text, where there was room for all
pub said-noted : {A : Type 0} (f : A → List Bytes) (start : Bytes → A → ℕ → Type 0) (s : Bytes) (a l h : List ℕ) (before after words b : List (List ℕ)) (o : Reading A) (r : Noting) (n k m : ℕ) (x : A)
    → Charted f start s a l h before after words b o r → o ≡ reads x → r ≡ Ok (counts n k m) → length s ≤ 3 * length before → (i : ℕ) → start s x i → (w : Noted s i (f x) after k) × (Roomy s b → Noded words b m w.nodes)
unfolding Charted
said-noted {A} f start s a l h before after words b (reads y) r n k m x c e q room i at =
    let z : y ≡ x = cc in
    let u = counts-same _ _ _ _ n k m c.3 q in
    let j = u.1 in
    let d = u.2 in
    let g = (c.5 room).1 i (subst (λ (v : A). start s v i) (sym z) at) in
    subst₂ (λ (u v : ℕ). (w : Noted s i (f x) after u) × (Roomy s b → Noded words b v w.nodes)) j d (subst (λ (v : A). (w : Noted s i (f v) after c.1) × (Roomy s b → Noded words b c.2 w.nodes)) z g)
said-noted f start s a l h before after words b (refuses malformed) r n k m x c e q room i at = let z : ◌≡◌ {A = ℕ} 0 1 = cc in absurd (omega arith)
said-noted f start s a l h before after words b (refuses over_bound) r n k m x c e q room i at = let z : ◌≡◌ {A = ℕ} 0 1 = cc in absurd (omega arith)
