-- Laws of refusals and tests. Assumes nothing.
use mathlib.Core.Path.{◌≡◌, refl, sym, ◌∙◌, ap}
use mathlib.Core.Bool.{Bool, true, false, not, false≢true, true≢false}
use mathlib.Core.Option.{Option, none, some}
use Prim.Native.Nat.{ℕ, suc, ◌+◌, ◌≤◌}
use native.Mathlib.Omega.{arith}
use lib.Dec.{eqb, eqb→eq}
use Rattle.text.proofs.Basics.{so→T, deeper}
use Rattle.editions.specs.Refusals.{Refusal, line, first}

pub impossible : {A C : Type 0} (a : A) → some a ≡ none → C
impossible a e = let z : ◌≡◌ {A = ℕ} 0 1 = cc in absurd (omega arith)

pub first-none : (a b : Option Refusal) → first a b ≡ none → (a ≡ none) × (b ≡ none)
unfolding first
first-none none b e = (refl, e)
first-none (some n) b e = impossible n e

pub line-none : (a b : Bool) → line a b ≡ none → (a ≡ true) × (b ≡ true)
line-none false false e = impossible _ e
line-none false true e = impossible _ e
line-none true false e = impossible _ e
line-none true true e = (refl, refl)

-- a line and what comes below it
pub line_first : (a b : Bool) (r : Option Refusal) → first (line a b) r ≡ none → (a ≡ true) × (b ≡ true) × (r ≡ none)
line_first a b r e = let x = first-none (line a b) r e in let y = line-none a b x.0 in (y.0, y.1, x.1)

pub not-true : (b : Bool) → not b ≡ true → b ≡ false
not-true true e = absurd (false≢true e)
not-true false e = refl

-- a byte that passes a test is no byte that does not
pub other_byte : (P : ℕ → Bool) (k b : ℕ) → P b ≡ true → P k ≡ false → eqb b k ≡ false
other_byte P k b p q = go (eqb b k) refl
  where
    go : (c : Bool) → eqb b k ≡ c → eqb b k ≡ false
    go false e = e
    go true e = absurd (true≢false (sym p ∙ (ap P (eqb→eq b k (so→T (eqb b k) e)) ∙ q)))

-- eight levels
pub deep8 : (n d : ℕ) → 8 + n ≤ d → (P : ℕ → Type 0) → ((k : ℕ) → n ≤ k → P (suc (suc (suc (suc (suc (suc (suc (suc k))))))))) → P d
deep8 n d h P f =
    deeper (7 + n) d (omega arith) P λ a i.
    deeper (6 + n) a (omega arith) (λ a. P (suc a)) λ b j.
    deeper (5 + n) b (omega arith) (λ a. P (suc (suc a))) λ c k.
    deeper (4 + n) c (omega arith) (λ a. P (suc (suc (suc a)))) λ e l.
    deeper (3 + n) e (omega arith) (λ a. P (suc (suc (suc (suc a))))) λ g m.
    deeper (2 + n) g (omega arith) (λ a. P (suc (suc (suc (suc (suc a)))))) λ q o.
    deeper (1 + n) q (omega arith) (λ a. P (suc (suc (suc (suc (suc (suc a))))))) λ r s.
    deeper n r (omega arith) (λ a. P (suc (suc (suc (suc (suc (suc (suc a)))))))) λ x y. f x (omega arith)
