-- Outcomes that don't refuse with 0: where a call returned 0, its first `size` bytes are the outcome's. Assumes nothing.
use Prim.Native.Nat.{ℕ, ◌≤◌}
use mathlib.Core.Path.{◌≡◌, refl, sym, ap, ap₂, ◌∙◌}
use mathlib.Core.Bool.{Bool, true, false}
use mathlib.Core.Option.{Option, none, some}
use native.Mathlib.Omega.{arith}
use native.Mathlib.Decide.{dec_le}
use lib.ListN.{length, take, drop}
use lib.Seq.{take-append_seam}
use Rattle.text.specs.Text.{Bytes}
use Rattle.algebra.specs.Reader.{Outcome as Reading, reads, refuses, malformed, over_bound}
use Rattle.answers.specs.Outcome.{Outcome, refused, written, then, or_refused, refused_unless, Reported}

unfoldable pub Numbered : Outcome → Type 0
Numbered (refused k) = k ≡ 0 → ⊥
Numbered (written b) = Unit {0}

-- ---- how outcomes are put together

pub written-numbered : (b : Bytes) → Numbered (written b)
unfolding Numbered
written-numbered b = tt

pub then-numbered : {A : Type 0} (o : Reading A) (k : A → Outcome) → ((a : A) → Numbered (k a)) → Numbered (then o k)
unfolding Numbered
then-numbered (reads a) k f = f a
then-numbered (refuses malformed) k f = λ e. omega arith
then-numbered (refuses over_bound) k f = λ e. omega arith

pub some-numbered : {A : Type 0} (n : ℕ) (o : Option A) (k : A → Outcome) → (n ≡ 0 → ⊥) → ((a : A) → Numbered (k a)) → Numbered (or_refused n o k)
unfolding Numbered
some-numbered n none k h f = h
some-numbered n (some a) k h f = f a

pub test-numbered : (n : ℕ) (t : Bool) (o : Outcome) → (n ≡ 0 → ⊥) → Numbered o → Numbered (refused_unless n t o)
unfolding Numbered
test-numbered n true o h f = f
test-numbered n false o h f = h

-- ---- what follows

pub not-zero : (o : Outcome) → Numbered o → o ≡ refused 0 → ⊥
unfolding Numbered
not-zero (refused k) h e = h (let z : k ≡ 0 = cc in z)
not-zero (written b) h e = let z : ◌≡◌ {A = ℕ} 0 1 = cc in absurd (omega arith)

pub from-not-zero : (o : Outcome) → (o ≡ refused 0 → ⊥) → Numbered o
unfolding Numbered
from-not-zero (refused k) h = λ e. h (ap refused e)
from-not-zero (written b) h = tt

-- bytes that stand in front of the buffer, which had room for them
pub record Returned (o : Outcome) (before after : Bytes) (size : ℕ) : Type 0 where
  pub text : Bytes
  pub is : o ≡ written text
  pub front : take size after ≡ text
  pub long : size ≡ length text
  pub room : size ≤ length before

pub returned : (o : Outcome) (before after : Bytes) (n size : ℕ) → Numbered o → Reported o before after n size → n ≡ 0 → Returned o before after size
unfolding Numbered Reported
returned (refused k) before after n size h r e = absurd (h (sym r.0 ∙ e))
returned (written b) before after n size h r e = fits (dec_le (length b) (length before))
  where
    fits : Dec (length b ≤ length before) → Returned (written b) before after size
    fits (yes l) =
        let w = r.0 l in
        let s = w.1 in
        record { text = b; is = refl; front = ap₂ take s w.2 ∙ take-append_seam b (drop (length b) before); long = s; room = omega arith }
    fits (no l) = let w = (r.1 (omega arith)).0 in absurd (omega arith)
