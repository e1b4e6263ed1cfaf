-- Outcomes that a room is enough for: bytes of at most that many, or a refusal that isn't 6. Assumes nothing.
use Prim.Native.Nat.{ℕ, ◌≤◌}
use mathlib.Core.Path.{◌≡◌, sym, ap, subst, ◌∙◌}
use mathlib.Core.Bool.{Bool, true, false}
use mathlib.Core.List.{List}
use mathlib.Core.Option.{Option, none, some}
use mathlib.Core.Path.{refl}
use native.Mathlib.Omega.{arith}
use lib.ListN.{length}
use Rattle.text.specs.Text.{Bytes}
use Rattle.algebra.specs.Reader.{Outcome as Reading, reads, refuses, malformed, over_bound}
use Rattle.answers.specs.Outcome.{Outcome, refused, written, then, or_refused, refused_unless, Reported}
use Rattle.answers.specs.Both.{ReportedBoth}
use Rattle.room.specs.Room.{Suffices, SufficesBoth}

unfoldable pub Enough : ℕ → Outcome → Type 0
Enough room (refused k) = k ≡ 6 → ⊥
Enough room (written b) = length b ≤ room

-- ---- how outcomes are put together

pub then-enough : {A : Type 0} (room : ℕ) (o : Reading A) (k : A → Outcome) → ((a : A) → o ≡ reads a → Enough room (k a)) → Enough room (then o k)
unfolding Enough
then-enough room (reads a) k f = f a refl
then-enough room (refuses malformed) k f = λ e. omega arith
then-enough room (refuses over_bound) k f = λ e. omega arith

pub some-enough : {A : Type 0} (room n : ℕ) (o : Option A) (k : A → Outcome) → (n ≡ 6 → ⊥) → ((a : A) → o ≡ some a → Enough room (k a)) → Enough room (or_refused n o k)
unfolding Enough
some-enough room n none k h f = h
some-enough room n (some a) k h f = f a refl

pub test-enough : (room n : ℕ) (t : Bool) (o : Outcome) → (n ≡ 6 → ⊥) → (t ≡ true → Enough room o) → Enough room (refused_unless n t o)
unfolding Enough
test-enough room n true o h f = f refl
test-enough room n false o h f = h

-- ---- what follows

pub enough-more : (less more : ℕ) (o : Outcome) → less ≤ more → Enough less o → Enough more o
unfolding Enough
enough-more less more (refused k) l h = h
enough-more less more (written b) l h = omega arith

pub written-fits : (room : ℕ) (o : Outcome) (b : Bytes) → Enough room o → o ≡ written b → length b ≤ room
unfolding Enough
written-fits room o b h e = subst (Enough room) e h

pub suffices : (room : ℕ) (o : Outcome) → Enough room o → Suffices room o
unfolding Enough Suffices Reported
suffices room (refused k) h before after n s l r e = h (sym r.0 ∙ e)
suffices room (written b) h before after n s l r e = let z = (r.0 (omega arith)).0 in omega arith

-- a refusal that is 9 comes from no text either
unfoldable pub NotNine : Outcome → Type 0
NotNine (refused k) = k ≡ 9 → ⊥
NotNine (written b) = Unit {0}

pub then-not-nine : {A : Type 0} (o : Reading A) (k : A → Outcome) → ((a : A) → NotNine (k a)) → NotNine (then o k)
unfolding NotNine
then-not-nine (reads a) k f = f a
then-not-nine (refuses malformed) k f = λ e. omega arith
then-not-nine (refuses over_bound) k f = λ e. omega arith

pub test-not-nine : (n : ℕ) (t : Bool) (o : Outcome) → (n ≡ 9 → ⊥) → NotNine o → NotNine (refused_unless n t o)
unfolding NotNine
test-not-nine n true o h f = f
test-not-nine n false o h f = h

pub suffices-both : (room entries : ℕ) (o : Outcome) (xs : List ℕ) → Enough room o → NotNine o → length xs ≤ entries → SufficesBoth room entries o xs
unfolding Enough NotNine SufficesBoth ReportedBoth
suffices-both room entries (refused k) xs h j i before after lent left n s m p q r = (λ e. h (sym r.0 ∙ e), λ e. j (sym r.0 ∙ e))
suffices-both room entries (written b) xs h j i before after lent left n s m p q r = let z = (r.2 (omega arith) (omega arith)).0 in (λ e. omega (arith, z, e), λ e. omega (arith, z, e))
