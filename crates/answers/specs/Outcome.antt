-- What a public call promises: docs/SPECIFICATION.md, "Operation by operation". Assumes nothing.
use Rattle.std.specs.Prelude.{Result, ℕ, ◌≤◌, ◌<◌, ◌≡◌, Bool, true, false, ◌++◌, length, drop, Ok, Err}
use Rattle.std.proofs.Math.Option.{Option, none, some}
use Rattle.text.specs.Text.{Bytes}
use Rattle.algebra.specs.Reader.{Outcome as Reading, reads, refuses, refusal_number}
use Rattle.algebra.specs.declared.Fault.{Fault}
use Rattle.algebra.specs.declared.Fault.TheVariants as F
use Rattle.answers.specs.declared.Refusal.{Refusal}
use Rattle.answers.specs.declared.Refusal.TheVariants.{Forbidden, ListTooShort, Malformed, ManyLines, NoPairs, NotCovered, NotInOrder, NotMergeable, NotProject, NotUsable, Outside, OverBound, Repeated, TooShort, Unsayable}

-- ---- what is to come of the texts alone

-- a refusal by its number, or bytes
pub data Outcome : Type 0 where
  refused : ℕ → Outcome
  written : Bytes → Outcome

-- a text that is refused refuses the call; else what it says decides
abbrev pub then : {A : Type 0} → Reading A → (A → Outcome) → Outcome
then (reads x) k = k x
then (refuses n) k = refused (refusal_number n)

-- refused by this number where there is nothing; else what there is decides
abbrev pub or_refused : {A : Type 0} → ℕ → Option A → (A → Outcome) → Outcome
or_refused n none k = refused n
or_refused n (some x) k = k x

-- refused by this number unless the test holds
abbrev pub refused_unless : ℕ → Bool → Outcome → Outcome
refused_unless n true o = o
refused_unless n false o = refused n

-- ---- what the call does

-- how many bytes were written, or why the call was refused
abbrev pub Answer : Type 0
Answer = Result ℕ Refusal

-- a text that is refused refuses the call
abbrev pub refusal_of : Fault → Refusal
refusal_of F.Malformed = Malformed
refusal_of F.OverBound = OverBound

-- the number of docs/SPECIFICATION.md, "Numbers"; 0 where bytes were written
abbrev pub number : Answer → ℕ
number (Ok n) = 0
number (Err Malformed) = 1
number (Err OverBound) = 2
number (Err Outside) = 3
number (Err NotProject) = 4
number (Err NotMergeable) = 5
number (Err TooShort) = 6
number (Err NotUsable) = 7
number (Err ManyLines) = 8
number (Err ListTooShort) = 9
number (Err Repeated) = 10
number (Err NoPairs) = 11
number (Err Unsayable) = 12
number (Err Forbidden) = 13
number (Err NotInOrder) = 14
number (Err NotCovered) = 15

-- a refusal has length 0
abbrev pub size : Answer → ℕ
size (Ok n) = n
size (Err r) = 0

-- number, length and every byte of the buffer: what stood behind the answer stays, and 6 means that it is longer than the buffer
unfoldable pub Reported : Outcome → Bytes → Bytes → ℕ → ℕ → Type 0
Reported (refused k) before after n s = (n ≡ k) × (s ≡ 0) × (after ≡ before)
Reported (written b) before after n s =
    (length b ≤ length before → (n ≡ 0) × (s ≡ length b) × (after ≡ b ++ drop (length b) before))
    × (length before < length b → (n ≡ 6) × (s ≡ 0) × (after ≡ before))

-- the same of an answer
abbrev pub Answered : Outcome → Bytes → Bytes → Answer → Type 0
Answered o before after r = Reported o before after (number r) (size r)
