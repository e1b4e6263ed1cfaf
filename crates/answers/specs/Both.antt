-- What a call with two lent slices promises: bytes, and a list of numbers. docs/SPECIFICATION.md, "Operation by operation". Assumes nothing.
use Rattle.std.specs.Prelude.{Result, Ok, Err, ℕ, ◌≤◌, ◌<◌, ◌≡◌, List, ◌++◌, length, drop}
use Rattle.text.specs.Text.{Bytes}
use Rattle.answers.specs.declared.Refusal.{Refusal}
use Rattle.answers.specs.declared.Listed.{Listed}
use Rattle.answers.specs.Outcome.{Answer, Outcome, refused, written, number, size}

-- refused by this number: both lengths are 0, and neither slice is changed
abbrev pub Neither : ℕ → Bytes → Bytes → List ℕ → List ℕ → ℕ → ℕ → ℕ → Type 0
Neither k before after lent left n s m = (n ≡ k) × (s ≡ 0) × (m ≡ 0) × (after ≡ before) × (left ≡ lent)

-- number, length and every byte as with one slice, and how many numbers with every entry; 9, after 6, means that there are more numbers than entries
unfoldable pub ReportedBoth : Outcome → List ℕ → Bytes → Bytes → List ℕ → List ℕ → ℕ → ℕ → ℕ → Type 0
ReportedBoth (refused k) xs before after lent left n s m = Neither k before after lent left n s m
ReportedBoth (written b) xs before after lent left n s m =
    (length before < length b → Neither 6 before after lent left n s m)
    × (length b ≤ length before → length lent < length xs → Neither 9 before after lent left n s m)
    × (length b ≤ length before → length xs ≤ length lent → (n ≡ 0) × (s ≡ length b) × (m ≡ length xs) × (after ≡ b ++ drop (length b) before) × (left ≡ xs ++ drop (length xs) lent))

-- the same of an answer, and how many numbers
abbrev pub AnsweredBoth : Outcome → List ℕ → Bytes → Bytes → List ℕ → List ℕ → Answer → ℕ → Type 0
AnsweredBoth o xs before after lent left r m = ReportedBoth o xs before after lent left (number r) (size r) m

-- how many bytes were written and how many numbers listed, or why the call was refused
abbrev pub ListedAnswer : Type 0
ListedAnswer = Result Listed Refusal

-- the same without its list
abbrev pub answer_of : ListedAnswer → Answer
answer_of (Ok l) = Ok l.size
answer_of (Err r) = Err r

-- a refusal has no numbers
abbrev pub many_of : ListedAnswer → ℕ
many_of (Ok l) = l.many
many_of (Err r) = 0

-- what is reported of such an answer
abbrev pub ListedBoth : Outcome → List ℕ → Bytes → Bytes → List ℕ → List ℕ → ListedAnswer → Type 0
ListedBoth o xs before after lent left r = AnsweredBoth o xs before after lent left (answer_of r) (many_of r)
