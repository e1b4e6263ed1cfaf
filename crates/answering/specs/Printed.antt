-- What a program writes to standard output and to standard error: docs/SPECIFICATION.md, "Programs". Assumes nothing.
use Rattle.std.specs.Prelude.{ℕ, ◌≡◌, cond, List, [], ◌∷◌, map, length, take, leb}
use Rattle.text.specs.Text.{Bytes, ended}
use Rattle.text.specs.Word.{bytes}
use Rattle.text.specs.Field.{decimal}
use Rattle.answers.specs.Outcome.{Answer, Outcome, refused, written, Answered}

-- "one line: `refused`, a tab, the number in base ten"
unfoldable pub refusal_line : ℕ → Bytes
unfolding ended decimal
refusal_line n = ended (bytes "refused" ∷ decimal n ∷ []) []

-- the answer, or that line; an answer of more than 65,536 bytes is refused with 6
unfoldable pub printed : Outcome → Bytes
unfolding refusal_line
printed (refused k) = refusal_line k
printed (written b) = cond (leb (length b) 65536) b (refusal_line 6)

-- "the line `left` and the numbers in base ten, if there are any"
unfoldable pub left_line : List ℕ → Bytes
unfolding ended decimal
left_line [] = []
left_line (x ∷ xs) = ended (bytes "left" ∷ map decimal (x ∷ xs)) []

-- beside an answer, and nothing beside the line of a refusal
unfoldable pub printed_list : Outcome → List ℕ → Bytes
unfolding left_line
printed_list (refused k) xs = []
printed_list (written b) xs = cond (leb (length b) 65536) (left_line xs) []

-- an answer stood in its buffer; now the buffer's first r bytes are what is printed of the outcome that it was the answer to
abbrev pub Prints : Answer → Bytes → Bytes → ℕ → Type 0
Prints a answered now r =
    (o : Outcome) (before : Bytes) → (o ≡ refused 0 → ⊥) → length before ≡ 65536 → Answered o before answered a → take r now ≡ printed o
