-- What the checks of the lists of pairs promise of a text, and what their steps find on a line. Assumes nothing.
use Rattle.std.specs.Prelude.{ℕ, ◌+◌, ◌*◌, ◌-◌, ◌≤◌, ◌<◌, ◌≡◌, List, [], ◌∷◌, map, Bool, true, false, cond, not, ◌&&◌, length, get_or, take, Some, None, Ok, Err}
use Rattle.text.specs.Text.{Bytes, Line, part, piece}
use Rattle.text.specs.Field.{Kind, is_kind}
use Rattle.text.specs.bridge.Code.{kind_at}
use Rattle.algebra.specs.Query.{PairList, Pair, first_kind, second_kind, unique}
use Rattle.algebra.specs.Valid.{mem}
use Rattle.algebra.specs.Reader.{reads, refuses, malformed, over_bound}
use Rattle.algebra.specs.Texts.{read_pairs}
use Rattle.algebra.specs.bridge.Answers.{Answer}
use Rattle.algebra.specs.Tally.{bounds}
use Rattle.cursor.specs.bridge.Cursor.{left, Reading, field}
use Rattle.cursor.specs.declared.Cursor.{Cursor}
use Rattle.algebra.specs.declared.Fault.TheVariants.{Malformed, OverBound}

-- the pair that an entry tells: the start and the size of its first field, then those of its second
abbrev pub pair_at : Bytes → List ℕ → Pair
pair_at s e = record { first = piece (get_or e 0 0) (get_or e 1 0) s; second = piece (get_or e 2 0) (get_or e 3 0) s }

-- the entry of a pair whose fields stand between these places, a tab between them
abbrev pub entry_of : ℕ → ℕ → ℕ → List ℕ
entry_of from to end = from ∷ (to - from) ∷ (to + 1) ∷ (end - (to + 1)) ∷ []

-- the pairs that the first n entries tell, in order
unfoldable pub pairs_in : Bytes → List (List ℕ) → ℕ → List Pair
pairs_in s keys n = map (pair_at s) (take n keys)

-- entries are enough for a text: as many as a list may have, or one for every two bytes
unfoldable pub Enough : Bytes → List (List ℕ) → Type 0
Enough s keys = (n : ℕ) → n < bounds.entries → 2 * n < length s → n < length keys

-- the first n entries tell the pairs that a text says
pub record PairsTold (κ : PairList) (s : Bytes) (keys : List (List ℕ)) (n : ℕ) : Type 0 where
  pub room : n ≤ length keys
  pub few : n ≤ bounds.entries
  pub read : read_pairs κ s ≡ reads (pairs_in s keys n)

-- entries tell the pairs of a good text; else the answer is its refusal
unfoldable pub PairsChecked : PairList → Bytes → List (List ℕ) → Answer → Type 0
PairsChecked κ s keys (Ok n) = PairsTold κ s keys n
PairsChecked κ s keys (Err Malformed) = read_pairs κ s ≡ refuses malformed
PairsChecked κ s keys (Err OverBound) = read_pairs κ s ≡ refuses over_bound

-- the list has fields of the kinds with these numbers, and its first fields may not be repeated, or may
pub record Stands (κ : PairList) (first second : ℕ) (apart : Bool) : Type 0 where
  pub firsts : first_kind κ ≡ kind_at first
  pub seconds : second_kind κ ≡ kind_at second
  pub parted : unique κ ≡ apart

-- a line of two fields of these kinds
unfoldable pub is_pair : Kind → Kind → Line → Bool
is_pair k j [] = false
is_pair k j (f ∷ []) = false
is_pair k j (f ∷ g ∷ []) = is_kind k f && is_kind j g
is_pair k j (f ∷ g ∷ h ∷ fs) = false

-- such a line: the end of its first field, and the cursor behind it; or it is none
unfoldable pub Finds : Bytes → Kind → Kind → Cursor → Reading → Type 0
Finds s k j c (Some f) = (c.at ≤ f.end) × (f.end < c.end) × (f.behind.at ≡ c.end + 1) × (left s c.at c.end ≡ part c.at f.end s ∷ part (f.end + 1) c.end s ∷ []) × (is_pair k j (left s c.at c.end) ≡ true)
Finds s k j c None = is_pair k j (left s c.at c.end) ≡ false

-- the first fields, in order
abbrev pub firsts : List Pair → List Bytes
firsts xs = map (λ x. x.first) xs

-- where first fields may not be repeated, it is not among those so far
unfoldable pub fresh : Bool → Bytes → List Bytes → Bool
fresh apart f ns = not (cond apart (mem f ns) false)
