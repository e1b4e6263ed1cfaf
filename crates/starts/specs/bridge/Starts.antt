-- What the check of a namespace table promises, what its steps find on a line, and what a search in it tells. Assumes nothing.
use Rattle.std.specs.Prelude.{Option, ℕ, ◌+◌, ◌≤◌, ◌<◌, ◌≡◌, List, [], ◌∷◌, map, Bool, true, false, cond, not, ◌&&◌, length, get_or, take, leb, eqb, Some, None, Ok, Err}
use Rattle.std.proofs.Math.Option.{none, some}
use Rattle.text.specs.Text.{Bytes, Line, part, piece}
use Rattle.algebra.specs.Reader.{Outcome, reads, refuses, malformed, over_bound, refusal_number}
use Rattle.algebra.specs.bridge.Answers.{Answer}
use Rattle.cursor.specs.bridge.Cursor.{left, Reading}
use Rattle.cursor.specs.declared.Cursor.{Cursor}
use Rattle.scoping.specs.Sets.{all}
use Rattle.converting.specs.Starts.{Start, start_bounds, read_starts, old_starts, in_order}
use Rattle.converting.specs.Namespaces.{covering_line}
use Rattle.converting.specs.bridge.Order.{neighbours}
use Rattle.algebra.specs.declared.Fault.TheVariants.{Malformed, OverBound}

-- the line that an entry tells: the place and the size of its old start, then those of its new one
abbrev pub start_at : Bytes → List ℕ → Start
start_at s e = record { old = piece (get_or e 0 0) (get_or e 1 0) s; new = piece (get_or e 2 0) (get_or e 3 0) s }

-- the lines that the first n entries tell, in order
unfoldable pub starts_in : Bytes → List (List ℕ) → ℕ → List Start
starts_in s keys n = map (start_at s) (take n keys)

-- the first n entries tell the lines that a text says
pub record StartsTold (s : Bytes) (keys : List (List ℕ)) (n : ℕ) : Type 0 where
  pub room : length keys ≡ start_bounds.entries
  pub few : n ≤ start_bounds.entries
  pub read : read_starts s ≡ reads (starts_in s keys n)

-- entries tell the lines of a good table; else the answer is its refusal
unfoldable pub StartsChecked : Bytes → List (List ℕ) → Answer → Type 0
StartsChecked s keys (Ok n) = StartsTold s keys n
StartsChecked s keys (Err Malformed) = read_starts s ≡ refuses malformed
StartsChecked s keys (Err OverBound) = read_starts s ≡ refuses over_bound

-- a table's number by itself: its refusal, then 14 if its lines are not in order
abbrev ordered : Outcome (List Start) → ℕ
ordered (reads ss) = cond (in_order (old_starts ss)) 0 14
ordered (refuses n) = refusal_number n

unfoldable pub table_number : Bytes → ℕ
unfolding read_starts in_order
table_number s = ordered (read_starts s)

-- ---- a line

-- a field of a line, which holds no tab and no line end, is a start
unfoldable pub is_start_field : Bytes → Bool
unfolding all
is_start_field f = leb 1 (length f) && (leb (length f) 128 && all (λ b. not (eqb b 62)) f)

-- a line of two starts
unfoldable pub is_two : Line → Bool
unfolding is_start_field
is_two [] = false
is_two (f ∷ []) = false
is_two (f ∷ g ∷ []) = is_start_field f && is_start_field g
is_two (f ∷ g ∷ h ∷ fs) = false

-- such a line: the end of its first field, and the cursor behind it; or it is none
unfoldable pub Finds : Bytes → Cursor → Reading → Type 0
Finds s c (Some f) = (c.at ≤ f.end) × (f.end < c.end) × (f.behind.at ≡ c.end + 1) × (left s c.at c.end ≡ part c.at f.end s ∷ part (f.end + 1) c.end s ∷ []) × (is_two (left s c.at c.end) ≡ true)
Finds s c None = is_two (left s c.at c.end) ≡ false

-- ---- a table in order

-- both begin with the same r bytes, and one of them ends there or the next bytes differ
pub record Shares (a b : Bytes) (r : ℕ) : Type 0 where
  pub first : r ≤ length a
  pub second : r ≤ length b
  pub alike : (k : ℕ) → k < r → get_or a k 0 ≡ get_or b k 0
  pub parted : r < length a → r < length b → get_or a r 0 ≡ get_or b r 0 → ⊥

-- the first n entries tell lines that are in order
pub record Ordered (s : Bytes) (keys : List (List ℕ)) (n : ℕ) : Type 0 where
  pub room : length keys ≡ start_bounds.entries
  pub few : n ≤ start_bounds.entries
  pub ordered : neighbours (old_starts (starts_in s keys n)) ≡ true

-- the entry of the line that covers an IRI, if one does
abbrev pub Covering : Type 0
Covering = Option ℕ

-- the entry of the line that covers an IRI; or none does
unfoldable pub Found : Bytes → List (List ℕ) → ℕ → Bytes → Covering → Type 0
Found s keys n x (Some k) = (k < n) × (covering_line (starts_in s keys n) x ≡ some (start_at s (get_or keys k []))) × (length (start_at s (get_or keys k [])).old < length x)
Found s keys n x None = covering_line (starts_in s keys n) x ≡ none
