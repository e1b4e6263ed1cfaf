-- The namespace table: its lines `old new`, and when they are in order. docs/SPECIFICATION.md, "Namespace tables". Assumes nothing.
use Rattle.std.specs.Prelude.{ℕ, Bool, true, false, not, ◌&&◌, ◌||◌, List, [], ◌∷◌, map, length, leb, ltb, eqb}
use Rattle.text.specs.Text.{Bytes}
use Rattle.text.specs.Field.{clean}
use Rattle.algebra.specs.Tally.{Limits, bounds, noted}
use Rattle.algebra.specs.Reader.{Outcome, Reader, ◌>>=◌, ◌>>◌, return, one, kept, close_at, several, read_text}
use Rattle.scoping.specs.Sets.{all}

-- ---- reading

-- a line: the start of an IRI, behind its <, in the old edition and in the new one
pub record Start : Type 0 where
  pub old : Bytes
  pub new : Bytes

-- 1 to 128 bytes, none of them > (byte 62)
unfoldable pub is_start : Bytes → Bool
unfolding clean all
is_start f = leb 1 (length f) && (leb (length f) 128 && (clean f && all (λ b. not (eqb b 62)) f))

-- the bounds of a text, with a table's own number of lines
abbrev pub start_bounds : Limits
start_bounds = record { bytes = bounds.bytes; lines = bounds.lines; depth = bounds.depth; columns = bounds.columns; names = bounds.names; entries = 64 }

-- a line of two starts, where n lines may still come
abbrev pub start_line : ℕ → Reader Start
start_line n = do
  a ← one (λ f. kept (is_start f) f)
  b ← one (λ f. kept (is_start f) f)
  close_at start_bounds n (noted [])
  return (record { old = a; new = b })

unfoldable pub read_starts : Bytes → Outcome (List Start)
unfolding is_start
read_starts s = read_text start_bounds (several start_bounds.entries (start_line 1) (start_line 0)) s

abbrev pub old_starts : List Start → List Bytes
old_starts ss = map (λ (s : Start). s.old) ss

-- ---- order and overlap

-- a is the beginning of b, or b itself
unfoldable pub begins : Bytes → Bytes → Bool
begins [] b = true
begins (x ∷ xs) [] = false
begins (x ∷ xs) (y ∷ ys) = eqb x y && begins xs ys

-- two starts overlap if one is the beginning of the other or they are equal
abbrev pub overlap : Bytes → Bytes → Bool
overlap a b = begins a b || begins b a

-- by their bytes a stands before b: a shorter one that b begins with first
unfoldable pub less : Bytes → Bytes → Bool
less [] [] = false
less [] (y ∷ ys) = true
less (x ∷ xs) [] = false
less (x ∷ xs) (y ∷ ys) = ltb x y || (eqb x y && less xs ys)

-- no line stands before the line above it
unfoldable pub is_sorted : List Bytes → Bool
unfolding less
is_sorted [] = true
is_sorted (a ∷ []) = true
is_sorted (a ∷ b ∷ bs) = not (less b a) && is_sorted (b ∷ bs)

-- no two lines overlap
unfoldable pub are_apart : List Bytes → Bool
unfolding all begins
are_apart [] = true
are_apart (a ∷ bs) = all (λ b. not (overlap a b)) bs && are_apart bs

-- neither an unsorted line nor an overlap: else 14
unfoldable pub in_order : List Bytes → Bool
unfolding is_sorted are_apart
in_order bs = is_sorted bs && are_apart bs
