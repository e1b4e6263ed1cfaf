-- A text as lines and a line as fields: docs/SPECIFICATION.md, "Lines and fields". Assumes nothing.
use Rattle.std.specs.Prelude.{ℕ, ◌-◌, ◌≤◌, ◌<◌, ◌≡◌, List, [], ◌∷◌, ◌++◌, Bool, true, false, cond, ◌&&◌, length, get_or, take, drop, eqb}

-- a text, a line's text or a field: its bytes
abbrev pub Bytes : Type 0
Bytes = List ℕ

-- a line: its fields. A line that is not ended has none
abbrev pub Line : Type 0
Line = List Bytes

-- two runs of bytes are the same
unfoldable pub same : Bytes → Bytes → Bool
same [] [] = true
same [] (y ∷ ys) = false
same (x ∷ xs) [] = false
same (x ∷ xs) (y ∷ ys) = eqb x y && same xs ys

-- ---- writing

-- the fields, parted by tabs (byte 9), and a line end (byte 10)
unfoldable pub ended : Line → Bytes → Bytes
ended [] rest = 10 ∷ rest
ended (f ∷ []) rest = f ++ (10 ∷ rest)
ended (f ∷ g ∷ fs) rest = f ++ (9 ∷ ended (g ∷ fs) rest)

-- one record a line
unfoldable pub text_of : List Line → Bytes
unfolding ended
text_of [] = []
text_of (l ∷ ls) = ended l (text_of ls)

-- ---- reading

-- a byte in front of the first part
unfoldable pub onto : ℕ → List Bytes → List Bytes
onto x [] = (x ∷ []) ∷ []
onto x (p ∷ ps) = (x ∷ p) ∷ ps

-- the parts between the bytes b: one more than there are bytes b
unfoldable pub split : ℕ → Bytes → List Bytes
unfolding onto
split b [] = [] ∷ []
split b (x ∷ xs) = cond (eqb x b) ([] ∷ split b xs) (onto x (split b xs))

-- the parts are lines, and nothing follows the last line end
unfoldable pub lines_in : List Bytes → List Line
unfolding split
lines_in [] = []
lines_in ([] ∷ []) = []
lines_in ((x ∷ xs) ∷ []) = [] ∷ []
lines_in (l ∷ m ∷ ls) = split 9 l ∷ lines_in (m ∷ ls)

-- the lines of a text
unfoldable pub lines_of : Bytes → List Line
unfolding lines_in
lines_of s = lines_in (split 10 s)

-- ---- places in a text

-- the bytes from a place up to, not including, another
abbrev pub part : ℕ → ℕ → Bytes → Bytes
part from to s = take (to - from) (drop from s)

-- the lines that stand from a place on
unfoldable pub lines_from : Bytes → ℕ → List Line
unfolding lines_in split
lines_from s at = lines_in (split 10 (part at (length s) s))

-- so many bytes from a place on
abbrev pub piece : ℕ → ℕ → Bytes → Bytes
piece from size s = take size (drop from s)

-- r is the first place from `from` on at which b stands, or `to`
pub record First (b : ℕ) (s : Bytes) (from to r : ℕ) : Type 0 where
  pub low : from ≤ r
  pub high : r ≤ to
  pub before : (k : ℕ) → k < r → from ≤ k → get_or s k 0 ≡ b → ⊥
  pub here : r < to → get_or s r 0 ≡ b
