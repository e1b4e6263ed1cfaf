-- A word as one number, by which the code finds its row. Assumes nothing.
use Rattle.std.specs.Prelude.{ℕ, ◌+◌, ◌*◌, ◌%◌, ◌≤◌, ◌<◌, ◌≡◌, Bool, false, cond, ◌||◌, List, [], ◌∷◌, eqb, length, get_or, Some, None}
use Rattle.std.proofs.Math.Option.{Option, none, some}
use Rattle.text.specs.Text.{Bytes, same, part}
use Rattle.algebra.specs.bridge.Table.{Row, Entry}
use Rattle.words.specs.declared.Word.{Word}
use Rattle.words.specs.bridge.Code.{Found, flag_of}

-- the bytes behind those of k as one number, of which 64 bits are kept
unfoldable pub key_of : ℕ → Bytes → ℕ
key_of k [] = k
key_of k (x ∷ xs) = key_of (k % 72057594037927936 * 256 + x) xs

-- each is a byte
abbrev pub Small : Bytes → Type 0
Small [] = Unit {0}
Small (x ∷ xs) = (x < 256) × Small xs

-- the bytes of a text from a place up to a word's end are those that its key is made of
pub record Spells (s : Bytes) (from : ℕ) (w : Word) : Type 0 where
  pub key : w.key ≡ key_of 0 (part from w.end s)
  pub small : Small (part from w.end s)

-- a word that a key tells: eight bytes at most, of which the first is not 0
pub record Told (f : Bytes) : Type 0 where
  pub first : get_or f 0 0 ≡ 0 → ⊥
  pub long : length f ≤ 8
  pub small : Small f

-- a key by which a field is held to every such word
abbrev pub Keyed : Bytes → ℕ → Type 0
Keyed f k = (w : Bytes) → Told w → same f w ≡ eqb k (key_of 0 w)

-- one of these words has this key
unfoldable pub key_in : ℕ → List Bytes → Bool
unfolding key_of
key_in k [] = false
key_in k (w ∷ ws) = eqb k (key_of 0 w) || key_in k ws

-- the first row whose word has this key
unfoldable pub row_by : ℕ → List Entry → Option Row
unfolding key_of
row_by k [] = none
row_by k (e ∷ es) = cond (eqb k (key_of 0 e.word)) (some e.row) (row_by k es)

-- what the first word with this key means for the names under it
unfoldable pub flag_by : ℕ → List Entry → ℕ
unfolding key_of flag_of
flag_by k [] = 0
flag_by k (e ∷ es) = cond (eqb k (key_of 0 e.word)) (flag_of e.word) (flag_by k es)

abbrev pub Flagged : ℕ → List Entry → Found → Type 0
Flagged k es (Some c) = c.flag ≡ flag_by k es
Flagged k es None = Unit {0}
