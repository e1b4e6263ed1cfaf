-- What the variable table keeps of a name: where it starts in its text and how long it is, in 16 bits each. Assumes nothing.
use Rattle.std.specs.Prelude.{ℕ, ◌+◌, ◌%◌, ◌≤◌, ◌≡◌, List, [], ◌∷◌, length, get_or}
use Rattle.text.specs.Text.{Bytes, piece}

-- what 16 bits hold of a number
abbrev pub narrow : ℕ → ℕ
narrow n = n % 65536

-- the entry that is kept of a name, by its start and its size
abbrev pub narrow_entry : ℕ → ℕ → List ℕ
narrow_entry start size = narrow start ∷ narrow size ∷ []

-- the name that an entry tells, read back from the text
abbrev pub read_back : Bytes → List ℕ → Bytes
read_back s e = piece (get_or e 0 0) (get_or e 1 0) s

-- the name f stands in the text s from a place on
pub record StandsAt (s f : Bytes) (at : ℕ) : Type 0 where
  pub inside : at + length f ≤ length s
  pub here : piece at (length f) s ≡ f

-- an entry tells a place at which the name f stands in the text s, and how long it is
pub record TellsName (s f : Bytes) (e : List ℕ) : Type 0 where
  pub start : StandsAt s f (get_or e 0 0)
  pub size : get_or e 1 0 ≡ length f
