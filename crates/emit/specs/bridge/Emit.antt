-- A place and a buffer, and bytes laid over the buffer from that place on, cut at its end: what the writers' contracts cite. Assumes nothing.
use Rattle.std.specs.Prelude.{List, [], ◌∷◌, ℕ, ◌+◌, min, set}

-- where the next byte goes, and the bytes of the buffer
pub record Em : Type 0 where
  pub at : ℕ
  pub out : List ℕ

abbrev pub em : ℕ → List ℕ → Em
em a o = record { at = a; out = o }

-- the last number of 64 bits: a place stays there
abbrev pub last : ℕ
last = 18446744073709551615

-- one byte: it is stored where the buffer has the place (set leaves a list alone past its end), and the place moves on
unfoldable pub put1 : ℕ → Em → Em
put1 b e = em (min (e.at + 1) last) (set e.out e.at b)

-- bytes, one after the other
unfoldable pub puts : List ℕ → Em → Em
unfolding put1
puts [] e = e
puts (b ∷ bs) e = puts bs (put1 b e)
