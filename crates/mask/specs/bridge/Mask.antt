-- A mask as words of 64 bits, however many there are, and the number that they are. Assumes nothing.
use Rattle.std.specs.Prelude.{ℕ, ◌+◌, ◌*◌, ◌^◌, List, [], ◌∷◌, Bool, true, false}
use Rattle.std.specs.Int.Count.{ones}

-- a bit as a number
abbrev pub bit_of : Bool → ℕ
bit_of true = 1
bit_of false = 0

-- the mask with these bits, the lowest first
unfoldable pub mask_of : List Bool → ℕ
mask_of [] = 0
mask_of (b ∷ bs) = bit_of b + 2 * mask_of bs

-- how many bits are set
abbrev pub count_of : List Bool → ℕ
count_of [] = 0
count_of (b ∷ bs) = bit_of b + count_of bs

-- how many bits are not set
abbrev pub stay_of : List Bool → ℕ
stay_of [] = 0
stay_of (true ∷ bs) = stay_of bs
stay_of (false ∷ bs) = 1 + stay_of bs

-- the number that words are, the lowest word first
unfoldable pub value_of : List ℕ → ℕ
value_of [] = 0
value_of (w ∷ ws) = value_of ws * 2 ^ 64 + w

-- the ones of all words
unfoldable pub ones_in : List ℕ → ℕ
ones_in [] = 0
ones_in (w ∷ ws) = ones w + ones_in ws
