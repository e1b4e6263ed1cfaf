-- Masks worked out: one word and four, by the same definitions. Assumes nothing.
use Prim.Native.Nat.{ℕ, ◌+◌, ◌-◌, ◌^◌}
use mathlib.Core.Path.{◌≡◌, refl}
use mathlib.Core.List.{List, [], ◌∷◌}
use mathlib.Core.Bool.{Bool, true, false}
use Rattle.mask.specs.bridge.Mask.{mask_of, count_of, stay_of, value_of}

-- columns 0 and 2 of four go
pub two-go : mask_of (true ∷ false ∷ true ∷ false ∷ []) ≡ 5
unfolding mask_of
two-go = refl

pub two-stay : stay_of (true ∷ false ∷ true ∷ false ∷ []) ≡ 2
two-stay = refl

-- column 64 is the lowest bit of the second word, column 255 the highest of the fourth
pub sixty-fifth : value_of (0 ∷ 1 ∷ 0 ∷ 0 ∷ []) ≡ 2 ^ 64
unfolding value_of
sixty-fifth = refl

pub last-column : value_of (0 ∷ 0 ∷ 0 ∷ 2 ^ 63 ∷ []) ≡ 2 ^ 255
unfolding value_of
last-column = refl

-- a mask of one word is the word
pub one_word : value_of (37 ∷ []) ≡ 37
unfolding value_of
one_word = refl
