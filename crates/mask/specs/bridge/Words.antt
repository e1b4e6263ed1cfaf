-- The mask of the code: four words. Assumes nothing.
use Rattle.std.specs.Prelude.{ℕ, List, [], ◌∷◌}
use Rattle.mask.specs.declared.Mask.{Mask}
use Rattle.mask.specs.bridge.Mask.{value_of}

abbrev pub words_of : Mask → List ℕ
words_of m = m.0 ∷ m.1 ∷ m.2 ∷ m.3 ∷ []

-- the number that the words are
abbrev pub mask_value : Mask → ℕ
mask_value m = value_of (words_of m)
