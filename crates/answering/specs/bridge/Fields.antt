-- Numbers as fields of a line, as the code writes them. Assumes nothing.
use Rattle.std.specs.Prelude.{ℕ, List, [], ◌∷◌, ◌++◌}
use Rattle.text.specs.Text.{Bytes}
use Rattle.text.specs.Field.{decimal}

-- a tab and a number each
unfoldable pub fields_of : List ℕ → Bytes
unfolding decimal
fields_of [] = []
fields_of (x ∷ xs) = 9 ∷ (decimal x ++ fields_of xs)
