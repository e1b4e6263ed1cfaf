-- The fields behind the word of a query's head line. Assumes nothing.
use Rattle.std.specs.Prelude.{Bool, false, ◌&&◌, List, [], ◌∷◌}
use Rattle.text.specs.Text.{Bytes}
use Rattle.text.specs.Field.{fits, form, opaque}

-- a kind of query, its dataset and its base, and no more
unfoldable pub is_head : List Bytes → Bool
is_head [] = false
is_head (k ∷ []) = false
is_head (k ∷ d ∷ []) = false
is_head (k ∷ d ∷ b ∷ []) = fits form k && (fits opaque d && fits opaque b)
is_head (k ∷ d ∷ b ∷ f ∷ fs) = false
