-- Worked examples of texts parted by lines `--`. Assumes nothing.
use Rattle.std.specs.Prelude.{◌≡◌, refl, List, [], ◌∷◌}
use Rattle.text.specs.Text.{same, split, onto}
use Rattle.text.specs.Word.{bytes}
use Rattle.parted.specs.Parted.{before, texts_in, texts}

two-texts : texts (bytes "distinct\nbgp\t0\n--\n?a\t?b\n") ≡ bytes "distinct\nbgp\t0\n" ∷ bytes "?a\t?b\n" ∷ []
unfolding texts texts_in before split onto same
two-texts = refl

-- an unended `--` is no line, and neither a longer line nor a part of a line parts texts
no-bars : texts (bytes "---\na--\n--b\n--") ≡ bytes "---\na--\n--b\n--" ∷ []
unfolding texts texts_in before split onto same
no-bars = refl

-- texts may be empty
empty-texts : texts (bytes "--\n--\n") ≡ [] ∷ [] ∷ [] ∷ []
unfolding texts texts_in before split onto same
empty-texts = refl

no-input : texts [] ≡ [] ∷ []
unfolding texts texts_in split
no-input = refl
