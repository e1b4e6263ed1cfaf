-- The place behind a line, by the key of its word. Assumes nothing.
use Prim.Native.Nat.{ℕ}
use mathlib.Core.Path.{◌≡◌, refl}
use mathlib.Core.Bool.{true, false}
use Rattle.text.specs.Text.{Bytes, same}
use Rattle.text.specs.Word.{bytes}
use Rattle.words.specs.bridge.Key.{key_of, Keyed}
use Rattle.words.proofs.ByKey.{small, tells, is_word, other_key}
use Rattle.spelling.specs.bridge.Judging.{place_under}
use Rattle.phrasing.specs.declared.place.Place.TheVariants.{Inner, Root, UnderDistinct, UnderProject, UnderSlice}
use Rattle.phrasing.specs.bridge.Code.{place_at}

-- behind a line, by the key of its word
module _ (f : Bytes) (k : ℕ) (keyed : Keyed f k) where
  is : (w : Bytes) → tells w ≡ true → k ≡ key_of 0 w → f ≡ w
  is = is_word f k keyed

  no : (w : Bytes) → tells w ≡ true → (k ≡ key_of 0 w → ⊥) → same f w ≡ false
  no = other_key f k keyed

  pub under-query : k ≡ key_of 0 (bytes "query") → place_at Root ≡ place_under f
  unfolding place_under same small tells
  under-query t = rw (is (bytes "query") refl t)

  pub under-slice : k ≡ key_of 0 (bytes "slice") → place_at UnderSlice ≡ place_under f
  unfolding place_under same small tells
  under-slice t = rw (is (bytes "slice") refl t)

  pub under-distinct : k ≡ key_of 0 (bytes "distinct") → place_at UnderDistinct ≡ place_under f
  unfolding place_under same small tells
  under-distinct t = rw (is (bytes "distinct") refl t)

  pub under-reduced : k ≡ key_of 0 (bytes "reduced") → place_at UnderDistinct ≡ place_under f
  unfolding place_under same small tells
  under-reduced t = rw (is (bytes "reduced") refl t)

  pub under-project : k ≡ key_of 0 (bytes "project") → place_at UnderProject ≡ place_under f
  unfolding place_under same small tells
  under-project t = rw (is (bytes "project") refl t)

  pub under-other : (k ≡ key_of 0 (bytes "query") → ⊥) → (k ≡ key_of 0 (bytes "slice") → ⊥) → (k ≡ key_of 0 (bytes "distinct") → ⊥) → (k ≡ key_of 0 (bytes "reduced") → ⊥) → (k ≡ key_of 0 (bytes "project") → ⊥) → place_at Inner ≡ place_under f
  unfolding place_under small tells
  under-other a b c d e = rw (no (bytes "query") refl a, no (bytes "slice") refl b, no (bytes "distinct") refl c, no (bytes "reduced") refl d, no (bytes "project") refl e)
