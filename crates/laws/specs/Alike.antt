-- Texts that differ only inside literals, behind their first quote: docs/SPECIFICATION.md, "Literals changed". Assumes nothing.
use Rattle.std.specs.Prelude.{◌≡◌, Bool, true, false, List, [], ◌∷◌, ℕ, length}
use Rattle.text.specs.Text.{Bytes, Line, same, lines_of}
use Rattle.text.specs.Word.{bytes}
use Rattle.text.specs.Field.{clean}
use Rattle.answers.specs.Outcome.{Outcome, refused, written}

-- two lists, element by element
pub data AllAlike {A : Type 0} (R : A → A → Type 0) : List A → List A → Type 0 where
  ends : AllAlike R [] []
  also : {x y : A} {xs ys : List A} → R x y → AllAlike R xs ys → AllAlike R (x ∷ xs) (y ∷ ys)

-- one field; or two of one length that start with a quote, byte 34, have no tab and no line end, and are both among those that may be changed
pub data AlikeField (may : Bytes → Bool) : Bytes → Bytes → Type 0 where
  equal : (f : Bytes) → AlikeField may f f
  literals : (a b : Bytes) → clean a ≡ true → clean b ≡ true → length a ≡ length b → may (34 ∷ a) ≡ true → may (34 ∷ b) ≡ true → AlikeField may (34 ∷ a) (34 ∷ b)

-- one line; or one first field, and the others field by field. A query's head line has no literal: its dataset and base may hold any bytes, and are compared
pub data AlikeLine (may : Bytes → Bool) : Line → Line → Type 0 where
  untouched : (l : Line) → AlikeLine may l l
  touched : (w : Bytes) (fs gs : List Bytes) → same w (bytes "query") ≡ false → AllAlike (AlikeField may) fs gs → AlikeLine may (w ∷ fs) (w ∷ gs)

-- two texts of one length, line by line
pub record Alike (may : Bytes → Bool) (s t : Bytes) : Type 0 where
  pub long : length s ≡ length t
  pub lines : AllAlike (AlikeLine may) (lines_of s) (lines_of t)

-- one refusal, or two such texts
pub data AlikeOutcome (may : Bytes → Bool) : Outcome → Outcome → Type 0 where
  refused_alike : (n : ℕ) → AlikeOutcome may (refused n) (refused n)
  written_alike : (a b : Bytes) → Alike may a b → AlikeOutcome may (written a) (written b)
