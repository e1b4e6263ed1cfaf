-- The texts that a program reads: docs/SPECIFICATION.md, "Programs". Assumes nothing.
use Rattle.std.specs.Prelude.{List, [], ◌∷◌, ◌++◌, cond}
use Rattle.text.specs.Text.{Bytes, same, split}
use Rattle.text.specs.Word.{bytes}

-- the bytes of a line `--`, before its line end
abbrev pub bar : Bytes
bar = bytes "--"

-- bytes in front of the first text
unfoldable pub before : Bytes → List Bytes → List Bytes
before b [] = b ∷ []
before b (t ∷ ts) = (b ++ t) ∷ ts

-- the texts, of the parts between line ends: each part but the last is a line; a line `--` ends a text, any other stands in its text
unfoldable pub texts_in : List Bytes → List Bytes
unfolding same before
texts_in [] = [] ∷ []
texts_in (p ∷ []) = p ∷ []
texts_in (l ∷ m ∷ ls) = cond (same l bar) ([] ∷ texts_in (m ∷ ls)) (before (l ++ (10 ∷ [])) (texts_in (m ∷ ls)))

-- the texts of an input: one more than it has lines `--`; the last may be unended
unfoldable pub texts : Bytes → List Bytes
unfolding split texts_in
texts s = texts_in (split 10 s)
