-- What filters writes, by places in its texts. Assumes nothing.
use Rattle.std.specs.Prelude.{ℕ, Bool, true, cond, List, [], ◌++◌, get_or, take, drop, ltb}
use Rattle.text.specs.Text.{Bytes, Line, same, text_of, part}
use Rattle.text.specs.Word.{bytes}
use Rattle.merging.specs.Request.{position}
use Rattle.negating.specs.bridge.Lines.{word}
use Rattle.filtering.specs.bridge.SetLines.{repeated}

-- a `ref` line names a position below the width
unfoldable pub ref_below : ℕ → Line → Bool
unfolding same position
ref_below w l = cond (same (word l) (bytes "ref")) (ltb (position (get_or l 1 [])) w) true

-- down to the projection, `filter`, the inner pattern, so many lines `and`, the expressions' lines, the rest
unfoldable pub filtered_at : Bytes → ℕ → ℕ → ℕ → List Line → Bytes
unfolding repeated text_of
filtered_at s inner end ands lines =
    take inner s ++ (bytes "filter\n" ++ (part inner end s ++ (text_of (repeated ands (bytes "and") []) ++ (text_of lines ++ drop end s))))
