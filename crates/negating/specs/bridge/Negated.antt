-- What negate writes of a query, by a place in its text: where the outermost projection's inner pattern starts. Assumes nothing.
use Rattle.std.specs.Prelude.{ℕ, ◌++◌, take, drop}
use Rattle.text.specs.Text.{Bytes}
use Rattle.text.specs.Word.{bytes}

-- the lines in front of a pattern that is asked not to exist, over `bgp 0`
abbrev pub not_exists : Bytes
not_exists = bytes "filter\nbgp\t0\nnot\nexists\n"

-- the text with those lines at a place
unfoldable pub negated_at : ℕ → Bytes → Bytes
negated_at inner s = take inner s ++ (not_exists ++ drop inner s)
