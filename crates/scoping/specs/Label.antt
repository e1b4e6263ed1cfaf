-- A name's "Label" and generated names: the strings of nemo's standardize_variables (queries.rs). Assumes nothing.
use Rattle.std.specs.Prelude.{Bool, cond, ◌&&◌, [], ◌∷◌, ℕ, ◌-◌, length, take, drop, leb}
use Rattle.text.specs.Text.{Bytes, same}
use Rattle.text.specs.Word.{bytes}
use Rattle.text.specs.Field.{decimal}

-- the five bytes Label
abbrev pub label : Bytes
label = bytes "Label"

-- a name ends in "Label"
unfoldable pub is_label : Bytes → Bool
unfolding same
is_label v = leb 5 (length v) && same (drop (length v - 5) v) label

-- strip_suffix("Label"), or the name: one "Label" is stripped
unfoldable pub base : Bytes → Bytes
unfolding is_label
base v = cond (is_label v) (take (length v - 5) v) v

-- format!("{prefix}{count}"), with the ? of a variable; a prefix is one byte
unfoldable pub generated : ℕ → ℕ → Bytes
unfolding decimal
generated prefix n = 63 ∷ prefix ∷ decimal n

-- the prefixes: join columns, the left and the right side of a merge, a single tree
abbrev pub prefix_j : ℕ
prefix_j = 106

abbrev pub prefix_l : ℕ
prefix_l = 108

abbrev pub prefix_r : ℕ
prefix_r = 114

abbrev pub prefix_v : ℕ
prefix_v = 118
