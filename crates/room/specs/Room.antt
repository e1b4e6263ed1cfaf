-- How many bytes to lend for a call's answer, from its texts' lengths alone: with so many the call is never refused by 6, nor by 9. Assumes nothing.
use Rattle.std.specs.Prelude.{ℕ, ◌+◌, ◌*◌, ◌≤◌, ◌≡◌, List, ◌⊎◌, length}
use Rattle.text.specs.Text.{Bytes}
use Rattle.algebra.specs.Tally.{bounds}
use Rattle.answers.specs.Outcome.{Outcome, refused, Reported}
use Rattle.answers.specs.Both.{ReportedBoth}

-- ---- the bytes to lend

-- scope: the names of the tree; an empty file has an answer of 7 bytes
unfoldable pub scope_room : ℕ → ℕ
scope_room tree = tree + 7

-- rename: a variable of 2 bytes can become one of 129, each with a tab or line end behind it; an empty file becomes two lines
unfoldable pub rename_room : ℕ → ℕ
rename_room tree = 44 * tree + 14

-- merge patterns and merge queries: a variable of 2 bytes can become one of 6, as `?l1000`; a term of a constant is written once; two empty files count as their 28 bytes, which is safe and not tight
unfoldable pub merge_room : ℕ → ℕ → ℕ → ℕ → ℕ
merge_room left right leftConstants rightConstants = 3 * (left + right) + leftConstants + rightConstants + 84

-- push constants: the same for one query, and one empty file
unfoldable pub push_room : ℕ → ℕ → ℕ
push_room query constants = 3 * query + constants + 42

-- negate: four lines more, `filter`, `bgp 0`, `not` and `exists`, and the two lines of an empty file
unfoldable pub negate_room : ℕ → ℕ
negate_room query = query + 38

-- without: as a merge, and no constants
unfoldable pub without_room : ℕ → ℕ → ℕ
without_room left right = 3 * (left + right) + 84

-- bindings: a position of 1 byte can become a column of 129; an empty file becomes two lines
unfoldable pub bindings_room : ℕ → ℕ → ℕ
bindings_room tree sets = tree + 65 * sets + 14

-- filters: `ref 0`, 6 bytes, can become `term` and a column of 129 bytes, under `filter` or `and`; an empty file becomes two lines
unfoldable pub filters_room : ℕ → ℕ → ℕ
filters_room tree filters = tree + 24 * filters + 14

-- and its list: as many numbers as a list of filters may have entries
abbrev pub list_room : ℕ
list_room = bounds.entries

-- namespaces: an IRI of 3 bytes that a line covers, with its tab or line end, can grow by 127; an empty file becomes two lines
unfoldable pub namespaces_room : ℕ → ℕ
namespaces_room tree = 33 * tree + 14

-- the longest text that isn't refused for its length: room for it is room for every text
abbrev pub longest : ℕ
longest = bounds.bytes

-- ---- what they are for

-- whoever lends so many bytes or more is never told 6, "output too short"
unfoldable pub Suffices : ℕ → Outcome → Type 0
unfolding Reported
Suffices room o = (before after : Bytes) (n s : ℕ) → room ≤ length before → Reported o before after n s → n ≡ 6 → ⊥

-- whoever lends so many bytes and so many entries or more is never told 6, nor 9, "list too short"
unfoldable pub SufficesBoth : ℕ → ℕ → Outcome → List ℕ → Type 0
unfolding ReportedBoth
SufficesBoth room entries o xs =
    (before after : Bytes) (lent left : List ℕ) (n s m : ℕ) → room ≤ length before → entries ≤ length lent → ReportedBoth o xs before after lent left n s m → (n ≡ 6 → ⊥) × (n ≡ 9 → ⊥)
