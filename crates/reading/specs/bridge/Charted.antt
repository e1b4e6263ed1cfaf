-- What a check that notes spots promises: the text's number, the table of its names, and where they stand in its tree. Assumes nothing.
use Rattle.std.specs.Prelude.{ℕ, ◌*◌, ◌≤◌, ◌≡◌, List, [], length, Ok, Err}
use Rattle.text.specs.Text.{Bytes, lines_from}
use Rattle.algebra.specs.Tree.{Pattern}
use Rattle.algebra.specs.Query.{Query}
use Rattle.algebra.specs.Layout.{put}
use Rattle.algebra.specs.Reader.{malformed, over_bound, Outcome, reads, refuses}
use Rattle.names.specs.bridge.Names.{Holds}
use Rattle.lines.specs.bridge.Noded.{Noded, Roomy}
use Rattle.lines.specs.bridge.Spotted.{Noted}
use Rattle.checking.specs.bridge.Walks.{counts, Noting}
use Rattle.algebra.specs.declared.Fault.TheVariants.{Malformed, OverBound}

-- where a tree's text starts, and the tree of a query's
abbrev pub tree_start : Bytes → Pattern → ℕ → Type 0
tree_start s p i = i ≡ 0

abbrev pub query_start : Bytes → Query → ℕ → Type 0
query_start s q i = (i ≤ length s) × (lines_from s i ≡ put q.tree [])

-- where the text s says x, the answer is good and the table lists the names of x, in their order, and where there was room for the spots and the nodes,
-- they are all that the walk over its tree finds; else it is the refusal
unfoldable pub Charted : {A : Type 0} → (A → List Bytes) → (Bytes → A → ℕ → Type 0) → Bytes → List ℕ → List ℕ → List ℕ → List (List ℕ) → List (List ℕ) → List (List ℕ) → List (List ℕ) → Outcome A → Noting → Type 0
Charted names start s starts sizes hints before after words b (reads x) r =
    (n : ℕ) × (k : ℕ) × (m : ℕ) × (r ≡ Ok (counts n k m)) × Holds s starts sizes hints n (names x)
    × (length s ≤ 3 * length before → (n ≤ 1024) × ((i : ℕ) → start s x i → (w : Noted s i (names x) after k) × (Roomy s b → Noded words b m w.nodes)))
Charted names start s starts sizes hints before after words b (refuses malformed) r = r ≡ Err Malformed
Charted names start s starts sizes hints before after words b (refuses over_bound) r = r ≡ Err OverBound
