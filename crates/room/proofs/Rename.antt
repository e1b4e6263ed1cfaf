-- What rename needs: 44 times its tree, and two lines for an empty file. Assumes nothing.
use Prim.Native.Nat.{◌+◌, ◌*◌}
use mathlib.Core.List.{[], ◌∷◌}
use native.Mathlib.Omega.{arith}
use lib.ListN.{length}
use Rattle.text.specs.Text.{Bytes, ended, text_of}
use Rattle.text.specs.Field.{digits, decimal}
use Rattle.algebra.specs.Query.{mapping}
use Rattle.algebra.specs.Layout.{put_triples, put, layout}
use Rattle.algebra.specs.Given.{empty_tree}
use Rattle.algebra.proofs.Given.{empty-reads, tree-as-it-is}
use Rattle.algebra.specs.Texts.{read_tree, read_pairs}
use Rattle.answers.specs.Outcome.{written, then}
use Rattle.scoping.specs.Rename.{rename_in_graph_pattern}
use Rattle.renaming.specs.Rename.{becomes, rename_outcome}
use Rattle.renaming.specs.bridge.AsIs.{rename_as_is}
use Rattle.renaming.proofs.Long.{renamed-long}
use Rattle.room.specs.Room.{rename_room}
use Rattle.room.proofs.Enough.{Enough, then-enough, enough-more}

-- of a tree's text as it stands
as-it-stands : (tree pairs : Bytes) → Enough (44 * length tree) (rename_as_is tree pairs)
unfolding rename_as_is Enough
as-it-stands tree pairs = then-enough (44 * length tree) (read_tree tree) (λ p. then (read_pairs mapping pairs) λ xs. written (layout (rename_in_graph_pattern (becomes xs) p))) λ p e.
    then-enough (44 * length tree) (read_pairs mapping pairs) (λ xs. written (layout (rename_in_graph_pattern (becomes xs) p))) λ xs i.
    renamed-long tree pairs p xs e i

-- an empty file has no names
pub rename-enough : (tree pairs : Bytes) → Enough (rename_room (length tree)) (rename_outcome tree pairs)
unfolding rename_outcome rename_as_is rename_room Enough layout put put_triples text_of ended decimal digits rename_in_graph_pattern
rename-enough [] pairs = rw empty-reads (then-enough (44 * 0 + 14) (read_pairs mapping pairs) (λ xs. written (layout (rename_in_graph_pattern (becomes xs) empty_tree))) λ xs i. omega arith)
rename-enough (b ∷ s) pairs = rw (tree-as-it-is b s) (enough-more (44 * length (b ∷ s)) (44 * length (b ∷ s) + 14) (rename_as_is (b ∷ s) pairs) (omega arith) (as-it-stands (b ∷ s) pairs))
