-- What is known of a tree that was read, alone or in a query. Assumes nothing.
use mathlib.Core.Path.{◌≡◌, subst}
use mathlib.Core.List.{List}
use Prim.Native.Nat.{◌≤◌}
use lib.ListN.{length}
use Rattle.text.specs.Text.{Bytes}
use Rattle.algebra.specs.Reader.{reads}
use Rattle.algebra.specs.Given.{read_given_tree, read_given_query}
use Rattle.algebra.specs.Valid.{Valid, ValidQuery}
use Rattle.algebra.proofs.Given.{tree-given, query-given}
use Rattle.scoping.specs.Numbering.{by_place}
use Rattle.scoping.proofs.FirstPlaces.{by-place-query}
use Rattle.merging.specs.Request.{Projection, tree}
use Rattle.merging.specs.Asked.{query_of}

pub record TreeRead (x : Projection) : Type 0 where
  pub valid : Valid (tree x)
  pub names : length (by_place (tree x)) ≤ 1024

pub tree-read : (s : Bytes) (x : Projection) → read_given_tree s ≡ reads (tree x) → TreeRead x
unfolding by_place
tree-read s x e = let y = tree-given s (tree x) e in record { valid = y.valid; names = y.names }

pub query-read : (s kind dataset base : Bytes) (x : Projection) → read_given_query s ≡ reads (query_of kind dataset base (tree x)) → TreeRead x
unfolding ValidQuery
query-read s kind dataset base x e =
    let y = query-given s (query_of kind dataset base (tree x)) e in
    record { valid = y.valid.3; names = subst (λ (l : List Bytes). length l ≤ 1024) (by-place-query (query_of kind dataset base (tree x))) y.names }
