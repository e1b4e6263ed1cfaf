-- Room for the longest texts is room for all: a longer text is refused for its length. So a buffer can be of one size for all texts. Assumes nothing.
use Prim.Native.Nat.{ℕ, ◌≤◌}
use mathlib.Core.Path.{◌≡◌, refl, ap}
use mathlib.Core.List.{List}
use native.Mathlib.Omega.{arith}
use lib.ListN.{length}
use Rattle.text.specs.Text.{Bytes}
use Rattle.algebra.specs.Tree.{Pattern}
use Rattle.algebra.specs.Query as Kinds
use Rattle.algebra.specs.Query.{Query, BindingSet, Filter}
use Rattle.algebra.specs.Reader.{reads}
use Rattle.algebra.specs.Given.{read_given_tree, read_given_query}
use Rattle.algebra.specs.Texts.{read_pairs, read_sets, read_filters}
use Rattle.algebra.proofs.Given.{tree-given, query-given}
use Rattle.algebra.proofs.Theorem.{pairs-exactly, sets-exactly, filters-exactly}
use Rattle.answers.specs.Outcome.{Outcome, refused, written}
use Rattle.merging.specs.Sides.{Constant}
use Rattle.merging.specs.Request.{constants_in, by_position, read_joins, read_constants}
use Rattle.merging.specs.Merge.{merge_patterns_outcome, merge_queries_outcome}
use Rattle.merging.specs.Push.{push_constants_outcome}
use Rattle.merging.specs.Negate.{negate_outcome}
use Rattle.merging.specs.Without.{without_queries_outcome}
use Rattle.merging.proofs.Given.{then-written, made_reads}
use Rattle.surveying.specs.Scope.{scope_outcome}
use Rattle.renaming.specs.Rename.{rename_outcome}
use Rattle.filtering.specs.Bindings.{bindings_outcome}
use Rattle.filtering.specs.Filters.{filters_outcome}
use Rattle.converting.specs.Namespaces.{namespaces_outcome}
use Rattle.room.specs.Room.{scope_room, rename_room, merge_room, push_room, negate_room, without_room, bindings_room, filters_room, namespaces_room, longest, Suffices}
use Rattle.room.proofs.Enough.{Enough, suffices}
use Rattle.room.proofs.Scope.{scope-enough}
use Rattle.room.proofs.Rename.{rename-enough}
use Rattle.room.proofs.Merge.{merge-patterns-enough, merge-queries-enough}
use Rattle.room.proofs.Push.{push-enough}
use Rattle.room.proofs.Negate.{negate-enough}
use Rattle.room.proofs.Without.{without-enough}
use Rattle.room.proofs.Bindings.{bindings-given-enough}
use Rattle.room.proofs.Filters.{filters-enough}
use Rattle.room.proofs.Namespaces.{namespaces-enough}

-- ---- texts that are read

tree-short : (s : Bytes) (p : Pattern) → read_given_tree s ≡ reads p → length s ≤ longest
tree-short s p e = (tree-given s p e).bytes

query-short : (s : Bytes) (q : Query) → read_given_query s ≡ reads q → length s ≤ longest
query-short s q e = (query-given s q e).bytes

sets-short : (s : Bytes) (xs : List BindingSet) → read_sets s ≡ reads xs → length s ≤ longest
sets-short s xs e = let y = (sets-exactly s xs).0 e in omega (arith, y.2.bytes, ap length y.0)

filters-short : (s : Bytes) (fs : List Filter) → read_filters s ≡ reads fs → length s ≤ longest
filters-short s fs e = let y = (filters-exactly s fs).0 e in omega (arith, y.2.bytes, ap length y.0)

constants-short : (s : Bytes) (ks : List Constant) → read_constants s ≡ reads ks → length s ≤ longest
unfolding read_constants
constants-short s ks e =
    let x = made_reads (λ xs. by_position (constants_in xs)) (read_pairs Kinds.constants s) ks e in
    let y = (pairs-exactly Kinds.constants s x.0).0 x.1 in
    omega (arith, y.2.bytes, ap length y.0)

-- ---- outcomes

-- enough for texts that are read is enough
most-suffices : (less more : ℕ) (o : Outcome) → Enough less o → ((b : Bytes) → o ≡ written b → less ≤ more) → Suffices more o
unfolding Enough
most-suffices less more (refused k) h f = suffices more (refused k) h
most-suffices less more (written b) h f = suffices more (written b) (omega (arith, f b refl))

pub scope-most : (tree : Bytes) → Suffices (scope_room longest) (scope_outcome tree)
unfolding scope_outcome scope_room
scope-most tree = most-suffices (scope_room (length tree)) (scope_room longest) (scope_outcome tree) (scope-enough tree) λ b e.
    let x = then-written (read_given_tree tree) _ b e in
    omega (arith, tree-short tree x.0 x.1)

pub rename-most : (tree mapping : Bytes) → Suffices (rename_room longest) (rename_outcome tree mapping)
unfolding rename_outcome rename_room
rename-most tree mapping = most-suffices (rename_room (length tree)) (rename_room longest) (rename_outcome tree mapping) (rename-enough tree mapping) λ b e.
    let x = then-written (read_given_tree tree) _ b e in
    omega (arith, tree-short tree x.0 x.1)

pub negate-most : (query : Bytes) → Suffices (negate_room longest) (negate_outcome query)
unfolding negate_outcome negate_room
negate-most query = most-suffices (negate_room (length query)) (negate_room longest) (negate_outcome query) (negate-enough query) λ b e.
    let x = then-written (read_given_query query) _ b e in
    omega (arith, query-short query x.0 x.1)

pub push-most : (query constants : Bytes) → Suffices (push_room longest longest) (push_constants_outcome query constants)
unfolding push_constants_outcome push_room
push-most query constants = most-suffices (push_room (length query) (length constants)) (push_room longest longest) (push_constants_outcome query constants) (push-enough query constants) λ b e.
    let x = then-written (read_given_query query) _ b e in
    let y = then-written (read_constants constants) _ b x.2 in
    omega (arith, query-short query x.0 x.1, constants-short constants y.0 y.1)

pub without-most : (left right pairs : Bytes) → Suffices (without_room longest longest) (without_queries_outcome left right pairs)
unfolding without_queries_outcome without_room
without-most left right pairs = most-suffices (without_room (length left) (length right)) (without_room longest longest) (without_queries_outcome left right pairs) (without-enough left right pairs) λ b e.
    let x = then-written (read_given_query left) _ b e in
    let y = then-written (read_given_query right) _ b x.2 in
    omega (arith, query-short left x.0 x.1, query-short right y.0 y.1)

pub bindings-most : (tree sets : Bytes) → Suffices (bindings_room longest longest) (bindings_outcome tree sets)
unfolding bindings_outcome bindings_room
bindings-most tree sets = most-suffices (bindings_room (length tree) (length sets)) (bindings_room longest longest) (bindings_outcome tree sets) (bindings-given-enough tree sets) λ b e.
    let x = then-written (read_given_tree tree) _ b e in
    let y = then-written (read_sets sets) _ b x.2 in
    omega (arith, tree-short tree x.0 x.1, sets-short sets y.0 y.1)

pub filters-most : (tree filters : Bytes) → Suffices (filters_room longest longest) (filters_outcome tree filters)
unfolding filters_outcome filters_room
filters-most tree filters = most-suffices (filters_room (length tree) (length filters)) (filters_room longest longest) (filters_outcome tree filters) (filters-enough tree filters) λ b e.
    let x = then-written (read_given_tree tree) _ b e in
    let y = then-written (read_filters filters) _ b x.2 in
    omega (arith, tree-short tree x.0 x.1, filters-short filters y.0 y.1)

pub namespaces-most : (tree table : Bytes) → Suffices (namespaces_room longest) (namespaces_outcome tree table)
unfolding namespaces_outcome namespaces_room
namespaces-most tree table = most-suffices (namespaces_room (length tree)) (namespaces_room longest) (namespaces_outcome tree table) (namespaces-enough tree table) λ b e.
    let x = then-written (read_given_tree tree) _ b e in
    omega (arith, tree-short tree x.0 x.1)

module _ (left right pairs leftConstants rightConstants : Bytes) where
  abbrev own : ℕ
  own = merge_room (length left) (length right) (length leftConstants) (length rightConstants)

  abbrev most : ℕ
  most = merge_room longest longest longest longest

  pub merge-patterns-most : Suffices (merge_room longest longest longest longest) (merge_patterns_outcome left right pairs leftConstants rightConstants)
  unfolding merge_patterns_outcome merge_room
  merge-patterns-most = most-suffices own most (merge_patterns_outcome left right pairs leftConstants rightConstants) (merge-patterns-enough left right pairs leftConstants rightConstants) λ b e.
      let x = then-written (read_given_tree left) _ b e in
      let y = then-written (read_given_tree right) _ b x.2 in
      let z = then-written (read_joins pairs) _ b y.2 in
      let u = then-written (read_constants leftConstants) _ b z.2 in
      let v = then-written (read_constants rightConstants) _ b u.2 in
      omega (arith, tree-short left x.0 x.1, tree-short right y.0 y.1, constants-short leftConstants u.0 u.1, constants-short rightConstants v.0 v.1)

  pub merge-queries-most : Suffices (merge_room longest longest longest longest) (merge_queries_outcome left right pairs leftConstants rightConstants)
  unfolding merge_queries_outcome merge_room
  merge-queries-most = most-suffices own most (merge_queries_outcome left right pairs leftConstants rightConstants) (merge-queries-enough left right pairs leftConstants rightConstants) λ b e.
      let x = then-written (read_given_query left) _ b e in
      let y = then-written (read_given_query right) _ b x.2 in
      let z = then-written (read_joins pairs) _ b y.2 in
      let u = then-written (read_constants leftConstants) _ b z.2 in
      let v = then-written (read_constants rightConstants) _ b u.2 in
      omega (arith, query-short left x.0 x.1, query-short right y.0 y.1, constants-short leftConstants u.0 u.1, constants-short rightConstants v.0 v.1)
