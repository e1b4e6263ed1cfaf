-- For each public call and all texts: what it writes is no longer than the room of specs/Room.antt, and whoever lends so much never sees refusal 6. Assumes nothing.
use Prim.Native.Nat.{ℕ, ◌≤◌}
use mathlib.Core.Path.{◌≡◌}
use lib.ListN.{length}
use Rattle.text.specs.Text.{Bytes}
use Rattle.answers.specs.Outcome.{written}
use Rattle.surveying.specs.Scope.{scope_outcome}
use Rattle.renaming.specs.Rename.{rename_outcome}
use Rattle.merging.specs.Merge.{merge_patterns_outcome, merge_queries_outcome}
use Rattle.merging.specs.Push.{push_constants_outcome}
use Rattle.merging.specs.Negate.{negate_outcome}
use Rattle.merging.specs.Without.{without_queries_outcome}
use Rattle.filtering.specs.Bindings.{bindings_outcome}
use Rattle.algebra.specs.Given.{read_given_tree}
use Rattle.filtering.specs.Filters.{filters_outcome}
use Rattle.filtering.specs.NotPlaced.{filters_not_placed}
use Rattle.filtering.proofs.NotPlaced.{list-in-bounds}
use Rattle.converting.specs.Namespaces.{namespaces_outcome}
use Rattle.room.specs.Room.{scope_room, rename_room, merge_room, push_room, negate_room, without_room, bindings_room, filters_room, list_room, namespaces_room, Suffices, SufficesBoth}
use Rattle.room.proofs.Enough.{written-fits, suffices, suffices-both}
use Rattle.room.proofs.Scope.{scope-enough}
use Rattle.room.proofs.Rename.{rename-enough}
use Rattle.room.proofs.Merge.{merge-patterns-enough, merge-queries-enough}
use Rattle.room.proofs.Push.{push-enough}
use Rattle.room.proofs.Negate.{negate-enough}
use Rattle.room.proofs.Without.{without-enough}
use Rattle.room.proofs.Bindings.{bindings-given-enough}
use Rattle.room.proofs.Filters.{filters-enough, filters-not-nine}
use Rattle.room.proofs.Namespaces.{namespaces-enough}

-- ---- scope

pub scope-room : (tree b : Bytes) → scope_outcome tree ≡ written b → length b ≤ scope_room (length tree)
scope-room tree b e = written-fits (scope_room (length tree)) (scope_outcome tree) b (scope-enough tree) e

pub scope-never-short : (tree : Bytes) → Suffices (scope_room (length tree)) (scope_outcome tree)
scope-never-short tree = suffices (scope_room (length tree)) (scope_outcome tree) (scope-enough tree)

-- ---- rename

pub rename-room : (tree mapping b : Bytes) → rename_outcome tree mapping ≡ written b → length b ≤ rename_room (length tree)
rename-room tree mapping b e = written-fits (rename_room (length tree)) (rename_outcome tree mapping) b (rename-enough tree mapping) e

pub rename-never-short : (tree mapping : Bytes) → Suffices (rename_room (length tree)) (rename_outcome tree mapping)
rename-never-short tree mapping = suffices (rename_room (length tree)) (rename_outcome tree mapping) (rename-enough tree mapping)

-- ---- merge patterns, merge queries

module _ (left right pairs leftConstants rightConstants : Bytes) where
  abbrev room : ℕ
  room = merge_room (length left) (length right) (length leftConstants) (length rightConstants)

  pub merge-patterns-room : (b : Bytes) → merge_patterns_outcome left right pairs leftConstants rightConstants ≡ written b → length b ≤ merge_room (length left) (length right) (length leftConstants) (length rightConstants)
  merge-patterns-room b e = written-fits room (merge_patterns_outcome left right pairs leftConstants rightConstants) b (merge-patterns-enough left right pairs leftConstants rightConstants) e

  pub merge-patterns-never-short : Suffices (merge_room (length left) (length right) (length leftConstants) (length rightConstants)) (merge_patterns_outcome left right pairs leftConstants rightConstants)
  merge-patterns-never-short = suffices room (merge_patterns_outcome left right pairs leftConstants rightConstants) (merge-patterns-enough left right pairs leftConstants rightConstants)

  pub merge-queries-room : (b : Bytes) → merge_queries_outcome left right pairs leftConstants rightConstants ≡ written b → length b ≤ merge_room (length left) (length right) (length leftConstants) (length rightConstants)
  merge-queries-room b e = written-fits room (merge_queries_outcome left right pairs leftConstants rightConstants) b (merge-queries-enough left right pairs leftConstants rightConstants) e

  pub merge-queries-never-short : Suffices (merge_room (length left) (length right) (length leftConstants) (length rightConstants)) (merge_queries_outcome left right pairs leftConstants rightConstants)
  merge-queries-never-short = suffices room (merge_queries_outcome left right pairs leftConstants rightConstants) (merge-queries-enough left right pairs leftConstants rightConstants)

-- ---- push constants

pub push-room : (query constants b : Bytes) → push_constants_outcome query constants ≡ written b → length b ≤ push_room (length query) (length constants)
push-room query constants b e = written-fits (push_room (length query) (length constants)) (push_constants_outcome query constants) b (push-enough query constants) e

pub push-never-short : (query constants : Bytes) → Suffices (push_room (length query) (length constants)) (push_constants_outcome query constants)
push-never-short query constants = suffices (push_room (length query) (length constants)) (push_constants_outcome query constants) (push-enough query constants)

-- ---- negate

pub negate-room : (query b : Bytes) → negate_outcome query ≡ written b → length b ≤ negate_room (length query)
negate-room query b e = written-fits (negate_room (length query)) (negate_outcome query) b (negate-enough query) e

pub negate-never-short : (query : Bytes) → Suffices (negate_room (length query)) (negate_outcome query)
negate-never-short query = suffices (negate_room (length query)) (negate_outcome query) (negate-enough query)

-- ---- without

pub without-room : (left right pairs b : Bytes) → without_queries_outcome left right pairs ≡ written b → length b ≤ without_room (length left) (length right)
without-room left right pairs b e = written-fits (without_room (length left) (length right)) (without_queries_outcome left right pairs) b (without-enough left right pairs) e

pub without-never-short : (left right pairs : Bytes) → Suffices (without_room (length left) (length right)) (without_queries_outcome left right pairs)
without-never-short left right pairs = suffices (without_room (length left) (length right)) (without_queries_outcome left right pairs) (without-enough left right pairs)

-- ---- bindings

pub bindings-room : (tree sets b : Bytes) → bindings_outcome tree sets ≡ written b → length b ≤ bindings_room (length tree) (length sets)
bindings-room tree sets b e = written-fits (bindings_room (length tree) (length sets)) (bindings_outcome tree sets) b (bindings-given-enough tree sets) e

pub bindings-never-short : (tree sets : Bytes) → Suffices (bindings_room (length tree) (length sets)) (bindings_outcome tree sets)
bindings-never-short tree sets = suffices (bindings_room (length tree) (length sets)) (bindings_outcome tree sets) (bindings-given-enough tree sets)

-- ---- filters

pub filters-room : (tree filters b : Bytes) → filters_outcome tree filters ≡ written b → length b ≤ filters_room (length tree) (length filters)
filters-room tree filters b e = written-fits (filters_room (length tree) (length filters)) (filters_outcome tree filters) b (filters-enough tree filters) e

pub filters-list-room : (tree filters : Bytes) → length (filters_not_placed tree filters) ≤ list_room
unfolding filters_not_placed
filters-list-room tree filters = (list-in-bounds (read_given_tree tree) filters).0

pub filters-never-short : (tree filters : Bytes) → SufficesBoth (filters_room (length tree) (length filters)) list_room (filters_outcome tree filters) (filters_not_placed tree filters)
filters-never-short tree filters = suffices-both (filters_room (length tree) (length filters)) list_room (filters_outcome tree filters) (filters_not_placed tree filters) (filters-enough tree filters) (filters-not-nine tree filters) (filters-list-room tree filters)

-- ---- namespaces

pub namespaces-room : (tree table b : Bytes) → namespaces_outcome tree table ≡ written b → length b ≤ namespaces_room (length tree)
namespaces-room tree table b e = written-fits (namespaces_room (length tree)) (namespaces_outcome tree table) b (namespaces-enough tree table) e

pub namespaces-never-short : (tree table : Bytes) → Suffices (namespaces_room (length tree)) (namespaces_outcome tree table)
namespaces-never-short tree table = suffices (namespaces_room (length tree)) (namespaces_outcome tree table) (namespaces-enough tree table)
