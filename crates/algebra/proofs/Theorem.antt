-- For every kind of text and every bounds: it is read as something exactly if it is the layout of that, well formed and within the bounds. Assumes nothing.
use mathlib.Core.Path.{◌≡◌, refl}
use mathlib.Core.Logic.{◌↔◌}
use mathlib.Core.List.{List, []}
use native.Mathlib.Omega.{arith}
use lib.ListN.{length}
use Rattle.text.specs.Text.{Bytes}
use Rattle.algebra.specs.Tree.{Pattern}
use Rattle.algebra.specs.Query.{Query, PairList, Pair, BindingSet, Filter}
use Rattle.algebra.specs.Layout.{put, layout, put_query, put_pairs, put_sets, put_filters}
use Rattle.algebra.specs.Valid.{Valid, ValidQuery, ValidPairs, ValidSets, ValidFilters}
use Rattle.algebra.specs.Depth.{depth}
use Rattle.algebra.specs.Tally.{Limits, bounds, start, tally, tally_query, tally_pairs, tally_sets, tally_filters}
use Rattle.algebra.specs.Reader.{reads, number-of, read_text}
use Rattle.algebra.specs.Reading.{inside, tree}
use Rattle.algebra.specs.ListReading.{query, pairs, binding_sets, filters}
use Rattle.algebra.specs.Texts.{read_tree, read_query, read_pairs, read_sets, read_filters}
use Rattle.algebra.specs.Bounded.{layout_query, layout_pairs, layout_sets, layout_filters, depth_filters, IsTree, IsQuery, IsPairs, IsSets, IsFilters}
use Rattle.algebra.specs.bridge.Just.{Just}
use Rattle.algebra.proofs.Grow.{start-in}
use Rattle.algebra.proofs.Neat.{neat, query-neat, pairs-neat, sets-neat, filters-neat}
use Rattle.algebra.proofs.Back.{back}
use Rattle.algebra.proofs.BackLists.{query-back, pairs-back, sets-back, filters-back}
use Rattle.algebra.proofs.Sound.{levels, pattern-sound}
use Rattle.algebra.proofs.SoundLists.{query-sound, pairs-sound, sets-sound, filters-sound}
use Rattle.algebra.proofs.Exactly.{Matches, reads-exactly, zero-exactly}

module _ (β : Limits) where
  pub tree-matches : Matches β (tree β) (λ p. put p []) Valid tally depth (λ p. 0)
  tree-matches = record {
    sound = λ s l p e. let x = pattern-sound β β.depth (inside β β.depth) (levels β β.depth) s [] start l p (start-in β) e in (x.0, x.1, (x.2.0, x.2.1, x.2.2, omega arith));
    back = λ p v d n o. back β p [] start β.depth v d o;
    neat = λ p v. neat p [] v tt;
  }

  pub query-matches : Matches β (query β) (λ q. put_query q []) ValidQuery tally_query (λ q. depth q.tree) (λ q. 0)
  query-matches = record {
    sound = λ s l q e. let x = query-sound β s [] start l q (start-in β) e in (x.0, x.1, (x.2.0, x.2.1, x.2.2, omega arith));
    back = λ q v d n o. query-back β q [] start v d o;
    neat = λ q v. query-neat q [] v tt;
  }

  pub pairs-match : (κ : PairList) → Matches β (pairs β κ) (λ xs. put_pairs xs []) (ValidPairs κ []) (tally_pairs κ) (λ xs. 0) length
  pairs-match κ = record {
    sound = λ s l xs e. let x = pairs-sound β κ β.entries [] s [] start l xs (λ u. refl) (start-in β) e in (x.0, x.1, (x.2.0, x.2.1, omega arith, x.2.3));
    back = λ xs v d n o. pairs-back β κ β.entries [] xs start (λ u. refl) v n o;
    neat = λ xs v. pairs-neat κ [] xs [] v tt;
  }

  pub sets-match : Matches β (binding_sets β) (λ xs. put_sets xs []) ValidSets tally_sets (λ xs. 0) length
  sets-match = record {
    sound = λ s l xs e. let x = sets-sound β β.entries s [] start l xs (start-in β) e in (x.0, x.1, (x.2.0, x.2.1, omega arith, x.2.3));
    back = λ xs v d n o. sets-back β β.entries xs start v n o;
    neat = λ xs v. sets-neat xs [] v tt;
  }

  pub filters-match : Matches β (filters β) (λ fs. put_filters fs []) ValidFilters tally_filters depth_filters length
  filters-match = record {
    sound = λ s l fs e. let x = filters-sound β β.entries s [] start l fs (start-in β) e in (x.0, x.1, (x.2.0, x.2.1, x.2.2, x.2.4));
    back = λ fs v d n o. filters-back β β.entries fs start v d n o;
    neat = λ fs v. filters-neat fs [] v tt;
  }

  -- ---- what a text is read as

  pub read-exactly : (s : Bytes) (p : Pattern) → (read_text β (tree β) s ≡ reads p) ↔ IsTree β s p
  unfolding layout
  read-exactly s p = reads-exactly β _ _ _ _ _ _ tree-matches s p

  pub read-query-exactly : (s : Bytes) (q : Query) → (read_text β (query β) s ≡ reads q) ↔ IsQuery β s q
  unfolding layout_query
  read-query-exactly s q = reads-exactly β _ _ _ _ _ _ query-matches s q

  pub read-pairs-exactly : (κ : PairList) (s : Bytes) (xs : List Pair) → (read_text β (pairs β κ) s ≡ reads xs) ↔ IsPairs β κ s xs
  unfolding layout_pairs
  read-pairs-exactly κ s xs = reads-exactly β _ _ _ _ _ _ (pairs-match κ) s xs

  pub read-sets-exactly : (s : Bytes) (xs : List BindingSet) → (read_text β (binding_sets β) s ≡ reads xs) ↔ IsSets β s xs
  unfolding layout_sets
  read-sets-exactly s xs = reads-exactly β _ _ _ _ _ _ sets-match s xs

  pub read-filters-exactly : (s : Bytes) (fs : List Filter) → (read_text β (filters β) s ≡ reads fs) ↔ IsFilters β s fs
  unfolding layout_filters
  read-filters-exactly s fs = reads-exactly β _ _ _ _ _ _ filters-match s fs

  -- ---- a text's number is 0 exactly if it is the layout of one tree, query or list, well formed and within the bounds

  pub good-exactly : (s : Bytes) → (number-of (read_text β (tree β) s) ≡ 0) ↔ Just (IsTree β s)
  unfolding layout
  good-exactly s = zero-exactly β _ _ _ _ _ _ tree-matches s

  pub good-query-exactly : (s : Bytes) → (number-of (read_text β (query β) s) ≡ 0) ↔ Just (IsQuery β s)
  unfolding layout_query
  good-query-exactly s = zero-exactly β _ _ _ _ _ _ query-matches s

  pub good-pairs-exactly : (κ : PairList) (s : Bytes) → (number-of (read_text β (pairs β κ) s) ≡ 0) ↔ Just (IsPairs β κ s)
  unfolding layout_pairs
  good-pairs-exactly κ s = zero-exactly β _ _ _ _ _ _ (pairs-match κ) s

  pub good-sets-exactly : (s : Bytes) → (number-of (read_text β (binding_sets β) s) ≡ 0) ↔ Just (IsSets β s)
  unfolding layout_sets
  good-sets-exactly s = zero-exactly β _ _ _ _ _ _ sets-match s

  pub good-filters-exactly : (s : Bytes) → (number-of (read_text β (filters β) s) ≡ 0) ↔ Just (IsFilters β s)
  unfolding layout_filters
  good-filters-exactly s = zero-exactly β _ _ _ _ _ _ filters-match s

-- ---- within the specification's bounds

pub tree-exactly : (s : Bytes) (p : Pattern) → (read_tree s ≡ reads p) ↔ IsTree bounds s p
unfolding read_tree
tree-exactly s p = read-exactly bounds s p

pub query-exactly : (s : Bytes) (q : Query) → (read_query s ≡ reads q) ↔ IsQuery bounds s q
unfolding read_query
query-exactly s q = read-query-exactly bounds s q

pub pairs-exactly : (κ : PairList) (s : Bytes) (xs : List Pair) → (read_pairs κ s ≡ reads xs) ↔ IsPairs bounds κ s xs
unfolding read_pairs
pairs-exactly κ s xs = read-pairs-exactly bounds κ s xs

pub sets-exactly : (s : Bytes) (xs : List BindingSet) → (read_sets s ≡ reads xs) ↔ IsSets bounds s xs
unfolding read_sets
sets-exactly s xs = read-sets-exactly bounds s xs

pub filters-exactly : (s : Bytes) (fs : List Filter) → (read_filters s ≡ reads fs) ↔ IsFilters bounds s fs
unfolding read_filters
filters-exactly s fs = read-filters-exactly bounds s fs
