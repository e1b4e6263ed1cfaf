-- Texts that are read: their lines, which are all ended, and the bounds that the code needs. Assumes nothing.
use Prim.Native.Nat.{ℕ, ◌≤◌}
use mathlib.Core.Path.{◌≡◌, sym, ap, subst, ◌∙◌}
use mathlib.Core.List.{List, []}
use native.Mathlib.Omega.{arith}
use lib.ListN.{length}
use Rattle.text.specs.Text.{Bytes, lines_of, lines_from}
use Rattle.text.proofs.Texts.{Ended, neat-ended, lines-back, text-length}
use Rattle.text.proofs.Places.{lines_start}
use Rattle.algebra.specs.Tree.{Pattern}
use Rattle.algebra.specs.Query.{BindingSet, Filter}
use Rattle.algebra.specs.Layout.{put, layout, put_sets, put_filters}
use Rattle.algebra.specs.Tally.{Tally, bounds, start, noted, headed, tally}
use Rattle.algebra.specs.Valid.{Valid, ValidFilters}
use Rattle.algebra.specs.Bounded.{layout_sets, layout_filters}
use Rattle.algebra.specs.Reader.{reads}
use Rattle.algebra.specs.Texts.{read_tree, read_sets, read_filters}
use Rattle.algebra.proofs.Neat.{neat, sets-neat, filters-neat}
use Rattle.algebra.proofs.Theorem.{tree-exactly, sets-exactly, filters-exactly}
use Rattle.algebra.proofs.Grow.{In, counts, in_bounds, grow, grow_os, grow_as}
use Rattle.merging.specs.Request.{Projection}
use Rattle.negating.proofs.Found.{Outermost, here, under-distinct, under-reduced, under-slice, under_orderby, under_group}

-- ---- lines

module _ (s : Bytes) (p : Pattern) (e : read_tree s ≡ reads p) where
  pub tree-at : lines_from s 0 ≡ put p []
  unfolding layout
  tree-at = let x = (tree-exactly s p).0 e in sym (lines_start s) ∙ ap lines_of (sym x.0) ∙ lines-back (put p []) (neat p [] x.1 tt)

  pub tree-text : layout p ≡ s
  tree-text = ((tree-exactly s p).0 e).0

  pub tree-valid : Valid p
  tree-valid = ((tree-exactly s p).0 e).1

  pub tree-ended : Ended (put p [])
  tree-ended = neat-ended (put p []) (neat p [] tree-valid tt)

  pub tree-short : length s ≤ 16384
  tree-short = let x = (tree-exactly s p).0 e in subst (λ (b : Bytes). length b ≤ 16384) x.0 x.2.bytes

module _ (s : Bytes) (xs : List BindingSet) (e : read_sets s ≡ reads xs) where
  pub sets-at : lines_from s 0 ≡ put_sets xs []
  unfolding layout_sets
  sets-at = let x = (sets-exactly s xs).0 e in sym (lines_start s) ∙ ap lines_of (sym x.0) ∙ lines-back (put_sets xs []) (sets-neat xs [] x.1 tt)

  pub sets-ended : Ended (lines_from s 0)
  sets-ended = subst Ended (sym sets-at) (neat-ended (put_sets xs []) (sets-neat xs [] ((sets-exactly s xs).0 e).1 tt))

module _ (s : Bytes) (fs : List Filter) (e : read_filters s ≡ reads fs) where
  pub filters-at : lines_from s 0 ≡ put_filters fs []
  unfolding layout_filters
  filters-at = let x = (filters-exactly s fs).0 e in sym (lines_start s) ∙ ap lines_of (sym x.0) ∙ lines-back (put_filters fs []) (filters-neat fs [] x.1 tt)

  pub filters-valid : ValidFilters fs
  filters-valid = ((filters-exactly s fs).0 e).1

  -- a line has a byte at least
  pub filters-long : length (put_filters fs []) ≤ length s
  unfolding layout_filters
  filters-long = subst (λ (b : Bytes). length (put_filters fs []) ≤ length b) ((filters-exactly s fs).0 e).0 (text-length (put_filters fs [])).0

-- ---- the projection's columns are few

few-in : {p : Pattern} {x : Projection} (o : Outermost p x) (m : Tally) → In bounds (tally p m) → length x.columns ≤ bounds.columns
unfolding tally headed
few-in (here {cs} {p}) m h = let w = (counts bounds (headed cs m) (grow bounds p (headed cs m) h)).wide in omega (arith, w)
few-in (under-distinct o) m h = few-in o (noted [] m) h
few-in (under-reduced o) m h = few-in o (noted [] m) h
few-in (under-slice o) m h = few-in o (noted [] m) h
few-in (under_orderby {p} {os} o) m h = few-in o (noted [] m) (grow_os bounds os (tally p (noted [] m)) h)
few-in (under_group {ks} {p} {rs} o) m h = few-in o (noted ks (noted [] m)) (grow_as bounds rs (tally p (noted ks (noted [] m))) h)

pub columns-few : (s : Bytes) (p : Pattern) → read_tree s ≡ reads p → {x : Projection} → Outermost p x → length x.columns ≤ bounds.columns
columns-few s p e o = let b = ((tree-exactly s p).0 e).2 in few-in o start (in_bounds bounds (tally p start) (record { lines = b.lines; wide = b.columns; names = b.names }))
