-- The promise of demand 3, of two trees that were read and of lists whose positions are all inside, none twice on its side. Assumes nothing.
use mathlib.Core.Path.{◌≡◌, sym, ap, ◌∙◌}
use mathlib.Core.Bool.{true}
use mathlib.Core.List.{List}
use Rattle.text.specs.Text.{Bytes}
use Rattle.algebra.specs.Tree.{Triple, join}
use Rattle.algebra.specs.Layout.{layout}
use Rattle.algebra.proofs.Roomy.{read-any-exactly}
use Rattle.algebra.specs.Tally.{bounds}
use Rattle.algebra.specs.Valid.{Valid}
use Rattle.scoping.specs.Label.{prefix_l, prefix_r}
use Rattle.counting.specs.Bag.{count}
use Rattle.counting.specs.Row.{Cell, same_row}
use Rattle.counting.specs.Answer.{answer}
use Rattle.merging.specs.Sides.{renamed_pattern, merged_columns, merged, lefts, rights}
use Rattle.merging.specs.Request.{Projection, Request, left_side, right_side, all_inside}
use Rattle.merging.specs.Merge.{merge_project_patterns}
use Rattle.merging.proofs.TreeRead.{TreeRead}
use Rattle.demand3.specs.Names.{merged_names}
use Rattle.demand3.specs.Expected.{expected_count}
use Rattle.merging.specs.Asked.{Lists}
use Rattle.demand3.specs.Demand3.{Premises, Counted}
use Rattle.merging.specs.bridge.Twice.{none_twice}
use Rattle.merging.proofs.Written.{Known, merged-valid}
use Rattle.merging.proofs.SidesKnown.{left-known, right-known}
use Rattle.demand3.proofs.Fit.{Fit}
use Rattle.demand3.proofs.Fits.{left-names, right-names, sides-fit}
use Rattle.demand3.proofs.Merge.{merged-count}
use Rattle.demand3.proofs.MergedColumns.{side-names, merged-names}
use Rattle.demand3.proofs.Expected.{expected-is}

-- ---- the promise, of two sides that were read

module _ (m : Request) (a : Known prefix_l m.left (lefts m.joins) m.left_constants) (b : Known prefix_r m.right (rights m.joins) m.right_constants) where
  module _ (s : Premises m) where
    pub columns-named : merged_columns (left_side m) (right_side m) m.joins ≡ merged_names m
    columns-named = merged-names m (left-names m a b s) (right-names m a b s) (sides-fit m a b s)

    -- under nemo's names, then under those that demand 3 says
    pub counts-named : (g : List Triple) (row : List Cell) → count same_row row (answer (merged_names m) g (merge_project_patterns m)) ≡ expected_count m g row
    unfolding merge_project_patterns
    counts-named g row =
        ap (λ (cs : List Bytes). count same_row row (answer cs g (merge_project_patterns m))) (sym columns-named)
        ∙ merged-count (left_side m) (right_side m) m.joins (sides-fit m a b s) g row
        ∙ expected-is m a.constants-good.terms b.constants-good.terms (side-names prefix_l m.left (lefts m.joins) (left-names m a b s)) (side-names prefix_r m.right (rights m.joins) (right-names m a b s)) columns-named g row

  merged_projection : Projection
  merged_projection = record { columns = merged_columns (left_side m) (right_side m) m.joins; inner = join (renamed_pattern (left_side m)) (renamed_pattern (right_side m)) }

  promised : (text : Bytes) → layout (merge_project_patterns m) ≡ text → Counted m text
  unfolding merge_project_patterns merged merged_projection
  promised text e = record {
    merged = merged_projection;
    read = (read-any-exactly text (merge_project_patterns m)).1 (e, merged-valid m a b);
    columns = columns-named;
    counts = counts-named;
  }

-- ---- the same where nothing was refused

module _ (m : Request) (pairs leftConstants rightConstants : Bytes) (a : TreeRead m.left) (b : TreeRead m.right) (ls : Lists pairs leftConstants rightConstants m) (i : all_inside m ≡ true) (o : none_twice m.joins ≡ true) where
  -- the promise, where nothing was refused
  pub all-promised : (text : Bytes) → layout (merge_project_patterns m) ≡ text → Counted m text
  all-promised = promised m (left-known m pairs leftConstants rightConstants a b ls i o) (right-known m pairs leftConstants rightConstants a b ls i o)

  -- the written tree is well formed, and the two sides fit
  pub all_valid : Valid (merge_project_patterns m)
  all_valid = merged-valid m (left-known m pairs leftConstants rightConstants a b ls i o) (right-known m pairs leftConstants rightConstants a b ls i o)

  pub all_fit : Premises m → Fit (left_side m) (right_side m) m.joins
  all_fit = sides-fit m (left-known m pairs leftConstants rightConstants a b ls i o) (right-known m pairs leftConstants rightConstants a b ls i o)
