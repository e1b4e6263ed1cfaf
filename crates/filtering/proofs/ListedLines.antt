-- The list of filters that were not placed, line by line: what a walk over the lines lists is the call's list. Assumes nothing.
use mathlib.Core.Path.{◌≡◌, sym, subst}
use mathlib.Core.Bool.{Bool, true, false}
use mathlib.Core.List.{List}
use mathlib.Core.Option.{none, some}
use native.Mathlib.Omega.{arith}
use Rattle.text.specs.Text.{Bytes, Line, lines_from}
use Rattle.text.specs.Field.{given}
use Rattle.algebra.specs.Tree.{Pattern}
use Rattle.algebra.specs.Query.{Filter}
use Rattle.algebra.specs.Tally.{bounds}
use Rattle.algebra.specs.Reader.{Outcome, reads}
use Rattle.algebra.specs.Texts.{read_filters}
use Rattle.algebra.proofs.Theorem.{filters-exactly}
use Rattle.algebra.proofs.Lines.{lines-are-filters}
use Rattle.merging.specs.Request.{Projection}
use Rattle.negating.specs.Projections.{outermost_projection}
use Rattle.filtering.specs.NotPlaced.{is_placed, numbers_failing, not_placed, not_placed_read}
use Rattle.filtering.specs.bridge.FilterLines.{placed_filters}
use Rattle.filtering.proofs.PlacedLines.{found_expression, found_expressions, PlacedAs, filters-placed}
use Rattle.filtering.proofs.Read.{filters-at}

-- a walk over the lines places and lists the filters of a text that is read
pub lines-placed : (found : Bool) (cs : List Bytes) (filters : Bytes) (fs : List Filter) → read_filters filters ≡ reads fs
    → PlacedAs (placed_filters found cs bounds.lines 0 bounds.entries (lines_from filters 0)) (found_expressions found cs fs) (numbers_failing (λ f. given (found_expression found cs f)) 0 fs)
lines-placed found cs filters fs e =
    let x = (filters-exactly filters fs).0 e in
    let l = x.2.lines in
    let k = lines-are-filters fs in
    subst (λ (ls : List Line). PlacedAs (placed_filters found cs bounds.lines 0 bounds.entries ls) (found_expressions found cs fs) (numbers_failing (λ f. given (found_expression found cs f)) 0 fs)) (sym (filters-at filters fs e))
    (filters-placed found cs bounds.lines 0 bounds.entries fs x.1 (omega arith) x.2.entries)

-- the others are the call's list, whatever the tree is read as: with the columns of the projection that was found
pub list-found : (tree : Outcome Pattern) (filters : Bytes) (p : Pattern) (fs : List Filter) → tree ≡ reads p → read_filters filters ≡ reads fs → (x : Projection) → outermost_projection p ≡ some x
    → not_placed_read tree filters ≡ (placed_filters true x.columns bounds.lines 0 bounds.entries (lines_from filters 0)).others
unfolding not_placed is_placed
list-found tree filters p fs e f x o = rw (e, f, o) (sym (lines-placed true x.columns filters fs f).others)

-- or where none was
pub list-not-found : (tree : Outcome Pattern) (filters : Bytes) (p : Pattern) (fs : List Filter) → tree ≡ reads p → read_filters filters ≡ reads fs → outermost_projection p ≡ none → (cs : List Bytes)
    → not_placed_read tree filters ≡ (placed_filters false cs bounds.lines 0 bounds.entries (lines_from filters 0)).others
unfolding not_placed is_placed
list-not-found tree filters p fs e f o cs = rw (e, f, o) (sym (lines-placed false cs filters fs f).others)
