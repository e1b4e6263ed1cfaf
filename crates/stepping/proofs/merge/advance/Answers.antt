-- `stepping::merge/advance` meets its contract. Assumes nothing.
use borrow.Author.Rules.{rules}
use mathlib.Core.Path.{sym, ◌∙◌}
use native.Mathlib.Omega.{arith}
use lib.Seq.{length-take-le}
use Rattle.std.proofs.lemmas.Result.{err_from_is_err_and}
use Rattle.stepping.proofs.Turns.{between-kept, between-copied, between_made}
use Rattle.stepping.proofs.merge.advance.Goals as goal

pub slice_bounds-merge_between-end-2 : goal.slice_bounds-merge_between-end-2
slice_bounds-merge_between-end-2 c = sym (length-take-le _ _ (omega (arith, c.requires.2, c.requires.3)))

pub returns-in_err-made : goal.returns-in_err-made
returns-in_err-made c =
    let exit = err_from_is_err_and c.from_residual.result c.from_residual.ensures.1 in
    let m = c.merge_between in
    rw (exit.1, exit.2) (between-kept _ _ _ _ m.result m.ensures _ c.in_err-made.was)

pub slice_bounds-next-end : goal.slice_bounds-next-end
slice_bounds-next-end c =
    let m = c.merge_between in between_made _ _ _ m.result m.ensures _ c.in_ok-made.was

pub slice_bounds-put_all-end : goal.slice_bounds-put_all-end
slice_bounds-put_all-end c =
    let m = c.merge_between in sym (length-take-le _ _ (between_made _ _ _ m.result m.ensures _ c.in_ok-made.was))

pub returns : goal.returns
returns c =
    let m = c.merge_between in
    between-copied _ _ _ m.result m.ensures _ c.in_ok-made.was _ _ _ c.requires.2 c.put_all.auto.out (m.auto.next ∙ search rules) c.put_all.ensures
