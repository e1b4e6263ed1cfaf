-- `checking::place/mark_below` meets its contract. Assumes nothing.
use borrow.Author.Tests.{not-true, not-false}
use Rattle.checking.proofs.WalksLaw as W
use Rattle.checking.proofs.place.mark_below.Goals as goal

pub returns-then-sort-eq3 : goal.returns-then-sort-eq3
returns-then-sort-eq3 c = W.mark-silent c.args.sort c.args.flag c.args.mark c.args.last c.if-sort-eq3.true

pub returns-then-sort-ne2 : goal.returns-then-sort-ne2
returns-then-sort-ne2 c = W.mark-other c.args.sort c.args.flag c.args.mark c.args.last c.if-sort-eq3.false c.if-sort-ne2.true

pub returns-then-flag-ne1 : goal.returns-then-flag-ne1
returns-then-flag-ne1 c = W.mark-shown c.args.sort c.args.flag c.args.mark c.args.last c.if-sort-ne2.false c.if-flag-ne1.true

pub returns-then-not-last : goal.returns-then-not-last
returns-then-not-last c =
    W.mark-first c.args.sort c.args.flag c.args.mark c.args.last c.if-sort-ne2.false c.if-flag-ne1.false (not-true c.args.last c.if-not-last.true-raw)

pub returns-then-mark-eq0 : goal.returns-then-mark-eq0
returns-then-mark-eq0 c =
    W.mark-last c.args.sort c.args.flag c.args.mark c.args.last c.if-sort-ne2.false c.if-flag-ne1.false (not-false c.args.last c.if-not-last.false-raw) c.if-mark-eq0.true

pub returns : goal.returns
returns c =
    W.mark-under c.args.sort c.args.flag c.args.mark c.args.last c.if-sort-ne2.false c.if-flag-ne1.false (not-false c.args.last c.if-not-last.false-raw) c.if-mark-eq0.false
