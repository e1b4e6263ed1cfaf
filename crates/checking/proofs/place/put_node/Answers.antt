-- `checking::place/put_node` meets its contract. Assumes nothing.
use borrow.Author.Tests.{not-true, not-false}
use Rattle.checking.proofs.WalksLaw as W
use Rattle.checking.proofs.place.put_node.Goals as goal

pub returns-then-not-is_noted : goal.returns-then-not-is_noted
returns-then-not-is_noted c =
    W.node-none _ _ c.args.sort c.args.before c.args.a _ c.is_noted.ensures (not-true _ c.if-not-is_noted.true-raw)

pub returns-then-nodes-m : goal.returns-then-nodes-m
returns-then-nodes-m c =
    W.node-full _ _ c.args.sort c.args.before c.args.a _ c.is_noted.ensures (not-false _ c.if-not-is_noted.false-raw) c.if-nodes-m.true

pub returns : goal.returns
returns c =
    W.node-put _ _ c.args.sort c.args.before c.args.a _ c.is_noted.ensures (not-false _ c.if-not-is_noted.false-raw) c.if-nodes-m.false
