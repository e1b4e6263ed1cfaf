-- `answering::put_left` meets its contract. Assumes nothing.
use Rattle.std.proofs.Common.{rules}
use native.Mathlib.Omega.{arith}
use Rattle.emit.proofs.Writing.{wrote-then, wrote-as, wrote-from}
use Rattle.answering.proofs.Printed.{no-left, left-is, front}
use Rattle.answering.proofs.put_left.Goals as goal

pub returns-then-list-eq0 : goal.returns-then-list-eq0
returns-then-list-eq0 c = λ h. no-left _ c.args.out.now c.if-list-eq0.true

pub returns : goal.returns
returns c =
    let g = c.well_formed in
    let e = wrote-from (wrote-as (left-is _ c.if-list-eq0.false) (wrote-then (wrote-then c.put_all.ensures c.put_fields.ensures) c.put.ensures)) c.new-w.ensures.starts in
    front _ _ c.args.out.now _ (search rules) (omega (arith, g))
