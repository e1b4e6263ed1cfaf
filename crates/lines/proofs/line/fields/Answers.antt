-- `lines::line/fields` meets its contract. Assumes nothing.
use native.Mathlib.Omega.{arith}
use Rattle.lines.proofs.SaysLaw as Y
use Rattle.lines.proofs.StoreLaw as T
use Rattle.lines.proofs.LineLaw.{notes-more}
use Rattle.lines.proofs.line.fields.Goals as goal

pub slots-a-requires : goal.slots-a-requires
slots-a-requires c = c.requires

pub overflow_add-ca : goal.overflow_add-ca
overflow_add-ca c =
    let e = (Y.same_line _ _ _ c.args.row 0 _ _ c.slots-a.ensures.took_slots).0 in let y = c.requires.0.ends in let z = c.requires.0.short in omega arith

pub returns-then-ca : goal.returns-then-ca
returns-then-ca c =
    record { says = Y.says-fault _ _ _ c.args.row _ _ _ c.slots-a.ensures.took_slots c.if-ca.true; keeps = λ h. let e = (Y.same_line _ _ _ c.args.row 0 _ _ c.slots-a.ensures.took_slots).0 in let t = c.if-ca.true in absurd (omega arith); adds = λ h. let e = (Y.same_line _ _ _ c.args.row 0 _ _ c.slots-a.ensures.took_slots).0 in let t = c.if-ca.true in absurd (omega arith) }

pub tail-t-requires : goal.tail-t-requires
tail-t-requires c = (Y.next-line _ _ _ c.args.row 0 _ _ c.slots-a.ensures.took_slots c.requires.0, c.if-ca.false)

pub returns : goal.returns
returns c =
    let e = (Y.same_line _ _ _ c.args.row 0 _ _ c.slots-a.ensures.took_slots).0 in let t = c.if-ca.false in record { says = Y.says-whole _ _ _ c.args.row _ _ _ c.slots-a.ensures.took_slots _ _ t c.tail-t.ensures.follows.0 c.tail-t.ensures.follows.1; keeps = λ h want q. rw (Y.terms-whole _ _ _ c.args.row _ _ _ c.slots-a.ensures.took_slots _ _ t c.tail-t.ensures.follows.0 c.tail-t.ensures.follows.1 h) (rw notes-more (c.tail-t.ensures.keeps (omega arith) _ (c.slots-a.ensures.keeps (omega arith) want q))); adds = λ h k. T.adds_then _ _ _ _ _ _ _ _ _ _ (c.slots-a.ensures.adds (omega arith)) (c.tail-t.ensures.adds (omega arith) k) }
