-- `joining::forms/note_form` meets its contract. Assumes nothing.
use borrow.Author.Tests.{not-true, not-false}
use Rattle.joining.proofs.Checked as F
use Rattle.joining.proofs.forms.note_form.Goals as goal

pub returns-then-not-query : goal.returns-then-not-query
returns-then-not-query c =
    let p = c.requires in F.form-tree _ _ _ _ _ _ _ _ _ _ _ _ (not-true _ c.if-not-query.true-raw) p.1 p.2 c.note_tree.ensures

pub returns-then-from-text : goal.returns-then-from-text
returns-then-from-text c =
    let p = c.requires in F.form-query _ c.args.stands.now _ _ _ _ _ _ _ _ _ _ (not-false _ c.if-not-query.false-raw) p.1 c.if-from-text.true c.note_query.ensures

pub note_alone-requires : goal.note_alone-requires
note_alone-requires c =
    let p = c.requires in (p.0, F.starts-true _ _ _ (not-false _ c.if-not-query.false-raw) p.1, c.if-from-text.false, F.stands-empty c.args.text.now _ _ p.2 c.if-from-text.false)

pub returns : goal.returns
returns c =
    F.form-alone _ c.args.stands.now _ _ _ c.note_alone.new.hints _ _ _ _ _ _ (not-false _ c.if-not-query.false-raw) c.note_alone.ensures
