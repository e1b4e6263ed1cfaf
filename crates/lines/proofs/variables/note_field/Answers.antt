-- `lines::variables/note_field` meets its contract. Assumes nothing.
use mathlib.Core.Path.{◌∙◌, ap}
use Rattle.text.specs.Field.{is_var}
use Rattle.names.proofs.Laws as N
use Rattle.lines.proofs.StoreLaw as T
use Rattle.lines.proofs.variables.note_field.Goals as goal

pub put_spot-j-requires : goal.put_spot-j-requires
put_spot-j-requires c = (c.requires.0, c.keep_name-l.ensures.lists.low)

pub returns-then-is_var : goal.returns-then-is_var
returns-then-is_var c =
    record { keeps = λ want h. N.note-var _ _ _ _ _ _ want _ (c.is_var.ensures ∙ ap is_var c.piece.ensures) c.if-is_var.true (c.keep_name-l.ensures.by_index want h); adds = T.adds-var _ _ _ _ _ _ _ _ _ _ _ _ _ _ _ _ (c.is_var.ensures ∙ ap is_var c.piece.ensures) c.if-is_var.true c.requires.2 c.keep_name-l.ensures.lists c.put_spot-j.ensures }

pub returns : goal.returns
returns c =
    record { keeps = λ want h. N.note-other _ _ _ _ _ _ want _ (c.is_var.ensures ∙ ap is_var c.piece.ensures) c.if-is_var.false h; adds = T.adds-other _ _ _ _ c.args.mark _ (c.is_var.ensures ∙ ap is_var c.piece.ensures) c.if-is_var.false c.requires.2 }
