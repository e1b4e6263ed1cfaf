-- `naming::label/ends_in_label` meets its contract. Assumes nothing.
use mathlib.Core.Path.{◌∙◌}
use native.Mathlib.Omega.{arith}
use Rattle.naming.proofs.Labels.{label-short, label-part}
use Rattle.naming.proofs.label.ends_in_label.Goals as goal

pub returns-then-f-lt5 : goal.returns-then-f-lt5
returns-then-f-lt5 c = label-short _ c.if-f-lt5.true

pub returns : goal.returns
returns c = c.equal.ensures ∙ label-part _ (omega arith)
