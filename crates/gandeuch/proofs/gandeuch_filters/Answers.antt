-- `gandeuch::gandeuch_filters` meets its contract. Assumes nothing.
use mathlib.Core.Path.{ap, ◌∙◌}
use Rattle.answers.specs.Outcome.{number, size}
use Rattle.answers.specs.Both.{answer_of, many_of}
use Rattle.answers.proofs.Both as Both
use Rattle.gandeuch.proofs.gandeuch_filters.Goals as goal

pub returns : goal.returns
returns c =
    let f = c.filters-listed in Both.reported-both _ _ _ _ _ _ (answer_of f.result) (many_of f.result) _ _ _ f.ensures (c.number.ensures ∙ ap number c.answer_of-a.ensures) (c.size_of.ensures ∙ ap size c.answer_of-a.ensures) c.many_of.ensures
