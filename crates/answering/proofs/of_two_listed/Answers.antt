-- `answering::of_two_listed` meets its contract. Assumes nothing.
use Rattle.answers.specs.Both.{answer_of, many_of}
use Rattle.answers.proofs.Both.{unlisted}
use Rattle.answering.proofs.Laws.{row-filters, row_list, listed-row, other-listed}
use Rattle.answering.proofs.of_two_listed.Goals as goal

pub returns-then-call-eq7 : goal.returns-then-call-eq7
returns-then-call-eq7 c =
    let f = c.filters in listed-row _ _ _ _ _ _ _ _ _ (answer_of f.result) (many_of f.result) (row-filters _ _) (row_list _ _) c.if-call-eq7.true f.ensures

pub of_two-requires : goal.of_two-requires
of_two-requires c = c.if-call-eq7.false

pub returns : goal.returns
returns c = let f = c.of_two in unlisted _ _ _ _ _ _ _ _ c.unlisted.ensures (other-listed _ _ _ _ _ _ f.result c.if-call-eq7.false f.ensures)
