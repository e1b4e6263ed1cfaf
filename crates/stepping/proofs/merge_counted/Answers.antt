-- `stepping::merge_counted` meets its contract. Assumes nothing.
use Rattle.parted.specs.Parted.{texts}
use Rattle.stepping.proofs.Reports.{counted-many, counted-few}
use Rattle.stepping.proofs.merge_counted.Goals as goal

pub returns-then-has_many_lines : goal.returns-then-has_many_lines
returns-then-has_many_lines c =
    let h = c.has_many_lines in let s = c.args in counted-many (texts s.input.now) s.steps h.result h.ensures s.out.now c.if-has_many_lines.true

pub returns : goal.returns
returns c =
    let h = c.has_many_lines in let m = c.merge_in_turn in let s = c.args in counted-few (texts s.input.now) s.steps h.result h.ensures s.out.now c.if-has_many_lines.false m.new.out m.result m.ensures
