-- `stepping::merge/merge_step` meets its contract. Assumes nothing.
use Rattle.parted.specs.Parted.{texts}
use Rattle.stepping.proofs.Turns.{step-answered}
use Rattle.stepping.proofs.merge.merge_step.Goals as goal

pub returns : goal.returns
returns c =
    let m = c.merge_queries in let s = c.args in step-answered _ _ _ _ _ (texts s.input.now) s.k _ _ m.result c.text_at.ensures c.text_at-2.ensures c.text_at-3.ensures c.text_at-4.ensures m.ensures
