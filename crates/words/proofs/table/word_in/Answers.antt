-- `words::table/word_in` meets its contract: what is left finds what the whole finds. Assumes nothing.
use mathlib.Core.Path.{refl, sym, ◌∙◌}
use native.Mathlib.Omega.{arith}
use Rattle.words.proofs.Worded as L
use Rattle.words.proofs.table.word_in.Goals as goal

pub loop-i-init : goal.loop-i-init
loop-i-init c = refl

pub offset_bounds-words-i : goal.offset_bounds-words-i
offset_bounds-words-i c = omega arith

pub bounds-words-i : goal.bounds-words-i
bounds-words-i c = omega arith

pub returns-then-w-key : goal.returns-then-w-key
returns-then-w-key c = (omega arith, sym (L.step-here _ _ _ _ c.loop-i-test.true c.if-w-key.true) ∙ c.loop-i.invariant)

pub loop-i-preserved : goal.loop-i-preserved
loop-i-preserved c = L.step_past _ _ _ _ c.loop-i-test.true c.if-w-key.false ∙ c.loop-i.invariant

pub returns : goal.returns
returns c = (omega arith, L.step_end _ _ _ _ c.loop-i-test.false c.requires.1 ∙ c.loop-i.invariant)
