-- `parted::is_bar` meets its contract. Assumes nothing.
use mathlib.Core.Bool.{false≢true, true≢false}
use Rattle.parted.proofs.Bars.{bar-here, bar-behind}
use Rattle.parted.proofs.is_bar.Goals as goal

pub returns-then-s-at-ne45 : goal.returns-then-s-at-ne45
returns-then-s-at-ne45 c = (λ e. absurd (false≢true e), λ e b. c.if-s-at-ne45.true b.again)

pub returns-then-s-at-ne10 : goal.returns-then-s-at-ne10
returns-then-s-at-ne10 c = (λ e. absurd (false≢true e), λ e b. c.if-s-at-ne10.true b.over)

pub returns-then-at-from : goal.returns-then-at-from
returns-then-at-from c = let p = c.requires in
    (λ e. bar-here _ _ _ p.1 p.2 c.if-s-at-ne45.false c.if-s-at-ne10.false (λ z. absurd (z c.if-at-from.true)), λ e. absurd (true≢false e))

pub returns : goal.returns
returns c = let p = c.requires in
    bar-behind _ _ _ p.1 p.2 c.if-s-at-ne45.false c.if-s-at-ne10.false c.if-at-from.false
