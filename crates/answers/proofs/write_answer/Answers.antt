-- `answers::write_answer` meets its contract. Assumes nothing.
use Rattle.std.proofs.Common.{rules}
use mathlib.Core.Path.{◌≡◌, ◌∙◌, ap}
use native.Mathlib.Omega.{arith}
use Rattle.emit.specs.bridge.Emit.{em, puts}
use Rattle.answers.proofs.Answers as A
use Rattle.answers.proofs.write_answer.Goals as goal

pub returns-then-out-need : goal.returns-then-out-need
returns-then-out-need g c = λ b p.
    A.too_short b _ _ _ _ ((p _ _ c.write.ensures).puts ∙ ap (puts b) c.new-spare.ensures.starts) c.if-out-need.true

pub returns : goal.returns
returns g c = λ b p.
    let f = c.well_formed in
    let m = (p _ _ c.write.ensures).puts ∙ ap (puts b) c.new-spare.ensures.starts in
    let z = p _ _ c.write-2.ensures in
    let e : em c.write-2.new.arg2.at c.write-2.new.arg2.out.now ≡ puts b (em 0 c.args.out.now) = z.puts ∙ ap (puts b) c.new-w.ensures.starts in
    A.all-written b _ _ _ _ m _ _ c.if-out-need.false (omega (arith, f)) (search rules)
