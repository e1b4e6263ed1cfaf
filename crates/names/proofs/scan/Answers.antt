-- `names::scan` meets its contract. Assumes nothing.
use borrow.Author.Rules.{rules}
use mathlib.Core.Path.{◌≡◌, sym, ◌∙◌}
use native.Mathlib.Omega.{arith}
use Rattle.names.proofs.Laws as L
use mathlib.Core.Bool.{false}
use Rattle.names.proofs.scan.Goals as goal

pub loop-i-init : goal.loop-i-init
loop-i-init c = (search rules, L.scan-start _ _ _ _)

pub returns-then-is_name : goal.returns-then-is_name
returns-then-is_name c = (search rules, λ h. sym c.is_name.ensures ∙ c.if-is_name.true, λ e. absurd (omega arith))

pub loop-i-preserved : goal.loop-i-preserved
loop-i-preserved c = (search rules, L.scan-more _ _ _ _ _ _ c.loop-i.invariant.1 c.is_name.ensures c.if-is_name.false)

pub returns : goal.returns
returns c = (search rules, λ h. absurd (omega arith), λ e. L.all_seen _ _ _ _ _ _ c.loop-i.invariant.1 (let k : c.loop-i.i ≡ c.args.n = omega (arith, c.loop-i.invariant.0, c.loop-i-test.false) in k))
