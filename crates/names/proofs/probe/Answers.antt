-- `names::probe` meets its contract. Assumes nothing.
use Prim.Native.Nat.{◌+◌, ◌-◌}
use borrow.Author.Rules.{rules}
use mathlib.Core.Path.{◌≡◌, sym, ◌∙◌}
use native.Mathlib.Omega.{arith}
use Rattle.names.proofs.Laws as L
use Rattle.names.proofs.probe.Goals as goal

pub loop-tried-init : goal.loop-tried-init
loop-tried-init c =
    (c.place-p.ensures.1, L.seek-start _ _ _ _ _ _ _ c.place-p.ensures.0, rw c.place-p.ensures.0 (L.taken_start _ _))

pub returns-then-hint-eq0 : goal.returns-then-hint-eq0
returns-then-hint-eq0 c =
    record { result_le_n = (omega arith, λ h. absurd (omega arith), λ e q. L.seek-end _ _ _ _ _ _ _ _ c.loop-tried.invariant.1 (omega (arith, c.loop-tried-test.true)) _ c.wide-hint.ensures c.if-hint-eq0.true q); free = λ e. L.free-here _ _ _ _ c.loop-tried.invariant.2 c.loop-tried.invariant.0 (sym c.wide-hint.ensures ∙ c.if-hint-eq0.true) }

pub returns-then-is_hinted : goal.returns-then-is_hinted
returns-then-is_hinted c =
    record { result_le_n = L.seek-here _ _ _ _ _ _ _ _ c.if-hint-eq0.false c.is_hinted.ensures.0 c.is_hinted.ensures.1 c.if-is_hinted.true; free = λ e. let h = c.is_hinted.ensures.0 c.if-is_hinted.true in let z = c.if-hint-eq0.false in absurd (omega arith) }

pub loop-tried-preserved : goal.loop-tried-preserved
loop-tried-preserved c =
    let less : 2048 - (c.loop-tried.tried + 1) ≡ 2048 - c.loop-tried.tried - 1 = omega arith in
    rw less (search rules, L.seek-on _ _ _ _ _ _ _ _ c.loop-tried.invariant.1 (omega (arith, c.loop-tried-test.true)) _ c.wide-hint.ensures _ _ c.is_hinted.ensures.1 c.if-is_hinted.false c.after-p.ensures.0, L.taken-on _ _ _ _ c.loop-tried.invariant.2 _ (omega (arith, c.loop-tried-test.true)) (λ z. c.if-hint-eq0.false (c.wide-hint.ensures ∙ z)) c.after-p.ensures.0)

pub returns : goal.returns
returns c =
    record { result_le_n = (c.scan-e.ensures.0, c.scan-e.ensures.1, λ e q. c.scan-e.ensures.2 e); free = λ e. L.free-none _ _ _ _ c.loop-tried.invariant.2 (omega (arith, c.loop-tried-test.false)) }
