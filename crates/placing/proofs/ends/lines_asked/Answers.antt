-- `placing::ends/lines_asked` meets its contract. Assumes nothing.
use Prim.Native.Nat.{◌/◌}
use native.Mathlib.Omega.{arith}
use Rattle.walking.proofs.Laws as W
use Rattle.placing.proofs.Copied as C
use Rattle.placing.proofs.ends.lines_asked.Goals as goal

pub returns-then-below-eq0 : goal.returns-then-below-eq0
returns-then-below-eq0 c = (C.asked-none _ _ c.if-below-eq0.true, omega arith)

pub overflow_add-result : goal.overflow_add-result
overflow_add-result c =
    let a = c.count_at-a.ensures.2 in let b = c.count_at-b.ensures.2 in let n = c.args.below in let u = C.amount-fits n _ _ _ c.amount.ensures a b in let v = C.amount-fits (n / 512) _ _ _ c.amount-2.ensures a b in omega (arith, u, v)

pub overflow_add-result-2 : goal.overflow_add-result-2
overflow_add-result-2 c =
    let a = c.count_at-a.ensures.2 in let b = c.count_at-b.ensures.2 in let n = c.args.below in let u = C.amount-fits n _ _ _ c.amount.ensures a b in let v = C.amount-fits (n / 512) _ _ _ c.amount-2.ensures a b in let w = C.amount-fits (n / 512 / 512) _ _ _ c.amount-3.ensures a b in omega (arith, u, v, w)

pub returns : goal.returns
returns c = let p = c.count_at-a.ensures in let q = c.count_at-b.ensures in let t = c.args in let n = t.below in let u = C.amount-fits n _ _ _ c.amount.ensures p.2 q.2 in let v = C.amount-fits (n / 512) _ _ _ c.amount-2.ensures p.2 q.2 in let w = C.amount-fits (n / 512 / 512) _ _ _ c.amount-3.ensures p.2 q.2 in (
  C.asked_is n _ _ _ _ _ t.text.now t.first t.end p.0 (W.second-number _ _ _ _ _ p.1 q.0) c.amount.ensures c.amount-2.ensures c.amount-3.ensures,
  omega (arith, u, v, w),
)
