-- `stepping::report` meets its contract. Assumes nothing.
use native.Mathlib.Omega.{arith}
use Rattle.parted.proofs.Parts.{ready}
use Rattle.stepping.proofs.Reports.{all-kept, report-one, report-two, report-many, report-uneven, report-even}
use Rattle.stepping.proofs.report.Goals as goal

pub returns-then-n-eq0 : goal.returns-then-n-eq0
returns-then-n-eq0 c = report-one _ _ _ c.part_texts-n.ensures.0 c.if-n-eq0.true

pub text_at-requires : goal.text_at-requires
text_at-requires c =
    let p = c.part_texts-n in ready _ _ _ _ 0 p.auto.ends (omega arith) (omega (arith, c.if-n-eq1.true)) p.ensures.1

pub text_at-requires-then-n-eq1 : goal.text_at-requires-then-n-eq1
text_at-requires-then-n-eq1 c =
    let p = c.part_texts-n in ready _ _ _ _ 1 p.auto.ends (omega arith) (omega (arith, c.if-n-eq1.true)) p.ensures.1

pub returns-then-n-eq1 : goal.returns-then-n-eq1
returns-then-n-eq1 c =
    let p = c.push_constants in report-two _ _ _ c.part_texts-n.ensures.0 _ _ _ p.result c.if-n-eq1.true c.text_at.ensures c.text_at-then-n-eq1.ensures p.ensures

pub returns-then-n-gt28 : goal.returns-then-n-gt28
returns-then-n-gt28 c = report-many _ _ _ c.part_texts-n.ensures.0 c.if-n-gt28.true

pub returns-then-n-ne0 : goal.returns-then-n-ne0
returns-then-n-ne0 c =
    report-uneven _ _ _ c.part_texts-n.ensures.0 c.if-n-eq0.false c.if-n-eq1.false c.if-n-gt28.false c.if-n-ne0.true

pub report_steps-requires : goal.report_steps-requires
report_steps-requires c =
    let p = c.part_texts-n in let few = c.if-n-gt28.false in let four = c.if-n-ne0.false in let z = c.if-n-eq0.false in (all-kept _ _ _ _ p.auto.ends (omega (arith, few)) p.ensures.1, omega (arith, four), omega (arith, four, z), p.ensures.0)

pub returns : goal.returns
returns c =
    let p = c.part_texts-n in let r = c.report_steps in let few = c.if-n-gt28.false in let four = c.if-n-ne0.false in let z = c.if-n-eq0.false in report-even _ _ _ p.ensures.0 _ _ r.result few (omega (arith, four)) (omega (arith, four, z)) r.ensures
