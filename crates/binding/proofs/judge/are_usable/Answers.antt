-- `binding::judge/are_usable` meets its contract. Assumes nothing.
use mathlib.Core.Path.{refl, ◌∙◌}
use native.Mathlib.Omega.{arith}
use Rattle.binding.proofs.Judging as J
use Rattle.binding.proofs.judge.are_usable.Goals as goal

pub loop-next-init : goal.loop-next-init
loop-next-init c = (c.requires.1, refl)

pub slice_bounds-form_of-count : goal.slice_bounds-form_of-count
slice_bounds-form_of-count c =
    let h = c.field_at-domain.ensures.high in let w = c.field_at-domain.ensures.low in let v = c.field_at-domain.ensures.last in let u = c.field_at-domain.ensures.more c.loop-next-test.true in let z = c.field_at-domain.ensures.after in omega arith

pub slice_bounds-form_of-start : goal.slice_bounds-form_of-start
slice_bounds-form_of-start c =
    let h = c.field_at-domain.ensures.high in let w = c.field_at-domain.ensures.low in let v = c.field_at-domain.ensures.last in let u = c.field_at-domain.ensures.more c.loop-next-test.true in let z = c.field_at-domain.ensures.after in omega arith

pub slice_bounds-form_of-end : goal.slice_bounds-form_of-end
slice_bounds-form_of-end c =
    let h = c.field_at-domain.ensures.high in let w = c.field_at-domain.ensures.low in let v = c.field_at-domain.ensures.last in let u = c.field_at-domain.ensures.more c.loop-next-test.true in let z = c.field_at-domain.ensures.after in omega arith

pub returns-then-form_of-eq4 : goal.returns-then-form_of-eq4
returns-then-form_of-eq4 c =
    J.usable-stop _ _ _ c.loop-next-test.true _ c.field_at-domain.ensures _ c.form_of.ensures c.if-form_of-eq4.true ∙ c.loop-next.invariant.1

pub field_at-lexical-requires : goal.field_at-lexical-requires
field_at-lexical-requires c = (c.requires.0, c.field_at-domain.ensures.last)

pub field_at-extra-requires : goal.field_at-extra-requires
field_at-extra-requires c = (c.requires.0, c.field_at-lexical.ensures.last)

pub loop-next-smaller : goal.loop-next-smaller
loop-next-smaller c =
    let h = c.field_at-domain.ensures.last in let a = c.field_at-lexical.ensures.last in let b = c.field_at-extra.ensures.last in let c2 = c.field_at-lexical.ensures.low in let d2 = c.field_at-lexical.ensures.after in let e2 = c.field_at-extra.ensures.low in let f2 = c.field_at-extra.ensures.after in let u = c.field_at-domain.ensures.more c.loop-next-test.true in omega arith

pub loop-next-preserved : goal.loop-next-preserved
loop-next-preserved c =
    (c.field_at-extra.ensures.last, J.usable-next _ _ _ c.loop-next-test.true _ c.field_at-domain.ensures _ c.form_of.ensures c.if-form_of-eq4.false _ _ c.field_at-lexical.ensures c.field_at-extra.ensures ∙ c.loop-next.invariant.1)

pub returns : goal.returns
returns c = J.usable-done _ _ _ c.loop-next-test.false ∙ c.loop-next.invariant.1
