-- `lines::variables/variable_fields` meets its contract. Assumes nothing.
use Prim.Native.Nat.{◌+◌, ◌-◌}
use borrow.Author.Rules.{rules}
use mathlib.Core.Path.{◌≡◌, refl, ◌∙◌}
use native.Mathlib.Omega.{arith}
use Rattle.lines.proofs.RepeatLaw as R
use Rattle.lines.proofs.FieldsLaw as F
use Rattle.lines.proofs.AddLaw as D
use Rattle.lines.specs.bridge.Steps.{left_at, rest_of, rest_in, terms_of}
use Rattle.lines.specs.bridge.Line.{take_field, take_times}
use Rattle.algebra.specs.bridge.Table.{term}
use mathlib.Core.List.{[], ◌++◌}
use Rattle.text.specs.Field.{variable}
use Rattle.algebra.specs.Tally.{notes}
use Rattle.lines.proofs.LineLaw.{notes-more}
use Rattle.lines.proofs.variables.variable_fields.Goals as goal

pub loop-done-init : goal.loop-done-init
unfolding notes
loop-done-init c =
    let none : c.args.times - 0 ≡ c.args.times = omega arith in rw none (c.requires.0, (refl, refl), search rules, c.requires.1, refl, ([], F.terms-start _ _ _, λ want h. h), refl, D.stay-adds _ _ _ _ _ c.requires.0 c.requires.1)

pub term_field-t-requires : goal.term_field-t-requires
unfolding notes
term_field-t-requires c = c.loop-done.invariant.0

pub overflow_add-d : goal.overflow_add-d
unfolding notes
overflow_add-d c =
    let x = (R.follows-along _ _ _ _ c.term_field-t.ensures.follows).0 in let y = c.loop-done.invariant.0.ends in let z = c.loop-done.invariant.0.short in omega arith

pub shape_of-spots-then-d : goal.shape_of-spots-then-d
unfolding notes
shape_of-spots-then-d c = search rules

pub returns-then-d : goal.returns-then-d
unfolding notes
returns-then-d c =
    record { follows = R.repeat-fault _ _ _ _ (λ l. rest_of (take_field (term variable) l)) (λ k l. rest_in (take_times k (term variable) l)) _ _ (R.times_more (term variable)) c.loop-done.invariant.4 c.loop-done.invariant.1 c.loop-done.invariant.2 c.term_field-t.ensures.follows (omega (arith, c.loop-done-test.true)) c.if-d.true; keeps = λ h. let x = (R.follows-along _ _ _ _ c.term_field-t.ensures.follows).0 in let y = c.loop-done.invariant.1.0 in let z = c.if-d.true in absurd (omega arith); adds = λ h. let x = (R.follows-along _ _ _ _ c.term_field-t.ensures.follows).0 in let y = c.loop-done.invariant.1.0 in let z = c.if-d.true in absurd (omega arith) }

pub loop-done-preserved : goal.loop-done-preserved
unfolding notes
loop-done-preserved c =
    let less : c.args.times - (c.loop-done.done + 1) ≡ c.args.times - c.loop-done.done - 1 = omega arith in
    let x = (R.follows-along _ _ _ _ c.term_field-t.ensures.follows).0 in
    let q = c.if-d.false in
    let f = R.follows-fine _ _ _ _ c.term_field-t.ensures.follows (omega arith) in
    let x = R.repeat-next _ _ _ _ (λ l. rest_of (take_field (term variable) l)) (λ k l. rest_in (take_times k (term variable) l)) _ _ (R.times_more (term variable)) c.loop-done.invariant.4 c.loop-done.invariant.1 c.loop-done.invariant.2 c.term_field-t.ensures.follows (omega (arith, c.loop-done-test.true)) c.if-d.false in rw less (R.follows-line _ _ _ _ c.loop-done.invariant.0 c.term_field-t.ensures.follows, x.1, x.2, x.3, x.0, (c.loop-done.invariant.5.0 ++ terms_of (take_field (term variable) (left_at c.args.s.now c.loop-done.d)), F.terms-next _ (term variable) _ _ c.loop-done.invariant.5.0 _ c.loop-done.invariant.5.1 (omega (arith, c.loop-done-test.true)) f.0, λ want h. rw notes-more (c.term_field-t.ensures.keeps _ (c.loop-done.invariant.5.2 want h))), c.term_field-t.auto.spots ∙ c.loop-done.invariant.6, D.more-adds _ c.args.c c.loop-done.d c.term_field-t.result.cursor _ _ _ _ variable c.loop-done.invariant.7 (c.term_field-t.ensures.adds (omega arith) []))

pub shape_of-spots : goal.shape_of-spots
unfolding notes
shape_of-spots c = c.loop-done.invariant.6

pub returns : goal.returns
unfolding notes
returns c =
    record { follows = R.repeat-end _ _ _ (λ k l. rest_in (take_times k (term variable) l)) _ _ (R.times-end (term variable)) c.loop-done.invariant.4 (omega (arith, c.loop-done-test.false)) c.loop-done.invariant.1 c.loop-done.invariant.2 c.loop-done.invariant.3; keeps = λ h want q. let z = F.terms-end (c.args.times - c.loop-done.done) (term variable) (left_at c.args.s.now c.loop-done.d) c.loop-done.invariant.5.0 _ c.loop-done.invariant.5.1 (omega (arith, c.loop-done-test.false)) in rw z (c.loop-done.invariant.5.2 want q); adds = λ h. c.loop-done.invariant.7 }
