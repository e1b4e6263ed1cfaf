-- `answering::answer` meets its contract. Assumes nothing.
use mathlib.Core.Path.{refl}
use native.Mathlib.Omega.{arith}
use Rattle.answers.specs.Both.{answer_of, many_of}
use Rattle.answers.proofs.Both.{unlisted}
use Rattle.answering.proofs.Laws.{ready, texts-one, texts-two, answer-long, answer-texts, answer-plain}
use Rattle.answering.proofs.answer.Goals as goal

pub returns-then-input-gt-LIMIT : goal.returns-then-input-gt-LIMIT
returns-then-input-gt-LIMIT c = answer-long _ _ _ _ c.if-input-gt-LIMIT.true

pub text_at-requires : goal.text_at-requires
text_at-requires c =
    ready _ _ _ _ 0 c.part_texts-n.auto.ends (omega arith) (omega (arith, c.if-n-eq0.true)) c.part_texts-n.ensures.1

pub returns-then-n-eq0 : goal.returns-then-n-eq0
returns-then-n-eq0 c =
    let many = c.part_texts-n.ensures.0 in unlisted _ _ _ _ _ _ _ _ c.unlisted.ensures (answer-plain _ _ _ _ _ _ c.of_one.result c.if-input-gt-LIMIT.false (texts-one _ _ (omega (arith, many, c.if-n-eq0.true)) c.text_at.ensures) (λ e. omega arith) c.of_one.ensures)

pub text_at-requires-then-n-eq1 : goal.text_at-requires-then-n-eq1
text_at-requires-then-n-eq1 c =
    ready _ _ _ _ 0 c.part_texts-n.auto.ends (omega arith) (omega (arith, c.if-n-eq1.true)) c.part_texts-n.ensures.1

pub text_at-requires-then-n-eq1-2 : goal.text_at-requires-then-n-eq1-2
text_at-requires-then-n-eq1-2 c =
    ready _ _ _ _ 1 c.part_texts-n.auto.ends (omega arith) (omega (arith, c.if-n-eq1.true)) c.part_texts-n.ensures.1

pub returns-then-n-eq1 : goal.returns-then-n-eq1
returns-then-n-eq1 c =
    let f = c.of_two_listed in let many = c.part_texts-n.ensures.0 in answer-texts _ _ _ _ _ _ _ (answer_of f.result) (many_of f.result) c.if-input-gt-LIMIT.false (texts-two _ _ _ (omega (arith, many, c.if-n-eq1.true)) c.text_at-then-n-eq1.ensures c.text_at-then-n-eq1-2.ensures) f.ensures

pub of_more-requires : goal.of_more-requires
of_more-requires c = c.part_texts-n.ensures.1

pub returns : goal.returns
returns c =
    let f = c.of_more in let many = c.part_texts-n.ensures.0 in unlisted _ _ _ _ _ _ _ _ c.unlisted-2.ensures (answer-plain _ _ _ _ _ _ f.result c.if-input-gt-LIMIT.false refl (λ q. c.if-n-eq1.false (omega (arith, many, q))) (f.ensures many c.if-n-eq0.false c.if-n-eq1.false))
