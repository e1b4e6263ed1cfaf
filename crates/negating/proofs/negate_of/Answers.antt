-- `negating::negate_of` meets its contract. Assumes nothing.
use Rattle.std.proofs.Common.{rules, ◌++◌}
use Rattle.negating.specs.bridge.Negated.{negated_at}
use Rattle.answers.proofs.Answers as A
use Rattle.negating.proofs.Search as S
use Rattle.negating.proofs.Negated as Neg
use Rattle.negating.proofs.negate_of.Goals as goal

pub returns-then-not-is_select_or_ask : goal.returns-then-not-is_select_or_ask
returns-then-not-is_select_or_ask c =
    λ q p. A.answered _ _ _ _ c.copy_behind.result (Neg.other-kind _ _ q p _ (c.is_select_or_ask.ensures q p.of) c.if-not-is_select_or_ask.true-raw) c.copy_behind.ensures

pub returns-in_default : goal.returns-in_default
returns-in_default c =
    λ q p. A.answered _ _ _ _ c.copy_behind-in_default.result (Neg.no-projection _ _ q p (S.says_none _ _ _ c.outermost_projection.ensures c.in_default.is)) c.copy_behind-in_default.ensures

pub write_answer-requires : goal.write_answer-requires
write_answer-requires c = let h = (S.says_at _ _ _ _ c.outermost_projection.ensures c.in-Some.is).high in search rules

pub returns : goal.returns
returns c =
    λ q p. Neg.negate-answered _ _ q p _ _ (S.says_at _ _ _ _ c.outermost_projection.ensures c.in-Some.is) _ (c.is_select_or_ask.ensures q p.of) c.if-not-is_select_or_ask.false-raw _ _ _
    (c.write_answer.ensures (c.args.head.now ++ negated_at c.in-Some.outermost.inner c.args.tree.now) (λ w w' p. search rules))
