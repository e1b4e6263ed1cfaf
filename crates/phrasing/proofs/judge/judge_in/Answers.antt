-- `phrasing::judge/judge_in` meets its contract. Assumes nothing.
use native.Mathlib.Omega.{arith}
use Rattle.phrasing.proofs.Call as K
use Rattle.spelling.proofs.Going as G
use mathlib.Core.Path.{refl, sym, ◌∙◌}
use Rattle.std.proofs.lemmas.Result.{err_from_is_err_and}
use Rattle.phrasing.proofs.judge.judge_in.Goals as goal

pub loop-from-init : goal.loop-from-init
loop-from-init c = refl

pub returns-then-end-query : goal.returns-then-end-query
returns-then-end-query c =
    K.judge-open _ _ _ _ _ _ c.line_end-end.ensures c.loop-from-test.true c.if-end-query.true ∙ sym c.loop-from.invariant

pub word_at-w-requires : goal.word_at-w-requires
word_at-w-requires c = (G.line_low _ _ _ c.line_end-end.ensures c.if-end-query.false, c.line_end-end.ensures.high)

pub overflow_add-w : goal.overflow_add-w
overflow_add-w c =
    let h = c.line_end-end.ensures.high in let n = c.if-end-query.false in let w = c.word_at-w.ensures.0.high in let l = G.line_low _ _ _ c.line_end-end.ensures n in omega arith

pub verdict_in-requires : goal.verdict_in-requires
verdict_in-requires c =
    let h = c.line_end-end.ensures.high in let n = c.if-end-query.false in let w = c.word_at-w.ensures.0.high in let l = G.line_low _ _ _ c.line_end-end.ensures n in ((omega arith, omega arith), c.requires)

pub returns-in_err-verdict_in : goal.returns-in_err-verdict_in
returns-in_err-verdict_in c =
    let exit = err_from_is_err_and c.from_residual.result c.from_residual.ensures.1 in
    rw (exit.1, exit.2) (K.judge-stop _ _ _ _ _ _ c.line_end-end.ensures c.if-end-query.false _ c.word_at-w.ensures.0 _ (c.verdict_in.ensures _ c.word_at-w.ensures.1) _ c.in_err-verdict_in.was ∙ sym c.loop-from.invariant)

pub overflow_add-from : goal.overflow_add-from
overflow_add-from c =
    let h = c.line_end-end.ensures.high in let n = c.if-end-query.false in let w = c.word_at-w.ensures.0.high in let l = G.line_low _ _ _ c.line_end-end.ensures n in omega arith

pub loop-from-smaller : goal.loop-from-smaller
loop-from-smaller c =
    let h = c.line_end-end.ensures.high in let n = c.if-end-query.false in let w = c.word_at-w.ensures.0.high in let l = G.line_low _ _ _ c.line_end-end.ensures n in let t = c.loop-from-test.true in omega arith

pub loop-from-preserved : goal.loop-from-preserved
loop-from-preserved c =
    c.loop-from.invariant ∙ K.judge-next _ _ _ _ _ _ c.line_end-end.ensures c.if-end-query.false _ c.word_at-w.ensures.0 _ (c.verdict_in.ensures _ c.word_at-w.ensures.1) _ c.in_ok-verdict_in.was _ (c.place_under-place.ensures _ c.word_at-w.ensures.1)

pub returns : goal.returns
returns c = K.judge-end _ _ _ _ _ c.loop-from-test.false ∙ sym c.loop-from.invariant
