-- `negating::outermost_projection` meets its contract. Assumes nothing.
use borrow.Author.Rules.{rules}
use native.Mathlib.Omega.{arith}
use Prim.Native.Nat.{ℕ}
use mathlib.Core.Path.{sym, ap, subst, ◌∙◌}
use Rattle.text.specs.Text.{lines_from}
use Rattle.cursor.proofs.Laws.{line-there}
use Rattle.words.specs.bridge.Key.{key_of}
use Rattle.negating.specs.bridge.Lines.{from_project, Projects}
use Rattle.negating.proofs.Search as S
use Rattle.negating.proofs.outermost_projection.Invariants.{at}
use Rattle.negating.proofs.outermost_projection.Goals as goal

pub new-requires : goal.new-requires
unfolding key_of
new-requires c = search rules

pub moved_to-c-requires : goal.moved_to-c-requires
unfolding key_of
moved_to-c-requires c = search rules

pub loop-c-init : goal.loop-c-init
unfolding key_of
loop-c-init c =
    let e = ap at c.moved_to-c.ensures in (omega (arith, e), ap (λ (k : ℕ). from_project (lines_from c.args.text.now k)) (sym e))

pub next_line-line-requires : goal.next_line-line-requires
unfolding key_of
next_line-line-requires c = search rules

pub returns-then-line-text : goal.returns-then-line-text
unfolding key_of
returns-then-line-text c =
    c.loop-c.invariant.1 ∙ S.no_line _ _ _ (line-there _ _ _ c.next_line-line.ensures.1) c.if-line-text.true

pub word_at-w-requires : goal.word_at-w-requires
unfolding key_of
word_at-w-requires c = let n = c.next_line-line.ensures.1 in (n.low, n.high)

pub line_done-next-requires : goal.line_done-next-requires
unfolding key_of
line_done-next-requires c =
    let h = c.next_line-line.ensures.1.high in let n = c.if-line-text.false in let g = c.well_formed in omega (arith, h, n, g)

pub returns-then-w-eq-PROJECT : goal.returns-then-w-eq-PROJECT
unfolding key_of
returns-then-w-eq-PROJECT c =
    let l = line-there _ _ _ c.next_line-line.ensures.1 in let v = c.loop-c.invariant in subst (λ (k : ℕ). Projects c.args.text.now c.args.from c.loop-c.c.at k) (sym (ap at c.line_done-next.ensures)) (S.project-here _ _ _ l c.if-line-text.false _ c.word_at-w.ensures.0 _ c.word_at-w.ensures.1 c.if-w-eq-PROJECT.true _ v.0 v.1)

pub is_passed-requires : goal.is_passed-requires
unfolding key_of
is_passed-requires c = search rules

pub returns-then-not-is_passed : goal.returns-then-not-is_passed
unfolding key_of
returns-then-not-is_passed c =
    let l = line-there _ _ _ c.next_line-line.ensures.1 in c.loop-c.invariant.1 ∙ S.stops-here _ _ _ l c.if-line-text.false _ c.word_at-w.ensures.0 _ c.word_at-w.ensures.1 c.if-w-eq-PROJECT.false _ c.is_passed.ensures c.if-not-is_passed.true-raw

pub loop-c-smaller : goal.loop-c-smaller
unfolding key_of
loop-c-smaller c =
    let e = ap at c.line_done-next.ensures in let low = c.next_line-line.ensures.1.low in let t = c.loop-c-test.true in omega (arith, e, low, t)

pub loop-c-preserved : goal.loop-c-preserved
unfolding key_of
loop-c-preserved c =
    let l = line-there _ _ _ c.next_line-line.ensures.1 in let v = c.loop-c.invariant in let e = ap at c.line_done-next.ensures in let low = c.next_line-line.ensures.1.low in let i = v.0 in (omega (arith, e, low, i), v.1 ∙ S.goes_on _ _ _ l c.if-line-text.false _ c.word_at-w.ensures.0 _ c.word_at-w.ensures.1 c.if-w-eq-PROJECT.false _ c.is_passed.ensures c.if-not-is_passed.false-raw ∙ ap (λ (k : ℕ). from_project (lines_from c.args.text.now k)) (sym e))

pub returns : goal.returns
unfolding key_of
returns c = c.loop-c.invariant.1 ∙ S.past_end _ _ c.loop-c-test.false
