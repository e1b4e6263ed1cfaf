-- `placing::ends/is_bare_down` meets its contract. Assumes nothing.
use borrow.Author.Rules.{rules}
use native.Mathlib.Omega.{arith}
use Prim.Native.Nat.{ℕ}
use mathlib.Core.Path.{ap, ◌∙◌}
use Rattle.text.specs.Text.{lines_from}
use Rattle.cursor.proofs.Laws.{line-there}
use Rattle.words.specs.bridge.Key.{key_of}
use Rattle.placing.specs.bridge.Ends.{bare_down}
use Rattle.placing.proofs.Bare as S
use Rattle.placing.proofs.ends.is_bare_down.Invariants.{at}
use Rattle.placing.proofs.ends.is_bare_down.Goals as goal

pub new-c-requires : goal.new-c-requires
unfolding key_of
new-c-requires c = search rules

pub loop-c-init : goal.loop-c-init
unfolding key_of
loop-c-init c = ap (λ (k : ℕ). bare_down (lines_from c.args.text.now k)) c.new-c.ensures.0

pub next_line-line-requires : goal.next_line-line-requires
unfolding key_of
next_line-line-requires c = search rules

pub returns-then-line-text : goal.returns-then-line-text
unfolding key_of
returns-then-line-text c =
    let l = line-there _ _ _ c.next_line-line.ensures.1 in S.no_line _ _ _ l c.if-line-text.true ∙ c.loop-c.invariant

pub word_at-w-requires : goal.word_at-w-requires
unfolding key_of
word_at-w-requires c = let n = c.next_line-line.ensures.1 in (n.low, n.high)

pub returns-then-w-eq-PROJECT : goal.returns-then-w-eq-PROJECT
unfolding key_of
returns-then-w-eq-PROJECT c =
    let l = line-there _ _ _ c.next_line-line.ensures.1 in S.project-here _ _ _ l c.if-line-text.false _ c.word_at-w.ensures.0 _ c.word_at-w.ensures.1 c.if-w-eq-PROJECT.true ∙ c.loop-c.invariant

pub is_bare-requires : goal.is_bare-requires
unfolding key_of
is_bare-requires c = search rules

pub returns-then-not-is_bare : goal.returns-then-not-is_bare
unfolding key_of
returns-then-not-is_bare c =
    let l = line-there _ _ _ c.next_line-line.ensures.1 in S.stops-here _ _ _ l c.if-line-text.false _ c.word_at-w.ensures.0 _ c.word_at-w.ensures.1 c.if-w-eq-PROJECT.false _ c.is_bare.ensures c.if-not-is_bare.true-raw ∙ c.loop-c.invariant

pub line_done-c-requires : goal.line_done-c-requires
unfolding key_of
line_done-c-requires c =
    let h = c.next_line-line.ensures.1.high in let n = c.if-line-text.false in let g = c.well_formed in omega (arith, h, n, g)

pub loop-c-smaller : goal.loop-c-smaller
unfolding key_of
loop-c-smaller c =
    let e = ap at c.line_done-c.ensures in let low = c.next_line-line.ensures.1.low in let t = c.loop-c-test.true in omega (arith, e, low, t)

pub loop-c-preserved : goal.loop-c-preserved
unfolding key_of
loop-c-preserved c =
    let l = line-there _ _ _ c.next_line-line.ensures.1 in ap (λ (k : ℕ). bare_down (lines_from c.args.text.now k)) (ap at c.line_done-c.ensures) ∙ S.goes_on _ _ _ l c.if-line-text.false _ c.word_at-w.ensures.0 _ c.word_at-w.ensures.1 c.if-w-eq-PROJECT.false _ c.is_bare.ensures c.if-not-is_bare.false-raw ∙ c.loop-c.invariant

pub returns : goal.returns
unfolding key_of
returns c = S.past_end _ _ c.loop-c-test.false ∙ c.loop-c.invariant
