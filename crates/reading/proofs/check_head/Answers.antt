-- `reading::check_head` meets its contract. Assumes nothing.
use borrow.Author.Rules.{rules}
use Prim.Native.Nat.{◌+◌}
use mathlib.Core.Path.{refl, sym, ◌∙◌}
use native.Mathlib.Omega.{arith}
use Rattle.words.specs.bridge.Key.{key_of}
use Rattle.reading.proofs.HeadLaw as H
use Rattle.reading.proofs.check_head.Goals as goal

pub returns-then-text-gt16384 : goal.returns-then-text-gt16384
unfolding key_of
returns-then-text-gt16384 c = λ a l h t. H.head-long _ a l h c.if-text-gt16384.true

pub word_at-word-requires : goal.word_at-word-requires
unfolding key_of
word_at-word-requires c = search rules

pub returns-then-word-ne-QUERY : goal.returns-then-word-ne-QUERY
unfolding key_of
returns-then-word-ne-QUERY c =
    λ a l h t. let p = c.requires in let n = c.if-text-gt16384.false in H.head-other _ a l h c.args.line p.0 p.1 p.2 (omega (arith, n)) _ c.word_at-word.ensures.0 (record { at = c.word_at-word.result.end + 1; end = c.args.line.end; awaited = 0 }) (refl, refl) _ c.word_at-word.ensures.1 c.if-word-ne-QUERY.true

pub behind-requires : goal.behind-requires
unfolding key_of
behind-requires c = search rules

pub are_head_fields-requires : goal.are_head_fields-requires
unfolding key_of
are_head_fields-requires c =
    let p = c.requires in let n = c.if-text-gt16384.false in let e = p.2 in let f = p.1 in let w = c.word_at-word.ensures.0.low in let b = c.behind.ensures in let at = b.0 in let end = b.1 in record { short = omega (arith, n); ends = omega (arith, e, end); plain = λ k low high. f.before k (omega (arith, high, end)) (omega arith) }

pub returns-then-are_head_fields : goal.returns-then-are_head_fields
unfolding key_of
returns-then-are_head_fields c =
    λ a l h t. let p = c.requires in let n = c.if-text-gt16384.false in let b = c.behind.ensures in H.head-good _ a l h c.args.line p.0 p.1 p.2 (omega (arith, n)) _ c.word_at-word.ensures.0 c.behind.result (b.0, b.1) _ c.word_at-word.ensures.1 c.if-word-ne-QUERY.false (sym c.are_head_fields.ensures ∙ c.if-are_head_fields.true) t

pub returns : goal.returns
unfolding key_of
returns c =
    λ a l h t. let p = c.requires in let n = c.if-text-gt16384.false in let b = c.behind.ensures in H.head-wrong _ a l h c.args.line p.0 p.1 p.2 (omega (arith, n)) _ c.word_at-word.ensures.0 c.behind.result (b.0, b.1) _ c.word_at-word.ensures.1 c.if-word-ne-QUERY.false (sym c.are_head_fields.ensures ∙ c.if-are_head_fields.false)
