-- `binding::judge/judge_line` meets its contract. Assumes nothing.
use borrow.Author.Rules.{rules}
use Rattle.words.specs.bridge.Key.{key_of}
use Rattle.binding.proofs.Judging as J
use Rattle.binding.proofs.judge.judge_line.Goals as goal

pub word_at-w-requires : goal.word_at-w-requires
unfolding key_of
word_at-w-requires c = search rules

pub overflow_add-result : goal.overflow_add-result
unfolding key_of
overflow_add-result c = search rules

pub overflow_add-w : goal.overflow_add-w
unfolding key_of
overflow_add-w c = search rules

pub are_inside-requires : goal.are_inside-requires
unfolding key_of
are_inside-requires c = search rules

pub both-requires : goal.both-requires
unfolding key_of
both-requires c = search rules

pub overflow_add-w-in-7499639 : goal.overflow_add-w-in-7499639
unfolding key_of
overflow_add-w-in-7499639 c = search rules

pub are_usable-requires : goal.are_usable-requires
unfolding key_of
are_usable-requires c = search rules

pub both-requires-in-7499639 : goal.both-requires-in-7499639
unfolding key_of
both-requires-in-7499639 c = search rules

pub returns-in-7562612 : goal.returns-in-7562612
unfolding key_of
returns-in-7562612 c =
    J.set_line _ _ _ _ c.requires.0 c.requires.1 c.word_at-w.ensures.0 _ c.word_at-w.ensures.1 _ _ c.in-7562612.is

pub returns-in-24948 : goal.returns-in-24948
unfolding key_of
returns-in-24948 c =
    J.at-line _ _ _ _ c.requires.0 c.requires.1 c.word_at-w.ensures.0 _ c.word_at-w.ensures.1 _ _ c.in-24948.is _ _ c.are_inside.ensures c.both.ensures

pub returns-in-7499639 : goal.returns-in-7499639
unfolding key_of
returns-in-7499639 c =
    J.row_line _ _ _ _ c.requires.0 c.requires.1 c.word_at-w.ensures.0 _ c.word_at-w.ensures.1 _ _ c.in-7499639.is _ _ c.are_usable.ensures c.both-in-7499639.ensures

pub returns-in_default : goal.returns-in_default
unfolding key_of
returns-in_default c =
    let n = c.in_default.in_default-own.rest in J.other-line _ _ _ _ c.requires.0 c.requires.1 c.word_at-w.ensures.0 _ c.word_at-w.ensures.1 _ _ n.0.0.1 n.0.1 n.1
