-- `binding::values/put_fields` meets its contract. Assumes nothing.
use borrow.Author.Rules.{rules}
use mathlib.Core.Path.{◌∙◌}
use native.Mathlib.Omega.{arith}
use Rattle.words.specs.bridge.Key.{key_of}
use Rattle.binding.proofs.Valued as Vd
use Rattle.binding.proofs.values.put_fields.Goals as goal

pub word_at-word-requires : goal.word_at-word-requires
unfolding key_of
word_at-word-requires c = search rules

pub slice_bounds-put_all-count : goal.slice_bounds-put_all-count
unfolding key_of
slice_bounds-put_all-count c =
    let w = c.word_at-word.ensures.0 in let low = w.low in let high = w.high in let p = c.requires.2 in omega arith

pub slice_bounds-put_all-start : goal.slice_bounds-put_all-start
unfolding key_of
slice_bounds-put_all-start c =
    let w = c.word_at-word.ensures.0 in let low = w.low in let high = w.high in let p = c.requires.2 in omega arith

pub slice_bounds-put_all-end-in-7562612 : goal.slice_bounds-put_all-end-in-7562612
unfolding key_of
slice_bounds-put_all-end-in-7562612 c =
    let w = c.word_at-word.ensures.0 in let low = w.low in let high = w.high in let p = c.requires.2 in omega arith

pub overflow_add-to : goal.overflow_add-to
unfolding key_of
overflow_add-to c =
    let w = c.word_at-word.ensures.0 in let low = w.low in let high = w.high in let p = c.requires.2 in omega arith

pub put_bound-requires : goal.put_bound-requires
unfolding key_of
put_bound-requires c =
    let w = c.word_at-word.ensures.0 in let low = w.low in let high = w.high in let p = c.requires in (p.0, p.2, omega arith)

pub overflow_add-to-in_default : goal.overflow_add-to-in_default
unfolding key_of
overflow_add-to-in_default c =
    let w = c.word_at-word.ensures.0 in let low = w.low in let high = w.high in let p = c.requires.2 in omega arith

pub put_cells-requires : goal.put_cells-requires
unfolding key_of
put_cells-requires c =
    let w = c.word_at-word.ensures.0 in let low = w.low in let high = w.high in let p = c.requires in (p.2, omega arith)

pub returns-in-7562612 : goal.returns-in-7562612
unfolding key_of
returns-in-7562612 c =
    let p = c.requires in record {
      same = c.put_all-in-7562612.ensures.same ∙ c.put_all.ensures.same;
      puts = Vd.set_line _ _ _ _ _ p.1 p.2 c.word_at-word.ensures.0 _ c.word_at-word.ensures.1 _ _ _ c.in-7562612.is c.put_all.ensures.puts c.put_all-in-7562612.ensures.puts;
    }

pub returns-in-24948 : goal.returns-in-24948
unfolding key_of
returns-in-24948 c =
    let p = c.requires in record {
      same = c.put_bound.ensures.same ∙ c.put_all-in-24948.ensures.same;
      puts = Vd.at-line _ _ _ _ _ p.1 p.2 c.word_at-word.ensures.0 _ c.word_at-word.ensures.1 _ _ _ (λ e. let k = c.in-24948.is in omega (arith, e, k)) c.in-24948.is c.put_all-in-24948.ensures.puts c.put_bound.ensures.puts;
    }

pub returns-in_default : goal.returns-in_default
unfolding key_of
returns-in_default c =
    let p = c.requires in let n = c.in_default.in_default-own.rest in record {
      same = c.put_cells.ensures.same ∙ c.put_all-in_default.ensures.same;
      puts = Vd.row_line _ _ _ _ _ p.1 p.2 c.word_at-word.ensures.0 _ c.word_at-word.ensures.1 _ _ _ n.0.1 n.1 c.put_all-in_default.ensures.puts c.put_cells.ensures.puts;
    }
