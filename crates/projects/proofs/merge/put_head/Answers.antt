-- `projects::merge/put_head` meets its contract. Assumes nothing.
use mathlib.Core.Path.{sym, ◌∙◌}
use native.Mathlib.Omega.{arith}
use Rattle.projects.proofs.Known as KN
use Rattle.projects.proofs.Whole as W
use Rattle.projects.proofs.merge.put_head.Goals as goal

pub slice_bounds-put_columns-end : goal.slice_bounds-put_columns-end
slice_bounds-put_columns-end c = sym (KN.taken-long _ _ c.requires.2)

pub width-requires : goal.width-requires
width-requires c = c.requires.3.left_room

pub put_columns-requires : goal.put_columns-requires
put_columns-requires c = let p = c.requires in (p.0, c.width.ensures ∙ p.3.left)

pub returns-then-pair : goal.returns-then-pair
returns-then-pair c = λ t. record {
  same = c.put_all-then-pair.ensures.same ∙ c.put_columns.ensures.same ∙ c.put_all-2.ensures.same ∙ c.put_all.ensures.same;
  puts = W.left-head _ _ _ _ _ _ _ _ _ c.if-pair.true c.put_all.ensures.puts c.put_all-2.ensures.puts c.put_columns.ensures.puts c.put_all-then-pair.ensures.puts t;
}

pub offset_bounds-spots-k : goal.offset_bounds-spots-k
offset_bounds-spots-k c = let g = c.well_formed in let p = c.requires.2 in omega (arith, g, p)

pub slice_bounds-put_columns-count : goal.slice_bounds-put_columns-count
slice_bounds-put_columns-count c = c.requires.2

pub slice_bounds-put_columns-start : goal.slice_bounds-put_columns-start
slice_bounds-put_columns-start c = c.requires.2

pub width-requires-2 : goal.width-requires-2
width-requires-2 c = c.requires.3.right_room

pub put_columns-requires-2 : goal.put_columns-requires-2
put_columns-requires-2 c = let p = c.requires in (p.1, c.width-2.ensures ∙ p.3.right)

pub returns : goal.returns
returns c = λ t. record {
  same = c.put_all-3.ensures.same ∙ c.put_columns-2.ensures.same ∙ c.put_columns.ensures.same ∙ c.put_all-2.ensures.same ∙ c.put_all.ensures.same;
  puts = W.two-heads _ _ _ _ _ _ _ _ _ _ c.if-pair.false c.put_all.ensures.puts c.put_all-2.ensures.puts c.put_columns.ensures.puts c.put_columns-2.ensures.puts c.put_all-3.ensures.puts t;
}
