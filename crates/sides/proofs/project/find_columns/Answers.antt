-- `sides::project/find_columns` meets its contract. Assumes nothing.
use native.Mathlib.Omega.{arith}
use Rattle.sides.proofs.Sides as S
use Rattle.sides.proofs.project.find_columns.Goals as goal

pub word_at-w-requires : goal.word_at-w-requires
word_at-w-requires c = (S.project-low _ _ _ c.requires.1 _ c.line_end-end.ensures, c.line_end-end.ensures.high)

pub overflow_add-result : goal.overflow_add-result
overflow_add-result c = let l = c.line_end-end.ensures.high in omega arith

pub overflow_add-w : goal.overflow_add-w
overflow_add-w c = let h = c.word_at-w.ensures.0.high in let l = c.line_end-end.ensures.high in omega arith

pub count_fields-requires : goal.count_fields-requires
count_fields-requires c = c.line_end-end.ensures.high

pub returns : goal.returns
returns c =
    (let l = S.project-less _ _ _ c.requires.1 _ c.line_end-end.ensures in omega arith, λ x h. S.columns-found _ _ x h _ c.line_end-end.ensures _ c.word_at-w.ensures.0 _ c.count_fields.ensures)
