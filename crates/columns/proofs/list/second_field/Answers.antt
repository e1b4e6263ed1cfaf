-- `columns::list/second_field` meets its contract. Assumes nothing.
use native.Mathlib.Omega.{arith}
use Rattle.columns.proofs.Positions as Q
use Rattle.columns.proofs.list.second_field.Goals as goal

pub returns-then-end-list : goal.returns-then-end-list
returns-then-end-list c = λ f g ls h. Q.second-open _ _ _ c.line_end-end.ensures f g ls _ c.if-end-list.true h

pub field_end-tab-requires : goal.field_end-tab-requires
field_end-tab-requires c = (Q.field-low _ _ _ c.line_end-end.ensures c.if-end-list.false, c.line_end-end.ensures.high)

pub returns-then-tab-end : goal.returns-then-tab-end
returns-then-tab-end c =
    λ f g ls h. Q.second_none _ _ _ c.line_end-end.ensures c.if-end-list.false f g ls h _ c.field_end-tab.ensures _ c.if-tab-end.true

pub overflow_add-next : goal.overflow_add-next
overflow_add-next c = let h = c.field_end-tab.ensures.high in let l = c.line_end-end.ensures.high in omega arith

pub returns : goal.returns
returns c =
    λ f g ls h. Q.second_is _ _ _ c.line_end-end.ensures c.if-end-list.false f g ls h _ c.field_end-tab.ensures c.if-tab-end.false
