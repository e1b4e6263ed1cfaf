-- `starts::order_number` meets its contract. Assumes nothing.
use Rattle.starts.proofs.Said as S
use Rattle.starts.proofs.order_number.Goals as goal

pub in_order-requires : goal.in_order-requires
in_order-requires c = (c.requires.room, c.requires.few)

pub returns-then-in_order : goal.returns-then-in_order
returns-then-in_order c = S.number-ordered _ _ _ c.requires _ c.in_order.ensures c.if-in_order.true

pub returns : goal.returns
returns c = S.number-unordered _ _ _ c.requires _ c.in_order.ensures c.if-in_order.false
