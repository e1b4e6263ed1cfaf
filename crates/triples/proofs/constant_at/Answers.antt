-- `triples::constant_at` meets its contract. Assumes nothing.
use borrow.Author.Rules.{rules}
use Rattle.triples.proofs.Fields as F
use Rattle.triples.proofs.constant_at.Goals as goal

pub returns-in_err-field : goal.returns-in_err-field
returns-in_err-field c = rw c.from_residual.ensures (F.takes_none _ _ c.requires _ c.next_field.ensures c.in_err-field.was)

pub slice_bounds-is_kind-count : goal.slice_bounds-is_kind-count
slice_bounds-is_kind-count c = F.read_low _ _ c.requires _ c.next_field.ensures _ _ c.in_ok-field.was

pub slice_bounds-is_kind-start : goal.slice_bounds-is_kind-start
slice_bounds-is_kind-start c = let low = F.read_low _ _ c.requires _ c.next_field.ensures _ _ c.in_ok-field.was in search rules

pub slice_bounds-is_kind-end : goal.slice_bounds-is_kind-end
slice_bounds-is_kind-end c = let high = F.read-high _ _ c.requires _ c.next_field.ensures _ _ c.in_ok-field.was in search rules

pub returns-then-not-is_kind : goal.returns-then-not-is_kind
returns-then-not-is_kind c =
    F.takes-other _ _ c.requires _ c.next_field.ensures _ _ c.in_ok-field.was _ c.is_kind.ensures c.if-not-is_kind.true-raw

pub returns : goal.returns
returns c =
    F.takes_at _ _ c.requires _ c.next_field.ensures _ _ c.in_ok-field.was _ c.is_kind.ensures c.if-not-is_kind.false-raw
