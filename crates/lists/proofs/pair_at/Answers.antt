-- `lists::pair_at` meets its contract. Assumes nothing.
use borrow.Author.Rules.{rules}
use native.Mathlib.Omega.{arith}
use Rattle.lists.proofs.Fields as F
use Rattle.lists.proofs.pair_at.Goals as goal

pub returns-in_err-one : goal.returns-in_err-one
returns-in_err-one c =
    rw c.from_residual.ensures (F.finds-none _ _ _ _ c.requires.0 c.requires.1 (F.read_none _ _ _ c.next_field.ensures c.in_err-one.was))

pub slice_bounds-is_kind-count : goal.slice_bounds-is_kind-count
slice_bounds-is_kind-count c = let one = F.read_at _ _ _ _ _ c.next_field.ensures c.in_ok-one.was in one.low

pub slice_bounds-is_kind-start : goal.slice_bounds-is_kind-start
slice_bounds-is_kind-start c = let one = F.read_at _ _ _ _ _ c.next_field.ensures c.in_ok-one.was in search rules

pub slice_bounds-is_kind-end : goal.slice_bounds-is_kind-end
slice_bounds-is_kind-end c = let one = F.read_at _ _ _ _ _ c.next_field.ensures c.in_ok-one.was in search rules

pub returns-then-not-is_kind : goal.returns-then-not-is_kind
returns-then-not-is_kind c =
    let one = F.read_at _ _ _ _ _ c.next_field.ensures c.in_ok-one.was in F.finds-first _ _ _ _ c.requires.0 c.requires.1 _ _ one _ c.is_kind.ensures c.if-not-is_kind.true-raw

pub next_field-requires-2 : goal.next_field-requires-2
next_field-requires-2 c = let one = F.read_at _ _ _ _ _ c.next_field.ensures c.in_ok-one.was in omega arith

pub returns-in_err-two : goal.returns-in_err-two
returns-in_err-two c =
    rw c.from_residual-in_err-two.ensures (let one = F.read_at _ _ _ _ _ c.next_field.ensures c.in_ok-one.was in F.finds-one _ _ _ _ c.requires.0 c.requires.1 _ _ one (F.read_none _ _ _ c.next_field-2.ensures c.in_err-two.was))

pub slice_bounds-is_kind-count-2 : goal.slice_bounds-is_kind-count-2
slice_bounds-is_kind-count-2 c = let two = F.read_at _ _ _ _ _ c.next_field-2.ensures c.in_ok-two.was in two.low

pub slice_bounds-is_kind-start-2 : goal.slice_bounds-is_kind-start-2
slice_bounds-is_kind-start-2 c =
    let one = F.read_at _ _ _ _ _ c.next_field.ensures c.in_ok-one.was in let two = F.read_at _ _ _ _ _ c.next_field-2.ensures c.in_ok-two.was in search rules

pub slice_bounds-is_kind-end-2 : goal.slice_bounds-is_kind-end-2
slice_bounds-is_kind-end-2 c =
    let one = F.read_at _ _ _ _ _ c.next_field.ensures c.in_ok-one.was in let two = F.read_at _ _ _ _ _ c.next_field-2.ensures c.in_ok-two.was in search rules

pub returns-then-not-is_kind-2 : goal.returns-then-not-is_kind-2
returns-then-not-is_kind-2 c =
    let one = F.read_at _ _ _ _ _ c.next_field.ensures c.in_ok-one.was in let two = F.read_at _ _ _ _ _ c.next_field-2.ensures c.in_ok-two.was in F.finds-second _ _ _ _ c.requires.0 c.requires.1 _ _ one _ _ two _ c.is_kind-2.ensures c.if-not-is_kind-2.true-raw

pub returns-then-end-c : goal.returns-then-end-c
returns-then-end-c c =
    let one = F.read_at _ _ _ _ _ c.next_field.ensures c.in_ok-one.was in let two = F.read_at _ _ _ _ _ c.next_field-2.ensures c.in_ok-two.was in F.finds-third _ _ _ _ c.requires.0 c.requires.1 _ _ one _ _ two (omega (arith, c.if-end-c.true))

pub returns : goal.returns
returns c =
    let one = F.read_at _ _ _ _ _ c.next_field.ensures c.in_ok-one.was in let two = F.read_at _ _ _ _ _ c.next_field-2.ensures c.in_ok-two.was in F.finds-two _ _ _ _ c.requires.0 c.requires.1 _ _ one _ _ two _ _ c.is_kind.ensures c.if-not-is_kind.false-raw c.is_kind-2.ensures c.if-not-is_kind-2.false-raw (omega (arith, c.if-end-c.false))
