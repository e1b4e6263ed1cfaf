-- `starts::starts_at` meets its contract. Assumes nothing.
use native.Mathlib.Omega.{arith}
use Rattle.starts.proofs.Fields as F
use Rattle.starts.proofs.starts_at.Goals as goal

pub returns-in_err-one : goal.returns-in_err-one
returns-in_err-one c = rw c.from_residual.ensures (F.finds-none _ _ c.requires.0 c.requires.1 (F.read_none _ _ _ c.next_field.ensures c.in_err-one.was))

pub is_start-requires : goal.is_start-requires
is_start-requires c =
    let one = F.read_at _ _ _ _ _ c.next_field.ensures c.in_ok-one.was in let high = one.high in let p = c.requires.1 in (one.low, omega arith)

pub returns-then-not-is_start : goal.returns-then-not-is_start
returns-then-not-is_start c =
    let one = F.read_at _ _ _ _ _ c.next_field.ensures c.in_ok-one.was in F.finds-first _ _ c.requires.0 c.requires.1 _ _ one _ c.is_start.ensures c.if-not-is_start.true-raw

pub next_field-requires-2 : goal.next_field-requires-2
next_field-requires-2 c =
    let one = F.read_at _ _ _ _ _ c.next_field.ensures c.in_ok-one.was in let e = one.end in let p = c.requires.1 in omega arith

pub returns-in_err-two : goal.returns-in_err-two
returns-in_err-two c =
    rw c.from_residual-in_err-two.ensures (let one = F.read_at _ _ _ _ _ c.next_field.ensures c.in_ok-one.was in F.finds-one _ _ c.requires.0 c.requires.1 _ _ one (F.read_none _ _ _ c.next_field-2.ensures c.in_err-two.was))

pub is_start-requires-2 : goal.is_start-requires-2
is_start-requires-2 c =
    let one = F.read_at _ _ _ _ _ c.next_field.ensures c.in_ok-one.was in let two = F.read_at _ _ _ _ _ c.next_field-2.ensures c.in_ok-two.was in let e = one.end in let high = two.high in let p = c.requires.1 in (two.low, omega arith)

pub returns-then-not-is_start-2 : goal.returns-then-not-is_start-2
returns-then-not-is_start-2 c =
    let one = F.read_at _ _ _ _ _ c.next_field.ensures c.in_ok-one.was in let two = F.read_at _ _ _ _ _ c.next_field-2.ensures c.in_ok-two.was in F.finds-second _ _ c.requires.0 c.requires.1 _ _ one _ _ two _ c.is_start-2.ensures c.if-not-is_start-2.true-raw

pub returns-then-end-c : goal.returns-then-end-c
returns-then-end-c c =
    let one = F.read_at _ _ _ _ _ c.next_field.ensures c.in_ok-one.was in let two = F.read_at _ _ _ _ _ c.next_field-2.ensures c.in_ok-two.was in F.finds-third _ _ c.requires.0 c.requires.1 _ _ one _ _ two (omega (arith, c.if-end-c.true))

pub returns : goal.returns
returns c =
    let one = F.read_at _ _ _ _ _ c.next_field.ensures c.in_ok-one.was in let two = F.read_at _ _ _ _ _ c.next_field-2.ensures c.in_ok-two.was in F.finds-two _ _ c.requires.0 c.requires.1 _ _ one _ _ two _ _ c.is_start.ensures c.if-not-is_start.false-raw c.is_start-2.ensures c.if-not-is_start-2.false-raw (omega (arith, c.if-end-c.false))
