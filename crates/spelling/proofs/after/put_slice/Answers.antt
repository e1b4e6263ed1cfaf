-- `spelling::after/put_slice` meets its contract. Assumes nothing.
use Rattle.spelling.proofs.Fielded as F
use native.Mathlib.Omega.{arith}
use Rattle.spelling.proofs.after.put_slice.Goals as goal

pub field_at-start-requires : goal.field_at-start-requires
field_at-start-requires c = c.requires

pub field_at-limit-requires : goal.field_at-limit-requires
field_at-limit-requires c = (c.requires.0, c.field_at-start.ensures.last)

pub put_between-a-requires : goal.put_between-a-requires
put_between-a-requires c = c.requires

pub slice_bounds-is_dash-count : goal.slice_bounds-is_dash-count
slice_bounds-is_dash-count c =
    let i = c.field_at-limit.ensures in let low = i.low in let high = i.high in let p = c.requires.0 in omega arith

pub slice_bounds-is_dash-start : goal.slice_bounds-is_dash-start
slice_bounds-is_dash-start c =
    let i = c.field_at-limit.ensures in let low = i.low in let high = i.high in let p = c.requires.0 in omega arith

pub slice_bounds-is_dash-end : goal.slice_bounds-is_dash-end
slice_bounds-is_dash-end c =
    let i = c.field_at-limit.ensures in let low = i.low in let high = i.high in let p = c.requires.0 in omega arith

pub returns-then-is_dash : goal.returns-then-is_dash
returns-then-is_dash c =
    F.slice-one _ _ _ _ c.field_at-start.ensures _ c.field_at-limit.ensures _ c.is_dash.ensures c.if-is_dash.true _ _ c.put_between-a.ensures

pub put_between-requires : goal.put_between-requires
put_between-requires c = (c.requires.0, c.field_at-start.ensures.last)

pub returns : goal.returns
returns c =
    F.slice-two _ _ _ _ c.field_at-start.ensures _ c.field_at-limit.ensures _ c.is_dash.ensures c.if-is_dash.false _ _ _ c.put_between-a.ensures c.put_between.ensures
