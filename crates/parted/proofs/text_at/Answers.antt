-- `parted::text_at` meets its contract. Assumes nothing.
use Prim.Native.Nat.{◌-◌}
use native.Mathlib.Omega.{arith}
use Rattle.parted.proofs.Parts.{parted-text}
use Rattle.parted.proofs.text_at.Goals as goal

pub text_start-from-requires : goal.text_start-from-requires
text_start-from-requires c =
    let p = c.requires in (p.0, λ z. let k = c.args.k - 1 in let g = p.2.going k (omega arith) (omega arith) in let r = (p.2.each k (omega arith) (omega arith)).ended.room g in omega (arith, r))

pub slice_bounds-result-count : goal.slice_bounds-result-count
slice_bounds-result-count c =
    let p = c.requires in let e = (p.2.each _ p.1 p.0).ended.low in omega (arith, e, c.text_start-from.ensures)

pub slice_bounds-result-start : goal.slice_bounds-result-start
slice_bounds-result-start c =
    let p = c.requires in let e = (p.2.each _ p.1 p.0).ended.low in omega (arith, e, c.text_start-from.ensures)

pub slice_bounds-result-end : goal.slice_bounds-result-end
slice_bounds-result-end c = let p = c.requires in let e = (p.2.each _ p.1 p.0).ended.high in omega (arith, e)

pub returns : goal.returns
returns c = let p = c.requires in rw c.text_start-from.ensures (parted-text _ _ _ _ _ p.2 p.1 p.0)
