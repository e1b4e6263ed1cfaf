-- `expressing::filters/put_listed` meets its contract. Assumes nothing.
use borrow.Author.Rules.{rules}
use native.Mathlib.Omega.{arith}
use Rattle.emit.proofs.Writing.{wrote-from}
use Rattle.expressing.proofs.Whole as Wh
use Rattle.expressing.proofs.filters.put_listed.Goals as goal

pub returns-then-out-filtered_size : goal.returns-then-out-filtered_size
returns-then-out-filtered_size c =
    let p = c.requires in Wh.listed-short _ _ _ _ _ _ p.0 p.1 p.7 _ c.filtered_size.ensures _ _ _ c.if-out-filtered_size.true

pub returns-then-list-numbers : goal.returns-then-list-numbers
returns-then-list-numbers c =
    let p = c.requires in let g = c.well_formed in let n = c.if-out-filtered_size.false in Wh.list-short _ _ _ _ _ _ p.0 p.1 p.7 _ c.filtered_size.ensures _ _ _ (omega (arith, n)) (omega (arith, g)) c.if-list-numbers.true

pub returns : goal.returns
returns c =
    let p = c.requires in let g = c.well_formed in let n = c.if-out-filtered_size.false in let m = c.if-list-numbers.false in let w = wrote-from c.put_filtered.ensures c.new-w.ensures.starts in Wh.listed-all _ _ _ _ _ _ p.0 p.1 p.7 _ c.filtered_size.ensures _ _ _ (omega (arith, n)) (omega (arith, g)) (omega (arith, m)) _ _ _ (search rules) c.put_numbers.ensures
