-- `columns::columns/joined_mask` meets its contract. Assumes nothing.
use mathlib.Core.Path.{ap}
use native.Mathlib.Omega.{arith}
use Rattle.mask.proofs.Bits as M
use Rattle.columns.specs.bridge.Columns.{new_in}
use Rattle.columns.proofs.New as N
use Rattle.columns.proofs.Gone as G
use Rattle.columns.proofs.columns.joined_mask.Goals as goal

pub loop-i-init : goal.loop-i-init
loop-i-init c = let e = c.empty-gone.ensures in (omega arith, omega arith, G.gone-start _ _ _ _ e)

pub bounds-spots-i : goal.bounds-spots-i
bounds-spots-i c = let m = c.requires.0.many in omega arith

pub goes-go-requires : goal.goes-go-requires
goes-go-requires c =
    (let e = c.requires.0.each _ c.loop-i-test.true in let w = c.wide.ensures in omega arith, c.requires.2)

pub with_bit-gone-requires : goal.with_bit-gone-requires
with_bit-gone-requires c = let t = c.loop-i-test.true in let h = c.requires.1 in (omega arith, c.loop-i.invariant.1)

pub loop-i-preserved : goal.loop-i-preserved
loop-i-preserved c =
    let i = c.loop-i.invariant in (omega arith, rw c.with_bit-gone.ensures (M.bit_below c.goes-go.result _ _ i.1), G.gone-next _ _ _ _ _ (N.columns-left _ c.args.spots.now _ c.requires.0.many _ c.loop-i-test.true) _ _ _ _ _ _ (ap (new_in c.args.text.now c.args.table.now c.args.news.now) c.wide.ensures) _ c.bit_at-constant.ensures c.goes-go.ensures c.with_bit-gone.ensures i.2)

pub returns : goal.returns
returns c =
    M.mask_done _ _ _ _ (G.gone-end _ _ _ (N.columns-over _ c.args.spots.now _ c.requires.0.many _ c.loop-i-test.false)) c.loop-i.invariant.2
