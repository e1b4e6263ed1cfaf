-- `columns::columns/position_mask` meets its contract. Assumes nothing.
use Prim.Native.Nat.{ℕ, ◌-◌, ◌<◌}
use mathlib.Core.Path.{◌≡◌, ap, ◌∙◌}
use native.Mathlib.Omega.{arith}
use lib.ListN.{take, drop}
use Rattle.mask.specs.bridge.Mask.{mask_of}
use Rattle.columns.proofs.Places as P
use Rattle.columns.proofs.columns.position_mask.Goals as goal

pub loop-k-init : goal.loop-k-init
loop-k-init c = (omega arith, c.empty-mask.ensures ∙ P.bits-start c.args.at.now c.args.m _ (omega arith))

pub with_one-mask-requires : goal.with_one-mask-requires
with_one-mask-requires c =
    let b : c.wide.result < c.args.c = P.place-below c.args.at.now c.args.m _ (c.loop-k.k - 1) (omega arith) (omega arith) c.requires.3 _ c.wide.ensures in omega arith

pub loop-k-preserved : goal.loop-k-preserved
loop-k-preserved c =
    (omega arith, P.bits-next c.args.at.now c.args.m _ _ (omega arith) (omega arith) c.requires.3 c.loop-k.k _ _ _ (omega arith) c.wide.ensures c.loop-k.invariant.1 c.with_one-mask.ensures)

pub returns : goal.returns
returns c =
    let z : c.loop-k.k ≡ 0 = omega arith in c.loop-k.invariant.1 ∙ ap (λ (n : ℕ). mask_of (P.bits_from (drop n (take c.args.m c.args.at.now)) 0 c.args.c)) z
