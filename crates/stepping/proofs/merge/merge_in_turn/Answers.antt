-- `stepping::merge/merge_in_turn` meets its contract. Assumes nothing.
use borrow.Author.Rules.{rules}
use mathlib.Core.Path.{ap, ◌∙◌}
use native.Mathlib.Omega.{arith}
use lib.ListN.{length}
use Rattle.parted.specs.Parted.{texts}
use Rattle.stepping.proofs.Turns.{placed, from_first}
use Rattle.stepping.proofs.merge.merge_in_turn.Goals as goal

pub merge_from-requires : goal.merge_from-requires
merge_from-requires c =
    let p = c.requires in let w = c.put_all-size in let e = ap length c.text_at.ensures in (p.0, p.1, p.2, w.auto.out ∙ search rules, (placed _ _ _ _ w.ensures (omega (arith, e, p.3)) (search rules)).0)

pub returns : goal.returns
returns c =
    let w = c.put_all-size in let m = c.merge_from in let e = c.text_at.ensures in let l = ap length e in from_first (texts c.args.input.now) c.args.steps _ w.new.out w.result _ _ m.result e (placed _ _ _ _ w.ensures (omega (arith, l, c.requires.3)) (search rules)).1 m.ensures
