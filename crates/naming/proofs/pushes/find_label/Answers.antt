-- `naming::pushes/find_label` meets its contract. Assumes nothing.
use Prim.Native.Nat.{◌-◌}
use mathlib.Core.Path.{◌≡◌, refl}
use mathlib.Core.Bool.{true, false}
use native.Mathlib.Omega.{arith}
use lib.ListN.{length, length-take}
use Rattle.scoping.specs.Label.{is_label}
use Rattle.naming.proofs.Labels.{label-five}
use Rattle.naming.proofs.Lookup.{label-found, label-none}
use Rattle.naming.proofs.pushes.find_label.Goals as goal

pub overflow_sub-e : goal.overflow_sub-e
overflow_sub-e c = let f = c.args.f.now in let h : is_label f ≡ true = cc in label-five f h

pub slice_bounds-find_name-end : goal.slice_bounds-find_name-end
slice_bounds-find_name-end c = let f = c.args.f.now in omega (arith, length-take (length f - 5) f)

pub returns-then-ends_in_label : goal.returns-then-ends_in_label
returns-then-ends_in_label c =
    let f = c.args.f.now in let h : is_label f ≡ true = cc in label-found f _ _ _ _ _ _ _ h refl c.requires.1 c.find_name.ensures

pub returns : goal.returns
returns c = let f = c.args.f.now in let h : is_label f ≡ false = cc in label-none f _ _ _ _ h
