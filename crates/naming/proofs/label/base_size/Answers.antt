-- `naming::label/base_size` meets its contract. Assumes nothing.
use mathlib.Core.Path.{◌≡◌}
use mathlib.Core.Bool.{true, false}
use native.Mathlib.Omega.{arith}
use Rattle.scoping.specs.Label.{is_label}
use Rattle.naming.proofs.Labels.{label-five, base-labelled, base-other}
use Rattle.naming.proofs.label.base_size.Goals as goal

pub overflow_sub-result : goal.overflow_sub-result
overflow_sub-result c = let f = c.args.f.now in let h : is_label f ≡ true = cc in label-five f h

pub returns-then-ends_in_label : goal.returns-then-ends_in_label
returns-then-ends_in_label c = let f = c.args.f.now in let h : is_label f ≡ true = cc in (base-labelled f h, omega arith)

pub returns : goal.returns
returns c = let f = c.args.f.now in let h : is_label f ≡ false = cc in (base-other f h, omega arith)
