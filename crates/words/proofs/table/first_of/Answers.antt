-- `words::table/first_of` meets its contract. Assumes nothing.
use Prim.Native.Nat.{◌+◌, ◌≤◌, zero-le}
use mathlib.Core.Path.{◌≡◌, refl}
use native.Mathlib.Omega.{arith}
use Rattle.words.specs.bridge.Words.{first_of}
use Rattle.words.proofs.ByKey.{past}
use Rattle.words.proofs.table.first_of.Goals as goal

pub returns-in-0 : goal.returns-in-0
unfolding first_of
returns-in-0 c = (rw c.in-0.is refl, omega arith)

pub returns-in-1 : goal.returns-in-1
unfolding first_of
returns-in-1 c = (rw c.in-1.is refl, omega arith)

pub returns-in-2 : goal.returns-in-2
unfolding first_of
returns-in-2 c = (rw c.in-2.is refl, omega arith)

pub returns-in-3 : goal.returns-in-3
unfolding first_of
returns-in-3 c = (rw c.in-3.is refl, omega arith)

pub returns-in-4 : goal.returns-in-4
unfolding first_of
returns-in-4 c = (rw c.in-4.is refl, omega arith)

pub returns-in-5 : goal.returns-in-5
unfolding first_of
returns-in-5 c = (rw c.in-5.is refl, omega arith)

pub returns-in-6 : goal.returns-in-6
unfolding first_of
returns-in-6 c = (rw c.in-6.is refl, omega arith)

pub returns-in-7 : goal.returns-in-7
unfolding first_of
returns-in-7 c = (rw c.in-7.is refl, omega arith)

pub returns-in-8 : goal.returns-in-8
unfolding first_of
returns-in-8 c = (rw c.in-8.is refl, omega arith)

pub returns-in-9 : goal.returns-in-9
unfolding first_of
returns-in-9 c = (rw c.in-9.is refl, omega arith)

pub returns-in-10 : goal.returns-in-10
unfolding first_of
returns-in-10 c = (rw c.in-10.is refl, omega arith)

pub returns-in-11 : goal.returns-in-11
unfolding first_of
returns-in-11 c = (rw c.in-11.is refl, omega arith)

pub returns-in_default : goal.returns-in_default
unfolding first_of
returns-in_default c =
    let l : 0 + 12 ≤ c.args.sort = past c.args.sort 0 12 _ zero-le c.in_default.in_default-own.rest in let h = c.requires in let e : c.args.sort ≡ 12 = omega (arith, l, h) in (rw e refl, omega arith)
