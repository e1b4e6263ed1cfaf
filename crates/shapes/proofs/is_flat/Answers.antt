-- `shapes::is_flat` meets its contract: each arm computes. Assumes nothing.
use mathlib.Core.Path.{sym, ap}
use Rattle.words.specs.bridge.Key.{key_of, key_in}
use Rattle.words.proofs.ByKey.{not_in}
use Rattle.shapes.specs.bridge.Shape.{flat}
use Rattle.shapes.proofs.is_flat.Goals as goal

pub returns-in-116 : goal.returns-in-116
unfolding key_of key_in
returns-in-116 c = sym (ap (λ k. key_in k flat) c.in-116.is)

pub returns-in-1668246643 : goal.returns-in-1668246643
unfolding key_of key_in
returns-in-1668246643 c = sym (ap (λ k. key_in k flat) c.in-1668246643.is)

pub returns-in-7499639 : goal.returns-in-7499639
unfolding key_of key_in
returns-in-7499639 c = sym (ap (λ k. key_in k flat) c.in-7499639.is)

pub returns-in-6386531 : goal.returns-in-6386531
unfolding key_of key_in
returns-in-6386531 c = sym (ap (λ k. key_in k flat) c.in-6386531.is)

pub returns-in-1684370275 : goal.returns-in-1684370275
unfolding key_of key_in
returns-in-1684370275 c = sym (ap (λ k. key_in k flat) c.in-1684370275.is)

pub returns-in-6383463 : goal.returns-in-6383463
unfolding key_of key_in
returns-in-6383463 c = sym (ap (λ k. key_in k flat) c.in-6383463.is)

pub returns-in-107096743963756 : goal.returns-in-107096743963756
unfolding key_of key_in
returns-in-107096743963756 c = sym (ap (λ k. key_in k flat) c.in-107096743963756.is)

pub returns-in_default : goal.returns-in_default
unfolding key_of key_in
returns-in_default c = not_in _ flat _ c.in_default.in_default-own.rest
