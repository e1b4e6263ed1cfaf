-- `negating::is_passed` meets its contract: each arm computes. Assumes nothing.
use mathlib.Core.Path.{sym, ap}
use Rattle.words.specs.bridge.Key.{key_of, key_in}
use Rattle.words.proofs.ByKey.{not_in}
use Rattle.negating.specs.bridge.Lines.{passed}
use Rattle.negating.proofs.is_passed.Goals as goal

pub returns-in-7235441220169655156 : goal.returns-in-7235441220169655156
unfolding key_of key_in
returns-in-7235441220169655156 c = sym (ap (λ k. key_in k passed) c.in-7235441220169655156.is)

pub returns-in-32199629485598052 : goal.returns-in-32199629485598052
unfolding key_of key_in
returns-in-32199629485598052 c = sym (ap (λ k. key_in k passed) c.in-32199629485598052.is)

pub returns-in-495740085093 : goal.returns-in-495740085093
unfolding key_of key_in
returns-in-495740085093 c = sym (ap (λ k. key_in k passed) c.in-495740085093.is)

pub returns-in-31369497939174009 : goal.returns-in-31369497939174009
unfolding key_of key_in
returns-in-31369497939174009 c = sym (ap (λ k. key_in k passed) c.in-31369497939174009.is)

pub returns-in-444301538672 : goal.returns-in-444301538672
unfolding key_of key_in
returns-in-444301538672 c = sym (ap (λ k. key_in k passed) c.in-444301538672.is)

pub returns-in-1668246643 : goal.returns-in-1668246643
unfolding key_of key_in
returns-in-1668246643 c = sym (ap (λ k. key_in k passed) c.in-1668246643.is)

pub returns-in_default : goal.returns-in_default
unfolding key_of key_in
returns-in_default c = not_in _ passed _ c.in_default.in_default-own.rest
