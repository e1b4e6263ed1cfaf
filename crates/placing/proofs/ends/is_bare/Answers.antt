-- `placing::ends/is_bare` meets its contract: each arm computes. Assumes nothing.
use mathlib.Core.Path.{sym, ap}
use Rattle.words.specs.bridge.Key.{key_of, key_in}
use Rattle.words.proofs.ByKey.{not_in}
use Rattle.placing.specs.bridge.Ends.{bare}
use Rattle.placing.proofs.ends.is_bare.Goals as goal

pub returns-in-7235441220169655156 : goal.returns-in-7235441220169655156
unfolding key_of key_in
returns-in-7235441220169655156 c = sym (ap (λ k. key_in k bare) c.in-7235441220169655156.is)

pub returns-in-32199629485598052 : goal.returns-in-32199629485598052
unfolding key_of key_in
returns-in-32199629485598052 c = sym (ap (λ k. key_in k bare) c.in-32199629485598052.is)

pub returns-in-495740085093 : goal.returns-in-495740085093
unfolding key_of key_in
returns-in-495740085093 c = sym (ap (λ k. key_in k bare) c.in-495740085093.is)

pub returns-in_default : goal.returns-in_default
unfolding key_of key_in
returns-in_default c = not_in _ bare _ c.in_default.in_default-own.rest
