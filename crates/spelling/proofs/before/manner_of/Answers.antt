-- `spelling::before/manner_of` meets its contract. Assumes nothing.
use Rattle.spelling.proofs.Arms as A
use Rattle.words.specs.bridge.Key.{key_of}
use Rattle.spelling.proofs.before.manner_of.Goals as goal

pub returns-in-7235441220169655156 : goal.returns-in-7235441220169655156
unfolding key_of
returns-in-7235441220169655156 c = λ f k. A.manner-distinct f _ k c.in-7235441220169655156.is

pub returns-in-32199629485598052 : goal.returns-in-32199629485598052
unfolding key_of
returns-in-32199629485598052 c = λ f k. A.manner-reduced f _ k c.in-32199629485598052.is

pub returns-in_default : goal.returns-in_default
unfolding key_of
returns-in_default c = λ f k. let n = c.in_default.in_default-own.rest in A.manner-none f _ k n.0.1 n.1
