-- `phrasing::place/place_under` meets its contract. Assumes nothing.
use Rattle.phrasing.proofs.Placed as P
use Rattle.words.specs.bridge.Key.{key_of}
use Rattle.phrasing.proofs.place.place_under.Goals as goal

pub returns-in-487300887161 : goal.returns-in-487300887161
unfolding key_of
returns-in-487300887161 c = λ f k. P.under-query f _ k c.in-487300887161.is

pub returns-in-495740085093 : goal.returns-in-495740085093
unfolding key_of
returns-in-495740085093 c = λ f k. P.under-slice f _ k c.in-495740085093.is

pub returns-in-7235441220169655156 : goal.returns-in-7235441220169655156
unfolding key_of
returns-in-7235441220169655156 c = λ f k. P.under-distinct f _ k c.in-7235441220169655156.is

pub returns-in-32199629485598052 : goal.returns-in-32199629485598052
unfolding key_of
returns-in-32199629485598052 c = λ f k. P.under-reduced f _ k c.in-32199629485598052.is

pub returns-in-31651020243559284 : goal.returns-in-31651020243559284
unfolding key_of
returns-in-31651020243559284 c = λ f k. P.under-project f _ k c.in-31651020243559284.is

pub returns-in_default : goal.returns-in_default
unfolding key_of
returns-in_default c =
    λ f k. let n = c.in_default.in_default-own.rest in P.under-other f _ k n.0.0.0.0.1 n.0.0.0.1 n.0.0.1 n.0.1 n.1
