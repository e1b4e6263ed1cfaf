-- `spelling::seek/shows_child` meets its contract. Assumes nothing.
use Rattle.spelling.proofs.Named as N
use Rattle.words.specs.bridge.Key.{key_of}
use Rattle.spelling.proofs.seek.shows_child.Goals as goal

pub returns-in-7810761778931919214 : goal.returns-in-7810761778931919214
unfolding key_of
returns-in-7810761778931919214 c = λ f k fs. N.shows-leftjoin f _ k fs _ c.in-7810761778931919214.is

pub returns-in-469920281971 : goal.returns-in-469920281971
unfolding key_of
returns-in-469920281971 c = λ f k fs. N.shows-minus f _ k fs _ c.in-469920281971.is

pub returns-in-112602977166706 : goal.returns-in-112602977166706
unfolding key_of
returns-in-112602977166706 c = λ f k fs. N.shows-filter f _ k fs _ c.in-112602977166706.is

pub returns-in-111568023285348 : goal.returns-in-111568023285348
unfolding key_of
returns-in-111568023285348 c = λ f k fs. N.shows-extend f _ k fs _ c.in-111568023285348.is

pub returns-in-31369497939174009 : goal.returns-in-31369497939174009
unfolding key_of
returns-in-31369497939174009 c = λ f k fs. N.shows-orderby f _ k fs _ c.in-31369497939174009.is

pub returns-in-444301538672 : goal.returns-in-444301538672
unfolding key_of
returns-in-444301538672 c = λ f k fs. N.shows-group f _ k fs _ c.in-444301538672.is

pub returns-in-31651020243559284 : goal.returns-in-31651020243559284
unfolding key_of
returns-in-31651020243559284 c = λ f k fs. N.shows-project f _ k fs _ c.in-31651020243559284.is

pub returns-in-6383463 : goal.returns-in-6383463
unfolding key_of
returns-in-6383463 c = λ f k fs. N.shows-agg f _ k fs _ c.in-6383463.is

pub returns-in_default : goal.returns-in_default
unfolding key_of
returns-in_default c =
    λ f k fs. let n = c.in_default.in_default-own.rest in N.shows-all f _ k fs _ n.0.0.0.0.0.0.0.1 n.0.0.0.0.0.0.1 n.0.0.0.0.0.1 n.0.0.0.0.1 n.0.0.0.1 n.0.0.1 n.0.1 n.1
