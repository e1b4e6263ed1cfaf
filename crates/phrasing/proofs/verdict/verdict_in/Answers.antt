-- `phrasing::verdict/verdict_in` meets its contract. Assumes nothing.
use borrow.Author.Rules.{rules}
use Rattle.phrasing.proofs.Judged as J
use Rattle.words.specs.bridge.Key.{key_of}
use Rattle.phrasing.proofs.verdict.verdict_in.Goals as goal

pub triple-requires : goal.triple-requires
unfolding key_of
triple-requires c = c.requires.0

pub term-requires : goal.term-requires
unfolding key_of
term-requires c = c.requires.0

pub bound-requires : goal.bound-requires
unfolding key_of
bound-requires c = c.requires.0

pub plain-requires : goal.plain-requires
unfolding key_of
plain-requires c = search rules

pub plain-requires-in-1785686382 : goal.plain-requires-in-1785686382
unfolding key_of
plain-requires-in-1785686382 c = search rules

pub plain-requires-in-7810761778931919214 : goal.plain-requires-in-7810761778931919214
unfolding key_of
plain-requires-in-7810761778931919214 c = search rules

pub plain-requires-in-112602977166706 : goal.plain-requires-in-112602977166706
unfolding key_of
plain-requires-in-112602977166706 c = search rules

pub plain-requires-in-504363577198 : goal.plain-requires-in-504363577198
unfolding key_of
plain-requires-in-504363577198 c = search rules

pub graph-requires : goal.graph-requires
unfolding key_of
graph-requires c = c.requires.0

pub exists-requires : goal.exists-requires
unfolding key_of
exists-requires c = search rules

pub newer-requires : goal.newer-requires
unfolding key_of
newer-requires c = search rules

pub newer-requires-in-130160803538291 : goal.newer-requires-in-130160803538291
unfolding key_of
newer-requires-in-130160803538291 c = search rules

pub columns-requires : goal.columns-requires
unfolding key_of
columns-requires c = c.requires.0

pub row-requires : goal.row-requires
unfolding key_of
row-requires c = c.requires.0

pub extend-requires : goal.extend-requires
unfolding key_of
extend-requires c = c.requires

pub project-requires : goal.project-requires
unfolding key_of
project-requires c = c.requires.0

pub orderby-requires : goal.orderby-requires
unfolding key_of
orderby-requires c = c.requires.0

pub distinct-requires : goal.distinct-requires
unfolding key_of
distinct-requires c = search rules

pub distinct-requires-in-32199629485598052 : goal.distinct-requires-in-32199629485598052
unfolding key_of
distinct-requires-in-32199629485598052 c = search rules

pub slice-requires : goal.slice-requires
unfolding key_of
slice-requires c = search rules

pub head-requires : goal.head-requires
unfolding key_of
head-requires c = c.requires.0

pub returns-in-116 : goal.returns-in-116
unfolding key_of
returns-in-116 c = λ f k. J.verdict-t f _ k _ _ _ _ _ c.in-116.is _ c.triple.ensures

pub returns-in-1952805485 : goal.returns-in-1952805485
unfolding key_of
returns-in-1952805485 c = λ f k. J.verdict-term f _ k _ _ _ _ _ c.in-1952805485.is _ c.term.ensures

pub returns-in-422776761956 : goal.returns-in-422776761956
unfolding key_of
returns-in-422776761956 c = λ f k. J.verdict-bound f _ k _ _ _ _ _ c.in-422776761956.is _ c.bound.ensures

pub returns-in-6449008 : goal.returns-in-6449008
unfolding key_of
returns-in-6449008 c = λ f k. J.verdict-bgp f _ k _ _ _ _ _ c.in-6449008.is _ c.plain.ensures

pub returns-in-1785686382 : goal.returns-in-1785686382
unfolding key_of
returns-in-1785686382 c = λ f k. J.verdict-join f _ k _ _ _ _ _ c.in-1785686382.is _ c.plain-in-1785686382.ensures

pub returns-in-7810761778931919214 : goal.returns-in-7810761778931919214
unfolding key_of
returns-in-7810761778931919214 c =
    λ f k. J.verdict-leftjoin f _ k _ _ _ _ _ c.in-7810761778931919214.is _ c.plain-in-7810761778931919214.ensures

pub returns-in-112602977166706 : goal.returns-in-112602977166706
unfolding key_of
returns-in-112602977166706 c = λ f k. J.verdict-filter f _ k _ _ _ _ _ c.in-112602977166706.is _ c.plain-in-112602977166706.ensures

pub returns-in-504363577198 : goal.returns-in-504363577198
unfolding key_of
returns-in-504363577198 c = λ f k. J.verdict-union f _ k _ _ _ _ _ c.in-504363577198.is _ c.plain-in-504363577198.ensures

pub returns-in-444300619880 : goal.returns-in-444300619880
unfolding key_of
returns-in-444300619880 c = λ f k. J.verdict-graph f _ k _ _ _ _ _ c.in-444300619880.is _ c.graph.ensures

pub returns-in-28530 : goal.returns-in-28530
unfolding key_of
returns-in-28530 c = λ f k. J.verdict-or f _ k _ _ _ _ _ c.in-28530.is

pub returns-in-6385252 : goal.returns-in-6385252
unfolding key_of
returns-in-6385252 c = λ f k. J.verdict-and f _ k _ _ _ _ _ c.in-6385252.is

pub returns-in-25969 : goal.returns-in-25969
unfolding key_of
returns-in-25969 c = λ f k. J.verdict-eq f _ k _ _ _ _ _ c.in-25969.is

pub returns-in-1935764837 : goal.returns-in-1935764837
unfolding key_of
returns-in-1935764837 c = λ f k. J.verdict-same f _ k _ _ _ _ _ c.in-1935764837.is

pub returns-in-7237492 : goal.returns-in-7237492
unfolding key_of
returns-in-7237492 c = λ f k. J.verdict-not f _ k _ _ _ _ _ c.in-7237492.is

pub returns-in-6386531 : goal.returns-in-6386531
unfolding key_of
returns-in-6386531 c = λ f k. J.verdict-asc f _ k _ _ _ _ _ c.in-6386531.is

pub returns-in-1684370275 : goal.returns-in-1684370275
unfolding key_of
returns-in-1684370275 c = λ f k. J.verdict-desc f _ k _ _ _ _ _ c.in-1684370275.is

pub returns-in-111567839655027 : goal.returns-in-111567839655027
unfolding key_of
returns-in-111567839655027 c = λ f k. J.verdict-exists f _ k _ _ _ _ _ c.in-111567839655027.is _ c.exists.ensures

pub returns-in-469920281971 : goal.returns-in-469920281971
unfolding key_of
returns-in-469920281971 c = λ f k. J.verdict-minus f _ k _ _ _ _ _ c.in-469920281971.is _ c.newer.ensures

pub returns-in-130160803538291 : goal.returns-in-130160803538291
unfolding key_of
returns-in-130160803538291 c = λ f k. J.verdict-values f _ k _ _ _ _ _ c.in-130160803538291.is _ c.newer-in-130160803538291.ensures

pub returns-in-1668246643 : goal.returns-in-1668246643
unfolding key_of
returns-in-1668246643 c = λ f k. J.verdict-cols f _ k _ _ _ _ _ c.in-1668246643.is _ c.columns.ensures

pub returns-in-7499639 : goal.returns-in-7499639
unfolding key_of
returns-in-7499639 c = λ f k. J.verdict-row f _ k _ _ _ _ _ c.in-7499639.is _ c.row.ensures

pub returns-in-111568023285348 : goal.returns-in-111568023285348
unfolding key_of
returns-in-111568023285348 c = λ f k. J.verdict-extend f _ k _ _ _ _ _ c.in-111568023285348.is _ c.extend.ensures

pub returns-in-31651020243559284 : goal.returns-in-31651020243559284
unfolding key_of
returns-in-31651020243559284 c = λ f k. J.verdict-project f _ k _ _ _ _ _ c.in-31651020243559284.is _ c.project.ensures

pub returns-in-31369497939174009 : goal.returns-in-31369497939174009
unfolding key_of
returns-in-31369497939174009 c = λ f k. J.verdict-orderby f _ k _ _ _ _ _ c.in-31369497939174009.is _ c.orderby.ensures

pub returns-in-7235441220169655156 : goal.returns-in-7235441220169655156
unfolding key_of
returns-in-7235441220169655156 c = λ f k. J.verdict-distinct f _ k _ _ _ _ _ c.in-7235441220169655156.is _ c.distinct.ensures

pub returns-in-32199629485598052 : goal.returns-in-32199629485598052
unfolding key_of
returns-in-32199629485598052 c =
    λ f k. J.verdict-reduced f _ k _ _ _ _ _ c.in-32199629485598052.is _ c.distinct-in-32199629485598052.ensures

pub returns-in-495740085093 : goal.returns-in-495740085093
unfolding key_of
returns-in-495740085093 c = λ f k. J.verdict-slice f _ k _ _ _ _ _ c.in-495740085093.is _ c.slice.ensures

pub returns-in-487300887161 : goal.returns-in-487300887161
unfolding key_of
returns-in-487300887161 c = λ f k. J.verdict-query f _ k _ _ _ _ _ c.in-487300887161.is _ c.head.ensures

pub returns-in_default : goal.returns-in_default
unfolding key_of
returns-in_default c =
    λ f k. let n = c.in_default.in_default-own.rest in J.verdict-other f _ k _ _ _ _ _ n.0.0.0.0.0.0.0.0.0.0.0.0.0.0.0.0.0.0.0.0.0.0.0.0.0.0.0.1 n.0.0.0.0.0.0.0.0.0.0.0.0.0.0.0.0.0.0.0.0.0.0.0.0.0.0.1 n.0.0.0.0.0.0.0.0.0.0.0.0.0.0.0.0.0.0.0.0.0.0.0.0.0.1 n.0.0.0.0.0.0.0.0.0.0.0.0.0.0.0.0.0.0.0.0.0.0.0.0.1 n.0.0.0.0.0.0.0.0.0.0.0.0.0.0.0.0.0.0.0.0.0.0.0.1 n.0.0.0.0.0.0.0.0.0.0.0.0.0.0.0.0.0.0.0.0.0.0.1 n.0.0.0.0.0.0.0.0.0.0.0.0.0.0.0.0.0.0.0.0.0.1 n.0.0.0.0.0.0.0.0.0.0.0.0.0.0.0.0.0.0.0.0.1 n.0.0.0.0.0.0.0.0.0.0.0.0.0.0.0.0.0.0.0.1 n.0.0.0.0.0.0.0.0.0.0.0.0.0.0.0.0.0.0.1 n.0.0.0.0.0.0.0.0.0.0.0.0.0.0.0.0.0.1 n.0.0.0.0.0.0.0.0.0.0.0.0.0.0.0.0.1 n.0.0.0.0.0.0.0.0.0.0.0.0.0.0.0.1 n.0.0.0.0.0.0.0.0.0.0.0.0.0.0.1 n.0.0.0.0.0.0.0.0.0.0.0.0.0.1 n.0.0.0.0.0.0.0.0.0.0.0.0.1 n.0.0.0.0.0.0.0.0.0.0.0.1 n.0.0.0.0.0.0.0.0.0.0.1 n.0.0.0.0.0.0.0.0.0.1 n.0.0.0.0.0.0.0.0.1 n.0.0.0.0.0.0.0.1 n.0.0.0.0.0.0.1 n.0.0.0.0.0.1 n.0.0.0.0.1 n.0.0.0.1 n.0.0.1 n.0.1 n.1
