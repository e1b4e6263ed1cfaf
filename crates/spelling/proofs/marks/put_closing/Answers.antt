-- `spelling::marks/put_closing` meets its contract. Assumes nothing.
use borrow.Author.Rules.{rules}
use Rattle.spelling.proofs.Arms as A
use Rattle.words.specs.bridge.Key.{key_of}
use Rattle.spelling.proofs.marks.put_closing.Goals as goal

pub put_first-requires : goal.put_first-requires
unfolding key_of
put_first-requires c = search rules

pub put_first-requires-in-504363577198 : goal.put_first-requires-in-504363577198
unfolding key_of
put_first-requires-in-504363577198 c = search rules

pub put_first-requires-in-469920281971 : goal.put_first-requires-in-469920281971
unfolding key_of
put_first-requires-in-469920281971 c = search rules

pub put_optional-requires : goal.put_optional-requires
unfolding key_of
put_optional-requires c = search rules

pub put_first-requires-in-112602977166706 : goal.put_first-requires-in-112602977166706
unfolding key_of
put_first-requires-in-112602977166706 c = search rules

pub put_all-requires : goal.put_all-requires
unfolding key_of
put_all-requires c = search rules

pub put_all-requires-in-111567839655027 : goal.put_all-requires-in-111567839655027
unfolding key_of
put_all-requires-in-111567839655027 c = search rules

pub put_first-requires-in-28530 : goal.put_first-requires-in-28530
unfolding key_of
put_first-requires-in-28530 c = search rules

pub put_first-requires-in-6385252 : goal.put_first-requires-in-6385252
unfolding key_of
put_first-requires-in-6385252 c = search rules

pub put_first-requires-in-25969 : goal.put_first-requires-in-25969
unfolding key_of
put_first-requires-in-25969 c = search rules

pub put_first-requires-in-1935764837 : goal.put_first-requires-in-1935764837
unfolding key_of
put_first-requires-in-1935764837 c = search rules

pub put_all-requires-in-7237492 : goal.put_all-requires-in-7237492
unfolding key_of
put_all-requires-in-7237492 c = search rules

pub put_all-requires-in-6386531 : goal.put_all-requires-in-6386531
unfolding key_of
put_all-requires-in-6386531 c = search rules

pub put_all-requires-in-1684370275 : goal.put_all-requires-in-1684370275
unfolding key_of
put_all-requires-in-1684370275 c = search rules

pub put_first-requires-in-130160803538291 : goal.put_first-requires-in-130160803538291
unfolding key_of
put_first-requires-in-130160803538291 c = search rules

pub put_first-requires-in-31369497939174009 : goal.put_first-requires-in-31369497939174009
unfolding key_of
put_first-requires-in-31369497939174009 c = search rules

pub shape_of-out-in-1785686382 : goal.shape_of-out-in-1785686382
unfolding key_of
shape_of-out-in-1785686382 c = search rules

pub returns-in-1785686382 : goal.returns-in-1785686382
unfolding key_of
returns-in-1785686382 c = λ f k. A.arm _ _ _ _ c.put_first.ensures (A.closing-join f _ k _ _ c.in-1785686382.is)

pub shape_of-out-in-504363577198 : goal.shape_of-out-in-504363577198
unfolding key_of
shape_of-out-in-504363577198 c = search rules

pub returns-in-504363577198 : goal.returns-in-504363577198
unfolding key_of
returns-in-504363577198 c =
    λ f k. A.arm _ _ _ _ c.put_first-in-504363577198.ensures (A.closing-union f _ k _ _ c.in-504363577198.is)

pub shape_of-out-in-469920281971 : goal.shape_of-out-in-469920281971
unfolding key_of
shape_of-out-in-469920281971 c = search rules

pub returns-in-469920281971 : goal.returns-in-469920281971
unfolding key_of
returns-in-469920281971 c =
    λ f k. A.arm _ _ _ _ c.put_first-in-469920281971.ensures (A.closing-minus f _ k _ _ c.in-469920281971.is)

pub shape_of-out-in-7810761778931919214 : goal.shape_of-out-in-7810761778931919214
unfolding key_of
shape_of-out-in-7810761778931919214 c = search rules

pub returns-in-7810761778931919214 : goal.returns-in-7810761778931919214
unfolding key_of
returns-in-7810761778931919214 c =
    λ f k. A.arm _ _ _ _ c.put_optional.ensures (A.closing-leftjoin f _ k _ _ c.in-7810761778931919214.is)

pub shape_of-out-in-112602977166706 : goal.shape_of-out-in-112602977166706
unfolding key_of
shape_of-out-in-112602977166706 c = search rules

pub returns-in-112602977166706 : goal.returns-in-112602977166706
unfolding key_of
returns-in-112602977166706 c =
    λ f k. A.arm _ _ _ _ c.put_first-in-112602977166706.ensures (A.closing-filter f _ k _ _ c.in-112602977166706.is)

pub shape_of-out-in-444300619880 : goal.shape_of-out-in-444300619880
unfolding key_of
shape_of-out-in-444300619880 c = search rules

pub returns-in-444300619880 : goal.returns-in-444300619880
unfolding key_of
returns-in-444300619880 c = λ f k. A.arm _ _ _ _ c.put_all.ensures (A.closing-graph f _ k _ _ c.in-444300619880.is)

pub shape_of-out-in-111567839655027 : goal.shape_of-out-in-111567839655027
unfolding key_of
shape_of-out-in-111567839655027 c = search rules

pub returns-in-111567839655027 : goal.returns-in-111567839655027
unfolding key_of
returns-in-111567839655027 c =
    λ f k. A.arm _ _ _ _ c.put_all-in-111567839655027.ensures (A.closing-exists f _ k _ _ c.in-111567839655027.is)

pub shape_of-out-in-28530 : goal.shape_of-out-in-28530
unfolding key_of
shape_of-out-in-28530 c = search rules

pub returns-in-28530 : goal.returns-in-28530
unfolding key_of
returns-in-28530 c = λ f k. A.arm _ _ _ _ c.put_first-in-28530.ensures (A.closing-or f _ k _ _ c.in-28530.is)

pub shape_of-out-in-6385252 : goal.shape_of-out-in-6385252
unfolding key_of
shape_of-out-in-6385252 c = search rules

pub returns-in-6385252 : goal.returns-in-6385252
unfolding key_of
returns-in-6385252 c = λ f k. A.arm _ _ _ _ c.put_first-in-6385252.ensures (A.closing-and f _ k _ _ c.in-6385252.is)

pub shape_of-out-in-25969 : goal.shape_of-out-in-25969
unfolding key_of
shape_of-out-in-25969 c = search rules

pub returns-in-25969 : goal.returns-in-25969
unfolding key_of
returns-in-25969 c = λ f k. A.arm _ _ _ _ c.put_first-in-25969.ensures (A.closing-eq f _ k _ _ c.in-25969.is)

pub shape_of-out-in-1935764837 : goal.shape_of-out-in-1935764837
unfolding key_of
shape_of-out-in-1935764837 c = search rules

pub returns-in-1935764837 : goal.returns-in-1935764837
unfolding key_of
returns-in-1935764837 c = λ f k. A.arm _ _ _ _ c.put_first-in-1935764837.ensures (A.closing_same f _ k _ _ c.in-1935764837.is)

pub shape_of-out-in-7237492 : goal.shape_of-out-in-7237492
unfolding key_of
shape_of-out-in-7237492 c = search rules

pub returns-in-7237492 : goal.returns-in-7237492
unfolding key_of
returns-in-7237492 c = λ f k. A.arm _ _ _ _ c.put_all-in-7237492.ensures (A.closing-not f _ k _ _ c.in-7237492.is)

pub shape_of-out-in-6386531 : goal.shape_of-out-in-6386531
unfolding key_of
shape_of-out-in-6386531 c = search rules

pub returns-in-6386531 : goal.returns-in-6386531
unfolding key_of
returns-in-6386531 c = λ f k. A.arm _ _ _ _ c.put_all-in-6386531.ensures (A.closing-asc f _ k _ _ c.in-6386531.is)

pub shape_of-out-in-1684370275 : goal.shape_of-out-in-1684370275
unfolding key_of
shape_of-out-in-1684370275 c = search rules

pub returns-in-1684370275 : goal.returns-in-1684370275
unfolding key_of
returns-in-1684370275 c = λ f k. A.arm _ _ _ _ c.put_all-in-1684370275.ensures (A.closing-desc f _ k _ _ c.in-1684370275.is)

pub shape_of-out-in-130160803538291 : goal.shape_of-out-in-130160803538291
unfolding key_of
shape_of-out-in-130160803538291 c = search rules

pub returns-in-130160803538291 : goal.returns-in-130160803538291
unfolding key_of
returns-in-130160803538291 c =
    λ f k. A.arm _ _ _ _ c.put_first-in-130160803538291.ensures (A.closing-values f _ k _ _ c.in-130160803538291.is)

pub shape_of-out-in-31369497939174009 : goal.shape_of-out-in-31369497939174009
unfolding key_of
shape_of-out-in-31369497939174009 c = search rules

pub returns-in-31369497939174009 : goal.returns-in-31369497939174009
unfolding key_of
returns-in-31369497939174009 c =
    λ f k. A.arm _ _ _ _ c.put_first-in-31369497939174009.ensures (A.closing-orderby f _ k _ _ c.in-31369497939174009.is)

pub returns-in_default : goal.returns-in_default
unfolding key_of
returns-in_default c =
    λ f k. let n = c.in_default.in_default-own.rest in A.nothing _ _ (A.closing-none f _ k _ _ n.0.0.0.0.0.0.0.0.0.0.0.0.0.0.0.1 n.0.0.0.0.0.0.0.0.0.0.0.0.0.0.1 n.0.0.0.0.0.0.0.0.0.0.0.0.0.1 n.0.0.0.0.0.0.0.0.0.0.0.0.1 n.0.0.0.0.0.0.0.0.0.0.0.1 n.0.0.0.0.0.0.0.0.0.0.1 n.0.0.0.0.0.0.0.0.0.1 n.0.0.0.0.0.0.0.0.1 n.0.0.0.0.0.0.0.1 n.0.0.0.0.0.0.1 n.0.0.0.0.0.1 n.0.0.0.0.1 n.0.0.0.1 n.0.0.1 n.0.1 n.1)
