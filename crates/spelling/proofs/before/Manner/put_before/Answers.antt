-- `spelling::before/Manner/put_before` meets its contract. Assumes nothing.
use borrow.Author.Rules.{rules}
use Rattle.spelling.proofs.Arms as A
use Rattle.words.specs.bridge.Key.{key_of}
use mathlib.Core.Path.{ap}
use Rattle.editions.specs.Token.{text}
use Rattle.spelling.proofs.before.Manner.put_before.Goals as goal

pub put_triple-requires : goal.put_triple-requires
unfolding key_of
put_triple-requires c = c.requires

pub put_between-requires : goal.put_between-requires
unfolding key_of
put_between-requires c = c.requires

pub put_between-requires-in-422776761956 : goal.put_between-requires-in-422776761956
unfolding key_of
put_between-requires-in-422776761956 c = c.requires

pub put_between-requires-in-444300619880 : goal.put_between-requires-in-444300619880
unfolding key_of
put_between-requires-in-444300619880 c = c.requires

pub put_select-requires : goal.put_select-requires
unfolding key_of
put_select-requires c = c.requires

pub put_columns-requires : goal.put_columns-requires
unfolding key_of
put_columns-requires c = c.requires

pub put_row-requires : goal.put_row-requires
unfolding key_of
put_row-requires c = c.requires

pub put_opening-requires : goal.put_opening-requires
unfolding key_of
put_opening-requires c = search rules

pub shape_of-out-in-116 : goal.shape_of-out-in-116
unfolding key_of
shape_of-out-in-116 c = search rules

pub returns-in-116 : goal.returns-in-116
unfolding key_of
returns-in-116 c = λ f k. A.arm _ _ _ _ c.put_triple.ensures (A.before-t f _ k _ _ c.in-116.is)

pub shape_of-out-in-1952805485 : goal.shape_of-out-in-1952805485
unfolding key_of
shape_of-out-in-1952805485 c = search rules

pub returns-in-1952805485 : goal.returns-in-1952805485
unfolding key_of
returns-in-1952805485 c = λ f k. A.arm _ _ _ _ c.put_between.ensures (A.before-term f _ k _ _ c.in-1952805485.is)

pub shape_of-out-in-422776761956 : goal.shape_of-out-in-422776761956
unfolding key_of
shape_of-out-in-422776761956 c = search rules

pub returns-in-422776761956 : goal.returns-in-422776761956
unfolding key_of
returns-in-422776761956 c =
    λ f k. A.arm _ _ _ _ c.put_between-in-422776761956.ensures (A.before-bound f _ k _ _ c.in-422776761956.is)

pub shape_of-out-in-444300619880 : goal.shape_of-out-in-444300619880
unfolding key_of
shape_of-out-in-444300619880 c = search rules

pub returns-in-444300619880 : goal.returns-in-444300619880
unfolding key_of
returns-in-444300619880 c =
    λ f k. A.arm _ _ _ _ c.put_between-in-444300619880.ensures (A.before-graph f _ k _ _ c.in-444300619880.is)

pub shape_of-out-in-31651020243559284 : goal.shape_of-out-in-31651020243559284
unfolding key_of
shape_of-out-in-31651020243559284 c = search rules

pub returns-in-31651020243559284 : goal.returns-in-31651020243559284
unfolding key_of
returns-in-31651020243559284 c = λ f k. A.arm _ _ _ _ c.put_select.ensures (A.before-project f _ k _ _ c.in-31651020243559284.is)

pub shape_of-out-in-1668246643 : goal.shape_of-out-in-1668246643
unfolding key_of
shape_of-out-in-1668246643 c = search rules

pub returns-in-1668246643 : goal.returns-in-1668246643
unfolding key_of
returns-in-1668246643 c = λ f k. A.arm _ _ _ _ c.put_columns.ensures (A.before-cols f _ k _ _ c.in-1668246643.is)

pub shape_of-out-in-7499639 : goal.shape_of-out-in-7499639
unfolding key_of
shape_of-out-in-7499639 c = search rules

pub returns-in-7499639 : goal.returns-in-7499639
unfolding key_of
returns-in-7499639 c = λ f k. A.arm _ _ _ _ c.put_row.ensures (A.before-row f _ k _ _ c.in-7499639.is)

pub shape_of-out-in_default : goal.shape_of-out-in_default
unfolding key_of
shape_of-out-in_default c = search rules

pub returns-in_default : goal.returns-in_default
unfolding key_of
returns-in_default c =
    λ f k. let n = c.in_default.in_default-own.rest in A.arm _ _ _ _ (c.put_opening.ensures f k) (ap text (A.before-other f _ k _ _ n.0.0.0.0.0.0.1 n.0.0.0.0.0.1 n.0.0.0.0.1 n.0.0.0.1 n.0.0.1 n.0.1 n.1))
