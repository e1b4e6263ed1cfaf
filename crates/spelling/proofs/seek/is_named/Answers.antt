-- `spelling::seek/is_named` meets its contract. Assumes nothing.
use Rattle.spelling.proofs.Named as N
use Rattle.words.specs.bridge.Key.{key_of}
use Rattle.spelling.proofs.seek.is_named.Goals as goal

pub is_among-requires : goal.is_among-requires
unfolding key_of
is_among-requires c = c.requires

pub is_among-requires-in-31651020243559284 : goal.is_among-requires-in-31651020243559284
unfolding key_of
is_among-requires-in-31651020243559284 c = c.requires

pub is_among-requires-in-1668246643 : goal.is_among-requires-in-1668246643
unfolding key_of
is_among-requires-in-1668246643 c = c.requires

pub is_end_of_path-requires : goal.is_end_of_path-requires
unfolding key_of
is_end_of_path-requires c = c.requires

pub is_field-requires : goal.is_field-requires
unfolding key_of
is_field-requires c = c.requires

pub is_field-requires-in-32481164609020773 : goal.is_field-requires-in-32481164609020773
unfolding key_of
is_field-requires-in-32481164609020773 c = c.requires

pub is_field-requires-in-111568023285348 : goal.is_field-requires-in-111568023285348
unfolding key_of
is_field-requires-in-111568023285348 c = c.requires

pub is_field-requires-in-6383463 : goal.is_field-requires-in-6383463
unfolding key_of
is_field-requires-in-6383463 c = c.requires

pub is_field-requires-in-107096743963756 : goal.is_field-requires-in-107096743963756
unfolding key_of
is_field-requires-in-107096743963756 c = c.requires

pub returns-in-116 : goal.returns-in-116
unfolding key_of
returns-in-116 c = λ f k. N.names-t f _ k _ _ _ c.in-116.is c.is_among.ensures

pub returns-in-31651020243559284 : goal.returns-in-31651020243559284
unfolding key_of
returns-in-31651020243559284 c = λ f k. N.names-project f _ k _ _ _ c.in-31651020243559284.is c.is_among-in-31651020243559284.ensures

pub returns-in-1668246643 : goal.returns-in-1668246643
unfolding key_of
returns-in-1668246643 c = λ f k. N.names-cols f _ k _ _ _ c.in-1668246643.is c.is_among-in-1668246643.ensures

pub returns-in-1885434984 : goal.returns-in-1885434984
unfolding key_of
returns-in-1885434984 c = λ f k. N.names-path f _ k _ _ _ c.in-1885434984.is c.is_end_of_path.ensures

pub returns-in-444300619880 : goal.returns-in-444300619880
unfolding key_of
returns-in-444300619880 c = λ f k. N.names-graph f _ k _ _ _ c.in-444300619880.is c.is_field.ensures

pub returns-in-32481164609020773 : goal.returns-in-32481164609020773
unfolding key_of
returns-in-32481164609020773 c = λ f k. N.names-service f _ k _ _ _ c.in-32481164609020773.is c.is_field-in-32481164609020773.ensures

pub returns-in-111568023285348 : goal.returns-in-111568023285348
unfolding key_of
returns-in-111568023285348 c = λ f k. N.names-extend f _ k _ _ _ c.in-111568023285348.is c.is_field-in-111568023285348.ensures

pub returns-in-6383463 : goal.returns-in-6383463
unfolding key_of
returns-in-6383463 c = λ f k. N.names-agg f _ k _ _ _ c.in-6383463.is c.is_field-in-6383463.ensures

pub returns-in-107096743963756 : goal.returns-in-107096743963756
unfolding key_of
returns-in-107096743963756 c = λ f k. N.names-aggall f _ k _ _ _ c.in-107096743963756.is c.is_field-in-107096743963756.ensures

pub returns-in_default : goal.returns-in_default
unfolding key_of
returns-in_default c =
    λ f k. let n = c.in_default.in_default-own.rest in N.names-none f _ k _ _ n.0.0.0.0.0.0.0.0.1 n.0.0.0.0.0.0.0.1 n.0.0.0.0.0.0.1 n.0.0.0.0.0.1 n.0.0.0.0.1 n.0.0.0.1 n.0.0.1 n.0.1 n.1
