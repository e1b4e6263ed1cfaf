-- What a pair adds to what is counted, and that so many lines are within the bounds. Assumes nothing.
use Prim.Native.Nat.{◌+◌, ◌≤◌}
use mathlib.Core.Path.{◌≡◌, refl}
use mathlib.Core.List.{List, [], ◌∷◌, ◌++◌, map-append}
use mathlib.Core.Bool.{Bool, true, false, cond}
use native.Mathlib.Numerals.{add-one}
use native.Mathlib.Omega.{arith}
use lib.ListN.{length, length-append, length-map}
use borrow.Author.Tests.{le-leb}
use Rattle.text.specs.Text.{Bytes}
use Rattle.algebra.specs.Query.{PairList, Pair, unique}
use Rattle.algebra.specs.Tally.{bounds, Tally, within, notes, noted, paired, tally_pair}
use Rattle.lists.specs.bridge.Pairs.{firsts, fresh}

-- what is counted after these pairs, where first fields may not be repeated, or may
abbrev after : Bool → List Pair → Tally
after apart xs = record { lines = length xs; wide = 0; names = cond apart (firsts xs) [] }

abbrev pub state : PairList → List Pair → Tally
state κ xs = after (unique κ) xs

pub counted : (κ : PairList) (xs : List Pair) (x : Pair) → tally_pair κ x.first (state κ xs) ≡ state κ (xs ++ (x ∷ []))
unfolding paired noted notes
counted κ xs x = go (unique κ)
  where
    go : (b : Bool) → cond b (paired x.first (after b xs)) (noted [] (after b xs)) ≡ after b (xs ++ (x ∷ []))
    go true = rw (length-append xs (x ∷ []), map-append (λ (y : Pair). y.first) xs (x ∷ []), add-one)
    go false = rw (length-append xs (x ∷ []), add-one)

-- a first field is new to what is counted where it is new to the pairs
pub new-to : (κ : PairList) (f : Bytes) (xs : List Pair) → fresh (unique κ) f (state κ xs).names ≡ fresh (unique κ) f (firsts xs)
unfolding fresh
new-to κ f xs = go (unique κ)
  where
    go : (b : Bool) → fresh b f (after b xs).names ≡ fresh b f (firsts xs)
    go true = refl
    go false = refl

pub in_bounds : (κ : PairList) (xs : List Pair) → length xs ≤ bounds.entries → within bounds (state κ xs) ≡ true
unfolding within
in_bounds κ xs h =
    let i : length xs ≤ 2048 = omega arith in
    let j : length (state κ xs).names ≤ 1024 = let k = few (unique κ) in omega arith in
    rw (le-leb (length xs) 2048 i, le-leb (length (state κ xs).names) 1024 j)
  where
    few : (b : Bool) → length (after b xs).names ≤ length xs
    few true = rw (length-map xs (λ (y : Pair). y.first)) (omega arith)
    few false = omega arith
