-- Each part of `Fit` is needed: a small merge for which the other parts hold and whose answer has not the expected count, computed. And one premise that isn't. Assumes nothing.
use mathlib.Core.Path.{◌≡◌, refl}
use mathlib.Core.Bool.{Bool, true, false, cond}
use mathlib.Core.List.{List, [], ◌∷◌}
use Prim.Native.Nat.{ℕ}
use Prim.Native.String.{String}
use Rattle.text.specs.Text.{Bytes, same}
use Rattle.text.specs.Word.{bytes}
use Rattle.algebra.specs.Tree.{Triple, Pattern, bgp, values, filter, bound}
use Rattle.scoping.specs.ScopedOrHidden.{scoped_or_hidden}
use Rattle.counting.specs.Bag.{count}
use Rattle.counting.specs.Row.{same_row}
use Rattle.counting.specs.Answer.{answer}
use Rattle.counting.specs.Countable.{expressions_known}
use Rattle.counting.proofs.Standard.{t, fields, one}
use Rattle.merging.specs.Sides.{Pair, Constant, Side, merged}
use Rattle.demand3.specs.bridge.Sides.{whole}
use Rattle.demand3.specs.Expected.{sum}
use Rattle.demand3.proofs.Decide.{keeps_apart, side_parts, joined_as_pairs}
use Rattle.demand3.proofs.Side.{as_single}

-- a side without columns, and one with these columns
abbrev side : List String → Pattern → (Bytes → Bytes) → List Constant → Side
side cs p f ks = record { columns = fields cs; inner = p; name = f; constants = ks }

abbrev nothing : Side
nothing = side [] (bgp []) (λ v. v) []

-- which parts of Fit hold: of the left side, of the right side, of both; the row without columns stands `there` times in the merged answer, and is expected `due` times
abbrev Counts : List Triple → Side → Side → List Pair → List Bool → List Bool → Bool → ℕ → ℕ → Type 0
Counts g l r js ls rs both there due = (side_parts l ≡ ls) × (side_parts r ≡ rs) × (joined_as_pairs l r js ≡ both) × (count same_row [] (answer [] g (merged l r js)) ≡ there) × (sum (as_single g l) (as_single g r) [] [] ≡ due)

-- every part of a side holds, or all but one
abbrev side-holds : List Bool
side-holds = true ∷ true ∷ true ∷ true ∷ true ∷ []

abbrev but-apart : List Bool
but-apart = false ∷ true ∷ true ∷ true ∷ true ∷ []

abbrev but-variables : List Bool
but-variables = true ∷ false ∷ true ∷ true ∷ true ∷ []

abbrev but-no-empty : List Bool
but-no-empty = true ∷ true ∷ false ∷ true ∷ true ∷ []

abbrev but-inside : List Bool
but-inside = true ∷ true ∷ true ∷ false ∷ true ∷ []

abbrev but-once : List Bool
but-once = true ∷ true ∷ true ∷ true ∷ false ∷ []

abbrev value : String → String → Pattern
value v x = values (fields (v ∷ [])) (fields (x ∷ []) ∷ [])

abbrev constant : ℕ → String → Constant
constant i x = record { position = i; term = bytes x }

-- hidden names of both sides that meet: they contradict one another
hidden-names-meet : Counts [] (side [] (value "?h" "<1>") (λ v. v) []) (side [] (value "?h" "<2>") (λ v. v) []) [] side-holds side-holds false 0 1
unfolding side_parts joined_as_pairs count answer merged sum
hidden-names-meet = (refl, refl, refl, refl, refl)

-- two names of one side that become one
names-become-one : Counts [] (side [] (values (fields ("?a" ∷ "?b" ∷ [])) (fields ("<1>" ∷ "<2>" ∷ []) ∷ [])) (λ v. bytes "?n") []) nothing [] but-apart side-holds true 0 1
unfolding side_parts joined_as_pairs count answer merged sum
names-become-one = (refl, refl, refl, refl, refl)

-- a name that only an expression has, and that is another's new name: on the names in scope or hidden the renaming keeps names apart, and yet the filter starts to hold
abbrev unknown : Side
unknown = side [] (filter (value "?a" "<1>") (bound (bytes "?l0"))) (λ v. cond (same v (bytes "?a")) (bytes "?l0") v) []

expression-name-unknown : (expressions_known (whole unknown) ≡ false) × (keeps_apart (scoped_or_hidden (whole unknown)) unknown.name ≡ true) × Counts [] unknown nothing [] but-apart side-holds true 1 0
unfolding expressions_known keeps_apart side_parts joined_as_pairs count answer merged sum
expression-name-unknown = (refl, refl, (refl, refl, refl, refl, refl))

-- a new name that is no variable: the triple pattern asks for the term
new-name-no-variable : Counts (t "<s>" "<p>" "<o>" ∷ []) (side [] (one "?a" "<p>" "<o>") (λ v. bytes "<n>") []) nothing [] but-variables side-holds true 0 1
unfolding side_parts joined_as_pairs count answer merged sum
new-name-no-variable = (refl, refl, refl, refl, refl)

-- constants at positions past the columns, on both sides, meet under a name that is no column
constants-outside : Counts [] (side [] (bgp []) (λ v. v) (constant 0 "<1>" ∷ [])) (side [] (bgp []) (λ v. v) (constant 0 "<2>" ∷ [])) [] but-inside but-inside true 0 1
unfolding side_parts joined_as_pairs count answer merged sum
constants-outside = (refl, refl, refl, refl, refl)

-- one column with two constants
constants-twice : Counts [] (side ("?a" ∷ []) (bgp []) (λ v. v) (constant 0 "<1>" ∷ constant 0 "<2>" ∷ [])) nothing [] but-once side-holds true 0 1
unfolding side_parts joined_as_pairs count answer merged sum
constants-twice = (refl, refl, refl, refl, refl)

-- an empty name, which is what stands at a join position past the columns
empty_name : Counts [] (side [] (value "" "<1>") (λ v. bytes "?n") []) (side ("?b" ∷ []) (value "?b" "<2>") (λ v. bytes "?n") []) (record { left = 0; right = 0 } ∷ []) but-no-empty side-holds true 0 1
unfolding side_parts joined_as_pairs count answer merged sum
empty_name = (refl, refl, refl, refl, refl)

-- without it a join position past the columns makes no pair, and does no harm
joins-outside : Counts [] (side ("?a" ∷ []) (value "?a" "<1>") (λ v. cond (same v (bytes "?a")) (bytes "?l0") (bytes "?j0")) []) (side ("?b" ∷ []) (value "?b" "<2>") (λ v. bytes "?j0") []) (record { left = 1; right = 0 } ∷ []) side-holds side-holds true 1 1
unfolding side_parts joined_as_pairs count answer merged sum
joins-outside = (refl, refl, refl, refl, refl)
