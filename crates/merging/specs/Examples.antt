-- Worked examples: the order of constants, and positions twice in a join list. docs/SPECIFICATION.md, "The order of constants" and "merge patterns". Assumes nothing.
use Rattle.std.specs.Prelude.{ℕ, ◌≡◌, refl, true, false, List, [], ◌∷◌, map}
use Prim.Native.String.{String}
use Rattle.std.proofs.Math.Option.{none, some}
use Rattle.text.specs.Word.{bytes}
use Rattle.algebra.specs.Tree.{Pattern, bgp, project, distinct}
use Rattle.answers.specs.Outcome.{Outcome, refused, written}
use Rattle.scoping.specs.Sets.{any, all}
use Rattle.scoping.specs.Premises.{inside, different_positions}
use Rattle.merging.specs.Sides.{Pair, Constant}
use Rattle.merging.specs.Request.{all_inside}
use Rattle.merging.specs.Merge.{merge_trees}
use Rattle.merging.specs.Order.{rise, listed}

abbrev at : ℕ → String → Constant
at i t = record { position = i; term = bytes t }

abbrev falling : List Constant
falling = at 10 "<k>" ∷ at 9 "<l>" ∷ []

-- 9 comes before 10; neither a repeated position rises nor one that falls further on
orders : map rise ((at 9 "<l>" ∷ at 10 "<k>" ∷ []) ∷ [] ∷ falling ∷ (at 1 "<k>" ∷ at 1 "<l>" ∷ []) ∷ (at 0 "<k>" ∷ at 2 "<l>" ∷ at 1 "<m>" ∷ []) ∷ []) ≡ true ∷ true ∷ false ∷ false ∷ false ∷ []
unfolding rise all
orders = refl

terms : map (λ i. listed i falling) (9 ∷ 10 ∷ 0 ∷ []) ≡ some (bytes "<l>") ∷ some (bytes "<k>") ∷ none ∷ []
unfolding listed
terms = refl

-- ---- positions twice in a join list

abbrev only : String → Pattern
only a = project (bytes a ∷ []) (bgp [])

abbrev both : String → String → Pattern
both a b = project (bytes a ∷ bytes b ∷ []) (bgp [])

abbrev pair : ℕ → ℕ → Pair
pair i j = record { left = i; right = j }

-- what comes of two trees and their lists, whatever the merged tree
abbrev merging : Pattern → Pattern → List Pair → List Constant → List Constant → Outcome
merging p q js ks ls = merge_trees p q js ks ls λ t. written []

-- on the left, on the right; 3 comes first, of either side and of the constants too; one name at two positions is none; 4 comes before all
numbers : merging (only "?a") (both "?b" "?c") (pair 0 0 ∷ pair 0 1 ∷ []) [] []
    ∷ merging (both "?a" "?b") (only "?c") (pair 0 0 ∷ pair 1 0 ∷ []) [] []
    ∷ merging (only "?a") (both "?b" "?c") (pair 0 0 ∷ pair 0 2 ∷ []) [] []
    ∷ merging (both "?a" "?b") (only "?c") (pair 2 0 ∷ pair 1 0 ∷ []) [] []
    ∷ merging (only "?a") (both "?b" "?c") (pair 0 0 ∷ pair 0 1 ∷ []) [] (at 2 "<k>" ∷ [])
    ∷ merging (both "?a" "?a") (both "?b" "?c") (pair 0 0 ∷ pair 1 1 ∷ []) [] []
    ∷ merging (only "?a") (distinct (both "?b" "?c")) (pair 0 0 ∷ pair 0 1 ∷ []) [] []
    ∷ [] ≡ refused 10 ∷ refused 10 ∷ refused 3 ∷ refused 3 ∷ refused 3 ∷ written [] ∷ refused 4 ∷ []
unfolding merge_trees all_inside inside different_positions any all
numbers = refl
