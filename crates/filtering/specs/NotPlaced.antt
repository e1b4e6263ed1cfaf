-- The filters that the call filters did not place, by their numbers: docs/SPECIFICATION.md, "filters". nemo's list of remaining filters is always empty. Assumes nothing.
use Rattle.std.specs.Prelude.{ℕ, zero, suc, Bool, true, false, cond, not, ◌&&◌, List, [], ◌∷◌, leb}
use Rattle.std.proofs.Math.Option.{Option, none, some}
use Rattle.text.specs.Text.{Bytes}
use Rattle.text.specs.Field.{given}
use Rattle.algebra.specs.Tree.{Pattern}
use Rattle.algebra.specs.Query.{Filter}
use Rattle.algebra.specs.Reader.{Outcome, reads, refuses}
use Rattle.algebra.specs.Given.{read_given_tree}
use Rattle.algebra.specs.Texts.{read_filters}
use Rattle.merging.specs.Request.{Projection}
use Rattle.negating.specs.Projections.{outermost_projection}
use Rattle.filtering.specs.Filters.{placed_expression}

-- a filter is placed where there is a projection and the filter has an expression over its columns; an always-true one has none
unfoldable pub is_placed : Option Projection → Filter → Bool
unfolding placed_expression
is_placed none f = false
is_placed (some x) f = given (placed_expression x.columns f)

-- the numbers, counted from i, of those that fail a test
unfoldable pub numbers_failing : {A : Type 0} → (A → Bool) → ℕ → List A → List ℕ
numbers_failing t i [] = []
numbers_failing t i (x ∷ xs) = cond (t x) (numbers_failing t (suc i) xs) (i ∷ numbers_failing t (suc i) xs)

-- all filters where no projection is found
unfoldable pub not_placed : Option Projection → List Filter → List ℕ
unfolding is_placed numbers_failing
not_placed o fs = numbers_failing (is_placed o) 0 fs

-- none of a text that is refused
abbrev pub none_or : {A : Type 0} → Outcome A → (A → List ℕ) → List ℕ
none_or (reads x) k = k x
none_or (refuses n) k = []

-- what the call filters writes into its second slice where it answers, beside `filtersRead`
abbrev pub not_placed_read : Outcome Pattern → Bytes → List ℕ
not_placed_read tree filters = none_or tree λ p. none_or (read_filters filters) λ fs. not_placed (outermost_projection p) fs

-- and beside `filtersOutcome`
unfoldable pub filters_not_placed : Bytes → Bytes → List ℕ
unfolding read_given_tree read_filters outermost_projection not_placed
filters_not_placed tree filters = not_placed_read (read_given_tree tree) filters

-- ---- what is said of that list

-- there is an element number k, and it fails the test
unfoldable pub fails_at : {A : Type 0} → (A → Bool) → ℕ → List A → Bool
fails_at t k [] = false
fails_at t zero (x ∷ xs) = not (t x)
fails_at t (suc k) (x ∷ xs) = fails_at t k xs

-- each number is i or more and above the one before it
unfoldable pub rises : ℕ → List ℕ → Bool
rises i [] = true
rises i (x ∷ xs) = leb i x && rises (suc x) xs
