-- A test that computes whether two sides fit, part by part. Assumes nothing.
use mathlib.Core.Path.{◌≡◌, refl}
use mathlib.Core.Bool.{Bool, true, false, not, ◌&&◌, ◌||◌, false≢true, beq}
use mathlib.Core.List.{List, [], ◌∷◌, map}
use Rattle.text.specs.Text.{Bytes, same}
use Rattle.text.specs.Field.{is_var}
use Rattle.text.proofs.Basics.{and_left, and_right, same-eq}
use Rattle.algebra.specs.Valid.{mem}
use Rattle.algebra.proofs.Lines.{not-no}
use Rattle.scoping.specs.Sets.{all}
use Rattle.scoping.specs.ScopedOrHidden.{names_with}
use Rattle.scoping.specs.bridge.Premises.{is_pair}
use Rattle.scoping.specs.Premises.{inside}
use Rattle.scoping.proofs.Sets.{eq-same}
use Rattle.counting.specs.Row.{cell, one_term}
use Rattle.counting.specs.Scope.{names, expression_vars}
use Rattle.scoping.proofs.Basics.{all-at}
use Rattle.merging.specs.Sides.{Pair, Side, constant_columns, constant_terms, left_join_variables}
use Rattle.demand3.specs.bridge.Sides.{whole, right_join_variables}
use Rattle.demand3.proofs.Fit.{SideFit, Fit}

-- no two names of the list become one
unfoldable pub keeps_apart : List Bytes → (Bytes → Bytes) → Bool
unfolding all same
keeps_apart vs f = all (λ u. all (λ v. not (same (f u) (f v)) || same u v) vs) vs

-- the parts of SideFit: apart, variables, no_empty, constant_inside, constant_once
unfoldable pub side_parts : Side → List Bool
unfolding keeps_apart is_var names_with expression_vars mem same inside one_term cell
side_parts s =
    keeps_apart (names (whole s)) s.name
    ∷ all (λ v. is_var (s.name v)) (names (whole s))
    ∷ not (mem [] (names (whole s)))
    ∷ inside s.columns (map (λ k. k.position) s.constants)
    ∷ one_term (constant_columns s.columns s.constants) (map cell (constant_terms s.constants))
    ∷ []

-- the other part of Fit
unfoldable pub joined_as_pairs : Side → Side → List Pair → Bool
unfolding all same names_with expression_vars is_pair
joined_as_pairs l r js =
    all (λ a. all (λ b. beq (same (l.name a) (r.name b)) (is_pair (left_join_variables l js) (right_join_variables r js) a b)) (names (whole r))) (names (whole l))

unfoldable pub both_fit : Side → Side → List Pair → Bool
unfolding side_parts joined_as_pairs
both_fit l r js = all (λ b. b) (side_parts l) && (all (λ b. b) (side_parts r) && joined_as_pairs l r js)

implied : (a b : Bool) → (not a || b) ≡ true → a ≡ true → b ≡ true
implied true b h e = h
implied false b h e = absurd (false≢true e)

beq-eq : (a b : Bool) → beq a b ≡ true → a ≡ b
beq-eq true true h = refl
beq-eq true false h = absurd (false≢true h)
beq-eq false true h = absurd (false≢true h)
beq-eq false false h = refl

side-fits-sound : (s : Side) → all (λ b. b) (side_parts s) ≡ true → SideFit s
unfolding side_parts keeps_apart
side-fits-sound s h =
    let rest = and_right (keeps_apart (names (whole s)) s.name) _ h in
    let other = and_right (all (λ v. is_var (s.name v)) (names (whole s))) _ rest in
    let constants = and_right (not (mem [] (names (whole s)))) _ other in
    record {
      apart = λ u v mu mv e. same-eq u v (implied (same (s.name u) (s.name v)) (same u v) (all-at _ (names (whole s)) (all-at _ (names (whole s)) (and_left (keeps_apart (names (whole s)) s.name) _ h) u mu) v mv) (eq-same (s.name u) (s.name v) e));
      variables = all-at _ (names (whole s)) (and_left (all (λ v. is_var (s.name v)) (names (whole s))) _ rest);
      no_empty = not-no (mem [] (names (whole s))) (and_left (not (mem [] (names (whole s)))) _ other);
      constant_inside = and_left (inside s.columns (map (λ k. k.position) s.constants)) _ constants;
      constant_once = and_left (one_term (constant_columns s.columns s.constants) (map cell (constant_terms s.constants))) true (and_right (inside s.columns (map (λ k. k.position) s.constants)) _ constants);
    }

-- where the test holds, the two sides fit
pub both-fit-sound : (l r : Side) (js : List Pair) → both_fit l r js ≡ true → Fit l r js
unfolding both_fit joined_as_pairs
both-fit-sound l r js h =
    let rest = and_right (all (λ b. b) (side_parts l)) _ h in
    record {
      left = side-fits-sound l (and_left (all (λ b. b) (side_parts l)) _ h);
      right = side-fits-sound r (and_left (all (λ b. b) (side_parts r)) _ rest);
      joined = λ a b ma mb. beq-eq (same (l.name a) (r.name b)) (is_pair (left_join_variables l js) (right_join_variables r js) a b) (all-at _ (names (whole r)) (all-at _ (names (whole l)) (and_right (all (λ b. b) (side_parts r)) (joined_as_pairs l r js) rest) a ma) b mb);
    }
