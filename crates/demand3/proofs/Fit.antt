-- What the count of a merge asks of the two renamings and of the constants, whatever the names; proofs/Fits.antt has it of nemo's. Assumes nothing.
use mathlib.Core.Path.{◌≡◌}
use mathlib.Core.Bool.{true, false}
use mathlib.Core.List.{List, [], map}
use Rattle.text.specs.Text.{Bytes, same}
use Rattle.text.specs.Field.{is_var}
use Rattle.algebra.specs.Valid.{mem}
use Rattle.scoping.specs.Premises.{inside}
use Rattle.scoping.specs.bridge.Premises.{is_pair}
use Rattle.scoping.specs.bridge.Sets.{Inj}
use Rattle.counting.specs.Row.{cell, one_term}
use Rattle.counting.specs.Scope.{names}
use Rattle.merging.specs.Sides.{Pair, Side, constant_columns, constant_terms, left_join_variables}
use Rattle.demand3.specs.bridge.Sides.{whole, right_join_variables}

-- of one side
pub record SideFit (s : Side) : Type 0 where
  pub apart : Inj (names (whole s)) s.name  -- no two names become one
  pub variables : (v : Bytes) → mem v (names (whole s)) ≡ true → is_var (s.name v) ≡ true  -- a new name is a variable
  pub no_empty : mem [] (names (whole s)) ≡ false  -- no name is empty
  pub constant_inside : inside s.columns (map (λ k. k.position) s.constants) ≡ true  -- a constant stands on a column
  pub constant_once : one_term (constant_columns s.columns s.constants) (map cell (constant_terms s.constants)) ≡ true  -- no column is given two terms

-- of both: a name of the left and a name of the right become one exactly if they are a join pair
pub record Fit (l r : Side) (js : List Pair) : Type 0 where
  pub left : SideFit l
  pub right : SideFit r
  pub joined : (a b : Bytes) → mem a (names (whole l)) ≡ true → mem b (names (whole r)) ≡ true → same (l.name a) (r.name b) ≡ is_pair (left_join_variables l js) (right_join_variables r js) a b
