-- The worked cases of specs/Cases.antt, under one theorem over their table. Assumes nothing.
use mathlib.Core.Path.{◌≡◌, refl}
use mathlib.Core.List.{map}
use Rattle.text.specs.Text.{same}
use Rattle.text.specs.Field.{is_var, digits, decimal}
use Rattle.algebra.specs.Valid.{mem}
use Rattle.algebra.specs.Tally.{notes, noted, headed, tally_triples, tally}
use Rattle.scoping.specs.Sets.{keep, variables_of, triple_variables}
use Rattle.scoping.specs.Variables.{variables_in_pattern}
use Rattle.scoping.specs.Numbering.{by_place, in_scope_by_place, hidden_by_place, numbered}
use Rattle.scoping.specs.Label.{is_label, base, generated}
use Rattle.scoping.specs.Standardize.{get, insert, push, push_all, standardize_variables, renamed}
use Rattle.scoping.specs.Rename.{rename_in_term, rename_in_graph_pattern}
use Rattle.scoping.specs.Cases.{v_renamed, Case, cases}

-- each tree of the table becomes the tree beside it
pub worked : map (λ (c : Case). v_renamed c.before) cases ≡ map (λ (c : Case). c.after) cases
unfolding v_renamed rename_in_graph_pattern rename_in_term renamed standardize_variables push_all push get insert base is_label generated decimal digits numbered in_scope_by_place hidden_by_place by_place tally tally_triples noted headed notes mem is_var same keep variables_of triple_variables variables_in_pattern
worked = refl
