-- A push at work, from bytes to counts, computed on both sides. Assumes nothing.
use mathlib.Core.Path.{◌≡◌, refl}
use mathlib.Core.List.{List, [], ◌∷◌, map}
use mathlib.Core.Option.{none, some}
use Prim.Native.String.{String}
use Rattle.text.specs.Text.{same, ended, text_of, onto, split, lines_in, lines_of}
use Rattle.text.specs.Word.{bytes, spelled}
use Rattle.text.specs.Field.{digits_of, number_of, digits, decimal, clean, is_var, is_iri, is_literal, is_blank, is_dash, is_flag, is_tag, is_region, is_datatype, is_form, is_kind, fits, all_fit}
use Rattle.algebra.specs.Tree.{values}
use Rattle.algebra.specs.Layout.{put_triples, put_rows, put_arity, put, layout, put_query}
use Rattle.algebra.specs.Bounded.{layout_query}
use Rattle.algebra.specs.Valid.{mem, different}
use Rattle.algebra.specs.Tally.{notes, noted, headed, paired, within, tally_triples, tally_rows, tally}
use Rattle.algebra.specs.Reader.{one, kept, rest, times, end, too_many, several, read_text}
use Rattle.algebra.specs.Reading.{expressions, orders, aggregates, pattern_after, expression_after, inside}
use Rattle.algebra.specs.Given.{read_given_query}
use Rattle.algebra.specs.Texts.{read_pairs}
use Rattle.scoping.specs.Sets.{keep, variables_of, triple_variables, all}
use Rattle.scoping.specs.Variables.{variables_in_pattern}
use Rattle.scoping.specs.Numbering.{by_place, in_scope_by_place, hidden_by_place, numbered}
use Rattle.scoping.specs.Label.{is_label, base, generated}
use Rattle.scoping.specs.Standardize.{get, insert, push, push_all, standardize_variables, renamed}
use Rattle.scoping.specs.Rename.{rename_in_term, rename_in_graph_pattern}
use Rattle.scoping.specs.Premises.{columns_at, side_name, different_positions}
use Rattle.counting.specs.Bag.{count}
use Rattle.counting.specs.Row.{Cell, same_row}
use Rattle.counting.specs.Answer.{answer}
use Rattle.counting.specs.Countable.{is_countable, extends_fresh, values_once, expressions_known}
use Rattle.answers.specs.Outcome.{written}
use Rattle.merging.specs.Request.{Projection}
use Rattle.demand3.specs.Demand3.{Supposed}
use Rattle.merging.specs.Push.{push_constants_in_project_pattern, push_constants_outcome}
use Rattle.merging.specs.Sides.{Constant}
use Rattle.laws.specs.Pushed.{pushed_names, pushed_count}

abbrev query : String
query = "query\tselect\t-\t-\nproject\t?relay\t?event\nvalues\t2\t5\ncols\t?event\t?relay\nrow\t<e>\t<1>\nrow\t<e>\t<1>\nrow\t<e>\t-\nrow\t<e>\t<2>\nrow\t-\t<1>\n"

-- relay 1 is pushed
call : push_constants_outcome (bytes query) (bytes "0\t<1>\n")
    ≡ written (bytes "query\tselect\t-\t-\nproject\t?v1\njoin\nvalues\t2\t5\ncols\t?v1\t?v0\nrow\t<e>\t<1>\nrow\t<e>\t<1>\nrow\t<e>\t-\nrow\t<e>\t<2>\nrow\t-\t<1>\nvalues\t1\t1\ncols\t?v0\nrow\t<1>\n")
unfolding push_constants_outcome read_given_query read_pairs read_text within noted headed paired notes mem inside several one end too_many kept rest times expressions orders aggregates pattern_after expression_after lines_of lines_in split onto same spelled number_of digits_of fits is_kind clean is_var is_iri is_literal is_blank is_dash is_flag is_tag is_region is_datatype is_form all_fit layout layout_query put put_triples put_rows put_arity put_query decimal digits text_of ended side_name columns_at rename_in_graph_pattern rename_in_term renamed standardize_variables push_all push get insert base is_label generated numbered in_scope_by_place hidden_by_place by_place tally tally_triples tally_rows keep variables_of triple_variables variables_in_pattern
call = refl

abbrev asked : Projection
asked = record { columns = bytes "?relay" ∷ bytes "?event" ∷ []; inner = values (bytes "?event" ∷ bytes "?relay" ∷ []) ((bytes "<e>" ∷ bytes "<1>" ∷ []) ∷ (bytes "<e>" ∷ bytes "<1>" ∷ []) ∷ (bytes "<e>" ∷ bytes "-" ∷ []) ∷ (bytes "<e>" ∷ bytes "<2>" ∷ []) ∷ (bytes "-" ∷ bytes "<1>" ∷ []) ∷ []) }

abbrev relay : List Constant
relay = record { position = 0; term = bytes "<1>" } ∷ []

supposed : Supposed asked
unfolding is_countable extends_fresh values_once expressions_known all different different_positions is_label numbered in_scope_by_place hidden_by_place by_place tally tally_triples tally_rows noted headed notes mem is_var same keep variables_of triple_variables variables_in_pattern
supposed = record { countable = refl; extends_fresh = refl; values_once = refl; expressions_known = refl; no_label = refl; columns_once = refl }

columns : pushed_names asked relay ≡ bytes "?v1" ∷ []
unfolding pushed_names numbered in_scope_by_place hidden_by_place by_place tally tally_triples tally_rows noted headed notes mem is_var same keep variables_of triple_variables variables_in_pattern generated decimal digits
columns = refl

-- event e: twice with relay 1 and once unbound; an unbound event once
abbrev rows : List (List Cell)
rows = (some (bytes "<e>") ∷ []) ∷ (none ∷ []) ∷ (some (bytes "<f>") ∷ []) ∷ []

-- as the sum says
said : map (pushed_count asked relay []) rows ≡ 3 ∷ 1 ∷ 0 ∷ []
unfolding pushed_count
said = refl

-- and as the tree counts
counted : map (λ x. count same_row x (answer (bytes "?v1" ∷ []) [] (push_constants_in_project_pattern asked relay))) rows ≡ 3 ∷ 1 ∷ 0 ∷ []
unfolding push_constants_in_project_pattern count answer same_row side_name columns_at renamed standardize_variables push_all push get insert base is_label generated decimal digits numbered in_scope_by_place hidden_by_place by_place tally tally_triples tally_rows noted headed notes mem is_var same keep variables_of triple_variables variables_in_pattern
counted = refl

-- relay 1 and event e are pushed: no column is left, and all rows but that of relay 2 are the row without cells
abbrev both : List Constant
both = record { position = 0; term = bytes "<1>" } ∷ record { position = 1; term = bytes "<e>" } ∷ []

none_left : pushed_names asked both ≡ []
unfolding pushed_names numbered in_scope_by_place hidden_by_place by_place tally tally_triples tally_rows noted headed notes mem is_var same keep variables_of triple_variables variables_in_pattern generated decimal digits
none_left = refl

both-said : pushed_count asked both [] [] ∷ count same_row [] (answer [] [] (push_constants_in_project_pattern asked both)) ∷ [] ≡ 4 ∷ 4 ∷ []
unfolding pushed_count push_constants_in_project_pattern count answer same_row side_name columns_at renamed standardize_variables push_all push get insert base is_label generated decimal digits numbered in_scope_by_place hidden_by_place by_place tally tally_triples tally_rows noted headed notes mem is_var same keep variables_of triple_variables variables_in_pattern
both-said = refl
