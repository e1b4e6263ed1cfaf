-- Without at work: a call whose premises hold, with each row's count computed in the tree that is written and as it has to be; rows that agree on one pair of two; and what goes wrong where a name ends in Label. Assumes nothing.
use mathlib.Core.Path.{◌≡◌, refl}
use mathlib.Core.List.{List, [], ◌∷◌, map}
use mathlib.Core.Option.{none, some}
use Prim.Native.String.{String}
use Rattle.text.specs.Text.{same, ended, text_of, onto, split, lines_in, lines_of}
use Rattle.text.specs.Word.{bytes, spelled}
use Rattle.text.specs.Field.{digits_of, number_of, digits, decimal, clean, is_var, is_iri, is_literal, is_blank, is_dash, is_flag, is_tag, is_region, is_datatype, is_form, is_kind, fits, all_fit}
use Rattle.algebra.specs.Tree.{values}
use Rattle.algebra.specs.Layout.{put_triples, put_rows, put_arity, put, layout, put_query}
use Rattle.algebra.specs.Bounded.{layout_query}
use Rattle.algebra.specs.Valid.{mem, different}
use Rattle.algebra.specs.Tally.{notes, noted, headed, paired, within, tally_triples, tally_rows, tally}
use Rattle.algebra.specs.Reader.{one, kept, rest, times, end, too_many, several, read_text}
use Rattle.algebra.specs.Reading.{expressions, orders, aggregates, pattern_after, expression_after, inside}
use Rattle.algebra.specs.Given.{read_given_query}
use Rattle.algebra.specs.Texts.{read_pairs}
use Rattle.scoping.specs.Sets.{keep, variables_of, triple_variables, all}
use Rattle.scoping.specs.Variables.{variables_in_pattern}
use Rattle.scoping.specs.Numbering.{by_place, in_scope_by_place, hidden_by_place, numbered}
use Rattle.scoping.specs.Label.{is_label, base, generated}
use Rattle.scoping.specs.Standardize.{get, insert, push, push_all, standardize_variables, renamed}
use Rattle.scoping.specs.Rename.{rename_in_term, rename_in_graph_pattern}
use Rattle.scoping.specs.Premises.{columns_at, side_name, different_positions}
use Rattle.counting.specs.Bag.{count}
use Rattle.counting.specs.Row.{Cell, same_row}
use Rattle.counting.specs.Answer.{answer}
use Rattle.counting.specs.Countable.{is_countable, extends_fresh, values_once, expressions_known}
use Rattle.answers.specs.Outcome.{Outcome, written}
use Rattle.merging.specs.Request.{Request, left_side, right_side}
use Rattle.demand3.specs.Demand3.{Premises}
use Rattle.merging.specs.Without.{minus_sides, plain_request, without_queries_outcome}
use Rattle.demand3.specs.Unmatched.{unmatched_count}

abbrev call : String → String → String → Outcome
call a b c = without_queries_outcome (bytes a) (bytes b) (bytes c)

abbrev left : String
left = "query\tselect\t-\t-\nproject\t?event\t?relay\nvalues\t2\t5\ncols\t?event\t?relay\nrow\t<e>\t<1>\nrow\t<e>\t<1>\nrow\t<f>\t-\nrow\t<g>\t<2>\nrow\t<g>\t<2>\n"

abbrev right : String
right = "query\tselect\t-\t-\nproject\t?r\nvalues\t2\t2\ncols\t?r\t?event\nrow\t<1>\t<x>\nrow\t-\t<e>\n"

-- the tree that is written
call-writes : call left right "1\t0\n" ≡ written (bytes "query\tselect\t-\t-\nproject\t?l0\t?j0\nminus\nvalues\t2\t5\ncols\t?l0\t?j0\nrow\t<e>\t<1>\nrow\t<e>\t<1>\nrow\t<f>\t-\nrow\t<g>\t<2>\nrow\t<g>\t<2>\nvalues\t2\t2\ncols\t?j0\t?r2\nrow\t<1>\t<x>\nrow\t-\t<e>\n")
unfolding without_queries_outcome read_given_query read_pairs read_text within noted headed paired notes mem inside several one end too_many kept rest times expressions orders aggregates pattern_after expression_after lines_of lines_in split onto same spelled number_of digits_of fits is_kind clean is_var is_iri is_literal is_blank is_dash is_flag is_tag is_region is_datatype is_form all_fit layout layout_query put put_triples put_rows put_arity put_query decimal digits text_of ended side_name columns_at rename_in_graph_pattern rename_in_term renamed standardize_variables push_all push get insert base is_label generated numbered in_scope_by_place hidden_by_place by_place tally tally_triples tally_rows keep variables_of triple_variables variables_in_pattern
call-writes = refl

-- the same as trees; the right side's hidden ?event is none of the left one's
abbrev asked : Request
asked = plain_request
    (record { columns = bytes "?event" ∷ bytes "?relay" ∷ []; inner = values (bytes "?event" ∷ bytes "?relay" ∷ []) ((bytes "<e>" ∷ bytes "<1>" ∷ []) ∷ (bytes "<e>" ∷ bytes "<1>" ∷ []) ∷ (bytes "<f>" ∷ bytes "-" ∷ []) ∷ (bytes "<g>" ∷ bytes "<2>" ∷ []) ∷ (bytes "<g>" ∷ bytes "<2>" ∷ []) ∷ []) })
    (record { columns = bytes "?r" ∷ []; inner = values (bytes "?r" ∷ bytes "?event" ∷ []) ((bytes "<1>" ∷ bytes "<x>" ∷ []) ∷ (bytes "-" ∷ bytes "<e>" ∷ []) ∷ []) })
    (record { left = 1; right = 0 } ∷ [])

supposed : Premises asked
unfolding is_countable extends_fresh values_once expressions_known all different different_positions is_label numbered in_scope_by_place hidden_by_place by_place tally tally_triples tally_rows noted headed notes mem is_var same keep variables_of triple_variables variables_in_pattern
supposed = record {
  left = record { countable = refl; extends_fresh = refl; values_once = refl; expressions_known = refl; no_label = refl; columns_once = refl };
  right = record { countable = refl; extends_fresh = refl; values_once = refl; expressions_known = refl; no_label = refl; columns_once = refl };
}

-- matched; binds no join column; unmatched, twice; no left row
abbrev rows : List (List Cell)
rows = (some (bytes "<e>") ∷ some (bytes "<1>") ∷ []) ∷ (some (bytes "<f>") ∷ none ∷ []) ∷ (some (bytes "<g>") ∷ some (bytes "<2>") ∷ []) ∷ (some (bytes "<g>") ∷ some (bytes "<1>") ∷ []) ∷ []

-- as they have to
said : map (unmatched_count asked []) rows ≡ 0 ∷ 1 ∷ 2 ∷ 0 ∷ []
unfolding unmatched_count
said = refl

-- and as the tree counts
counted : map (λ x. count same_row x (answer (bytes "?l0" ∷ bytes "?j0" ∷ []) [] (minus_sides (left_side asked) (right_side asked)))) rows ≡ 0 ∷ 1 ∷ 2 ∷ 0 ∷ []
unfolding minus_sides count answer same_row side_name columns_at renamed standardize_variables push_all push get insert base is_label generated decimal digits numbered in_scope_by_place hidden_by_place by_place tally tally_triples tally_rows noted headed notes mem is_var same keep variables_of triple_variables variables_in_pattern
counted = refl

-- ---- two pairs: a right row that agrees on one and contradicts on the other matches nothing; a cell that is unbound on either side contradicts nothing

abbrev two : Request
two = plain_request
    (record { columns = bytes "?event" ∷ bytes "?relay" ∷ []; inner = values (bytes "?event" ∷ bytes "?relay" ∷ []) ((bytes "<e>" ∷ bytes "<1>" ∷ []) ∷ (bytes "<f>" ∷ bytes "<1>" ∷ []) ∷ (bytes "<g>" ∷ bytes "-" ∷ []) ∷ []) })
    (record { columns = bytes "?e" ∷ bytes "?r" ∷ []; inner = values (bytes "?e" ∷ bytes "?r" ∷ []) ((bytes "<e>" ∷ bytes "<2>" ∷ []) ∷ (bytes "<f>" ∷ bytes "-" ∷ []) ∷ (bytes "<g>" ∷ bytes "<2>" ∷ []) ∷ []) })
    (record { left = 0; right = 0 } ∷ record { left = 1; right = 1 } ∷ [])

-- contradicted; agrees on one, unbound on the right; agrees on one, unbound on the left
abbrev pairs : List (List Cell)
pairs = (some (bytes "<e>") ∷ some (bytes "<1>") ∷ []) ∷ (some (bytes "<f>") ∷ some (bytes "<1>") ∷ []) ∷ (some (bytes "<g>") ∷ none ∷ []) ∷ []

pairs-said : map (unmatched_count two []) pairs ≡ 1 ∷ 0 ∷ 0 ∷ []
unfolding unmatched_count
pairs-said = refl

pairs-counted : map (λ x. count same_row x (answer (bytes "?j0" ∷ bytes "?j1" ∷ []) [] (minus_sides (left_side two) (right_side two)))) pairs ≡ 1 ∷ 0 ∷ 0 ∷ []
unfolding minus_sides count answer same_row side_name columns_at renamed standardize_variables push_all push get insert base is_label generated decimal digits numbered in_scope_by_place hidden_by_place by_place tally tally_triples tally_rows noted headed notes mem is_var same keep variables_of triple_variables variables_in_pattern
pairs-counted = refl

-- ---- with names that end in "Label": the columns beside the join columns are linked too, so the premise is needed

abbrev labelled : Request
labelled = plain_request
    (record { columns = bytes "?s" ∷ bytes "?sLabel" ∷ []; inner = values (bytes "?s" ∷ bytes "?sLabel" ∷ []) ((bytes "<1>" ∷ bytes "\"a\"" ∷ []) ∷ []) })
    (record { columns = bytes "?t" ∷ bytes "?tLabel" ∷ []; inner = values (bytes "?t" ∷ bytes "?tLabel" ∷ []) ((bytes "<1>" ∷ bytes "\"b\"" ∷ []) ∷ []) })
    (record { left = 0; right = 0 } ∷ [])

-- the join column agrees, so 0 is due; the tree compares the labels as well and keeps the row
labels : unmatched_count labelled [] (some (bytes "<1>") ∷ some (bytes "\"a\"") ∷ []) ∷ count same_row (some (bytes "<1>") ∷ some (bytes "\"a\"") ∷ []) (answer (bytes "?j0" ∷ bytes "?j0Label" ∷ []) [] (minus_sides (left_side labelled) (right_side labelled))) ∷ [] ≡ 0 ∷ 1 ∷ []
unfolding unmatched_count minus_sides count answer same_row side_name columns_at renamed standardize_variables push_all push get insert base is_label generated decimal digits numbered in_scope_by_place hidden_by_place by_place tally tally_triples tally_rows noted headed notes mem is_var same keep variables_of triple_variables variables_in_pattern
labels = refl
