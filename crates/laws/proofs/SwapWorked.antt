-- A swapped merge at work, and the smallest merge with a constant on one half of a join pair only, whose swapped merge has a column more. Assumes nothing.
use mathlib.Core.Path.{◌≡◌, refl}
use mathlib.Core.Bool.{true, false}
use mathlib.Core.List.{List, [], ◌∷◌}
use mathlib.Core.Option.{some}
use Prim.Native.Nat.{ℕ, zero, suc}
use Prim.Native.String.{String}
use Rattle.text.specs.Text.{Bytes, same, ended, text_of, onto, split, lines_in, lines_of}
use Rattle.text.specs.Word.{bytes, spelled}
use Rattle.text.specs.Field.{digits, decimal, is_var, digits_of, number_of, clean, is_iri, is_literal, is_blank, is_dash, is_flag, is_tag, is_region, is_datatype, is_form, is_kind, fits, all_fit}
use Rattle.algebra.specs.Tree.{bgp, values}
use Rattle.algebra.specs.Valid.{mem, different}
use Rattle.algebra.specs.Tally.{notes, noted, headed, tally_rows, tally, paired, within, tally_triples}
use Rattle.algebra.specs.Layout.{put_triples, put_rows, put_arity, put, layout, put_query}
use Rattle.algebra.specs.Bounded.{layout_query}
use Rattle.algebra.specs.Reader.{one, kept, rest, times, end, too_many, several, read_text}
use Rattle.algebra.specs.Reading.{expressions, orders, aggregates, pattern_after, expression_after, inside}
use Rattle.algebra.specs.Given.{read_given_tree}
use Rattle.algebra.specs.Texts.{read_pairs}
use Rattle.scoping.specs.Sets.{keep, variables_of, triple_variables, all}
use Rattle.scoping.specs.Variables.{variables_in_pattern}
use Rattle.scoping.specs.Numbering.{by_place, in_scope_by_place, hidden_by_place, numbered}
use Rattle.scoping.specs.Label.{is_label, generated, base}
use Rattle.scoping.specs.Standardize.{get, insert, push, push_all, standardize_variables, renamed}
use Rattle.scoping.specs.Rename.{rename_in_term, rename_in_graph_pattern}
use Rattle.scoping.specs.Premises.{columns_at, side_name, different_positions}
use Rattle.counting.specs.Row.{Cell}
use Rattle.counting.specs.Countable.{is_countable, extends_fresh, values_once, expressions_known}
use Rattle.merging.specs.Sides.{Constant}
use Rattle.merging.specs.Request.{Projection, Request, request}
use Rattle.demand3.specs.Expected.{expected_count}
use Rattle.demand3.specs.Demand3.{Premises}
use Rattle.answers.specs.Outcome.{written}
use Rattle.merging.specs.Merge.{merge_patterns_outcome}
use Rattle.laws.specs.Swapped.{swapped, left_shown, right_shown, row_of, either_side, both_or_neither}

abbrev left : Projection
left = record { columns = bytes "?e" ∷ bytes "?r" ∷ []; inner = values (bytes "?e" ∷ bytes "?r" ∷ []) ((bytes "<e>" ∷ bytes "<1>" ∷ []) ∷ (bytes "<e>" ∷ bytes "<1>" ∷ []) ∷ (bytes "<f>" ∷ bytes "-" ∷ []) ∷ []) }

abbrev right : Projection
right = record { columns = bytes "?q" ∷ bytes "?b" ∷ []; inner = values (bytes "?q" ∷ bytes "?b" ∷ []) ((bytes "<1>" ∷ bytes "<a>" ∷ []) ∷ (bytes "<1>" ∷ bytes "<a>" ∷ []) ∷ (bytes "<2>" ∷ bytes "<b>" ∷ []) ∷ []) }

abbrev asked : List Constant → List Constant → Request
asked ks ls = request left right (record { left = 1; right = 0 } ∷ []) ks ls

supposed : Premises (asked [] [])
unfolding is_countable extends_fresh values_once expressions_known all different different_positions is_label numbered in_scope_by_place hidden_by_place by_place tally tally_rows noted headed notes mem is_var same keep variables_of variables_in_pattern
supposed = record {
  left = record { countable = refl; extends_fresh = refl; values_once = refl; expressions_known = refl; no_label = refl; columns_once = refl };
  right = record { countable = refl; extends_fresh = refl; values_once = refl; expressions_known = refl; no_label = refl; columns_once = refl };
}

-- a cell for each of two positions
abbrev two : String → String → ℕ → Cell
two a b zero = some (bytes a)
two a b (suc i) = some (bytes b)

-- one row, read on both sides: event, relay; relay, breaker
rows : row_of (asked [] []) (two "<e>" "<1>") (two "<1>" "<a>") ∷ row_of (swapped (asked [] [])) (two "<1>" "<a>") (two "<e>" "<1>") ∷ []
    ≡ (some (bytes "<e>") ∷ some (bytes "<1>") ∷ some (bytes "<a>") ∷ []) ∷ (some (bytes "<1>") ∷ some (bytes "<a>") ∷ some (bytes "<e>") ∷ []) ∷ []
unfolding row_of
rows = refl

-- the relay's cell is one, under either side
sides : either_side (asked [] []) (two "<e>" "<1>") (two "<1>" "<a>") ∷ either_side (asked [] []) (two "<e>" "<1>") (two "<2>" "<a>") ∷ [] ≡ true ∷ false ∷ []
unfolding either_side
sides = refl

-- no constant, and one on each half of the pair
abbrev held : String → List Constant
held term = record { position = 1; term = bytes term } ∷ []

constants : both_or_neither (asked [] []) ∷ both_or_neither (asked (held "<1>") (record { position = 0; term = bytes "<2>" } ∷ [])) ∷ [] ≡ true ∷ true ∷ []
unfolding both_or_neither
constants = refl

-- two events times two breakers; an unbound relay takes the breakers' relay
counts : expected_count (asked [] []) [] (row_of (asked [] []) (two "<e>" "<1>") (two "<1>" "<a>")) ∷ expected_count (swapped (asked [] [])) [] (row_of (swapped (asked [] [])) (two "<1>" "<a>") (two "<e>" "<1>"))
    ∷ expected_count (asked [] []) [] (row_of (asked [] []) (two "<f>" "<2>") (two "<2>" "<b>")) ∷ expected_count (swapped (asked [] [])) [] (row_of (swapped (asked [] [])) (two "<2>" "<b>") (two "<f>" "<2>")) ∷ []
    ≡ 4 ∷ 4 ∷ 1 ∷ 1 ∷ []
unfolding row_of expected_count numbered in_scope_by_place hidden_by_place by_place tally tally_rows noted headed notes mem is_var same keep variables_of variables_in_pattern generated decimal digits
counts = refl

-- ---- the same from bytes

abbrev left_text : Bytes
left_text = bytes "project\t?e\t?r\nvalues\t2\t3\ncols\t?e\t?r\nrow\t<e>\t<1>\nrow\t<e>\t<1>\nrow\t<f>\t-\n"

abbrev right_text : Bytes
right_text = bytes "project\t?q\t?b\nvalues\t2\t3\ncols\t?q\t?b\nrow\t<1>\t<a>\nrow\t<1>\t<a>\nrow\t<2>\t<b>\n"

-- one way, and the other way round
texts : merge_patterns_outcome left_text right_text (bytes "1\t0\n") [] [] ∷ merge_patterns_outcome right_text left_text (bytes "0\t1\n") [] [] ∷ []
    ≡ written (bytes "project\t?l0\t?j0\t?r1\njoin\nvalues\t2\t3\ncols\t?l0\t?j0\nrow\t<e>\t<1>\nrow\t<e>\t<1>\nrow\t<f>\t-\nvalues\t2\t3\ncols\t?j0\t?r1\nrow\t<1>\t<a>\nrow\t<1>\t<a>\nrow\t<2>\t<b>\n")
    ∷ written (bytes "project\t?j0\t?l1\t?r0\njoin\nvalues\t2\t3\ncols\t?j0\t?l1\nrow\t<1>\t<a>\nrow\t<1>\t<a>\nrow\t<2>\t<b>\nvalues\t2\t3\ncols\t?r0\t?j0\nrow\t<e>\t<1>\nrow\t<e>\t<1>\nrow\t<f>\t-\n") ∷ []
unfolding merge_patterns_outcome read_given_tree read_pairs read_text within noted headed paired notes mem inside several one end too_many kept rest times expressions orders aggregates pattern_after expression_after lines_of lines_in split onto same spelled number_of digits_of fits is_kind clean is_var is_iri is_literal is_blank is_dash is_flag is_tag is_region is_datatype is_form all_fit layout layout_query put put_triples put_rows put_arity put_query decimal digits text_of ended side_name columns_at rename_in_graph_pattern rename_in_term renamed standardize_variables push_all push get insert base is_label generated numbered in_scope_by_place hidden_by_place by_place tally tally_triples tally_rows keep variables_of triple_variables variables_in_pattern
texts = refl

-- ---- a constant on one half of a join pair only

abbrev lopsided : Request
lopsided = record {
  left = record { columns = bytes "?a" ∷ []; inner = bgp [] };
  right = record { columns = bytes "?b" ∷ []; inner = bgp [] };
  joins = record { left = 0; right = 0 } ∷ [];
  left_constants = record { position = 0; term = bytes "<k>" } ∷ [];
  right_constants = [];
}

uneven : both_or_neither lopsided ≡ false
unfolding both_or_neither
uneven = refl

-- no column one way, one the other way
shown : left_shown lopsided ∷ right_shown lopsided ∷ left_shown (swapped lopsided) ∷ right_shown (swapped lopsided) ∷ [] ≡ [] ∷ [] ∷ (0 ∷ []) ∷ [] ∷ []
unfolding left_shown right_shown
shown = refl

-- the join column is gone where its left half has the constant, and stands where its right half has it
columns : merge_patterns_outcome (bytes "project\t?a\nbgp\t0\n") (bytes "project\t?b\nbgp\t0\n") (bytes "0\t0\n") (bytes "0\t<k>\n") []
    ∷ merge_patterns_outcome (bytes "project\t?b\nbgp\t0\n") (bytes "project\t?a\nbgp\t0\n") (bytes "0\t0\n") [] (bytes "0\t<k>\n") ∷ []
    ≡ written (bytes "project\njoin\njoin\nbgp\t0\nvalues\t1\t1\ncols\t?j0\nrow\t<k>\nbgp\t0\n")
    ∷ written (bytes "project\t?j0\njoin\nbgp\t0\njoin\nbgp\t0\nvalues\t1\t1\ncols\t?j0\nrow\t<k>\n") ∷ []
unfolding merge_patterns_outcome read_given_tree read_pairs read_text within noted headed paired notes mem inside several one end too_many kept rest times expressions orders aggregates pattern_after expression_after lines_of lines_in split onto same spelled number_of digits_of fits is_kind clean is_var is_iri is_literal is_blank is_dash is_flag is_tag is_region is_datatype is_form all_fit layout layout_query put put_triples put_rows put_arity put_query decimal digits text_of ended side_name columns_at rename_in_graph_pattern rename_in_term renamed standardize_variables push_all push get insert base is_label generated numbered in_scope_by_place hidden_by_place by_place tally tally_triples tally_rows keep variables_of triple_variables variables_in_pattern
columns = refl
