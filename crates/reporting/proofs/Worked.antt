-- The worked reports of specs/Cases.antt, under one theorem over their table. Assumes nothing.
use mathlib.Core.Path.{◌≡◌, refl}
use mathlib.Core.List.{map}
use Rattle.text.specs.Text.{same, ended, text_of, onto, split, lines_in, lines_of}
use Rattle.text.specs.Word.{bytes, spelled}
use Rattle.text.specs.Field.{digits_of, number_of, digits, decimal, clean, is_var, is_iri, is_literal, is_blank, is_dash, is_flag, is_tag, is_region, is_datatype, is_form, is_kind, fits, all_fit}
use Rattle.algebra.specs.Layout.{put_triples, put_rows, put_arity, put, layout, put_query}
use Rattle.algebra.specs.Bounded.{layout_query}
use Rattle.algebra.specs.Valid.{mem}
use Rattle.algebra.specs.Tally.{notes, noted, headed, paired, within, tally_triples, tally}
use Rattle.algebra.specs.Reader.{one, kept, rest, times, end, too_many, several, read_text}
use Rattle.algebra.specs.Reading.{expressions, orders, aggregates, pattern_after, expression_after, inside}
use Rattle.algebra.specs.Given.{read_given_query}
use Rattle.algebra.specs.Texts.{read_query, read_pairs}
use Rattle.scoping.specs.Sets.{keep, variables_of, triple_variables}
use Rattle.scoping.specs.Variables.{variables_in_pattern}
use Rattle.scoping.specs.Numbering.{by_place, in_scope_by_place, hidden_by_place, numbered}
use Rattle.scoping.specs.Label.{is_label, base, generated}
use Rattle.scoping.specs.Standardize.{get, insert, push, push_all, standardize_variables, renamed}
use Rattle.scoping.specs.Rename.{rename_in_term, rename_in_graph_pattern}
use Rattle.scoping.specs.Premises.{columns_at, side_name}
use Rattle.parted.specs.Parted.{before, texts_in, texts}
use Rattle.reporting.specs.Report.{report_outcome}
use Rattle.reporting.specs.Cases.{Case, cases}

-- each input of the table has the outcome beside it
pub worked : map (λ (c : Case). report_outcome (bytes c.input)) cases ≡ map (λ (c : Case). c.gives) cases
unfolding report_outcome texts texts_in before read_given_query read_query read_pairs read_text within noted headed paired notes mem inside several one end too_many kept rest times expressions orders aggregates pattern_after expression_after lines_of lines_in split onto same spelled number_of digits_of fits is_kind clean is_var is_iri is_literal is_blank is_dash is_flag is_tag is_region is_datatype is_form all_fit layout layout_query put put_triples put_rows put_arity put_query decimal digits text_of ended side_name columns_at rename_in_graph_pattern rename_in_term renamed standardize_variables push_all push get insert base is_label generated numbered in_scope_by_place hidden_by_place by_place tally tally_triples keep variables_of triple_variables variables_in_pattern
worked = refl
