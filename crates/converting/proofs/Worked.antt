-- The worked cases of specs/Cases.antt, under one theorem over their table. Assumes nothing.
use mathlib.Core.Path.{◌≡◌, refl}
use mathlib.Core.List.{map}
use Rattle.text.specs.Text.{same, ended, text_of, onto, split, lines_in, lines_of}
use Rattle.text.specs.Word.{spelled}
use Rattle.text.specs.Field.{digits_of, number_of, digits, decimal, clean, is_var, is_iri, is_literal, is_blank, is_dash, is_flag, is_tag, is_region, is_datatype, is_form, is_kind, fits, all_fit}
use Rattle.algebra.specs.Layout.{put_triples, put_rows, put_arity, put, layout}
use Rattle.algebra.specs.Valid.{mem}
use Rattle.algebra.specs.Tally.{notes, noted, headed, within}
use Rattle.algebra.specs.Reader.{one, kept, rest, times, end, too_many, several, read_text}
use Rattle.algebra.specs.Reading.{expressions, orders, aggregates, pattern_after, expression_after, inside}
use Rattle.algebra.specs.Given.{read_given_tree}
use Rattle.converting.specs.Cases.{Case, cases, outcome_of, many_lines, long_start, Bound, bound_cases, bound_outcome}

-- each call of the table has the outcome beside it
pub worked : map outcome_of cases ≡ map (λ (c : Case). c.gives) cases
unfolding outcome_of read_given_tree read_text within noted headed notes mem inside several one end too_many kept rest times expressions orders aggregates pattern_after expression_after lines_of lines_in split onto same spelled number_of digits_of fits is_kind clean is_var is_iri is_literal is_blank is_dash is_flag is_tag is_region is_datatype is_form all_fit layout put put_triples put_rows put_arity decimal digits text_of ended
worked = refl

pub worked-bounds : map bound_outcome bound_cases ≡ map (λ (c : Bound). c.gives) bound_cases
unfolding bound_outcome many_lines long_start read_given_tree read_text within noted headed notes mem inside several one end too_many kept rest times expressions orders aggregates pattern_after expression_after lines_of lines_in split onto same spelled number_of digits_of fits is_kind clean is_var is_iri is_literal is_blank is_dash is_flag is_tag is_region is_datatype is_form all_fit layout put put_triples put_rows put_arity decimal digits text_of ended
worked-bounds = refl
