-- The worked cases of specs/Cases.antt, under one theorem over their table. Assumes nothing.
use mathlib.Core.Path.{◌≡◌, refl}
use mathlib.Core.List.{map}
use Rattle.text.specs.Text.{same, onto, split, lines_in, lines_of}
use Rattle.text.specs.Word.{bytes, spelled}
use Rattle.text.specs.Field.{digits_of, number_of, clean, is_var, is_iri, is_literal, is_blank, is_dash, is_flag, is_form, is_kind, fits, all_fit}
use Rattle.algebra.specs.Valid.{mem, different}
use Rattle.algebra.specs.Tally.{notes, noted, headed, within}
use Rattle.algebra.specs.Reader.{one, kept, rest, times, end, too_many, several}
use Rattle.algebra.specs.Reading.{expressions, orders, aggregates, pattern_after, expression_after, inside}
use Rattle.algebra.specs.Given.{read_given_query}
use Rattle.scoping.specs.Sets.{keep, variables_of, triple_variables}
use Rattle.scoping.specs.InScope.{in_scope}
use Rattle.editions.specs.Token.{text}
use Rattle.editions.specs.Lexical.{is_var1, all_name, is_iriref, iri_rest, utf8, is_rdf_literal, is_string, is_suffix, is_tag, unescaped}
use Rattle.editions.specs.Spelling.{term_of, cell_of, spell_triples, spell_vars, spell_cells, spell_rows, spell_slice, spell_p, spell}
use Rattle.editions.specs.Refusals.{first, first_of, allowed, all_allowed, all_cells, judge_ts, judge_rows, judge, judge_query, refusal}
use Rattle.editions.specs.Outcome.{edition_outcome}
use Rattle.editions.specs.Cases.{Case, cases}

-- each query of the table gives what stands beside it
pub worked : map (λ (c : Case). edition_outcome c.edition (bytes c.query)) cases ≡ map (λ (c : Case). c.gives) cases
unfolding edition_outcome read_given_query within noted headed notes mem different inside several one end too_many kept rest times expressions orders aggregates pattern_after expression_after lines_of lines_in split onto same spelled number_of digits_of fits is_kind clean is_var is_iri is_literal is_blank is_dash is_flag is_form all_fit keep variables_of triple_variables in_scope text is_var1 all_name is_iriref iri_rest utf8 is_rdf_literal is_string is_suffix is_tag unescaped term_of cell_of spell_triples spell_vars spell_cells spell_rows spell_slice spell_p spell first first_of allowed all_allowed all_cells judge_ts judge_rows judge judge_query refusal
worked = refl
