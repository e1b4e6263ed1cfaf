-- Renaming in two steps and in one, at work; and why a middle text needs its own bound on variables. Assumes nothing.
use mathlib.Core.Path.{◌≡◌, refl}
use mathlib.Core.List.{List, [], ◌∷◌, map}
use Prim.Native.String.{String}
use Rattle.text.specs.Text.{Bytes, same, ended, text_of, onto, split, lines_in, lines_of}
use Rattle.text.specs.Word.{bytes, spelled}
use Rattle.text.specs.Field.{digits_of, number_of, digits, decimal, clean, is_var, is_iri, is_literal, is_blank, is_dash, is_flag, is_tag, is_region, is_datatype, is_form, is_kind, fits, all_fit}
use Rattle.algebra.specs.Layout.{put_triples, put_rows, put_arity, put, layout, put_query, put_pairs}
use Rattle.algebra.specs.Bounded.{layout_query, layout_pairs}
use Rattle.algebra.specs.Valid.{mem}
use Rattle.algebra.specs.Tally.{notes, noted, headed, paired, within, tally_triples, tally_rows, tally}
use Rattle.algebra.specs.Reader.{one, kept, rest, times, end, too_many, several, read_text}
use Rattle.algebra.specs.Reading.{expressions, orders, aggregates, pattern_after, expression_after, inside}
use Rattle.algebra.specs.Given.{read_given_tree}
use Rattle.algebra.specs.Texts.{read_pairs}
use Rattle.scoping.specs.Sets.{keep, variables_of, triple_variables}
use Rattle.scoping.specs.Variables.{variables_in_pattern}
use Rattle.scoping.specs.Numbering.{by_place, in_scope_by_place, hidden_by_place, numbered}
use Rattle.scoping.specs.Label.{is_label, base, generated}
use Rattle.scoping.specs.Standardize.{get, insert, push, push_all, standardize_variables, renamed}
use Rattle.scoping.specs.Rename.{rename_in_term, rename_in_graph_pattern}
use Rattle.scoping.specs.Premises.{columns_at, side_name}
use Rattle.answers.specs.Outcome.{written}
use Rattle.algebra.specs.Query.{Pair}
use Rattle.renaming.specs.Rename.{becomes, rename_outcome}
use Rattle.laws.specs.Composed.{composed}

abbrev p : String → String → Pair
p a b = record { first = bytes a; second = bytes b }

-- ?a goes on to ?c; ?b is listed by both, and the first decides where it goes; ?d is listed by the second only
abbrev xs : List Pair
xs = p "?a" "?b" ∷ p "?b" "?x" ∷ []

abbrev ys : List Pair
ys = p "?b" "?c" ∷ p "?d" "?e" ∷ []

list : layout_pairs (composed xs ys) ≡ bytes "?a\t?c\n?b\t?x\n?d\t?e\n"
unfolding layout_pairs put_pairs text_of ended composed
list = refl

-- so each name goes where the two take it, one after the other; ?z stands in neither list
names : map (becomes (composed xs ys)) (bytes "?a" ∷ bytes "?b" ∷ bytes "?d" ∷ bytes "?z" ∷ []) ≡ bytes "?c" ∷ bytes "?x" ∷ bytes "?e" ∷ bytes "?z" ∷ []
unfolding composed
names = refl

abbrev tree : Bytes
tree = bytes "bgp\t2\nt\t?a\t?b\t?d\nt\t?z\t<p>\t\"l\"\n"

steps : rename_outcome tree (bytes "?a\t?b\n?b\t?x\n") ∷ rename_outcome (bytes "bgp\t2\nt\t?b\t?x\t?d\nt\t?z\t<p>\t\"l\"\n") (bytes "?b\t?c\n?d\t?e\n") ∷ rename_outcome tree (bytes "?a\t?c\n?b\t?x\n?d\t?e\n") ∷ []
    ≡ written (bytes "bgp\t2\nt\t?b\t?x\t?d\nt\t?z\t<p>\t\"l\"\n") ∷ written (bytes "bgp\t2\nt\t?c\t?x\t?e\nt\t?z\t<p>\t\"l\"\n") ∷ written (bytes "bgp\t2\nt\t?c\t?x\t?e\nt\t?z\t<p>\t\"l\"\n") ∷ []
unfolding rename_outcome read_given_tree read_pairs read_text within noted headed paired notes mem inside several one end too_many kept rest times expressions orders aggregates pattern_after expression_after lines_of lines_in split onto same spelled number_of digits_of fits is_kind clean is_var is_iri is_literal is_blank is_dash is_flag is_tag is_region is_datatype is_form all_fit layout layout_query put put_triples put_rows put_arity put_query decimal digits text_of ended side_name columns_at rename_in_graph_pattern rename_in_term renamed standardize_variables push_all push get insert base is_label generated numbered in_scope_by_place hidden_by_place by_place tally tally_triples tally_rows keep variables_of triple_variables variables_in_pattern
steps = refl

-- a service's name stays: one variable before, two after, so a middle text may pass the bound on variables where no bound was passed before
service : rename_outcome (bytes "service\t?a\t0\nbgp\t1\nt\t?a\t<p>\t<o>\n") (bytes "?a\t?b\n") ≡ written (bytes "service\t?a\t0\nbgp\t1\nt\t?b\t<p>\t<o>\n")
unfolding rename_outcome read_given_tree read_pairs read_text within noted headed paired notes mem inside several one end too_many kept rest times expressions orders aggregates pattern_after expression_after lines_of lines_in split onto same spelled number_of digits_of fits is_kind clean is_var is_iri is_literal is_blank is_dash is_flag is_tag is_region is_datatype is_form all_fit layout layout_query put put_triples put_rows put_arity put_query decimal digits text_of ended side_name columns_at rename_in_graph_pattern rename_in_term renamed standardize_variables push_all push get insert base is_label generated numbered in_scope_by_place hidden_by_place by_place tally tally_triples tally_rows keep variables_of triple_variables variables_in_pattern
service = refl
