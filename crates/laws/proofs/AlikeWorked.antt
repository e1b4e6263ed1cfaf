-- Texts that differ inside literals, at work: two queries and two constants, what is pushed, left over and negated of them, and why a head line has to stay. Assumes nothing.
use mathlib.Core.Path.{◌≡◌, refl, ap}
use mathlib.Core.Bool.{Bool, true}
use mathlib.Core.List.{[], ◌∷◌}
use native.Mathlib.Omega.{arith}
use Prim.Native.Nat.{ℕ}
use lib.ListN.{get_or}
use Rattle.text.specs.Text.{Bytes, same, ended, text_of, onto, split, lines_in, lines_of}
use Rattle.text.specs.Word.{bytes, spelled}
use Rattle.text.specs.Field.{digits_of, number_of, digits, decimal, clean, is_var, is_iri, is_literal, is_blank, is_dash, is_flag, is_tag, is_region, is_datatype, is_form, is_kind, fits, all_fit}
use Rattle.algebra.specs.Layout.{put_triples, put_rows, put_arity, put, layout, put_query}
use Rattle.algebra.specs.Bounded.{layout_query}
use Rattle.algebra.specs.Valid.{mem}
use Rattle.algebra.specs.Tally.{notes, noted, headed, paired, within, tally_triples, tally_rows, tally}
use Rattle.algebra.specs.Reader.{one, kept, rest, times, end, too_many, several, read_text}
use Rattle.algebra.specs.Reading.{expressions, orders, aggregates, pattern_after, expression_after, inside}
use Rattle.algebra.specs.Given.{read_given_query}
use Rattle.algebra.specs.Texts.{read_pairs}
use Rattle.scoping.specs.Sets.{keep, variables_of, triple_variables}
use Rattle.scoping.specs.Variables.{variables_in_pattern}
use Rattle.scoping.specs.Numbering.{by_place, in_scope_by_place, hidden_by_place, numbered}
use Rattle.scoping.specs.Label.{is_label, base, generated}
use Rattle.scoping.specs.Standardize.{get, insert, push, push_all, standardize_variables, renamed}
use Rattle.scoping.specs.Rename.{rename_in_term, rename_in_graph_pattern}
use Rattle.scoping.specs.Premises.{columns_at, side_name}
use Rattle.answers.specs.Outcome.{refused, written}
use Rattle.merging.specs.Merge.{merge_queries_outcome}
use Rattle.merging.specs.Push.{push_constants_outcome}
use Rattle.merging.specs.Negate.{negate_outcome}
use Rattle.merging.specs.Without.{without_queries_outcome}
use Rattle.laws.specs.Alike.{ends, also, AlikeField, equal, literals, untouched, touched, Alike, AlikeOutcome}
use Rattle.laws.proofs.Erased.{marked, erased}
use Rattle.laws.proofs.AlikeLines.{field-long, field-same}
use Rattle.laws.proofs.Theorem.{push-constants-alike}

-- the literals that are changed, before and after: a relay's name, with its language tag, and a constant
abbrev changed : Bytes → Bool
changed f = mem f (bytes "\"K1\"@en" ∷ bytes "\"?y<z>." ∷ bytes "\"k\"" ∷ bytes "\"m\"" ∷ [])

-- bytes behind the first quote are changed, the closing quote and the tag too; "on" stays
abbrev query : Bytes
query = bytes "query\tselect\t-\t-\nproject\t?a\t?b\nbgp\t2\nt\t?a\t<p>\t\"K1\"@en\nt\t?a\t?b\t\"on\"\n"

abbrev query' : Bytes
query' = bytes "query\tselect\t-\t-\nproject\t?a\t?b\nbgp\t2\nt\t?a\t<p>\t\"?y<z>.\nt\t?a\t?b\t\"on\"\n"

queries : Alike changed query query'
unfolding lines_of lines_in split onto same clean mem
queries = record {
  long = refl;
  lines = also (untouched (bytes "query" ∷ bytes "select" ∷ bytes "-" ∷ bytes "-" ∷ [])) (also (untouched (bytes "project" ∷ bytes "?a" ∷ bytes "?b" ∷ [])) (also (untouched (bytes "bgp" ∷ bytes "2" ∷ []))
      (also (touched (bytes "t") (bytes "?a" ∷ bytes "<p>" ∷ bytes "\"K1\"@en" ∷ []) (bytes "?a" ∷ bytes "<p>" ∷ bytes "\"?y<z>." ∷ []) refl (also (equal (bytes "?a")) (also (equal (bytes "<p>")) (also (literals (bytes "K1\"@en") (bytes "?y<z>.") refl refl refl refl refl) ends))))
      (also (untouched (bytes "t" ∷ bytes "?a" ∷ bytes "?b" ∷ bytes "\"on\"" ∷ [])) ends))));
}

constants : Alike changed (bytes "0\t\"k\"\n") (bytes "0\t\"m\"\n")
unfolding lines_of lines_in split onto same clean mem
constants = record { long = refl; lines = also (touched (bytes "0") (bytes "\"k\"" ∷ []) (bytes "\"m\"" ∷ []) refl (also (literals (bytes "k\"") (bytes "m\"") refl refl refl refl refl) ends)) ends }

-- the law at these texts
pushes : AlikeOutcome changed (push_constants_outcome query (bytes "0\t\"k\"\n")) (push_constants_outcome query' (bytes "0\t\"m\"\n"))
pushes = push-constants-alike changed query query' (bytes "0\t\"k\"\n") (bytes "0\t\"m\"\n") queries constants

-- what is written of them
texts : push_constants_outcome query (bytes "0\t\"k\"\n") ∷ push_constants_outcome query' (bytes "0\t\"m\"\n") ∷ []
    ≡ written (bytes "query\tselect\t-\t-\nproject\t?v1\njoin\nbgp\t2\nt\t?v0\t<p>\t\"K1\"@en\nt\t?v0\t?v1\t\"on\"\nvalues\t1\t1\ncols\t?v0\nrow\t\"k\"\n")
    ∷ written (bytes "query\tselect\t-\t-\nproject\t?v1\njoin\nbgp\t2\nt\t?v0\t<p>\t\"?y<z>.\nt\t?v0\t?v1\t\"on\"\nvalues\t1\t1\ncols\t?v0\nrow\t\"m\"\n") ∷ []
unfolding push_constants_outcome read_given_query read_pairs read_text within noted headed paired notes mem inside several one end too_many kept rest times expressions orders aggregates pattern_after expression_after lines_of lines_in split onto same spelled number_of digits_of fits is_kind clean is_var is_iri is_literal is_blank is_dash is_flag is_tag is_region is_datatype is_form all_fit layout layout_query put put_triples put_rows put_arity put_query decimal digits text_of ended side_name columns_at rename_in_graph_pattern rename_in_term renamed standardize_variables push_all push get insert base is_label generated numbered in_scope_by_place hidden_by_place by_place tally tally_triples tally_rows keep variables_of triple_variables variables_in_pattern
texts = refl

-- and what without writes
remaining : without_queries_outcome (bytes "query\tselect\t-\t-\nproject\t?a\nbgp\t1\nt\t?a\t<p>\t\"k\"\n") (bytes "query\tselect\t-\t-\nproject\t?c\nbgp\t1\nt\t?c\t<q>\t\"K1\"@en\n") (bytes "0\t0\n")
    ∷ without_queries_outcome (bytes "query\tselect\t-\t-\nproject\t?a\nbgp\t1\nt\t?a\t<p>\t\"m\"\n") (bytes "query\tselect\t-\t-\nproject\t?c\nbgp\t1\nt\t?c\t<q>\t\"?y<z>.\n") (bytes "0\t0\n") ∷ []
    ≡ written (bytes "query\tselect\t-\t-\nproject\t?j0\nminus\nbgp\t1\nt\t?j0\t<p>\t\"k\"\nbgp\t1\nt\t?j0\t<q>\t\"K1\"@en\n")
    ∷ written (bytes "query\tselect\t-\t-\nproject\t?j0\nminus\nbgp\t1\nt\t?j0\t<p>\t\"m\"\nbgp\t1\nt\t?j0\t<q>\t\"?y<z>.\n") ∷ []
unfolding without_queries_outcome read_given_query read_pairs read_text within noted headed paired notes mem inside several one end too_many kept rest times expressions orders aggregates pattern_after expression_after lines_of lines_in split onto same spelled number_of digits_of fits is_kind clean is_var is_iri is_literal is_blank is_dash is_flag is_tag is_region is_datatype is_form all_fit layout layout_query put put_triples put_rows put_arity put_query decimal digits text_of ended side_name columns_at rename_in_graph_pattern rename_in_term renamed standardize_variables push_all push get insert base is_label generated numbered in_scope_by_place hidden_by_place by_place tally tally_triples tally_rows keep variables_of triple_variables variables_in_pattern
remaining = refl

-- a quote that is changed is another kind of field: no term of a triple may start so
quotes : negate_outcome (bytes "query\task\t-\t-\nproject\nbgp\t1\nt\t<s>\t<p>\t\"a\"\n") ∷ negate_outcome (bytes "query\task\t-\t-\nproject\nbgp\t1\nt\t<s>\t<p>\t'a\"\n") ∷ []
    ≡ written (bytes "query\task\t-\t-\nproject\nfilter\nbgp\t0\nnot\nexists\nbgp\t1\nt\t<s>\t<p>\t\"a\"\n") ∷ refused 1 ∷ []
unfolding negate_outcome read_given_query read_pairs read_text within noted headed paired notes mem inside several one end too_many kept rest times expressions orders aggregates pattern_after expression_after lines_of lines_in split onto same spelled number_of digits_of fits is_kind clean is_var is_iri is_literal is_blank is_dash is_flag is_tag is_region is_datatype is_form all_fit layout layout_query put put_triples put_rows put_arity put_query decimal digits text_of ended side_name columns_at rename_in_graph_pattern rename_in_term renamed standardize_variables push_all push get insert base is_label generated numbered in_scope_by_place hidden_by_place by_place tally tally_triples tally_rows keep variables_of triple_variables variables_in_pattern
quotes = refl

-- an opaque field of a head line is no literal, even if it starts with a quote: changed on one side it is 5
abbrev right : Bytes
right = bytes "query\tselect\t\"d\"\t-\nproject\t?c\nbgp\t0\n"

heads : merge_queries_outcome (bytes "query\tselect\t\"d\"\t-\nproject\t?a\nbgp\t0\n") right [] [] [] ∷ merge_queries_outcome (bytes "query\tselect\t\"e\"\t-\nproject\t?a\nbgp\t0\n") right [] [] [] ∷ []
    ≡ written (bytes "query\tselect\t\"d\"\t-\nproject\t?l0\t?r0\njoin\nbgp\t0\nbgp\t0\n") ∷ refused 5 ∷ []
unfolding merge_queries_outcome read_given_query read_pairs read_text within noted headed paired notes mem inside several one end too_many kept rest times expressions orders aggregates pattern_after expression_after lines_of lines_in split onto same spelled number_of digits_of fits is_kind clean is_var is_iri is_literal is_blank is_dash is_flag is_tag is_region is_datatype is_form all_fit layout layout_query put put_triples put_rows put_arity put_query decimal digits text_of ended side_name columns_at rename_in_graph_pattern rename_in_term renamed standardize_variables push_all push get insert base is_label generated numbered in_scope_by_place hidden_by_place by_place tally tally_triples tally_rows keep variables_of triple_variables variables_in_pattern
heads = refl

-- literals of two lengths, and a literal that is not among those that may be changed
other_length : AlikeField (λ f. true) (bytes "\"a\"") (bytes "\"ab\"") → ⊥
other_length a = let e = field-long (λ f. true) (bytes "\"a\"") (bytes "\"ab\"") a in omega arith

not-among : AlikeField changed (bytes "\"on\"") (bytes "\"up\"") → ⊥
unfolding erased marked clean mem same
not-among a = let e : ◌≡◌ {A = ℕ} 111 117 = ap (λ (l : Bytes). get_or l 2 0) (field-same changed (bytes "\"on\"") (bytes "\"up\"") a) in omega arith
