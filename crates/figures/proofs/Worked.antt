-- The figures of merging's table of calls, computed; and a query whose order goes deeper than what negate puts in. Assumes nothing.
use Prim.Native.Nat.{ℕ}
use mathlib.Core.Path.{◌≡◌, refl, ap}
use mathlib.Core.List.{List, [], ◌∷◌, map}
use Rattle.text.specs.Text.{same, ended, text_of, onto, split, lines_in, lines_of}
use Rattle.text.specs.Word.{bytes, spelled}
use Rattle.text.specs.Field.{digits_of, number_of, digits, decimal, clean, is_var, is_iri, is_literal, is_blank, is_dash, is_flag, is_tag, is_region, is_datatype, is_form, is_kind, fits, all_fit}
use Rattle.algebra.specs.Depth.{depth}
use Rattle.algebra.specs.Layout.{put_triples, put_rows, put_arity, put, put_query}
use Rattle.algebra.specs.Bounded.{layout_query}
use Rattle.algebra.specs.Valid.{mem}
use Rattle.algebra.specs.Tally.{notes, noted, headed, within}
use Rattle.algebra.specs.Reader.{one, kept, rest, times, end, too_many, read_text}
use Rattle.algebra.specs.Reading.{expressions, orders, aggregates, pattern_after, expression_after, inside}
use Rattle.algebra.specs.Given.{read_given_query}
use Rattle.algebra.specs.Texts.{read_any_tree}
use Rattle.answers.specs.Outcome.{Outcome}
use Rattle.merging.specs.Request.{as_project}
use Rattle.merging.specs.Negate.{negate_outcome}
use Rattle.merging.specs.Cases.{Call, merge_patterns, merge_queries, push_constants, negate, without, Case, cases, outcome_of}
use Rattle.merging.proofs.Worked.{worked}
use Rattle.figures.specs.Figures.{Sizes, unsized, sized, behind_first, tree_sizes, query_sizes}

-- only merge patterns answers with a tree
abbrev sizes_of : Call → Outcome → Sizes
sizes_of (merge_patterns a b c d e) o = tree_sizes o
sizes_of (merge_queries a b c d e) o = query_sizes o
sizes_of (push_constants a b) o = query_sizes o
sizes_of (negate a) o = query_sizes o
sizes_of (without a b c) o = query_sizes o

abbrev sizes_at : List Case → List Outcome → List Sizes
sizes_at [] os = []
sizes_at (c ∷ cs) [] = []
sizes_at (c ∷ cs) (o ∷ os) = sizes_of c.call o ∷ sizes_at cs os

-- bytes, lines, depth, columns
abbrev four : ℕ → ℕ → ℕ → ℕ → Sizes
four n l d c = sized (record { bytes = n; lines = l; depth = d; columns = c })

pub cases-sized : sizes_at cases (map (λ (c : Case). outcome_of c.call) cases)
    ≡ four 67 6 3 3 ∷ four 47 4 3 3 ∷ unsized 10 ∷ unsized 10 ∷ unsized 3 ∷ unsized 3 ∷ four 37 4 3 3 ∷ unsized 3
    ∷ unsized 3 ∷ unsized 4 ∷ unsized 4 ∷ unsized 5 ∷ four 68 7 3 1 ∷ four 44 3 2 2 ∷ four 37 3 2 1 ∷ four 29 4 3 1
    ∷ four 29 4 3 1 ∷ four 25 4 3 0 ∷ unsized 3 ∷ four 46 5 3 1 ∷ four 31 3 2 0 ∷ four 33 3 2 0 ∷ four 52 7 5 0 ∷ unsized 1
    ∷ unsized 1 ∷ unsized 1 ∷ unsized 1 ∷ four 86 9 4 1 ∷ four 107 12 4 0 ∷ four 76 7 3 1 ∷ four 37 3 2 1 ∷ four 43 4 3 0
    ∷ unsized 3 ∷ four 67 8 6 0 ∷ four 36 3 2 1 ∷ four 81 7 3 2 ∷ unsized 5 ∷ unsized 4 ∷ unsized 11 ∷ unsized 3
    ∷ unsized 3 ∷ unsized 10 ∷ unsized 3 ∷ []
unfolding tree_sizes query_sizes behind_first read_any_tree read_text within noted headed notes mem inside one end too_many kept rest times expressions orders aggregates pattern_after expression_after lines_of lines_in split onto same spelled number_of digits_of fits is_kind clean is_var is_iri is_literal is_blank is_dash is_flag is_tag is_region is_datatype is_form all_fit text_of ended depth as_project
cases-sized = ap (sizes_at cases) worked

-- an order of seven levels beside a projection of two, all under one: negate puts four lines in, and the depth stays
deep-order : query_sizes (negate_outcome (bytes "query\tselect\t-\t-\norderby\t1\nproject\nbgp\t0\nasc\nnot\nnot\nnot\nnot\nnot\nnot\nterm\t?a\n")) ≡ four 101 16 8 0
unfolding negate_outcome read_given_query query_sizes behind_first read_any_tree read_text within noted headed notes mem inside one end too_many kept rest times expressions orders aggregates pattern_after expression_after lines_of lines_in split onto same spelled number_of digits_of fits is_kind clean is_var is_iri is_literal is_blank is_dash is_flag is_tag is_region is_datatype is_form all_fit layout_query put_query put put_triples put_rows put_arity decimal digits text_of ended depth as_project
deep-order = refl
