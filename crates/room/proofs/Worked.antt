-- Closed instances: the rooms of the specification's merges beside what is written, answers beside their rooms, and one size of buffer for all texts. Assumes nothing.
use Prim.Native.Nat.{ℕ, ◌+◌}
use Prim.Native.String.{String}
use mathlib.Core.Path.{◌≡◌, refl, ap}
use mathlib.Core.List.{List, [], ◌∷◌, map}
use lib.ListN.{length}
use Rattle.text.specs.Text.{same, ended, text_of, onto, split, lines_in, lines_of}
use Rattle.text.specs.Word.{bytes, spelled}
use Rattle.text.specs.Field.{digits_of, number_of, digits, decimal, clean, is_var, is_iri, is_literal, is_blank, is_dash, is_flag, is_tag, is_region, is_datatype, is_form, is_kind, fits, all_fit}
use Rattle.algebra.specs.Layout.{put_triples, put_rows, put_arity, put, layout}
use Rattle.algebra.specs.Valid.{mem}
use Rattle.algebra.specs.Tally.{notes, noted, headed, within}
use Rattle.algebra.specs.Reader.{one, kept, rest, times, end, too_many, several, read_text}
use Rattle.algebra.specs.Reading.{expressions, orders, aggregates, pattern_after, expression_after, inside}
use Rattle.algebra.specs.ListReading.{parts, part_after, filter_in}
use Rattle.algebra.specs.Given.{read_given_tree}
use Rattle.algebra.specs.Texts.{read_filters}
use Rattle.answers.specs.Outcome.{Outcome, refused, written}
use Rattle.surveying.specs.Scope.{scope_outcome}
use Rattle.surveying.proofs.Given.{scope-empty}
use Rattle.merging.specs.Cases.{Call, merge_patterns, merge_queries, push_constants, negate, without, Case, cases, outcome_of}
use Rattle.merging.proofs.Worked.{worked}
use Rattle.filtering.specs.Filters.{filters_outcome}
use Rattle.converting.specs.Namespaces.{namespaces_outcome}
use Rattle.room.specs.Room.{scope_room, rename_room, merge_room, push_room, negate_room, without_room, bindings_room, filters_room, namespaces_room, longest}

-- the bytes that an outcome writes
abbrev length_of : Outcome → ℕ
length_of (refused k) = 0
length_of (written b) = length b

abbrev size : String → ℕ
size s = length (bytes s)

-- ---- the specification's merges, and more

abbrev room_of : Call → ℕ
room_of (merge_patterns a b c d e) = merge_room (size a) (size b) (size d) (size e)
room_of (merge_queries a b c d e) = merge_room (size a) (size b) (size d) (size e)
room_of (push_constants a b) = push_room (size a) (size b)
room_of (negate a) = negate_room (size a)
room_of (without a b c) = without_room (size a) (size b)

pub record Took : Type 0 where
  pub bytes : ℕ
  pub room : ℕ

abbrev took : ℕ → ℕ → Took
took n room = record { bytes = n; room = room }

abbrev measured : List Outcome → List Case → List Took
measured [] cs = []
measured (o ∷ os) [] = []
measured (o ∷ os) (c ∷ cs) = took (length_of o) (room_of c.call) ∷ measured os cs

-- what each call of merging's table writes, and its room: "that merge" first, then in the order of the table
pub merges-measured : measured (map (λ (c : Case). outcome_of c.call) cases) cases ≡ took 67 342 ∷ took 47 234 ∷ took 0 195 ∷ took 0 195 ∷ took 0 195 ∷ took 0 201 ∷ took 37 204 ∷ took 0 195 ∷ took 0 201 ∷ took 0 213 ∷ took 0 153 ∷ took 0 306 ∷ took 68 159 ∷ took 44 183 ∷ took 37 147 ∷ took 29 135 ∷ took 29 135 ∷ took 25 84 ∷ took 0 135 ∷ took 46 237 ∷ took 31 93 ∷ took 33 105 ∷ took 52 52 ∷ took 0 38 ∷ took 0 51 ∷ took 0 50 ∷ took 0 52 ∷ took 86 312 ∷ took 107 228 ∷ took 76 174 ∷ took 37 159 ∷ took 43 177 ∷ took 0 141 ∷ took 67 81 ∷ took 36 74 ∷ took 81 435 ∷ took 0 246 ∷ took 0 237 ∷ took 0 270 ∷ took 0 270 ∷ took 0 270 ∷ took 0 279 ∷ took 0 219 ∷ []
unfolding merge_room push_room negate_room without_room
merges-measured = ap (λ (os : List Outcome). measured os cases) worked

-- ---- as near as can be

-- an empty file takes no bytes, its answer 7
pub scope-reached : length_of (scope_outcome []) ≡ scope_room 0
unfolding scope_room
scope-reached = ap length_of scope-empty

-- a column of 129 bytes
abbrev wide : String
wide = "project\t?aaaaaaaaaaaaaaaaaaaaaaaaaaaaaaaaaaaaaaaaaaaaaaaaaaaaaaaaaaaaaaaaaaaaaaaaaaaaaaaaaaaaaaaaaaaaaaaaaaaaaaaaaaaaaaaaaaaaaaaaaaaaaaaa\nbgp\t0\n"

-- 16 bytes short of the room of `ref 0`
pub filters-near : length_of (filters_outcome (bytes wide) (bytes "ref\t0\n")) ≡ size wide + 142
unfolding filters_outcome read_given_tree read_filters read_text within noted headed notes mem inside several one end too_many kept rest times expressions orders aggregates pattern_after expression_after parts part_after filter_in lines_of lines_in split onto same spelled number_of digits_of fits is_kind clean is_var is_iri is_literal is_blank is_dash is_flag is_tag is_region is_datatype is_form all_fit layout put put_triples put_rows put_arity decimal digits text_of ended
filters-near = refl

-- the two lines of an empty file
pub namespaces-reached : length_of (namespaces_outcome [] []) ≡ namespaces_room 0
unfolding namespaces_outcome read_given_tree read_text within noted headed notes mem inside several one end too_many kept rest times expressions orders aggregates pattern_after expression_after parts part_after filter_in lines_of lines_in split onto same spelled number_of digits_of fits is_kind clean is_var is_iri is_literal is_blank is_dash is_flag is_tag is_region is_datatype is_form all_fit layout put put_triples put_rows put_arity decimal digits text_of ended namespaces_room
namespaces-reached = refl

-- three IRIs of 3 bytes, that get a start of 128 bytes each: 273 bytes short of the room
abbrev grows : String
grows = "a\tbbbbbbbbbbbbbbbbbbbbbbbbbbbbbbbbbbbbbbbbbbbbbbbbbbbbbbbbbbbbbbbbbbbbbbbbbbbbbbbbbbbbbbbbbbbbbbbbbbbbbbbbbbbbbbbbbbbbbbbbbbbbbbbb\n"

pub namespaces-near : length_of (namespaces_outcome (bytes "bgp\t1\nt\t<a>\t<a>\t<a>\n") (bytes grows)) + 273 ≡ namespaces_room (size "bgp\t1\nt\t<a>\t<a>\t<a>\n")
unfolding namespaces_outcome read_given_tree read_text within noted headed notes mem inside several one end too_many kept rest times expressions orders aggregates pattern_after expression_after parts part_after filter_in lines_of lines_in split onto same spelled number_of digits_of fits is_kind clean is_var is_iri is_literal is_blank is_dash is_flag is_tag is_region is_datatype is_form all_fit layout put put_triples put_rows put_arity decimal digits text_of ended namespaces_room
namespaces-near = refl

-- ---- room for all texts

pub longest-rooms :
    (scope_room longest ≡ 16391) × (rename_room longest ≡ 720910) × (merge_room longest longest longest longest ≡ 131156) × (push_room longest longest ≡ 65578)
    × (negate_room longest ≡ 16422) × (without_room longest longest ≡ 98388) × (bindings_room longest longest ≡ 1081358) × (filters_room longest longest ≡ 409614)
    × (namespaces_room longest ≡ 540686)
unfolding scope_room rename_room merge_room push_room negate_room without_room bindings_room filters_room namespaces_room
longest-rooms = (refl, refl, refl, refl, refl, refl, refl, refl, refl)
