-- The bounds of the call evaluate on closed texts, computed by tables: 1,024 rows, counts to 4294967295, 256 triples. Assumes nothing.
use mathlib.Core.Path.{◌≡◌, refl, ◌∙◌}
use mathlib.Core.List.{List, [], ◌∷◌, ◌++◌}
use Prim.Native.Nat.{ℕ, zero, suc}
use Rattle.text.specs.Text.{Bytes, same, ended, text_of, onto, split, lines_in, lines_of}
use Rattle.text.specs.Word.{bytes, spelled}
use Rattle.text.specs.Field.{digits_of, number_of, digits, decimal, clean, is_var, is_iri, is_literal, is_blank, is_dash, is_flag, is_tag, is_region, is_datatype, is_form, is_kind, fits, all_fit}
use Rattle.algebra.specs.Tree.{Triple, Pattern, join, values, project}
use Rattle.algebra.specs.Valid.{mem}
use Rattle.algebra.specs.Tally.{notes, noted, headed, paired, within}
use Rattle.algebra.specs.Reader.{Outcome as Reading, number-of, one, kept, rest, times, end, too_many, several, read_text}
use Rattle.algebra.specs.Reading.{expressions, orders, aggregates, pattern_after, expression_after, inside}
use Rattle.algebra.specs.Given.{read_given_tree}
use Rattle.answers.specs.Outcome.{refused, written}
use Rattle.evaluating.specs.Triples.{read_triples}
use Rattle.evaluating.specs.Evaluate.{table_space, evaluate_outcome}
use Rattle.evaluating.specs.bridge.Numbers.{constants, by_place}
use Rattle.evaluating.specs.bridge.Text.{table_outcome}
use Rattle.evaluating.proofs.Theorem.{evaluate-by-place}

-- what it takes to read unfolds with it
unfoldable said : Bytes → Reading Pattern
unfolding read_given_tree read_text within noted headed paired notes mem inside several one end too_many kept rest times expressions orders aggregates pattern_after expression_after lines_of lines_in split onto same spelled number_of digits_of fits is_kind clean is_var is_iri is_literal is_blank is_dash is_flag is_tag is_region is_datatype is_form all_fit decimal digits text_of ended
said s = read_given_tree s

unfoldable listed : Bytes → Reading (List Triple)
unfolding read_triples read_text within paired mem several one end too_many kept lines_of lines_in split onto same fits is_kind clean is_var is_iri is_literal
listed s = read_triples s

-- the same n times, and texts made so
abbrev copies : ℕ → Bytes → Bytes
copies zero b = []
copies (suc n) b = b ++ copies n b

abbrev repeat : {A : Type 0} → ℕ → A → List A
repeat zero a = []
repeat (suc n) a = a ∷ repeat n a

-- ---- counts: sixteen times the same row, joined with itself

abbrev sixteen : Bytes
sixteen = bytes "values\t1\t16\ncols\t?x\n" ++ copies 16 (bytes "row\t<a>\n")

abbrev sixteenfold : Pattern
sixteenfold = values (bytes "?x" ∷ []) (repeat 16 (bytes "<a>" ∷ []))

-- with so many others
abbrev joined_text : ℕ → Bytes
joined_text zero = sixteen
joined_text (suc n) = bytes "join\n" ++ (sixteen ++ joined_text n)

abbrev joined_tree : ℕ → Pattern
joined_tree zero = sixteenfold
joined_tree (suc n) = join sixteenfold (joined_tree n)

abbrev under : ℕ → Bytes
under n = bytes "project\t?x\n" ++ joined_text n

-- seven of them: 16 to the seventh
seventh : evaluate_outcome table_space (under 6) [] ≡ written (bytes "cols\t?x\nrow\t<a>\t268435456\n")
unfolding said listed table_outcome by_place constants
seventh = evaluate-by-place table_space (under 6) [] (project (bytes "?x" ∷ []) (joined_tree 6)) [] refl refl ∙ refl

-- eight of them: 4294967296, one more than a count may be
eighth : evaluate_outcome table_space (under 7) [] ≡ refused 17
unfolding said listed table_outcome by_place constants
eighth = evaluate-by-place table_space (under 7) [] (project (bytes "?x" ∷ []) (joined_tree 7)) [] refl refl ∙ refl

-- ---- rows: two columns of different rows, one with each of the other

-- a literal of n more bytes
abbrev literal : ℕ → Bytes
literal n = 34 ∷ repeat n 120

abbrev rows_text : ℕ → Bytes
rows_text zero = []
rows_text (suc n) = bytes "row\t" ++ (literal n ++ (10 ∷ rows_text n))

abbrev rows_of : ℕ → List (List Bytes)
rows_of zero = []
rows_of (suc n) = (literal n ∷ []) ∷ rows_of n

abbrev column : Bytes → Bytes → ℕ → Bytes
column name size n = bytes "values\t1\t" ++ (size ++ (bytes "\ncols\t" ++ (name ++ (10 ∷ rows_text n))))

-- 25 times 41 are one more than 1,024
over : evaluate_outcome table_space (bytes "project\njoin\n" ++ (column (bytes "?x") (bytes "25") 25 ++ column (bytes "?y") (bytes "41") 41)) [] ≡ refused 17
unfolding said listed table_outcome by_place constants
over = evaluate-by-place table_space _ [] (project [] (join (values (bytes "?x" ∷ []) (rows_of 25)) (values (bytes "?y" ∷ []) (rows_of 41)))) [] refl refl ∙ refl

-- ---- triples

-- a subject with so many objects, and so many subjects with sixteen each
abbrev objects : ℕ → ℕ → Bytes
objects s zero = []
objects s (suc n) = literal s ++ (bytes "\t<p>\t" ++ (literal n ++ (10 ∷ objects s n)))

abbrev subjects : ℕ → Bytes
subjects zero = []
subjects (suc n) = objects n 16 ++ subjects n

triples-256 : number-of (read_triples (subjects 16)) ≡ 0
unfolding listed
triples-256 = refl

triples-257 : number-of (read_triples (subjects 16 ++ objects 16 1)) ≡ 2
unfolding listed
triples-257 = refl

-- one that stands there already is 1, also in the 257th line
repeated-257 : number-of (read_triples (subjects 16 ++ objects 0 1)) ≡ 1
unfolding listed
repeated-257 = refl
