-- The call evaluate on closed texts, computed: relays and breakers, the operators, the sorting, each refusal. Assumes nothing.
use mathlib.Core.Path.{◌≡◌, refl}
use Prim.Native.Nat.{ℕ}
use Prim.Native.String.{String}
use Rattle.text.specs.Text.{same, ended, text_of, onto, split, lines_in, lines_of}
use Rattle.text.specs.Word.{bytes, spelled}
use Rattle.text.specs.Field.{digits_of, number_of, digits, decimal, clean, is_var, is_iri, is_literal, is_blank, is_dash, is_flag, is_tag, is_region, is_datatype, is_form, is_kind, fits, all_fit}
use Rattle.algebra.specs.Valid.{mem}
use Rattle.algebra.specs.Tally.{notes, noted, headed, paired, within}
use Rattle.algebra.specs.Reader.{one, kept, rest, times, end, too_many, several, read_text}
use Rattle.algebra.specs.Reading.{expressions, orders, aggregates, pattern_after, expression_after, inside}
use Rattle.algebra.specs.Given.{read_given_tree}
use Rattle.answers.specs.Outcome.{Outcome, refused, written}
use Rattle.scoping.specs.Sets.{variables_of, triple_variables}
use Rattle.scoping.specs.Variables.{variables_in_pattern}
use Rattle.evaluating.specs.Triples.{read_triples}
use Rattle.evaluating.specs.Evaluate.{table_space, evaluate_outcome}

-- what it takes to compute the call unfolds with it
unfoldable by : ℕ → String → String → Outcome
unfolding evaluate_outcome read_given_tree read_triples read_text within noted headed paired notes mem inside several one end too_many kept rest times expressions orders aggregates pattern_after expression_after lines_of lines_in split onto same spelled number_of digits_of fits is_kind clean is_var is_iri is_literal is_blank is_dash is_flag is_tag is_region is_datatype is_form all_fit decimal digits text_of ended variables_of triple_variables variables_in_pattern
by space tree triples = evaluate_outcome space (bytes tree) (bytes triples)

abbrev told : String → Outcome
told s = written (bytes s)

-- ---- relays and breakers

abbrev bay : String
bay = "<e>\t<by>\t<1>\n<f>\t<by>\t<1>\n<g>\t<by>\t<1>\n<h>\t<by>\t<2>\n<a>\t<on>\t<1>\n<a>\t<aux>\t<1>\n<b>\t<on>\t<1>\n<c>\t<on>\t<2>\n"

-- the relay of each event, with the counts of docs/THEOREMS.md, "Counting"
relays : by table_space "project\t?relay\nbgp\t1\nt\t?event\t<by>\t?relay\n" bay ≡ told "cols\t?relay\nrow\t<1>\t3\nrow\t<2>\t1\n"
unfolding by
relays = refl

-- relay and breaker of each coil
breakers : by table_space "project\t?r\t?breaker\nunion\nbgp\t1\nt\t?breaker\t<on>\t?r\nbgp\t1\nt\t?breaker\t<aux>\t?r\n" bay ≡ told "cols\t?r\t?breaker\nrow\t<1>\t<a>\t2\nrow\t<1>\t<b>\t1\nrow\t<2>\t<c>\t1\n"
unfolding by
breakers = refl

-- what their merge writes: three events times two coils, times one, and one event times one coil
merged : by table_space "project\t?j0\t?r1\njoin\nbgp\t1\nt\t?l2\t<by>\t?j0\nunion\nbgp\t1\nt\t?r1\t<on>\t?j0\nbgp\t1\nt\t?r1\t<aux>\t?j0\n" bay ≡ told "cols\t?j0\t?r1\nrow\t<1>\t<a>\t6\nrow\t<1>\t<b>\t3\nrow\t<2>\t<c>\t1\n"
unfolding by
merged = refl

-- ---- the operators

-- a left row without a pair stays, its cell unbound; `-` comes between literals and IRIs
optional : by table_space "project\t?n\t?m\nleftjoin\t0\nbgp\t1\nt\t?x\t<name>\t?n\nbgp\t1\nt\t?x\t<mbox>\t?m\n" "<a>\t<name>\t\"A\"\n<a>\t<mbox>\t<m>\n<b>\t<name>\t\"B\"\n<b>\t<knows>\t<a>\n" ≡ told "cols\t?n\t?m\nrow\t\"A\"\t<m>\t1\nrow\t\"B\"\t-\t1\n"
unfolding by
optional = refl

-- a leftjoin whose expression no pair passes
optional-if : by table_space "project\t?n\t?m\nleftjoin\t1\nbgp\t1\nt\t?x\t<name>\t?n\nbgp\t1\nt\t?x\t<mbox>\t?m\nsame\nterm\t?n\nterm\t\"B\"\n" "<a>\t<name>\t\"A\"\n<a>\t<mbox>\t<m>\n<b>\t<name>\t\"B\"\n<b>\t<knows>\t<a>\n" ≡ told "cols\t?n\t?m\nrow\t\"A\"\t-\t1\nrow\t\"B\"\t-\t1\n"
unfolding by
optional-if = refl

-- minus: a right row agrees and shares a variable
less : by table_space "project\t?n\nminus\nbgp\t1\nt\t?x\t<name>\t?n\nbgp\t1\nt\t?x\t<mbox>\t?m\n" "<a>\t<name>\t\"A\"\n<a>\t<mbox>\t<m>\n<b>\t<name>\t\"B\"\n<b>\t<knows>\t<a>\n" ≡ told "cols\t?n\nrow\t\"B\"\t1\n"
unfolding by
less = refl

-- minus with nothing shared takes no row away
less-unshared : by table_space "project\t?n\nminus\nbgp\t1\nt\t?x\t<name>\t?n\nbgp\t1\nt\t?y\t<mbox>\t?m\n" "<a>\t<name>\t\"A\"\n<a>\t<mbox>\t<m>\n<b>\t<name>\t\"B\"\n<b>\t<knows>\t<a>\n" ≡ told "cols\t?n\nrow\t\"A\"\t1\nrow\t\"B\"\t1\n"
unfolding by
less-unshared = refl

-- an error is not true, and `not` keeps it
filtered : by table_space "project\t?n\nfilter\nleftjoin\t0\nbgp\t1\nt\t?x\t<name>\t?n\nbgp\t1\nt\t?x\t<mbox>\t?m\nnot\nsame\nterm\t?m\nterm\t<k>\n" "<a>\t<name>\t\"A\"\n<a>\t<mbox>\t<m>\n<b>\t<name>\t\"B\"\n<b>\t<knows>\t<a>\n" ≡ told "cols\t?n\nrow\t\"A\"\t1\n"
unfolding by
filtered = refl

-- an extend by an unbound variable leaves the row as it is
extended : by table_space "project\t?n\t?k\nextend\t?k\nleftjoin\t0\nbgp\t1\nt\t?x\t<name>\t?n\nbgp\t1\nt\t?x\t<mbox>\t?m\nterm\t?m\n" "<a>\t<name>\t\"A\"\n<a>\t<mbox>\t<m>\n<b>\t<name>\t\"B\"\n<b>\t<knows>\t<a>\n" ≡ told "cols\t?n\t?k\nrow\t\"A\"\t<m>\t1\nrow\t\"B\"\t-\t1\n"
unfolding by
extended = refl

-- a bgp of two lines
two-lines : by table_space "project\t?n\t?m\nbgp\t3\nt\t?x\t<knows>\t?y\nt\t?y\t<name>\t?m\nt\t?x\t<name>\t?n\n" "<a>\t<name>\t\"A\"\n<a>\t<mbox>\t<m>\n<b>\t<name>\t\"B\"\n<b>\t<knows>\t<a>\n" ≡ told "cols\t?n\t?m\nrow\t\"B\"\t\"A\"\t1\n"
unfolding by
two-lines = refl

-- values that repeats a column: a line with two terms for it is none, one term twice or once is a row
repeated : by table_space "project\t?x\nvalues\t2\t5\ncols\t?x\t?x\nrow\t<1>\t<2>\nrow\t<1>\t<1>\nrow\t-\t<2>\nrow\t<2>\t-\nrow\t-\t-\n" "" ≡ told "cols\t?x\nrow\t-\t1\nrow\t<1>\t1\nrow\t<2>\t2\n"
unfolding by
repeated = refl

-- distinct: each row there, once
once : by table_space "project\t?x\ndistinct\nvalues\t1\t3\ncols\t?x\nrow\t<1>\nrow\t<1>\nrow\t<2>\n" "" ≡ told "cols\t?x\nrow\t<1>\t1\nrow\t<2>\t1\n"
unfolding by
once = refl

-- a bgp of no line has one row, and a project of no column shows it as its count
empty : by table_space "project\nbgp\t0\n" "" ≡ told "cols\nrow\t1\n"
unfolding by
empty = refl

-- no row at all
none : by table_space "project\t?x\nbgp\t1\nt\t?x\t<p>\t<q>\n" "" ≡ told "cols\t?x\n"
unfolding by
none = refl

-- ---- the order, the columns

-- by the printed bytes: a literal, `-`, an IRI; what begins another one first
in_order : by table_space "project\t?x\nvalues\t1\t5\ncols\t?x\nrow\t<b>\nrow\t\"ab\nrow\t<ab>\nrow\t-\nrow\t\"a\n" "" ≡ told "cols\t?x\nrow\t\"a\t1\nrow\t\"ab\t1\nrow\t-\t1\nrow\t<ab>\t1\nrow\t<b>\t1\n"
unfolding by
in_order = refl

-- the first cell that differs decides
cell-by-cell : by table_space "project\t?x\t?y\nvalues\t2\t3\ncols\t?x\t?y\nrow\t<b>\t<a>\nrow\t<a>\t<c>\nrow\t<a>\t<b>\n" "" ≡ told "cols\t?x\t?y\nrow\t<a>\t<b>\t1\nrow\t<a>\t<c>\t1\nrow\t<b>\t<a>\t1\n"
unfolding by
cell-by-cell = refl

-- a column that stands twice in the project, and one that no row binds
columns-twice : by table_space "project\t?y\t?x\t?y\nvalues\t1\t1\ncols\t?y\nrow\t<a>\n" "" ≡ told "cols\t?y\t?x\t?y\nrow\t<a>\t-\t<a>\t1\n"
unfolding by
columns-twice = refl

-- ---- the numbers

-- the tree before the triples
malformed-first : by table_space "project\t?x\n" "_:a\t<p>\t<q>\n" ≡ refused 1
unfolding by
malformed-first = refl

-- triples are IRIs and literals
blank : by table_space "project\t?x\nbgp\t1\nt\t?x\t<p>\t?y\n" "_:a\t<p>\t<q>\n" ≡ refused 1
unfolding by
blank = refl

-- a line of three fields
short : by table_space "project\t?x\nbgp\t1\nt\t?x\t<p>\t?y\n" "<a>\t<p>\n" ≡ refused 1
unfolding by
short = refl

-- no triple twice
twice : by table_space "project\t?x\nbgp\t1\nt\t?x\t<p>\t?y\n" "<a>\t<p>\t<b>\n<b>\t<p>\t<b>\n<a>\t<p>\t<b>\n" ≡ refused 1
unfolding by
twice = refl

-- a kind outside the counting part
kind-outside : by table_space "project\t?x\nreduced\nbgp\t1\nt\t?x\t<p>\t?y\n" "" ≡ refused 16
unfolding by
kind-outside = refl

-- a root that is no project, even where it is distinct over one
root : by table_space "distinct\nproject\t?x\nbgp\t1\nt\t?x\t<p>\t?y\n" "" ≡ refused 16
unfolding by
root = refl

-- a blank node in the tree
blank-outside : by table_space "project\t?x\nbgp\t1\nt\t?x\t<p>\t_:b\n" "" ≡ refused 16
unfolding by
blank-outside = refl

-- an extend of a variable in scope beneath it
set-again : by table_space "project\t?x\nextend\t?y\nbgp\t1\nt\t?x\t<p>\t?y\nterm\t<a>\n" "" ≡ refused 16
unfolding by
set-again = refl

-- a variable that only an expression names
unknown : by table_space "project\t?x\nfilter\nbgp\t1\nt\t?x\t<p>\t?y\nbound\t?z\n" "" ≡ refused 16
unfolding by
unknown = refl

-- less space than docs/SPECIFICATION.md says, and one entry less
little-space : by 6644735 "project\t?x\nbgp\t0\n" "" ≡ refused 17
unfolding by
little-space = refl

-- 16 comes before it
sixteen-first : by 0 "distinct\nbgp\t0\n" "" ≡ refused 16
unfolding by
sixteen-first = refl

-- an empty tree file is a project of no columns over the row that binds nothing; no triples at all are a list of none
empty-files : by table_space "" "" ≡ told "cols\nrow\t1\n"
unfolding by
empty-files = refl
