-- Worked examples of SPARQL 1.1, sections 5 to 8, 10, 15 and 17, that stay in the counting part, computed; and four rules of docs/SPECIFICATION.md, "Counting part". Assumes nothing.
-- Written from knowledge of the standard, with shortened IRIs and literals.
use mathlib.Core.Path.{◌≡◌, refl}
use mathlib.Core.Bool.{true}
use mathlib.Core.List.{List, [], ◌∷◌, map}
use Prim.Native.String.{String}
use Rattle.text.specs.Text.{Bytes}
use Rattle.text.specs.Word.{bytes}
use Rattle.algebra.specs.Tree.{Triple, Pattern, bgp, join, union, minus, leftjoin, filter, values, project, distinct}
use Rattle.algebra.specs.Tree.{Expression, term, bound, apply, AND, NOT, SAME, always, provided, eend, econs}
use Rattle.counting.specs.Row.{Cell, cell}
use Rattle.counting.specs.Condition.{Truth, holds, fails, errs, and3, or3, not3}
use Rattle.counting.specs.Answer.{answer}
use Rattle.counting.specs.Countable.{is_countable}

-- ---- short forms

abbrev pub t : String → String → String → Triple
t s p o = record { subj = bytes s; pred = bytes p; obj = bytes o }

-- columns, or the cells of a `row` line
abbrev pub fields : List String → List Bytes
fields xs = map bytes xs

-- a row of an answer, "-" for unbound
abbrev pub row : List String → List Cell
row xs = map (λ x. cell (bytes x)) xs

abbrev pub one : String → String → String → Pattern
one s p o = bgp (t s p o ∷ [])

abbrev pub same_terms : String → String → Expression
same_terms a b = apply SAME (econs (term (bytes a)) (econs (term (bytes b)) eend))

abbrev pub no : Expression → Expression
no e = apply NOT (econs e eend)

abbrev pub both : Expression → Expression → Expression
both d e = apply AND (econs d (econs e eend))

-- the pattern belongs to the counting part, and has these rows under these columns
abbrev Gives : List Bytes → List Triple → Pattern → List (List Cell) → Type 0
Gives cs g p rows = (is_countable p ≡ true) × (answer cs g p ≡ rows)

-- ---- 5: groups

-- 5.2: { ?x name ?name } { ?x mbox ?mbox }
group-of-two : Gives (fields ("?n" ∷ "?m" ∷ [])) (t "_:a" "<name>" "\"J\"" ∷ t "_:a" "<mbox>" "<j>" ∷ t "_:b" "<name>" "\"P\"" ∷ t "_:b" "<mbox>" "<p>" ∷ t "_:c" "<mbox>" "<c>" ∷ []) (join (one "?x" "<name>" "?n") (one "?x" "<mbox>" "?m"))
    (row ("\"J\"" ∷ "<j>" ∷ []) ∷ row ("\"P\"" ∷ "<p>" ∷ []) ∷ [])
unfolding is_countable answer
group-of-two = (refl, refl)

-- 5.2.1: the empty group has one row, which binds nothing
empty_group : Gives (fields ("?x" ∷ [])) (t "<a>" "<b>" "<c>" ∷ []) (bgp [])
    (row ("-" ∷ []) ∷ [])
unfolding is_countable answer
empty_group = (refl, refl)

-- ---- 6: optional

-- 6.1: Alice has two mailboxes, Bob none
optional : Gives (fields ("?n" ∷ "?m" ∷ [])) (t "_:a" "<type>" "<P>" ∷ t "_:a" "<name>" "\"Alice\"" ∷ t "_:a" "<mbox>" "<m1>" ∷ t "_:a" "<mbox>" "<m2>" ∷ t "_:b" "<type>" "<P>" ∷ t "_:b" "<name>" "\"Bob\"" ∷ []) (leftjoin (one "?x" "<name>" "?n") (one "?x" "<mbox>" "?m") always)
    (row ("\"Alice\"" ∷ "<m1>" ∷ []) ∷ row ("\"Alice\"" ∷ "<m2>" ∷ []) ∷ row ("\"Bob\"" ∷ "-" ∷ []) ∷ [])
unfolding is_countable answer
optional = (refl, refl)

-- 6.3: two optional parts
two-optional : Gives (fields ("?n" ∷ "?m" ∷ "?h" ∷ [])) (t "_:a" "<name>" "\"Alice\"" ∷ t "_:a" "<page>" "<h>" ∷ t "_:b" "<name>" "\"Bob\"" ∷ t "_:b" "<mbox>" "<m>" ∷ []) (leftjoin (leftjoin (one "?x" "<name>" "?n") (one "?x" "<mbox>" "?m") always) (one "?x" "<page>" "?h") always)
    (row ("\"Alice\"" ∷ "-" ∷ "<h>" ∷ []) ∷ row ("\"Bob\"" ∷ "<m>" ∷ "-" ∷ []) ∷ [])
unfolding is_countable answer
two-optional = (refl, refl)

-- ---- 7: alternatives

abbrev titles : List Triple
titles = t "_:a" "<t0>" "\"A\"" ∷ t "_:a" "<c0>" "\"Alice\"" ∷ t "_:b" "<t1>" "\"B\"" ∷ t "_:b" "<c1>" "\"Bob\"" ∷ t "_:c" "<t0>" "\"C\"" ∷ t "_:c" "<t1>" "\"D\"" ∷ []

-- 7, first query
alternatives : Gives (fields ("?t" ∷ [])) titles (union (one "?b" "<t0>" "?t") (one "?b" "<t1>" "?t"))
    (row ("\"A\"" ∷ []) ∷ row ("\"C\"" ∷ []) ∷ row ("\"B\"" ∷ []) ∷ row ("\"D\"" ∷ []) ∷ [])
unfolding is_countable answer
alternatives = (refl, refl)

-- 7, second query: two variables, one unbound on each side
alternatives-apart : Gives (fields ("?x" ∷ "?y" ∷ [])) titles (union (one "?b" "<t0>" "?x") (one "?b" "<t1>" "?y"))
    (row ("\"A\"" ∷ "-" ∷ []) ∷ row ("\"C\"" ∷ "-" ∷ []) ∷ row ("-" ∷ "\"B\"" ∷ []) ∷ row ("-" ∷ "\"D\"" ∷ []) ∷ [])
unfolding is_countable answer
alternatives-apart = (refl, refl)

-- ---- 8: negation

-- 8.2: all but Bob, each once
all-but-bob : Gives (fields ("?s" ∷ [])) (t "<a>" "<given>" "\"A\"" ∷ t "<a>" "<fam>" "\"S\"" ∷ t "<b>" "<given>" "\"B\"" ∷ t "<b>" "<fam>" "\"J\"" ∷ t "<c>" "<given>" "\"C\"" ∷ t "<c>" "<fam>" "\"S\"" ∷ []) (distinct (project (fields ("?s" ∷ [])) (minus (one "?s" "?p" "?o") (one "?s" "<given>" "\"B\""))))
    (row ("<a>" ∷ []) ∷ row ("<c>" ∷ []) ∷ [])
unfolding is_countable answer
all-but-bob = (refl, refl)

abbrev abc : List Triple
abc = t "<a>" "<b>" "<c>" ∷ []

-- 8.3.1: no shared variable, nothing removed
minus-unshared : Gives (fields ("?s" ∷ "?p" ∷ "?o" ∷ [])) abc (minus (one "?s" "?p" "?o") (one "?x" "?y" "?z"))
    (row ("<a>" ∷ "<b>" ∷ "<c>" ∷ []) ∷ [])
unfolding is_countable answer
minus-unshared = (refl, refl)

-- 8.3.2: a fixed pattern binds nothing, nothing removed
minus-fixed : Gives (fields ("?s" ∷ "?p" ∷ "?o" ∷ [])) abc (minus (one "?s" "?p" "?o") (one "<a>" "<b>" "<c>"))
    (row ("<a>" ∷ "<b>" ∷ "<c>" ∷ []) ∷ [])
unfolding is_countable answer
minus-fixed = (refl, refl)

-- ---- 10.2: values

abbrev books : List Triple
books = t "<1>" "<title>" "\"T\"" ∷ t "<1>" "<price>" "\"42\"" ∷ t "<2>" "<title>" "\"W\"" ∷ t "<2>" "<price>" "\"23\"" ∷ []

abbrev priced : Pattern
priced = bgp (t "?b" "<title>" "?t" ∷ t "?b" "<price>" "?p" ∷ [])

-- 10.2.2, first query: book 1 and book 3, which is not there
listed : Gives (fields ("?b" ∷ "?t" ∷ "?p" ∷ [])) books (join (values (fields ("?b" ∷ [])) (fields ("<1>" ∷ []) ∷ fields ("<3>" ∷ []) ∷ [])) priced)
    (row ("<1>" ∷ "\"T\"" ∷ "\"42\"" ∷ []) ∷ [])
unfolding is_countable answer
listed = (refl, refl)

-- 10.2.2, second query: unbound cells agree with everything
undefined-cells : Gives (fields ("?b" ∷ "?t" ∷ "?p" ∷ [])) books (join priced (values (fields ("?b" ∷ "?t" ∷ [])) (fields ("-" ∷ "\"T\"" ∷ []) ∷ fields ("<2>" ∷ "-" ∷ []) ∷ [])))
    (row ("<1>" ∷ "\"T\"" ∷ "\"42\"" ∷ []) ∷ row ("<2>" ∷ "\"W\"" ∷ "\"23\"" ∷ []) ∷ [])
unfolding is_countable answer
undefined-cells = (refl, refl)

-- a line with two terms for one variable is none; one that gives it one term twice, or once, is a row
repeated-column : Gives (fields ("?x" ∷ [])) [] (values (fields ("?x" ∷ "?x" ∷ [])) (fields ("<1>" ∷ "<2>" ∷ []) ∷ fields ("<1>" ∷ "<1>" ∷ []) ∷ fields ("-" ∷ "<2>" ∷ []) ∷ fields ("-" ∷ "-" ∷ []) ∷ []))
    (row ("<1>" ∷ []) ∷ row ("<2>" ∷ []) ∷ row ("-" ∷ []) ∷ [])
unfolding is_countable answer
repeated-column = (refl, refl)

-- ---- 15.3: duplicates

abbrev alices : List Triple
alices = t "<x>" "<name>" "\"A\"" ∷ t "<x>" "<mbox>" "<1>" ∷ t "<y>" "<name>" "\"A\"" ∷ t "<y>" "<mbox>" "<2>" ∷ t "<z>" "<name>" "\"A\"" ∷ t "<z>" "<mbox>" "<3>" ∷ []

abbrev called : Pattern
called = project (fields ("?n" ∷ [])) (one "?x" "<name>" "?n")

duplicates : Gives (fields ("?n" ∷ [])) alices called
    (row ("\"A\"" ∷ []) ∷ row ("\"A\"" ∷ []) ∷ row ("\"A\"" ∷ []) ∷ [])
unfolding is_countable answer
duplicates = (refl, refl)

-- 15.3.1
no-duplicates : Gives (fields ("?n" ∷ [])) alices (distinct called)
    (row ("\"A\"" ∷ []) ∷ [])
unfolding is_countable answer
no-duplicates = (refl, refl)

-- ---- 17: expressions

-- 17.2: the table of or, the table of and, not
truths : List Truth
truths = holds ∷ fails ∷ errs ∷ []

table-of-or : map (λ a. map (or3 a) truths) truths ≡ (holds ∷ holds ∷ holds ∷ []) ∷ (holds ∷ fails ∷ errs ∷ []) ∷ (holds ∷ errs ∷ errs ∷ []) ∷ []
unfolding truths
table-of-or = refl

table-of-and : map (λ a. map (and3 a) truths) truths ≡ (holds ∷ fails ∷ errs ∷ []) ∷ (fails ∷ fails ∷ fails ∷ []) ∷ (errs ∷ fails ∷ errs ∷ []) ∷ []
unfolding truths
table-of-and = refl

table-of-not : map not3 truths ≡ fails ∷ holds ∷ errs ∷ []
unfolding truths
table-of-not = refl

-- 17.4.1.1: bound, and its negation
abbrev dated : Expression → Pattern
dated e = filter (leftjoin (one "?x" "<given>" "?n") (one "?x" "<date>" "?d") always) e

abbrev given : List Triple
given = t "<a>" "<given>" "\"A\"" ∷ t "<b>" "<given>" "\"B\"" ∷ t "<b>" "<date>" "\"D\"" ∷ []

with-date : Gives (fields ("?n" ∷ [])) given (dated (bound (bytes "?d")))
    (row ("\"B\"" ∷ []) ∷ [])
unfolding is_countable answer
with-date = (refl, refl)

without-date : Gives (fields ("?n" ∷ [])) given (dated (no (bound (bytes "?d"))))
    (row ("\"A\"" ∷ []) ∷ [])
unfolding is_countable answer
without-date = (refl, refl)

-- `same` on an unbound variable is an error and so is its `not`; neither makes a row
error-drops : Gives (fields ("?n" ∷ [])) given (filter (one "?x" "<given>" "?n") (same_terms "?z" "\"A\""))
    []
unfolding is_countable answer
error-drops = (refl, refl)

error-kept : Gives (fields ("?n" ∷ [])) given (filter (one "?x" "<given>" "?n") (no (same_terms "?z" "\"A\"")))
    []
unfolding is_countable answer
error-kept = (refl, refl)

-- an error in a leftjoin's expression is no pair, so the left row stays
error-in-leftjoin : Gives (fields ("?n" ∷ "?d" ∷ [])) given (leftjoin (one "<b>" "<given>" "?n") (one "<b>" "<date>" "?d") (provided (same_terms "?z" "?d")))
    (row ("\"B\"" ∷ "-" ∷ []) ∷ [])
unfolding is_countable answer
error-in-leftjoin = (refl, refl)

-- 17.4.1.8: two names at one mailbox
abbrev at-mailbox : String → String → String → Pattern
at-mailbox x n m = bgp (t x "<name>" n ∷ t x "<mbox>" m ∷ [])

two-names : Gives (fields ("?n" ∷ "?o" ∷ [])) (t "_:a" "<name>" "\"A\"" ∷ t "_:a" "<mbox>" "<m>" ∷ t "_:b" "<name>" "\"Ms A\"" ∷ t "_:b" "<mbox>" "<m>" ∷ []) (filter (join (at-mailbox "?x" "?n" "?m") (at-mailbox "?y" "?o" "?k")) (both (same_terms "?m" "?k") (no (same_terms "?n" "?o"))))
    (row ("\"A\"" ∷ "\"Ms A\"" ∷ []) ∷ row ("\"Ms A\"" ∷ "\"A\"" ∷ []) ∷ [])
unfolding is_countable answer
two-names = (refl, refl)
