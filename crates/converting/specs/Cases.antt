-- Worked cases of the call namespaces: a table of calls and their outcomes. Assumes nothing.
use Rattle.std.specs.Prelude.{List, [], ◌∷◌, ◌++◌, ℕ, zero, suc, ◌+◌, ◌/◌, ◌%◌}
use Prim.Native.String.{String}
use Rattle.text.specs.Text.{Bytes}
use Rattle.text.specs.Word.{bytes}
use Rattle.answers.specs.Outcome.{Outcome, refused, written}
use Rattle.converting.specs.Namespaces.{namespaces_outcome}

-- a tree, a table, and what comes of them
pub record Case : Type 0 where
  pub tree : String
  pub table : String
  pub gives : Outcome

unfoldable pub outcome_of : Case → Outcome
unfolding namespaces_outcome
outcome_of c = namespaces_outcome (bytes c.tree) (bytes c.table)

abbrev pub gives : String → String → String → Case
gives t s o = record { tree = t; table = s; gives = written (bytes o) }

abbrev pub refuses : String → String → ℕ → Case
refuses t s n = record { tree = t; table = s; gives = refused n }

abbrev pub cases : List Case
cases =
    -- subject, predicate and object; a datatype and what is in a literal stay
    gives "bgp\t2\nt\t<a:x>\t<a:p>\t<b:y>\nt\t?s\t<b:q>\t\"<a:x>\"^^<a:t>\n" "a:\tc:\nb:\td/\n" "bgp\t2\nt\t<c:x>\t<c:p>\t<d/y>\nt\t?s\t<d/q>\t\"<a:x>\"^^<a:t>\n"
    -- an empty file has no IRI to cover
    ∷ gives "" "a:\tc:\n" "project\nbgp\t0\n"
    -- graph and service names, cells, a term in an expression
    ∷ gives "graph\t<a:g>\nservice\t<a:s>\t0\nfilter\nvalues\t1\t3\ncols\t?x\nrow\t<a:1>\nrow\t-\nrow\t\"l\"\neq\nterm\t?x\nterm\t<a:1>\n" "a:\tb:\n" "graph\t<b:g>\nservice\t<b:s>\t0\nfilter\nvalues\t1\t3\ncols\t?x\nrow\t<b:1>\nrow\t-\nrow\t\"l\"\neq\nterm\t?x\nterm\t<b:1>\n"
    -- path texts, call and aggregate names stay, and need no line
    ∷ gives "group\t0\t1\ncols\npath\t<a:s>\t<z:p>\t<a:o>\nagg\t?n\t<z:f>\t0\ncall\t<z:c>\t1\nterm\t<a:k>\n" "a:\tb:\n" "group\t0\t1\ncols\npath\t<b:s>\t<z:p>\t<b:o>\nagg\t?n\t<z:f>\t0\ncall\t<z:c>\t1\nterm\t<b:k>\n"
    -- the whole of an IRI, and one with a > inside; an old start is replaced once
    ∷ gives "bgp\t1\nt\t<a>\t<aa>b>\t?o\n" "a\taa\n" "bgp\t1\nt\t<aa>\t<aaa>b>\t?o\n"
    -- two IRIs become equal
    ∷ gives "bgp\t1\nt\t<a1>\t<b1>\t?o\n" "a\tc\nb\tc\n" "bgp\t1\nt\t<c1>\t<c1>\t?o\n"
    -- no IRI needs no line; an unused line is no fault
    ∷ gives "project\t?a\nbgp\t0\n" "" "project\t?a\nbgp\t0\n"
    ∷ gives "project\t?a\nbgp\t0\n" "x\ty\n" "project\t?a\nbgp\t0\n"
    -- 15: no line covers an IRI
    ∷ refuses "bgp\t1\nt\t<a>\t<b>\t?o\n" "a\tc\n" 15
    ∷ refuses "bgp\t1\nt\t<>\t?p\t?o\n" "a\tc\n" 15
    ∷ refuses "bgp\t1\nt\t<a>\t?p\t?o\n" "a>\tc\n" 1
    -- 14: unsorted, equal, one the beginning of the next, or of one further down; before 15
    ∷ refuses "bgp\t1\nt\t<z>\t?p\t?o\n" "b\tx\na\ty\n" 14
    ∷ refuses "bgp\t0\n" "a\tx\na\ty\n" 14
    ∷ refuses "bgp\t0\n" "a\tx\nab\ty\n" 14
    ∷ refuses "bgp\t0\n" "ab\tx\nabc\ty\nabd\tz\n" 14
    -- 1: an empty start, a third field, no second one; the tree before the table, the table before 14
    ∷ refuses "bgp\t0\n" "\tx\n" 1
    ∷ refuses "bgp\t0\n" "a\t\n" 1
    ∷ refuses "bgp\t0\n" "a\tb\tc\n" 1
    ∷ refuses "bgp\t0\n" "a\n" 1
    ∷ refuses "bgp\t0\n" "a\tb>\n" 1
    ∷ refuses "bgp\t1\n" "b\tx\na\ty\n" 1
    ∷ refuses "bgp\t0\n" "b\tx\na\ty\nc\n" 1
    ∷ []

-- ---- the bounds of a table

-- so many lines, one after the other, each with a start of its own: a letter and two digits
abbrev pub digit : ℕ → ℕ
digit n = n % 10 + 48

unfoldable pub many_lines : ℕ → Bytes
many_lines zero = []
many_lines (suc n) = many_lines n ++ (97 ∷ digit (n / 10) ∷ digit n ∷ 9 ∷ 98 ∷ 10 ∷ [])

-- a start of so many bytes
unfoldable pub long_start : ℕ → Bytes
long_start zero = []
long_start (suc n) = 97 ∷ long_start n

-- 64 lines are taken, one more is 2; 128 bytes are taken, one more is 1, and 1 before 2 on a line
pub record Bound : Type 0 where
  pub table : Bytes
  pub gives : Outcome

abbrev pub bound_cases : List Bound
bound_cases =
    record { table = many_lines 64; gives = written (bytes "bgp\t0\n") }
    ∷ record { table = many_lines 65; gives = refused 2 }
    ∷ record { table = many_lines 64 ++ bytes "b\n"; gives = refused 1 }
    ∷ record { table = long_start 128 ++ (9 ∷ long_start 128 ++ (10 ∷ [])); gives = written (bytes "bgp\t0\n") }
    ∷ record { table = long_start 129 ++ (9 ∷ 98 ∷ 10 ∷ []); gives = refused 1 }
    ∷ record { table = 98 ∷ 9 ∷ long_start 129 ++ (10 ∷ []); gives = refused 1 }
    ∷ []

unfoldable pub bound_outcome : Bound → Outcome
unfolding namespaces_outcome
bound_outcome c = namespaces_outcome (bytes "bgp\t0\n") c.table
