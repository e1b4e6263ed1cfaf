-- docs/SPECIFICATION.md, "report": worked inputs and their outcomes, as one table. Assumes nothing.
use Rattle.std.specs.Prelude.{List, [], ◌∷◌, ℕ}
use Prim.Native.String.{String}
use Rattle.text.specs.Word.{bytes}
use Rattle.answers.specs.Outcome.{Outcome, refused, written}

pub record Case : Type 0 where
  pub input : String
  pub gives : Outcome

abbrev pub gives : String → String → Case
gives i s = record { input = i; gives = written (bytes s) }

abbrev pub refuses : String → ℕ → Case
refuses i n = record { input = i; gives = refused n }

abbrev pub cases : List Case
cases =
    -- events, bays of relays, stations of bays: the second step's left positions speak of the columns ?l0 ?j0 ?r1
    gives "query\tselect\t-\t-\nproject\t?event\t?relay\nbgp\t1\nt\t?event\t<by>\t?relay\n--\nquery\tselect\t-\t-\nproject\t?r\t?bay\nbgp\t1\nt\t?r\t<in>\t?bay\n--\n1\t0\n--\n--\n--\nquery\tselect\t-\t-\nproject\t?b\t?station\nbgp\t1\nt\t?b\t<at>\t?station\n--\n2\t0\n--\n--\n1\t<s>\n"
    "query\tselect\t-\t-\nproject\t?l0\t?l1\t?j0\njoin\njoin\nbgp\t1\nt\t?l0\t<by>\t?l1\nbgp\t1\nt\t?l1\t<in>\t?j0\njoin\nbgp\t1\nt\t?j0\t<at>\t?r1\nvalues\t1\t1\ncols\t?r1\nrow\t<s>\n"
    -- one step is a merge of two queries
    ∷ gives "query\task\t-\t-\nproject\t?a\nbgp\t0\n--\nquery\task\t-\t-\nproject\t?b\nbgp\t0\n--\n0\t0\n--\n--\n" "query\task\t-\t-\nproject\t?j0\njoin\nbgp\t0\nbgp\t0\n"
    -- one query alone is pushed to
    ∷ gives "query\tselect\t-\t-\nproject\t?a\t?b\nbgp\t0\n--\n0\t<k>\n" "query\tselect\t-\t-\nproject\t?v1\njoin\nbgp\t0\nvalues\t1\t1\ncols\t?v0\nrow\t<k>\n"
    -- an empty file is a step like any other
    ∷ gives "query\tselect\t-\t-\nproject\t?a\nbgp\t0\n--\nquery\tselect\t-\t-\n--\n--\n--\n" "query\tselect\t-\t-\nproject\t?l0\njoin\nbgp\t0\nbgp\t0\n"
    -- no text, a query and nothing else, three texts, six
    ∷ refuses "" 1
    ∷ refuses "query\tselect\t-\t-\nproject\t?a\nbgp\t0\n" 1
    ∷ refuses "--\n--\n" 1
    ∷ refuses "--\n--\n--\n--\n--\n" 1
    -- a thirtieth text, before the texts are looked at; twenty-nine are looked at, and the first is no query
    ∷ refuses "--\n--\n--\n--\n--\n--\n--\n--\n--\n--\n--\n--\n--\n--\n--\n--\n--\n--\n--\n--\n--\n--\n--\n--\n--\n--\n--\n--\n--\n" 2
    ∷ refuses "--\n--\n--\n--\n--\n--\n--\n--\n--\n--\n--\n--\n--\n--\n--\n--\n--\n--\n--\n--\n--\n--\n--\n--\n--\n--\n--\n--\n" 1
    -- a later text's own check comes before an earlier step's 5
    ∷ refuses "query\tselect\t-\t-\n--\nquery\task\t-\t-\n--\n--\n--\n--\nquery\tselect\t-\t-\n--\n0\n--\n--\n" 1
    -- the first refusal stops the report: 5 of the first step before 3 of the second
    ∷ refuses "query\tselect\t-\t-\n--\nquery\task\t-\t-\n--\n--\n--\n--\nquery\tselect\t-\t-\n--\n7\t0\n--\n--\n" 5
    ∷ refuses "query\tselect\t-\t-\n--\nquery\tselect\t-\t-\nproject\t?a\nbgp\t0\n--\n--\n--\n--\nquery\tselect\t-\t-\nproject\t?b\nbgp\t0\n--\n1\t0\n--\n--\n" 3
    ∷ refuses "query\tselect\t-\t-\n--\nquery\tselect\t-\t-\nproject\t?a\nbgp\t0\n--\n--\n--\n--\nquery\tselect\t-\t-\nproject\t?b\t?c\nbgp\t0\n--\n0\t0\n0\t1\n--\n--\n" 10
    ∷ []
