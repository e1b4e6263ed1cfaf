-- Worked cases of the calls bindings and filters: a table of calls and their outcomes, and one of filters that were not placed. Assumes nothing.
use Rattle.std.specs.Prelude.{List, [], ◌∷◌, ℕ}
use Prim.Native.String.{String}
use Rattle.text.specs.Word.{bytes}
use Rattle.answers.specs.Outcome.{Outcome, refused, written}
use Rattle.filtering.specs.Bindings.{bindings_outcome}
use Rattle.filtering.specs.Filters.{filters_outcome}
use Rattle.filtering.specs.NotPlaced.{filters_not_placed}

-- a call with its texts
pub data Call : Type 0 where
  bindings filters : String → String → Call

unfoldable pub outcome_of : Call → Outcome
unfolding bindings_outcome filters_outcome
outcome_of (bindings a b) = bindings_outcome (bytes a) (bytes b)
outcome_of (filters a b) = filters_outcome (bytes a) (bytes b)

pub record Case : Type 0 where
  pub call : Call
  pub gives : Outcome

abbrev pub gives : Call → String → Case
gives c s = record { call = c; gives = written (bytes s) }

abbrev pub refuses : Call → ℕ → Case
refuses c n = record { call = c; gives = refused n }

abbrev pub cases : List Case
cases =
    -- each value domain: plain, tagged, an IRI
    gives (bindings "project\t?a\t?b\nbgp\t0\n" "set\t3\t1\nat\t0\t1\t0\nrow\tPlainString\ta b\t-\tLanguageTaggedString\tx\tde-at\tIri\tk\t-\n") "project\t?a\t?b\njoin\nbgp\t0\nvalues\t3\t1\ncols\t?a\t?b\t?a\nrow\t\"a b\"\t\"x\"@de-at\t<k>\n"
    -- the typed ones
    ∷ gives (bindings "project\t?a\t?b\nbgp\t0\n" "set\t1\t10\nat\t1\nrow\tFloat\t1\t<float>\nrow\tDouble\t1\t<double>\nrow\tUnsignedLong\t1\t<unsignedlong>\nrow\tNonNegativeLong\t1\t<nonnegativelong>\nrow\tUnsignedInt\t1\t<unsignedint>\nrow\tNonNegativeInt\t1\t<nonnegativeint>\nrow\tLong\t1\t<long>\nrow\tInt\t1\t<int>\nrow\tBoolean\t1\t<boolean>\nrow\tOther\t1\t<other>\n") "project\t?a\t?b\njoin\nbgp\t0\nvalues\t1\t10\ncols\t?b\nrow\t\"1\"^^<float>\nrow\t\"1\"^^<double>\nrow\t\"1\"^^<unsignedlong>\nrow\t\"1\"^^<nonnegativelong>\nrow\t\"1\"^^<unsignedint>\nrow\t\"1\"^^<nonnegativeint>\nrow\t\"1\"^^<long>\nrow\t\"1\"^^<int>\nrow\t\"1\"^^<boolean>\nrow\t\"1\"^^<other>\n"
    -- Null is an unbound cell whatever its lexical form, which may be empty
    ∷ gives (bindings "project\t?a\t?b\nbgp\t0\n" "set\t2\t2\nat\t1\t0\nrow\tNull\tn\t-\tNull\t\t-\nrow\tPlainString\t\t-\tIri\t\t-\n") "project\t?a\t?b\njoin\nbgp\t0\nvalues\t2\t2\ncols\t?b\t?a\nrow\t-\t-\nrow\t\"\"\t<>\n"
    -- two sets nest to the left; no positions and no rows
    ∷ gives (bindings "project\t?a\t?b\nbgp\t0\n" "set\t1\t0\nat\t1\nset\t0\t1\nat\nrow\n") "project\t?a\t?b\njoin\njoin\nbgp\t0\nvalues\t1\t0\ncols\t?b\nvalues\t0\t1\ncols\nrow\n"
    -- Tuple and Map are 7
    ∷ refuses (bindings "project\t?a\t?b\nbgp\t0\n" "set\t1\t1\nat\t0\nrow\tTuple\tt\t-\n") 7
    ∷ refuses (bindings "project\t?a\t?b\nbgp\t0\n" "set\t1\t1\nat\t0\nrow\tIri\tk\t-\nset\t1\t2\nat\t1\nrow\tIri\tk\t-\nrow\tMap\tm\t-\n") 7
    -- 3 before 7, also where the position stands behind the value
    ∷ refuses (bindings "project\t?a\t?b\nbgp\t0\n" "set\t1\t1\nat\t0\nrow\tTuple\tt\t-\nset\t1\t0\nat\t2\n") 3
    -- 1 and 2 before 3, and the tree before the sets
    ∷ refuses (bindings "project\t?a\t?b\nbgp\t1\n" "set\t1\t0\nat\t2\n") 1
    ∷ refuses (bindings "project\t?a\t?b\nbgp\t0\n" "set\t1\t0\nat\t2\nset\t1\n") 1
    -- below slice, distinct, orderby and group: the rest stays behind
    ∷ gives (bindings "slice\t0\t5\ndistinct\norderby\t1\ngroup\t1\t1\ncols\t?a\nreduced\nproject\t?a\nbgp\t0\naggall\t?n\t0\nasc\nterm\t?a\n" "set\t1\t1\nat\t0\nrow\tIri\tk\t-\n") "slice\t0\t5\ndistinct\norderby\t1\ngroup\t1\t1\ncols\t?a\nreduced\nproject\t?a\njoin\nbgp\t0\nvalues\t1\t1\ncols\t?a\nrow\t<k>\naggall\t?n\t0\nasc\nterm\t?a\n"
    -- only the outermost projection
    ∷ gives (bindings "project\t?a\nproject\t?b\t?c\nbgp\t0\n" "set\t1\t0\nat\t0\n") "project\t?a\njoin\nproject\t?b\t?c\nbgp\t0\nvalues\t1\t0\ncols\t?a\n"
    -- no sets: a copy; no projection found: a copy, and neither 3 nor 7
    ∷ gives (bindings "project\t?a\t?b\nbgp\t0\n" "") "project\t?a\t?b\nbgp\t0\n"
    ∷ gives (bindings "filter\nproject\t?a\nbgp\t0\nterm\t?a\n" "set\t1\t1\nat\t9\nrow\tTuple\tt\t-\n") "filter\nproject\t?a\nbgp\t0\nterm\t?a\n"
    -- Equals, Unequals as not of eq
    ∷ gives (filters "project\t?a\t?b\nbgp\t0\n" "bin\tEquals\nref\t1\nleaf\tIri\tk\t-\n") "project\t?a\t?b\nfilter\nbgp\t0\neq\nterm\t?b\nterm\t<k>\n"
    ∷ gives (filters "project\t?a\t?b\nbgp\t0\n" "bin\tUnequals\nref\t0\nleaf\tPlainString\tx\t-\n") "project\t?a\t?b\nfilter\nbgp\t0\nnot\neq\nterm\t?a\nterm\t\"x\"\n"
    -- Datatype and LanguageTag
    ∷ gives (filters "project\t?a\t?b\nbgp\t0\n" "bin\tEquals\nun\tDatatype\nref\t0\nun\tLanguageTag\nun\tDatatype\nleaf\tLanguageTaggedString\tx\ten\n") "project\t?a\t?b\nfilter\nbgp\t0\neq\ncall\tDATATYPE\t1\nterm\t?a\ncall\tLANG\t1\ncall\tDATATYPE\t1\nterm\t\"x\"@en\n"
    -- each typed domain, but not Other
    ∷ gives (filters "project\t?a\t?b\nbgp\t0\n" "leaf\tFloat\t1\t<float>\nleaf\tDouble\t1\t<double>\nleaf\tUnsignedLong\t1\t<unsignedlong>\nleaf\tNonNegativeLong\t1\t<nonnegativelong>\nleaf\tUnsignedInt\t1\t<unsignedint>\nleaf\tNonNegativeInt\t1\t<nonnegativeint>\nleaf\tLong\t1\t<long>\nleaf\tInt\t1\t<int>\nleaf\tBoolean\t1\t<boolean>\nleaf\tOther\t1\t<other>\n") "project\t?a\t?b\nfilter\nbgp\t0\nand\nand\nand\nand\nand\nand\nand\nand\nterm\t\"1\"^^<float>\nterm\t\"1\"^^<double>\nterm\t\"1\"^^<unsignedlong>\nterm\t\"1\"^^<nonnegativelong>\nterm\t\"1\"^^<unsignedint>\nterm\t\"1\"^^<nonnegativeint>\nterm\t\"1\"^^<long>\nterm\t\"1\"^^<int>\nterm\t\"1\"^^<boolean>\n"
    -- nor Null, Tuple and Map: they drop the filter, and are not 7
    ∷ gives (filters "project\t?a\t?b\nbgp\t0\n" "leaf\tOther\t1\t<o>\nleaf\tNull\tn\t-\nleaf\tTuple\tt\t-\nbin\tEquals\nref\t0\nleaf\tMap\tm\t-\n") "project\t?a\t?b\nbgp\t0\n"
    -- a part that is not expressed drops the whole filter, and that one only
    ∷ gives (filters "project\t?a\t?b\nbgp\t0\n" "bin\tEquals\nref\t0\nun\tStringLength\nref\t1\nref\t1\n") "project\t?a\t?b\nfilter\nbgp\t0\nterm\t?b\n"
    -- the four names hold in their shape only; tern and nary are not expressed
    ∷ gives (filters "project\t?a\t?b\nbgp\t0\n" "un\tEquals\nref\t0\nbin\tDatatype\nref\t0\nref\t1\ntern\tEquals\nref\t0\nref\t0\nref\t0\nnary\tEquals\t2\nref\t0\nref\t1\nnary\tDatatype\t0\n") "project\t?a\t?b\nbgp\t0\n"
    -- an always-true filter is left out, whatever its datatype; one that is false, true only as a string, or below another, is not
    ∷ gives (filters "project\t?a\t?b\nbgp\t0\n" "leaf\tBoolean\ttrue\t<x>\nleaf\tBoolean\tfalse\t<x>\nleaf\tPlainString\ttrue\t-\nbin\tEquals\nref\t0\nleaf\tBoolean\ttrue\t<x>\n") "project\t?a\t?b\nfilter\nbgp\t0\nand\nand\nterm\t\"false\"^^<x>\nterm\t\"true\"\neq\nterm\t?a\nterm\t\"true\"^^<x>\n"
    -- three filters nest to the left
    ∷ gives (filters "project\t?a\t?b\t?c\nbgp\t0\n" "ref\t0\nref\t1\nref\t2\n") "project\t?a\t?b\t?c\nfilter\nbgp\t0\nand\nand\nterm\t?a\nterm\t?b\nterm\t?c\n"
    -- below slice, distinct, orderby and group
    ∷ gives (filters "slice\t0\t5\ndistinct\norderby\t1\ngroup\t1\t1\ncols\t?a\nreduced\nproject\t?a\nbgp\t0\naggall\t?n\t0\nasc\nterm\t?a\n" "ref\t0\n") "slice\t0\t5\ndistinct\norderby\t1\ngroup\t1\t1\ncols\t?a\nreduced\nproject\t?a\nfilter\nbgp\t0\nterm\t?a\naggall\t?n\t0\nasc\nterm\t?a\n"
    -- no filters, or none placed: a copy; no projection found: a copy, and no 3
    ∷ gives (filters "project\t?a\t?b\nbgp\t0\n" "") "project\t?a\t?b\nbgp\t0\n"
    ∷ gives (filters "project\t?a\t?b\nbgp\t0\n" "leaf\tBoolean\ttrue\t<x>\n") "project\t?a\t?b\nbgp\t0\n"
    ∷ gives (filters "minus\nproject\t?a\nbgp\t0\nbgp\t0\n" "ref\t9\n") "minus\nproject\t?a\nbgp\t0\nbgp\t0\n"
    -- a reference out of range in a filter that is placed, dropped, of another shape
    ∷ refuses (filters "project\t?a\t?b\nbgp\t0\n" "ref\t2\n") 3
    ∷ refuses (filters "project\t?a\t?b\nbgp\t0\n" "bin\tEquals\nleaf\tTuple\tt\t-\nref\t2\n") 3
    ∷ refuses (filters "project\t?a\t?b\nbgp\t0\n" "nary\tx\t1\ntern\ty\nref\t0\nref\t2\nref\t1\n") 3
    ∷ refuses (filters "project\nbgp\t0\n" "leaf\tBoolean\ttrue\t<x>\nref\t0\n") 3
    -- 1 for a value with a wrong extra, a filter that is not complete, a tree with lines left over
    ∷ refuses (filters "project\t?a\t?b\nbgp\t0\n" "ref\t2\nleaf\tIri\tk\t<x>\n") 1
    ∷ refuses (filters "project\t?a\t?b\nbgp\t0\n" "bin\tEquals\nref\t2\n") 1
    ∷ refuses (filters "project\t?a\t?b\nbgp\t0\nbgp\t0\n" "ref\t2\n") 1
    -- an empty file: copied, a set of no columns placed, a constant filter placed, no column to bind or to name, a line end
    ∷ gives (bindings "" "") "project\nbgp\t0\n"
    ∷ gives (bindings "" "set\t0\t1\nat\nrow\n") "project\njoin\nbgp\t0\nvalues\t0\t1\ncols\nrow\n"
    ∷ refuses (bindings "" "set\t1\t0\nat\t0\n") 3
    ∷ refuses (bindings "\n" "") 1
    ∷ gives (filters "" "leaf\tBoolean\ttrue\t<x>\n") "project\nbgp\t0\n"
    ∷ gives (filters "" "leaf\tBoolean\tfalse\t<x>\n") "project\nfilter\nbgp\t0\nterm\t\"false\"^^<x>\n"
    ∷ refuses (filters "" "ref\t0\n") 3
    ∷ refuses (filters "\n" "") 1
    ∷ []

-- a tree, filters, and the numbers of those that were not placed
pub record Listed : Type 0 where
  pub tree : String
  pub filters : String
  pub numbers : List ℕ

abbrev pub lists : String → String → List ℕ → Listed
lists t f ks = record { tree = t; filters = f; numbers = ks }

unfoldable pub list_of : Listed → List ℕ
unfolding filters_not_placed
list_of c = filters_not_placed (bytes c.tree) (bytes c.filters)

abbrev pub listed_cases : List Listed
listed_cases =
    -- all placed: none
    lists "project\t?a\t?b\nbgp\t0\n" "ref\t0\nbin\tEquals\nref\t1\nleaf\tIri\tk\t-\n" []
    -- no filter: none
    ∷ lists "project\t?a\t?b\nbgp\t0\n" "" []
    -- a function that is not expressed, also as a part; numbers count filters and not lines
    ∷ lists "project\t?a\t?b\nbgp\t0\n" "bin\tEquals\nref\t0\nun\tStringLength\nref\t1\nref\t1\ntern\tx\nref\t0\nref\t0\nref\t0\n" (0 ∷ 2 ∷ [])
    -- always true, Other, Null; one that is false is placed
    ∷ lists "project\t?a\t?b\nbgp\t0\n" "leaf\tBoolean\ttrue\t<x>\nleaf\tBoolean\tfalse\t<x>\nleaf\tOther\t1\t<o>\nleaf\tNull\tn\t-\n" (0 ∷ 2 ∷ 3 ∷ [])
    -- no projection found: every filter, whatever its references
    ∷ lists "minus\nproject\t?a\nbgp\t0\nbgp\t0\n" "ref\t9\nleaf\tBoolean\tfalse\t<x>\n" (0 ∷ 1 ∷ [])
    -- an empty file has a projection
    ∷ lists "" "nary\tx\t0\nleaf\tBoolean\tfalse\t<x>\n" (0 ∷ [])
    -- below slice and distinct a projection is found
    ∷ lists "slice\t0\t5\ndistinct\nproject\t?a\nbgp\t0\n" "nary\tx\t0\nref\t0\n" (0 ∷ [])
    ∷ []
