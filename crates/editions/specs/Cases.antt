-- docs/SPECIFICATION.md, "sparql": queries' texts and what they give for an edition, as one table. Assumes nothing.
use Rattle.std.specs.Prelude.{List, [], ◌∷◌, ℕ}
use Prim.Native.String.{String}
use Rattle.text.specs.Word.{bytes}
use Rattle.answers.specs.Outcome.{Outcome, refused, written}
use Rattle.editions.specs.Token.{Edition, sparql10, sparql11}

pub record Case : Type 0 where
  pub edition : Edition
  pub query : String
  pub gives : Outcome

abbrev pub gives : Edition → String → String → Case
gives ed q s = record { edition = ed; query = q; gives = written (bytes s) }

abbrev pub refuses : Edition → String → ℕ → Case
refuses ed q n = record { edition = ed; query = q; gives = refused n }

abbrev pub cases : List Case
cases =
    -- a whole stack, in both editions the same text
    gives sparql10 "query\tselect\t-\t-\nslice\t2\t5\ndistinct\nproject\t?e\t?b\norderby\t1\nleftjoin\t1\nbgp\t1\nt\t?e\t<by>\t?b\nbgp\t1\nt\t?b\t<in>\t\"bay 7\"@en\nnot\nbound\t?x\ndesc\nterm\t?e\n"
    "SELECT DISTINCT ?e ?b WHERE { { ?e <by> ?b . } OPTIONAL { { ?b <in> \"bay 7\"@en . } FILTER ( ( ! BOUND ( ?x ) ) ) } } ORDER BY DESC ( ?e ) OFFSET 2 LIMIT 5 "
    ∷ gives sparql11 "query\tselect\t-\t-\nslice\t2\t5\ndistinct\nproject\t?e\t?b\norderby\t1\nleftjoin\t1\nbgp\t1\nt\t?e\t<by>\t?b\nbgp\t1\nt\t?b\t<in>\t\"bay 7\"@en\nnot\nbound\t?x\ndesc\nterm\t?e\n"
    "SELECT DISTINCT ?e ?b WHERE { { ?e <by> ?b . } OPTIONAL { { ?b <in> \"bay 7\"@en . } FILTER ( ( ! BOUND ( ?x ) ) ) } } ORDER BY DESC ( ?e ) OFFSET 2 LIMIT 5 "
    -- a negated query: only 1.1 has exists, and 1.0 stops there
    ∷ gives sparql11 "query\tselect\t-\t-\nproject\t?a\nfilter\nbgp\t0\nnot\nexists\nbgp\t1\nt\t?a\t<p>\t?b\n" "SELECT ?a WHERE { { } FILTER ( ( ! EXISTS { ?a <p> ?b . } ) ) } "
    ∷ refuses sparql10 "query\tselect\t-\t-\nproject\t?a\nfilter\nbgp\t0\nnot\nexists\nbgp\t1\nt\t?a\t<p>\t?b\n" 12
    -- constants as values, and none of its columns twice
    ∷ gives sparql11 "query\tselect\t-\t-\nproject\t?v1\njoin\nbgp\t0\nvalues\t2\t1\ncols\t?v0\t?v2\nrow\t<k>\t-\n" "SELECT ?v1 WHERE { { } { VALUES ( ?v0 ?v2 ) { ( <k> UNDEF ) } } } "
    ∷ refuses sparql11 "query\tselect\t-\t-\nproject\t?v1\njoin\nbgp\t0\nvalues\t2\t0\ncols\t?v0\t?v0\n" 12
    -- a project in a project
    ∷ gives sparql11 "query\tselect\t-\t-\nproject\t?a\nproject\t?b\nbgp\t0\n" "SELECT ?a WHERE { SELECT ?b WHERE { } } "
    ∷ refuses sparql10 "query\tselect\t-\t-\nproject\t?a\nproject\t?b\nbgp\t0\n" 12
    -- a stack that is broken, at the line that breaks it: the name above it counts first, on its own line 12 does
    ∷ refuses sparql11 "query\tselect\t-\t-\ndistinct\nslice\t0\t-\nproject\t?a\nbgp\t0\n" 12
    ∷ refuses sparql11 "query\tselect\t-\t-\nproject\t?a.b\ndistinct\nbgp\t0\n" 13
    ∷ refuses sparql11 "query\tselect\t-\t-\ndistinct\ngraph\t<a b>\nbgp\t0\n" 12
    ∷ refuses sparql11 "query\tselect\t-\t-\nproject\t?a\norderby\t0\nbgp\t0\n" 12
    ∷ refuses sparql11 "query\tselect\t-\t-\nproject\nbgp\t0\n" 12
    -- the head: another kind, a dataset, a base
    ∷ refuses sparql11 "query\task\t-\t-\nproject\t?a\nbgp\t0\n" 12
    ∷ refuses sparql11 "query\tselect\td\t-\nproject\t?a\nbgp\t0\n" 12
    ∷ refuses sparql11 "query\tselect\t-\t<b>\nproject\t?a\nbgp\t0\n" 12
    -- an extend of a variable in scope beneath it, before what stands beneath; hidden by a project it is not in scope
    ∷ refuses sparql11 "query\tselect\t-\t-\nproject\t?a\nextend\t?b\nbgp\t1\nt\t?a\t<p q>\t?b\nterm\t?a\n" 12
    ∷ gives sparql11 "query\tselect\t-\t-\nproject\t?a\nextend\t?b\nproject\t?a\nbgp\t1\nt\t?a\t<p>\t?b\nterm\t?a\n" "SELECT ?a WHERE { { SELECT ?a WHERE { ?a <p> ?b . } } BIND ( ?a AS ?b ) } "
    -- a blank node, and on its line a name that is forbidden too
    ∷ refuses sparql10 "query\tselect\t-\t-\nproject\t?a\nbgp\t1\nt\t_:b\t<p q>\t?a\n" 12
    ∷ refuses sparql10 "query\tselect\t-\t-\nproject\t?a\nbgp\t1\nt\t?a\t<p q>\t?a\n" 13
    ∷ refuses sparql10 "query\tselect\t-\t-\nproject\t?a\nfilter\nbgp\t0\nterm\t\"\\\\u0041\"\n" 13
    -- an empty file has no columns, whatever its head says; no bytes are no query
    ∷ refuses sparql11 "query\tselect\t-\t-\n" 12
    ∷ refuses sparql10 "query\task\td\t-\n" 12
    ∷ refuses sparql11 "" 1
    -- the tree's own checks come first
    ∷ refuses sparql10 "query\task\t-\t-\nproject\t?a\nbgp\t1\n" 1
    ∷ []
