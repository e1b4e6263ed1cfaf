-- Worked examples: spellings, readings of texts that are spelled otherwise, and refusals. Assumes nothing.
use Rattle.std.specs.Prelude.{◌≡◌, refl, List, [], ◌∷◌, ◌++◌, map, ℕ}
use Rattle.std.proofs.Math.Option.{Option, none, some}
use Rattle.text.specs.Text.{Bytes, same, onto}
use Rattle.text.specs.Word.{bytes, spelled}
use Rattle.text.specs.Field.{number_of, is_var, is_iri, is_dash, is_blank}
use Rattle.algebra.specs.Valid.{mem, different}
use Rattle.scoping.specs.InScope.{in_scope}
use Rattle.scoping.specs.Sets.{triple_variables, variables_of, keep}
use Rattle.algebra.specs.Tree.{Triple, OR, AND, EQ, SAME, NOT, ASC, DESC, Pattern, bgp, path, join, union, minus, leftjoin, filter, graph, extend, values, orderby, project, distinct, reduced, slice, Expression, term, bound, exists, apply, always, provided, eend, econs, oend, ocons}
use Rattle.algebra.specs.Query.{Query}
use Rattle.editions.specs.Token.{Edition, sparql10, sparql11, text}
use Rattle.editions.specs.Lexical.{lex, pieces, tokens, token, is_var1, all_name, is_iriref, iri_rest, utf8, is_rdf_literal, is_string, is_suffix, is_tag, unescaped}
use Rattle.editions.specs.Readers.{at, sort, all, wide}
use Rattle.editions.specs.Grammar.{translate, parse, inside, primary, unary, relational, elements_in, group_in, select_after, manner, ordered, order_clause, limits}
use Rattle.editions.specs.Translation.{translated, elements, filters_of}
use Rattle.editions.specs.Spelling.{spell, spell_p, spell_triples, spell_vars, spell_cells, spell_rows, spell_slice, term_of, cell_of}
use Rattle.editions.specs.Refusals.{Refusal, refusal_number, first, allowed, all_allowed, all_cells, first_of, judge_ts, judge_rows, judge, judge_query, refusal}

abbrev tp : Bytes → Bytes → Bytes → Triple
tp s p o = record { subj = s; pred = p; obj = o }

abbrev t1 : Triple
t1 = tp (bytes "?a") (bytes "<p>") (bytes "?b")

abbrev t2 : Triple
t2 = tp (bytes "?b") (bytes "?q") (bytes "\"x y\"@en")

abbrev asked : Pattern → Query
asked p = record { kind = bytes "select"; dataset = bytes "-"; base = bytes "-"; tree = p }

abbrev ask : Pattern → Query
ask p = asked (project (bytes "?a" ∷ []) p)

abbrev a : Expression
a = term (bytes "?a")

-- ---- spellings: the table of docs/, a line a kind

spelled-so : map spell (asked (slice (bytes "5") (bytes "-") (distinct (project (bytes "?a" ∷ bytes "?b" ∷ []) (orderby (bgp []) (ocons ASC a (ocons DESC a oend))))))
    ∷ asked (slice (bytes "0") (bytes "7") (reduced (project (bytes "?a" ∷ []) (bgp (t1 ∷ t2 ∷ [])))))
    ∷ ask (join (bgp (t1 ∷ [])) (bgp (t2 ∷ [])))
    ∷ ask (leftjoin (bgp []) (filter (bgp (t1 ∷ [])) a) always)
    ∷ ask (leftjoin (bgp []) (bgp (t1 ∷ [])) (provided a))
    ∷ ask (union (bgp []) (minus (bgp []) (bgp (t1 ∷ []))))
    ∷ ask (graph (bytes "<g>") (extend (bytes "?v") (bgp []) (apply EQ (econs a (econs (apply NOT (econs a eend)) eend)))))
    ∷ ask (filter (bgp []) (apply OR (econs (apply AND (econs (bound (bytes "?a")) (econs (exists (bgp [])) eend))) (econs (apply SAME (econs a (econs a eend))) eend))))
    ∷ ask (values (bytes "?a" ∷ bytes "?b" ∷ []) ((bytes "<x>" ∷ bytes "-" ∷ []) ∷ []))
    ∷ ask (project (bytes "?b" ∷ []) (bgp []))
    ∷ []) ≡ bytes "SELECT DISTINCT ?a ?b WHERE { } ORDER BY ASC ( ?a ) DESC ( ?a ) OFFSET 5 "
    ∷ bytes "SELECT REDUCED ?a WHERE { ?a <p> ?b . ?b ?q \"x y\"@en . } OFFSET 0 LIMIT 7 "
    ∷ bytes "SELECT ?a WHERE { { ?a <p> ?b . } { ?b ?q \"x y\"@en . } } "
    ∷ bytes "SELECT ?a WHERE { { } OPTIONAL { { { ?a <p> ?b . } FILTER ( ?a ) } } } "
    ∷ bytes "SELECT ?a WHERE { { } OPTIONAL { { ?a <p> ?b . } FILTER ( ?a ) } } "
    ∷ bytes "SELECT ?a WHERE { { } UNION { { } MINUS { ?a <p> ?b . } } } "
    ∷ bytes "SELECT ?a WHERE { GRAPH <g> { { } BIND ( ( ?a = ( ! ?a ) ) AS ?v ) } } "
    ∷ bytes "SELECT ?a WHERE { { } FILTER ( ( ( BOUND ( ?a ) && EXISTS { } ) || sameTerm ( ?a , ?a ) ) ) } "
    ∷ bytes "SELECT ?a WHERE { VALUES ( ?a ?b ) { ( <x> UNDEF ) } } "
    ∷ bytes "SELECT ?a WHERE { SELECT ?b WHERE { } } "
    ∷ []
unfolding spell text spell_p spell_triples spell_vars spell_cells spell_rows spell_slice term_of cell_of is_var is_iri is_dash
spelled-so = refl

-- ---- texts that are spelled otherwise; Z is kept where the standard has it

abbrev over : Pattern → Option Pattern
over p = some (project (bytes "?a" ∷ []) p)

-- a filter in OPTIONAL is the condition; in braces of its own it stays a filter; a group's filters go to its end, and triples beside one are one pattern
read-so : map (translate sparql10) (bytes "SELECT ?a WHERE { OPTIONAL { ?a <p> ?b . FILTER ( ?a ) } } "
    ∷ bytes "SELECT ?a WHERE { OPTIONAL { { ?a <p> ?b . FILTER ( ?a ) } } } "
    ∷ bytes "SELECT ?a WHERE { ?a <p> ?b . FILTER ( ?a ) ?b ?q \"x y\"@en . } "
    ∷ bytes "SELECT ?a WHERE { { } MINUS { } } "
    ∷ bytes "SELECT ?a WHERE { SELECT ?a WHERE { } } "
    ∷ bytes "SELECT ?a WHERE { } LIMIT 7 "
    ∷ bytes "SELECT ?a WHERE { }"
    ∷ bytes "SELECT ?a WHERE { ?a <p q> ?b . } "
    ∷ bytes "SELECT ?a WHERE { ?a \"p\" ?b . } "
    ∷ bytes "SELECT ?a WHERE { FILTER ( ?a = ?a = ?a ) } "
    ∷ []) ≡ over (leftjoin (bgp []) (join (bgp []) (bgp (t1 ∷ []))) (provided a))
    ∷ over (leftjoin (bgp []) (join (bgp []) (filter (join (bgp []) (bgp (t1 ∷ []))) a)) always)
    ∷ over (filter (join (bgp []) (bgp (t1 ∷ t2 ∷ []))) a)
    ∷ none
    ∷ none
    ∷ some (slice (bytes "0") (bytes "7") (project (bytes "?a" ∷ []) (bgp [])))
    ∷ none
    ∷ none
    ∷ none
    ∷ none
    ∷ []
unfolding translate lex pieces onto tokens token is_var1 all_name is_iriref iri_rest utf8 is_rdf_literal is_string is_suffix is_tag unescaped number_of spelled same parse inside at sort all different wide primary unary relational elements_in group_in select_after manner ordered order_clause limits translated elements filters_of
read-so = refl

-- BIND ends a basic graph pattern; a variable in scope before it is refused
read-so11 : map (translate sparql11) (bytes "SELECT ?a WHERE { ?a <p> ?b . BIND ( ?a AS ?v ) ?a <p> ?b . } "
    ∷ bytes "SELECT ?a WHERE { ?a <p> ?b . BIND ( ?a AS ?b ) } "
    ∷ bytes "SELECT ?a WHERE { { } UNION { } UNION { SELECT ?a WHERE { } } } "
    ∷ []) ≡ over (join (extend (bytes "?v") (join (bgp []) (bgp (t1 ∷ []))) a) (bgp (t1 ∷ [])))
    ∷ none
    ∷ over (join (bgp []) (union (union (bgp []) (bgp [])) (project (bytes "?a" ∷ []) (bgp []))))
    ∷ []
unfolding translate lex pieces onto tokens token is_var1 all_name is_iriref iri_rest utf8 is_rdf_literal is_string is_suffix is_tag unescaped number_of spelled same parse inside at sort all different wide primary unary relational elements_in group_in select_after manner ordered order_clause limits translated elements filters_of in_scope triple_variables variables_of keep mem is_var
read-so11 = refl

-- ---- refusals

abbrev number : Option Refusal → ℕ
number none = 0
number (some n) = refusal_number n

abbrev judged : Edition → List Query → List ℕ
judged ed qs = map (λ q. number (refusal ed q)) qs

-- a name outside of ASCII: ?é
abbrev é : Bytes
é = 63 ∷ 195 ∷ 169 ∷ []

abbrev said : Bytes → Query
said x = ask (filter (bgp []) (term x))

-- what 1.0 can't say: minus, extend, values, exists, an inner project
later-kinds : List Query
later-kinds = ask (minus (bgp []) (bgp [])) ∷ ask (extend (bytes "?v") (bgp []) a) ∷ ask (values [] []) ∷ ask (filter (bgp []) (exists (bgp []))) ∷ ask (project (bytes "?b" ∷ []) (bgp [])) ∷ []

-- what neither can: another query kind, a dataset, a root that is no stack, orderby as a root, distinct over slice, distinct over orderby, orderby twice, orderby without conditions, no column, a blank node before its name is judged, a path, a repeated column, a variable in scope beneath
unsaid : List Query
unsaid = record { kind = bytes "ask"; dataset = bytes "-"; base = bytes "-"; tree = project (bytes "?a" ∷ []) (bgp []) }
    ∷ record { kind = bytes "select"; dataset = bytes "d"; base = bytes "-"; tree = project (bytes "?a" ∷ []) (bgp []) }
    ∷ asked (bgp [])
    ∷ asked (orderby (project (bytes "?a" ∷ []) (bgp [])) (ocons ASC a oend))
    ∷ asked (distinct (slice (bytes "0") (bytes "-") (project (bytes "?a" ∷ []) (bgp []))))
    ∷ asked (distinct (orderby (project (bytes "?a" ∷ []) (bgp [])) (ocons ASC a oend)))
    ∷ ask (orderby (orderby (bgp []) (ocons ASC a oend)) (ocons ASC a oend))
    ∷ ask (orderby (bgp []) oend)
    ∷ asked (project [] (bgp []))
    ∷ ask (bgp (tp (bytes "_:b") (bytes "<p>") é ∷ []))
    ∷ ask (path (bytes "?a") (bytes "<p>*") (bytes "?b"))
    ∷ ask (values (bytes "?a" ∷ bytes "?a" ∷ []) [])
    ∷ ask (extend (bytes "?b") (bgp (t1 ∷ [])) a)
    ∷ []

-- forbidden: a name, an IRI with a space or a backslash, literals with a bad escape, a bad tag, a bad datatype, a backslash before \u, bytes that are no UTF-8, a name on a line above a stacking that is broken
ill : List Query
ill = said é ∷ said (bytes "<a b>") ∷ said (bytes "<\\u0041>") ∷ said (bytes "\"\\x\"") ∷ said (bytes "\"x\"@en-") ∷ said (bytes "\"x\"^^<a b>") ∷ said (bytes "\"\\\\u0041\"") ∷ said (34 ∷ 195 ∷ 34 ∷ []) ∷ asked (project (é ∷ []) (orderby (bgp []) oend)) ∷ []

-- fine: a literal as subject, a variable that only a filter has beneath an extend, UTF-8, escapes, an empty IRI and an empty string, repeated columns
fine : List Query
fine = ask (bgp (tp (bytes "\"x\"") (bytes "<p>") (bytes "?1_") ∷ [])) ∷ ask (extend (bytes "?v") (filter (bgp []) (term (bytes "?v"))) a) ∷ said (34 ∷ 195 ∷ 169 ∷ 34 ∷ []) ∷ said (60 ∷ 240 ∷ 159 ∷ 152 ∷ 128 ∷ 62 ∷ []) ∷ said (bytes "\"\\\\\\\"\\n'\"@de-AT-1996") ∷ said (bytes "<>") ∷ said (bytes "\"\"") ∷ asked (project (bytes "?a" ∷ bytes "?a" ∷ []) (bgp [])) ∷ []

abbrev all_of : ℕ → List Query → List ℕ
all_of n qs = map (λ q. n) qs

refused-so : judged sparql10 (later-kinds ++ (unsaid ++ ill)) ≡ all_of 12 (later-kinds ++ unsaid) ++ all_of 13 ill
unfolding refusal judge_query judge judge_ts judge_rows first_of first allowed all_allowed all_cells term_of cell_of is_var is_iri is_dash is_blank is_var1 all_name is_iriref iri_rest utf8 is_rdf_literal is_string is_suffix is_tag unescaped same in_scope triple_variables variables_of keep mem different later-kinds unsaid ill
refused-so = refl

refused-so11 : judged sparql11 (later-kinds ++ (unsaid ++ (ill ++ fine))) ≡ all_of 0 later-kinds ++ (all_of 12 unsaid ++ (all_of 13 ill ++ all_of 0 fine))
unfolding refusal judge_query judge judge_ts judge_rows first_of first allowed all_allowed all_cells term_of cell_of is_var is_iri is_dash is_blank is_var1 all_name is_iriref iri_rest utf8 is_rdf_literal is_string is_suffix is_tag unescaped same in_scope triple_variables variables_of keep mem different later-kinds unsaid ill fine
refused-so11 = refl
