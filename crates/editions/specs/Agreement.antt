-- Texts of the fragment, spelled freely, with the algebra that Apache Jena 4.5.0 gave them. Assumes nothing.
use Rattle.std.specs.Prelude.{◌≡◌, refl, [], ◌∷◌}
use Rattle.std.proofs.Math.Option.{none, some}
use Rattle.text.specs.Text.{Bytes, same, onto}
use Rattle.text.specs.Word.{bytes, spelled}
use Rattle.text.specs.Field.{number_of, is_var}
use Rattle.algebra.specs.Tree.{Triple, OR, AND, EQ, SAME, NOT, ASC, DESC, bgp, join, union, minus, leftjoin, filter, graph, extend, values, orderby, project, distinct, reduced, slice, term, bound, apply, always, provided, eend, econs, oend, ocons}
use Rattle.editions.specs.Token.{sparql10, sparql11}
use Rattle.editions.specs.Lexical.{lex, pieces, tokens, token, is_var1, all_name, is_iriref, iri_rest, utf8, is_rdf_literal, is_string, is_suffix, is_tag, unescaped}
use Rattle.editions.specs.Readers.{at, sort, all, wide}
use Rattle.editions.specs.Grammar.{translate, parse, inside, primary, unary, relational, elements_in, group_in, select_after, manner, ordered, order_clause, limits}
use Rattle.editions.specs.Translation.{mapped, translated, elements, filters_of}
use Rattle.editions.specs.Simplified.{simplified}
use Rattle.scoping.specs.InScope.{in_scope}
use Rattle.scoping.specs.Sets.{triple_variables, variables_of, keep}
use Rattle.algebra.specs.Valid.{mem, different}
use Rattle.editions.specs.Simplified.{joined}

abbrev tp : Bytes → Bytes → Bytes → Triple
tp s p o = record { subj = s; pred = p; obj = o }

text0 : mapped simplified (translate sparql11 (bytes "SELECT ?c ?a WHERE { { } UNION { \"1\"^^<http://e/i> ?d \"x y\"@en . \"x y\"@en ?c <http://e/p> . } BIND ( ?b = ! \"x y\"@en && <http://e/p> || <http://e/q> AS ?y ) GRAPH <http://e/p> { \"x y\"@en ?c <http://e/p> . ?c <http://e/p> ?a . } } ORDER BY DESC ( ! <http://e/p> && <http://e/q> || ?c && \"1\"^^<http://e/i> && ! ?d = ?b || ! \"x\" && <http://e/p> && \"\" = ! ?d ) ASC ( ! \"x y\"@en ) ")) ≡ some (project (bytes "?c" ∷ bytes "?a" ∷ []) (orderby (join (extend (bytes "?y") (union (bgp ([])) (bgp (tp (bytes "\"1\"^^<http://e/i>") (bytes "?d") (bytes "\"x y\"@en") ∷ tp (bytes "\"x y\"@en") (bytes "?c") (bytes "<http://e/p>") ∷ []))) (apply OR (econs (apply AND (econs (apply EQ (econs (term (bytes "?b")) (econs (apply NOT (econs (term (bytes "\"x y\"@en")) eend)) eend))) (econs (term (bytes "<http://e/p>")) eend))) (econs (term (bytes "<http://e/q>")) eend)))) (graph (bytes "<http://e/p>") (bgp (tp (bytes "\"x y\"@en") (bytes "?c") (bytes "<http://e/p>") ∷ tp (bytes "?c") (bytes "<http://e/p>") (bytes "?a") ∷ [])))) (ocons DESC (apply OR (econs (apply OR (econs (apply AND (econs (apply NOT (econs (term (bytes "<http://e/p>")) eend)) (econs (term (bytes "<http://e/q>")) eend))) (econs (apply AND (econs (apply AND (econs (term (bytes "?c")) (econs (term (bytes "\"1\"^^<http://e/i>")) eend))) (econs (apply EQ (econs (apply NOT (econs (term (bytes "?d")) eend)) (econs (term (bytes "?b")) eend))) eend))) eend))) (econs (apply AND (econs (apply AND (econs (apply NOT (econs (term (bytes "\"x\"")) eend)) (econs (term (bytes "<http://e/p>")) eend))) (econs (apply EQ (econs (term (bytes "\"\"")) (econs (apply NOT (econs (term (bytes "?d")) eend)) eend))) eend))) eend))) (ocons ASC (apply NOT (econs (term (bytes "\"x y\"@en")) eend)) oend))))
unfolding translate lex pieces onto tokens token is_var1 all_name is_iriref iri_rest utf8 is_rdf_literal is_string is_suffix is_tag unescaped number_of spelled same parse inside at sort all different wide primary unary relational elements_in group_in select_after manner ordered order_clause limits translated elements filters_of simplified joined in_scope triple_variables variables_of keep mem is_var
text0 = refl

text1 : mapped simplified (translate sparql10 (bytes "SELECT ?b ?c WHERE { } ORDER BY DESC ( ( ?d && <http://e/p> = \"1\"^^<http://e/i> || <http://e/p> && ! \"\" = \"x\" ) = ! sameTerm ( ?c && ! ?d && ! ?a = \"\" , \"\" = ?d && \"x\" = <http://e/p> && ! \"x y\"@en = <http://e/p> || ?a && ?c = \"1\"^^<http://e/i> && \"x y\"@en || ?c && \"x y\"@en ) ) ASC ( <http://e/q> && ! \"x y\"@en = \"\" ) ")) ≡ some (project (bytes "?b" ∷ bytes "?c" ∷ []) (orderby (bgp ([])) (ocons DESC (apply EQ (econs (apply OR (econs (apply AND (econs (term (bytes "?d")) (econs (apply EQ (econs (term (bytes "<http://e/p>")) (econs (term (bytes "\"1\"^^<http://e/i>")) eend))) eend))) (econs (apply AND (econs (term (bytes "<http://e/p>")) (econs (apply EQ (econs (apply NOT (econs (term (bytes "\"\"")) eend)) (econs (term (bytes "\"x\"")) eend))) eend))) eend))) (econs (apply NOT (econs (apply SAME (econs (apply AND (econs (apply AND (econs (term (bytes "?c")) (econs (apply NOT (econs (term (bytes "?d")) eend)) eend))) (econs (apply EQ (econs (apply NOT (econs (term (bytes "?a")) eend)) (econs (term (bytes "\"\"")) eend))) eend))) (econs (apply OR (econs (apply OR (econs (apply AND (econs (apply AND (econs (apply EQ (econs (term (bytes "\"\"")) (econs (term (bytes "?d")) eend))) (econs (apply EQ (econs (term (bytes "\"x\"")) (econs (term (bytes "<http://e/p>")) eend))) eend))) (econs (apply EQ (econs (apply NOT (econs (term (bytes "\"x y\"@en")) eend)) (econs (term (bytes "<http://e/p>")) eend))) eend))) (econs (apply AND (econs (apply AND (econs (term (bytes "?a")) (econs (apply EQ (econs (term (bytes "?c")) (econs (term (bytes "\"1\"^^<http://e/i>")) eend))) eend))) (econs (term (bytes "\"x y\"@en")) eend))) eend))) (econs (apply AND (econs (term (bytes "?c")) (econs (term (bytes "\"x y\"@en")) eend))) eend))) eend))) eend)) eend))) (ocons ASC (apply AND (econs (term (bytes "<http://e/q>")) (econs (apply EQ (econs (apply NOT (econs (term (bytes "\"x y\"@en")) eend)) (econs (term (bytes "\"\"")) eend))) eend))) oend))))
unfolding translate lex pieces onto tokens token is_var1 all_name is_iriref iri_rest utf8 is_rdf_literal is_string is_suffix is_tag unescaped number_of spelled same parse inside at sort all different wide primary unary relational elements_in group_in select_after manner ordered order_clause limits translated elements filters_of simplified joined in_scope triple_variables variables_of keep mem is_var
text1 = refl

text2 : mapped simplified (translate sparql11 (bytes "SELECT REDUCED ?b ?c WHERE { } ORDER BY ASC ( ! ( sameTerm ( ! ?a = ! \"x\" && ! ?a = ! ?d && ! <http://e/p> = <http://e/p> || \"1\"^^<http://e/i> && \"x\" && ! ?a = ! ?d || ?b && \"1\"^^<http://e/i> && ?c , ?a || \"x\" || ?c && <http://e/p> ) ) ) LIMIT 5 ")) ≡ some (slice (bytes "0") (bytes "5") (reduced (project (bytes "?b" ∷ bytes "?c" ∷ []) (orderby (bgp ([])) (ocons ASC (apply NOT (econs (apply SAME (econs (apply OR (econs (apply OR (econs (apply AND (econs (apply AND (econs (apply EQ (econs (apply NOT (econs (term (bytes "?a")) eend)) (econs (apply NOT (econs (term (bytes "\"x\"")) eend)) eend))) (econs (apply EQ (econs (apply NOT (econs (term (bytes "?a")) eend)) (econs (apply NOT (econs (term (bytes "?d")) eend)) eend))) eend))) (econs (apply EQ (econs (apply NOT (econs (term (bytes "<http://e/p>")) eend)) (econs (term (bytes "<http://e/p>")) eend))) eend))) (econs (apply AND (econs (apply AND (econs (term (bytes "\"1\"^^<http://e/i>")) (econs (term (bytes "\"x\"")) eend))) (econs (apply EQ (econs (apply NOT (econs (term (bytes "?a")) eend)) (econs (apply NOT (econs (term (bytes "?d")) eend)) eend))) eend))) eend))) (econs (apply AND (econs (apply AND (econs (term (bytes "?b")) (econs (term (bytes "\"1\"^^<http://e/i>")) eend))) (econs (term (bytes "?c")) eend))) eend))) (econs (apply OR (econs (apply OR (econs (term (bytes "?a")) (econs (term (bytes "\"x\"")) eend))) (econs (apply AND (econs (term (bytes "?c")) (econs (term (bytes "<http://e/p>")) eend))) eend))) eend))) eend)) oend)))))
unfolding translate lex pieces onto tokens token is_var1 all_name is_iriref iri_rest utf8 is_rdf_literal is_string is_suffix is_tag unescaped number_of spelled same parse inside at sort all different wide primary unary relational elements_in group_in select_after manner ordered order_clause limits translated elements filters_of simplified joined in_scope triple_variables variables_of keep mem is_var
text2 = refl

text3 : mapped simplified (translate sparql11 (bytes "SELECT REDUCED ?b WHERE { SELECT ?b ?d WHERE { } LIMIT 5 OFFSET 7 } ")) ≡ some (reduced (project (bytes "?b" ∷ []) (slice (bytes "7") (bytes "5") (project (bytes "?b" ∷ bytes "?d" ∷ []) (bgp ([]))))))
unfolding translate lex pieces onto tokens token is_var1 all_name is_iriref iri_rest utf8 is_rdf_literal is_string is_suffix is_tag unescaped number_of spelled same parse inside at sort all different wide primary unary relational elements_in group_in select_after manner ordered order_clause limits translated elements filters_of simplified joined in_scope triple_variables variables_of keep mem is_var
text3 = refl

text4 : mapped simplified (translate sparql11 (bytes "SELECT DISTINCT ?b WHERE { SELECT DISTINCT ?a ?b WHERE { ?d ?d \"\" . } ORDER BY DESC ( ?c && ?b && ?d ) LIMIT 5 OFFSET 7 } OFFSET 7 ")) ≡ some (slice (bytes "7") (bytes "-") (distinct (project (bytes "?b" ∷ []) (slice (bytes "7") (bytes "5") (distinct (project (bytes "?a" ∷ bytes "?b" ∷ []) (orderby (bgp (tp (bytes "?d") (bytes "?d") (bytes "\"\"") ∷ [])) (ocons DESC (apply AND (econs (apply AND (econs (term (bytes "?c")) (econs (term (bytes "?b")) eend))) (econs (term (bytes "?d")) eend))) oend))))))))
unfolding translate lex pieces onto tokens token is_var1 all_name is_iriref iri_rest utf8 is_rdf_literal is_string is_suffix is_tag unescaped number_of spelled same parse inside at sort all different wide primary unary relational elements_in group_in select_after manner ordered order_clause limits translated elements filters_of simplified joined in_scope triple_variables variables_of keep mem is_var
text4 = refl

text5 : mapped simplified (translate sparql10 (bytes "SELECT ?b ?d WHERE { OPTIONAL { <http://e/q> <http://e/q> ?b . \"x y\"@en ?b \"1\"^^<http://e/i> . } } LIMIT 5 ")) ≡ some (slice (bytes "0") (bytes "5") (project (bytes "?b" ∷ bytes "?d" ∷ []) (leftjoin (bgp ([])) (bgp (tp (bytes "<http://e/q>") (bytes "<http://e/q>") (bytes "?b") ∷ tp (bytes "\"x y\"@en") (bytes "?b") (bytes "\"1\"^^<http://e/i>") ∷ [])) always)))
unfolding translate lex pieces onto tokens token is_var1 all_name is_iriref iri_rest utf8 is_rdf_literal is_string is_suffix is_tag unescaped number_of spelled same parse inside at sort all different wide primary unary relational elements_in group_in select_after manner ordered order_clause limits translated elements filters_of simplified joined in_scope triple_variables variables_of keep mem is_var
text5 = refl

text6 : mapped simplified (translate sparql11 (bytes "SELECT REDUCED ?a WHERE { SELECT ?c ?a WHERE { SELECT DISTINCT ?c WHERE { } ORDER BY DESC ( <http://e/p> ) ASC ( ! \"1\"^^<http://e/i> = ?b || \"1\"^^<http://e/i> = ! \"1\"^^<http://e/i> && \"x y\"@en = ?d || ?b && <http://e/p> && \"x\" ) } } ORDER BY ASC ( ( ! ?c = \"x y\"@en && \"\" || <http://e/p> = \"\" ) || ! ?b = ?c || ! \"\" = ! \"x y\"@en ) LIMIT 5 ")) ≡ some (slice (bytes "0") (bytes "5") (reduced (project (bytes "?a" ∷ []) (orderby (project (bytes "?c" ∷ bytes "?a" ∷ []) (distinct (project (bytes "?c" ∷ []) (orderby (bgp ([])) (ocons DESC (term (bytes "<http://e/p>")) (ocons ASC (apply OR (econs (apply OR (econs (apply EQ (econs (apply NOT (econs (term (bytes "\"1\"^^<http://e/i>")) eend)) (econs (term (bytes "?b")) eend))) (econs (apply AND (econs (apply EQ (econs (term (bytes "\"1\"^^<http://e/i>")) (econs (apply NOT (econs (term (bytes "\"1\"^^<http://e/i>")) eend)) eend))) (econs (apply EQ (econs (term (bytes "\"x y\"@en")) (econs (term (bytes "?d")) eend))) eend))) eend))) (econs (apply AND (econs (apply AND (econs (term (bytes "?b")) (econs (term (bytes "<http://e/p>")) eend))) (econs (term (bytes "\"x\"")) eend))) eend))) oend)))))) (ocons ASC (apply OR (econs (apply OR (econs (apply OR (econs (apply AND (econs (apply EQ (econs (apply NOT (econs (term (bytes "?c")) eend)) (econs (term (bytes "\"x y\"@en")) eend))) (econs (term (bytes "\"\"")) eend))) (econs (apply EQ (econs (term (bytes "<http://e/p>")) (econs (term (bytes "\"\"")) eend))) eend))) (econs (apply EQ (econs (apply NOT (econs (term (bytes "?b")) eend)) (econs (term (bytes "?c")) eend))) eend))) (econs (apply EQ (econs (apply NOT (econs (term (bytes "\"\"")) eend)) (econs (apply NOT (econs (term (bytes "\"x y\"@en")) eend)) eend))) eend))) oend)))))
unfolding translate lex pieces onto tokens token is_var1 all_name is_iriref iri_rest utf8 is_rdf_literal is_string is_suffix is_tag unescaped number_of spelled same parse inside at sort all different wide primary unary relational elements_in group_in select_after manner ordered order_clause limits translated elements filters_of simplified joined in_scope triple_variables variables_of keep mem is_var
text6 = refl

text7 : mapped simplified (translate sparql11 (bytes "SELECT DISTINCT ?d WHERE { SELECT ?d WHERE { ?d ?b \"x\" . ?c ?d ?a . } ORDER BY ASC ( ! <http://e/p> || \"1\"^^<http://e/i> && ! <http://e/q> && ?a || ! ?c = ! \"\" && <http://e/p> && \"x\" ) ASC ( ! <http://e/q> || ?a && \"\" = \"1\"^^<http://e/i> || \"x\" && <http://e/p> && ! \"1\"^^<http://e/i> = \"\" ) LIMIT 5 } ")) ≡ some (distinct (project (bytes "?d" ∷ []) (slice (bytes "0") (bytes "5") (project (bytes "?d" ∷ []) (orderby (bgp (tp (bytes "?d") (bytes "?b") (bytes "\"x\"") ∷ tp (bytes "?c") (bytes "?d") (bytes "?a") ∷ [])) (ocons ASC (apply OR (econs (apply OR (econs (apply NOT (econs (term (bytes "<http://e/p>")) eend)) (econs (apply AND (econs (apply AND (econs (term (bytes "\"1\"^^<http://e/i>")) (econs (apply NOT (econs (term (bytes "<http://e/q>")) eend)) eend))) (econs (term (bytes "?a")) eend))) eend))) (econs (apply AND (econs (apply AND (econs (apply EQ (econs (apply NOT (econs (term (bytes "?c")) eend)) (econs (apply NOT (econs (term (bytes "\"\"")) eend)) eend))) (econs (term (bytes "<http://e/p>")) eend))) (econs (term (bytes "\"x\"")) eend))) eend))) (ocons ASC (apply OR (econs (apply OR (econs (apply NOT (econs (term (bytes "<http://e/q>")) eend)) (econs (apply AND (econs (term (bytes "?a")) (econs (apply EQ (econs (term (bytes "\"\"")) (econs (term (bytes "\"1\"^^<http://e/i>")) eend))) eend))) eend))) (econs (apply AND (econs (apply AND (econs (term (bytes "\"x\"")) (econs (term (bytes "<http://e/p>")) eend))) (econs (apply EQ (econs (apply NOT (econs (term (bytes "\"1\"^^<http://e/i>")) eend)) (econs (term (bytes "\"\"")) eend))) eend))) eend))) oend)))))))
unfolding translate lex pieces onto tokens token is_var1 all_name is_iriref iri_rest utf8 is_rdf_literal is_string is_suffix is_tag unescaped number_of spelled same parse inside at sort all different wide primary unary relational elements_in group_in select_after manner ordered order_clause limits translated elements filters_of simplified joined in_scope triple_variables variables_of keep mem is_var
text7 = refl

text8 : mapped simplified (translate sparql11 (bytes "SELECT DISTINCT ?c WHERE { } ORDER BY ASC ( ! ( ! ?a = ! ?d && <http://e/p> && \"1\"^^<http://e/i> || ?b = ?c && ! ?b = ?b ) = \"x y\"@en && \"x y\"@en ) LIMIT 5 OFFSET 7 ")) ≡ some (slice (bytes "7") (bytes "5") (distinct (project (bytes "?c" ∷ []) (orderby (bgp ([])) (ocons ASC (apply AND (econs (apply EQ (econs (apply NOT (econs (apply OR (econs (apply AND (econs (apply AND (econs (apply EQ (econs (apply NOT (econs (term (bytes "?a")) eend)) (econs (apply NOT (econs (term (bytes "?d")) eend)) eend))) (econs (term (bytes "<http://e/p>")) eend))) (econs (term (bytes "\"1\"^^<http://e/i>")) eend))) (econs (apply AND (econs (apply EQ (econs (term (bytes "?b")) (econs (term (bytes "?c")) eend))) (econs (apply EQ (econs (apply NOT (econs (term (bytes "?b")) eend)) (econs (term (bytes "?b")) eend))) eend))) eend))) eend)) (econs (term (bytes "\"x y\"@en")) eend))) (econs (term (bytes "\"x y\"@en")) eend))) oend)))))
unfolding translate lex pieces onto tokens token is_var1 all_name is_iriref iri_rest utf8 is_rdf_literal is_string is_suffix is_tag unescaped number_of spelled same parse inside at sort all different wide primary unary relational elements_in group_in select_after manner ordered order_clause limits translated elements filters_of simplified joined in_scope triple_variables variables_of keep mem is_var
text8 = refl

text9 : mapped simplified (translate sparql10 (bytes "SELECT DISTINCT ?a WHERE { OPTIONAL { <http://e/q> ?d ?a . ?b ?b ?b . } } LIMIT 5 ")) ≡ some (slice (bytes "0") (bytes "5") (distinct (project (bytes "?a" ∷ []) (leftjoin (bgp ([])) (bgp (tp (bytes "<http://e/q>") (bytes "?d") (bytes "?a") ∷ tp (bytes "?b") (bytes "?b") (bytes "?b") ∷ [])) always))))
unfolding translate lex pieces onto tokens token is_var1 all_name is_iriref iri_rest utf8 is_rdf_literal is_string is_suffix is_tag unescaped number_of spelled same parse inside at sort all different wide primary unary relational elements_in group_in select_after manner ordered order_clause limits translated elements filters_of simplified joined in_scope triple_variables variables_of keep mem is_var
text9 = refl

text10 : mapped simplified (translate sparql10 (bytes "SELECT ?c WHERE { OPTIONAL { <http://e/p> ?c ?b . } \"\" ?a <http://e/p> . FILTER ( \"x y\"@en && ?a ) } ORDER BY DESC ( ?b ) LIMIT 5 ")) ≡ some (slice (bytes "0") (bytes "5") (project (bytes "?c" ∷ []) (orderby (filter (join (leftjoin (bgp ([])) (bgp (tp (bytes "<http://e/p>") (bytes "?c") (bytes "?b") ∷ [])) always) (bgp (tp (bytes "\"\"") (bytes "?a") (bytes "<http://e/p>") ∷ []))) (apply AND (econs (term (bytes "\"x y\"@en")) (econs (term (bytes "?a")) eend)))) (ocons DESC (term (bytes "?b")) oend))))
unfolding translate lex pieces onto tokens token is_var1 all_name is_iriref iri_rest utf8 is_rdf_literal is_string is_suffix is_tag unescaped number_of spelled same parse inside at sort all different wide primary unary relational elements_in group_in select_after manner ordered order_clause limits translated elements filters_of simplified joined in_scope triple_variables variables_of keep mem is_var
text10 = refl

text11 : mapped simplified (translate sparql11 (bytes "SELECT REDUCED ?a ?c WHERE { GRAPH <http://e/p> { <http://e/q> ?c ?d . } { ?a <http://e/p> \"\" . } FILTER ( ?b ) MINUS { <http://e/p> <http://e/q> ?c . ?c ?a \"\" . } \"\" <http://e/q> \"\" . } ORDER BY DESC ( ! <http://e/p> || ! <http://e/q> && ! ?a = \"\" && <http://e/p> = \"\" || ! ?c && ! ?d && ?a = ?a ) ")) ≡ some (reduced (project (bytes "?a" ∷ bytes "?c" ∷ []) (orderby (filter (join (minus (join (graph (bytes "<http://e/p>") (bgp (tp (bytes "<http://e/q>") (bytes "?c") (bytes "?d") ∷ []))) (bgp (tp (bytes "?a") (bytes "<http://e/p>") (bytes "\"\"") ∷ []))) (bgp (tp (bytes "<http://e/p>") (bytes "<http://e/q>") (bytes "?c") ∷ tp (bytes "?c") (bytes "?a") (bytes "\"\"") ∷ []))) (bgp (tp (bytes "\"\"") (bytes "<http://e/q>") (bytes "\"\"") ∷ []))) (term (bytes "?b"))) (ocons DESC (apply OR (econs (apply OR (econs (apply NOT (econs (term (bytes "<http://e/p>")) eend)) (econs (apply AND (econs (apply AND (econs (apply NOT (econs (term (bytes "<http://e/q>")) eend)) (econs (apply EQ (econs (apply NOT (econs (term (bytes "?a")) eend)) (econs (term (bytes "\"\"")) eend))) eend))) (econs (apply EQ (econs (term (bytes "<http://e/p>")) (econs (term (bytes "\"\"")) eend))) eend))) eend))) (econs (apply AND (econs (apply AND (econs (apply NOT (econs (term (bytes "?c")) eend)) (econs (apply NOT (econs (term (bytes "?d")) eend)) eend))) (econs (apply EQ (econs (term (bytes "?a")) (econs (term (bytes "?a")) eend))) eend))) eend))) oend))))
unfolding translate lex pieces onto tokens token is_var1 all_name is_iriref iri_rest utf8 is_rdf_literal is_string is_suffix is_tag unescaped number_of spelled same parse inside at sort all different wide primary unary relational elements_in group_in select_after manner ordered order_clause limits translated elements filters_of simplified joined in_scope triple_variables variables_of keep mem is_var
text11 = refl

text12 : mapped simplified (translate sparql11 (bytes "SELECT DISTINCT ?a ?c WHERE { SELECT ?a WHERE { VALUES ( ?b ) { ( <http://e/q> ) } \"1\"^^<http://e/i> ?d ?c . ?a ?a ?d . FILTER ( ( ! ?c = \"x y\"@en || \"x y\"@en = ! \"\" || <http://e/q> = ! <http://e/q> && ?d = ! \"\" ) = ?d ) } OFFSET 7 } LIMIT 5 OFFSET 7 ")) ≡ some (slice (bytes "7") (bytes "5") (distinct (project (bytes "?a" ∷ bytes "?c" ∷ []) (slice (bytes "7") (bytes "-") (project (bytes "?a" ∷ []) (filter (join (values (bytes "?b" ∷ []) ((bytes "<http://e/q>" ∷ []) ∷ [])) (bgp (tp (bytes "\"1\"^^<http://e/i>") (bytes "?d") (bytes "?c") ∷ tp (bytes "?a") (bytes "?a") (bytes "?d") ∷ []))) (apply EQ (econs (apply OR (econs (apply OR (econs (apply EQ (econs (apply NOT (econs (term (bytes "?c")) eend)) (econs (term (bytes "\"x y\"@en")) eend))) (econs (apply EQ (econs (term (bytes "\"x y\"@en")) (econs (apply NOT (econs (term (bytes "\"\"")) eend)) eend))) eend))) (econs (apply AND (econs (apply EQ (econs (term (bytes "<http://e/q>")) (econs (apply NOT (econs (term (bytes "<http://e/q>")) eend)) eend))) (econs (apply EQ (econs (term (bytes "?d")) (econs (apply NOT (econs (term (bytes "\"\"")) eend)) eend))) eend))) eend))) (econs (term (bytes "?d")) eend)))))))))
unfolding translate lex pieces onto tokens token is_var1 all_name is_iriref iri_rest utf8 is_rdf_literal is_string is_suffix is_tag unescaped number_of spelled same parse inside at sort all different wide primary unary relational elements_in group_in select_after manner ordered order_clause limits translated elements filters_of simplified joined in_scope triple_variables variables_of keep mem is_var
text12 = refl

text13 : mapped simplified (translate sparql11 (bytes "SELECT DISTINCT ?b ?c WHERE { \"\" ?d ?a . FILTER ( ( ! ?a && ! \"\" = ?c && ?d ) && \"x y\"@en || ! <http://e/q> || ! ?a && \"x y\"@en ) } ")) ≡ some (distinct (project (bytes "?b" ∷ bytes "?c" ∷ []) (filter (bgp (tp (bytes "\"\"") (bytes "?d") (bytes "?a") ∷ [])) (apply OR (econs (apply OR (econs (apply AND (econs (apply AND (econs (apply AND (econs (apply NOT (econs (term (bytes "?a")) eend)) (econs (apply EQ (econs (apply NOT (econs (term (bytes "\"\"")) eend)) (econs (term (bytes "?c")) eend))) eend))) (econs (term (bytes "?d")) eend))) (econs (term (bytes "\"x y\"@en")) eend))) (econs (apply NOT (econs (term (bytes "<http://e/q>")) eend)) eend))) (econs (apply AND (econs (apply NOT (econs (term (bytes "?a")) eend)) (econs (term (bytes "\"x y\"@en")) eend))) eend))))))
unfolding translate lex pieces onto tokens token is_var1 all_name is_iriref iri_rest utf8 is_rdf_literal is_string is_suffix is_tag unescaped number_of spelled same parse inside at sort all different wide primary unary relational elements_in group_in select_after manner ordered order_clause limits translated elements filters_of simplified joined in_scope triple_variables variables_of keep mem is_var
text13 = refl

text14 : mapped simplified (translate sparql10 (bytes "SELECT DISTINCT ?c WHERE { ?c <http://e/q> ?c . FILTER ( <http://e/q> && ! <http://e/p> ) } ORDER BY DESC ( ! BOUND ( ?b ) && ! ?c && ! ( ! <http://e/p> && ! \"\" && ! \"x y\"@en = ! ?b || ?b || ! ?d && \"\" ) || ! ?c ) ASC ( ! \"x y\"@en || ( \"x y\"@en = ?a ) && \"\" || \"1\"^^<http://e/i> = BOUND ( ?d ) ) LIMIT 5 ")) ≡ some (slice (bytes "0") (bytes "5") (distinct (project (bytes "?c" ∷ []) (orderby (filter (bgp (tp (bytes "?c") (bytes "<http://e/q>") (bytes "?c") ∷ [])) (apply AND (econs (term (bytes "<http://e/q>")) (econs (apply NOT (econs (term (bytes "<http://e/p>")) eend)) eend)))) (ocons DESC (apply OR (econs (apply AND (econs (apply AND (econs (apply NOT (econs (bound (bytes "?b")) eend)) (econs (apply NOT (econs (term (bytes "?c")) eend)) eend))) (econs (apply NOT (econs (apply OR (econs (apply OR (econs (apply AND (econs (apply AND (econs (apply NOT (econs (term (bytes "<http://e/p>")) eend)) (econs (apply NOT (econs (term (bytes "\"\"")) eend)) eend))) (econs (apply EQ (econs (apply NOT (econs (term (bytes "\"x y\"@en")) eend)) (econs (apply NOT (econs (term (bytes "?b")) eend)) eend))) eend))) (econs (term (bytes "?b")) eend))) (econs (apply AND (econs (apply NOT (econs (term (bytes "?d")) eend)) (econs (term (bytes "\"\"")) eend))) eend))) eend)) eend))) (econs (apply NOT (econs (term (bytes "?c")) eend)) eend))) (ocons ASC (apply OR (econs (apply OR (econs (apply NOT (econs (term (bytes "\"x y\"@en")) eend)) (econs (apply AND (econs (apply EQ (econs (term (bytes "\"x y\"@en")) (econs (term (bytes "?a")) eend))) (econs (term (bytes "\"\"")) eend))) eend))) (econs (apply EQ (econs (term (bytes "\"1\"^^<http://e/i>")) (econs (bound (bytes "?d")) eend))) eend))) oend))))))
unfolding translate lex pieces onto tokens token is_var1 all_name is_iriref iri_rest utf8 is_rdf_literal is_string is_suffix is_tag unescaped number_of spelled same parse inside at sort all different wide primary unary relational elements_in group_in select_after manner ordered order_clause limits translated elements filters_of simplified joined in_scope triple_variables variables_of keep mem is_var
text14 = refl

text15 : mapped simplified (translate sparql11 (bytes "SELECT ?c WHERE { ?a ?a <http://e/q> . FILTER ( BOUND ( ?a ) = ! BOUND ( ?c ) || ! <http://e/p> = ! \"\" && \"x\" ) MINUS { <http://e/q> ?c ?c . } OPTIONAL { FILTER ( ?d && \"1\"^^<http://e/i> || ! ?c && ?a || \"\" = \"x\" ) \"x y\"@en ?c ?c . <http://e/p> ?d ?b . VALUES ( ?d ?a ) { } } ?c <http://e/p> ?b . } OFFSET 7 LIMIT 0 ")) ≡ some (slice (bytes "7") (bytes "0") (project (bytes "?c" ∷ []) (filter (join (leftjoin (minus (bgp (tp (bytes "?a") (bytes "?a") (bytes "<http://e/q>") ∷ [])) (bgp (tp (bytes "<http://e/q>") (bytes "?c") (bytes "?c") ∷ []))) (join (bgp (tp (bytes "\"x y\"@en") (bytes "?c") (bytes "?c") ∷ tp (bytes "<http://e/p>") (bytes "?d") (bytes "?b") ∷ [])) (values (bytes "?d" ∷ bytes "?a" ∷ []) ([]))) (provided (apply OR (econs (apply OR (econs (apply AND (econs (term (bytes "?d")) (econs (term (bytes "\"1\"^^<http://e/i>")) eend))) (econs (apply AND (econs (apply NOT (econs (term (bytes "?c")) eend)) (econs (term (bytes "?a")) eend))) eend))) (econs (apply EQ (econs (term (bytes "\"\"")) (econs (term (bytes "\"x\"")) eend))) eend))))) (bgp (tp (bytes "?c") (bytes "<http://e/p>") (bytes "?b") ∷ []))) (apply OR (econs (apply EQ (econs (bound (bytes "?a")) (econs (apply NOT (econs (bound (bytes "?c")) eend)) eend))) (econs (apply AND (econs (apply EQ (econs (apply NOT (econs (term (bytes "<http://e/p>")) eend)) (econs (apply NOT (econs (term (bytes "\"\"")) eend)) eend))) (econs (term (bytes "\"x\"")) eend))) eend))))))
unfolding translate lex pieces onto tokens token is_var1 all_name is_iriref iri_rest utf8 is_rdf_literal is_string is_suffix is_tag unescaped number_of spelled same parse inside at sort all different wide primary unary relational elements_in group_in select_after manner ordered order_clause limits translated elements filters_of simplified joined in_scope triple_variables variables_of keep mem is_var
text15 = refl

text16 : mapped simplified (translate sparql11 (bytes "SELECT REDUCED ?c ?b WHERE { SELECT ?a ?d WHERE { VALUES ( ?a ?d ) { } ?d ?c ?c . VALUES ( ?d ?c ) { ( <http://e/p> \"x y\"@en ) } } } ORDER BY DESC ( sameTerm ( ! ?c && ?c && \"\" || ! <http://e/q> && ! ?c && ! \"x y\"@en , ! <http://e/p> = ?a ) ) ")) ≡ some (reduced (project (bytes "?c" ∷ bytes "?b" ∷ []) (orderby (project (bytes "?a" ∷ bytes "?d" ∷ []) (join (join (values (bytes "?a" ∷ bytes "?d" ∷ []) ([])) (bgp (tp (bytes "?d") (bytes "?c") (bytes "?c") ∷ []))) (values (bytes "?d" ∷ bytes "?c" ∷ []) ((bytes "<http://e/p>" ∷ bytes "\"x y\"@en" ∷ []) ∷ [])))) (ocons DESC (apply SAME (econs (apply OR (econs (apply AND (econs (apply AND (econs (apply NOT (econs (term (bytes "?c")) eend)) (econs (term (bytes "?c")) eend))) (econs (term (bytes "\"\"")) eend))) (econs (apply AND (econs (apply AND (econs (apply NOT (econs (term (bytes "<http://e/q>")) eend)) (econs (apply NOT (econs (term (bytes "?c")) eend)) eend))) (econs (apply NOT (econs (term (bytes "\"x y\"@en")) eend)) eend))) eend))) (econs (apply EQ (econs (apply NOT (econs (term (bytes "<http://e/p>")) eend)) (econs (term (bytes "?a")) eend))) eend))) oend))))
unfolding translate lex pieces onto tokens token is_var1 all_name is_iriref iri_rest utf8 is_rdf_literal is_string is_suffix is_tag unescaped number_of spelled same parse inside at sort all different wide primary unary relational elements_in group_in select_after manner ordered order_clause limits translated elements filters_of simplified joined in_scope triple_variables variables_of keep mem is_var
text16 = refl

text17 : mapped simplified (translate sparql11 (bytes "SELECT ?b WHERE { OPTIONAL { SELECT DISTINCT ?c WHERE { } OFFSET 7 LIMIT 0 } OPTIONAL { MINUS { } \"1\"^^<http://e/i> ?c \"x y\"@en . MINUS { \"\" <http://e/p> \"\" . \"x y\"@en ?c ?d . } MINUS { ?b ?b \"\" . ?c <http://e/q> \"x\" . } FILTER ( \"x y\"@en || ! ?a && <http://e/p> || ?a && ?b ) } } ORDER BY ASC ( ?d || ?b ) LIMIT 5 ")) ≡ some (slice (bytes "0") (bytes "5") (project (bytes "?b" ∷ []) (orderby (leftjoin (leftjoin (bgp ([])) (slice (bytes "7") (bytes "0") (distinct (project (bytes "?c" ∷ []) (bgp ([]))))) always) (minus (minus (join (minus (bgp ([])) (bgp ([]))) (bgp (tp (bytes "\"1\"^^<http://e/i>") (bytes "?c") (bytes "\"x y\"@en") ∷ []))) (bgp (tp (bytes "\"\"") (bytes "<http://e/p>") (bytes "\"\"") ∷ tp (bytes "\"x y\"@en") (bytes "?c") (bytes "?d") ∷ []))) (bgp (tp (bytes "?b") (bytes "?b") (bytes "\"\"") ∷ tp (bytes "?c") (bytes "<http://e/q>") (bytes "\"x\"") ∷ []))) (provided (apply OR (econs (apply OR (econs (term (bytes "\"x y\"@en")) (econs (apply AND (econs (apply NOT (econs (term (bytes "?a")) eend)) (econs (term (bytes "<http://e/p>")) eend))) eend))) (econs (apply AND (econs (term (bytes "?a")) (econs (term (bytes "?b")) eend))) eend))))) (ocons ASC (apply OR (econs (term (bytes "?d")) (econs (term (bytes "?b")) eend))) oend))))
unfolding translate lex pieces onto tokens token is_var1 all_name is_iriref iri_rest utf8 is_rdf_literal is_string is_suffix is_tag unescaped number_of spelled same parse inside at sort all different wide primary unary relational elements_in group_in select_after manner ordered order_clause limits translated elements filters_of simplified joined in_scope triple_variables variables_of keep mem is_var
text17 = refl

text18 : mapped simplified (translate sparql11 (bytes "SELECT DISTINCT ?a WHERE { SELECT REDUCED ?a ?c WHERE { } ORDER BY ASC ( \"\" = ?d && ?d ) DESC ( \"x y\"@en && \"1\"^^<http://e/i> = ?d && ! ?d = ?a || \"\" && \"\" && ! \"\" ) LIMIT 5 } OFFSET 7 LIMIT 0 ")) ≡ some (slice (bytes "7") (bytes "0") (distinct (project (bytes "?a" ∷ []) (slice (bytes "0") (bytes "5") (reduced (project (bytes "?a" ∷ bytes "?c" ∷ []) (orderby (bgp ([])) (ocons ASC (apply AND (econs (apply EQ (econs (term (bytes "\"\"")) (econs (term (bytes "?d")) eend))) (econs (term (bytes "?d")) eend))) (ocons DESC (apply OR (econs (apply AND (econs (apply AND (econs (term (bytes "\"x y\"@en")) (econs (apply EQ (econs (term (bytes "\"1\"^^<http://e/i>")) (econs (term (bytes "?d")) eend))) eend))) (econs (apply EQ (econs (apply NOT (econs (term (bytes "?d")) eend)) (econs (term (bytes "?a")) eend))) eend))) (econs (apply AND (econs (apply AND (econs (term (bytes "\"\"")) (econs (term (bytes "\"\"")) eend))) (econs (apply NOT (econs (term (bytes "\"\"")) eend)) eend))) eend))) oend)))))))))
unfolding translate lex pieces onto tokens token is_var1 all_name is_iriref iri_rest utf8 is_rdf_literal is_string is_suffix is_tag unescaped number_of spelled same parse inside at sort all different wide primary unary relational elements_in group_in select_after manner ordered order_clause limits translated elements filters_of simplified joined in_scope triple_variables variables_of keep mem is_var
text18 = refl

text19 : mapped simplified (translate sparql11 (bytes "SELECT REDUCED ?a ?b WHERE { } ORDER BY DESC ( \"x y\"@en || \"x y\"@en = ! ?c && ?c && <http://e/p> = ?c ) DESC ( ?c || ?b = ?a || \"1\"^^<http://e/i> && <http://e/p> = ! ?b && ! \"x\" ) ")) ≡ some (reduced (project (bytes "?a" ∷ bytes "?b" ∷ []) (orderby (bgp ([])) (ocons DESC (apply OR (econs (term (bytes "\"x y\"@en")) (econs (apply AND (econs (apply AND (econs (apply EQ (econs (term (bytes "\"x y\"@en")) (econs (apply NOT (econs (term (bytes "?c")) eend)) eend))) (econs (term (bytes "?c")) eend))) (econs (apply EQ (econs (term (bytes "<http://e/p>")) (econs (term (bytes "?c")) eend))) eend))) eend))) (ocons DESC (apply OR (econs (apply OR (econs (term (bytes "?c")) (econs (apply EQ (econs (term (bytes "?b")) (econs (term (bytes "?a")) eend))) eend))) (econs (apply AND (econs (apply AND (econs (term (bytes "\"1\"^^<http://e/i>")) (econs (apply EQ (econs (term (bytes "<http://e/p>")) (econs (apply NOT (econs (term (bytes "?b")) eend)) eend))) eend))) (econs (apply NOT (econs (term (bytes "\"x\"")) eend)) eend))) eend))) oend)))))
unfolding translate lex pieces onto tokens token is_var1 all_name is_iriref iri_rest utf8 is_rdf_literal is_string is_suffix is_tag unescaped number_of spelled same parse inside at sort all different wide primary unary relational elements_in group_in select_after manner ordered order_clause limits translated elements filters_of simplified joined in_scope triple_variables variables_of keep mem is_var
text19 = refl

text20 : mapped simplified (translate sparql10 (bytes "SELECT ?c WHERE { ?d ?a ?a . \"x y\"@en ?d <http://e/p> . FILTER ( ?b && ! \"\" && ! ?b ) OPTIONAL { \"x y\"@en <http://e/q> ?d . } } LIMIT 5 OFFSET 7 ")) ≡ some (slice (bytes "7") (bytes "5") (project (bytes "?c" ∷ []) (filter (leftjoin (bgp (tp (bytes "?d") (bytes "?a") (bytes "?a") ∷ tp (bytes "\"x y\"@en") (bytes "?d") (bytes "<http://e/p>") ∷ [])) (bgp (tp (bytes "\"x y\"@en") (bytes "<http://e/q>") (bytes "?d") ∷ [])) always) (apply AND (econs (apply AND (econs (term (bytes "?b")) (econs (apply NOT (econs (term (bytes "\"\"")) eend)) eend))) (econs (apply NOT (econs (term (bytes "?b")) eend)) eend))))))
unfolding translate lex pieces onto tokens token is_var1 all_name is_iriref iri_rest utf8 is_rdf_literal is_string is_suffix is_tag unescaped number_of spelled same parse inside at sort all different wide primary unary relational elements_in group_in select_after manner ordered order_clause limits translated elements filters_of simplified joined in_scope triple_variables variables_of keep mem is_var
text20 = refl

text21 : mapped simplified (translate sparql11 (bytes "SELECT DISTINCT ?b ?a WHERE { FILTER ( ! ?b && BOUND ( ?b ) ) ?a ?c ?b . } ")) ≡ some (distinct (project (bytes "?b" ∷ bytes "?a" ∷ []) (filter (bgp (tp (bytes "?a") (bytes "?c") (bytes "?b") ∷ [])) (apply AND (econs (apply NOT (econs (term (bytes "?b")) eend)) (econs (bound (bytes "?b")) eend))))))
unfolding translate lex pieces onto tokens token is_var1 all_name is_iriref iri_rest utf8 is_rdf_literal is_string is_suffix is_tag unescaped number_of spelled same parse inside at sort all different wide primary unary relational elements_in group_in select_after manner ordered order_clause limits translated elements filters_of simplified joined in_scope triple_variables variables_of keep mem is_var
text21 = refl

text22 : mapped simplified (translate sparql10 (bytes "SELECT DISTINCT ?c WHERE { \"1\"^^<http://e/i> <http://e/q> <http://e/q> . FILTER ( ( ( ! ?c ) ) = ! sameTerm ( BOUND ( ?c ) && ?a && <http://e/p> = ! \"x y\"@en , BOUND ( ?c ) && ?d ) ) \"1\"^^<http://e/i> ?b ?d . FILTER ( ! ( ! ( <http://e/q> && ?a ) && \"1\"^^<http://e/i> = ! \"1\"^^<http://e/i> ) ) } LIMIT 5 OFFSET 7 ")) ≡ some (slice (bytes "7") (bytes "5") (distinct (project (bytes "?c" ∷ []) (filter (bgp (tp (bytes "\"1\"^^<http://e/i>") (bytes "<http://e/q>") (bytes "<http://e/q>") ∷ tp (bytes "\"1\"^^<http://e/i>") (bytes "?b") (bytes "?d") ∷ [])) (apply AND (econs (apply EQ (econs (apply NOT (econs (term (bytes "?c")) eend)) (econs (apply NOT (econs (apply SAME (econs (apply AND (econs (apply AND (econs (bound (bytes "?c")) (econs (term (bytes "?a")) eend))) (econs (apply EQ (econs (term (bytes "<http://e/p>")) (econs (apply NOT (econs (term (bytes "\"x y\"@en")) eend)) eend))) eend))) (econs (apply AND (econs (bound (bytes "?c")) (econs (term (bytes "?d")) eend))) eend))) eend)) eend))) (econs (apply NOT (econs (apply AND (econs (apply NOT (econs (apply AND (econs (term (bytes "<http://e/q>")) (econs (term (bytes "?a")) eend))) eend)) (econs (apply EQ (econs (term (bytes "\"1\"^^<http://e/i>")) (econs (apply NOT (econs (term (bytes "\"1\"^^<http://e/i>")) eend)) eend))) eend))) eend)) eend)))))))
unfolding translate lex pieces onto tokens token is_var1 all_name is_iriref iri_rest utf8 is_rdf_literal is_string is_suffix is_tag unescaped number_of spelled same parse inside at sort all different wide primary unary relational elements_in group_in select_after manner ordered order_clause limits translated elements filters_of simplified joined in_scope triple_variables variables_of keep mem is_var
text22 = refl

text23 : mapped simplified (translate sparql10 (bytes "SELECT DISTINCT ?b WHERE { OPTIONAL { \"1\"^^<http://e/i> ?b <http://e/p> . } OPTIONAL { { ?a <http://e/q> \"1\"^^<http://e/i> . } UNION { <http://e/q> <http://e/p> ?b . \"x y\"@en <http://e/p> \"\" . } ?a <http://e/q> <http://e/q> . \"x y\"@en <http://e/p> ?b . GRAPH <http://e/p> { } } } LIMIT 5 OFFSET 7 ")) ≡ some (slice (bytes "7") (bytes "5") (distinct (project (bytes "?b" ∷ []) (leftjoin (leftjoin (bgp ([])) (bgp (tp (bytes "\"1\"^^<http://e/i>") (bytes "?b") (bytes "<http://e/p>") ∷ [])) always) (join (join (union (bgp (tp (bytes "?a") (bytes "<http://e/q>") (bytes "\"1\"^^<http://e/i>") ∷ [])) (bgp (tp (bytes "<http://e/q>") (bytes "<http://e/p>") (bytes "?b") ∷ tp (bytes "\"x y\"@en") (bytes "<http://e/p>") (bytes "\"\"") ∷ []))) (bgp (tp (bytes "?a") (bytes "<http://e/q>") (bytes "<http://e/q>") ∷ tp (bytes "\"x y\"@en") (bytes "<http://e/p>") (bytes "?b") ∷ []))) (graph (bytes "<http://e/p>") (bgp ([])))) always))))
unfolding translate lex pieces onto tokens token is_var1 all_name is_iriref iri_rest utf8 is_rdf_literal is_string is_suffix is_tag unescaped number_of spelled same parse inside at sort all different wide primary unary relational elements_in group_in select_after manner ordered order_clause limits translated elements filters_of simplified joined in_scope triple_variables variables_of keep mem is_var
text23 = refl

text24 : mapped simplified (translate sparql10 (bytes "SELECT REDUCED ?b ?c WHERE { GRAPH ?c { } FILTER ( ?c || \"1\"^^<http://e/i> && \"x\" && ! <http://e/p> ) ?d <http://e/p> \"x y\"@en . ?a ?a \"x y\"@en . } LIMIT 5 ")) ≡ some (slice (bytes "0") (bytes "5") (reduced (project (bytes "?b" ∷ bytes "?c" ∷ []) (filter (join (graph (bytes "?c") (bgp ([]))) (bgp (tp (bytes "?d") (bytes "<http://e/p>") (bytes "\"x y\"@en") ∷ tp (bytes "?a") (bytes "?a") (bytes "\"x y\"@en") ∷ []))) (apply OR (econs (term (bytes "?c")) (econs (apply AND (econs (apply AND (econs (term (bytes "\"1\"^^<http://e/i>")) (econs (term (bytes "\"x\"")) eend))) (econs (apply NOT (econs (term (bytes "<http://e/p>")) eend)) eend))) eend)))))))
unfolding translate lex pieces onto tokens token is_var1 all_name is_iriref iri_rest utf8 is_rdf_literal is_string is_suffix is_tag unescaped number_of spelled same parse inside at sort all different wide primary unary relational elements_in group_in select_after manner ordered order_clause limits translated elements filters_of simplified joined in_scope triple_variables variables_of keep mem is_var
text24 = refl

text25 : mapped simplified (translate sparql11 (bytes "SELECT ?c ?b WHERE { VALUES ( ?d ?a ) { ( <http://e/p> \"\" ) } } OFFSET 7 ")) ≡ some (slice (bytes "7") (bytes "-") (project (bytes "?c" ∷ bytes "?b" ∷ []) (values (bytes "?d" ∷ bytes "?a" ∷ []) ((bytes "<http://e/p>" ∷ bytes "\"\"" ∷ []) ∷ []))))
unfolding translate lex pieces onto tokens token is_var1 all_name is_iriref iri_rest utf8 is_rdf_literal is_string is_suffix is_tag unescaped number_of spelled same parse inside at sort all different wide primary unary relational elements_in group_in select_after manner ordered order_clause limits translated elements filters_of simplified joined in_scope triple_variables variables_of keep mem is_var
text25 = refl

text26 : mapped simplified (translate sparql10 (bytes "SELECT DISTINCT ?a WHERE { { \"x\" ?d ?d . } { ?d <http://e/p> \"1\"^^<http://e/i> . <http://e/q> ?a \"x y\"@en . } UNION { } GRAPH <http://e/p> { } } ORDER BY ASC ( \"\" || ?a || <http://e/q> = \"1\"^^<http://e/i> ) ASC ( <http://e/q> || ! <http://e/p> = ?a || ! <http://e/p> && ?b ) ")) ≡ some (distinct (project (bytes "?a" ∷ []) (orderby (join (join (bgp (tp (bytes "\"x\"") (bytes "?d") (bytes "?d") ∷ [])) (union (bgp (tp (bytes "?d") (bytes "<http://e/p>") (bytes "\"1\"^^<http://e/i>") ∷ tp (bytes "<http://e/q>") (bytes "?a") (bytes "\"x y\"@en") ∷ [])) (bgp ([])))) (graph (bytes "<http://e/p>") (bgp ([])))) (ocons ASC (apply OR (econs (apply OR (econs (term (bytes "\"\"")) (econs (term (bytes "?a")) eend))) (econs (apply EQ (econs (term (bytes "<http://e/q>")) (econs (term (bytes "\"1\"^^<http://e/i>")) eend))) eend))) (ocons ASC (apply OR (econs (apply OR (econs (term (bytes "<http://e/q>")) (econs (apply EQ (econs (apply NOT (econs (term (bytes "<http://e/p>")) eend)) (econs (term (bytes "?a")) eend))) eend))) (econs (apply AND (econs (apply NOT (econs (term (bytes "<http://e/p>")) eend)) (econs (term (bytes "?b")) eend))) eend))) oend)))))
unfolding translate lex pieces onto tokens token is_var1 all_name is_iriref iri_rest utf8 is_rdf_literal is_string is_suffix is_tag unescaped number_of spelled same parse inside at sort all different wide primary unary relational elements_in group_in select_after manner ordered order_clause limits translated elements filters_of simplified joined in_scope triple_variables variables_of keep mem is_var
text26 = refl

text27 : mapped simplified (translate sparql11 (bytes "SELECT DISTINCT ?d ?c WHERE { SELECT DISTINCT ?d ?b WHERE { <http://e/q> ?c ?d . OPTIONAL { ?b <http://e/p> \"\" . } OPTIONAL { ?a ?c ?d . <http://e/p> <http://e/p> \"\" . } OPTIONAL { } } } OFFSET 7 ")) ≡ some (slice (bytes "7") (bytes "-") (distinct (project (bytes "?d" ∷ bytes "?c" ∷ []) (distinct (project (bytes "?d" ∷ bytes "?b" ∷ []) (leftjoin (leftjoin (leftjoin (bgp (tp (bytes "<http://e/q>") (bytes "?c") (bytes "?d") ∷ [])) (bgp (tp (bytes "?b") (bytes "<http://e/p>") (bytes "\"\"") ∷ [])) always) (bgp (tp (bytes "?a") (bytes "?c") (bytes "?d") ∷ tp (bytes "<http://e/p>") (bytes "<http://e/p>") (bytes "\"\"") ∷ [])) always) (bgp ([])) always))))))
unfolding translate lex pieces onto tokens token is_var1 all_name is_iriref iri_rest utf8 is_rdf_literal is_string is_suffix is_tag unescaped number_of spelled same parse inside at sort all different wide primary unary relational elements_in group_in select_after manner ordered order_clause limits translated elements filters_of simplified joined in_scope triple_variables variables_of keep mem is_var
text27 = refl

text28 : mapped simplified (translate sparql11 (bytes "SELECT DISTINCT ?c ?d WHERE { ?b ?a \"x y\"@en . BIND ( <http://e/q> || ! ( ! <http://e/p> = ! ?b && ?a ) AS ?x ) } LIMIT 5 OFFSET 7 ")) ≡ some (slice (bytes "7") (bytes "5") (distinct (project (bytes "?c" ∷ bytes "?d" ∷ []) (extend (bytes "?x") (bgp (tp (bytes "?b") (bytes "?a") (bytes "\"x y\"@en") ∷ [])) (apply OR (econs (term (bytes "<http://e/q>")) (econs (apply NOT (econs (apply AND (econs (apply EQ (econs (apply NOT (econs (term (bytes "<http://e/p>")) eend)) (econs (apply NOT (econs (term (bytes "?b")) eend)) eend))) (econs (term (bytes "?a")) eend))) eend)) eend)))))))
unfolding translate lex pieces onto tokens token is_var1 all_name is_iriref iri_rest utf8 is_rdf_literal is_string is_suffix is_tag unescaped number_of spelled same parse inside at sort all different wide primary unary relational elements_in group_in select_after manner ordered order_clause limits translated elements filters_of simplified joined in_scope triple_variables variables_of keep mem is_var
text28 = refl

text29 : mapped simplified (translate sparql10 (bytes "SELECT REDUCED ?a WHERE { GRAPH ?a { <http://e/q> ?d <http://e/p> . } GRAPH ?b { ?c ?c ?a . } ?a ?d \"1\"^^<http://e/i> . GRAPH ?a { <http://e/p> <http://e/p> \"1\"^^<http://e/i> . ?c <http://e/p> \"x y\"@en . } } OFFSET 7 ")) ≡ some (slice (bytes "7") (bytes "-") (reduced (project (bytes "?a" ∷ []) (join (join (join (graph (bytes "?a") (bgp (tp (bytes "<http://e/q>") (bytes "?d") (bytes "<http://e/p>") ∷ []))) (graph (bytes "?b") (bgp (tp (bytes "?c") (bytes "?c") (bytes "?a") ∷ [])))) (bgp (tp (bytes "?a") (bytes "?d") (bytes "\"1\"^^<http://e/i>") ∷ []))) (graph (bytes "?a") (bgp (tp (bytes "<http://e/p>") (bytes "<http://e/p>") (bytes "\"1\"^^<http://e/i>") ∷ tp (bytes "?c") (bytes "<http://e/p>") (bytes "\"x y\"@en") ∷ [])))))))
unfolding translate lex pieces onto tokens token is_var1 all_name is_iriref iri_rest utf8 is_rdf_literal is_string is_suffix is_tag unescaped number_of spelled same parse inside at sort all different wide primary unary relational elements_in group_in select_after manner ordered order_clause limits translated elements filters_of simplified joined in_scope triple_variables variables_of keep mem is_var
text29 = refl

text30 : mapped simplified (translate sparql10 (bytes "SELECT DISTINCT ?c ?b WHERE { { FILTER ( ! <http://e/q> = \"\" ) ?a ?a \"1\"^^<http://e/i> . \"1\"^^<http://e/i> ?a ?c . } } LIMIT 5 ")) ≡ some (slice (bytes "0") (bytes "5") (distinct (project (bytes "?c" ∷ bytes "?b" ∷ []) (filter (bgp (tp (bytes "?a") (bytes "?a") (bytes "\"1\"^^<http://e/i>") ∷ tp (bytes "\"1\"^^<http://e/i>") (bytes "?a") (bytes "?c") ∷ [])) (apply EQ (econs (apply NOT (econs (term (bytes "<http://e/q>")) eend)) (econs (term (bytes "\"\"")) eend)))))))
unfolding translate lex pieces onto tokens token is_var1 all_name is_iriref iri_rest utf8 is_rdf_literal is_string is_suffix is_tag unescaped number_of spelled same parse inside at sort all different wide primary unary relational elements_in group_in select_after manner ordered order_clause limits translated elements filters_of simplified joined in_scope triple_variables variables_of keep mem is_var
text30 = refl

text31 : mapped simplified (translate sparql11 (bytes "SELECT ?a WHERE { FILTER ( ?b = ! ?c && <http://e/p> ) \"\" ?c ?c . OPTIONAL { } } OFFSET 7 LIMIT 0 ")) ≡ some (slice (bytes "7") (bytes "0") (project (bytes "?a" ∷ []) (filter (leftjoin (bgp (tp (bytes "\"\"") (bytes "?c") (bytes "?c") ∷ [])) (bgp ([])) always) (apply AND (econs (apply EQ (econs (term (bytes "?b")) (econs (apply NOT (econs (term (bytes "?c")) eend)) eend))) (econs (term (bytes "<http://e/p>")) eend))))))
unfolding translate lex pieces onto tokens token is_var1 all_name is_iriref iri_rest utf8 is_rdf_literal is_string is_suffix is_tag unescaped number_of spelled same parse inside at sort all different wide primary unary relational elements_in group_in select_after manner ordered order_clause limits translated elements filters_of simplified joined in_scope triple_variables variables_of keep mem is_var
text31 = refl

text32 : mapped simplified (translate sparql10 (bytes "SELECT REDUCED ?a WHERE { \"x\" ?c <http://e/q> . ?c <http://e/p> <http://e/q> . FILTER ( ( ?d ) && ?a && ! \"1\"^^<http://e/i> ) } ORDER BY ASC ( ( ?c = ! <http://e/q> && \"x\" && ! ?c = ?a ) && \"\" = <http://e/p> && \"x y\"@en = ?c || \"x y\"@en = ?a && ! <http://e/p> || ! ?c ) OFFSET 7 LIMIT 0 ")) ≡ some (slice (bytes "7") (bytes "0") (reduced (project (bytes "?a" ∷ []) (orderby (filter (bgp (tp (bytes "\"x\"") (bytes "?c") (bytes "<http://e/q>") ∷ tp (bytes "?c") (bytes "<http://e/p>") (bytes "<http://e/q>") ∷ [])) (apply AND (econs (apply AND (econs (term (bytes "?d")) (econs (term (bytes "?a")) eend))) (econs (apply NOT (econs (term (bytes "\"1\"^^<http://e/i>")) eend)) eend)))) (ocons ASC (apply OR (econs (apply OR (econs (apply AND (econs (apply AND (econs (apply AND (econs (apply AND (econs (apply EQ (econs (term (bytes "?c")) (econs (apply NOT (econs (term (bytes "<http://e/q>")) eend)) eend))) (econs (term (bytes "\"x\"")) eend))) (econs (apply EQ (econs (apply NOT (econs (term (bytes "?c")) eend)) (econs (term (bytes "?a")) eend))) eend))) (econs (apply EQ (econs (term (bytes "\"\"")) (econs (term (bytes "<http://e/p>")) eend))) eend))) (econs (apply EQ (econs (term (bytes "\"x y\"@en")) (econs (term (bytes "?c")) eend))) eend))) (econs (apply AND (econs (apply EQ (econs (term (bytes "\"x y\"@en")) (econs (term (bytes "?a")) eend))) (econs (apply NOT (econs (term (bytes "<http://e/p>")) eend)) eend))) eend))) (econs (apply NOT (econs (term (bytes "?c")) eend)) eend))) oend)))))
unfolding translate lex pieces onto tokens token is_var1 all_name is_iriref iri_rest utf8 is_rdf_literal is_string is_suffix is_tag unescaped number_of spelled same parse inside at sort all different wide primary unary relational elements_in group_in select_after manner ordered order_clause limits translated elements filters_of simplified joined in_scope triple_variables variables_of keep mem is_var
text32 = refl

text33 : mapped simplified (translate sparql11 (bytes "SELECT REDUCED ?b ?c WHERE { SELECT REDUCED ?b WHERE { OPTIONAL { { ?c ?c ?b . } UNION { } UNION { } } } LIMIT 5 } LIMIT 5 OFFSET 7 ")) ≡ some (slice (bytes "7") (bytes "5") (reduced (project (bytes "?b" ∷ bytes "?c" ∷ []) (slice (bytes "0") (bytes "5") (reduced (project (bytes "?b" ∷ []) (leftjoin (bgp ([])) (union (union (bgp (tp (bytes "?c") (bytes "?c") (bytes "?b") ∷ [])) (bgp ([]))) (bgp ([]))) always)))))))
unfolding translate lex pieces onto tokens token is_var1 all_name is_iriref iri_rest utf8 is_rdf_literal is_string is_suffix is_tag unescaped number_of spelled same parse inside at sort all different wide primary unary relational elements_in group_in select_after manner ordered order_clause limits translated elements filters_of simplified joined in_scope triple_variables variables_of keep mem is_var
text33 = refl

text34 : mapped simplified (translate sparql11 (bytes "SELECT REDUCED ?c WHERE { FILTER ( \"\" = ! sameTerm ( \"\" && <http://e/q> = \"1\"^^<http://e/i> || ! <http://e/q> = ! ?a , \"x y\"@en && ?d && \"x\" || \"x y\"@en && ?b ) ) \"x\" ?c <http://e/p> . \"x\" <http://e/p> ?b . \"\" ?b <http://e/q> . } OFFSET 7 LIMIT 0 ")) ≡ some (slice (bytes "7") (bytes "0") (reduced (project (bytes "?c" ∷ []) (filter (bgp (tp (bytes "\"x\"") (bytes "?c") (bytes "<http://e/p>") ∷ tp (bytes "\"x\"") (bytes "<http://e/p>") (bytes "?b") ∷ tp (bytes "\"\"") (bytes "?b") (bytes "<http://e/q>") ∷ [])) (apply EQ (econs (term (bytes "\"\"")) (econs (apply NOT (econs (apply SAME (econs (apply OR (econs (apply AND (econs (term (bytes "\"\"")) (econs (apply EQ (econs (term (bytes "<http://e/q>")) (econs (term (bytes "\"1\"^^<http://e/i>")) eend))) eend))) (econs (apply EQ (econs (apply NOT (econs (term (bytes "<http://e/q>")) eend)) (econs (apply NOT (econs (term (bytes "?a")) eend)) eend))) eend))) (econs (apply OR (econs (apply AND (econs (apply AND (econs (term (bytes "\"x y\"@en")) (econs (term (bytes "?d")) eend))) (econs (term (bytes "\"x\"")) eend))) (econs (apply AND (econs (term (bytes "\"x y\"@en")) (econs (term (bytes "?b")) eend))) eend))) eend))) eend)) eend)))))))
unfolding translate lex pieces onto tokens token is_var1 all_name is_iriref iri_rest utf8 is_rdf_literal is_string is_suffix is_tag unescaped number_of spelled same parse inside at sort all different wide primary unary relational elements_in group_in select_after manner ordered order_clause limits translated elements filters_of simplified joined in_scope triple_variables variables_of keep mem is_var
text34 = refl

text35 : mapped simplified (translate sparql11 (bytes "SELECT ?d ?c WHERE { FILTER ( ! ?a = ! ?b || ! ?a && <http://e/p> = ! ?d && ?d ) GRAPH ?d { } \"x\" ?b <http://e/p> . } ORDER BY ASC ( \"x y\"@en && \"x y\"@en || ! ?a ) ")) ≡ some (project (bytes "?d" ∷ bytes "?c" ∷ []) (orderby (filter (join (graph (bytes "?d") (bgp ([]))) (bgp (tp (bytes "\"x\"") (bytes "?b") (bytes "<http://e/p>") ∷ []))) (apply OR (econs (apply EQ (econs (apply NOT (econs (term (bytes "?a")) eend)) (econs (apply NOT (econs (term (bytes "?b")) eend)) eend))) (econs (apply AND (econs (apply AND (econs (apply NOT (econs (term (bytes "?a")) eend)) (econs (apply EQ (econs (term (bytes "<http://e/p>")) (econs (apply NOT (econs (term (bytes "?d")) eend)) eend))) eend))) (econs (term (bytes "?d")) eend))) eend)))) (ocons ASC (apply OR (econs (apply AND (econs (term (bytes "\"x y\"@en")) (econs (term (bytes "\"x y\"@en")) eend))) (econs (apply NOT (econs (term (bytes "?a")) eend)) eend))) oend)))
unfolding translate lex pieces onto tokens token is_var1 all_name is_iriref iri_rest utf8 is_rdf_literal is_string is_suffix is_tag unescaped number_of spelled same parse inside at sort all different wide primary unary relational elements_in group_in select_after manner ordered order_clause limits translated elements filters_of simplified joined in_scope triple_variables variables_of keep mem is_var
text35 = refl

text36 : mapped simplified (translate sparql11 (bytes "SELECT DISTINCT ?d WHERE { SELECT REDUCED ?a ?d WHERE { <http://e/p> <http://e/p> <http://e/p> . { } } } ")) ≡ some (distinct (project (bytes "?d" ∷ []) (reduced (project (bytes "?a" ∷ bytes "?d" ∷ []) (bgp (tp (bytes "<http://e/p>") (bytes "<http://e/p>") (bytes "<http://e/p>") ∷ []))))))
unfolding translate lex pieces onto tokens token is_var1 all_name is_iriref iri_rest utf8 is_rdf_literal is_string is_suffix is_tag unescaped number_of spelled same parse inside at sort all different wide primary unary relational elements_in group_in select_after manner ordered order_clause limits translated elements filters_of simplified joined in_scope triple_variables variables_of keep mem is_var
text36 = refl

text37 : mapped simplified (translate sparql11 (bytes "SELECT REDUCED ?d WHERE { BIND ( ! \"x\" AS ?x ) } OFFSET 7 LIMIT 0 ")) ≡ some (slice (bytes "7") (bytes "0") (reduced (project (bytes "?d" ∷ []) (extend (bytes "?x") (bgp ([])) (apply NOT (econs (term (bytes "\"x\"")) eend))))))
unfolding translate lex pieces onto tokens token is_var1 all_name is_iriref iri_rest utf8 is_rdf_literal is_string is_suffix is_tag unescaped number_of spelled same parse inside at sort all different wide primary unary relational elements_in group_in select_after manner ordered order_clause limits translated elements filters_of simplified joined in_scope triple_variables variables_of keep mem is_var
text37 = refl

text38 : mapped simplified (translate sparql11 (bytes "SELECT DISTINCT ?d WHERE { SELECT DISTINCT ?c ?d WHERE { SELECT ?c WHERE { ?c ?b ?a . } OFFSET 7 } ORDER BY ASC ( \"\" || <http://e/q> && ?a = ?d ) DESC ( ! <http://e/q> || <http://e/q> ) LIMIT 5 } ORDER BY ASC ( BOUND ( ?a ) || \"x y\"@en || \"x y\"@en && ?d && ?d = \"1\"^^<http://e/i> ) LIMIT 5 ")) ≡ some (slice (bytes "0") (bytes "5") (distinct (project (bytes "?d" ∷ []) (orderby (slice (bytes "0") (bytes "5") (distinct (project (bytes "?c" ∷ bytes "?d" ∷ []) (orderby (slice (bytes "7") (bytes "-") (project (bytes "?c" ∷ []) (bgp (tp (bytes "?c") (bytes "?b") (bytes "?a") ∷ [])))) (ocons ASC (apply OR (econs (term (bytes "\"\"")) (econs (apply AND (econs (term (bytes "<http://e/q>")) (econs (apply EQ (econs (term (bytes "?a")) (econs (term (bytes "?d")) eend))) eend))) eend))) (ocons DESC (apply OR (econs (apply NOT (econs (term (bytes "<http://e/q>")) eend)) (econs (term (bytes "<http://e/q>")) eend))) oend)))))) (ocons ASC (apply OR (econs (apply OR (econs (bound (bytes "?a")) (econs (term (bytes "\"x y\"@en")) eend))) (econs (apply AND (econs (apply AND (econs (term (bytes "\"x y\"@en")) (econs (term (bytes "?d")) eend))) (econs (apply EQ (econs (term (bytes "?d")) (econs (term (bytes "\"1\"^^<http://e/i>")) eend))) eend))) eend))) oend)))))
unfolding translate lex pieces onto tokens token is_var1 all_name is_iriref iri_rest utf8 is_rdf_literal is_string is_suffix is_tag unescaped number_of spelled same parse inside at sort all different wide primary unary relational elements_in group_in select_after manner ordered order_clause limits translated elements filters_of simplified joined in_scope triple_variables variables_of keep mem is_var
text38 = refl

text39 : mapped simplified (translate sparql10 (bytes "SELECT ?a ?d WHERE { ?b ?a ?b . \"x y\"@en ?c ?c . } ORDER BY DESC ( ! ( ! ( ?a || ?d && \"\" && <http://e/p> ) || \"x y\"@en = ?b ) || <http://e/q> ) ")) ≡ some (project (bytes "?a" ∷ bytes "?d" ∷ []) (orderby (bgp (tp (bytes "?b") (bytes "?a") (bytes "?b") ∷ tp (bytes "\"x y\"@en") (bytes "?c") (bytes "?c") ∷ [])) (ocons DESC (apply OR (econs (apply NOT (econs (apply OR (econs (apply NOT (econs (apply OR (econs (term (bytes "?a")) (econs (apply AND (econs (apply AND (econs (term (bytes "?d")) (econs (term (bytes "\"\"")) eend))) (econs (term (bytes "<http://e/p>")) eend))) eend))) eend)) (econs (apply EQ (econs (term (bytes "\"x y\"@en")) (econs (term (bytes "?b")) eend))) eend))) eend)) (econs (term (bytes "<http://e/q>")) eend))) oend)))
unfolding translate lex pieces onto tokens token is_var1 all_name is_iriref iri_rest utf8 is_rdf_literal is_string is_suffix is_tag unescaped number_of spelled same parse inside at sort all different wide primary unary relational elements_in group_in select_after manner ordered order_clause limits translated elements filters_of simplified joined in_scope triple_variables variables_of keep mem is_var
text39 = refl

text40 : mapped simplified (translate sparql11 (bytes "SELECT DISTINCT ?a WHERE { MINUS { } VALUES ( ?a ) { ( \"x\" ) } GRAPH ?d { ?c <http://e/q> \"1\"^^<http://e/i> . } } LIMIT 5 ")) ≡ some (slice (bytes "0") (bytes "5") (distinct (project (bytes "?a" ∷ []) (join (join (minus (bgp ([])) (bgp ([]))) (values (bytes "?a" ∷ []) ((bytes "\"x\"" ∷ []) ∷ []))) (graph (bytes "?d") (bgp (tp (bytes "?c") (bytes "<http://e/q>") (bytes "\"1\"^^<http://e/i>") ∷ [])))))))
unfolding translate lex pieces onto tokens token is_var1 all_name is_iriref iri_rest utf8 is_rdf_literal is_string is_suffix is_tag unescaped number_of spelled same parse inside at sort all different wide primary unary relational elements_in group_in select_after manner ordered order_clause limits translated elements filters_of simplified joined in_scope triple_variables variables_of keep mem is_var
text40 = refl

text41 : mapped simplified (translate sparql11 (bytes "SELECT REDUCED ?a ?c WHERE { FILTER ( ( ! <http://e/q> ) = \"\" ) MINUS { } ?d ?c \"x\" . } ")) ≡ some (reduced (project (bytes "?a" ∷ bytes "?c" ∷ []) (filter (join (minus (bgp ([])) (bgp ([]))) (bgp (tp (bytes "?d") (bytes "?c") (bytes "\"x\"") ∷ []))) (apply EQ (econs (apply NOT (econs (term (bytes "<http://e/q>")) eend)) (econs (term (bytes "\"\"")) eend))))))
unfolding translate lex pieces onto tokens token is_var1 all_name is_iriref iri_rest utf8 is_rdf_literal is_string is_suffix is_tag unescaped number_of spelled same parse inside at sort all different wide primary unary relational elements_in group_in select_after manner ordered order_clause limits translated elements filters_of simplified joined in_scope triple_variables variables_of keep mem is_var
text41 = refl

text42 : mapped simplified (translate sparql10 (bytes "SELECT DISTINCT ?b WHERE { GRAPH ?d { { } UNION { \"x y\"@en <http://e/p> \"x\" . } UNION { } } } LIMIT 5 OFFSET 7 ")) ≡ some (slice (bytes "7") (bytes "5") (distinct (project (bytes "?b" ∷ []) (graph (bytes "?d") (union (union (bgp ([])) (bgp (tp (bytes "\"x y\"@en") (bytes "<http://e/p>") (bytes "\"x\"") ∷ []))) (bgp ([])))))))
unfolding translate lex pieces onto tokens token is_var1 all_name is_iriref iri_rest utf8 is_rdf_literal is_string is_suffix is_tag unescaped number_of spelled same parse inside at sort all different wide primary unary relational elements_in group_in select_after manner ordered order_clause limits translated elements filters_of simplified joined in_scope triple_variables variables_of keep mem is_var
text42 = refl

text43 : mapped simplified (translate sparql11 (bytes "SELECT ?b WHERE { SELECT DISTINCT ?a ?d WHERE { } } OFFSET 7 ")) ≡ some (slice (bytes "7") (bytes "-") (project (bytes "?b" ∷ []) (distinct (project (bytes "?a" ∷ bytes "?d" ∷ []) (bgp ([]))))))
unfolding translate lex pieces onto tokens token is_var1 all_name is_iriref iri_rest utf8 is_rdf_literal is_string is_suffix is_tag unescaped number_of spelled same parse inside at sort all different wide primary unary relational elements_in group_in select_after manner ordered order_clause limits translated elements filters_of simplified joined in_scope triple_variables variables_of keep mem is_var
text43 = refl

text44 : mapped simplified (translate sparql11 (bytes "SELECT DISTINCT ?a ?c WHERE { SELECT DISTINCT ?c WHERE { MINUS { ?b <http://e/p> <http://e/q> . <http://e/p> ?a ?a . } OPTIONAL { } } ORDER BY ASC ( ?b && <http://e/p> || \"1\"^^<http://e/i> = \"x\" && ?c = \"\" ) LIMIT 5 OFFSET 7 } ")) ≡ some (distinct (project (bytes "?a" ∷ bytes "?c" ∷ []) (slice (bytes "7") (bytes "5") (distinct (project (bytes "?c" ∷ []) (orderby (leftjoin (minus (bgp ([])) (bgp (tp (bytes "?b") (bytes "<http://e/p>") (bytes "<http://e/q>") ∷ tp (bytes "<http://e/p>") (bytes "?a") (bytes "?a") ∷ []))) (bgp ([])) always) (ocons ASC (apply OR (econs (apply AND (econs (term (bytes "?b")) (econs (term (bytes "<http://e/p>")) eend))) (econs (apply AND (econs (apply EQ (econs (term (bytes "\"1\"^^<http://e/i>")) (econs (term (bytes "\"x\"")) eend))) (econs (apply EQ (econs (term (bytes "?c")) (econs (term (bytes "\"\"")) eend))) eend))) eend))) oend)))))))
unfolding translate lex pieces onto tokens token is_var1 all_name is_iriref iri_rest utf8 is_rdf_literal is_string is_suffix is_tag unescaped number_of spelled same parse inside at sort all different wide primary unary relational elements_in group_in select_after manner ordered order_clause limits translated elements filters_of simplified joined in_scope triple_variables variables_of keep mem is_var
text44 = refl

text45 : mapped simplified (translate sparql11 (bytes "SELECT ?c ?d WHERE { { } UNION { ?b ?d \"1\"^^<http://e/i> . } } ")) ≡ some (project (bytes "?c" ∷ bytes "?d" ∷ []) (union (bgp ([])) (bgp (tp (bytes "?b") (bytes "?d") (bytes "\"1\"^^<http://e/i>") ∷ []))))
unfolding translate lex pieces onto tokens token is_var1 all_name is_iriref iri_rest utf8 is_rdf_literal is_string is_suffix is_tag unescaped number_of spelled same parse inside at sort all different wide primary unary relational elements_in group_in select_after manner ordered order_clause limits translated elements filters_of simplified joined in_scope triple_variables variables_of keep mem is_var
text45 = refl

text46 : mapped simplified (translate sparql10 (bytes "SELECT REDUCED ?d ?c WHERE { OPTIONAL { } ?a ?b \"x\" . GRAPH ?d { } } LIMIT 5 ")) ≡ some (slice (bytes "0") (bytes "5") (reduced (project (bytes "?d" ∷ bytes "?c" ∷ []) (join (join (leftjoin (bgp ([])) (bgp ([])) always) (bgp (tp (bytes "?a") (bytes "?b") (bytes "\"x\"") ∷ []))) (graph (bytes "?d") (bgp ([])))))))
unfolding translate lex pieces onto tokens token is_var1 all_name is_iriref iri_rest utf8 is_rdf_literal is_string is_suffix is_tag unescaped number_of spelled same parse inside at sort all different wide primary unary relational elements_in group_in select_after manner ordered order_clause limits translated elements filters_of simplified joined in_scope triple_variables variables_of keep mem is_var
text46 = refl

text47 : mapped simplified (translate sparql11 (bytes "SELECT REDUCED ?d ?a WHERE { SELECT DISTINCT ?c WHERE { OPTIONAL { GRAPH ?d { <http://e/q> ?c <http://e/q> . ?b <http://e/p> ?d . } } } OFFSET 7 LIMIT 0 } LIMIT 5 OFFSET 7 ")) ≡ some (slice (bytes "7") (bytes "5") (reduced (project (bytes "?d" ∷ bytes "?a" ∷ []) (slice (bytes "7") (bytes "0") (distinct (project (bytes "?c" ∷ []) (leftjoin (bgp ([])) (graph (bytes "?d") (bgp (tp (bytes "<http://e/q>") (bytes "?c") (bytes "<http://e/q>") ∷ tp (bytes "?b") (bytes "<http://e/p>") (bytes "?d") ∷ []))) always)))))))
unfolding translate lex pieces onto tokens token is_var1 all_name is_iriref iri_rest utf8 is_rdf_literal is_string is_suffix is_tag unescaped number_of spelled same parse inside at sort all different wide primary unary relational elements_in group_in select_after manner ordered order_clause limits translated elements filters_of simplified joined in_scope triple_variables variables_of keep mem is_var
text47 = refl

text48 : mapped simplified (translate sparql10 (bytes "SELECT ?c ?a WHERE { { } UNION { \"1\"^^<http://e/i> ?d \"x y\"@en . \"x y\"@en ?c <http://e/p> . } BIND ( ?b = ! \"x y\"@en && <http://e/p> || <http://e/q> AS ?y ) GRAPH <http://e/p> { \"x y\"@en ?c <http://e/p> . ?c <http://e/p> ?a . } } ORDER BY DESC ( ! <http://e/p> && <http://e/q> || ?c && \"1\"^^<http://e/i> && ! ?d = ?b || ! \"x\" && <http://e/p> && \"\" = ! ?d ) ASC ( ! \"x y\"@en ) ")) ≡ none
unfolding translate lex pieces onto tokens token is_var1 all_name is_iriref iri_rest utf8 is_rdf_literal is_string is_suffix is_tag unescaped number_of spelled same parse inside at sort all different wide primary unary relational elements_in group_in select_after manner ordered order_clause limits translated elements filters_of simplified joined in_scope triple_variables variables_of keep mem is_var
text48 = refl

text49 : mapped simplified (translate sparql10 (bytes "SELECT REDUCED ?b ?c WHERE { } ORDER BY ASC ( ! ( sameTerm ( ! ?a = ! \"x\" && ! ?a = ! ?d && ! <http://e/p> = <http://e/p> || \"1\"^^<http://e/i> && \"x\" && ! ?a = ! ?d || ?b && \"1\"^^<http://e/i> && ?c , ?a || \"x\" || ?c && <http://e/p> ) ) ) LIMIT 5 ")) ≡ some (slice (bytes "0") (bytes "5") (reduced (project (bytes "?b" ∷ bytes "?c" ∷ []) (orderby (bgp ([])) (ocons ASC (apply NOT (econs (apply SAME (econs (apply OR (econs (apply OR (econs (apply AND (econs (apply AND (econs (apply EQ (econs (apply NOT (econs (term (bytes "?a")) eend)) (econs (apply NOT (econs (term (bytes "\"x\"")) eend)) eend))) (econs (apply EQ (econs (apply NOT (econs (term (bytes "?a")) eend)) (econs (apply NOT (econs (term (bytes "?d")) eend)) eend))) eend))) (econs (apply EQ (econs (apply NOT (econs (term (bytes "<http://e/p>")) eend)) (econs (term (bytes "<http://e/p>")) eend))) eend))) (econs (apply AND (econs (apply AND (econs (term (bytes "\"1\"^^<http://e/i>")) (econs (term (bytes "\"x\"")) eend))) (econs (apply EQ (econs (apply NOT (econs (term (bytes "?a")) eend)) (econs (apply NOT (econs (term (bytes "?d")) eend)) eend))) eend))) eend))) (econs (apply AND (econs (apply AND (econs (term (bytes "?b")) (econs (term (bytes "\"1\"^^<http://e/i>")) eend))) (econs (term (bytes "?c")) eend))) eend))) (econs (apply OR (econs (apply OR (econs (term (bytes "?a")) (econs (term (bytes "\"x\"")) eend))) (econs (apply AND (econs (term (bytes "?c")) (econs (term (bytes "<http://e/p>")) eend))) eend))) eend))) eend)) oend)))))
unfolding translate lex pieces onto tokens token is_var1 all_name is_iriref iri_rest utf8 is_rdf_literal is_string is_suffix is_tag unescaped number_of spelled same parse inside at sort all different wide primary unary relational elements_in group_in select_after manner ordered order_clause limits translated elements filters_of simplified joined in_scope triple_variables variables_of keep mem is_var
text49 = refl

text50 : mapped simplified (translate sparql10 (bytes "SELECT REDUCED ?b WHERE { SELECT ?b ?d WHERE { } LIMIT 5 OFFSET 7 } ")) ≡ none
unfolding translate lex pieces onto tokens token is_var1 all_name is_iriref iri_rest utf8 is_rdf_literal is_string is_suffix is_tag unescaped number_of spelled same parse inside at sort all different wide primary unary relational elements_in group_in select_after manner ordered order_clause limits translated elements filters_of simplified joined in_scope triple_variables variables_of keep mem is_var
text50 = refl

text51 : mapped simplified (translate sparql10 (bytes "SELECT DISTINCT ?b WHERE { SELECT DISTINCT ?a ?b WHERE { ?d ?d \"\" . } ORDER BY DESC ( ?c && ?b && ?d ) LIMIT 5 OFFSET 7 } OFFSET 7 ")) ≡ none
unfolding translate lex pieces onto tokens token is_var1 all_name is_iriref iri_rest utf8 is_rdf_literal is_string is_suffix is_tag unescaped number_of spelled same parse inside at sort all different wide primary unary relational elements_in group_in select_after manner ordered order_clause limits translated elements filters_of simplified joined in_scope triple_variables variables_of keep mem is_var
text51 = refl

text52 : mapped simplified (translate sparql10 (bytes "SELECT REDUCED ?a WHERE { SELECT ?c ?a WHERE { SELECT DISTINCT ?c WHERE { } ORDER BY DESC ( <http://e/p> ) ASC ( ! \"1\"^^<http://e/i> = ?b || \"1\"^^<http://e/i> = ! \"1\"^^<http://e/i> && \"x y\"@en = ?d || ?b && <http://e/p> && \"x\" ) } } ORDER BY ASC ( ( ! ?c = \"x y\"@en && \"\" || <http://e/p> = \"\" ) || ! ?b = ?c || ! \"\" = ! \"x y\"@en ) LIMIT 5 ")) ≡ none
unfolding translate lex pieces onto tokens token is_var1 all_name is_iriref iri_rest utf8 is_rdf_literal is_string is_suffix is_tag unescaped number_of spelled same parse inside at sort all different wide primary unary relational elements_in group_in select_after manner ordered order_clause limits translated elements filters_of simplified joined in_scope triple_variables variables_of keep mem is_var
text52 = refl

text53 : mapped simplified (translate sparql10 (bytes "SELECT DISTINCT ?d WHERE { SELECT ?d WHERE { ?d ?b \"x\" . ?c ?d ?a . } ORDER BY ASC ( ! <http://e/p> || \"1\"^^<http://e/i> && ! <http://e/q> && ?a || ! ?c = ! \"\" && <http://e/p> && \"x\" ) ASC ( ! <http://e/q> || ?a && \"\" = \"1\"^^<http://e/i> || \"x\" && <http://e/p> && ! \"1\"^^<http://e/i> = \"\" ) LIMIT 5 } ")) ≡ none
unfolding translate lex pieces onto tokens token is_var1 all_name is_iriref iri_rest utf8 is_rdf_literal is_string is_suffix is_tag unescaped number_of spelled same parse inside at sort all different wide primary unary relational elements_in group_in select_after manner ordered order_clause limits translated elements filters_of simplified joined in_scope triple_variables variables_of keep mem is_var
text53 = refl

text54 : mapped simplified (translate sparql10 (bytes "SELECT DISTINCT ?c WHERE { } ORDER BY ASC ( ! ( ! ?a = ! ?d && <http://e/p> && \"1\"^^<http://e/i> || ?b = ?c && ! ?b = ?b ) = \"x y\"@en && \"x y\"@en ) LIMIT 5 OFFSET 7 ")) ≡ some (slice (bytes "7") (bytes "5") (distinct (project (bytes "?c" ∷ []) (orderby (bgp ([])) (ocons ASC (apply AND (econs (apply EQ (econs (apply NOT (econs (apply OR (econs (apply AND (econs (apply AND (econs (apply EQ (econs (apply NOT (econs (term (bytes "?a")) eend)) (econs (apply NOT (econs (term (bytes "?d")) eend)) eend))) (econs (term (bytes "<http://e/p>")) eend))) (econs (term (bytes "\"1\"^^<http://e/i>")) eend))) (econs (apply AND (econs (apply EQ (econs (term (bytes "?b")) (econs (term (bytes "?c")) eend))) (econs (apply EQ (econs (apply NOT (econs (term (bytes "?b")) eend)) (econs (term (bytes "?b")) eend))) eend))) eend))) eend)) (econs (term (bytes "\"x y\"@en")) eend))) (econs (term (bytes "\"x y\"@en")) eend))) oend)))))
unfolding translate lex pieces onto tokens token is_var1 all_name is_iriref iri_rest utf8 is_rdf_literal is_string is_suffix is_tag unescaped number_of spelled same parse inside at sort all different wide primary unary relational elements_in group_in select_after manner ordered order_clause limits translated elements filters_of simplified joined in_scope triple_variables variables_of keep mem is_var
text54 = refl

text55 : mapped simplified (translate sparql10 (bytes "SELECT REDUCED ?a ?c WHERE { GRAPH <http://e/p> { <http://e/q> ?c ?d . } { ?a <http://e/p> \"\" . } FILTER ( ?b ) MINUS { <http://e/p> <http://e/q> ?c . ?c ?a \"\" . } \"\" <http://e/q> \"\" . } ORDER BY DESC ( ! <http://e/p> || ! <http://e/q> && ! ?a = \"\" && <http://e/p> = \"\" || ! ?c && ! ?d && ?a = ?a ) ")) ≡ none
unfolding translate lex pieces onto tokens token is_var1 all_name is_iriref iri_rest utf8 is_rdf_literal is_string is_suffix is_tag unescaped number_of spelled same parse inside at sort all different wide primary unary relational elements_in group_in select_after manner ordered order_clause limits translated elements filters_of simplified joined in_scope triple_variables variables_of keep mem is_var
text55 = refl
