-- Worked examples of every kind of text: the specification's own tree, a bigger one, queries, lists, and what each bound and each fault gives. Assumes nothing.
use Rattle.std.specs.Prelude.{◌≡◌, refl, [], ◌∷◌, ◌++◌, map, ℕ, zero, suc}
use Rattle.text.specs.Text.{Bytes, same, ended, text_of, onto, split, lines_in, lines_of}
use Rattle.text.specs.Word.{bytes, spelled}
use Rattle.text.specs.Field.{digits_of, number_of, digits, decimal, clean, is_var, is_iri, is_literal, is_blank, is_dash, is_flag, is_tag, is_region, is_datatype, is_form, is_kind, fits, all_fit}
use Rattle.algebra.specs.Tree.{IN, DESC, Pattern, bgp, filter, orderby, project, group, term, bound, apply, call, eend, econs, oend, ocons, aend, agg, aggall}
use Rattle.algebra.specs.Query.{Query, joins, constants, mapping, LanguageTaggedString, Null, Int, BindingSet, BIN, Filter, leaf, ref, function, fend, fcons}
use Rattle.algebra.specs.Layout.{put_triples, put_arity, put, layout, put_query, put_pairs, put_values, put_value_rows, put_sets, put_filter, put_filters}
use Rattle.algebra.specs.Valid.{mem}
use Rattle.algebra.specs.Tally.{bounds, notes, noted, headed, paired, within}
use Rattle.algebra.specs.Reader.{one, kept, rest, times, end, too_many, several, reads, number-of, read_text}
use Rattle.algebra.specs.Reading.{expressions, orders, aggregates, pattern_after, expression_after, inside}
use Rattle.algebra.specs.ListReading.{parts, part_after, filter_in}
use Rattle.algebra.specs.Texts.{read_tree, read_query, read_pairs, read_sets, read_filters}
use Rattle.algebra.specs.Given.{empty_tree, read_given_tree, read_given_query}
use Rattle.algebra.specs.bridge.Table.{patterns, row_in}
use Rattle.algebra.specs.bridge.Machine.{want, good, done, line_of, run, check_text}
use Rattle.algebra.specs.Bounded.{layout_query, layout_pairs, layout_sets, layout_filters}

-- the number of a tree's text; to unfold it is to unfold all reading
numbered : Bytes → ℕ
unfolding read_tree read_query read_pairs read_sets read_filters read_text within noted headed paired notes mem inside several one end too_many kept rest times expressions orders aggregates pattern_after expression_after filter_in parts part_after lines_of lines_in split onto same spelled number_of digits_of fits is_kind clean is_var is_iri is_literal is_blank is_dash is_flag is_tag is_region is_datatype is_form all_fit
numbered s = number-of (read_tree s)

-- the text of a tree; to unfold it is to unfold all writing
text : Pattern → Bytes
unfolding layout put put_triples put_arity layout_query put_query layout_pairs put_pairs layout_sets put_sets put_value_rows put_values layout_filters put_filters put_filter decimal digits text_of ended
text p = layout p

-- ---- trees

small : Pattern
small = project (bytes "?event" ∷ bytes "?relay" ∷ []) (bgp (record { subj = bytes "?event"; pred = bytes "<by>"; obj = bytes "?relay" } ∷ []))

written : layout small ≡ bytes "project\t?event\t?relay\nbgp\t1\nt\t?event\t<by>\t?relay\n"
unfolding small text
written = refl

read : read_tree (bytes "project\t?event\t?relay\nbgp\t1\nt\t?event\t<by>\t?relay\n") ≡ reads small
unfolding small numbered
read = refl

-- and line by line: three lines, two columns, two names
line-by-line : check_text bounds done (want patterns bounds.depth 0 ∷ []) (bytes "project\t?event\t?relay\nbgp\t1\nt\t?event\t<by>\t?relay\n") ≡ good (record { lines = 3; wide = 2; names = bytes "?event" ∷ bytes "?relay" ∷ [] })
unfolding numbered check_text run line_of row_in
line-by-line = refl

big : Pattern
big = orderby (group (bytes "?g" ∷ []) (filter (bgp []) (apply IN (econs (term (bytes "?x")) (econs (term (bytes "<a>")) eend)))) (aggall (bytes "?c") (bytes "1") (agg (bytes "?s") (bytes "SUM") (bytes "0") (term (bytes "?x")) aend))) (ocons DESC (call (bytes "LANG") (econs (bound (bytes "?x")) eend)) oend)

written-big : layout big ≡ bytes "orderby\t1\ngroup\t1\t2\ncols\t?g\nfilter\nbgp\t0\nin\t1\nterm\t?x\nterm\t<a>\naggall\t?c\t1\nagg\t?s\tSUM\t0\nterm\t?x\ndesc\ncall\tLANG\t1\nbound\t?x\n"
unfolding big text
written-big = refl

read-big : read_tree (bytes "orderby\t1\ngroup\t1\t2\ncols\t?g\nfilter\nbgp\t0\nin\t1\nterm\t?x\nterm\t<a>\naggall\t?c\t1\nagg\t?s\tSUM\t0\nterm\t?x\ndesc\ncall\tLANG\t1\nbound\t?x\n") ≡ reads big
unfolding big numbered
read-big = refl

-- a missing expression, a line left over, a line without an end, a leading zero, no text
faults : map numbered (bytes "filter\nbgp\t0\n" ∷ bytes "bgp\t0\nbgp\t0\n" ∷ bytes "bgp\t0" ∷ bytes "bgp\t00\n" ∷ [] ∷ []) ≡ 1 ∷ 1 ∷ 1 ∷ 1 ∷ 1 ∷ []
unfolding numbered
faults = refl

nested : ℕ → Bytes → Bytes
nested zero t = t
nested (suc n) t = bytes "distinct\n" ++ nested n t

-- 64 levels, and 65: the line at level 65 is well formed, or it is not
levels : map numbered (nested 63 (bytes "bgp\t0\n") ∷ nested 64 (bytes "bgp\t0\n") ∷ nested 64 (bytes "bgp\t?x\n") ∷ []) ≡ 0 ∷ 2 ∷ 1 ∷ []
unfolding nested numbered
levels = refl

columns : ℕ → Bytes → Bytes
columns zero t = t
columns (suc n) t = bytes "\t?x" ++ columns n t

-- 256 columns, and 257, over a line that is a pattern, or is not: the first line counts
widths : map numbered ((bytes "project" ++ columns 256 (bytes "\nbgp\t0\n")) ∷ (bytes "project" ++ columns 256 (bytes "\nbad\n")) ∷ (bytes "project" ++ columns 257 (bytes "\nbad\n")) ∷ []) ≡ 0 ∷ 1 ∷ 2 ∷ []
unfolding columns numbered
widths = refl

-- ---- a query: its head, and its kind

asked : Query
asked = record { kind = bytes "ask"; dataset = bytes "-"; base = bytes "<b>"; tree = bgp [] }

written-query : layout_query asked ≡ bytes "query\task\t-\t<b>\nbgp\t0\n"
unfolding asked text
written-query = refl

read-query : read_query (bytes "query\task\t-\t<b>\nbgp\t0\n") ≡ reads asked
unfolding asked numbered
read-query = refl

no_kind : map (λ s. number-of (read_query s)) (bytes "query\tinsert\t-\t-\nbgp\t0\n" ∷ bytes "query\tselect\t-\n" ∷ bytes "query\tselect\t\t-\nbgp\t0\n" ∷ bytes "bgp\t0\n" ∷ []) ≡ 1 ∷ 1 ∷ 1 ∷ 1 ∷ []
unfolding numbered
no_kind = refl

-- ---- lists of pairs

join-list : read_pairs joins (bytes "1\t0\n1\t2\n") ≡ reads (record { first = bytes "1"; second = bytes "0" } ∷ record { first = bytes "1"; second = bytes "2" } ∷ [])
unfolding numbered
join-list = refl

-- a position may not be repeated in a constant list, nor a name that is mapped
constant-lists : map (λ s. number-of (read_pairs constants s)) ([] ∷ bytes "0\t<k>\n1\t\"a\"@de\n" ∷ bytes "0\t<k>\n0\t<l>\n" ∷ bytes "0\t?x\n" ∷ []) ≡ 0 ∷ 0 ∷ 1 ∷ 1 ∷ []
unfolding numbered
constant-lists = refl

mappings : map (λ s. number-of (read_pairs mapping s)) (bytes "?a\t?b\n?b\t?b\n" ∷ bytes "?a\t?b\n?a\t?c\n" ∷ bytes "?a\t<b>\n" ∷ []) ≡ 0 ∷ 1 ∷ 1 ∷ []
unfolding numbered
mappings = refl

repeated : ℕ → Bytes → Bytes
repeated zero t = t
repeated (suc n) t = bytes "0\t0\n" ++ repeated n t

-- 256 entries, and 257: the line of entry 257 is well formed, or it is not
entries : map (λ s. number-of (read_pairs joins s)) (repeated 256 [] ∷ repeated 257 [] ∷ repeated 256 (bytes "0\t?x\n") ∷ repeated 257 (bytes "0\t?x\n") ∷ []) ≡ 0 ∷ 2 ∷ 1 ∷ 2 ∷ []
unfolding repeated numbered
entries = refl

-- ---- binding sets

bound-set : BindingSet
bound-set = record { positions = bytes "0" ∷ bytes "2" ∷ []; rows = (record { domain = LanguageTaggedString; lexical = bytes "Tor"; extra = bytes "de" } ∷ record { domain = Null; lexical = []; extra = bytes "-" } ∷ []) ∷ [] }

written-set : layout_sets (bound-set ∷ []) ≡ bytes "set\t2\t1\nat\t0\t2\nrow\tLanguageTaggedString\tTor\tde\tNull\t\t-\n"
unfolding bound-set text
written-set = refl

read_set : read_sets (bytes "set\t2\t1\nat\t0\t2\nrow\tLanguageTaggedString\tTor\tde\tNull\t\t-\n") ≡ reads (bound-set ∷ [])
unfolding bound-set numbered
read_set = refl

-- an extra that is not the domain's, a row that is too short
bad-sets : map (λ s. number-of (read_sets s)) (bytes "set\t1\t1\nat\t0\nrow\tNull\t\tde\n" ∷ bytes "set\t1\t1\nat\t0\nrow\n" ∷ bytes "set\t1\t0\n" ∷ []) ≡ 1 ∷ 1 ∷ 1 ∷ []
unfolding numbered
bad-sets = refl

-- ---- filters

equal : Filter
equal = function BIN (bytes "Equals") (fcons (ref (bytes "0")) (fcons (leaf (record { domain = Int; lexical = bytes "7"; extra = bytes "<int>" })) fend))

written-filter : layout_filters (equal ∷ []) ≡ bytes "bin\tEquals\nref\t0\nleaf\tInt\t7\t<int>\n"
unfolding equal text
written-filter = refl

read-filter : read_filters (bytes "bin\tEquals\nref\t0\nleaf\tInt\t7\t<int>\n") ≡ reads (equal ∷ [])
unfolding equal numbered
read-filter = refl

-- a part that is missing, a name that is empty
bad-filters : map (λ s. number-of (read_filters s)) (bytes "bin\tEquals\nref\t0\n" ∷ bytes "nary\t\t0\n" ∷ bytes "nary\tAny\t0\nref\t1\n" ∷ []) ≡ 1 ∷ 1 ∷ 0 ∷ []
unfolding numbered
bad-filters = refl

-- ---- an empty file

-- the number that a call gives a query's text
given : Bytes → ℕ
unfolding read_given_query numbered
given s = number-of (read_given_query s)

empty-file : read_given_tree [] ≡ reads empty_tree
unfolding read_given_tree numbered
empty-file = refl

head-line-alone : read_given_query (bytes "query\task\t-\t-\n") ≡ reads (record { kind = bytes "ask"; dataset = bytes "-"; base = bytes "-"; tree = empty_tree })
unfolding given numbered
head-line-alone = refl

-- a line end is no empty file
line-end : number-of (read_given_tree (bytes "\n")) ≡ 1
unfolding read_given_tree numbered
line-end = refl

-- no bytes, a line end, the two lines alone, a head line that isn't ended, one of another form, an empty line behind it
no-heads : map given ([] ∷ bytes "\n" ∷ bytes "project\nbgp\t0\n" ∷ bytes "query\task\t-\t-" ∷ bytes "query\task\t-\n" ∷ bytes "query\task\t-\t-\n\n" ∷ []) ≡ 1 ∷ 1 ∷ 1 ∷ 1 ∷ 1 ∷ 1 ∷ []
unfolding given numbered
no-heads = refl
