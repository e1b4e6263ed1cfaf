-- Where nothing is refused, every token of a spelling is one of the grammar. Assumes nothing.
use mathlib.Core.Path.{◌≡◌, refl}
use mathlib.Core.Bool.{Bool, true, false, cond, not, ◌&&◌, ◌||◌}
use mathlib.Core.List.{List, [], ◌∷◌}
use mathlib.Core.Option.{none}
use Rattle.text.specs.Text.{Bytes}
use Rattle.text.specs.Field.{integer, limit, is_var, is_iri, is_dash, is_blank, is_kind, clean, fits, given, number_of}
use Rattle.text.proofs.Basics.{and_left, and_right, and_both}
use Rattle.algebra.specs.Tree.{Triple, Op, OR, AND, EQ, SAME, GT, GE, LT, LE, ADD, SUB, MUL, DIV, IN, PLUS, NEG, NOT, IF, COALESCE, Pattern, bgp, path, join, union, minus, leftjoin, filter, graph, extend, values, orderby, project, distinct, reduced, slice, group, service, Expression, term, bound, exists, apply, call, Condition, always, provided, Expressions, eend, econs, Orders, oend, ocons}
use Rattle.algebra.specs.Valid.{Fits, Valid, ValidE, ValidC, ValidEs, ValidOs, mem, different}
use Rattle.scoping.specs.InScope.{in_scope}
use Rattle.editions.specs.Token.{Edition, is11, Token, key, var, iri, literal, LIMIT, UNDEF, OPEN, CLOSE, RIGHT, ORDER, BY}
use Rattle.editions.specs.Token as K
use Rattle.editions.specs.Lexical.{is_var1}
use Rattle.editions.specs.Readers.{nonempty}
use Rattle.editions.specs.Spelling.{term_of, cell_of, spell_triples, spell_vars, spell_cells, spell_rows, opening, spell_slice, behind, spell_p, spell_e, spell_c, spell_es, spell_more, spell_os}
use Rattle.editions.specs.Refusals.{Place, inner, under_slice, under_distinct, under_project, unsayable, first, allowed_token, allowed, all_allowed, all_cells, free, begins, takes_distinct, takes_project, takes_order, conditions, covered}
use Rattle.editions.proofs.Refused.{refusal_ts, refusal_rows, refusal_p, refusal_e, refusal_c, refusal_es, refusal_os}
use Rattle.editions.proofs.Basics.{impossible, first-none, line-none, line_first}
use Rattle.editions.proofs.Lexed.{good, all_good}

abbrev Good : List Token → Type 0
Good ts = all_good ts ≡ true

keyed : (k : K.Keyword) (t : List Token) → Good t → Good (key k ∷ t)
unfolding all_good
keyed k t h = h

consed : (x : Token) (t : List Token) → good x ≡ true → Good t → Good (x ∷ t)
unfolding all_good
consed x t e h = and_both (good x) (all_good t) e h

term-good : (x : Bytes) → allowed x ≡ true → good (term_of x) ≡ true
unfolding allowed term_of
term-good x h = go (is_var x) (is_iri x) h
  where
    go : (a b : Bool) → allowed_token (cond a (var x) (cond b (iri x) (literal x))) ≡ true → good (cond a (var x) (cond b (iri x) (literal x))) ≡ true
    go true b h = h
    go false true h = h
    go false false h = h

cell-good : (x : Bytes) → allowed_token (cell_of x) ≡ true → good (cell_of x) ≡ true
unfolding cell_of
cell-good x h = go (is_dash x) (is_iri x) h
  where
    go : (a b : Bool) → allowed_token (cond a (key UNDEF) (cond b (iri x) (literal x))) ≡ true → good (cond a (key UNDEF) (cond b (iri x) (literal x))) ≡ true
    go true b h = refl
    go false true h = h
    go false false h = h

triples-good : (ts : List Triple) (t : List Token) → refusal_ts ts ≡ none → Good t → Good (spell_triples ts t)
unfolding refusal_ts spell_triples all_good
triples-good [] t h g = g
triples-good (x ∷ xs) t h g =
    let l = line_first (not (is_blank x.subj) && not (is_blank x.obj)) (allowed x.subj && (allowed x.pred && allowed x.obj)) (refusal_ts xs) h in
    let r = and_right (allowed x.subj) _ l.1 in
    rw (term-good x.subj (and_left (allowed x.subj) _ l.1), term-good x.pred (and_left (allowed x.pred) _ r), term-good x.obj (and_right (allowed x.pred) _ r), triples-good xs t l.2 g)

vars-good : (vs : List Bytes) (t : List Token) → all_allowed vs ≡ true → Good t → Good (spell_vars vs t)
unfolding all_allowed spell_vars
vars-good [] t h g = g
vars-good (v ∷ vs) t h g = consed (var v) (spell_vars vs t) (and_left (is_var1 v) (all_allowed vs) h) (vars-good vs t (and_right (is_var1 v) (all_allowed vs) h) g)

cells-good : (xs : List Bytes) (t : List Token) → all_cells xs ≡ true → Good t → Good (spell_cells xs t)
unfolding all_cells spell_cells
cells-good [] t h g = g
cells-good (x ∷ xs) t h g = consed (cell_of x) (spell_cells xs t) (cell-good x (and_left (allowed_token (cell_of x)) (all_cells xs) h)) (cells-good xs t (and_right (allowed_token (cell_of x)) (all_cells xs) h) g)

rows-good : (rs : List (List Bytes)) (t : List Token) → refusal_rows rs ≡ none → Good t → Good (spell_rows rs t)
unfolding refusal_rows spell_rows all_good
rows-good [] t h g = g
rows-good (r ∷ rs) t h g = let l = line_first true (all_cells r) (refusal_rows rs) h in cells-good r _ l.1 (rows-good rs t l.2 g)

or-false : (a : Bool) → (a || false) ≡ true → a ≡ true
or-false true h = refl
or-false false h = h

slice-good : (a n : Bytes) (t : List Token) → Fits integer a → Fits limit n → Good t → Good (spell_slice a n t)
unfolding spell_slice fits is_kind all_good
slice-good a n t v w g = rw (and_right (clean a) _ v) (go (is_dash n) (and_right (clean n) _ w))
  where
    go : (b : Bool) → (given (number_of n) || b) ≡ true → all_good (cond b t (key LIMIT ∷ K.Token.integer n ∷ t)) ≡ true
    go true h = g
    go false h = and_both (given (number_of n)) (all_good t) (or-false (given (number_of n)) h) g

behind-good : (k : K.Keyword) (s : List Token) → Good s → Good (behind (key k) s)
unfolding all_good
behind-good k [] h = refl
behind-good k (t ∷ ts) h = h

opening-good : (o : Op) (t : List Token) → Good t → Good (opening o t)
unfolding all_good
opening-good SAME t h = h
opening-good NOT t h = h
opening-good OR t h = h
opening-good AND t h = h
opening-good EQ t h = h
opening-good GT t h = h
opening-good GE t h = h
opening-good LT t h = h
opening-good LE t h = h
opening-good ADD t h = h
opening-good SUB t h = h
opening-good MUL t h = h
opening-good DIV t h = h
opening-good IN t h = h
opening-good PLUS t h = h
opening-good NEG t h = h
opening-good IF t h = h
opening-good COALESCE t h = h

module _ (ed : Edition) where
  mutual
    unfolding spell_p refusal_p Valid all_good

    pub pattern-good : (p : Pattern) (w : Place) (t : List Token) → Valid p → refusal_p ed p w ≡ none → Good t → Good (spell_p p t)
    pattern-good (bgp ts) w t v h g = triples-good ts t (line_first (free w) true (refusal_ts ts) h).2 g
    pattern-good (join p q) w t v h g =
        let f = first-none (refusal_p ed p inner) (refusal_p ed q inner) (line_first (free w) true _ h).2 in
        pattern-good p inner _ v.0 f.0 (pattern-good q inner _ v.1 f.1 g)
    pattern-good (leftjoin p q c) w t v h g =
        let f = first-none (refusal_p ed p inner) (first (refusal_p ed q inner) (refusal_c ed c)) (line_first (free w) true _ h).2 in
        let k = first-none (refusal_p ed q inner) (refusal_c ed c) f.1 in
        pattern-good p inner _ v.0 f.0 (pattern-good q inner _ v.1 k.0 (condition-good c _ v.2 k.1 g))
    pattern-good (filter p e) w t v h g =
        let f = first-none (refusal_p ed p inner) (refusal_e ed e) (line_first (free w) true _ h).2 in
        pattern-good p inner _ v.0 f.0 (expression-good e _ v.1 f.1 g)
    pattern-good (union p q) w t v h g =
        let f = first-none (refusal_p ed p inner) (refusal_p ed q inner) (line_first (free w) true _ h).2 in
        pattern-good p inner _ v.0 f.0 (pattern-good q inner _ v.1 f.1 g)
    pattern-good (graph n p) w t v h g =
        let l = line_first (free w) (allowed n) (refusal_p ed p inner) h in
        consed (term_of n) (key OPEN ∷ spell_p p (key CLOSE ∷ t)) (term-good n l.1) (pattern-good p inner (key CLOSE ∷ t) v.1 l.2 g)
    pattern-good (minus p q) w t v h g =
        let f = first-none (refusal_p ed p inner) (refusal_p ed q inner) (line_first (free w && is11 ed) true _ h).2 in
        pattern-good p inner _ v.0 f.0 (pattern-good q inner _ v.1 f.1 g)
    pattern-good (extend y p e) w t v h g =
        let l = line_first (free w && (is11 ed && not (mem y (in_scope p)))) (is_var1 y) (first (refusal_p ed p inner) (refusal_e ed e)) h in
        let f = first-none (refusal_p ed p inner) (refusal_e ed e) l.2 in
        pattern-good p inner _ v.1 f.0 (expression-good e _ v.2 f.1 (consed (var y) (key RIGHT ∷ t) l.1 g))
    pattern-good (values cs rs) w t v h g =
        let l = line_first (free w && (is11 ed && different cs)) true _ h in
        let m = line_first true (all_allowed cs) (refusal_rows rs) l.2 in
        vars-good cs _ m.1 (rows-good rs _ m.2 g)
    pattern-good (slice a n p) w t v h g = pattern-good p under_slice _ v.2 (line_first (begins ed w) true _ h).2 (slice-good a n t v.0 v.1 g)
    pattern-good (distinct p) w t v h g = behind-good K.Keyword.DISTINCT (spell_p p t) (pattern-good p under_distinct t v (line_first (takes_distinct ed w) true _ h).2 g)
    pattern-good (reduced p) w t v h g = behind-good K.Keyword.REDUCED (spell_p p t) (pattern-good p under_distinct t v (line_first (takes_distinct ed w) true _ h).2 g)
    pattern-good (project cs p) w t v h g =
        let l = line_first (takes_project ed w && nonempty cs) (all_allowed cs) (refusal_p ed p under_project) h in
        vars-good cs _ l.1 (pattern-good p under_project _ v.1 l.2 g)
    pattern-good (orderby p os) w [] v h g =
        let f = first-none (refusal_p ed p inner) (refusal_os ed os) (line_first (takes_order w && conditions os) true _ h).2 in
        pattern-good p inner _ v.1 f.0 (orders-good os _ v.2 f.1 g)
    pattern-good (orderby p os) w (c ∷ t) v h g =
        let f = first-none (refusal_p ed p inner) (refusal_os ed os) (line_first (takes_order w && conditions os) true _ h).2 in
        pattern-good p inner _ v.1 f.0 (consed c (key ORDER ∷ key BY ∷ spell_os os t) (and_left (good c) (all_good t) g) (orders-good os t v.2 f.1 (and_right (good c) (all_good t) g)))
    pattern-good (path s x o) w t v h g = impossible unsayable h
    pattern-good (group ks p rs) w t v h g = impossible unsayable h
    pattern-good (service n f p) w t v h g = impossible unsayable h

    pub expression-good : (x : Expression) (t : List Token) → ValidE x → refusal_e ed x ≡ none → Good t → Good (spell_e x t)
    expression-good (term x) t v h g = consed (term_of x) t (term-good x (line-none true (allowed x) h).1) g
    expression-good (bound y) t v h g = consed (var y) t (line-none true (is_var1 y) h).1 g
    expression-good (exists p) t v h g = pattern-good p inner _ v (line_first (is11 ed) true _ h).2 g
    expression-good (apply o es) t v h g = opening-good o _ (arguments-good es o _ v.1 (line_first (covered o) true _ h).2 g)
    expression-good (call n es) t v h g = impossible unsayable h

    condition-good : (c : Condition) (t : List Token) → ValidC c → refusal_c ed c ≡ none → Good t → Good (spell_c c t)
    condition-good always t v h g = g
    condition-good (provided e) t v h g = expression-good e _ v h g

    arguments-good : (es : Expressions) (o : Op) (t : List Token) → ValidEs es → refusal_es ed es ≡ none → Good t → Good (spell_es es o t)
    arguments-good eend o t v h g = g
    arguments-good (econs e es) o t v h g =
        let f = first-none (refusal_e ed e) (refusal_es ed es) h in
        expression-good e _ v.0 f.0 (more-good es o t v.1 f.1 g)

    more-good : (es : Expressions) (o : Op) (t : List Token) → ValidEs es → refusal_es ed es ≡ none → Good t → Good (spell_more es o t)
    more-good eend o t v h g = g
    more-good (econs e es) o t v h g =
        let f = first-none (refusal_e ed e) (refusal_es ed es) h in
        expression-good e _ v.0 f.0 (more-good es o t v.1 f.1 g)

    orders-good : (os : Orders) (t : List Token) → ValidOs os → refusal_os ed os ≡ none → Good t → Good (spell_os os t)
    orders-good oend t v h g = g
    orders-good (ocons d e os) t v h g =
        let f = first-none (refusal_e ed e) (refusal_os ed os) h in
        expression-good e _ v.0 f.0 (orders-good os t v.1 f.1 g)
