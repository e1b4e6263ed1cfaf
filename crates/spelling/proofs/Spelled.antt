-- What is said of a query's lines is its spelling: one induction over patterns and expressions, where the edition refuses nothing. Assumes nothing.
use mathlib.Core.Path.{◌≡◌, refl, sym, ◌∙◌, ap}
use mathlib.Core.Bool.{Bool, true, cond, not, ◌&&◌, false≢true, true≢false}
use mathlib.Core.List.{List, [], ◌∷◌, ◌++◌, append-nil}
use mathlib.Core.Option.{Option, none, some}
use Prim.Native.Nat.{ℕ, suc, max, ◌≤◌}
use native.Mathlib.Omega.{arith}
use lib.ListN.{length}
use Rattle.text.specs.Text.{Bytes, Line, same}
use Rattle.text.specs.Word.{bytes}
use Rattle.text.specs.Field.{decimal}
use Rattle.text.proofs.Basics.{deeper, and_left}
use Rattle.algebra.specs.Tree.{Op, OR, AND, EQ, SAME, GT, GE, LT, LE, ADD, SUB, MUL, DIV, IN, PLUS, NEG, NOT, IF, COALESCE, ASC, DESC, Pattern, bgp, path, join, union, minus, leftjoin, filter, graph, extend, values, orderby, project, distinct, reduced, slice, group, service, Expression, term, bound, exists, apply, call, Condition, always, provided, Expressions, eend, econs, Orders, oend, ocons, ecount, ocount}
use Rattle.algebra.specs.Query.{Query}
use Rattle.algebra.specs.Word.{arity}
use Rattle.algebra.specs.bridge.Table.{table, row_in}
use Rattle.algebra.specs.Layout.{put_arity, put_flag, put, put_e, put_c, put_os, put_query}
use Rattle.algebra.specs.Valid.{Takes, Valid, ValidE, ValidC, ValidEs, ValidOs, ValidQuery, mem, different}
use Rattle.scoping.specs.InScope.{in_scope}
use Rattle.filtering.specs.bridge.Copying.{plus, amounts, to_come}
use Rattle.filtering.proofs.Copying.{number, ccount, flag-come}
use Rattle.editions.specs.Token.{Edition, Keyword, is11, DISTINCT, REDUCED, OPTIONAL, OPEN, CLOSE, RIGHT, Token, key}
use Rattle.editions.specs.Lexical.{is_var1}
use Rattle.editions.specs.Readers.{nonempty}
use Rattle.editions.specs.Spelling.{behind, spell_p, spell_e, spell_c, spell_os}
use Rattle.editions.specs.Refusals.{unsayable, first, allowed, all_allowed, Place, root, inner, under_slice, under_distinct, under_project, free, begins, takes_distinct, takes_project, takes_order, conditions, covered, refusal}
use Rattle.editions.proofs.Refused.{refusal_p, refusal_e, refusal_c, refusal_es, refusal_os, tree-refused}
use Rattle.editions.proofs.Basics.{impossible, first-none, line_first}
use Rattle.editions.proofs.Parts.{one_of, two-of}
use Rattle.spelling.specs.bridge.Saying.{manner_of, before, after, shallow, said_children, said_child, said_tree}
use Rattle.algebra.specs.Depth.{depth, depth_e, depth_c, depth_es, depth_os}
use Rattle.spelling.proofs.Said.{Says, end, child, line-said, tree, deep, flat, deep-pattern, deep-expression, says_is, leaf, bgp_line, triples-said, values-said, slice-append, is_order, opened, spelled_under, order-first, no-order, Stands, free-stands, begins-stands, distinct-stands, order-stands, plainly, as-child, select-is}

-- ---- expressions over what is said of their parts

-- each of them is said, wherever it stands
unfoldable AllSaid : ℕ → Expressions → Type 0
AllSaid d eend = Unit {0}
AllSaid d (econs e es) = ((above : Option Keyword) (t : List Line) → Says (said_child (said_tree d) above (put_e e t)) (spell_e e) t) × AllSaid d es

abbrev SaidE : ℕ → Option Keyword → Expression → List Line → Type 0
SaidE n above e t = Says (said_tree n above (put_e e t)) (spell_e e) t

apply-said : (ed : Edition) (o : Op) (es : Expressions) (d : ℕ) (above : Option Keyword) (t : List Line) → Takes (arity o) (ecount es) → covered o ≡ true → AllSaid d es → SaidE (suc d) above (apply o es) t
unfolding AllSaid put_e put_arity spell_e Takes to_come amounts plus table row_in same before after manner_of
apply-said ed OR es d above t v h s = two-of es v (λ (es : Expressions). AllSaid d es → SaidE (suc d) above (apply OR es) t) (λ a b s.
    tree d above (bytes "or" ∷ []) _ 2 refl (child (said_child (said_tree d)) (bytes "or" ∷ []) _ 0 1 (s.0 none (put_e b t)) (child (said_child (said_tree d)) (bytes "or" ∷ []) _ 1 0 (s.1.0 none t) (end (said_child (said_tree d)) (bytes "or" ∷ []) _ 2 t)))) s
apply-said ed AND es d above t v h s = two-of es v (λ (es : Expressions). AllSaid d es → SaidE (suc d) above (apply AND es) t) (λ a b s.
    tree d above (bytes "and" ∷ []) _ 2 refl (child (said_child (said_tree d)) (bytes "and" ∷ []) _ 0 1 (s.0 none (put_e b t)) (child (said_child (said_tree d)) (bytes "and" ∷ []) _ 1 0 (s.1.0 none t) (end (said_child (said_tree d)) (bytes "and" ∷ []) _ 2 t)))) s
apply-said ed EQ es d above t v h s = two-of es v (λ (es : Expressions). AllSaid d es → SaidE (suc d) above (apply EQ es) t) (λ a b s.
    tree d above (bytes "eq" ∷ []) _ 2 refl (child (said_child (said_tree d)) (bytes "eq" ∷ []) _ 0 1 (s.0 none (put_e b t)) (child (said_child (said_tree d)) (bytes "eq" ∷ []) _ 1 0 (s.1.0 none t) (end (said_child (said_tree d)) (bytes "eq" ∷ []) _ 2 t)))) s
apply-said ed SAME es d above t v h s = two-of es v (λ (es : Expressions). AllSaid d es → SaidE (suc d) above (apply SAME es) t) (λ a b s.
    tree d above (bytes "same" ∷ []) _ 2 refl (child (said_child (said_tree d)) (bytes "same" ∷ []) _ 0 1 (s.0 none (put_e b t)) (child (said_child (said_tree d)) (bytes "same" ∷ []) _ 1 0 (s.1.0 none t) (end (said_child (said_tree d)) (bytes "same" ∷ []) _ 2 t)))) s
apply-said ed NOT es d above t v h s = one_of es v (λ (es : Expressions). AllSaid d es → SaidE (suc d) above (apply NOT es) t) (λ a s.
    tree d above (bytes "not" ∷ []) _ 1 refl (child (said_child (said_tree d)) (bytes "not" ∷ []) _ 0 0 (s.0 none t) (end (said_child (said_tree d)) (bytes "not" ∷ []) _ 1 t))) s
apply-said ed GT es d above t v h s = absurd (false≢true h)
apply-said ed GE es d above t v h s = absurd (false≢true h)
apply-said ed LT es d above t v h s = absurd (false≢true h)
apply-said ed LE es d above t v h s = absurd (false≢true h)
apply-said ed ADD es d above t v h s = absurd (false≢true h)
apply-said ed SUB es d above t v h s = absurd (false≢true h)
apply-said ed MUL es d above t v h s = absurd (false≢true h)
apply-said ed DIV es d above t v h s = absurd (false≢true h)
apply-said ed IN es d above t v h s = absurd (false≢true h)
apply-said ed PLUS es d above t v h s = absurd (false≢true h)
apply-said ed NEG es d above t v h s = absurd (false≢true h)
apply-said ed IF es d above t v h s = absurd (false≢true h)
apply-said ed COALESCE es d above t v h s = absurd (false≢true h)

-- ---- patterns over what is said of their parts

abbrev left_line : Bytes → Line
left_line f = bytes "leftjoin" ∷ f ∷ []

-- behind a leftjoin's second pattern
abbrev condition_tail : Condition → List Token → List Token
condition_tail always u = u
condition_tail (provided x) u = spell_e x (key RIGHT ∷ key CLOSE ∷ u)

condition-tail : (c : Condition) (f : Bytes) (next : List Line) (u : List Token) → after (left_line f) next 1 (ccount c) ++ condition_tail c u ≡ key CLOSE ∷ spell_c c (key CLOSE ∷ u)
unfolding after same spell_c
condition-tail always f next u = refl
condition-tail (provided x) f next u = refl

abbrev order_line : ℕ → Line
order_line n = bytes "orderby" ∷ decimal n ∷ []

abbrev ChildP : ℕ → Option Keyword → Pattern → List Line → Type 0
ChildP n above p t = Says (said_child (said_tree n) above (put p t)) (spell_p p) t

two-patterns : (w : Bytes) (above : Option Keyword) (d : ℕ) (p q : Pattern) (t : List Line) → to_come (w ∷ []) ≡ 2 → ChildP d (manner_of w) p (put q t) → ChildP d (manner_of w) q t → Says (said_tree (suc d) above ((w ∷ []) ∷ put p (put q t))) (λ u. before above (w ∷ []) ++ spell_p p (after (w ∷ []) (put p (put q t)) 0 1 ++ spell_p q (after (w ∷ []) (put p (put q t)) 1 0 ++ u))) t
two-patterns w above d p q t e a b = tree d above (w ∷ []) _ 2 e (child (said_child (said_tree d)) (w ∷ []) _ 0 1 a (child (said_child (said_tree d)) (w ∷ []) _ 1 0 b (end (said_child (said_tree d)) (w ∷ []) _ 2 t)))

project-said : (ed : Edition) (cs : List Bytes) (q : Pattern) (above : Option Keyword) (d : ℕ) (t : List Line) → Says (said_tree d none (put q t)) (spelled_under none q) t → Says (said_tree (suc d) above (put (project cs q) t)) (spelled_under above (project cs q)) t
unfolding put spell_p to_come amounts table row_in same before after manner_of
project-said ed cs q above d t a =
    says_is (tree d above (bytes "project" ∷ cs) (put q t) 1 refl (child (said_child (said_tree d)) (bytes "project" ∷ cs) (put q t) 0 0 (deep (said_tree d) none (put q t) (deep-pattern q t) a) (end (said_child (said_tree d)) (bytes "project" ∷ cs) (put q t) 1 t)))
    (λ u. ap (λ (b : Bool). before above (bytes "project" ∷ cs) ++ spell_p q (opened (is_order q) (cond b [] (key CLOSE ∷ []) ++ u))) (order-first q t) ∙ select-is above cs (is_order q) q u)

module _ (ed : Edition) where
  mutual
    unfolding AllSaid depth shallow put put_e spell_p spell_e refusal_p refusal_e first Valid ValidE to_come amounts plus table row_in same before after manner_of

    -- what is said of a pattern's lines, whatever follows, is its spelling
    pub pattern-said : (p : Pattern) (w : Place) (above : Option Keyword) (t : List Line) (n : ℕ) → Stands w above → Valid p → refusal_p ed p w ≡ none → depth p ≤ n → Says (said_tree n above (put p t)) (spelled_under above p) t
    pattern-said (bgp ts) w above t n s v h l =
        let m = s (free-stands w (line_first (free w) true _ h).0) in
        deeper 0 n l (λ (d : ℕ). Says (said_tree d above (put (bgp ts) t)) (spelled_under above (bgp ts)) t) λ k i.
        plainly above m (tree k above (bgp_line (length ts)) _ (length ts) (number (length ts) v.0) (triples-said ts (length ts) k 0 _ t))
    pattern-said (join p q) w above t n s v h l =
        let g = line_first (free w) true _ h in
        let f = first-none (refusal_p ed p inner) (refusal_p ed q inner) g.2 in
        deeper (max (depth p) (depth q)) n l (λ (d : ℕ). Says (said_tree d above (put (join p q) t)) (spelled_under above (join p q)) t) λ k i.
        plainly above (s (free-stands w g.0)) (two-patterns (bytes "join") above k p q t refl (as-child ed p inner none _ _ refl f.0 refl (pattern-said p inner none (put q t) k (λ e. refl) v.0 f.0 (omega arith))) (as-child ed q inner none _ _ refl f.1 refl (pattern-said q inner none t k (λ e. refl) v.1 f.1 (omega arith))))
    pattern-said (union p q) w above t n s v h l =
        let g = line_first (free w) true _ h in
        let f = first-none (refusal_p ed p inner) (refusal_p ed q inner) g.2 in
        deeper (max (depth p) (depth q)) n l (λ (d : ℕ). Says (said_tree d above (put (union p q) t)) (spelled_under above (union p q)) t) λ k i.
        plainly above (s (free-stands w g.0)) (two-patterns (bytes "union") above k p q t refl (as-child ed p inner none _ _ refl f.0 refl (pattern-said p inner none (put q t) k (λ e. refl) v.0 f.0 (omega arith))) (as-child ed q inner none _ _ refl f.1 refl (pattern-said q inner none t k (λ e. refl) v.1 f.1 (omega arith))))
    pattern-said (minus p q) w above t n s v h l =
        let g = line_first (free w && is11 ed) true _ h in
        let f = first-none (refusal_p ed p inner) (refusal_p ed q inner) g.2 in
        deeper (max (depth p) (depth q)) n l (λ (d : ℕ). Says (said_tree d above (put (minus p q) t)) (spelled_under above (minus p q)) t) λ k i.
        plainly above (s (free-stands w (and_left (free w) (is11 ed) g.0))) (two-patterns (bytes "minus") above k p q t refl (as-child ed p inner none _ _ refl f.0 refl (pattern-said p inner none (put q t) k (λ e. refl) v.0 f.0 (omega arith))) (as-child ed q inner none _ _ refl f.1 refl (pattern-said q inner none t k (λ e. refl) v.1 f.1 (omega arith))))
    pattern-said (leftjoin p q c) w above t n s v h l =
        let g = line_first (free w) true _ h in
        let f = first-none (refusal_p ed p inner) _ g.2 in
        let e = first-none (refusal_p ed q inner) (refusal_c ed c) f.1 in
        deeper (max (depth p) (max (depth q) (depth_c c))) n l (λ (d : ℕ). Says (said_tree d above (put (leftjoin p q c) t)) (spelled_under above (leftjoin p q c)) t) λ k i.
        plainly above (s (free-stands w g.0)) (says_is (tree k above (left_line (put_flag c)) _ (suc (suc (ccount c))) (flag-come c)
        (child (said_child (said_tree k)) (left_line (put_flag c)) _ 0 (suc (ccount c)) (as-child ed p inner none _ _ refl f.0 refl (pattern-said p inner none (put q (put_c c t)) k (λ e. refl) v.0 f.0 (omega arith)))
        (child (said_child (said_tree k)) (left_line (put_flag c)) _ 1 (ccount c) (as-child ed q inner none _ _ refl e.0 refl (pattern-said q inner none (put_c c t) k (λ e. refl) v.1 e.0 (omega arith)))
        (condition-said c (put_flag c) k _ t v.2 e.1 (omega arith)))))
        (λ u. ap (λ (y : List Token). key OPEN ∷ spell_p p (key CLOSE ∷ key OPTIONAL ∷ key OPEN ∷ key OPEN ∷ spell_p q y)) (condition-tail c (put_flag c) (put p (put q (put_c c t))) u)))
    pattern-said (filter p x) w above t n s v h l =
        let g = line_first (free w) true _ h in
        let f = first-none (refusal_p ed p inner) (refusal_e ed x) g.2 in
        deeper (max (depth p) (depth_e x)) n l (λ (d : ℕ). Says (said_tree d above (put (filter p x) t)) (spelled_under above (filter p x)) t) λ k i.
        plainly above (s (free-stands w g.0)) (tree k above (bytes "filter" ∷ []) _ 2 refl
        (child (said_child (said_tree k)) (bytes "filter" ∷ []) _ 0 1 (as-child ed p inner none _ _ refl f.0 refl (pattern-said p inner none (put_e x t) k (λ e. refl) v.0 f.0 (omega arith)))
        (child (said_child (said_tree k)) (bytes "filter" ∷ []) _ 1 0 (deep (said_tree k) none (put_e x t) (deep-expression x t) (expression-said x none t k v.1 f.1 (omega arith)))
        (end (said_child (said_tree k)) (bytes "filter" ∷ []) _ 2 t))))
    pattern-said (graph y p) w above t n s v h l =
        let g = line_first (free w) (allowed y) _ h in
        deeper (depth p) n l (λ (d : ℕ). Says (said_tree d above (put (graph y p) t)) (spelled_under above (graph y p)) t) λ k i.
        plainly above (s (free-stands w g.0)) (tree k above (bytes "graph" ∷ y ∷ []) _ 1 refl
        (child (said_child (said_tree k)) (bytes "graph" ∷ y ∷ []) _ 0 0 (as-child ed p inner none _ _ refl g.2 refl (pattern-said p inner none t k (λ e. refl) v.1 g.2 i)) (end (said_child (said_tree k)) (bytes "graph" ∷ y ∷ []) _ 1 t)))
    pattern-said (extend y p x) w above t n s v h l =
        let g = line_first (free w && (is11 ed && not (mem y (in_scope p)))) (is_var1 y) _ h in
        let f = first-none (refusal_p ed p inner) (refusal_e ed x) g.2 in
        deeper (max (depth p) (depth_e x)) n l (λ (d : ℕ). Says (said_tree d above (put (extend y p x) t)) (spelled_under above (extend y p x)) t) λ k i.
        plainly above (s (free-stands w (and_left (free w) _ g.0))) (tree k above (bytes "extend" ∷ y ∷ []) _ 2 refl
        (child (said_child (said_tree k)) (bytes "extend" ∷ y ∷ []) _ 0 1 (as-child ed p inner none _ _ refl f.0 refl (pattern-said p inner none (put_e x t) k (λ e. refl) v.1 f.0 (omega arith)))
        (child (said_child (said_tree k)) (bytes "extend" ∷ y ∷ []) _ 1 0 (deep (said_tree k) none (put_e x t) (deep-expression x t) (expression-said x none t k v.2 f.1 (omega arith)))
        (end (said_child (said_tree k)) (bytes "extend" ∷ y ∷ []) _ 2 t))))
    pattern-said (values cs rs) w above t n s v h l =
        let g = line_first (free w && (is11 ed && different cs)) true _ h in
        deeper 0 n l (λ (d : ℕ). Says (said_tree d above (put (values cs rs) t)) (spelled_under above (values cs rs)) t) λ k i.
        plainly above (s (free-stands w (and_left (free w) _ g.0))) (values-said cs rs above k t v)
    pattern-said (slice a b p) w above t n s v h l =
        let g = line_first (begins ed w) true _ h in
        deeper (depth p) n l (λ (d : ℕ). Says (said_tree d above (put (slice a b p) t)) (spelled_under above (slice a b p)) t) λ k i.
        plainly above (s (begins-stands ed w g.0)) (says_is (tree k above (bytes "slice" ∷ a ∷ b ∷ []) _ 1 refl
        (child (said_child (said_tree k)) (bytes "slice" ∷ a ∷ b ∷ []) _ 0 0 (as-child ed p under_slice none _ _ refl g.2 refl (pattern-said p under_slice none t k (λ e. refl) v.2 g.2 i)) (end (said_child (said_tree k)) (bytes "slice" ∷ a ∷ b ∷ []) _ 1 t)))
        (λ u. ap (spell_p p) (slice-append a b u)))
    pattern-said (distinct p) w above t n s v h l =
        let g = line_first (takes_distinct ed w) true _ h in
        deeper (depth p) n l (λ (d : ℕ). Says (said_tree d above (put (distinct p) t)) (spelled_under above (distinct p)) t) λ k i.
        plainly above (s (distinct-stands ed w g.0)) (says_is (tree k above (bytes "distinct" ∷ []) _ 1 refl
        (child (said_child (said_tree k)) (bytes "distinct" ∷ []) _ 0 0 (deep (said_tree k) (some DISTINCT) (put p t) (deep-pattern p t) (pattern-said p under_distinct (some DISTINCT) t k (λ e. absurd (true≢false e)) v g.2 i)) (end (said_child (said_tree k)) (bytes "distinct" ∷ []) _ 1 t)))
        (λ u. ap (λ (b : Bool). behind (key DISTINCT) (spell_p p (opened b u))) (no-order ed p under_distinct refl g.2)))
    pattern-said (reduced p) w above t n s v h l =
        let g = line_first (takes_distinct ed w) true _ h in
        deeper (depth p) n l (λ (d : ℕ). Says (said_tree d above (put (reduced p) t)) (spelled_under above (reduced p)) t) λ k i.
        plainly above (s (distinct-stands ed w g.0)) (says_is (tree k above (bytes "reduced" ∷ []) _ 1 refl
        (child (said_child (said_tree k)) (bytes "reduced" ∷ []) _ 0 0 (deep (said_tree k) (some REDUCED) (put p t) (deep-pattern p t) (pattern-said p under_distinct (some REDUCED) t k (λ e. absurd (true≢false e)) v g.2 i)) (end (said_child (said_tree k)) (bytes "reduced" ∷ []) _ 1 t)))
        (λ u. ap (λ (b : Bool). behind (key REDUCED) (spell_p p (opened b u))) (no-order ed p under_distinct refl g.2)))
    pattern-said (project cs p) w above t n s v h l =
        let g = line_first (takes_project ed w && nonempty cs) (all_allowed cs) _ h in
        deeper (depth p) n l (λ (d : ℕ). Says (said_tree d above (put (project cs p) t)) (spelled_under above (project cs p)) t) λ k i.
        project-said ed cs p above k t (pattern-said p under_project none t k (λ e. refl) v.1 g.2 i)
    pattern-said (orderby p os) w above t n s v h l =
        let g = line_first (takes_order w && conditions os) true _ h in
        let f = first-none (refusal_p ed p inner) (refusal_os ed os) g.2 in
        deeper (max (depth p) (depth_os os)) n l (λ (d : ℕ). Says (said_tree d above (put (orderby p os) t)) (spelled_under above (orderby p os)) t) λ k i.
        plainly above (s (order-stands w (and_left (takes_order w) _ g.0))) (tree k above (order_line (ocount os)) _ (suc (ocount os)) (ap suc (number (ocount os) v.0))
        (child (said_child (said_tree k)) (order_line (ocount os)) _ 0 (ocount os) (as-child ed p inner none _ _ refl f.0 refl (pattern-said p inner none (put_os os t) k (λ e. refl) v.1 f.0 (omega arith)))
        (orders-said os (ocount os) k 0 _ t v.2 f.1 (omega arith))))
    pattern-said (path a x o) w above t n s v h l = impossible unsayable h
    pattern-said (group ks p rs) w above t n s v h l = impossible unsayable h
    pattern-said (service y f p) w above t n s v h l = impossible unsayable h

    pub expression-said : (e : Expression) (above : Option Keyword) (t : List Line) (n : ℕ) → ValidE e → refusal_e ed e ≡ none → depth_e e ≤ n → SaidE n above e t
    expression-said (term x) above t n v h l = deeper 0 n l (λ (d : ℕ). SaidE d above (term x) t) λ k i. leaf k above (bytes "term" ∷ x ∷ []) t refl
    expression-said (bound x) above t n v h l = deeper 0 n l (λ (d : ℕ). SaidE d above (bound x) t) λ k i. leaf k above (bytes "bound" ∷ x ∷ []) t refl
    expression-said (exists p) above t n v h l =
        let g = line_first (is11 ed) true _ h in
        deeper (depth p) n l (λ (d : ℕ). SaidE d above (exists p) t) λ k i.
        tree k above (bytes "exists" ∷ []) _ 1 refl (child (said_child (said_tree k)) (bytes "exists" ∷ []) _ 0 0 (as-child ed p inner none _ _ refl g.2 refl (pattern-said p inner none t k (λ e. refl) v g.2 i)) (end (said_child (said_tree k)) (bytes "exists" ∷ []) _ 1 t))
    expression-said (apply o es) above t n v h l =
        let g = line_first (covered o) true _ h in
        deeper (depth_es es) n l (λ (d : ℕ). SaidE d above (apply o es) t) λ k i.
        apply-said ed o es k above t v.0 g.0 (arguments-said es k v.1 g.2 i)
    expression-said (call y es) above t n v h l = impossible unsayable h

    condition-said : (c : Condition) (f : Bytes) (d : ℕ) (next t : List Line) → ValidC c → refusal_c ed c ≡ none → depth_c c ≤ d → Says (said_children (said_child (said_tree d)) (left_line f) next 2 (ccount c) (put_c c t)) (condition_tail c) t
    condition-said always f d next t v h l = end (said_child (said_tree d)) (left_line f) next 2 t
    condition-said (provided x) f d next t v h l = child (said_child (said_tree d)) (left_line f) next 2 0 (deep (said_tree d) none (put_e x t) (deep-expression x t) (expression-said x none t d v h l)) (end (said_child (said_tree d)) (left_line f) next 3 t)

    arguments-said : (es : Expressions) (d : ℕ) → ValidEs es → refusal_es ed es ≡ none → depth_es es ≤ d → AllSaid d es
    arguments-said eend d v h l = tt
    arguments-said (econs e es) d v h l =
        let f = first-none (refusal_e ed e) (refusal_es ed es) h in
        ((λ above t. deep (said_tree d) above (put_e e t) (deep-expression e t) (expression-said e above t d v.0 f.0 (omega arith))), arguments-said es d v.1 f.1 (omega arith))

    orders-said : (os : Orders) (n d i : ℕ) (next t : List Line) → ValidOs os → refusal_os ed os ≡ none → depth_os os ≤ d → Says (said_children (said_child (said_tree d)) (order_line n) next (suc i) (ocount os) (put_os os t)) (spell_os os) t
    orders-said oend n d i next t v h l = end (said_child (said_tree d)) (order_line n) next (suc i) t
    orders-said (ocons ASC e os) n d i next t v h l =
        let f = first-none (refusal_e ed e) (refusal_os ed os) h in
        child (said_child (said_tree d)) (order_line n) next (suc i) (ocount os)
        (flat (said_tree d) none ((bytes "asc" ∷ []) ∷ put_e e (put_os os t)) refl (line-said (said_tree d) none (bytes "asc" ∷ []) _ 1 refl (child (said_tree d) (bytes "asc" ∷ []) _ 0 0 (expression-said e none (put_os os t) d v.0 f.0 (omega arith)) (end (said_tree d) (bytes "asc" ∷ []) _ 1 (put_os os t)))))
        (orders-said os n d (suc i) next t v.1 f.1 (omega arith))
    orders-said (ocons DESC e os) n d i next t v h l =
        let f = first-none (refusal_e ed e) (refusal_os ed os) h in
        child (said_child (said_tree d)) (order_line n) next (suc i) (ocount os)
        (flat (said_tree d) none ((bytes "desc" ∷ []) ∷ put_e e (put_os os t)) refl (line-said (said_tree d) none (bytes "desc" ∷ []) _ 1 refl (child (said_tree d) (bytes "desc" ∷ []) _ 0 0 (expression-said e none (put_os os t) d v.0 f.0 (omega arith)) (end (said_tree d) (bytes "desc" ∷ []) _ 1 (put_os os t)))))
        (orders-said os n d (suc i) next t v.1 f.1 (omega arith))

  -- the lines of a whole query, its head among them
  pub query-said : (q : Query) (n : ℕ) → ValidQuery q → refusal ed q ≡ none → depth q.tree ≤ n → (said_tree (suc n) none (put_query q [])).tokens ≡ spell_p q.tree []
  unfolding put_query ValidQuery to_come amounts table row_in same before after manner_of
  query-said q n v h l =
      let r = tree-refused ed q h in
      sym (append-nil _) ∙ ((tree n none (bytes "query" ∷ q.kind ∷ q.dataset ∷ q.base ∷ []) _ 1 refl
      (child (said_child (said_tree n)) (bytes "query" ∷ q.kind ∷ q.dataset ∷ q.base ∷ []) _ 0 0 (as-child ed q.tree root none _ _ refl r refl (pattern-said q.tree root none [] n (λ e. refl) v.3 r l))
      (end (said_child (said_tree n)) (bytes "query" ∷ q.kind ∷ q.dataset ∷ q.base ∷ []) _ 1 []))).tokens [])
