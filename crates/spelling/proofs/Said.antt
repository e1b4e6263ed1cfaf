-- What is said of a query's lines is its spelling. Assumes nothing.
use mathlib.Core.Path.{◌≡◌, refl, sym, ◌∙◌, ap, subst}
use mathlib.Core.Bool.{Bool, true, false, cond, ◌&&◌, false≢true}
use mathlib.Core.List.{List, [], ◌∷◌, ◌++◌, append_assoc}
use mathlib.Core.Option.{Option, none, some}
use Prim.Native.Nat.{ℕ, suc}
use lib.ListN.{length}
use Rattle.text.specs.Text.{Bytes, Line, same}
use Rattle.text.specs.Word.{bytes}
use Rattle.text.specs.Field.{is_dash, decimal}
use Rattle.algebra.specs.Tree.{Triple, Pattern, bgp, path, join, union, minus, leftjoin, filter, graph, extend, values, orderby, project, distinct, reduced, slice, group, service, Expression, term, bound, exists, apply, call, OR, AND, EQ, SAME, GT, GE, LT, LE, ADD, SUB, MUL, DIV, IN, PLUS, NEG, NOT, IF, COALESCE}
use Rattle.algebra.specs.bridge.Table.{table, row_in}
use Rattle.algebra.specs.Layout.{put_triples, put_rows, put_arity, put, put_e}
use Rattle.algebra.specs.Valid.{Valid}
use Rattle.negating.specs.bridge.Lines.{word}
use Rattle.filtering.specs.bridge.Copying.{plus, amounts, to_come}
use Rattle.filtering.proofs.Copying.{number}
use Rattle.editions.specs.Token.{Edition, Keyword, SELECT, WHERE, LIMIT, OFFSET, VALUES, OPEN, CLOSE, LEFT, RIGHT, Token, key, var, integer}
use Rattle.editions.specs.Spelling.{cell_of, spell_triples, spell_vars, spell_cells, spell_rows, spell_slice, behind, spell_p}
use Rattle.editions.specs.Refusals.{unsayable, line, first, Place, root, inner, under_slice, under_distinct, under_project, free, begins, takes_distinct, takes_order, conditions}
use Rattle.editions.proofs.Refused.{refusal_p, refusal_os}
use Rattle.editions.proofs.Basics.{impossible}
use Rattle.spelling.specs.bridge.Saying.{manner_of, marked, before, after, word_next, shallow, Said, in_front, and_then, said_children, said_line, said_child, said_tree}

-- what was said stands in front of any tokens as the spelling does; and these lines are left
pub record Says (x : Said) (s : List Token → List Token) (t : List Line) : Type 0 where
  pub tokens : (u : List Token) → x.tokens ++ u ≡ s u
  pub left : x.left ≡ t

-- ---- put together

pub end : (f : Option Keyword → List Line → Said) (l : Line) (next : List Line) (i : ℕ) (t : List Line) → Says (said_children f l next i 0 t) (λ u. u) t
unfolding said_children
end f l next i t = record { tokens = λ u. refl; left = refl }

-- a child, the tokens behind it, the children behind it
pub child : (f : Option Keyword → List Line → Said) (l : Line) (next : List Line) (i k : ℕ) {ls m t : List Line} {s r : List Token → List Token}
    → Says (f (manner_of (word l)) ls) s m → Says (said_children f l next (suc i) k m) r t → Says (said_children f l next i (suc k) ls) (λ u. s (after l next i k ++ r u)) t
unfolding said_children
child f l next i k {ls} {m} {t} {s} {r} a b =
    subst (λ (o : List Line). Says (and_then (f (manner_of (word l)) ls) (in_front (after l next i k) (said_children f l next (suc i) k o))) (λ u. s (after l next i k ++ r u)) t) (sym a.left)
    (record {
      tokens = λ u.
          append_assoc (f (manner_of (word l)) ls).tokens _ u
          ∙ ap (λ (y : List Token). (f (manner_of (word l)) ls).tokens ++ y) (append_assoc (after l next i k) _ u ∙ ap (λ (y : List Token). after l next i k ++ y) (b.tokens u))
          ∙ a.tokens _;
      left = b.left;
    })

-- a line and its children
pub line-said : (f : Option Keyword → List Line → Said) (above : Option Keyword) (l : Line) (ls : List Line) (n : ℕ) {t : List Line} {r : List Token → List Token} → to_come l ≡ n
    → Says (said_children f l ls 0 n ls) r t → Says (said_line f above (l ∷ ls)) (λ u. before above l ++ r u) t
unfolding said_line
line-said f above l ls n {t} {r} e b =
    subst (λ (k : ℕ). Says (in_front (before above l) (said_children f l ls 0 k ls)) (λ u. before above l ++ r u) t) (sym e)
    (record { tokens = λ u. append_assoc (before above l) _ u ∙ ap (λ (y : List Token). before above l ++ y) (b.tokens u); left = b.left })

-- a pattern's or an expression's
pub tree : (d : ℕ) (above : Option Keyword) (l : Line) (ls : List Line) (n : ℕ) {t : List Line} {r : List Token → List Token} → to_come l ≡ n
    → Says (said_children (said_child (said_tree d)) l ls 0 n ls) r t → Says (said_tree (suc d) above (l ∷ ls)) (λ u. before above l ++ r u) t
unfolding said_tree
tree d above l ls n e b = line-said (said_child (said_tree d)) above l ls n e b

-- a child that is a pattern or an expression, and one that is neither
pub deep : (f : Option Keyword → List Line → Said) (m : Option Keyword) (ls : List Line) {s : List Token → List Token} {t : List Line} → shallow (word_next ls) ≡ false → Says (f m ls) s t → Says (said_child f m ls) s t
unfolding said_child
deep f m ls {s} {t} h a = subst (λ (b : Bool). Says (cond b (said_line f m ls) (f m ls)) s t) (sym h) a

pub flat : (f : Option Keyword → List Line → Said) (m : Option Keyword) (ls : List Line) {s : List Token → List Token} {t : List Line} → shallow (word_next ls) ≡ true → Says (said_line f m ls) s t → Says (said_child f m ls) s t
unfolding said_child
flat f m ls {s} {t} h a = subst (λ (b : Bool). Says (cond b (said_line f m ls) (f m ls)) s t) (sym h) a

-- ---- tokens in front of tokens

pub vars-append : (vs : List Bytes) (t u : List Token) → spell_vars vs t ++ u ≡ spell_vars vs (t ++ u)
unfolding spell_vars
vars-append [] t u = refl
vars-append (v ∷ vs) t u = ap (◌∷◌ (var v)) (vars-append vs t u)

pub cells-append : (xs : List Bytes) (t u : List Token) → spell_cells xs t ++ u ≡ spell_cells xs (t ++ u)
unfolding spell_cells
cells-append [] t u = refl
cells-append (x ∷ xs) t u = ap (◌∷◌ (cell_of x)) (cells-append xs t u)

pub slice-append : (a n : Bytes) (u : List Token) → spell_slice a n [] ++ u ≡ spell_slice a n u
unfolding spell_slice
slice-append a n u = go (is_dash n)
  where
    go : (b : Bool) → (key OFFSET ∷ integer a ∷ cond b [] (key LIMIT ∷ integer n ∷ [])) ++ u ≡ key OFFSET ∷ integer a ∷ cond b u (key LIMIT ∷ integer n ∷ u)
    go true = refl
    go false = refl

-- the same tokens
pub says_is : {x : Said} {s r : List Token → List Token} {t : List Line} → Says x s t → ((u : List Token) → s u ≡ r u) → Says x r t
says_is a e = record { tokens = λ u. a.tokens u ∙ e u; left = a.left }

-- ---- lines without children

pub leaf : (d : ℕ) (above : Option Keyword) (l : Line) (t : List Line) → to_come l ≡ 0 → Says (said_tree (suc d) above (l ∷ t)) (λ u. before above l ++ u) t
leaf d above l t e = tree d above l t 0 e (end (said_child (said_tree d)) l t 0 t)

pub flat-leaf : (f : Option Keyword → List Line → Said) (above : Option Keyword) (l : Line) (t : List Line) → shallow (word l) ≡ true → to_come l ≡ 0 → Says (said_child f above (l ∷ t)) (λ u. before above l ++ u) t
flat-leaf f above l t h e = flat f above (l ∷ t) h (line-said f above l t 0 e (end f l t 0 t))

abbrev pub bgp_line : ℕ → Line
bgp_line n = bytes "bgp" ∷ decimal n ∷ []

pub triples-said : (ts : List Triple) (n d i : ℕ) (next t : List Line) → Says (said_children (said_child (said_tree d)) (bgp_line n) next i (length ts) (put_triples ts t)) (spell_triples ts) t
unfolding put_triples spell_triples to_come amounts table row_in same before after manner_of shallow
triples-said [] n d i next t = end (said_child (said_tree d)) (bgp_line n) next i t
triples-said (x ∷ xs) n d i next t =
    child (said_child (said_tree d)) (bgp_line n) next i (length xs) (flat-leaf (said_tree d) none (bytes "t" ∷ x.subj ∷ x.pred ∷ x.obj ∷ []) (put_triples xs t) refl refl) (triples-said xs n d (suc i) next t)

abbrev values_line : ℕ → ℕ → Line
values_line n k = bytes "values" ∷ decimal n ∷ decimal k ∷ []

-- behind a row or the columns: the brace that closes the rows stands behind the last of them
abbrev rows_tail : List (List Bytes) → List Token → List Token
rows_tail [] u = u
rows_tail (r ∷ rs) u = spell_rows (r ∷ rs) (key CLOSE ∷ u)

rows-tail : (n k i : ℕ) (next : List Line) (rs : List (List Bytes)) (u : List Token) → after (values_line n k) next i (length rs) ++ rows_tail rs u ≡ spell_rows rs (key CLOSE ∷ u)
unfolding after same spell_rows
rows-tail n k i next [] u = refl
rows-tail n k i next (r ∷ rs) u = refl

rows-said : (rs : List (List Bytes)) (n k d i : ℕ) (next t : List Line) → Says (said_children (said_child (said_tree d)) (values_line n k) next i (length rs) (put_rows rs t)) (rows_tail rs) t
unfolding put_rows spell_rows to_come amounts table row_in same before manner_of shallow
rows-said [] n k d i next t = end (said_child (said_tree d)) (values_line n k) next i t
rows-said (r ∷ rs) n k d i next t =
    says_is (child (said_child (said_tree d)) (values_line n k) next i (length rs) (flat-leaf (said_tree d) none (bytes "row" ∷ r) (put_rows rs t) refl refl) (rows-said rs n k d (suc i) next t))
    (λ u. ap (◌∷◌ (key LEFT)) (cells-append r (key RIGHT ∷ []) _ ∙ ap (λ (y : List Token). spell_cells r (key RIGHT ∷ y)) (rows-tail n k i next rs u)))

pub values-said : (cs : List Bytes) (rs : List (List Bytes)) (above : Option Keyword) (k : ℕ) (t : List Line) → Valid (values cs rs) → Says (said_tree (suc k) above (put (values cs rs) t)) (spell_p (values cs rs)) t
unfolding put Valid spell_p to_come amounts plus table row_in same before manner_of shallow
values-said cs rs above k t v =
    says_is (tree k above (values_line (length cs) (length rs)) ((bytes "cols" ∷ cs) ∷ put_rows rs t) (suc (length rs)) (ap suc (number (length rs) v.1))
    (child (said_child (said_tree k)) (values_line (length cs) (length rs)) _ 0 (length rs) (flat-leaf (said_tree k) none (bytes "cols" ∷ cs) (put_rows rs t) refl refl) (rows-said rs (length cs) (length rs) k 1 _ t)))
    (λ u. ap (λ (y : List Token). key VALUES ∷ key LEFT ∷ y) (vars-append cs (key RIGHT ∷ key OPEN ∷ []) _ ∙ ap (λ (y : List Token). spell_vars cs (key RIGHT ∷ key OPEN ∷ y)) (rows-tail (length cs) (length rs) 0 _ rs u)))

-- ---- stacks

-- DISTINCT and REDUCED stand behind the first token
abbrev pub mannered : Option Keyword → List Token → List Token
mannered none s = s
mannered (some k) s = behind (key k) s

abbrev pub is_order : Pattern → Bool
is_order (orderby p os) = true
is_order (bgp ts) = false
is_order (path s x o) = false
is_order (join p q) = false
is_order (union p q) = false
is_order (minus p q) = false
is_order (leftjoin p q c) = false
is_order (filter p e) = false
is_order (graph n p) = false
is_order (extend v p e) = false
is_order (values cs rs) = false
is_order (project cs p) = false
is_order (distinct p) = false
is_order (reduced p) = false
is_order (slice a n p) = false
is_order (group ks p rs) = false
is_order (service n f p) = false

-- an orderby closes the group of its project itself
abbrev pub opened : Bool → List Token → List Token
opened true u = key CLOSE ∷ u
opened false u = u

-- what is said of a pattern under a line with that word
abbrev pub spelled_under : Option Keyword → Pattern → List Token → List Token
spelled_under above p u = mannered above (spell_p p (opened (is_order p) u))

pub order-first : (p : Pattern) (t : List Line) → same (word_next (put p t)) (bytes "orderby") ≡ is_order p
unfolding put same
order-first (orderby p os) t = refl
order-first (bgp ts) t = refl
order-first (path s x o) t = refl
order-first (join p q) t = refl
order-first (union p q) t = refl
order-first (minus p q) t = refl
order-first (leftjoin p q c) t = refl
order-first (filter p e) t = refl
order-first (graph n p) t = refl
order-first (extend v p e) t = refl
order-first (values cs rs) t = refl
order-first (project cs p) t = refl
order-first (distinct p) t = refl
order-first (reduced p) t = refl
order-first (slice a n p) t = refl
order-first (group ks p rs) t = refl
order-first (service n f p) t = refl

-- a pattern's first line, and an expression's, add depth
pub deep-pattern : (p : Pattern) (t : List Line) → shallow (word_next (put p t)) ≡ false
unfolding put same shallow
deep-pattern (orderby p os) t = refl
deep-pattern (bgp ts) t = refl
deep-pattern (path s x o) t = refl
deep-pattern (join p q) t = refl
deep-pattern (union p q) t = refl
deep-pattern (minus p q) t = refl
deep-pattern (leftjoin p q c) t = refl
deep-pattern (filter p e) t = refl
deep-pattern (graph n p) t = refl
deep-pattern (extend v p e) t = refl
deep-pattern (values cs rs) t = refl
deep-pattern (project cs p) t = refl
deep-pattern (distinct p) t = refl
deep-pattern (reduced p) t = refl
deep-pattern (slice a n p) t = refl
deep-pattern (group ks p rs) t = refl
deep-pattern (service n f p) t = refl

pub deep-expression : (e : Expression) (t : List Line) → shallow (word_next (put_e e t)) ≡ false
unfolding put_e put_arity same shallow
deep-expression (term x) t = refl
deep-expression (bound v) t = refl
deep-expression (exists p) t = refl
deep-expression (call n es) t = refl
deep-expression (apply OR es) t = refl
deep-expression (apply AND es) t = refl
deep-expression (apply EQ es) t = refl
deep-expression (apply SAME es) t = refl
deep-expression (apply GT es) t = refl
deep-expression (apply GE es) t = refl
deep-expression (apply LT es) t = refl
deep-expression (apply LE es) t = refl
deep-expression (apply ADD es) t = refl
deep-expression (apply SUB es) t = refl
deep-expression (apply MUL es) t = refl
deep-expression (apply DIV es) t = refl
deep-expression (apply IN es) t = refl
deep-expression (apply PLUS es) t = refl
deep-expression (apply NEG es) t = refl
deep-expression (apply NOT es) t = refl
deep-expression (apply IF es) t = refl
deep-expression (apply COALESCE es) t = refl

pub no-order : (ed : Edition) (p : Pattern) (w : Place) → takes_order w ≡ false → refusal_p ed p w ≡ none → is_order p ≡ false
unfolding refusal_p first
no-order ed (orderby p os) w e h = absurd (false≢true (sym e ∙ go (takes_order w) (conditions os) h))
  where
    go : (a b : Bool) → first (line (a && b) true) (first (refusal_p ed p inner) (refusal_os ed os)) ≡ none → a ≡ true
    go true b h = refl
    go false b h = impossible unsayable h
no-order ed (bgp ts) w e h = refl
no-order ed (path s x o) w e h = refl
no-order ed (join p q) w e h = refl
no-order ed (union p q) w e h = refl
no-order ed (minus p q) w e h = refl
no-order ed (leftjoin p q c) w e h = refl
no-order ed (filter p x) w e h = refl
no-order ed (graph n p) w e h = refl
no-order ed (extend v p x) w e h = refl
no-order ed (values cs rs) w e h = refl
no-order ed (project cs p) w e h = refl
no-order ed (distinct p) w e h = refl
no-order ed (reduced p) w e h = refl
no-order ed (slice a n p) w e h = refl
no-order ed (group ks p rs) w e h = refl
no-order ed (service n f p) w e h = refl

-- only what stands under distinct or reduced stands under such a line
abbrev pub is_under_distinct : Place → Bool
is_under_distinct root = false
is_under_distinct inner = false
is_under_distinct under_slice = false
is_under_distinct under_distinct = true
is_under_distinct under_project = false

abbrev pub Stands : Place → Option Keyword → Type 0
Stands w above = is_under_distinct w ≡ false → above ≡ none

pub free-stands : (w : Place) → free w ≡ true → is_under_distinct w ≡ false
free-stands root h = refl
free-stands inner h = refl
free-stands under_slice h = refl
free-stands under_distinct h = absurd (false≢true h)
free-stands under_project h = refl

pub begins-stands : (ed : Edition) (w : Place) → begins ed w ≡ true → is_under_distinct w ≡ false
begins-stands ed root h = refl
begins-stands ed inner h = refl
begins-stands ed under_slice h = refl
begins-stands ed under_distinct h = absurd (false≢true h)
begins-stands ed under_project h = refl

pub distinct-stands : (ed : Edition) (w : Place) → takes_distinct ed w ≡ true → is_under_distinct w ≡ false
distinct-stands ed root h = refl
distinct-stands ed inner h = refl
distinct-stands ed under_slice h = refl
distinct-stands ed under_distinct h = absurd (false≢true h)
distinct-stands ed under_project h = refl

pub order-stands : (w : Place) → takes_order w ≡ true → is_under_distinct w ≡ false
order-stands root h = refl
order-stands inner h = refl
order-stands under_slice h = refl
order-stands under_distinct h = absurd (false≢true h)
order-stands under_project h = refl

-- where the line above is neither, nothing is put behind the first token
pub plainly : {x : Said} {s : List Token → List Token} {t : List Line} (above : Option Keyword) → above ≡ none → Says x s t → Says x (λ u. mannered above (s u)) t
plainly {s = s} above m a = says_is a (λ u. ap (λ (o : Option Keyword). mannered o (s u)) (sym m))

-- a pattern that is no orderby, under a line that is neither
pub as-inner : (ed : Edition) (p : Pattern) (w : Place) (above : Option Keyword) {x : Said} {t : List Line} → takes_order w ≡ false → refusal_p ed p w ≡ none → above ≡ none → Says x (spelled_under above p) t → Says x (spell_p p) t
as-inner ed p w above e h m a = says_is a (λ u. ap (λ (o : Option Keyword). mannered o (spell_p p (opened (is_order p) u))) m ∙ ap (λ (b : Bool). spell_p p (opened b u)) (no-order ed p w e h))

-- the same of a child
pub as-child : (ed : Edition) (p : Pattern) (w : Place) (above : Option Keyword) (d : ℕ) (r : List Line) {t : List Line} → takes_order w ≡ false → refusal_p ed p w ≡ none → above ≡ none → Says (said_tree d above (put p r)) (spelled_under above p) t → Says (said_child (said_tree d) above (put p r)) (spell_p p) t
as-child ed p w above d r e h m a = deep (said_tree d) above (put p r) (deep-pattern p r) (as-inner ed p w above e h m a)

-- a project's tokens, whatever stands behind SELECT
pub select-is : (m : Option Keyword) (cs : List Bytes) (b : Bool) (q : Pattern) (u : List Token)
    → (key SELECT ∷ marked m (spell_vars cs (key WHERE ∷ key OPEN ∷ []))) ++ spell_p q (opened b (cond b [] (key CLOSE ∷ []) ++ u)) ≡ mannered m (key SELECT ∷ spell_vars cs (key WHERE ∷ key OPEN ∷ spell_p q (key CLOSE ∷ u)))
select-is m cs b q u = go m ∙ ap (λ (y : List Token). mannered m (key SELECT ∷ spell_vars cs (key WHERE ∷ key OPEN ∷ spell_p q y))) (closed b)
  where
    closed : (b : Bool) → opened b (cond b [] (key CLOSE ∷ []) ++ u) ≡ key CLOSE ∷ u
    closed true = refl
    closed false = refl

    go : (m : Option Keyword) → (key SELECT ∷ marked m (spell_vars cs (key WHERE ∷ key OPEN ∷ []))) ++ spell_p q (opened b (cond b [] (key CLOSE ∷ []) ++ u)) ≡ mannered m (key SELECT ∷ spell_vars cs (key WHERE ∷ key OPEN ∷ spell_p q (opened b (cond b [] (key CLOSE ∷ []) ++ u))))
    go none = ap (◌∷◌ (key SELECT)) (vars-append cs (key WHERE ∷ key OPEN ∷ []) _)
    go (some k) = ap (λ (y : List Token). key SELECT ∷ key k ∷ y) (vars-append cs (key WHERE ∷ key OPEN ∷ []) _)
