-- The first line that is refused, line by line, is the one that decides: one induction over patterns and expressions. Assumes nothing.
use mathlib.Core.Path.{◌≡◌, refl, sym, ◌∙◌, ap}
use mathlib.Core.Bool.{Bool, true, false, not, ◌&&◌}
use mathlib.Core.List.{List, [], ◌∷◌}
use mathlib.Core.Option.{none, some}
use Prim.Native.Nat.{ℕ, ◌≤◌}
use native.Mathlib.Omega.{arith}
use Rattle.text.specs.Text.{Bytes, Line, same}
use Rattle.text.specs.Word.{bytes}
use Rattle.text.specs.Field.{is_var, fits, is_kind, clean}
use Rattle.text.proofs.Basics.{and_right}
use Rattle.algebra.specs.Tree.{Triple, OR, AND, EQ, SAME, GT, GE, LT, LE, ADD, SUB, MUL, DIV, IN, PLUS, NEG, NOT, IF, COALESCE, ASC, DESC, Pattern, bgp, path, join, union, minus, leftjoin, filter, graph, extend, values, orderby, project, distinct, reduced, slice, group, service, Expression, term, bound, exists, apply, call, Condition, always, provided, Expressions, eend, econs, Orders, oend, ocons, ocount}
use Rattle.algebra.specs.Query.{Query}
use Rattle.algebra.specs.Layout.{put_triples, put_rows, put_arity, put, put_e, put_c, put_es, put_os, put_query}
use Rattle.algebra.specs.Valid.{Valid, ValidE, ValidC, ValidEs, ValidOs, ValidQuery, different}
use Rattle.filtering.proofs.Copying.{number}
use Rattle.editions.specs.Token.{Edition, is11}
use Rattle.editions.specs.Lexical.{is_var1}
use Rattle.editions.specs.Refusals.{unsayable, Verdict, line, first, first_of, all_allowed, Place, root, inner, under_slice, under_distinct, under_project, free, takes_order, conditions, judge_query, refusal}
use Rattle.editions.proofs.Refused.{refusal_ts, refusal_rows, refusal_p, refusal_e, refusal_c, refusal_es, refusal_os, first-assoc, judged}
use Rattle.spelling.specs.bridge.Judging.{is_some, place_under, is_plain_pattern, is_plain_expression, verdict_of, judged_lines}
use Rattle.algebra.specs.Depth.{depth, depth_e, depth_c, depth_es, depth_os}
use Rattle.spelling.proofs.Sought.{pattern-sought}

none_first : (c : Verdict) → first none c ≡ c
unfolding first
none_first c = refl

-- what is refused is refused, whatever follows
refused-first : (c d : Verdict) → first (some unsayable) c ≡ first (some unsayable) d
unfolding first
refused-first c d = refl

refused-behind : (c d e : Verdict) → first (some unsayable) c ≡ first (first (some unsayable) d) e
unfolding first
refused-behind c d e = refl

-- a line, and the lines behind it
step : (a b c d : Verdict) → b ≡ first c d → first a b ≡ first (first a c) d
step a b c d e = ap (first a) e ∙ sym (first-assoc a c d)

-- two parts behind a line
step₂ : (a b c d e f : Verdict) → b ≡ first c e → e ≡ first d f → first a b ≡ first (first a (first c d)) f
step₂ a b c d e f x y = ap (first a) (x ∙ ap (first c) y ∙ sym (first-assoc c d f)) ∙ sym (first-assoc a (first c d) f)

-- the values' line and its columns' line: a column that is repeated counts on either
values-first : (w e d a : Bool) (r : Verdict) → first (line (w && e) true) (first (line d a) r) ≡ first (line (w && (e && d)) true) (first (line true a) r)
unfolding first
values-first true true true a r = refl
values-first true true false a r = refl
values-first true false d a r = refl
values-first false e d a r = refl

some-conditions : (os : Orders) → is_some (ocount os) ≡ conditions os
some-conditions oend = refl
some-conditions (ocons d e os) = refl

module _ (ed : Edition) (n : ℕ) where
  triples-lines : (ts : List Triple) (t : List Line) → judged_lines ed n inner (put_triples ts t) ≡ first (refusal_ts ts) (judged_lines ed n inner t)
  unfolding judged_lines verdict_of place_under is_plain_pattern is_plain_expression put_triples refusal_ts same
  triples-lines [] t = sym (none_first _)
  triples-lines (x ∷ xs) t = step _ _ (refusal_ts xs) _ (triples-lines xs t)

  rows-lines : (rs : List (List Bytes)) (t : List Line) → judged_lines ed n inner (put_rows rs t) ≡ first (refusal_rows rs) (judged_lines ed n inner t)
  unfolding judged_lines verdict_of place_under is_plain_pattern is_plain_expression put_rows refusal_rows same
  rows-lines [] t = sym (none_first _)
  rows-lines (x ∷ xs) t = step _ _ (refusal_rows xs) _ (rows-lines xs t)

  mutual
    unfolding depth judged_lines verdict_of place_under is_plain_pattern is_plain_expression put put_e put_arity refusal_p refusal_e Valid ValidE fits is_kind same

    pub pattern-lines : (p : Pattern) (w : Place) (t : List Line) → Valid p → depth p ≤ n → judged_lines ed n w (put p t) ≡ first (refusal_p ed p w) (judged_lines ed n inner t)
    pattern-lines (bgp ts) w t v h = step _ _ (refusal_ts ts) _ (triples-lines ts t)
    pattern-lines (join p q) w t v h = step₂ _ _ (refusal_p ed p inner) (refusal_p ed q inner) _ _ (pattern-lines p inner (put q t) v.0 (omega arith)) (pattern-lines q inner t v.1 (omega arith))
    pattern-lines (union p q) w t v h = step₂ _ _ (refusal_p ed p inner) (refusal_p ed q inner) _ _ (pattern-lines p inner (put q t) v.0 (omega arith)) (pattern-lines q inner t v.1 (omega arith))
    pattern-lines (minus p q) w t v h = step₂ _ _ (refusal_p ed p inner) (refusal_p ed q inner) _ _ (pattern-lines p inner (put q t) v.0 (omega arith)) (pattern-lines q inner t v.1 (omega arith))
    pattern-lines (leftjoin p q c) w t v h = step₂ _ _ (refusal_p ed p inner) (first (refusal_p ed q inner) (refusal_c ed c)) _ _ (pattern-lines p inner (put q (put_c c t)) v.0 (omega arith)) (pattern-lines q inner (put_c c t) v.1 (omega arith) ∙ ap (first (refusal_p ed q inner)) (condition-lines c t v.2 (omega arith)) ∙ sym (first-assoc (refusal_p ed q inner) (refusal_c ed c) _))
    pattern-lines (filter p e) w t v h = step₂ _ _ (refusal_p ed p inner) (refusal_e ed e) _ _ (pattern-lines p inner (put_e e t) v.0 (omega arith)) (expression-lines e inner t v.1 (omega arith))
    pattern-lines (graph y p) w t v h = step _ _ (refusal_p ed p inner) _ (pattern-lines p inner t v.1 (omega arith))
    pattern-lines (extend y p e) w t v h =
        ap (λ (b : Bool). first (line (free w && (is11 ed && not b)) (is_var1 y)) (judged_lines ed n inner (put p (put_e e t)))) (pattern-sought y (and_right (clean y) (is_var y) v.0) p (put_e e t) n v.1 (omega arith)).found
        ∙ step₂ _ _ (refusal_p ed p inner) (refusal_e ed e) _ _ (pattern-lines p inner (put_e e t) v.1 (omega arith)) (expression-lines e inner t v.2 (omega arith))
    pattern-lines (values cs rs) w t v h = values-first (free w) (is11 ed) (different cs) (all_allowed cs) _ ∙ step _ _ (first (line true (all_allowed cs)) (refusal_rows rs)) _ (step _ _ (refusal_rows rs) _ (rows-lines rs t))
    pattern-lines (orderby p os) w t v h =
        ap (λ (b : Bool). first (line (takes_order w && b) true) (judged_lines ed n inner (put p (put_os os t)))) (ap is_some (number (ocount os) v.0) ∙ some-conditions os)
        ∙ step₂ _ _ (refusal_p ed p inner) (refusal_os ed os) _ _ (pattern-lines p inner (put_os os t) v.1 (omega arith)) (orders-lines os t v.2 (omega arith))
    pattern-lines (project cs p) w t v h = step _ _ (refusal_p ed p under_project) _ (pattern-lines p under_project t v.1 (omega arith))
    pattern-lines (distinct p) w t v h = step _ _ (refusal_p ed p under_distinct) _ (pattern-lines p under_distinct t v (omega arith))
    pattern-lines (reduced p) w t v h = step _ _ (refusal_p ed p under_distinct) _ (pattern-lines p under_distinct t v (omega arith))
    pattern-lines (slice a b p) w t v h = step _ _ (refusal_p ed p under_slice) _ (pattern-lines p under_slice t v.2 (omega arith))
    pattern-lines (path s x o) w t v h = refused-first _ _
    pattern-lines (group ks p rs) w t v h = refused-first _ _
    pattern-lines (service y f p) w t v h = refused-first _ _

    expression-lines : (e : Expression) (w : Place) (t : List Line) → ValidE e → depth_e e ≤ n → judged_lines ed n w (put_e e t) ≡ first (refusal_e ed e) (judged_lines ed n inner t)
    expression-lines (term x) w t v h = refl
    expression-lines (bound x) w t v h = refl
    expression-lines (exists p) w t v h = step _ _ (refusal_p ed p inner) _ (pattern-lines p inner t v (omega arith))
    expression-lines (apply OR es) w t v h = step none _ (refusal_es ed es) _ (expressions-lines es t v.1 (omega arith))
    expression-lines (apply AND es) w t v h = step none _ (refusal_es ed es) _ (expressions-lines es t v.1 (omega arith))
    expression-lines (apply EQ es) w t v h = step none _ (refusal_es ed es) _ (expressions-lines es t v.1 (omega arith))
    expression-lines (apply SAME es) w t v h = step none _ (refusal_es ed es) _ (expressions-lines es t v.1 (omega arith))
    expression-lines (apply NOT es) w t v h = step none _ (refusal_es ed es) _ (expressions-lines es t v.1 (omega arith))
    expression-lines (apply GT es) w t v h = refused-behind _ _ _
    expression-lines (apply GE es) w t v h = refused-behind _ _ _
    expression-lines (apply LT es) w t v h = refused-behind _ _ _
    expression-lines (apply LE es) w t v h = refused-behind _ _ _
    expression-lines (apply ADD es) w t v h = refused-behind _ _ _
    expression-lines (apply SUB es) w t v h = refused-behind _ _ _
    expression-lines (apply MUL es) w t v h = refused-behind _ _ _
    expression-lines (apply DIV es) w t v h = refused-behind _ _ _
    expression-lines (apply IN es) w t v h = refused-behind _ _ _
    expression-lines (apply PLUS es) w t v h = refused-behind _ _ _
    expression-lines (apply NEG es) w t v h = refused-behind _ _ _
    expression-lines (apply IF es) w t v h = refused-behind _ _ _
    expression-lines (apply COALESCE es) w t v h = refused-behind _ _ _
    expression-lines (call y es) w t v h = refused-first _ _

    condition-lines : (c : Condition) (t : List Line) → ValidC c → depth_c c ≤ n → judged_lines ed n inner (put_c c t) ≡ first (refusal_c ed c) (judged_lines ed n inner t)
    condition-lines always t v h = sym (none_first _)
    condition-lines (provided e) t v h = expression-lines e inner t v h

    expressions-lines : (es : Expressions) (t : List Line) → ValidEs es → depth_es es ≤ n → judged_lines ed n inner (put_es es t) ≡ first (refusal_es ed es) (judged_lines ed n inner t)
    expressions-lines eend t v h = sym (none_first _)
    expressions-lines (econs e es) t v h = expression-lines e inner (put_es es t) v.0 (omega arith) ∙ step (refusal_e ed e) _ (refusal_es ed es) _ (expressions-lines es t v.1 (omega arith))

    orders-lines : (os : Orders) (t : List Line) → ValidOs os → depth_os os ≤ n → judged_lines ed n inner (put_os os t) ≡ first (refusal_os ed os) (judged_lines ed n inner t)
    orders-lines oend t v h = sym (none_first _)
    orders-lines (ocons ASC e os) t v h = none_first _ ∙ expression-lines e inner (put_os os t) v.0 (omega arith) ∙ step (refusal_e ed e) _ (refusal_os ed os) _ (orders-lines os t v.1 (omega arith))
    orders-lines (ocons DESC e os) t v h = none_first _ ∙ expression-lines e inner (put_os os t) v.0 (omega arith) ∙ step (refusal_e ed e) _ (refusal_os ed os) _ (orders-lines os t v.1 (omega arith))

  -- the lines of a whole query, its head among them
  pub query-lines : (q : Query) → ValidQuery q → depth q.tree ≤ n → judged_lines ed n root (put_query q []) ≡ refusal ed q
  unfolding judged_lines verdict_of place_under is_plain_pattern is_plain_expression put_query ValidQuery refusal judge_query first_of same
  query-lines q v h = ap (first (line (same q.kind (bytes "select") && (same q.dataset (bytes "-") && same q.base (bytes "-"))) true)) (pattern-lines q.tree root [] v.3 h ∙ sym (judged ed q.tree root []))
