-- The refusal of a tree from those of its parts; and that a query has a verdict for each of its lines. Assumes nothing.
use mathlib.Core.Path.{◌≡◌, refl, sym, ◌∙◌, ap}
use lib.ListN.{length}
use Rattle.text.specs.Text.{Line}
use Rattle.algebra.specs.Layout.{put_triples, put_rows, put, put_e, put_c, put_es, put_os, put_as, put_query}
use Prim.Native.Nat.{suc}
use Rattle.editions.proofs.Basics.{first-none}
use mathlib.Core.List.{List, [], ◌∷◌}
use mathlib.Core.Bool.{true, not, ◌&&◌}
use mathlib.Core.Option.{Option, none, some}
use Rattle.text.specs.Text.{Bytes, same}
use Rattle.text.specs.Word.{bytes}
use Rattle.text.specs.Field.{is_blank}
use Rattle.algebra.specs.Tree.{Triple, Pattern, bgp, path, join, union, minus, leftjoin, filter, graph, extend, values, orderby, project, distinct, reduced, slice, group, service, Expression, term, bound, exists, apply, call, Condition, always, provided, Expressions, eend, econs, Orders, oend, ocons, Aggregates, aend, agg, aggall}
use Rattle.algebra.specs.Query.{Query}
use Rattle.algebra.specs.Valid.{mem, different}
use Rattle.scoping.specs.InScope.{in_scope}
use Rattle.editions.specs.Token.{Edition, is11}
use Rattle.editions.specs.Lexical.{is_var1}
use Rattle.editions.specs.Readers.{nonempty}
use Rattle.editions.specs.Refusals.{Refusal, unsayable, Verdict, line, first, first_of, allowed, all_allowed, all_cells, Place, root, inner, under_slice, under_distinct, under_project, free, begins, takes_distinct, takes_project, takes_order, conditions, covered, judge_ts, judge_rows, judge, judge_e, judge_c, judge_es, judge_os, judge_as, judge_query, refusal}

unfoldable pub refusal_ts : List Triple → Option Refusal
refusal_ts [] = none
refusal_ts (t ∷ ts) = first (line (not (is_blank t.subj) && not (is_blank t.obj)) (allowed t.subj && (allowed t.pred && allowed t.obj))) (refusal_ts ts)

unfoldable pub refusal_rows : List (List Bytes) → Option Refusal
refusal_rows [] = none
refusal_rows (r ∷ rs) = first (line true (all_cells r)) (refusal_rows rs)

module _ (ed : Edition) where
  unfoldable mutual
    pub refusal_p : Pattern → Place → Option Refusal
    refusal_p (bgp ts) w = first (line (free w) true) (refusal_ts ts)
    refusal_p (join p q) w = first (line (free w) true) (first (refusal_p p inner) (refusal_p q inner))
    refusal_p (leftjoin p q c) w = first (line (free w) true) (first (refusal_p p inner) (first (refusal_p q inner) (refusal_c c)))
    refusal_p (filter p e) w = first (line (free w) true) (first (refusal_p p inner) (refusal_e e))
    refusal_p (union p q) w = first (line (free w) true) (first (refusal_p p inner) (refusal_p q inner))
    refusal_p (graph n p) w = first (line (free w) (allowed n)) (refusal_p p inner)
    refusal_p (minus p q) w = first (line (free w && is11 ed) true) (first (refusal_p p inner) (refusal_p q inner))
    refusal_p (extend v p e) w = first (line (free w && (is11 ed && not (mem v (in_scope p)))) (is_var1 v)) (first (refusal_p p inner) (refusal_e e))
    refusal_p (values cs rs) w = first (line (free w && (is11 ed && different cs)) true) (first (line true (all_allowed cs)) (refusal_rows rs))
    refusal_p (slice a n p) w = first (line (begins ed w) true) (refusal_p p under_slice)
    refusal_p (distinct p) w = first (line (takes_distinct ed w) true) (refusal_p p under_distinct)
    refusal_p (reduced p) w = first (line (takes_distinct ed w) true) (refusal_p p under_distinct)
    refusal_p (project cs p) w = first (line (takes_project ed w && nonempty cs) (all_allowed cs)) (refusal_p p under_project)
    refusal_p (orderby p os) w = first (line (takes_order w && conditions os) true) (first (refusal_p p inner) (refusal_os os))
    refusal_p (path s x o) w = some unsayable
    refusal_p (group ks p rs) w = some unsayable
    refusal_p (service n f p) w = some unsayable

    pub refusal_e : Expression → Option Refusal
    refusal_e (term x) = line true (allowed x)
    refusal_e (bound v) = line true (is_var1 v)
    refusal_e (exists p) = first (line (is11 ed) true) (refusal_p p inner)
    refusal_e (apply o es) = first (line (covered o) true) (refusal_es es)
    refusal_e (call n es) = some unsayable

    pub refusal_c : Condition → Option Refusal
    refusal_c always = none
    refusal_c (provided e) = refusal_e e

    pub refusal_es : Expressions → Option Refusal
    refusal_es eend = none
    refusal_es (econs e es) = first (refusal_e e) (refusal_es es)

    -- a line `asc` or `desc` is always fine
    pub refusal_os : Orders → Option Refusal
    refusal_os oend = none
    refusal_os (ocons d e os) = first (refusal_e e) (refusal_os os)

-- ---- the two say the same

pub first-assoc : (a b c : Verdict) → first (first a b) c ≡ first a (first b c)
unfolding first
first-assoc none b c = refl
first-assoc (some n) b c = refl

none_first : (c : Verdict) → first none c ≡ c
unfolding first
none_first c = refl

some_first : (n : Refusal) (c d : Verdict) → first (some n) c ≡ first (some n) d
unfolding first
some_first n c d = refl

triples-judged : (ts : List Triple) (t : List Verdict) → first_of (judge_ts ts t) ≡ first (refusal_ts ts) (first_of t)
unfolding judge_ts refusal_ts first_of
triples-judged [] t = sym (none_first (first_of t))
triples-judged (x ∷ xs) t = rw (triples-judged xs t, first-assoc)

rows-judged : (rs : List (List Bytes)) (t : List Verdict) → first_of (judge_rows rs t) ≡ first (refusal_rows rs) (first_of t)
unfolding judge_rows refusal_rows first_of
rows-judged [] t = sym (none_first (first_of t))
rows-judged (r ∷ rs) t = rw (rows-judged rs t, first-assoc)

module _ (ed : Edition) where
  mutual
    unfolding judge refusal_p first_of

    pub judged : (p : Pattern) (w : Place) (t : List Verdict) → first_of (judge ed p w t) ≡ first (refusal_p ed p w) (first_of t)
    judged (bgp ts) w t = rw (triples-judged ts t, first-assoc)
    judged (join p q) w t = rw (judged p inner (judge ed q inner t), judged q inner t) (simp first-assoc)
    judged (leftjoin p q c) w t = rw (judged p inner (judge ed q inner (judge_c ed c t)), judged q inner (judge_c ed c t), judged_c c t) (simp first-assoc)
    judged (filter p e) w t = rw (judged p inner (judge_e ed e t), judged_e e t) (simp first-assoc)
    judged (union p q) w t = rw (judged p inner (judge ed q inner t), judged q inner t) (simp first-assoc)
    judged (graph n p) w t = rw (judged p inner t, first-assoc)
    judged (minus p q) w t = rw (judged p inner (judge ed q inner t), judged q inner t) (simp first-assoc)
    judged (extend v p e) w t = rw (judged p inner (judge_e ed e t), judged_e e t) (simp first-assoc)
    judged (values cs rs) w t = rw (rows-judged rs t) (simp first-assoc)
    judged (slice a n p) w t = rw (judged p under_slice t, first-assoc)
    judged (distinct p) w t = rw (judged p under_distinct t, first-assoc)
    judged (reduced p) w t = rw (judged p under_distinct t, first-assoc)
    judged (project cs p) w t = rw (judged p under_project t, first-assoc)
    judged (orderby p os) w t = rw (judged p inner (judge_os ed os t), judged_os os t) (simp first-assoc)
    judged (path s x o) w t = refl
    judged (group ks p rs) w t = some_first unsayable _ _
    judged (service n f p) w t = some_first unsayable _ _

    judged_e : (x : Expression) (t : List Verdict) → first_of (judge_e ed x t) ≡ first (refusal_e ed x) (first_of t)
    judged_e (term x) t = refl
    judged_e (bound v) t = refl
    judged_e (exists p) t = rw (judged p inner t, first-assoc)
    judged_e (apply o es) t = rw (judged_es es t, first-assoc)
    judged_e (call n es) t = some_first unsayable _ _

    judged_c : (c : Condition) (t : List Verdict) → first_of (judge_c ed c t) ≡ first (refusal_c ed c) (first_of t)
    judged_c always t = sym (none_first (first_of t))
    judged_c (provided e) t = judged_e e t

    judged_es : (es : Expressions) (t : List Verdict) → first_of (judge_es ed es t) ≡ first (refusal_es ed es) (first_of t)
    judged_es eend t = sym (none_first (first_of t))
    judged_es (econs e es) t = rw (judged_e e (judge_es ed es t), judged_es es t, first-assoc)

    judged_os : (os : Orders) (t : List Verdict) → first_of (judge_os ed os t) ≡ first (refusal_os ed os) (first_of t)
    judged_os oend t = sym (none_first (first_of t))
    judged_os (ocons d e os) t = none_first _ ∙ rw (judged_e e (judge_os ed os t), judged_os os t, first-assoc)

  pub tree-refused : (q : Query) → refusal ed q ≡ none → refusal_p ed q.tree root ≡ none
  unfolding refusal judge_query first_of
  tree-refused q h =
      let e = (first-none (line (same q.kind (bytes "select") && (same q.dataset (bytes "-") && same q.base (bytes "-"))) true) _ h).1 in
      (first-none (refusal_p ed q.tree root) none (sym (judged q.tree root []) ∙ e)).0

-- ---- a verdict a line

triples-many : (ts : List Triple) (t : List Verdict) (s : List Line) → length t ≡ length s → length (judge_ts ts t) ≡ length (put_triples ts s)
unfolding judge_ts put_triples
triples-many [] t s h = h
triples-many (x ∷ xs) t s h = ap suc (triples-many xs t s h)

rows-many : (rs : List (List Bytes)) (t : List Verdict) (s : List Line) → length t ≡ length s → length (judge_rows rs t) ≡ length (put_rows rs s)
unfolding judge_rows put_rows
rows-many [] t s h = h
rows-many (r ∷ rs) t s h = ap suc (rows-many rs t s h)

module _ (ed : Edition) where
  mutual
    unfolding judge put

    many : (p : Pattern) (w : Place) (t : List Verdict) (s : List Line) → length t ≡ length s → length (judge ed p w t) ≡ length (put p s)
    many (bgp ts) w t s h = ap suc (triples-many ts t s h)
    many (join p q) w t s h = ap suc (many p inner _ _ (many q inner t s h))
    many (leftjoin p q c) w t s h = ap suc (many p inner _ _ (many q inner _ _ (many_c c t s h)))
    many (filter p e) w t s h = ap suc (many p inner _ _ (many_e e t s h))
    many (union p q) w t s h = ap suc (many p inner _ _ (many q inner t s h))
    many (graph n p) w t s h = ap suc (many p inner t s h)
    many (minus p q) w t s h = ap suc (many p inner _ _ (many q inner t s h))
    many (extend v p e) w t s h = ap suc (many p inner _ _ (many_e e t s h))
    many (values cs rs) w t s h = ap (λ n. suc (suc n)) (rows-many rs t s h)
    many (slice a n p) w t s h = ap suc (many p under_slice t s h)
    many (distinct p) w t s h = ap suc (many p under_distinct t s h)
    many (reduced p) w t s h = ap suc (many p under_distinct t s h)
    many (project cs p) w t s h = ap suc (many p under_project t s h)
    many (orderby p os) w t s h = ap suc (many p inner _ _ (many_os os t s h))
    many (path x y z) w t s h = ap suc h
    many (group ks p rs) w t s h = ap (λ n. suc (suc n)) (many p inner _ _ (many_as rs t s h))
    many (service n f p) w t s h = ap suc (many p inner t s h)

    many_e : (x : Expression) (t : List Verdict) (s : List Line) → length t ≡ length s → length (judge_e ed x t) ≡ length (put_e x s)
    many_e (term x) t s h = ap suc h
    many_e (bound v) t s h = ap suc h
    many_e (exists p) t s h = ap suc (many p inner t s h)
    many_e (apply o es) t s h = ap suc (many_es es t s h)
    many_e (call n es) t s h = ap suc (many_es es t s h)

    many_c : (c : Condition) (t : List Verdict) (s : List Line) → length t ≡ length s → length (judge_c ed c t) ≡ length (put_c c s)
    many_c always t s h = h
    many_c (provided e) t s h = many_e e t s h

    many_es : (es : Expressions) (t : List Verdict) (s : List Line) → length t ≡ length s → length (judge_es ed es t) ≡ length (put_es es s)
    many_es eend t s h = h
    many_es (econs e es) t s h = many_e e _ _ (many_es es t s h)

    many_os : (os : Orders) (t : List Verdict) (s : List Line) → length t ≡ length s → length (judge_os ed os t) ≡ length (put_os os s)
    many_os oend t s h = h
    many_os (ocons d e os) t s h = ap suc (many_e e _ _ (many_os os t s h))

    many_as : (rs : Aggregates) (t : List Verdict) (s : List Line) → length t ≡ length s → length (judge_as ed rs t) ≡ length (put_as rs s)
    many_as aend t s h = h
    many_as (agg v n f e rs) t s h = ap suc (many_e e _ _ (many_as rs t s h))
    many_as (aggall v f rs) t s h = ap suc (many_as rs t s h)

  -- as many verdicts as the query's text has lines
  pub verdict-a-line : (q : Query) → length (judge_query ed q) ≡ length (put_query q [])
  unfolding judge_query put_query
  verdict-a-line q = ap suc (many q.tree root [] [] refl)
