-- What push constants and negate write is a query's too: a head line, and the text of one tree. Assumes nothing.
use mathlib.Core.Path.{◌≡◌, refl, sym, subst, ◌∙◌}
use mathlib.Core.Bool.{Bool, true, false, cond}
use mathlib.Core.List.{List, []}
use mathlib.Core.Option.{Option, none, some}
use Prim.Native.Nat.{ℕ, ◌≤◌}
use native.Mathlib.Omega.{arith}
use lib.ListN.{length}
use Rattle.text.specs.Text.{Bytes, text_of}
use Rattle.text.specs.Field.{clean, variable}
use Rattle.algebra.specs.Tree.{NOT, Pattern, bgp, path, join, union, minus, leftjoin, filter, graph, extend, values, orderby, project, distinct, reduced, slice, group, service, exists, apply, eend, econs}
use Rattle.algebra.specs.Query.{Query}
use Rattle.algebra.specs.Reader.{reads}
use Rattle.algebra.specs.Layout.{put_query, layout}
use Rattle.algebra.specs.Bounded.{layout_query}
use Rattle.algebra.specs.Given.{read_given_query}
use Rattle.algebra.specs.Texts.{read_query, read_any_tree}
use Rattle.algebra.specs.Valid.{Triples, Takes, Valid, ValidQuery}
use Rattle.algebra.proofs.Theorem.{query-exactly}
use Rattle.algebra.proofs.Given.{query-given}
use Rattle.algebra.proofs.Roomy.{read-any-exactly}
use Rattle.answers.specs.Outcome.{written}
use Rattle.scoping.specs.Label.{prefix_v}
use Rattle.scoping.specs.Numbering.{by_place}
use Rattle.scoping.specs.Sets.{all}
use Rattle.scoping.specs.Premises.{inside, different_positions}
use Rattle.scoping.proofs.FirstPlaces.{by-place-query}
use Rattle.merging.specs.Sides.{Constant, free_columns}
use Rattle.merging.specs.Request.{Projection, tree, as_project, read_constants, positions}
use Rattle.merging.specs.Merge.{is_select_or_ask, over}
use Rattle.merging.specs.Push.{only_side, push_constants_in_project_pattern, pushed, push_constants, push_constants_outcome}
use Rattle.merging.specs.Negate.{modify_outermost_projection, negate_project_pattern, negate_query, negate_outcome}
use Rattle.merging.specs.Asked.{behind_head}
use Rattle.merging.proofs.Given.{then-written, test-written, project-of}
use Rattle.merging.proofs.Lists.{Good, constants-good}
use Rattle.merging.proofs.Names.{Letter}
use Rattle.merging.proofs.Written.{Known, fit_of_lem, side-valid, free-fits}
use Rattle.answers.proofs.Answers.{bytes_of}
use Rattle.answers.proofs.Numbered.{Numbered, written-numbered, then-numbered, test-numbered}

-- a query's text is its head line, then its tree's
pub query-over : (a : Query) (t : Pattern) → layout_query (over a t) ≡ behind_head a.kind a.dataset a.base (layout t)
unfolding layout_query put_query text_of layout behind_head
query-over a t = refl

-- a query's head line, and the text of one tree
pub record Asked (q : Query) (b : Bytes) : Type 0 where
  pub tree : Pattern
  pub text : Bytes
  pub head : b ≡ behind_head q.kind q.dataset q.base text
  pub read : read_any_tree text ≡ reads tree

asks : (q : Query) (p : Pattern) (b : Bytes) → Valid p → written (layout_query (over q p)) ≡ written b → Asked q b
asks q p b v e = record { tree = p; text = layout p; head = sym (bytes_of (layout_query (over q p)) b e) ∙ query-over q p; read = (read-any-exactly (layout p) p).1 (refl, v) }

-- a query that was read, as it stands or given
pub tree-valid : (s : Bytes) (q : Query) → read_query s ≡ reads q → Valid q.tree
unfolding ValidQuery
tree-valid s q e = ((query-exactly s q).0 e).1.3

pub tree-names : (s : Bytes) (q : Query) → read_query s ≡ reads q → length (by_place q.tree) ≤ 1024
tree-names s q e = subst (λ (l : List Bytes). length l ≤ 1024) (by-place-query q) ((query-exactly s q).0 e).2.names

pub given-valid : (s : Bytes) (q : Query) → read_given_query s ≡ reads q → Valid q.tree
unfolding ValidQuery
given-valid s q e = (query-given s q e).valid.3

pub given-names : (s : Bytes) (q : Query) → read_given_query s ≡ reads q → length (by_place q.tree) ≤ 1024
given-names s q e = subst (λ (l : List Bytes). length l ≤ 1024) (by-place-query q) (query-given s q e).names

-- ---- push constants

letter-v : Letter prefix_v
unfolding clean
letter-v = refl

pub push-known : (x : Projection) (ks : List Constant) → Valid (tree x) → length (by_place (tree x)) ≤ 1024 → inside x.columns (positions ks) ≡ true → Good ks → Known prefix_v x [] ks
unfolding inside different_positions all
push-known x ks v n i g = record { letter = letter-v; valid = v; names = n; pairs = omega arith; joins-inside = refl; joins-once = refl; constants-inside = i; constants-good = g }

pub pushed-valid : (x : Projection) (ks : List Constant) → Valid (tree x) → length (by_place (tree x)) ≤ 1024 → inside x.columns (positions ks) ≡ true → Good ks → Valid (push_constants_in_project_pattern x ks)
unfolding push_constants_in_project_pattern Valid
pushed-valid x ks v n i g =
    let k = push-known x ks v n i g in
    (fit_of_lem variable (free_columns (only_side x ks)) (free-fits prefix_v x [] ks k), side-valid prefix_v x [] ks k)

pub push-reads : (query constants b : Bytes) → push_constants_outcome query constants ≡ written b → (q : Query) × (read_given_query query ≡ reads q) × Asked q b
unfolding push_constants_outcome push_constants pushed
push-reads query constants b e =
    let x = then-written (read_given_query query) _ b e in
    let y = then-written (read_constants constants) (push_constants x.0) b x.2 in
    (x.0, x.1, go x.0 y.0 (given-valid query x.0 x.1) (given-names query x.0 x.1) (constants-good constants y.0 y.1) (is_select_or_ask x.0.kind) y.2)
  where
    root : (q : Query) (ks : List Constant) → Valid q.tree → length (by_place q.tree) ≤ 1024 → Good ks → (o : Option Projection) → as_project q.tree ≡ o → pushed q ks o ≡ written b → Asked q b
    root q ks v n g none h r = asks q q.tree b v r
    root q ks v n g (some x) h r =
        let t : q.tree ≡ tree x = project-of q.tree x h in
        let z = test-written 3 (inside x.columns (positions ks)) (written (layout_query (over q (push_constants_in_project_pattern x ks)))) b r in
        asks q (push_constants_in_project_pattern x ks) b (pushed-valid x ks (subst Valid t v) (subst (λ (p : Pattern). length (by_place p) ≤ 1024) t n) z.0 g) z.1

    go : (q : Query) (ks : List Constant) → Valid q.tree → length (by_place q.tree) ≤ 1024 → Good ks → (t : Bool) → cond t (pushed q ks (as_project q.tree)) (written (layout_query q)) ≡ written b → Asked q b
    go q ks v n g true r = root q ks v n g (as_project q.tree) refl r
    go q ks v n g false r = asks q q.tree b v r

-- it never refuses with 0
pub push-numbered : (query constants : Bytes) → Numbered (push_constants_outcome query constants)
unfolding push_constants_outcome push_constants pushed
push-numbered query constants = then-numbered (read_given_query query) _ λ q. then-numbered (read_constants constants) _ λ ks. kind q ks (is_select_or_ask q.kind)
  where
    root : (q : Query) (ks : List Constant) (o : Option Projection) → Numbered (pushed q ks o)
    root q ks none = written-numbered (layout_query q)
    root q ks (some x) = test-numbered 3 (inside x.columns (positions ks)) _ (λ z. omega arith) (written-numbered (layout_query (over q (push_constants_in_project_pattern x ks))))

    kind : (q : Query) (ks : List Constant) (t : Bool) → Numbered (cond t (pushed q ks (as_project q.tree)) (written (layout_query q)))
    kind q ks true = root q ks (as_project q.tree)
    kind q ks false = written-numbered (layout_query q)

-- ---- negate

module _ (f : List Bytes → Pattern → Pattern) (keeps : (cs : List Bytes) (p : Pattern) → Valid p → Valid (f cs p)) where
  pub modified-valid : (p : Pattern) → Valid p → Valid (modify_outermost_projection f p)
  unfolding modify_outermost_projection Valid
  modified-valid (project cs p) v = (v.0, keeps cs p v.1)
  modified-valid (distinct p) v = modified-valid p v
  modified-valid (reduced p) v = modified-valid p v
  modified-valid (slice s l p) v = (v.0, v.1, modified-valid p v.2)
  modified-valid (orderby p os) v = (v.0, modified-valid p v.1, v.2)
  modified-valid (group ks p rs) v = (v.0, v.1, v.2, modified-valid p v.3, v.4)
  modified-valid (bgp ts) v = v
  modified-valid (path s t o) v = v
  modified-valid (join p q) v = v
  modified-valid (leftjoin p q c) v = v
  modified-valid (filter p e) v = v
  modified-valid (union p q) v = v
  modified-valid (graph n p) v = v
  modified-valid (extend x p e) v = v
  modified-valid (minus p q) v = v
  modified-valid (values cs rs) v = v
  modified-valid (service n s p) v = v

pub negated-valid : (p : Pattern) → Valid p → Valid (negate_project_pattern p)
unfolding negate_project_pattern Valid Triples Takes
negated-valid p v = modified-valid (λ cs q. filter (bgp []) (apply NOT (econs (exists q) eend))) (λ cs q w. ((omega arith, tt), (refl, (w, tt)))) p v

pub negate-reads : (query b : Bytes) → negate_outcome query ≡ written b → (q : Query) × (read_given_query query ≡ reads q) × Asked q b
unfolding negate_outcome negate_query
negate-reads query b e =
    let x = then-written (read_given_query query) (λ q. written (layout_query (negate_query q))) b e in
    (x.0, x.1, go x.0 (given-valid query x.0 x.1) (is_select_or_ask x.0.kind) x.2)
  where
    go : (q : Query) → Valid q.tree → (t : Bool) → written (layout_query (cond t (over q (negate_project_pattern q.tree)) q)) ≡ written b → Asked q b
    go q v true r = asks q (negate_project_pattern q.tree) b (negated-valid q.tree v) r
    go q v false r = asks q q.tree b v r
