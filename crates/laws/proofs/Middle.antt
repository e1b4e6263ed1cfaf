-- Renaming keeps lines, depth and widths: a middle text is within the bounds where its bytes and its variables are. Assumes nothing.
use mathlib.Core.Path.{◌≡◌, refl, sym, ap, ap₂, ◌∙◌}
use mathlib.Core.List.{List, [], ◌∷◌, map}
use Prim.Native.Nat.{suc, max, ◌≤◌}
use native.Mathlib.Omega.{arith}
use lib.ListN.{length}
use Rattle.text.specs.Text.{Bytes}
use Rattle.algebra.specs.Tree.{Triple, Pattern, bgp, path, join, union, minus, leftjoin, filter, graph, extend, values, orderby, project, distinct, reduced, slice, group, service, Expression, term, bound, exists, apply, call, Condition, always, provided, Expressions, eend, econs, Orders, oend, ocons, Aggregates, aend, agg, aggall}
use Rattle.algebra.specs.Tally.{Tally, start, noted, headed, tally_triples, tally_rows, tally, tally_e, tally_c, tally_es, tally_os, tally_as}
use Rattle.algebra.specs.Reader.{reads, number-of}
use Rattle.algebra.specs.Depth.{depth}
use Rattle.algebra.specs.Texts.{read_tree, read_any_tree}
use Rattle.algebra.proofs.Given.{tree-given}
use Rattle.algebra.proofs.Theorem.{tree-exactly}
use Rattle.algebra.proofs.Roomy.{read-any-exactly, layout-injective}
use Rattle.scoping.specs.Numbering.{by_place}
use Rattle.scoping.specs.Rename.{rename_in_triple, rename_in_graph_pattern, rename_in_expression, rename_in_condition, rename_in_expressions, rename_in_orders, rename_aggregates}
use Rattle.merging.proofs.Lists.{map-length}
use Rattle.answers.specs.Outcome.{written}
use Rattle.laws.proofs.Deep.{renamed-depth}
use Rattle.renaming.specs.Rename.{becomes, rename_outcome}
use Rattle.laws.proofs.Through.{renamed-once}

-- as many lines, and projects as wide
record Shape (m n : Tally) : Type 0 where
  lines : m.lines ≡ n.lines
  wide : m.wide ≡ n.wide

noted-shape : (fs gs : List Bytes) (m n : Tally) → Shape m n → Shape (noted fs m) (noted gs n)
unfolding noted
noted-shape fs gs m n s = record { lines = ap suc s.lines; wide = s.wide }

headed-shape : (cs ds : List Bytes) (m n : Tally) → length cs ≡ length ds → Shape m n → Shape (headed cs m) (headed ds n)
unfolding headed
headed-shape cs ds m n e s = record { lines = ap suc s.lines; wide = ap₂ max s.wide e }

module _ (f : Bytes → Bytes) where
  triples-shape : (ts : List Triple) (m n : Tally) → Shape m n → Shape (tally_triples (map (rename_in_triple f) ts) m) (tally_triples ts n)
  unfolding tally_triples
  triples-shape [] m n s = s
  triples-shape (t ∷ ts) m n s = triples-shape ts _ _ (noted-shape _ _ m n s)

  rows-shape : (rs : List (List Bytes)) (m n : Tally) → Shape m n → Shape (tally_rows rs m) (tally_rows rs n)
  unfolding tally_rows
  rows-shape [] m n s = s
  rows-shape (r ∷ rs) m n s = rows-shape rs _ _ (noted-shape [] [] m n s)

  mutual
    unfolding tally rename_in_graph_pattern

    shape : (p : Pattern) (m n : Tally) → Shape m n → Shape (tally (rename_in_graph_pattern f p) m) (tally p n)
    shape (bgp ts) m n s = triples-shape ts _ _ (noted-shape [] [] m n s)
    shape (path x t o) m n s = noted-shape _ _ m n s
    shape (join p q) m n s = shape q _ _ (shape p _ _ (noted-shape [] [] m n s))
    shape (union p q) m n s = shape q _ _ (shape p _ _ (noted-shape [] [] m n s))
    shape (minus p q) m n s = shape q _ _ (shape p _ _ (noted-shape [] [] m n s))
    shape (leftjoin p q c) m n s = shape_c c _ _ (shape q _ _ (shape p _ _ (noted-shape [] [] m n s)))
    shape (filter p e) m n s = shape_e e _ _ (shape p _ _ (noted-shape [] [] m n s))
    shape (graph x p) m n s = shape p _ _ (noted-shape _ _ m n s)
    shape (extend v p e) m n s = shape_e e _ _ (shape p _ _ (noted-shape _ _ m n s))
    shape (values cs rs) m n s = rows-shape rs _ _ (noted-shape _ _ _ _ (noted-shape [] [] m n s))
    shape (orderby p os) m n s = shape_os os _ _ (shape p _ _ (noted-shape [] [] m n s))
    shape (project cs p) m n s = shape p _ _ (headed-shape _ cs m n (map-length f cs) s)
    shape (distinct p) m n s = shape p _ _ (noted-shape [] [] m n s)
    shape (reduced p) m n s = shape p _ _ (noted-shape [] [] m n s)
    shape (slice a l p) m n s = shape p _ _ (noted-shape [] [] m n s)
    shape (group ks p rs) m n s = shape_as rs _ _ (shape p _ _ (noted-shape _ _ _ _ (noted-shape [] [] m n s)))
    shape (service x t p) m n s = shape p _ _ (noted-shape _ _ m n s)

    shape_e : (e : Expression) (m n : Tally) → Shape m n → Shape (tally_e (rename_in_expression f e) m) (tally_e e n)
    shape_e (term x) m n s = noted-shape _ _ m n s
    shape_e (bound v) m n s = noted-shape _ _ m n s
    shape_e (exists p) m n s = shape p _ _ (noted-shape [] [] m n s)
    shape_e (apply o es) m n s = shape_es es _ _ (noted-shape [] [] m n s)
    shape_e (call x es) m n s = shape_es es _ _ (noted-shape [] [] m n s)

    shape_c : (c : Condition) (m n : Tally) → Shape m n → Shape (tally_c (rename_in_condition f c) m) (tally_c c n)
    shape_c always m n s = s
    shape_c (provided e) m n s = shape_e e m n s

    shape_es : (es : Expressions) (m n : Tally) → Shape m n → Shape (tally_es (rename_in_expressions f es) m) (tally_es es n)
    shape_es eend m n s = s
    shape_es (econs e es) m n s = shape_es es _ _ (shape_e e m n s)

    shape_os : (os : Orders) (m n : Tally) → Shape m n → Shape (tally_os (rename_in_orders f os) m) (tally_os os n)
    shape_os oend m n s = s
    shape_os (ocons d e os) m n s = shape_os os _ _ (shape_e e _ _ (noted-shape [] [] m n s))

    shape_as : (rs : Aggregates) (m n : Tally) → Shape m n → Shape (tally_as (rename_aggregates f rs) m) (tally_as rs n)
    shape_as aend m n s = s
    shape_as (agg v x d e rs) m n s = shape_as rs _ _ (shape_e e _ _ (noted-shape _ _ m n s))
    shape_as (aggall v d rs) m n s = shape_as rs _ _ (noted-shape _ _ m n s)

-- a middle text of at most 16,384 bytes and 1,024 variables is read
pub middle-good : (tree first middle : Bytes) (q : Pattern) → rename_outcome tree first ≡ written middle → read_any_tree middle ≡ reads q
    → length middle ≤ 16384 → length (by_place q) ≤ 1024 → number-of (read_tree middle) ≡ 0
unfolding by_place
middle-good tree first middle q e any short few =
    let r = renamed-once tree first middle e in
    let p : Pattern = r.before in
    let f : Bytes → Bytes = becomes r.names in
    let y = (read-any-exactly middle q).0 any in
    let q-is : q ≡ rename_in_graph_pattern f p = layout-injective q (rename_in_graph_pattern f p) y.1 r.valid (y.0 ∙ sym r.text-is) in
    let x = tree-given tree p r.tree-read in
    let s = shape f p start start (record { lines = refl; wide = refl }) in
    let a = ap (λ (t : Pattern). (tally t start).lines) q-is ∙ s.lines in
    let b = ap (λ (t : Pattern). (tally t start).wide) q-is ∙ s.wide in
    let d = ap depth q-is ∙ renamed-depth f p in
    let u = ap length y.0 in
    let l = x.rows in
    let w = x.columns in
    let t = x.deep in
    ap number-of ((tree-exactly middle q).1 (y.0, y.1, record { bytes = omega arith; lines = omega arith; depth = omega arith; columns = omega arith; names = few; entries = omega arith }))
