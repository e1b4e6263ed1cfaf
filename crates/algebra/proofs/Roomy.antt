-- Without bounds: no part of a tree's text is more than its bytes, so every well formed tree is read back from its text. Assumes nothing.
use mathlib.Core.Path.{◌≡◌, refl, subst}
use mathlib.Core.Logic.{◌↔◌}
use mathlib.Core.List.{List, [], ◌∷◌}
use Prim.Native.Nat.{ℕ, ◌+◌, ◌≤◌}
use native.Mathlib.Omega.{arith}
use lib.ListN.{length}
use Rattle.text.specs.Text.{Bytes, Line}
use Rattle.text.proofs.Texts.{fields_in, text-length}
use Rattle.algebra.specs.Tree.{Triple, Pattern, bgp, path, join, union, minus, leftjoin, filter, graph, extend, values, orderby, project, distinct, reduced, slice, group, service, Expression, term, bound, exists, apply, call, Condition, always, provided, Expressions, eend, econs, Orders, oend, ocons, Aggregates, aend, agg, aggall}
use Rattle.algebra.specs.Layout.{put_triples, put_rows, put, put_e, put_c, put_es, put_os, put_as, layout}
use Rattle.algebra.specs.Valid.{Valid}
use Rattle.algebra.specs.Depth.{depth, depth_e, depth_c, depth_es, depth_os, depth_as}
use Rattle.algebra.specs.Tally.{roomy, start, noted, headed, tally}
use Rattle.algebra.specs.Bounded.{Bounded}
use Rattle.algebra.specs.Reader.{reads}
use Rattle.algebra.specs.Texts.{read_any_tree}
use Rattle.algebra.proofs.Walk.{Keeps, walk}
use Rattle.algebra.proofs.Grow.{notes-grow}
use Rattle.algebra.proofs.Lines.{lines_are}
use Rattle.algebra.proofs.Theorem.{read-exactly}

-- ---- each level has a line

triples-lines : (ts : List Triple) (t : List Line) → length t ≤ length (put_triples ts t)
unfolding put_triples
triples-lines [] t = omega arith
triples-lines (x ∷ xs) t = omega (arith, triples-lines xs t)

rows-lines : (rs : List (List Bytes)) (t : List Line) → length t ≤ length (put_rows rs t)
unfolding put_rows
rows-lines [] t = omega arith
rows-lines (r ∷ rs) t = omega (arith, rows-lines rs t)

mutual
  unfolding put depth

  depth-lines : (p : Pattern) (t : List Line) → depth p + length t ≤ length (put p t)
  depth-lines (bgp ts) t = omega (arith, triples-lines ts t)
  depth-lines (path s x o) t = omega arith
  depth-lines (join p q) t = omega (arith, depth-lines p (put q t), depth-lines q t)
  depth-lines (union p q) t = omega (arith, depth-lines p (put q t), depth-lines q t)
  depth-lines (minus p q) t = omega (arith, depth-lines p (put q t), depth-lines q t)
  depth-lines (leftjoin p q c) t = omega (arith, depth-lines p (put q (put_c c t)), depth-lines q (put_c c t), depth-lines_c c t)
  depth-lines (filter p e) t = omega (arith, depth-lines p (put_e e t), depth-lines_e e t)
  depth-lines (graph n p) t = omega (arith, depth-lines p t)
  depth-lines (extend v p e) t = omega (arith, depth-lines p (put_e e t), depth-lines_e e t)
  depth-lines (values cs rs) t = omega (arith, rows-lines rs t)
  depth-lines (orderby p os) t = omega (arith, depth-lines p (put_os os t), depth-lines_os os t)
  depth-lines (project cs p) t = omega (arith, depth-lines p t)
  depth-lines (distinct p) t = omega (arith, depth-lines p t)
  depth-lines (reduced p) t = omega (arith, depth-lines p t)
  depth-lines (slice a n p) t = omega (arith, depth-lines p t)
  depth-lines (group ks p rs) t = omega (arith, depth-lines p (put_as rs t), depth-lines_as rs t)
  depth-lines (service n f p) t = omega (arith, depth-lines p t)

  depth-lines_e : (e : Expression) (t : List Line) → depth_e e + length t ≤ length (put_e e t)
  depth-lines_e (term x) t = omega arith
  depth-lines_e (bound v) t = omega arith
  depth-lines_e (exists p) t = omega (arith, depth-lines p t)
  depth-lines_e (apply o es) t = omega (arith, depth-lines_es es t)
  depth-lines_e (call n es) t = omega (arith, depth-lines_es es t)

  depth-lines_c : (c : Condition) (t : List Line) → depth_c c + length t ≤ length (put_c c t)
  depth-lines_c always t = omega arith
  depth-lines_c (provided e) t = depth-lines_e e t

  depth-lines_es : (es : Expressions) (t : List Line) → depth_es es + length t ≤ length (put_es es t)
  depth-lines_es eend t = omega arith
  depth-lines_es (econs e es) t = omega (arith, depth-lines_e e (put_es es t), depth-lines_es es t)

  depth-lines_os : (os : Orders) (t : List Line) → depth_os os + length t ≤ length (put_os os t)
  depth-lines_os oend t = omega arith
  depth-lines_os (ocons d e os) t = omega (arith, depth-lines_e e (put_os os t), depth-lines_os os t)

  depth-lines_as : (rs : Aggregates) (t : List Line) → depth_as rs + length t ≤ length (put_as rs t)
  depth-lines_as aend t = omega arith
  depth-lines_as (agg v n f e rs) t = omega (arith, depth-lines_e e (put_as rs t), depth-lines_as rs t)
  depth-lines_as (aggall v f rs) t = omega (arith, depth-lines_as rs t)

-- ---- columns and names each have a field

wide-keep : (n : ℕ) → Keeps (λ s m. m.wide + fields_in s ≤ n)
unfolding noted headed
wide-keep n = record { noted = λ l s fs m h i. omega (arith, i); headed = λ w cs s m i. omega (arith, i) }

names-keep : (n : ℕ) → Keeps (λ s m. length m.names + fields_in s ≤ n)
unfolding noted headed
names-keep n = record {
  noted = λ l s fs m h i. omega (arith, h, i, (notes-grow fs m.names).1);
  headed = λ w cs s m i. omega (arith, i, (notes-grow cs m.names).1);
}

-- so there is room for all of them
pub roomy-bounded : (p : Pattern) → Bounded (roomy (length (layout p))) p
unfolding layout
roomy-bounded p =
    let a = text-length (put p []) in
    let d = depth-lines p [] in
    let l = lines_are p in
    let c : (tally p start).wide + 0 ≤ fields_in (put p []) = walk (λ s m. m.wide + fields_in s ≤ fields_in (put p [])) (wide-keep _) p [] start (omega arith) in
    let n : length (tally p start).names + 0 ≤ fields_in (put p []) = walk (λ s m. length m.names + fields_in s ≤ fields_in (put p [])) (names-keep _) p [] start (omega arith) in
    record { bytes = omega arith; lines = omega (arith, a.0, l); depth = omega (arith, a.0, d); columns = omega (arith, a.1, c); names = omega (arith, a.1, n); entries = omega arith }

-- the texts that are read without bounds are those of the well formed trees
pub read-any-exactly : (s : Bytes) (p : Pattern) → (read_any_tree s ≡ reads p) ↔ ((layout p ≡ s) × Valid p)
unfolding read_any_tree
read-any-exactly s p =
    let x = read-exactly (roomy (length s)) s p in
    (λ e. ((x.0 e).0, (x.0 e).1), λ y. x.1 (y.0, y.1, subst (λ t. Bounded (roomy (length t)) p) y.0 (roomy-bounded p)))

-- two well formed trees with one text are one tree
pub layout-injective : (p q : Pattern) → Valid p → Valid q → layout p ≡ layout q → p ≡ q
layout-injective p q v w e =
    let x : read_any_tree (layout q) ≡ reads p = (read-any-exactly (layout q) p).1 (e, v) in
    let y : read_any_tree (layout q) ≡ reads q = (read-any-exactly (layout q) q).1 (refl, w) in
    cc
