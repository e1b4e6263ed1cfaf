-- A pattern below the outermost projection that grows by so many bytes makes the tree grow by no more. Assumes nothing.
use Prim.Native.Nat.{ℕ, ◌+◌, ◌≤◌}
use mathlib.Core.List.{List}
use native.Mathlib.Omega.{arith}
use Rattle.text.specs.Text.{Bytes, Line}
use Rattle.text.specs.Field.{variable}
use Rattle.algebra.specs.Tree.{Pattern, bgp, path, join, union, minus, leftjoin, filter, graph, extend, values, orderby, project, distinct, reduced, slice, group, service}
use Rattle.algebra.specs.Layout.{put, put_as, put_os}
use Rattle.algebra.specs.Valid.{AllFit, Valid}
use Rattle.merging.specs.Negate.{modify_outermost_projection}
use Rattle.walking.proofs.Sizes.{width, size}

module _ (f : List Bytes → Pattern → Pattern) (n : ℕ) (grows : (cs : List Bytes) (p : Pattern) (t : List Line) → AllFit variable cs → size (put (f cs p) t) ≤ size (put p t) + n) where
  pub modified-size : (p : Pattern) (t : List Line) → Valid p → size (put (modify_outermost_projection f p) t) ≤ size (put p t) + n
  unfolding modify_outermost_projection Valid put size width
  modified-size (project cs p) t v = let h = grows cs p t v.0 in omega arith
  modified-size (distinct p) t v = let h = modified-size p t v in omega arith
  modified-size (reduced p) t v = let h = modified-size p t v in omega arith
  modified-size (slice s l p) t v = let h = modified-size p t v.2 in omega arith
  modified-size (orderby p os) t v = let h = modified-size p (put_os os t) v.1 in omega arith
  modified-size (group ks p rs) t v = let h = modified-size p (put_as rs t) v.3 in omega arith
  modified-size (bgp ts) t v = omega arith
  modified-size (path s x o) t v = omega arith
  modified-size (join p q) t v = omega arith
  modified-size (leftjoin p q c) t v = omega arith
  modified-size (filter p e) t v = omega arith
  modified-size (union p q) t v = omega arith
  modified-size (graph x p) t v = omega arith
  modified-size (extend x p e) t v = omega arith
  modified-size (minus p q) t v = omega arith
  modified-size (values cs rs) t v = omega arith
  modified-size (service x s p) t v = omega arith
