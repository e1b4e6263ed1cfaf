-- Where the outermost projection stands, and that a tree without one is not modified. Assumes nothing.
use mathlib.Core.Path.{◌≡◌, refl, sym, ap, subst}
use mathlib.Core.List.{List}
use mathlib.Core.Option.{none, some}
use Prim.Native.Nat.{ℕ}
use native.Mathlib.Omega.{arith}
use Rattle.text.specs.Text.{Bytes}
use Rattle.algebra.specs.Tree.{Pattern, bgp, path, join, union, minus, leftjoin, filter, graph, extend, values, orderby, project, distinct, reduced, slice, group, service, Orders, Aggregates}
use Rattle.merging.specs.Request.{Projection}
use Rattle.merging.specs.Negate.{modify_outermost_projection}
use Rattle.negating.specs.Projections.{outermost_projection}

-- the outermost projection of the tree: at the root, or below one of the five kinds that are passed
pub data Outermost : Pattern → Projection → Type 0 where
  here : {cs : List Bytes} {p : Pattern} → Outermost (project cs p) (record { columns = cs; inner = p })
  under-distinct : {p : Pattern} {x : Projection} → Outermost p x → Outermost (distinct p) x
  under-reduced : {p : Pattern} {x : Projection} → Outermost p x → Outermost (reduced p) x
  under-slice : {s l : Bytes} {p : Pattern} {x : Projection} → Outermost p x → Outermost (slice s l p) x
  under_orderby : {p : Pattern} {os : Orders} {x : Projection} → Outermost p x → Outermost (orderby p os) x
  under_group : {ks : List Bytes} {p : Pattern} {rs : Aggregates} {x : Projection} → Outermost p x → Outermost (group ks p rs) x

nothing : {P : Type 0} (x : Projection) → none ≡ some x → P
nothing x e = let z : ◌≡◌ {A = ℕ} 0 1 = cc in absurd (omega arith)

pub found : (p : Pattern) (x : Projection) → outermost_projection p ≡ some x → Outermost p x
unfolding outermost_projection
found (project cs p) x e = let h : record { columns = cs; inner = p } ≡ x = cc in subst (Outermost (project cs p)) h here
found (distinct p) x e = under-distinct (found p x e)
found (reduced p) x e = under-reduced (found p x e)
found (slice s l p) x e = under-slice (found p x e)
found (orderby p os) x e = under_orderby (found p x e)
found (group ks p rs) x e = under_group (found p x e)
found (bgp ts) x e = nothing x e
found (path s t o) x e = nothing x e
found (join p q) x e = nothing x e
found (leftjoin p q c) x e = nothing x e
found (filter p c) x e = nothing x e
found (union p q) x e = nothing x e
found (graph n p) x e = nothing x e
found (extend v p c) x e = nothing x e
found (minus p q) x e = nothing x e
found (values cs rs) x e = nothing x e
found (service n s p) x e = nothing x e

-- where there is no outermost projection: a copy
pub not_found : (f : List Bytes → Pattern → Pattern) (p : Pattern) → outermost_projection p ≡ none → modify_outermost_projection f p ≡ p
unfolding outermost_projection modify_outermost_projection
not_found f (project cs p) e = nothing (record { columns = cs; inner = p }) (sym e)
not_found f (distinct p) e = ap distinct (not_found f p e)
not_found f (reduced p) e = ap reduced (not_found f p e)
not_found f (slice s l p) e = ap (slice s l) (not_found f p e)
not_found f (orderby p os) e = ap (λ (q : Pattern). orderby q os) (not_found f p e)
not_found f (group ks p rs) e = ap (λ (q : Pattern). group ks q rs) (not_found f p e)
not_found f (bgp ts) e = refl
not_found f (path s t o) e = refl
not_found f (join p q) e = refl
not_found f (leftjoin p q c) e = refl
not_found f (filter p c) e = refl
not_found f (union p q) e = refl
not_found f (graph n p) e = refl
not_found f (extend v p c) e = refl
not_found f (minus p q) e = refl
not_found f (values cs rs) e = refl
not_found f (service n s p) e = refl
