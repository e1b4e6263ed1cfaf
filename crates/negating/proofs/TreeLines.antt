-- The lines of a tree by its outermost projection: those down to its line, the inner pattern's, what stands behind. Assumes nothing.
use mathlib.Core.Path.{◌≡◌, refl, sym, ap, ◌∙◌}
use mathlib.Core.List.{List, [], ◌∷◌, ◌++◌}
use mathlib.Core.Option.{none, some}
use Prim.Native.Nat.{ℕ}
use native.Mathlib.Omega.{arith}
use lib.ListN.{length}
use Rattle.text.specs.Text.{Bytes, Line, same}
use Rattle.text.specs.Word.{bytes}
use Rattle.text.specs.Field.{decimal}
use Rattle.algebra.specs.Tree.{Pattern, bgp, path, join, union, minus, leftjoin, filter, graph, extend, values, orderby, project, distinct, reduced, slice, group, service, ocount, acount}
use Rattle.algebra.specs.Layout.{put, put_os, put_as}
use Rattle.merging.specs.Request.{Projection}
use Rattle.merging.specs.Negate.{modify_outermost_projection}
use Rattle.negating.specs.Projections.{outermost_projection}
use Rattle.algebra.specs.Valid.{mem}
use Rattle.negating.specs.bridge.Lines.{is_passed, from_project}
use Rattle.negating.proofs.Found.{Outermost, here, under-distinct, under-reduced, under-slice, under_orderby, under_group}

-- the lines down to the outermost projection's line, which is the last of them
unfoldable pub down_to : {p : Pattern} {x : Projection} → Outermost p x → List Line
down_to (here {cs}) = (bytes "project" ∷ cs) ∷ []
down_to (under-distinct o) = (bytes "distinct" ∷ []) ∷ down_to o
down_to (under-reduced o) = (bytes "reduced" ∷ []) ∷ down_to o
down_to (under-slice {s} {l} o) = (bytes "slice" ∷ s ∷ l ∷ []) ∷ down_to o
down_to (under_orderby {p} {os} o) = (bytes "orderby" ∷ decimal (ocount os) ∷ []) ∷ down_to o
down_to (under_group {ks} {p} {rs} o) = (bytes "group" ∷ decimal (length ks) ∷ decimal (acount rs) ∷ []) ∷ (bytes "cols" ∷ ks) ∷ down_to o

-- the lines behind its inner pattern, in front of those that follow the tree: orders and aggregates
unfoldable pub behind : {p : Pattern} {x : Projection} → Outermost p x → List Line → List Line
unfolding put_os put_as
behind here t = t
behind (under-distinct o) t = behind o t
behind (under-reduced o) t = behind o t
behind (under-slice o) t = behind o t
behind (under_orderby {p} {os} o) t = behind o (put_os os t)
behind (under_group {ks} {p} {rs} o) t = behind o (put_as rs t)

-- a tree that is modified below its outermost projection: the same lines down to it and behind it, the new inner pattern's between
pub modified-lines : (f : List Bytes → Pattern → Pattern) {p : Pattern} {x : Projection} (o : Outermost p x) (t : List Line)
    → put (modify_outermost_projection f p) t ≡ down_to o ++ put (f x.columns x.inner) (behind o t)
unfolding modify_outermost_projection put down_to behind
modified-lines f here t = refl
modified-lines f (under-distinct o) t = ap (λ (l : List Line). (bytes "distinct" ∷ []) ∷ l) (modified-lines f o t)
modified-lines f (under-reduced o) t = ap (λ (l : List Line). (bytes "reduced" ∷ []) ∷ l) (modified-lines f o t)
modified-lines f (under-slice {s} {l} o) t = ap (λ (r : List Line). (bytes "slice" ∷ s ∷ l ∷ []) ∷ r) (modified-lines f o t)
modified-lines f (under_orderby {p} {os} o) t = ap (λ (l : List Line). (bytes "orderby" ∷ decimal (ocount os) ∷ []) ∷ l) (modified-lines f o (put_os os t))
modified-lines f (under_group {ks} {p} {rs} o) t = ap (λ (l : List Line). (bytes "group" ∷ decimal (length ks) ∷ decimal (acount rs) ∷ []) ∷ (bytes "cols" ∷ ks) ∷ l) (modified-lines f o (put_as rs t))

-- an inner pattern that stays leaves the tree
not-modified : {p : Pattern} {x : Projection} → Outermost p x → modify_outermost_projection (λ cs q. q) p ≡ p
unfolding modify_outermost_projection
not-modified here = refl
not-modified (under-distinct o) = ap distinct (not-modified o)
not-modified (under-reduced o) = ap reduced (not-modified o)
not-modified (under-slice {s} {l} o) = ap (slice s l) (not-modified o)
not-modified (under_orderby {p} {os} o) = ap (λ (q : Pattern). orderby q os) (not-modified o)
not-modified (under_group {ks} {p} {rs} o) = ap (λ (q : Pattern). group ks q rs) (not-modified o)

-- the tree as it is
pub tree-lines : {p : Pattern} {x : Projection} (o : Outermost p x) (t : List Line) → put p t ≡ down_to o ++ put x.inner (behind o t)
tree-lines o t = ap (λ (q : Pattern). put q t) (sym (not-modified o)) ∙ modified-lines (λ cs q. q) o t

-- ---- the way down, line by line

-- it finds the projection's line, and what is behind it are the inner pattern's lines
pub project-found : {p : Pattern} {x : Projection} (o : Outermost p x) (t : List Line) → from_project (put p t) ≡ some ((bytes "project" ∷ x.columns) ∷ put x.inner (behind o t))
unfolding put behind from_project is_passed mem same
project-found here t = refl
project-found (under-distinct o) t = project-found o t
project-found (under-reduced o) t = project-found o t
project-found (under-slice o) t = project-found o t
project-found (under_orderby {p} {os} o) t = project-found o (put_os os t)
project-found (under_group {ks} {p} {rs} o) t = project-found o (put_as rs t)

-- it finds none where there is none
pub project-not-found : (p : Pattern) (t : List Line) → outermost_projection p ≡ none → from_project (put p t) ≡ none
unfolding outermost_projection put from_project is_passed mem same
project-not-found (project cs p) t e = let z : ◌≡◌ {A = ℕ} 0 1 = cc in absurd (omega arith)
project-not-found (distinct p) t e = project-not-found p t e
project-not-found (reduced p) t e = project-not-found p t e
project-not-found (slice s l p) t e = project-not-found p t e
project-not-found (orderby p os) t e = project-not-found p (put_os os t) e
project-not-found (group ks p rs) t e = project-not-found p (put_as rs t) e
project-not-found (bgp ts) t e = refl
project-not-found (path s x o) t e = refl
project-not-found (join p q) t e = refl
project-not-found (leftjoin p q c) t e = refl
project-not-found (filter p c) t e = refl
project-not-found (union p q) t e = refl
project-not-found (graph n p) t e = refl
project-not-found (extend v p c) t e = refl
project-not-found (minus p q) t e = refl
project-not-found (values cs rs) t e = refl
project-not-found (service n s p) t e = refl
