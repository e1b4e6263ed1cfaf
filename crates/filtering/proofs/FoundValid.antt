-- A tree that is modified below its outermost projection stays well formed. Assumes nothing.
use mathlib.Core.Path.{◌≡◌, refl, sym, subst}
use mathlib.Core.Bool.{Bool, true}
use mathlib.Core.List.{List}
use mathlib.Core.Option.{Option, none, some}
use Rattle.text.specs.Text.{Bytes}
use Rattle.text.specs.Field.{variable}
use Rattle.algebra.specs.Tree.{Pattern}
use Rattle.algebra.specs.Valid.{AllFit, Valid}
use Rattle.merging.specs.Request.{Projection}
use Rattle.merging.specs.Negate.{modify_outermost_projection}
use Rattle.negating.specs.Projections.{outermost_projection}
use Rattle.negating.proofs.Found.{Outermost, here, under-distinct, under-reduced, under-slice, under_orderby, under_group, found, not_found}
use Rattle.filtering.specs.IfFound.{if_found}

-- a tree with a projection is modified there only, and one that keeps it well formed there keeps all of it so
pub found-valid : (f : List Bytes → Pattern → Pattern) {p : Pattern} {x : Projection} → Outermost p x → (AllFit variable x.columns → Valid x.inner → Valid (f x.columns x.inner)) → Valid p → Valid (modify_outermost_projection f p)
unfolding modify_outermost_projection Valid
found-valid f here k v = (v.0, k v.0 v.1)
found-valid f (under-distinct o) k v = found-valid f o k v
found-valid f (under-reduced o) k v = found-valid f o k v
found-valid f (under-slice o) k v = (v.0, v.1, found-valid f o k v.2)
found-valid f (under_orderby o) k v = (v.0, found-valid f o k v.1, v.2)
found-valid f (under_group o) k v = (v.0, v.1, v.2, found-valid f o k v.3, v.4)

-- the projection's own columns and inner pattern are well formed
pub found-columns : {p : Pattern} {x : Projection} → Outermost p x → Valid p → AllFit variable x.columns
unfolding Valid
found-columns here v = v.0
found-columns (under-distinct o) v = found-columns o v
found-columns (under-reduced o) v = found-columns o v
found-columns (under-slice o) v = found-columns o v.2
found-columns (under_orderby o) v = found-columns o v.1
found-columns (under_group o) v = found-columns o v.3

-- what a modified tree is well formed by, projection or not
pub modified-well-formed : (f : List Bytes → Pattern → Pattern) (t : List Bytes → Bool) (p : Pattern) → if_found (outermost_projection p) t ≡ true
    → ((cs : List Bytes) (q : Pattern) → t cs ≡ true → AllFit variable cs → Valid q → Valid (f cs q)) → Valid p → Valid (modify_outermost_projection f p)
modified-well-formed f t p h k v = go (outermost_projection p) refl h
  where
    go : (o : Option Projection) → outermost_projection p ≡ o → if_found o t ≡ true → Valid (modify_outermost_projection f p)
    go none e h = subst Valid (sym (not_found f p e)) v
    go (some x) e h = found-valid f (found p x e) (λ a w. k x.columns x.inner h a w) v
