-- The numbered names of a well-formed tree: first nemo's set in scope, then its hidden set, neither with a name twice. Assumes nothing.
use mathlib.Core.Path.{◌≡◌, refl, sym, ap, ap₂, ◌∙◌}
use mathlib.Core.List.{List, [], ◌∷◌}
use mathlib.Core.Bool.{Bool, true, false, cond, ◌||◌, ◌&&◌}
use Rattle.text.specs.Text.{Bytes, same}
use Rattle.text.specs.Field.{variable, is_var}
use Rattle.algebra.specs.Valid.{mem, Valid}
use Rattle.algebra.specs.Tree.{Pattern}
use Rattle.scoping.specs.Sets.{Alike}
use Rattle.scoping.specs.bridge.Sets.{Once}
use Rattle.scoping.specs.Variables.{variables_in_pattern}
use Rattle.scoping.specs.bridge.Places.{visible, Place, places, Scope, in_scope, hidden, counts, names_at, names_of, visible_names, hidden_names}
use Rattle.scoping.specs.Numbering.{by_place, in_scope_by_place, hidden_by_place, numbered}
use Rattle.scoping.proofs.Sets.{mem-append, mem-keep, once-keep}
use Rattle.scoping.proofs.Walked.{visible-in-scope, covered-hidden}
use Rattle.scoping.proofs.FirstPlaces.{by-place-mem, by-place-once}
use Rattle.scoping.proofs.Named.{named, or_split}

-- ---- a name in one of the sets stands somewhere

stands : (k : Scope) (v : Bytes) (xs : List Place) → mem v (names_at k xs) ≡ true → mem v (names_of xs) ≡ true
unfolding mem names_at names_of
stands k v [] h = h
stands k v (x ∷ xs) h = go (counts k x.mark) (same v x.name) refl (stands k v xs) h
  where
    go : (t s : Bool) → same v x.name ≡ s → (mem v (names_at k xs) ≡ true → mem v (names_of xs) ≡ true)
        → mem v (cond t (x.name ∷ names_at k xs) (names_at k xs)) ≡ true → (s || mem v (names_of xs)) ≡ true
    go true true e r h = refl
    go true false e r h = r (ap (λ (b : Bool). b || mem v (names_at k xs)) (sym e) ∙ h)
    go false true e r h = refl
    go false false e r h = r h

-- so it is a variable, and among the names by first place
pub in-scope-variable : (p : Pattern) → Valid p → (v : Bytes) → mem v (variables_in_pattern p).in_scope ≡ true → is_var v ≡ true
unfolding visible_names
in-scope-variable p w v h = (named p visible w).at v (stands in_scope v (places p visible) (visible-in-scope p v ∙ h))

pub hidden-variable : (p : Pattern) → Valid p → (v : Bytes) → mem v (variables_in_pattern p).hidden ≡ true → is_var v ≡ true
unfolding hidden_names
hidden-variable p w v h = (named p visible w).at v (stands hidden v (places p visible) (covered-hidden p v ∙ h))

and_so : (a b : Bool) → (a ≡ true → b ≡ true) → (a && b) ≡ a
and_so true b f = f refl
and_so false b f = refl

-- ---- the two parts of the numbered names

pub numbered-in-scope : (p : Pattern) → Valid p → Alike (in_scope_by_place p) (variables_in_pattern p).in_scope
unfolding in_scope_by_place visible_names
numbered-in-scope p w v =
    mem-keep (λ n. mem n (variables_in_pattern p).in_scope) v (by_place p)
    ∙ and_so (mem v (variables_in_pattern p).in_scope) (mem v (by_place p)) (λ h. by-place-mem p v (in-scope-variable p w v h) ∙ stands in_scope v (places p visible) (visible-in-scope p v ∙ h))

pub numbered-hidden : (p : Pattern) → Valid p → Alike (hidden_by_place p) (variables_in_pattern p).hidden
unfolding hidden_by_place hidden_names
numbered-hidden p w v =
    mem-keep (λ n. mem n (variables_in_pattern p).hidden) v (by_place p)
    ∙ and_so (mem v (variables_in_pattern p).hidden) (mem v (by_place p)) (λ h. by-place-mem p v (hidden-variable p w v h) ∙ stands hidden v (places p visible) (covered-hidden p v ∙ h))

pub in-scope-once : (p : Pattern) → Once (in_scope_by_place p)
unfolding in_scope_by_place
in-scope-once p = once-keep (λ n. mem n (variables_in_pattern p).in_scope) (by_place p) (by-place-once p)

pub hidden-once : (p : Pattern) → Once (hidden_by_place p)
unfolding hidden_by_place
hidden-once p = once-keep (λ n. mem n (variables_in_pattern p).hidden) (by_place p) (by-place-once p)

-- a name is numbered exactly if it is in scope or hidden
pub numbered-mem : (p : Pattern) → Valid p → (v : Bytes) → mem v (numbered p) ≡ (mem v (variables_in_pattern p).in_scope || mem v (variables_in_pattern p).hidden)
unfolding numbered
numbered-mem p w v = mem-append v (in_scope_by_place p) (hidden_by_place p) ∙ ap₂ ◌||◌ (numbered-in-scope p w v) (numbered-hidden p w v)

pub numbered-variable : (p : Pattern) → Valid p → (v : Bytes) → mem v (numbered p) ≡ true → is_var v ≡ true
numbered-variable p w v h =
    or_split (mem v (variables_in_pattern p).in_scope) (mem v (variables_in_pattern p).hidden) (is_var v) (sym (numbered-mem p w v) ∙ h) (in-scope-variable p w v) (hidden-variable p w v)
