-- The table of pushes gives the Rust's map: both say the same of every name. Assumes nothing.
use mathlib.Core.Path.{◌≡◌, refl, sym, ap, ◌∙◌}
use mathlib.Core.List.{List, [], ◌∷◌, ◌++◌}
use mathlib.Core.Bool.{Bool, true, false, cond, ◌||◌}
use mathlib.Core.Option.{Option, some}
use Prim.Native.Nat.{ℕ, suc}
use Rattle.text.specs.Text.{Bytes, same}
use Rattle.text.specs.Field.{given}
use Rattle.text.proofs.Basics.{same-eq}
use Rattle.scoping.specs.Label.{label, base, generated, prefix_j}
use Rattle.scoping.specs.Standardize.{Entry, entry, get, insert, push, push_all, standardize_variables, or_self, renamed}
use Rattle.scoping.specs.bridge.Pushes.{Push, a_push, lookup, contains, pushed, pushes, all_pushes, new_name}
use Rattle.scoping.proofs.Sets.{eq-same}

-- what a HashMap promises
pub get-insert : (w k v : Bytes) (m : List Entry) → get w (insert k v m) ≡ cond (same w k) (some v) (get w m)
unfolding get insert
get-insert w k v [] = refl
get-insert w k v (e ∷ m) = go (same k e.key) refl (same w e.key) refl (same w k) refl (get-insert w k v m)
  where
    go : (t : Bool) → same k e.key ≡ t → (s : Bool) → same w e.key ≡ s → (r : Bool) → same w k ≡ r
        → get w (insert k v m) ≡ cond (same w k) (some v) (get w m)
        → get w (cond t (entry k v ∷ m) (e ∷ insert k v m)) ≡ cond r (some v) (cond s (some e.value) (get w m))
    go true a true b true c h = simp c
    go true a true b false c h =
        let x : same w k ≡ true = eq-same w k (same-eq w e.key b ∙ sym (same-eq k e.key a)) in cc
    go true a false b true c h = simp c
    go true a false b false c h = simp c
    go false a true b true c h =
        let x : same k e.key ≡ true = eq-same k e.key (sym (same-eq w k c) ∙ same-eq w e.key b) in cc
    go false a true b false c h = simp b
    go false a false b true c h = simp b (h ∙ simp c)
    go false a false b false c h = simp b (h ∙ simp c)

pub contains-given : (b : Bytes) (ps : List Push) → contains b ps ≡ given (lookup b ps)
unfolding contains lookup
contains-given b [] = refl
contains-given b (p ∷ ps) = go (same b (p.base ++ label)) (same b p.base) (contains-given b ps)
  where
    go : (s t : Bool) → contains b ps ≡ given (lookup b ps)
        → (s || (t || contains b ps))
        ≡ given (cond s (some (generated p.prefix p.number ++ label)) (cond t (some (generated p.prefix p.number)) (lookup b ps)))
    go true t h = refl
    go false true h = refl
    go false false h = h

-- a map and a table of pushes say the same of every name
abbrev Agree : List Entry → List Push → Type 0
Agree m ps = (w : Bytes) → get w m ≡ lookup w ps

agree-push : (prefix count : ℕ) (v : Bytes) (m : List Entry) (ps : List Push) → Agree m ps → Agree (push prefix count v m) (pushed prefix count v ps)
unfolding push pushed lookup
agree-push prefix count v m ps h w =
    simp (contains-given (base v) ps, h (base v)) (go (given (lookup (base v) ps)))
  where
    new : List Entry
    new = insert (base v ++ label) (generated prefix count ++ label) (insert (base v) (generated prefix count) m)

    put : get w new ≡ lookup w (a_push (base v) prefix count ∷ ps)
    put =
        get-insert w (base v ++ label) (generated prefix count ++ label) (insert (base v) (generated prefix count) m)
        ∙ ap (λ (o : Option Bytes). cond (same w (base v ++ label)) (some (generated prefix count ++ label)) o)
        (get-insert w (base v) (generated prefix count) m ∙ ap (λ (o : Option Bytes). cond (same w (base v)) (some (generated prefix count)) o) (h w))

    go : (t : Bool) → get w (cond t m new) ≡ lookup w (cond t ps (a_push (base v) prefix count ∷ ps))
    go true = h w
    go false = put

agree-pushes : (prefix count : ℕ) (vs : List Bytes) (m : List Entry) (ps : List Push) → Agree m ps → Agree (push_all prefix count vs m) (pushes prefix count vs ps)
unfolding push_all pushes
agree-pushes prefix count [] m ps h = h
agree-pushes prefix count (v ∷ vs) m ps h =
    agree-pushes prefix (suc count) vs (push prefix count v m) (pushed prefix count v ps) (agree-push prefix count v m ps h)

pub pushes-are-the-map : (prefix : ℕ) (vs js : List Bytes) (w : Bytes) → get w (standardize_variables prefix vs js) ≡ lookup w (all_pushes prefix vs js)
unfolding standardize_variables all_pushes get lookup
pushes-are-the-map prefix vs js = agree-pushes prefix 0 vs (push_all prefix_j 0 js []) (pushes prefix_j 0 js []) (agree-pushes prefix_j 0 js [] [] start)
  where
    start : (w : Bytes) → get w [] ≡ lookup w []
    start w = refl

-- so each name becomes the same
pub renamed-by-pushes : (prefix : ℕ) (vs js : List Bytes) (w : Bytes) → renamed (standardize_variables prefix vs js) w ≡ new_name (all_pushes prefix vs js) w
unfolding renamed new_name
renamed-by-pushes prefix vs js w = ap (λ (o : Option Bytes). or_self o w) (pushes-are-the-map prefix vs js w)
