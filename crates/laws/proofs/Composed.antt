-- The composed list takes a name where the two mappings take it, and is a mapping itself. Assumes nothing.
use mathlib.Core.Path.{◌≡◌, refl, sym, ap, ap₂, subst, ◌∙◌}
use mathlib.Core.Bool.{Bool, true, false, cond, not, ◌||◌, false≢true}
use mathlib.Core.List.{List, [], ◌∷◌, ◌++◌, map, append_assoc, append-nil}
use mathlib.Core.Option.{Option, some}
use Prim.Native.Nat.{◌+◌, ◌≤◌}
use native.Mathlib.Omega.{arith}
use lib.ListN.{length, length-append}
use Rattle.text.specs.Text.{Bytes, same}
use Rattle.text.specs.Field.{clean, is_var, is_kind, fits, variable}
use Rattle.text.proofs.Basics.{same-eq, and_right}
use Rattle.algebra.specs.Query.{Pair, mapping}
use Rattle.algebra.specs.Reader.{reads}
use Rattle.algebra.specs.Bounded.{layout_pairs}
use Rattle.algebra.specs.Tally.{bounds, Tally, start, paired, tally_pairs}
use Rattle.algebra.specs.Valid.{Fits, mem, ValidPairs}
use Rattle.algebra.specs.Texts.{read_pairs}
use Rattle.algebra.proofs.Theorem.{pairs-exactly}
use Rattle.scoping.specs.Standardize.{Entry, entry, get, or_self, renamed}
use Rattle.scoping.proofs.Sets.{mem-append}
use Rattle.scoping.specs.Sets.{keep}
use Rattle.scoping.proofs.Basics.{clash, not-true, either, or_cases, or_inl, or_inr}
use Rattle.renaming.specs.Rename.{becomes}
use Rattle.laws.specs.Composed.{listed_names, onward, composed}

-- ---- what a name becomes

abbrev lines : List Pair → List Entry
lines xs = map (λ x. entry x.first x.second) xs

-- the second mapping's lines that are kept decide for names that the first doesn't list
get-kept : (fs : List Bytes) (v : Bytes) → mem v fs ≡ false → (ys : List Pair) → get v (lines (keep (λ y. not (mem y.first fs)) ys)) ≡ get v (lines ys)
unfolding get keep
get-kept fs v n [] = refl
get-kept fs v n (y ∷ ys) = go (mem y.first fs) refl (get-kept fs v n ys)
  where
    go : (t : Bool) → mem y.first fs ≡ t → get v (lines (keep (λ y. not (mem y.first fs)) ys)) ≡ get v (lines ys)
        → get v (lines (cond (not t) (y ∷ keep (λ y. not (mem y.first fs)) ys) (keep (λ y. not (mem y.first fs)) ys))) ≡ cond (same v y.first) (some y.second) (get v (lines ys))
    go true e r = r ∙ sym (ap (λ (b : Bool). cond b (some y.second) (get v (lines ys))) (not-true (same v y.first) (λ s. clash (ap (λ (w : Bytes). mem w fs) (same-eq v y.first s) ∙ e) n)))
    go false e r = ap (cond (same v y.first) (some y.second)) r

becomes-is : (xs : List Pair) (v : Bytes) → becomes xs v ≡ or_self (get v (lines xs)) v
unfolding becomes renamed
becomes-is xs v = refl

-- through the first mapping's lines, taken on
through : (ys zs xs : List Pair) (v : Bytes) → (mem v (listed_names xs) ≡ false → get v (lines zs) ≡ get v (lines ys)) → or_self (get v (lines (map (onward ys) xs ++ zs))) v ≡ becomes ys (or_self (get v (lines xs)) v)
unfolding get mem
through ys zs [] v h = ap (λ (o : Option Bytes). or_self o v) (h refl) ∙ sym (becomes-is ys v)
through ys zs (x ∷ xs) v h = go (same v x.first) refl (λ e. through ys zs xs v (λ n. h (ap₂ ◌||◌ e n)))
  where
    go : (t : Bool) → same v x.first ≡ t → (same v x.first ≡ false → or_self (get v (lines (map (onward ys) xs ++ zs))) v ≡ becomes ys (or_self (get v (lines xs)) v))
        → or_self (cond t (some (becomes ys x.second)) (get v (lines (map (onward ys) xs ++ zs)))) v ≡ becomes ys (or_self (cond t (some x.second) (get v (lines xs))) v)
    go true e r = refl
    go false e r = r e

-- a name through both, one after the other
pub becomes-composed : (xs ys : List Pair) (v : Bytes) → becomes (composed xs ys) v ≡ becomes ys (becomes xs v)
unfolding composed
becomes-composed xs ys v =
    becomes-is (composed xs ys) v
    ∙ through ys (keep (λ y. not (mem y.first (listed_names xs))) ys) xs v (λ n. get-kept (listed_names xs) v n ys)
    ∙ ap (becomes ys) (sym (becomes-is xs v))

-- ---- a mapping that was read makes variables of variables

pub becomes-fits : (seen : List Bytes) (xs : List Pair) → ValidPairs mapping seen xs → (v : Bytes) → Fits variable v → Fits variable (becomes xs v)
unfolding becomes renamed get ValidPairs
becomes-fits seen [] k v h = h
becomes-fits seen (x ∷ xs) k v h = go (same v x.first) (becomes-fits (seen ++ (x.first ∷ [])) xs k.3 v h)
  where
    go : (t : Bool) → Fits variable (or_self (get v (lines xs)) v) → Fits variable (or_self (cond t (some x.second) (get v (lines xs))) v)
    go true r = k.1
    go false r = r

pub becomes-variable : (seen : List Bytes) (xs : List Pair) → ValidPairs mapping seen xs → (v : Bytes) → is_var v ≡ true → is_var (becomes xs v) ≡ true
unfolding becomes renamed get ValidPairs fits is_kind
becomes-variable seen [] k v h = h
becomes-variable seen (x ∷ xs) k v h = go (same v x.first) (becomes-variable (seen ++ (x.first ∷ [])) xs k.3 v h)
  where
    go : (t : Bool) → is_var (or_self (get v (lines xs)) v) ≡ true → is_var (or_self (cond t (some x.second) (get v (lines xs))) v) ≡ true
    go true r = and_right (clean x.second) (is_var x.second) k.1
    go false r = r

-- ---- the composed list is a mapping

first-valid : (seen : List Bytes) (xs zs : List Pair) (f : Bytes → Bytes) → ((v : Bytes) → Fits variable v → Fits variable (f v)) → ValidPairs mapping seen xs → ValidPairs mapping (seen ++ listed_names xs) zs
    → ValidPairs mapping seen (map (λ x. record { first = x.first; second = f x.second }) xs ++ zs)
unfolding ValidPairs
first-valid seen [] zs f to k h = subst (λ (l : List Bytes). ValidPairs mapping l zs) (append-nil seen) h
first-valid seen (x ∷ xs) zs f to k h =
    (k.0, to x.second k.1, k.2, first-valid (seen ++ (x.first ∷ [])) xs zs f to k.3 (subst (λ (l : List Bytes). ValidPairs mapping l zs) (sym (append_assoc seen (x.first ∷ []) (listed_names xs))) h))

-- what is seen of the composed list is listed by the first or seen of the second
Covered : List Bytes → List Bytes → List Bytes → Type 0
Covered fs s t = (v : Bytes) → mem v t ≡ true → (mem v fs || mem v s) ≡ true

covered_more : (fs s t : List Bytes) (w : Bytes) → Covered fs s t → Covered fs (s ++ (w ∷ [])) t
unfolding Covered
covered_more fs s t w c v m = go (mem v fs) refl (c v m)
  where
    go : (b : Bool) → mem v fs ≡ b → (b || mem v s) ≡ true → (b || mem v (s ++ (w ∷ []))) ≡ true
    go true e h = refl
    go false e h = mem-append v s (w ∷ []) ∙ or_inl (mem v s) (mem v (w ∷ [])) h

covered-both : (fs s t : List Bytes) (w : Bytes) → Covered fs s t → Covered fs (s ++ (w ∷ [])) (t ++ (w ∷ []))
unfolding Covered
covered-both fs s t w c v m = either
    (λ k. covered_more fs s t w c v k)
    (λ k. or_inr (mem v fs) (mem v (s ++ (w ∷ []))) (mem-append v s (w ∷ []) ∙ or_inr (mem v s) (mem v (w ∷ [])) k))
    (or_cases (mem v t) (mem v (w ∷ [])) (sym (mem-append v t (w ∷ [])) ∙ m))

second-valid : (fs s t : List Bytes) (ys : List Pair) → Covered fs s t → ValidPairs mapping s ys → ValidPairs mapping t (keep (λ y. not (mem y.first fs)) ys)
unfolding ValidPairs keep Covered
second-valid fs s t [] c k = tt
second-valid fs s t (y ∷ ys) c k =
    go (mem y.first fs) refl (second-valid fs (s ++ (y.first ∷ [])) t ys (covered_more fs s t y.first c) k.3) (second-valid fs (s ++ (y.first ∷ [])) (t ++ (y.first ∷ [])) ys (covered-both fs s t y.first c) k.3)
  where
    rest : List Bytes → Type 0
    rest l = ValidPairs mapping l (keep (λ y. not (mem y.first fs)) ys)

    go : (b : Bool) → mem y.first fs ≡ b → rest t → rest (t ++ (y.first ∷ [])) → ValidPairs mapping t (cond (not b) (y ∷ keep (λ y. not (mem y.first fs)) ys) (keep (λ y. not (mem y.first fs)) ys))
    go true e skip take = skip
    go false e skip take = (k.0, k.1, not-true (mem y.first t) (λ m. false≢true (sym (ap₂ ◌||◌ e k.2) ∙ c y.first m)), take)

pub composed-valid : (xs ys : List Pair) → ValidPairs mapping [] xs → ValidPairs mapping [] ys → ValidPairs mapping [] (composed xs ys)
unfolding composed Covered
composed-valid xs ys k h = first-valid [] xs (keep (λ y. not (mem y.first (listed_names xs))) ys) (becomes ys) (becomes-fits [] ys h) k (second-valid (listed_names xs) [] (listed_names xs) ys listed-covers h)
  where
    listed-covers : (v : Bytes) → mem v (listed_names xs) ≡ true → (mem v (listed_names xs) || mem v []) ≡ true
    listed-covers v m = or_inl (mem v (listed_names xs)) (mem v []) m

-- ---- its bounds

record Counts (xs : List Pair) (m n : Tally) : Type 0 where
  lines_are : n.lines ≡ m.lines + length xs
  wide_is : n.wide ≡ m.wide
  names-are : length n.names ≡ length m.names + length xs

pairs-counted : (xs : List Pair) (m : Tally) → Counts xs m (tally_pairs mapping xs m)
unfolding tally_pairs paired
pairs-counted [] m = record { lines_are = omega arith; wide_is = refl; names-are = omega arith }
pairs-counted (x ∷ xs) m =
    let r = pairs-counted xs (paired x.first m) in
    let a = r.lines_are in
    let b = r.names-are in
    let c : length (m.names ++ (x.first ∷ [])) ≡ length m.names + 1 = length-append m.names (x.first ∷ []) in
    record { lines_are = omega arith; wide_is = r.wide_is; names-are = omega arith }

-- within the entries and bytes of a list the composed list is read
pub mapping-reads : (xs : List Pair) → ValidPairs mapping [] xs → length xs ≤ bounds.entries → length (layout_pairs xs) ≤ 16384 → read_pairs mapping (layout_pairs xs) ≡ reads xs
mapping-reads xs k few short =
    let c = pairs-counted xs start in
    let a = c.lines_are in
    let w = c.wide_is in
    let n = c.names-are in
    (pairs-exactly mapping (layout_pairs xs) xs).1 (refl, k, record { bytes = short; lines = omega arith; depth = omega arith; columns = omega arith; names = omega arith; entries = few })
