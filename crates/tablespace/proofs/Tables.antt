-- The tables of a tree that was read never take more than the fixed space. Assumes nothing.
use mathlib.Core.Path.{◌≡◌, refl, sym, ◌∙◌, ap, subst}
use mathlib.Core.Bool.{Bool, true, false, cond, not, ◌||◌, false≢true}
use mathlib.Core.List.{List, [], ◌∷◌, ◌++◌}
use Prim.Native.Nat.{suc, ◌+◌, ◌*◌, ◌≤◌}
use native.Mathlib.Omega.{arith}
use lib.Dec.{leb, leb→le}
use lib.ListN.{length}
use Rattle.text.specs.Text.{Bytes, Line, same}
use Rattle.text.specs.Field.{is_var}
use Rattle.text.proofs.Basics.{same-eq, so→T, and_left, and_both}
use Rattle.algebra.specs.Tree.{Pattern, bgp, path, join, union, minus, leftjoin, filter, graph, extend, values, orderby, project, distinct, reduced, slice, group, service}
use Rattle.algebra.specs.Tree.{Aggregates, aend, agg, aggall}
use Rattle.algebra.specs.Layout.{put, put_e, put_c}
use Rattle.algebra.specs.Reader.{reads}
use Rattle.algebra.specs.Given.{read_given_tree}
use Rattle.algebra.specs.Valid.{mem, Valid}
use Rattle.algebra.proofs.Theorem.{tree-exactly}
use Rattle.algebra.proofs.Given.{tree_text, given-as-text}
use Rattle.scoping.specs.Sets.{keep, variables_of, triple_variables, aggregate_variables}
use Rattle.scoping.specs.Variables.{variables_in_pattern, scope_of}
use Rattle.scoping.specs.Numbering.{by_place}
use Rattle.scoping.specs.bridge.Places.{Mark, visible, silent, under, Place, marked, places, places_e, places_c, places_as, names_of}
use Rattle.scoping.proofs.Sets.{mem-keep}
use Rattle.scoping.proofs.FirstPlaces.{names_of-append, names_of-marked, by-place-mem}
use Rattle.scoping.proofs.Named.{named}
use Rattle.scoping.specs.bridge.Sets.{Sub}
use Rattle.scoping.proofs.Basics.{either, mem-nil, mem-here, mem-there, mem-cases, mem-left, mem-right, mem-append-cases}
use Rattle.counting.proofs.Every.{Every, done, more}
use Rattle.walking.proofs.Sizes.{width, size, tree-size}
use Rattle.evaluating.specs.Bounds.{most_rows}
use Rattle.evaluating.specs.Evaluate.{table_space}
use Rattle.evaluating.specs.bridge.Tables.{columns_of}
use Rattle.tablespace.specs.bridge.Space.{row_of, peak}
use Rattle.evaluating.proofs.Sorted.{Different, dcons}
use Rattle.evaluating.proofs.Orders.{once-different}
use Rattle.evaluating.proofs.Fits.{columns-in}
use Rattle.room.proofs.Spread.{spread-size, spread_e, spread_c}

-- ---- different names among others

abbrev others : Bytes → List Bytes → List Bytes
others x ys = keep (λ y. not (same x y)) ys

kept-few : (f : Bytes → Bool) (ys : List Bytes) → (length (keep f ys) ≤ length ys) × (width (keep f ys) ≤ width ys)
unfolding keep width
kept-few f [] = (omega arith, omega arith)
kept-few f (y ∷ ys) = go (f y) (kept-few f ys)
  where
    go : (b : Bool) → (length (keep f ys) ≤ length ys) × (width (keep f ys) ≤ width ys) → (length (cond b (y ∷ keep f ys) (keep f ys)) ≤ suc (length ys)) × (width (cond b (y ∷ keep f ys) (keep f ys)) ≤ suc (length y) + width ys)
    go true h = let a = h.0 in let b = h.1 in (omega arith, omega arith)
    go false h = let a = h.0 in let b = h.1 in (omega arith, omega arith)

fewer : (x : Bytes) (ys : List Bytes) → mem x ys ≡ true → (suc (length (others x ys)) ≤ length ys) × (suc (length x) + width (others x ys) ≤ width ys)
unfolding keep mem width
fewer x [] h = absurd (false≢true h)
fewer x (y ∷ ys) h = go (same x y) refl (kept-few (λ z. not (same x z)) ys) (fewer x ys) h
  where
    go : (t : Bool) → same x y ≡ t → (length (others x ys) ≤ length ys) × (width (others x ys) ≤ width ys) → (mem x ys ≡ true → (suc (length (others x ys)) ≤ length ys) × (suc (length x) + width (others x ys) ≤ width ys)) → (t || mem x ys) ≡ true
        → (suc (length (cond (not t) (y ∷ others x ys) (others x ys))) ≤ suc (length ys)) × (suc (length x) + width (cond (not t) (y ∷ others x ys) (others x ys)) ≤ suc (length y) + width ys)
    go true e k r m = let a = k.0 in let b = k.1 in let i = ap length (same-eq x y e) in (omega arith, omega arith)
    go false e k r m = let z = r m in let a = z.0 in let b = z.1 in (omega arith, omega arith)

different-fewer : (xs ys : List Bytes) → Different same xs → Sub xs ys → (length xs ≤ length ys) × (width xs ≤ width ys)
unfolding width
different-fewer [] ys d s = (omega arith, omega arith)
different-fewer (x ∷ xs) ys (dcons n d) s =
    let h = fewer x ys (s x (mem-here x xs)) in
    let a = h.0 in
    let b = h.1 in
    let r = different-fewer xs (others x ys) d (λ v m. mem-keep (λ y. not (same x y)) v ys ∙ and_both (not (same x v)) (mem v ys) (ap not (apart v xs n m)) (s v (mem-there v x xs m))) in
    let c = r.0 in
    let e = r.1 in
    (omega arith, omega arith)
  where
    apart : (v : Bytes) (zs : List Bytes) → Every (λ z. same x z ≡ false) zs → mem v zs ≡ true → same x v ≡ false
    apart v [] done m = mem-nil v m
    apart v (z ∷ zs) (more e r) m = either (λ i. subst (λ w. same x w ≡ false) (sym i) e) (apart v zs r) (mem-cases v z zs m)

-- a variable takes three bytes at least, with the tab or line end behind it
three-bytes : (xs : List Bytes) → ((v : Bytes) → mem v xs ≡ true → is_var v ≡ true) → 3 * length xs ≤ width xs
unfolding width is_var
three-bytes [] h = omega arith
three-bytes (x ∷ xs) h =
    let r = three-bytes xs (λ v m. h v (mem-there v x xs m)) in
    let k : 2 ≤ length x = leb→le 2 (length x) (so→T (leb 2 (length x)) (and_left (leb 2 (length x)) _ (h x (mem-here x xs)))) in
    omega arith

-- ---- the variables in scope stand at places

in-first : (v : Bytes) (xs ys : List Place) → mem v (names_of xs) ≡ true → mem v (names_of (xs ++ ys)) ≡ true
in-first v xs ys m = subst (λ l. mem v l ≡ true) (sym (names_of-append xs ys)) (mem-left v (names_of xs) (names_of ys) m)

in-second : (v : Bytes) (xs ys : List Place) → mem v (names_of ys) ≡ true → mem v (names_of (xs ++ ys)) ≡ true
in-second v xs ys m = subst (λ l. mem v l ≡ true) (sym (names_of-append xs ys)) (mem-right v (names_of xs) (names_of ys) m)

in-marked : (v : Bytes) (k : Mark) (vs : List Bytes) → mem v vs ≡ true → mem v (names_of (marked k vs)) ≡ true
in-marked v k vs m = subst (λ l. mem v l ≡ true) (sym (names_of-marked k vs)) m

aggregates-placed : (rs : Aggregates) (k : Mark) → Sub (aggregate_variables rs) (names_of (places_as rs k))
unfolding aggregate_variables places_as
aggregates-placed aend k v m = mem-nil v m
aggregates-placed (agg w n d e rs) k v m = either (λ i. in-first v (marked k (w ∷ [])) _ (in-marked v k (w ∷ []) (subst (λ u. mem v (u ∷ []) ≡ true) i (mem-here v [])))) (λ i. in-second v (marked k (w ∷ [])) _ (in-second v (places_e e) (places_as rs k) (aggregates-placed rs k v i))) (mem-cases v w (aggregate_variables rs) m)
aggregates-placed (aggall w d rs) k v m = either (λ i. in-first v (marked k (w ∷ [])) _ (in-marked v k (w ∷ []) (subst (λ u. mem v (u ∷ []) ≡ true) i (mem-here v [])))) (λ i. in-second v (marked k (w ∷ [])) _ (aggregates-placed rs k v i)) (mem-cases v w (aggregate_variables rs) m)

scope-placed : (p : Pattern) (k : Mark) → Sub (scope_of p) (names_of (places p k))
unfolding variables_in_pattern places
scope-placed (bgp ts) k v m = in-marked v k (triple_variables ts) m
scope-placed (path s t o) k v m = in-marked v k (variables_of (s ∷ o ∷ [])) m
scope-placed (join p q) k v m = either (λ i. in-first v (places p k) _ (scope-placed p k v i)) (λ i. in-second v (places p k) _ (scope-placed q k v i)) (mem-append-cases v (scope_of p) (scope_of q) m)
scope-placed (union p q) k v m = either (λ i. in-first v (places p k) _ (scope-placed p k v i)) (λ i. in-second v (places p k) _ (scope-placed q k v i)) (mem-append-cases v (scope_of p) (scope_of q) m)
scope-placed (minus p q) k v m = in-first v (places p k) _ (scope-placed p k v m)
scope-placed (leftjoin p q c) k v m = either (λ i. in-first v (places p k) _ (scope-placed p k v i)) (λ i. in-second v (places p k) _ (in-first v (places q k) (places_c c) (scope-placed q k v i))) (mem-append-cases v (scope_of p) (scope_of q) m)
scope-placed (filter p e) k v m = in-first v (places p k) _ (scope-placed p k v m)
scope-placed (graph n p) k v m = either (λ i. in-first v (marked k (variables_of (n ∷ []))) _ (in-marked v k (variables_of (n ∷ [])) i)) (λ i. in-second v (marked k (variables_of (n ∷ []))) _ (scope-placed p k v i)) (mem-append-cases v (variables_of (n ∷ [])) (scope_of p) m)
scope-placed (extend w p e) k v m = either (λ i. in-first v (marked k (w ∷ [])) _ (in-marked v k (w ∷ []) (subst (λ u. mem v (u ∷ []) ≡ true) i (mem-here v [])))) (λ i. in-second v (marked k (w ∷ [])) _ (in-first v (places p k) (places_e e) (scope-placed p k v i))) (mem-cases v w (scope_of p) m)
scope-placed (values cs rs) k v m = in-marked v k cs m
scope-placed (orderby p os) k v m = in-first v (places p k) _ (scope-placed p k v m)
scope-placed (project cs p) k v m = in-first v (marked k cs) _ (in-marked v k cs m)
scope-placed (distinct p) k v m = scope-placed p k v m
scope-placed (reduced p) k v m = scope-placed p k v m
scope-placed (slice s l p) k v m = scope-placed p k v m
scope-placed (group ks p rs) k v m = either (λ i. in-first v (marked k ks) _ (in-marked v k ks i)) (λ i. in-second v (marked k ks) _ (in-second v (places p (under k)) (places_as rs k) (aggregates-placed rs k v i))) (mem-append-cases v ks (aggregate_variables rs) m)
scope-placed (service n s p) k v m = in-second v (marked silent (variables_of (n ∷ []))) _ (scope-placed p k v m)

columns-placed : (p : Pattern) (k : Mark) → Sub (columns_of p) (names_of (places p k))
columns-placed p k v m = scope-placed p k v (columns-in p v m)

columns-different : (p : Pattern) → Different same (columns_of p)
unfolding columns_of
columns-different p = once-different same (scope_of p)

-- ---- one table

-- a row has an entry for every three bytes of the pattern's text at most
row-size : (p : Pattern) (k : Mark) (t : List Line) → Valid p → 3 * row_of p + size t ≤ size (put p t)
unfolding row_of
row-size p k t v =
    let a = different-fewer (columns_of p) (names_of (places p k)) (columns-different p) (columns-placed p k) in
    let b = a.1 in
    let c = three-bytes (columns_of p) (λ w m. (named p k v).at w (columns-placed p k w m)) in
    let d = spread-size p k t in
    omega arith

-- and 1,024 columns at most
row-most : (N : List Bytes) → length N ≤ 1024 → (p : Pattern) (k : Mark) → Sub (names_of (places p k)) N → row_of p ≤ 1026
unfolding row_of
row-most N n p k s = let a = different-fewer (columns_of p) N (columns-different p) (λ v m. s v (columns-placed p k v m)) in let b = a.0 in omega arith

-- ---- all tables that stand at one time

module _ (N : List Bytes) (n : length N ≤ 1024) where
  first-sub : (xs ys : List Place) → Sub (names_of (xs ++ ys)) N → Sub (names_of xs) N
  first-sub xs ys s v m = s v (in-first v xs ys m)

  second-sub : (xs ys : List Place) → Sub (names_of (xs ++ ys)) N → Sub (names_of ys) N
  second-sub xs ys s v m = s v (in-second v xs ys m)

  peak-size : (p : Pattern) (k : Mark) (t : List Line) → Valid p → Sub (names_of (places p k)) N → 3 * peak p + size t ≤ size (put p t) + 3078
  unfolding peak put size width Valid places
  peak-size (bgp ts) k t v s = omega (arith, row-size (bgp ts) k t v, row-most N n (bgp ts) k s)
  peak-size (join p q) k t v s = omega (arith, peak-size p k (put q t) v.0 (first-sub (places p k) (places q k) s), peak-size q k t v.1 (second-sub (places p k) (places q k) s), row-size p k (put q t) v.0, row-size q k t v.1, row-most N n (join p q) k s)
  peak-size (union p q) k t v s = omega (arith, peak-size p k (put q t) v.0 (first-sub (places p k) (places q k) s), peak-size q k t v.1 (second-sub (places p k) (places q k) s), row-size p k (put q t) v.0, row-size q k t v.1, row-most N n (union p q) k s)
  peak-size (minus p q) k t v s = omega (arith, peak-size p k (put q t) v.0 (first-sub (places p k) (places q (under k)) s), peak-size q (under k) t v.1 (second-sub (places p k) (places q (under k)) s), row-size p k (put q t) v.0, row-size q k t v.1)
  peak-size (leftjoin p q c) k t v s =
      omega (arith, peak-size p k (put q (put_c c t)) v.0 (first-sub (places p k) (places q k ++ places_c c) s), peak-size q k (put_c c t) v.1 (first-sub (places q k) (places_c c) (second-sub (places p k) (places q k ++ places_c c) s)), row-size p k (put q (put_c c t)) v.0, row-size q k (put_c c t) v.1, row-most N n (leftjoin p q c) k s, spread_c c t)
  peak-size (filter p e) k t v s = omega (arith, peak-size p k (put_e e t) v.0 (first-sub (places p k) (places_e e) s), spread_e e t)
  peak-size (extend w p e) k t v s =
      let r : Sub (names_of (places p k ++ places_e e)) N = second-sub (marked k (w ∷ [])) (places p k ++ places_e e) s in
      omega (arith, peak-size p k (put_e e t) v.1 (first-sub (places p k) (places_e e) r), row-size p k (put_e e t) v.1, row-most N n (extend w p e) k s, spread_e e t)
  peak-size (values cs rs) k t v s = omega (arith, row-size (values cs rs) k t v, row-most N n (values cs rs) k s)
  peak-size (project cs p) k t v s = omega (arith, peak-size p (under k) t v.1 (second-sub (marked k cs) (places p (under k)) s), row-size p k t v.1, row-most N n (project cs p) k s)
  peak-size (distinct p) k t v s = omega (arith, peak-size p k t v s)
  peak-size (path x y z) k t v s = omega (arith, row-size (path x y z) k t v)
  peak-size (graph a p) k t v s = omega (arith, row-size (graph a p) k t v)
  peak-size (orderby p os) k t v s = omega (arith, row-size (orderby p os) k t v)
  peak-size (reduced p) k t v s = omega (arith, row-size (reduced p) k t v)
  peak-size (slice a l p) k t v s = omega (arith, row-size (slice a l p) k t v)
  peak-size (group ks p rs) k t v s = omega (arith, row-size (group ks p rs) k t v)
  peak-size (service a f p) k t v s = omega (arith, row-size (service a f p) k t v)

-- the tables of a tree that is read fit into the fixed space, each with all the rows that it may hold, beside 2,048 entries for the triples and a term's row
pub space-suffices : (text : Bytes) (p : Pattern) → read_given_tree text ≡ reads p → most_rows * peak p + 2048 ≤ table_space
unfolding by_place
space-suffices text p e =
    let x = (tree-exactly (tree_text text) p).0 (sym (given-as-text text) ∙ e) in
    let names-few : length (by_place p) ≤ 1024 = x.2.names in
    let bytes-few = x.2.bytes in
    let s : Sub (names_of (places p visible)) (by_place p) = λ v m. by-place-mem p v ((named p visible x.1).at v m) ∙ m in
    omega (arith, peak-size (by_place p) names-few p visible [] x.1 s, tree-size p, bytes-few)
