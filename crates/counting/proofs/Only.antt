-- A pattern's rows bind only variables in scope; so two rows may be compared over any list that has those. Assumes nothing.
use mathlib.Core.Path.{◌≡◌, refl, ◌∙◌, ap, ap₂}
use mathlib.Core.Bool.{true, false, cond, not, ◌&&◌}
use mathlib.Core.List.{List, [], ◌∷◌, ◌++◌, map}
use mathlib.Core.Option.{none, some}
use Rattle.text.specs.Text.{Bytes, same}
use Rattle.text.proofs.Basics.{same-eq}
use Rattle.algebra.specs.Tree.{Triple, Pattern, bgp, path, join, union, minus, leftjoin, filter, graph, extend, values, orderby, project, distinct, reduced, slice, group, service, Condition, always, provided}
use Rattle.algebra.specs.Valid.{mem}
use Rattle.scoping.specs.Sets.{all, triple_variables}
use Rattle.scoping.specs.Variables.{variables_in_pattern, scope_of}
use Rattle.scoping.specs.bridge.Sets.{Sub}
use Rattle.counting.specs.Bag.{when, once}
use Rattle.counting.specs.Row.{Cell, compatible, or_cell, Row, bind, merge, cut, agree, same_on, named, one_term, cell}
use Rattle.counting.specs.Condition.{term_of, passes}
use Rattle.counting.specs.Answer.{ways, is_in, terms, bgp_rows, unions, or_else, extend_by, line_rows, removed, eval}
use Rattle.scoping.proofs.Basics.{split, clash, not-true, both_ways, either, mem-there, mem-eq, mem-left, mem-right, all-at, all_of}
use Rattle.counting.proofs.Every.{Every, done, more, every-imp, every_append, every_map, every-each, every-when, every-keep, every-once, every-all, every-cond}

-- the row binds no other names
abbrev pub Only : List Bytes → Row → Type 0
Only vs r = (w : Bytes) → mem w vs ≡ false → r w ≡ none

pub not_in : (w : Bytes) (xs ys : List Bytes) → Sub xs ys → mem w ys ≡ false → mem w xs ≡ false
not_in w xs ys s h = not-true (mem w xs) (λ m. clash (s w m) h)

pub not_left : (w : Bytes) (xs ys : List Bytes) → mem w (xs ++ ys) ≡ false → mem w xs ≡ false
not_left w xs ys h = not_in w xs (xs ++ ys) (λ v. mem-left v xs ys) h

pub not_right : (w : Bytes) (xs ys : List Bytes) → mem w (xs ++ ys) ≡ false → mem w ys ≡ false
not_right w xs ys h = not_in w ys (xs ++ ys) (λ v. mem-right v xs ys) h

not_there : (w x : Bytes) (xs : List Bytes) → mem w (x ∷ xs) ≡ false → mem w xs ≡ false
not_there w x xs h = not_in w xs (x ∷ xs) (λ v. mem-there v x xs) h

pub only-sub : (xs ys : List Bytes) (r : Row) → Sub xs ys → Only xs r → Only ys r
only-sub xs ys r s h w n = h w (not_in w xs ys s n)

pub only-left : (xs ys : List Bytes) (r : Row) → Only xs r → Only (xs ++ ys) r
only-left xs ys r h w n = h w (not_left w xs ys n)

only-right : (xs ys : List Bytes) (r : Row) → Only ys r → Only (xs ++ ys) r
only-right xs ys r h w n = h w (not_right w xs ys n)

only-bind : (v t : Bytes) (vs : List Bytes) (r : Row) → Only vs r → Only (v ∷ vs) (bind v t r)
unfolding bind
only-bind v t vs r h w n = ap (λ c. cond c (some t) (r w)) (not-true (same w v) (λ e. clash (mem-eq w v vs (same-eq w v e)) n)) ∙ h w (not_there w v vs n)

only-merge : (xs ys : List Bytes) (r s : Row) → Only xs r → Only ys s → Only (xs ++ ys) (merge r s)
unfolding merge
only-merge xs ys r s h k w n = ap₂ or_cell (h w (not_left w xs ys n)) (k w (not_right w xs ys n))

pub only-named : (cs : List Bytes) (xs : List Cell) → Only cs (named cs xs)
unfolding named
only-named [] xs w n = refl
only-named (c ∷ cs) [] w n = refl
only-named (c ∷ cs) (none ∷ xs) w n = only-named cs xs w (not_there w c cs n)
only-named (c ∷ cs) (some t ∷ xs) w n = only-bind c t cs (named cs xs) (only-named cs xs) w n

only-cut : (cs : List Bytes) (r : Row) → Only cs (cut cs r)
unfolding cut
only-cut cs r w n = ap (λ c. cond c (r w) none) n

only-ways : (vs ts : List Bytes) → Every (Only vs) (ways vs ts)
unfolding ways
only-ways [] ts = more (λ w n. refl) done
only-ways (v ∷ vs) ts = every-cond (mem v vs) (every-imp (λ r h w n. h w (not_there w v vs n)) (only-ways vs ts)) (every-each {P = λ t. Bytes} (λ t. map (bind v t) (ways vs ts)) (λ t k. every_map (bind v t) (λ r h. only-bind v t vs r h) (only-ways vs ts)) (every-all (λ t. t) ts))

only-extend : (v : Bytes) (x : Cell) (vs : List Bytes) (r : Row) → Only vs r → Only (v ∷ vs) (extend_by v x r)
only-extend v none vs r h w n = h w (not_there w v vs n)
only-extend v (some t) vs r h w n = only-bind v t vs r h w n

only-unions : (xs ys vs : List Bytes) (c : Condition) (a : Row) {bs : List Row} → Only xs a → Every (Only ys) bs → Every (Only (xs ++ ys)) (unions vs c a bs)
unfolding unions
only-unions xs ys vs c a h k = every-each (λ b. when (agree vs a b && passes c (merge a b)) (merge a b)) (λ b hb. every-when (agree vs a b && passes c (merge a b)) (merge a b) (only-merge xs ys a b h hb)) k

every-or_else : {A : Type 0} {P : A → Type 0} (a : A) {xs : List A} → P a → Every P xs → Every P (or_else a xs)
every-or_else a p done = more p done
every-or_else a p (more q r) = more q r

pub only-bgp : (g ts : List Triple) → Every (Only (triple_variables ts)) (bgp_rows g ts)
unfolding bgp_rows
only-bgp g ts = every-keep (λ r. all (is_in g r) ts) (only-ways (triple_variables ts) (once same (terms g)))

only-line : (cs xs : List Bytes) → Every (Only cs) (line_rows cs xs)
unfolding line_rows
only-line cs xs = every-when (one_term cs (map cell xs)) (named cs (map cell xs)) (only-named cs (map cell xs))

-- each row of a pattern binds only variables in scope
pub eval-only : (g : List Triple) (p : Pattern) → Every (Only (scope_of p)) (eval g p)
unfolding eval variables_in_pattern
eval-only g (bgp ts) = only-bgp g ts
eval-only g (join p q) = every-each (λ a. unions (scope_of p ++ scope_of q) always a (eval g q)) (λ a h. only-unions (scope_of p) (scope_of q) (scope_of p ++ scope_of q) always a h (eval-only g q)) (eval-only g p)
eval-only g (leftjoin p q c) = every-each (λ a. or_else a (unions (scope_of p ++ scope_of q) c a (eval g q))) (λ a h. every-or_else a (only-left (scope_of p) (scope_of q) a h) (only-unions (scope_of p) (scope_of q) (scope_of p ++ scope_of q) c a h (eval-only g q))) (eval-only g p)
eval-only g (filter p e) = every-keep (passes (provided e)) (eval-only g p)
eval-only g (union p q) = every_append (every-imp (λ r h. only-left (scope_of p) (scope_of q) r h) (eval-only g p)) (every-imp (λ r h. only-right (scope_of p) (scope_of q) r h) (eval-only g q))
eval-only g (minus p q) = every-keep (λ a. not (removed (scope_of p ++ scope_of q) (eval g q) a)) (eval-only g p)
eval-only g (extend v p e) = every_map (λ r. extend_by v (term_of e r) r) (λ r h. only-extend v (term_of e r) (scope_of p) r h) (eval-only g p)
eval-only g (values cs rs) = every-each {P = λ x. List Bytes} (line_rows cs) (λ xs k. only-line cs xs) (every-all (λ xs. xs) rs)
eval-only g (project cs p) = every_map (cut cs) (λ r h. only-cut cs r) (eval-only g p)
eval-only g (distinct p) = every-once (same_on (scope_of p)) (eval-only g p)
eval-only g (path s t o) = done
eval-only g (graph n p) = done
eval-only g (orderby p os) = done
eval-only g (reduced p) = done
eval-only g (slice s l p) = done
eval-only g (group ks p rs) = done
eval-only g (service n s p) = done

-- the rows of p bind only names of U
pub only-in : (U : List Bytes) (g : List Triple) (p : Pattern) → Sub (scope_of p) U → Every (Only U) (eval g p)
only-in U g p s = every-imp (λ r o. only-sub (scope_of p) U r s o) (eval-only g p)

-- ---- what a test over a list of names says of every name

pub compatible-none : (x : Cell) → compatible x none ≡ true
unfolding compatible
compatible-none none = refl
compatible-none (some a) = refl

pub none-compatible : (x : Cell) → compatible none x ≡ true
unfolding compatible
none-compatible x = refl

-- the names that are not in vs fit anyway
abbrev pub Cover : List Bytes → Row → Row → Type 0
Cover vs a b = (w : Bytes) → mem w vs ≡ false → compatible (a w) (b w) ≡ true

pub cover-left : (vs : List Bytes) (a b : Row) → Only vs a → Cover vs a b
cover-left vs a b h w n = ap (λ x. compatible x (b w)) (h w n) ∙ none-compatible (b w)

pub cover-right : (vs : List Bytes) (a b : Row) → Only vs b → Cover vs a b
cover-right vs a b h w n = ap (λ x. compatible (a w) x) (h w n) ∙ compatible-none (a w)

pub agree_at : (vs : List Bytes) (a b : Row) → Cover vs a b → agree vs a b ≡ true → (w : Bytes) → compatible (a w) (b w) ≡ true
unfolding agree
agree_at vs a b c h w = either (λ m. all-at (λ v. compatible (a v) (b v)) vs h w m) (λ n. c w n) (split (mem w vs))

pub agree_of : (vs : List Bytes) (a b : Row) → ((w : Bytes) → compatible (a w) (b w) ≡ true) → agree vs a b ≡ true
unfolding agree
agree_of vs a b h = all_of (λ v. compatible (a v) (b v)) vs (λ v m. h v)

-- two rows agree over a longer list exactly if they do over one that has the names of one of them
pub agree-wider : (us vs : List Bytes) (a b : Row) → Sub vs us → Cover vs a b → agree us a b ≡ agree vs a b
agree-wider us vs a b s c = both_ways (agree us a b) (agree vs a b)
    (λ h. agree_of vs a b (agree_at us a b (λ w n. c w (not_in w vs us s n)) h))
    (λ h. agree_of us a b (agree_at vs a b c h))
