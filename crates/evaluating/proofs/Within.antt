-- A pattern's rows have only terms of the tree and of the triples. Assumes nothing.
use mathlib.Core.Path.{◌≡◌, refl, sym, ◌∙◌, ap}
use mathlib.Core.Bool.{Bool, true, false, cond, not, ◌&&◌}
use mathlib.Core.List.{List, [], ◌∷◌, ◌++◌, map}
use mathlib.Core.Option.{none, some}
use Rattle.text.specs.Text.{Bytes, same}
use Rattle.text.specs.Field.{is_var, is_dash}
use Rattle.text.proofs.Basics.{and_both, and_left, and_right}
use Rattle.algebra.specs.Tree.{Triple, Pattern, bgp, path, join, union, minus, leftjoin, filter, graph, extend, values, orderby, project, distinct, reduced, slice, group, service}
use Rattle.algebra.specs.Tree.{Expression, term, bound, exists, apply, call, Condition, always, provided}
use Rattle.algebra.specs.Valid.{mem}
use Rattle.scoping.specs.Sets.{all, keep, triple_variables, each}
use Rattle.scoping.specs.Variables.{scope_of}
use Rattle.scoping.proofs.Sets.{mem-keep}
use Rattle.scoping.proofs.Basics.{mem-here, mem-there, mem-left, mem-right}
use Rattle.counting.specs.Bag.{when, once}
use Rattle.counting.specs.Row.{Cell, or_cell, Row, bind, merge, cut, agree, same_on, named, one_term, cell}
use Rattle.counting.specs.Condition.{term_of, passes, value_in}
use Rattle.counting.specs.Answer.{ways, is_in, terms, bgp_rows, or_else, extend_by, line_rows, removed, eval, unions}
use Rattle.counting.proofs.Every.{Every, done, more, every_append, every_map, every-each, every-when, every-keep, every-once, every-cond}
use Rattle.evaluating.specs.bridge.Numbers.{Numbers, constant_fields, row_constants, expression_constants, condition_constants, constants, Spelled, Spells}
use Rattle.evaluating.proofs.Coded.{Known, Within}

pub spells-left : (κ : Numbers) (xs ys : List Bytes) → Spells κ (xs ++ ys) → Spells κ xs
spells-left κ xs ys h x m = h x (mem-left x xs ys m)

pub spells-right : (κ : Numbers) (xs ys : List Bytes) → Spells κ (xs ++ ys) → Spells κ ys
spells-right κ xs ys h x m = h x (mem-right x xs ys m)

module _ (κ : Numbers) where
  every-spelled : (xs : List Bytes) → Spells κ xs → Every (Spelled κ) xs
  every-spelled [] h = done
  every-spelled (x ∷ xs) h = more (h x (mem-here x xs)) (every-spelled xs (λ y m. h y (mem-there y x xs m)))

  -- ---- rows

  within-bind : (v t : Bytes) (r : Row) → Spelled κ t → Within κ r → Within κ (bind v t r)
  unfolding bind
  within-bind v t r s h w = go (same w v)
    where
      go : (b : Bool) → Known κ (cond b (some t) (r w))
      go true = s
      go false = h w

  pub within-merge : (a b : Row) → Within κ a → Within κ b → Within κ (merge a b)
  unfolding merge
  within-merge a b h k w = go (a w) (b w) (h w) (k w)
    where
      go : (x y : Cell) → Known κ x → Known κ y → Known κ (or_cell x y)
      go none y p q = q
      go (some x) y p q = p

  within-cut : (cs : List Bytes) (r : Row) → Within κ r → Within κ (cut cs r)
  unfolding cut
  within-cut cs r h w = go (mem w cs)
    where
      go : (b : Bool) → Known κ (cond b (r w) none)
      go true = h w
      go false = tt

  within-extend : (v : Bytes) (x : Cell) (r : Row) → Known κ x → Within κ r → Within κ (extend_by v x r)
  within-extend v none r s h = h
  within-extend v (some t) r s h = within-bind v t r s h

  pub within-named : (cs : List Bytes) (xs : List Cell) → Every (Known κ) xs → Within κ (named cs xs)
  unfolding named
  within-named [] xs h w = tt
  within-named (c ∷ cs) [] h w = tt
  within-named (c ∷ cs) (none ∷ xs) (more p h) w = within-named cs xs h w
  within-named (c ∷ cs) (some t ∷ xs) (more p h) w = within-bind c t (named cs xs) p (within-named cs xs h) w

  within-ways : (vs ts : List Bytes) → Every (Spelled κ) ts → Every (Within κ) (ways vs ts)
  unfolding ways
  within-ways [] ts h = more (λ w. tt) done
  within-ways (v ∷ vs) ts h = every-cond (mem v vs) (within-ways vs ts h) (every-each (λ t. map (bind v t) (ways vs ts)) (λ t s. every_map (bind v t) (λ r k. within-bind v t r s k) (within-ways vs ts h)) h)

  pub within-bgp : (g ts : List Triple) → Spells κ (terms g) → Every (Within κ) (bgp_rows g ts)
  unfolding bgp_rows
  within-bgp g ts h = every-keep (λ r. all (is_in g r) ts) (within-ways (triple_variables ts) (once same (terms g)) (every-once same (every-spelled (terms g) h)))

  within-pairs : (vs : List Bytes) (c : Condition) (a : Row) {bs : List Row} → Within κ a → Every (Within κ) bs → Every (Within κ) (unions vs c a bs)
  unfolding unions
  within-pairs vs c a h k = every-each (λ b. when (agree vs a b && passes c (merge a b)) (merge a b)) (λ b hb. every-when (agree vs a b && passes c (merge a b)) (merge a b) (within-merge a b h hb)) k

  within-or-else : (a : Row) {xs : List Row} → Within κ a → Every (Within κ) xs → Every (Within κ) (or_else a xs)
  within-or-else a p done = more p done
  within-or-else a p (more q r) = more q r

  -- ---- fields

  -- what a term of an expression or a line is in a row
  pub known-value : (x : Bytes) (r : Row) → Spells κ (constant_fields (x ∷ [])) → Within κ r → Known κ (value_in x r)
  unfolding value_in constant_fields
  known-value x r s h = go (is_var x) (λ e. s x (mem-keep (λ f. not (is_var f)) x (x ∷ []) ∙ and_both (not (is_var x)) (mem x (x ∷ [])) (ap not e) (mem-here x [])))
    where
      go : (b : Bool) → (b ≡ false → Spelled κ x) → Known κ (cond b (r x) (some x))
      go true k = h x
      go false k = k refl

  pub known-term : (e : Expression) (r : Row) → Spells κ (expression_constants e) → Within κ r → Known κ (term_of e r)
  unfolding term_of expression_constants
  known-term (term x) r s h = known-value x r s h
  known-term (bound v) r s h = tt
  known-term (exists p) r s h = tt
  known-term (apply o es) r s h = tt
  known-term (call n es) r s h = tt

  pub known-cells : (xs : List Bytes) → Spells κ (keep (λ x. not (is_dash x)) xs) → Every (Known κ) (map cell xs)
  unfolding cell
  known-cells [] s = done
  known-cells (x ∷ xs) s = more (go (is_dash x) (λ e. s x (mem-keep (λ y. not (is_dash y)) x (x ∷ xs) ∙ and_both (not (is_dash x)) (mem x (x ∷ xs)) (ap not e) (mem-here x xs)))) (known-cells xs (λ y m. s y (rest y m)))
    where
      go : (b : Bool) → (b ≡ false → Spelled κ x) → Known κ (cond b none (some x))
      go true k = tt
      go false k = k refl

      rest : (y : Bytes) → mem y (keep (λ z. not (is_dash z)) xs) ≡ true → mem y (keep (λ z. not (is_dash z)) (x ∷ xs)) ≡ true
      rest y m =
          let h : (not (is_dash y) && mem y xs) ≡ true = sym (mem-keep (λ z. not (is_dash z)) y xs) ∙ m in
          mem-keep (λ z. not (is_dash z)) y (x ∷ xs) ∙ and_both (not (is_dash y)) (mem y (x ∷ xs)) (and_left (not (is_dash y)) (mem y xs) h) (mem-there y x xs (and_right (not (is_dash y)) (mem y xs) h))

  within-lines : (cs : List Bytes) (rs : List (List Bytes)) → Spells κ (row_constants rs) → Every (Within κ) (each (line_rows cs) rs)
  unfolding row_constants each line_rows
  within-lines cs [] s = done
  within-lines cs (xs ∷ rs) s = every_append (every-when (one_term cs (map cell xs)) (named cs (map cell xs)) (within-named cs (map cell xs) (known-cells xs (spells-left κ (keep (λ x. not (is_dash x)) xs) (each (keep (λ x. not (is_dash x))) rs) s)))) (within-lines cs rs (spells-right κ (keep (λ x. not (is_dash x)) xs) (each (keep (λ x. not (is_dash x))) rs) s))

  -- ---- patterns

  pub eval-within : (g : List Triple) → Spells κ (terms g) → (p : Pattern) → Spells κ (constants p) → Every (Within κ) (eval g p)
  unfolding eval constants condition_constants
  eval-within g h (bgp ts) s = within-bgp g ts h
  eval-within g h (join p q) s = every-each (λ a. unions (scope_of p ++ scope_of q) always a (eval g q)) (λ a k. within-pairs (scope_of p ++ scope_of q) always a k (eval-within g h q (spells-right κ (constants p) (constants q) s))) (eval-within g h p (spells-left κ (constants p) (constants q) s))
  eval-within g h (leftjoin p q c) s =
      let t : Spells κ (constants p ++ constants q) = spells-left κ (constants p ++ constants q) (condition_constants c) s in
      every-each (λ a. or_else a (unions (scope_of p ++ scope_of q) c a (eval g q))) (λ a k. within-or-else a k (within-pairs (scope_of p ++ scope_of q) c a k (eval-within g h q (spells-right κ (constants p) (constants q) t)))) (eval-within g h p (spells-left κ (constants p) (constants q) t))
  eval-within g h (filter p e) s = every-keep (passes (provided e)) (eval-within g h p (spells-left κ (constants p) (expression_constants e) s))
  eval-within g h (union p q) s = every_append (eval-within g h p (spells-left κ (constants p) (constants q) s)) (eval-within g h q (spells-right κ (constants p) (constants q) s))
  eval-within g h (minus p q) s = every-keep (λ a. not (removed (scope_of p ++ scope_of q) (eval g q) a)) (eval-within g h p (spells-left κ (constants p) (constants q) s))
  eval-within g h (extend v p e) s = every_map (λ r. extend_by v (term_of e r) r) (λ r k. within-extend v (term_of e r) r (known-term e r (spells-right κ (constants p) (expression_constants e) s) k) k) (eval-within g h p (spells-left κ (constants p) (expression_constants e) s))
  eval-within g h (values cs rs) s = within-lines cs rs s
  eval-within g h (project cs p) s = every_map (cut cs) (λ r k. within-cut cs r k) (eval-within g h p s)
  eval-within g h (distinct p) s = every-once (same_on (scope_of p)) (eval-within g h p s)
  eval-within g h (path s t o) k = done
  eval-within g h (graph n p) s = done
  eval-within g h (orderby p os) s = done
  eval-within g h (reduced p) s = done
  eval-within g h (slice a l p) s = done
  eval-within g h (group ks p rs) s = done
  eval-within g h (service n f p) s = done
