-- A row under new names: what renaming does to a row, for a function that takes no two names of U to one. Assumes nothing.
use mathlib.Core.Path.{◌≡◌, refl, sym, ◌∙◌, ap, ap₂, subst, fun_ext}
use mathlib.Core.Logic.{◌⊎◌, inl, inr}
use mathlib.Core.Bool.{Bool, true, false, cond, ◌&&◌, ◌||◌}
use mathlib.Core.List.{List, [], ◌∷◌, map}
use mathlib.Core.Option.{none, some}
use Rattle.text.specs.Text.{Bytes, same}
use Rattle.text.proofs.Basics.{same-eq}
use Rattle.algebra.specs.Valid.{mem}
use Rattle.scoping.proofs.Sets.{eq-same, same-sym}
use Rattle.scoping.specs.bridge.Sets.{Sub, Inj}
use Rattle.counting.specs.Row.{Cell, same_cell, compatible, is_bound, or_cell, Row, empty, bind, merge, cut, agree, shares, same_on, named, one_term}
use Rattle.counting.specs.Answer.{extend_by}
use Rattle.scoping.proofs.Basics.{split, clash, both_ways, either, mem-nil, mem-here, mem-there, mem-cases, all-cong, any-cong, all_map, any-map}

-- the row that binds f u as r binds u, for each u of U
unfoldable pub push : List Bytes → (Bytes → Bytes) → Row → Row
push [] f r w = none
push (u ∷ us) f r w = cond (same (f u) w) (r u) (push us f r w)

-- a name is a new one, or no pushed row binds it
pub data Hit (U : List Bytes) (f : Bytes → Bytes) (w : Bytes) : Type 0 where
  hit : (v : Bytes) → mem v U ≡ true → f v ≡ w → Hit U f w
  miss : ((r : Row) → push U f r w ≡ none) → ((v : Bytes) → mem v U ≡ true → same (f v) w ≡ false) → Hit U f w

view-step : (u : Bytes) (us : List Bytes) (f : Bytes → Bytes) (w : Bytes) → (same (f u) w ≡ true) ⊎ (same (f u) w ≡ false) → Hit us f w → Hit (u ∷ us) f w
unfolding push
view-step u us f w (inl e) h = hit u (mem-here u us) (same-eq (f u) w e)
view-step u us f w (inr e) (hit v m q) = hit v (mem-there v u us m) q
view-step u us f w (inr e) (miss n k) = miss (λ r. ap (λ c. cond c (r u) (push us f r w)) e ∙ n r) (λ v m. either (λ q. ap (λ x. same (f x) w) q ∙ e) (k v) (mem-cases v u us m))

pub view : (U : List Bytes) (f : Bytes → Bytes) (w : Bytes) → Hit U f w
unfolding push
view [] f w = miss (λ r. refl) (λ v m. mem-nil v m)
view (u ∷ us) f w = view-step u us f w (split (same (f u) w)) (view us f w)

pub push_at : (U : List Bytes) (f : Bytes → Bytes) → Inj U f → (r : Row) (v : Bytes) → mem v U ≡ true → push U f r (f v) ≡ r v
unfolding push
push_at [] f inj r v m = mem-nil v m
push_at (u ∷ us) f inj r v m = either
    (λ e. ap (λ c. cond c (r u) (push us f r (f v))) e ∙ ap r (inj u v (mem-here u us) m (same-eq (f u) (f v) e)))
    (λ e. ap (λ c. cond c (r u) (push us f r (f v))) e ∙ push_at us f (λ a b p q. inj a b (mem-there a u us p) (mem-there b u us q)) r v (either (λ q. clash (eq-same (f u) (f v) (ap f (sym q))) e) (λ k. k) (mem-cases v u us m)))
    (split (same (f u) (f v)))

cond_same : {A : Type 0} (c : Bool) (x : A) → cond c x x ≡ x
cond_same true x = refl
cond_same false x = refl

module _ (U : List Bytes) (f : Bytes → Bytes) (inj : Inj U f) where
  -- two rows are equal if they are at the new names and where no pushed row binds anything
  by-view : (a b : Row) → ((v : Bytes) → mem v U ≡ true → a (f v) ≡ b (f v)) → ((w : Bytes) → ((r : Row) → push U f r w ≡ none) → ((v : Bytes) → mem v U ≡ true → same (f v) w ≡ false) → a w ≡ b w) → a ≡ b
  by-view a b h n = fun_ext (λ w. go w (view U f w))
    where
      go : (w : Bytes) → Hit U f w → a w ≡ b w
      go w (hit v m q) = subst (λ x. a x ≡ b x) q (h v m)
      go w (miss p k) = n w p k

  at : (r : Row) (v : Bytes) → mem v U ≡ true → push U f r (f v) ≡ r v
  at = push_at U f inj

  same-inj : (u v : Bytes) → mem u U ≡ true → mem v U ≡ true → same (f u) (f v) ≡ same u v
  same-inj u v p q = both_ways (same (f u) (f v)) (same u v) (λ e. eq-same u v (inj u v p q (same-eq (f u) (f v) e))) (λ e. eq-same (f u) (f v) (ap f (same-eq u v e)))

  pub mem-inj : (u : Bytes) (vs : List Bytes) → mem u U ≡ true → Sub vs U → mem (f u) (map f vs) ≡ mem u vs
  unfolding mem
  mem-inj u [] p s = refl
  mem-inj u (v ∷ vs) p s = ap₂ ◌||◌ (same-inj u v p (s v (mem-here v vs))) (mem-inj u vs p (λ x m. s x (mem-there x v vs m)))

  pub push-empty : push U f empty ≡ empty
  push-empty = by-view (push U f empty) empty (λ v m. at empty v m) (λ w n k. n empty)

  pub push-bind : (v t : Bytes) (r : Row) → mem v U ≡ true → push U f (bind v t r) ≡ bind (f v) t (push U f r)
  unfolding bind
  push-bind v t r p = by-view (push U f (bind v t r)) (bind (f v) t (push U f r))
      (λ u m. at (bind v t r) u m ∙ sym (ap₂ (λ c x. cond c (some t) x) (same-inj u v m p) (at r u m)))
      (λ w n k. n (bind v t r) ∙ sym (ap₂ (λ c x. cond c (some t) x) (same-sym w (f v) ∙ k v p) (n r)))

  pub push-merge : (r s : Row) → push U f (merge r s) ≡ merge (push U f r) (push U f s)
  unfolding merge
  push-merge r s = by-view (push U f (merge r s)) (merge (push U f r) (push U f s))
      (λ u m. at (merge r s) u m ∙ sym (ap₂ or_cell (at r u m) (at s u m)))
      (λ w n k. n (merge r s) ∙ sym (ap₂ or_cell (n r) (n s)))

  pub push-cut : (cs : List Bytes) (r : Row) → Sub cs U → push U f (cut cs r) ≡ cut (map f cs) (push U f r)
  unfolding cut
  push-cut cs r s = by-view (push U f (cut cs r)) (cut (map f cs) (push U f r))
      (λ u m. at (cut cs r) u m ∙ sym (ap₂ (λ c x. cond c x none) (mem-inj u cs m s) (at r u m)))
      (λ w n k. n (cut cs r) ∙ sym (ap (λ x. cond (mem w (map f cs)) x none) (n r) ∙ cond_same (mem w (map f cs)) none))

  pub push-named : (cs : List Bytes) (xs : List Cell) → Sub cs U → push U f (named cs xs) ≡ named (map f cs) xs
  unfolding named
  push-named [] xs s = push-empty
  push-named (c ∷ cs) [] s = push-empty
  push-named (c ∷ cs) (none ∷ xs) s = push-named cs xs (λ x m. s x (mem-there x c cs m))
  push-named (c ∷ cs) (some t ∷ xs) s = push-bind c t (named cs xs) (s c (mem-here c cs)) ∙ ap (bind (f c) t) (push-named cs xs (λ x m. s x (mem-there x c cs m)))

  -- a line gives one variable two terms under the old names if it does under the new ones
  pub one_term-push : (cs : List Bytes) (xs : List Cell) → Sub cs U → one_term (map f cs) xs ≡ one_term cs xs
  unfolding one_term
  one_term-push [] xs s = refl
  one_term-push (c ∷ cs) [] s = refl
  one_term-push (c ∷ cs) (x ∷ xs) s =
      let t : Sub cs U = λ v m. s v (mem-there v c cs m) in
      ap₂ (λ y b. compatible x y && b) (ap (λ r. r (f c)) (sym (push-named cs xs t)) ∙ at (named cs xs) c (s c (mem-here c cs))) (one_term-push cs xs t)

  pub push-extend : (v : Bytes) (x : Cell) (r : Row) → mem v U ≡ true → push U f (extend_by v x r) ≡ extend_by (f v) x (push U f r)
  push-extend v none r p = refl
  push-extend v (some t) r p = push-bind v t r p

  pub agree-push : (vs : List Bytes) (a b : Row) → Sub vs U → agree (map f vs) (push U f a) (push U f b) ≡ agree vs a b
  unfolding agree
  agree-push vs a b s = all_map _ f vs ∙ all-cong _ _ vs (λ v m. ap₂ compatible (at a v (s v m)) (at b v (s v m)))

  pub shares-push : (vs : List Bytes) (a b : Row) → Sub vs U → shares (map f vs) (push U f a) (push U f b) ≡ shares vs a b
  unfolding shares
  shares-push vs a b s = any-map _ f vs ∙ any-cong _ _ vs (λ v m. ap₂ (λ x y. is_bound x && is_bound y) (at a v (s v m)) (at b v (s v m)))

  pub same_on-push : (vs : List Bytes) (a b : Row) → Sub vs U → same_on (map f vs) (push U f a) (push U f b) ≡ same_on vs a b
  unfolding same_on
  same_on-push vs a b s = all_map _ f vs ∙ all-cong _ _ vs (λ v m. ap₂ same_cell (at a v (s v m)) (at b v (s v m)))

  -- a row cut to columns is the row itself at every name that only columns become
  pub push-cut-at : (cs : List Bytes) (r : Row) (w : Bytes) → ((v : Bytes) → mem v U ≡ true → f v ≡ w → mem v cs ≡ true) → push U f (cut cs r) w ≡ push U f r w
  unfolding cut
  push-cut-at cs r w h = go (view U f w)
    where
      go : Hit U f w → push U f (cut cs r) w ≡ push U f r w
      go (hit v m q) = subst (λ x. push U f (cut cs r) x ≡ push U f r x) q (at (cut cs r) v m ∙ (ap (λ c. cond c (r v) none) (h v m q) ∙ sym (at r v m)))
      go (miss n k) = n (cut cs r) ∙ sym (n r)
