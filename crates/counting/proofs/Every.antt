-- What holds of every element of a list, and lists that are the same because what holds of their elements makes it so. Assumes nothing.
use mathlib.Core.Path.{◌≡◌, refl, sym, ◌∙◌, ap, ap₂, subst}
use mathlib.Core.Bool.{Bool, true, false, cond, not, ◌||◌}
use mathlib.Core.List.{List, [], ◌∷◌, ◌++◌, map}
use Rattle.scoping.specs.Sets.{any, keep, each}
use Rattle.counting.specs.Bag.{when, once}
use Rattle.counting.proofs.Basics.{keep-each}

-- every element of a list has P
pub data Every {A : Type 0} (P : A → Type 0) : List A → Type 0 where
  done : Every P []
  more : {x : A} {xs : List A} → P x → Every P xs → Every P (x ∷ xs)

pub every-imp : {A : Type 0} {P Q : A → Type 0} {xs : List A} → ((x : A) → P x → Q x) → Every P xs → Every Q xs
every-imp h done = done
every-imp h (more {x = x} p r) = more (h x p) (every-imp h r)

pub every_append : {A : Type 0} {P : A → Type 0} {xs ys : List A} → Every P xs → Every P ys → Every P (xs ++ ys)
every_append done s = s
every_append (more p r) s = more p (every_append r s)

pub every_map : {A B : Type 0} {P : A → Type 0} {Q : B → Type 0} (f : A → B) {xs : List A} → ((x : A) → P x → Q (f x)) → Every P xs → Every Q (map f xs)
every_map f h done = done
every_map f h (more {x = x} p r) = more (h x p) (every_map f h r)

pub every-each : {A B : Type 0} {P : A → Type 0} {Q : B → Type 0} (f : A → List B) {xs : List A} → ((x : A) → P x → Every Q (f x)) → Every P xs → Every Q (each f xs)
unfolding each
every-each f h done = done
every-each f h (more {x = x} p r) = every_append (h x p) (every-each f h r)

pub every-when : {A : Type 0} {P : A → Type 0} (c : Bool) (x : A) → P x → Every P (when c x)
unfolding when
every-when true x p = more p done
every-when false x p = done

pub every-keep : {A : Type 0} {P : A → Type 0} (f : A → Bool) {xs : List A} → Every P xs → Every P (keep f xs)
every-keep {P = P} f {xs} r = subst (Every P) (sym (keep-each f xs)) (every-each (λ x. when (f x) x) (λ x p. every-when (f x) x p) r)

pub every-once : {A : Type 0} {P : A → Type 0} (eq : A → A → Bool) {xs : List A} → Every P xs → Every P (once eq xs)
unfolding once
every-once eq done = done
every-once eq (more {x = x} p r) = more p (every-keep (λ y. not (eq x y)) (every-once eq r))

pub every-all : {A : Type 0} {P : A → Type 0} → ((x : A) → P x) → (xs : List A) → Every P xs
every-all h [] = done
every-all h (x ∷ xs) = more (h x) (every-all h xs)

pub every-cond : {A : Type 0} {P : A → Type 0} (c : Bool) {xs ys : List A} → Every P xs → Every P ys → Every P (cond c xs ys)
every-cond true p q = p
every-cond false p q = q

every_first : {A : Type 0} {P : A → Type 0} {x : A} {xs : List A} → Every P (x ∷ xs) → P x
every_first (more p r) = p

every_rest : {A : Type 0} {P : A → Type 0} {x : A} {xs : List A} → Every P (x ∷ xs) → Every P xs
every_rest (more p r) = r

pub every_two : {A : Type 0} {P Q R : A → Type 0} {xs : List A} → ((x : A) → P x → Q x → R x) → Every P xs → Every Q xs → Every R xs
every_two h done k = done
every_two h (more {x = x} p o) k = more (h x p (every_first k)) (every_two h o (every_rest k))

-- ---- the same at every element

pub map-every : {A B : Type 0} {P : A → Type 0} (f h : A → B) {xs : List A} → Every P xs → ((x : A) → P x → f x ≡ h x) → map f xs ≡ map h xs
map-every f h done e = refl
map-every f h (more {x = x} p r) e = ap₂ ◌∷◌ (e x p) (map-every f h r e)

pub each-every : {A B : Type 0} {P : A → Type 0} (f h : A → List B) {xs : List A} → Every P xs → ((x : A) → P x → f x ≡ h x) → each f xs ≡ each h xs
unfolding each
each-every f h done e = refl
each-every f h (more {x = x} p r) e = ap₂ ◌++◌ (e x p) (each-every f h r e)

pub any-every : {A : Type 0} {P : A → Type 0} (f h : A → Bool) {xs : List A} → Every P xs → ((x : A) → P x → f x ≡ h x) → any f xs ≡ any h xs
unfolding any
any-every f h done e = refl
any-every f h (more {x = x} p r) e = ap₂ ◌||◌ (e x p) (any-every f h r e)

pub keep-every : {A : Type 0} {P : A → Type 0} (f h : A → Bool) {xs : List A} → Every P xs → ((x : A) → P x → f x ≡ h x) → keep f xs ≡ keep h xs
keep-every f h {xs} r e = keep-each f xs ∙ each-every (λ x. when (f x) x) (λ x. when (h x) x) r (λ x p. ap (λ c. when c x) (e x p)) ∙ sym (keep-each h xs)

pub once-every : {A : Type 0} {P : A → Type 0} (f h : A → A → Bool) {xs : List A} → Every P xs → ((x y : A) → P x → P y → f x y ≡ h x y) → once f xs ≡ once h xs
unfolding once
once-every f h done e = refl
once-every f h (more {x = x} {xs = xs} p r) e = ap (λ l. x ∷ l) (ap (keep (λ y. not (f x y))) (once-every f h r e) ∙ keep-every (λ y. not (f x y)) (λ y. not (h x y)) (every-once h r) (λ y q. ap not (e x y p q)))
