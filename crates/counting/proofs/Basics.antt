-- Laws of lists that are kept by a test, or each element once. Assumes nothing.
use mathlib.Core.Path.{◌≡◌, refl, sym, ◌∙◌, ap}
use mathlib.Core.Bool.{Bool, true, false, cond, not}
use mathlib.Core.List.{List, [], ◌∷◌, ◌++◌, map}
use Rattle.scoping.specs.Sets.{keep, each}
use Rattle.scoping.proofs.Basics.{each-cong, each_map, map_each}
use Rattle.counting.specs.Bag.{when, once}

pub map-when : {A B : Type 0} (h : A → B) (c : Bool) (x : A) → map h (when c x) ≡ when c (h x)
unfolding when
map-when h true x = refl
map-when h false x = refl

cond-when : {A : Type 0} (c : Bool) (x : A) (xs : List A) → cond c (x ∷ xs) xs ≡ when c x ++ xs
unfolding when
cond-when true x xs = refl
cond-when false x xs = refl

pub keep-each : {A : Type 0} (f : A → Bool) (xs : List A) → keep f xs ≡ each (λ x. when (f x) x) xs
unfolding keep each
keep-each f [] = refl
keep-each f (x ∷ xs) = cond-when (f x) x (keep f xs) ∙ ap (λ l. when (f x) x ++ l) (keep-each f xs)

pub keep-map : {A B : Type 0} (f : B → Bool) (g : A → Bool) (h : A → B) (xs : List A) → ((x : A) → f (h x) ≡ g x) → keep f (map h xs) ≡ map h (keep g xs)
keep-map f g h xs e =
    keep-each f (map h xs)
    ∙ (each_map _ h xs ∙ (each-cong _ _ xs (λ x. ap (λ c. when c (h x)) (e x) ∙ sym (map-when h (g x) x)) ∙ sym (map_each h _ xs)))
    ∙ ap (map h) (sym (keep-each g xs))

pub once-map : {A B : Type 0} (f : B → B → Bool) (g : A → A → Bool) (h : A → B) (xs : List A) → ((x y : A) → f (h x) (h y) ≡ g x y) → once f (map h xs) ≡ map h (once g xs)
unfolding once
once-map f g h [] e = refl
once-map f g h (x ∷ xs) e = ap (λ l. h x ∷ l) (ap (keep (λ y. not (f (h x) y))) (once-map f g h xs e) ∙ keep-map (λ y. not (f (h x) y)) (λ y. not (g x y)) h (once g xs) (λ y. ap not (e x y)))
