-- Laws of Booleans, byte strings, names in lists, and lists of lists. Assumes nothing.
use mathlib.Core.Path.{◌≡◌, refl, sym, ◌∙◌, ap, ap₂, subst, fun_ext}
use mathlib.Core.Logic.{◌⊎◌, inl, inr}
use mathlib.Core.Bool.{Bool, true, false, ◌&&◌, ◌||◌, false≢true, true≢false}
use mathlib.Core.List.{List, [], ◌∷◌, ◌++◌, map}
use Rattle.text.specs.Text.{Bytes, same}
use Rattle.text.specs.Field.{is_var}
use Rattle.text.proofs.Basics.{and_left, and_right, and_both, same_refl, same-eq}
use Rattle.algebra.specs.Valid.{mem}
use Rattle.scoping.specs.Sets.{all, any, keep, each, variables_of}
use Rattle.scoping.proofs.Sets.{mem-keep}
use Rattle.scoping.specs.bridge.Sets.{Sub}

-- ---- Booleans

pub split : (b : Bool) → (b ≡ true) ⊎ (b ≡ false)
split true = inl refl
split false = inr refl

pub clash {ℓ} : {A : Type ℓ} {b : Bool} → b ≡ true → b ≡ false → A
clash p q = absurd (true≢false (sym p ∙ q))

pub not-true : (b : Bool) → (b ≡ true → ⊥) → b ≡ false
not-true true h = absurd (h refl)
not-true false h = refl

pub both_ways : (a b : Bool) → (a ≡ true → b ≡ true) → (b ≡ true → a ≡ true) → a ≡ b
both_ways true b f g = sym (f refl)
both_ways false true f g = g refl
both_ways false false f g = refl

pub or_cases : (a b : Bool) → (a || b) ≡ true → (a ≡ true) ⊎ (b ≡ true)
or_cases true b e = inl refl
or_cases false b e = inr e

pub or_inl : (a b : Bool) → a ≡ true → (a || b) ≡ true
or_inl a b p = ap (λ x. x || b) p

pub or_inr : (a b : Bool) → b ≡ true → (a || b) ≡ true
or_inr true b p = refl
or_inr false b p = p

pub either {ℓ} : {A B : Type 0} {C : Type ℓ} → (A → C) → (B → C) → A ⊎ B → C
either f g (inl a) = f a
either f g (inr b) = g b

-- ---- membership

pub mem-nil {ℓ} : {A : Type ℓ} (v : Bytes) → mem v [] ≡ true → A
unfolding mem
mem-nil v h = absurd (false≢true h)

pub mem-here : (v : Bytes) (xs : List Bytes) → mem v (v ∷ xs) ≡ true
unfolding mem
mem-here v xs = or_inl (same v v) (mem v xs) (same_refl v)

pub mem-there : (v x : Bytes) (xs : List Bytes) → mem v xs ≡ true → mem v (x ∷ xs) ≡ true
unfolding mem
mem-there v x xs h = or_inr (same v x) (mem v xs) h

pub mem-eq : (v x : Bytes) (xs : List Bytes) → v ≡ x → mem v (x ∷ xs) ≡ true
mem-eq v x xs e = subst (λ u. mem v (u ∷ xs) ≡ true) e (mem-here v xs)

pub mem-cases : (v x : Bytes) (xs : List Bytes) → mem v (x ∷ xs) ≡ true → (v ≡ x) ⊎ (mem v xs ≡ true)
unfolding mem
mem-cases v x xs h = either (λ e. inl (same-eq v x e)) (λ e. inr e) (or_cases (same v x) (mem v xs) h)

pub mem-left : (v : Bytes) (xs ys : List Bytes) → mem v xs ≡ true → mem v (xs ++ ys) ≡ true
mem-left v [] ys h = mem-nil v h
mem-left v (x ∷ xs) ys h = either (mem-eq v x (xs ++ ys)) (λ e. mem-there v x (xs ++ ys) (mem-left v xs ys e)) (mem-cases v x xs h)

pub mem-right : (v : Bytes) (xs ys : List Bytes) → mem v ys ≡ true → mem v (xs ++ ys) ≡ true
mem-right v [] ys h = h
mem-right v (x ∷ xs) ys h = mem-there v x (xs ++ ys) (mem-right v xs ys h)

pub mem-append-cases : (v : Bytes) (xs ys : List Bytes) → mem v (xs ++ ys) ≡ true → (mem v xs ≡ true) ⊎ (mem v ys ≡ true)
mem-append-cases v [] ys h = inr h
mem-append-cases v (x ∷ xs) ys h = either (λ e. inl (mem-eq v x xs e)) (λ e. either (λ k. inl (mem-there v x xs k)) (λ k. inr k) (mem-append-cases v xs ys e)) (mem-cases v x (xs ++ ys) h)

pub sub-left : (xs ys U : List Bytes) → Sub (xs ++ ys) U → Sub xs U
sub-left xs ys U h v m = h v (mem-left v xs ys m)

pub sub-right : (xs ys U : List Bytes) → Sub (xs ++ ys) U → Sub ys U
sub-right xs ys U h v m = h v (mem-right v xs ys m)

pub sub-append : (xs ys U : List Bytes) → Sub xs U → Sub ys U → Sub (xs ++ ys) U
sub-append xs ys U h k v m = either (h v) (k v) (mem-append-cases v xs ys m)

pub sub-rest : (x : Bytes) (xs U : List Bytes) → Sub (x ∷ xs) U → Sub xs U
sub-rest x xs U h v m = h v (mem-there v x xs m)

pub mem-map : (f : Bytes → Bytes) (v : Bytes) (xs : List Bytes) → mem v xs ≡ true → mem (f v) (map f xs) ≡ true
mem-map f v [] h = mem-nil v h
mem-map f v (x ∷ xs) h = either (λ e. mem-eq (f v) (f x) (map f xs) (ap f e)) (λ e. mem-there (f v) (f x) (map f xs) (mem-map f v xs e)) (mem-cases v x xs h)

pub mem-unmap : (f : Bytes → Bytes) (w : Bytes) (xs : List Bytes) → mem w (map f xs) ≡ true → (v : Bytes) × (mem v xs ≡ true) × (w ≡ f v)
mem-unmap f w [] h = mem-nil w h
mem-unmap f w (x ∷ xs) h = either (λ e. (x, mem-here x xs, e)) (λ e. let t = mem-unmap f w xs e in (t.0, mem-there t.0 x xs t.1, t.2)) (mem-cases w (f x) (map f xs) h)

-- ---- variables among fields

pub mem-variables : (v : Bytes) (fs : List Bytes) → is_var v ≡ true → mem v fs ≡ true → mem v (variables_of fs) ≡ true
unfolding variables_of
mem-variables v fs h m = mem-keep is_var v fs ∙ and_both (is_var v) (mem v fs) h m

pub variables-mem : (v : Bytes) (fs : List Bytes) → mem v (variables_of fs) ≡ true → (is_var v ≡ true) × (mem v fs ≡ true)
unfolding variables_of
variables-mem v fs m = let h = sym (mem-keep is_var v fs) ∙ m in (and_left (is_var v) (mem v fs) h, and_right (is_var v) (mem v fs) h)

-- ---- tests over lists

pub all-cong : (f g : Bytes → Bool) (xs : List Bytes) → ((v : Bytes) → mem v xs ≡ true → f v ≡ g v) → all f xs ≡ all g xs
unfolding all
all-cong f g [] h = refl
all-cong f g (x ∷ xs) h = ap₂ ◌&&◌ (h x (mem-here x xs)) (all-cong f g xs (λ v m. h v (mem-there v x xs m)))

pub any-cong : (f g : Bytes → Bool) (xs : List Bytes) → ((v : Bytes) → mem v xs ≡ true → f v ≡ g v) → any f xs ≡ any g xs
unfolding any
any-cong f g [] h = refl
any-cong f g (x ∷ xs) h = ap₂ ◌||◌ (h x (mem-here x xs)) (any-cong f g xs (λ v m. h v (mem-there v x xs m)))

pub all_map : {A B : Type 0} (f : B → Bool) (h : A → B) (xs : List A) → all f (map h xs) ≡ all (λ x. f (h x)) xs
unfolding all
all_map f h [] = refl
all_map f h (x ∷ xs) = ap (λ b. f (h x) && b) (all_map f h xs)

pub any-map : {A B : Type 0} (f : B → Bool) (h : A → B) (xs : List A) → any f (map h xs) ≡ any (λ x. f (h x)) xs
unfolding any
any-map f h [] = refl
any-map f h (x ∷ xs) = ap (λ b. f (h x) || b) (any-map f h xs)

pub all-at : (f : Bytes → Bool) (xs : List Bytes) → all f xs ≡ true → (v : Bytes) → mem v xs ≡ true → f v ≡ true
unfolding all
all-at f [] h v m = mem-nil v m
all-at f (x ∷ xs) h v m = either (λ e. ap f e ∙ and_left (f x) (all f xs) h) (λ e. all-at f xs (and_right (f x) (all f xs) h) v e) (mem-cases v x xs m)

pub all_of : (f : Bytes → Bool) (xs : List Bytes) → ((v : Bytes) → mem v xs ≡ true → f v ≡ true) → all f xs ≡ true
unfolding all
all_of f [] h = refl
all_of f (x ∷ xs) h = and_both (f x) (all f xs) (h x (mem-here x xs)) (all_of f xs (λ v m. h v (mem-there v x xs m)))

-- ---- lists of lists

pub map-append : {A B : Type 0} (h : A → B) (xs ys : List A) → map h (xs ++ ys) ≡ map h xs ++ map h ys
map-append h [] ys = refl
map-append h (x ∷ xs) ys = ap (λ l. h x ∷ l) (map-append h xs ys)

pub map-map : {A B C : Type 0} (g : B → C) (f : A → B) (xs : List A) → map g (map f xs) ≡ map (λ x. g (f x)) xs
map-map g f [] = refl
map-map g f (x ∷ xs) = ap (λ l. g (f x) ∷ l) (map-map g f xs)

pub map-cong : {A B : Type 0} (f g : A → B) (xs : List A) → ((x : A) → f x ≡ g x) → map f xs ≡ map g xs
map-cong f g xs h = ap (λ k. map k xs) (fun_ext h)

pub each-cong : {A B : Type 0} (f g : A → List B) (xs : List A) → ((x : A) → f x ≡ g x) → each f xs ≡ each g xs
each-cong f g xs h = ap (λ k. each k xs) (fun_ext h)

pub each_map : {A B C : Type 0} (f : B → List C) (h : A → B) (xs : List A) → each f (map h xs) ≡ each (λ x. f (h x)) xs
unfolding each
each_map f h [] = refl
each_map f h (x ∷ xs) = ap (λ l. f (h x) ++ l) (each_map f h xs)

pub map_each : {A B C : Type 0} (h : B → C) (f : A → List B) (xs : List A) → map h (each f xs) ≡ each (λ x. map h (f x)) xs
unfolding each
map_each h f [] = refl
map_each h f (x ∷ xs) = map-append h (f x) (each f xs) ∙ ap (λ l. map h (f x) ++ l) (map_each h f xs)

pub keep-sub : (f : Bytes → Bool) (xs : List Bytes) → Sub (keep f xs) xs
keep-sub f xs v m = and_right (f v) (mem v xs) (sym (mem-keep f v xs) ∙ m)
