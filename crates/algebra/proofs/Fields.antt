-- What a reader of fields or of a line's end has read: the field that stood there, and what is counted then. Assumes nothing.
use mathlib.Core.Path.{◌≡◌, refl, sym, ◌∙◌, ap, subst}
use mathlib.Core.Bool.{Bool, true, false, cond}
use mathlib.Core.List.{List, [], ◌∷◌}
use mathlib.Core.Option.{Option, none, some}
use Prim.Native.Nat.{ℕ, zero, suc, ◌+◌, ◌-◌, ◌≤◌}
use native.Mathlib.Omega.{arith}
use lib.ListN.{length}
use Rattle.text.specs.Text.{Bytes, Line, same}
use Rattle.text.specs.Word.{bytes, spelled}
use Rattle.text.specs.Field.{most, decimal, Kind, fits, all_fit}
use Rattle.text.proofs.Basics.{same-eq, spelled-eq, and_both}
use Rattle.text.proofs.Numbers.{number-sound}
use Rattle.algebra.specs.Word.{Arity, exactly, counted}
use Rattle.algebra.specs.Layout.{put_arity}
use Rattle.algebra.specs.Valid.{Fits, AllFit, Takes}
use Rattle.algebra.specs.Tally.{Limits, Tally, within}
use Rattle.algebra.specs.Reader.{Refusal, malformed, over_bound, Got, got, refused, Reader, next, or_refuse, one, end, too_many, close_at, kept, field, number, keyword, zero_one, rest, times}
use Rattle.algebra.specs.Reading.{taken}
use Rattle.algebra.proofs.Grow.{In}

pub never : {A C : Type 0} (n : Refusal) (t : List Line) (m : Tally) (a : A) → refused n ≡ got a t m → C
never n t m a e = let z : ◌≡◌ {A = ℕ} 0 1 = cc in absurd (omega arith)

Family : {A : Type 0} → (A → List Line → Tally → Type 0) → Got A → Type 0
Family Q (got a t m) = Q a t m
Family Q (refused n) = Unit {0}

pub done : {A : Type 0} (Q : A → List Line → Tally → Type 0) {a b : A} {u t : List Line} {m n : Tally} → got a u m ≡ got b t n → Q a u m → Q b t n
unfolding Family
done Q e x = subst (Family Q) e x

pub kept-sound : {A : Type 0} (b : Bool) (a c : A) → kept b a ≡ some c → (b ≡ true) × (a ≡ c)
unfolding kept
kept-sound true a c e = (refl, cc)
kept-sound false a c e = let z : ◌≡◌ {A = ℕ} 0 1 = cc in absurd (omega arith)

-- a field more in the first line
abbrev pub push : Bytes → List Line → List Line
push f [] = []
push f (fs ∷ ls) = (f ∷ fs) ∷ ls

abbrev pub pushes : List Bytes → List Line → List Line
pushes [] t = t
pushes (f ∷ fs) t = push f (pushes fs t)

pub pushes-line : (fs : List Bytes) (t : List Line) → pushes fs ([] ∷ t) ≡ fs ∷ t
pushes-line [] t = refl
pushes-line (f ∷ fs) t = ap (push f) (pushes-line fs t)

module _ (β : Limits) where
  -- what the reader counts, F, is within the bounds, and W holds of what it took and of the lines before and after
  abbrev pub Exact : {A : Type 0} → Reader A → (A → Tally → Tally) → (A → List Line → List Line → Type 0) → Type 0
  Exact {A = A} r F W = (s u : List Line) (m l : Tally) (a : A) → In β m → r s m ≡ got a u l → (l ≡ F a m) × In β (F a m) × W a s u

  -- a reader that counts nothing
  abbrev pub Still : {A : Type 0} → Reader A → (A → List Line → List Line → Type 0) → Type 0
  Still r W = Exact r (λ a m. m) W

  -- the first reader took its part, and the second went on from there
  pub inv_at : {A B C : Type 0} {W : A → List Line → Type 0} {t : List Line} {n : Tally} {b : B} (r : Reader A) (F : A → Tally) (k : A → Reader B) (s : List Line) (m : Tally) → ((u : List Line) (l : Tally) (a : A) → r s m ≡ got a u l → (l ≡ F a) × In β (F a) × W a u) → next (r s m) k ≡ got b t n → ((a : A) (u : List Line) → W a u → In β (F a) → k a u (F a) ≡ got b t n → C) → C
  inv_at {A = A} {C = C} {t = t} {n = n} {b = b} r F k s m w h f = go (r s m) refl h
    where
      go : (g : Got A) → r s m ≡ g → next g k ≡ got b t n → C
      go (got a u l) e q = let x = w u l a e in f a u x.2 x.1 (subst (λ l. k a u l ≡ got b t n) x.0 q)
      go (refused c) e q = never c t n b q

  pub inv : {A B C : Type 0} {F : A → Tally → Tally} {W : A → List Line → List Line → Type 0} {r : Reader A} {t : List Line} {n : Tally} {b : B} (k : A → Reader B) (s : List Line) (m : Tally) → Exact r F W → In β m → next (r s m) k ≡ got b t n → ((a : A) (u : List Line) → W a s u → In β (F a m) → k a u (F a m) ≡ got b t n → C) → C
  inv {F = F} {r = r} k s m w o h f = inv_at r (λ a. F a m) k s m (λ u l a e. w s u m l a o e) h f

  -- ---- fields

  pub one-sound : {A : Type 0} (g : Bytes → Option A) → Still (one g) (λ a s u. (f : Bytes) × (s ≡ push f u) × (g f ≡ some a))
  unfolding one
  one-sound g [] t m l a o e = never malformed t l a e
  one-sound g ([] ∷ ls) t m l a o e = never malformed t l a e
  one-sound g ((f ∷ fs) ∷ ls) t m l a o e = go (g f) refl e
    where
      go : (x : Option _) → g f ≡ x → or_refuse x (fs ∷ ls) m ≡ got a t l → (l ≡ m) × In β m × ((x : Bytes) × (((f ∷ fs) ∷ ls) ≡ push x t) × (g x ≡ some a))
      go none q r = never malformed t l a r
      go (some b) q r = done (λ c u n. (n ≡ m) × In β m × ((x : Bytes) × (((f ∷ fs) ∷ ls) ≡ push x u) × (g x ≡ some c))) r (refl, o, (f, refl, q))

  -- what one test makes of a field is what another needs
  pub one-by : {A : Type 0} (g : Bytes → Option A) (W : A → List Line → List Line → Type 0) → ((f : Bytes) (a : A) (s u : List Line) → g f ≡ some a → s ≡ push f u → W a s u) → Still (one g) W
  one-by g W w s u m l a o e = let x = one-sound g s u m l a o e in (x.0, x.1, w x.2.0 a s u x.2.2 x.2.1)

  pub field-sound : (k : Kind) → Still (field k) (λ f s u. (s ≡ push f u) × Fits k f)
  field-sound k = one-by _ _ λ f a s u e p. let y = kept-sound (fits k f) f a e in (p ∙ ap (λ g. push g u) y.1, subst (λ g. fits k g ≡ true) y.1 y.0)

  pub keyword-sound : (w : Bytes) → Still (keyword w) (λ x s u. s ≡ push w u)
  keyword-sound w = one-by _ _ λ f a s u e p. p ∙ ap (λ g. push g u) (same-eq f w (kept-sound (same f w) tt a e).0)

  pub number_read : Still number (λ n s u. (s ≡ push (decimal n) u) × (n ≤ most))
  number_read = one-by _ _ λ f a s u e p. let y = number-sound f a e in (p ∙ ap (λ g. push g u) y.0, y.1)

  pub word_sound : {A : Type 0} (sp : A → Bytes) (ws : List A) → Still (one (spelled sp ws)) (λ a s u. s ≡ push (sp a) u)
  word_sound sp ws = one-by _ _ λ f a s u e p. p ∙ ap (λ g. push g u) (spelled-eq sp ws f a e)

  pub zero_one-sound : Still (one zero_one) (λ b s u. s ≡ push (cond b (bytes "1") (bytes "0")) u)
  zero_one-sound = one-by _ _ λ f b s u e p. p ∙ ap (λ g. push g u) (go f b (same f (bytes "0")) (same f (bytes "1")) refl refl e)
    where
      go : (f : Bytes) (b a c : Bool) → same f (bytes "0") ≡ a → same f (bytes "1") ≡ c → cond a (some false) (cond c (some true) none) ≡ some b → f ≡ cond b (bytes "1") (bytes "0")
      go f b true c p q r = let i : false ≡ b = cc in same-eq f (bytes "0") p ∙ ap (λ (b : Bool). cond b (bytes "1") (bytes "0")) i
      go f b false true p q r = let i : true ≡ b = cc in same-eq f (bytes "1") q ∙ ap (λ (b : Bool). cond b (bytes "1") (bytes "0")) i
      go f b false false p q r = let z : ◌≡◌ {A = ℕ} 0 1 = cc in absurd (omega arith)

  pub taken-sound : (a : Arity) → Still (taken a) (λ k s u. (s ≡ pushes (put_arity a k) u) × Takes a k)
  unfolding put_arity Takes
  taken-sound (exactly n) s t m l k o e = done (λ k t l. (l ≡ m) × In β m × ((s ≡ t) × (k ≡ n))) e (refl, o, (refl, refl))
  taken-sound (counted n) s t m l k o e =
      inv _ _ _ number_read o e λ j u x o q.
      let i : j + n - n ≡ j = omega arith in
      done (λ k t l. (l ≡ m) × In β m × ((s ≡ push (decimal (k - n)) t) × ((n ≤ k) × (k - n ≤ most)))) q
      (refl, o, (rw i x.0, (omega arith, omega arith)))

  pub rest-sound : (k : Kind) → Still (rest k) (λ fs s u. (s ≡ pushes fs u) × AllFit k fs)
  unfolding rest kept
  rest-sound k [] t m l fs o e = never malformed t l fs e
  rest-sound k (gs ∷ ls) t m l fs o e = go (all_fit k gs) refl e
    where
      go : (b : Bool) → all_fit k gs ≡ b → or_refuse (kept b gs) ([] ∷ ls) m ≡ got fs t l → (l ≡ m) × In β m × (((gs ∷ ls) ≡ pushes fs t) × AllFit k fs)
      go true q r = done (λ c u n. (n ≡ m) × In β m × (((gs ∷ ls) ≡ pushes c u) × AllFit k c)) r (refl, o, (sym (pushes-line gs ls), q))
      go false q r = never malformed t l fs r

  pub fields-sound : (k : Kind) (n : ℕ) → Still (times n (field k)) (λ fs s u. (s ≡ pushes fs u) × AllFit k fs × (length fs ≡ n))
  unfolding times all_fit
  fields-sound k zero s t m l fs o e = done (λ c u l. (l ≡ m) × In β m × ((s ≡ pushes c u) × AllFit k c × (length c ≡ 0))) e (refl, o, (refl, refl, refl))
  fields-sound k (suc n) s t m l fs o e =
      inv _ _ _ (field-sound k) o e λ f u x o h.
      inv _ _ _ (fields-sound k n) o h λ gs v y o q.
      done (λ c u l. (l ≡ m) × In β m × ((s ≡ pushes c u) × AllFit k c × (length c ≡ suc n))) q
      (refl, o, (rw (x.0, y.0), and_both (fits k f) (all_fit k gs) x.1 y.1, ap suc y.2))

  -- ---- the end of a line

  pub end-sound : (c : Tally → Tally) → Exact (end β c) (λ x m. c m) (λ x s u. s ≡ [] ∷ u)
  unfolding end
  end-sound c [] t m l u o e = never malformed t l u e
  end-sound c ([] ∷ ls) t m l u o e = go (within β (c m)) refl e
    where
      go : (b : Bool) → within β (c m) ≡ b → cond b (got tt ls (c m)) (refused over_bound) ≡ got u t l → (l ≡ c m) × In β (c m) × (([] ∷ ls) ≡ [] ∷ t)
      go true q r = done (λ x t l. (l ≡ c m) × In β (c m) × (([] ∷ ls) ≡ [] ∷ t)) r (refl, q, refl)
      go false q r = never over_bound t l u r
  end-sound c ((f ∷ fs) ∷ ls) t m l u o e = never malformed t l u e

  -- where a line may be ended, a level or an entry was left
  pub close-sound : (n : ℕ) (c : Tally → Tally) → Exact (close_at β n c) (λ x m. c m) (λ x s u. (s ≡ [] ∷ u) × (1 ≤ n))
  unfolding too_many
  close-sound zero c [] t m l u o e = never malformed t l u e
  close-sound zero c ([] ∷ ls) t m l u o e = never over_bound t l u e
  close-sound zero c ((f ∷ fs) ∷ ls) t m l u o e = never malformed t l u e
  close-sound (suc n) c s t m l u o e = let x = end-sound c s t m l u o e in (x.0, x.1, (x.2, omega arith))
