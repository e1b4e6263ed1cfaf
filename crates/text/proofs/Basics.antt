-- Laws of tests and of words: a word that is read is the field that was written. Assumes nothing.
use mathlib.Core.Path.{◌≡◌, refl, sym, ◌∙◌, ap, ap₂, subst}
use mathlib.Core.Logic.{◌⊎◌, inl, inr}
use mathlib.Core.Bool.{Bool, true, false, cond, not, ◌&&◌, ◌||◌, false≢true, true≢false}
use mathlib.Core.List.{List, [], ◌∷◌, ◌++◌}
use mathlib.Core.Option.{Option, none, some}
use Prim.Native.Nat.{ℕ, zero, suc, ◌+◌, ◌-◌, ◌≤◌, ◌<◌}
use native.Mathlib.Omega.{arith}
use lib.Dec.{T, eqb, eqb→eq, eqb_refl}
use Rattle.text.specs.Text.{Bytes, same}
use Rattle.text.specs.Word.{spelled}

pub T→so : (b : Bool) → T b → b ≡ true
T→so true t = refl
T→so false t = absurd t

pub so→T : (b : Bool) → b ≡ true → T b
so→T true t = tt
so→T false t = false≢true t

pub and_left : (a b : Bool) → (a && b) ≡ true → a ≡ true
and_left true b e = refl
and_left false b e = e

pub and_right : (a b : Bool) → (a && b) ≡ true → b ≡ true
and_right true b e = e
and_right false b e = absurd (false≢true e)

pub same-eq : (a b : Bytes) → same a b ≡ true → a ≡ b
unfolding same
same-eq [] [] e = refl
same-eq [] (y ∷ ys) e = absurd (false≢true e)
same-eq (x ∷ xs) [] e = absurd (false≢true e)
same-eq (x ∷ xs) (y ∷ ys) e = ap₂ ◌∷◌ (eqb→eq x y (so→T (eqb x y) (and_left (eqb x y) (same xs ys) e))) (same-eq xs ys (and_right (eqb x y) (same xs ys) e))

pub same_refl : (a : Bytes) → same a a ≡ true
unfolding same
same_refl [] = refl
same_refl (x ∷ xs) = rw (T→so (eqb x x) (eqb_refl x), same_refl xs)

-- the word that was read is the field
pub spelled-eq : {A : Type 0} (sp : A → Bytes) (ws : List A) (f : Bytes) (a : A) → spelled sp ws f ≡ some a → f ≡ sp a
unfolding spelled
spelled-eq sp [] f a e = let z : ◌≡◌ {A = ℕ} 0 1 = cc in absurd (omega arith)
spelled-eq sp (w ∷ ws) f a e = go (same f (sp w)) refl (spelled-eq sp ws f a)
  where
    go : (b : Bool) → same f (sp w) ≡ b → (spelled sp ws f ≡ some a → f ≡ sp a) → f ≡ sp a
    go true q more = same-eq f (sp w) q ∙ (let h : some w ≡ some a = rw q at e in let i : w ≡ a = cc in ap sp i)
    go false q more = more (rw q at e)

-- d levels are enough for one more than n
pub deeper : (n d : ℕ) → suc n ≤ d → (P : ℕ → Type 0) → ((k : ℕ) → n ≤ k → P (suc k)) → P d
deeper n zero h P f = absurd (omega arith)
deeper n (suc d) h P f = f d (omega arith)

pub and_both : (a b : Bool) → a ≡ true → b ≡ true → (a && b) ≡ true
and_both a b p q = ap₂ ◌&&◌ p q

-- a test that decides nothing
pub either_way : {A : Type 0} (b : Bool) (x : A) → cond b x x ≡ x
either_way true x = refl
either_way false x = refl
