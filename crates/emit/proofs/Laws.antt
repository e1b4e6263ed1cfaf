-- Laws of putting bytes. Assumes nothing.
use mathlib.Core.Path.{◌≡◌, refl, sym, ap, ◌∙◌}
use mathlib.Core.List.{List, [], ◌∷◌, ◌++◌}
use Prim.Native.Nat.{ℕ, suc, ◌+◌, ◌≤◌, ◌<◌, min}
use native.Mathlib.Numerals.{add-one}
use native.Mathlib.Omega.{arith}
use native.Mathlib.Decide.{dec_lt}
use lib.ListN.{length, drop, get_or, set, length-set, drop_of_length-le}
use lib.Seq.{drop-cons, sets, set_out}
use Rattle.emit.specs.bridge.Emit.{Em, em, last, put1, puts}

pub puts-append : (a b : List ℕ) (e : Em) → puts (a ++ b) e ≡ puts b (puts a e)
unfolding puts
puts-append [] b e = refl
puts-append (x ∷ a) b e = puts-append a b (put1 x e)

pub puts-cons : (x : ℕ) (a : List ℕ) (e : Em) → puts (x ∷ a) e ≡ puts a (put1 x e)
unfolding puts
puts-cons x a e = refl

pub puts_one : (x : ℕ) (e : Em) → puts (x ∷ []) e ≡ put1 x e
unfolding puts
puts_one x e = refl

pub puts-nil : (e : Em) → puts [] e ≡ e
unfolding puts
puts-nil e = refl

-- a turn of a loop that puts a list's bytes one by one: what is left after it does what was left before it
pub puts-next : (p : List ℕ) (i : ℕ) (e e' : Em) → i < length p → e' ≡ puts (get_or p i 0 ∷ []) e → puts (drop (i + 1) p) e' ≡ puts (drop i p) e
puts-next p i e e' h q =
    rw (q, puts_one, add-one) (sym (ap (λ (l : List ℕ). puts l e) (drop-cons p i 0 h) ∙ puts-cons (get_or p i 0) (drop (suc i) p) e))

-- nothing is left
pub puts-done : (p : List ℕ) (i : ℕ) (e : Em) → length p ≤ i → puts (drop i p) e ≡ e
puts-done p i e h = ap (λ (l : List ℕ). puts l e) (drop_of_length-le p h) ∙ puts-nil e

-- the three ways of the code that puts one byte
pub put_in : (a b : ℕ) (o : List ℕ) → a < last → em (a + 1) (set o a b) ≡ puts (b ∷ []) (em a o)
unfolding puts put1
put_in a b o h = ap (λ (n : ℕ). em n (set o a b)) (omega arith)

pub put-past : (a b : ℕ) (o : List ℕ) → a < last → length o ≤ a → em (a + 1) o ≡ puts (b ∷ []) (em a o)
unfolding puts put1
put-past a b o h k = ap (λ (l : List ℕ). em (a + 1) l) (sym (set_out o a b k)) ∙ put_in a b o h

pub put_last : (a b : ℕ) (o : List ℕ) → a ≡ last → length o ≤ a → em a o ≡ puts (b ∷ []) (em a o)
unfolding puts put1
put_last a b o h k = ap (λ (l : List ℕ). em a l) (sym (set_out o a b k)) ∙ ap (λ (n : ℕ). em n (set o a b)) (omega arith)

-- what `puts` does, in closed form: the place is the sum, cut at the last number, and the bytes stand over the buffer
pub puts-at : (p : List ℕ) (e : Em) → e.at ≤ last → (puts p e).at ≡ min (e.at + length p) last
unfolding puts put1
puts-at [] e h = omega arith
puts-at (x ∷ p) e h = puts-at p (put1 x e) (omega arith) ∙ omega arith

sets-out : (p o : List ℕ) (a : ℕ) → length o ≤ a → sets o a p ≡ o
sets-out [] o a h = refl
sets-out (x ∷ p) o a h = ap (λ (l : List ℕ). sets l (suc a) p) (set_out o a x h) ∙ sets-out p o (suc a) (omega arith)

move : (p o : List ℕ) (a : ℕ) → length o ≤ last → Dec (a < last) → sets o (min (a + 1) last) p ≡ sets o (suc a) p
move p o a h (yes k) = ap (λ (n : ℕ). sets o n p) (omega arith)
move p o a h (no k) = sets-out p o (min (a + 1) last) (omega arith) ∙ sym (sets-out p o (suc a) (omega arith))

pub puts-out : (p : List ℕ) (e : Em) → length e.out ≤ last → (puts p e).out ≡ sets e.out e.at p
unfolding puts put1
puts-out [] e h = refl
puts-out (x ∷ p) e h =
    puts-out p (put1 x e) (simp length-set h) ∙ move p (set e.out e.at x) e.at (simp length-set h) (dec_lt e.at last)

-- the closed form, as an equation of states
puts-closed : (p : List ℕ) (a : ℕ) (o : List ℕ) → a ≤ last → length o ≤ last → em (min (a + length p) last) (sets o a p) ≡ puts p (em a o)
puts-closed p a o h k = λ i. em (sym (puts-at p (em a o) h) i) (sym (puts-out p (em a o) k) i)

pub puts-past : (p : List ℕ) (a n : ℕ) (o : List ℕ) → a ≤ last → length o ≤ a → n ≡ min (a + length p) last → em n o ≡ puts p (em a o)
puts-past p a n o h k e = ap (λ (m : ℕ). em m o) e ∙ ap (λ (l : List ℕ). em (min (a + length p) last) l) (sym (sets-out p o a k)) ∙ puts-closed p a o h (omega arith)

pub puts-in : (p : List ℕ) (a : ℕ) (o o' : List ℕ) → a + length p ≤ length o → length o < last → o' ≡ sets o a p → em (a + length p) o' ≡ puts p (em a o)
puts-in p a o o' h k e = ap (λ (l : List ℕ). em (a + length p) l) e ∙ ap (λ (m : ℕ). em m (sets o a p)) (omega arith) ∙ puts-closed p a o (omega arith) (omega arith)

-- a turn of a loop that stores a list's bytes one by one, and its end
pub sets-next : (p : List ℕ) (a i : ℕ) (o : List ℕ) → i < length p → sets (set o (a + i) (get_or p i 0)) (a + (i + 1)) (drop (i + 1) p) ≡ sets o (a + i) (drop i p)
sets-next p a i o h =
    ap (λ (m : ℕ). sets (set o (a + i) (get_or p i 0)) m (drop (i + 1) p)) (let q : a + (i + 1) ≡ suc (a + i) = omega arith in q)
    ∙ ap (λ (m : ℕ). sets o (a + i) (get_or p i 0 ∷ drop m p)) (add-one i)
    ∙ ap (λ (l : List ℕ). sets o (a + i) l) (sym (drop-cons p i 0 h))

pub sets-done : (p : List ℕ) (a i : ℕ) (o : List ℕ) → length p ≤ i → sets o (a + i) (drop i p) ≡ o
sets-done p a i o h = ap (λ (l : List ℕ). sets o (a + i) l) (drop_of_length-le p h)
