-- Numbers as digits, and back: number_of and decimal are each other's inverse up to `most`. Assumes nothing.
use mathlib.Core.Path.{◌≡◌, refl, sym, ◌∙◌, ap, ap₂, subst}
use mathlib.Core.Bool.{Bool, true, false, cond, ◌&&◌}
use mathlib.Core.List.{List, [], ◌∷◌, ◌++◌, append-nil, append_assoc}
use mathlib.Core.Option.{Option, none, some}
use Prim.Native.Nat.{ℕ, zero, suc, ◌+◌, ◌-◌, ◌*◌, ◌/◌, ◌%◌, ◌≤◌, ◌<◌}
use native.Mathlib.Omega.{arith}
use lib.Dec.{leb, ltb, eqb}
use borrow.Author.Tests.{ltb-true, ltb-false, leb-true, lt-ltb, le-ltb, le-leb, eqb-false, ne_eqb}
use Rattle.text.specs.Text.{Bytes}
use Rattle.text.specs.Field.{most, digits_of, number_of, digits, decimal}
use Rattle.text.proofs.Basics.{and_left, and_right}

pub digits-small : (k n : ℕ) → n < 10 → digits (suc k) n ≡ (n + 48) ∷ []
unfolding digits
digits-small k n h = rw (lt-ltb n 10 h, digits)

pub digits-big : (k n : ℕ) → 10 ≤ n → digits (suc k) n ≡ digits k (n / 10) ++ ((n % 10 + 48) ∷ [])
unfolding digits
digits-big k n h = rw (le-ltb n 10 h, digits)

-- any number of digits that is enough
fuel : (k j n : ℕ) → n < k → n < j → digits k n ≡ digits j n
fuel zero j n a b = absurd (omega arith)
fuel (suc k) zero n a b = absurd (omega arith)
fuel (suc k) (suc j) n a b = go (ltb n 10) refl (λ h. fuel k j (n / 10) (omega arith) (omega arith))
  where
    go : (t : Bool) → ltb n 10 ≡ t → (10 ≤ n → digits k (n / 10) ≡ digits j (n / 10)) → digits (suc k) n ≡ digits (suc j) n
    go true e f = let h : n < 10 = ltb-true n 10 e in digits-small k n h ∙ sym (digits-small j n h)
    go false e f = let h : 10 ≤ n = ltb-false n 10 e in digits-big k n h ∙ (ap (λ l. l ++ ((n % 10 + 48) ∷ [])) (f h) ∙ sym (digits-big j n h))

-- one digit more
decimal-more : (m c : ℕ) → 1 ≤ m → c < 10 → decimal (m * 10 + c) ≡ decimal m ++ ((c + 48) ∷ [])
unfolding decimal
decimal-more m c h i =
    let a : (m * 10 + c) / 10 ≡ m = omega arith in
    let b : (m * 10 + c) % 10 ≡ c = omega arith in
    digits-big (m * 10 + c) (m * 10 + c) (omega arith)
    ∙ (ap₂ (λ x y. digits (m * 10 + c) x ++ ((y + 48) ∷ [])) a b
    ∙ ap (λ l. l ++ ((c + 48) ∷ [])) (fuel (m * 10 + c) (suc m) m (omega arith) (omega arith)))

-- ---- back

abbrev test : ℕ → ℕ → Bool
test m d = leb 48 d && (leb d 57 && leb (m * 10 + (d - 48)) most)

test-true : (m d : ℕ) → test m d ≡ true → (48 ≤ d) × (d ≤ 57) × (m * 10 + (d - 48) ≤ most)
test-true m d e =
    let r = and_right (leb 48 d) (leb d 57 && leb (m * 10 + (d - 48)) most) e in
    (leb-true 48 d (and_left (leb 48 d) _ e), leb-true d 57 (and_left (leb d 57) (leb (m * 10 + (d - 48)) most) r), leb-true (m * 10 + (d - 48)) most (and_right (leb d 57) (leb (m * 10 + (d - 48)) most) r))

test-ok : (m c : ℕ) → c < 10 → m * 10 + c ≤ most → test m (c + 48) ≡ true
test-ok m c h i =
    let e : m * 10 + (c + 48 - 48) ≡ m * 10 + c = omega arith in
    rw (le-leb 48 (c + 48) (omega arith), le-leb (c + 48) 57 (omega arith), e) (le-leb (m * 10 + c) most i)

digit-back : (m c : ℕ) → c < 10 → m * 10 + c ≤ most → digits_of m ((c + 48) ∷ []) ≡ some (m * 10 + c)
unfolding digits_of
digit-back m c h i = let e : m * 10 + (c + 48 - 48) ≡ m * 10 + c = omega arith in rw (test-ok m c h i, e)

digits_more : (m n c : ℕ) (xs : Bytes) → c < 10 → n * 10 + c ≤ most → digits_of m xs ≡ some n → digits_of m (xs ++ ((c + 48) ∷ [])) ≡ some (n * 10 + c)
unfolding digits_of
digits_more m n c [] h i e = let q : m ≡ n = cc in subst (λ m. digits_of m ((c + 48) ∷ []) ≡ some (n * 10 + c)) (sym q) (digit-back n c h i)
digits_more m n c (x ∷ xs) h i e = go (test m x) refl e (digits_more (m * 10 + (x - 48)) n c xs h i)
  where
    go : (t : Bool) → test m x ≡ t → cond t (digits_of (m * 10 + (x - 48)) xs) none ≡ some n → (digits_of (m * 10 + (x - 48)) xs ≡ some n → digits_of (m * 10 + (x - 48)) (xs ++ ((c + 48) ∷ [])) ≡ some (n * 10 + c)) → cond (test m x) (digits_of (m * 10 + (x - 48)) (xs ++ ((c + 48) ∷ []))) none ≡ some (n * 10 + c)
    go true q r f = rw q (f r)
    go false q r f = let z : ◌≡◌ {A = ℕ} 0 1 = cc in absurd (omega arith)

digits-back : (k n : ℕ) → n < k → n ≤ most → digits_of 0 (digits k n) ≡ some n
digits-back zero n a b = absurd (omega arith)
digits-back (suc k) n a b = go (ltb n 10) refl (λ h. digits-back k (n / 10) (omega arith) (omega arith))
  where
    go : (t : Bool) → ltb n 10 ≡ t → (10 ≤ n → digits_of 0 (digits k (n / 10)) ≡ some (n / 10)) → digits_of 0 (digits (suc k) n) ≡ some n
    go true e f =
        let h : n < 10 = ltb-true n 10 e in
        let q : 0 * 10 + n ≡ n = omega arith in
        rw (digits-small k n h) (digit-back 0 n h (omega arith) ∙ ap some q)
    go false e f =
        let h : 10 ≤ n = ltb-false n 10 e in
        let q : n / 10 * 10 + n % 10 ≡ n = omega arith in
        rw (digits-big k n h) (digits_more 0 (n / 10) (n % 10) (digits k (n / 10)) (omega arith) (omega arith) (f h) ∙ ap some q)

-- no zero in front
pub record Led (f : Bytes) : Type 0 where
  pub head : ℕ
  pub tail : Bytes
  pub split : f ≡ head ∷ tail
  pub no_zero : head ≡ 48 → ⊥

led : (k n : ℕ) → n < k → 1 ≤ n → Led (digits k n)
led zero n a b = absurd (omega arith)
led (suc k) n a b = go (ltb n 10) refl (λ h. led k (n / 10) (omega arith) (omega arith))
  where
    go : (t : Bool) → ltb n 10 ≡ t → (10 ≤ n → Led (digits k (n / 10))) → Led (digits (suc k) n)
    go true e f = record { head = n + 48; tail = []; split = digits-small k n (ltb-true n 10 e); no_zero = omega arith }
    go false e f =
        let h : 10 ≤ n = ltb-false n 10 e in
        let l = f h in
        record { head = l.head; tail = l.tail ++ ((n % 10 + 48) ∷ []); split = digits-big k n h ∙ ap (λ x. x ++ ((n % 10 + 48) ∷ [])) l.split; no_zero = l.no_zero }

led-number : (x : ℕ) (xs : Bytes) → (x ≡ 48 → ⊥) → number_of (x ∷ xs) ≡ digits_of 0 (x ∷ xs)
unfolding number_of
led-number x [] h = refl
led-number x (y ∷ ys) h = rw (ne_eqb x 48 h)

pub number-back : (n : ℕ) → n ≤ most → number_of (decimal n) ≡ some n
unfolding decimal number_of digits digits_of
number-back zero h = refl
number-back (suc n) h =
    let l = led (suc (suc n)) (suc n) (omega arith) (omega arith) in
    ap number_of l.split ∙ (led-number l.head l.tail l.no_zero ∙ (sym (ap (digits_of 0) l.split) ∙ digits-back (suc (suc n)) (suc n) (omega arith) h))

-- ---- and forth

digits-forth : (ds : Bytes) (m n : ℕ) → 1 ≤ m → m ≤ most → digits_of m ds ≡ some n → (decimal n ≡ decimal m ++ ds) × (n ≤ most)
unfolding digits_of
digits-forth [] m n h i e = let q : m ≡ n = cc in (ap decimal (sym q) ∙ sym (append-nil (decimal m)), omega arith)
digits-forth (d ∷ ds) m n h i e = go (test m d) refl e (digits-forth ds (m * 10 + (d - 48)) n)
  where
    go : (t : Bool) → test m d ≡ t → cond t (digits_of (m * 10 + (d - 48)) ds) none ≡ some n → (1 ≤ m * 10 + (d - 48) → m * 10 + (d - 48) ≤ most → digits_of (m * 10 + (d - 48)) ds ≡ some n → (decimal n ≡ decimal (m * 10 + (d - 48)) ++ ds) × (n ≤ most)) → (decimal n ≡ decimal m ++ (d ∷ ds)) × (n ≤ most)
    go true q r f =
        let b = test-true m d q in
        let w : d - 48 + 48 ≡ d = omega arith in
        let x = f (omega arith) (omega arith) r in
        (x.0 ∙ (ap (λ l. l ++ ds) (decimal-more m (d - 48) h (omega arith) ∙ ap (λ y. decimal m ++ (y ∷ [])) w) ∙ append_assoc (decimal m) (d ∷ []) ds), x.1)
    go false q r f = let z : ◌≡◌ {A = ℕ} 0 1 = cc in absurd (omega arith)

-- one digit
decimal-small : (d : ℕ) → 48 ≤ d → d ≤ 57 → decimal (d - 48) ≡ d ∷ []
unfolding decimal
decimal-small d h i = let w : d - 48 + 48 ≡ d = omega arith in digits-small (d - 48) (d - 48) (omega arith) ∙ ap (λ y. y ∷ []) w

first-digit : (d n : ℕ) (ds : Bytes) → (d ≡ 48 → ds ≡ []) → digits_of 0 (d ∷ ds) ≡ some n → ((d ∷ ds) ≡ decimal n) × (n ≤ most)
unfolding digits_of
first-digit d n ds z e = go (test 0 d) refl e
  where
    more : (ds : Bytes) → 48 ≤ d → d ≤ 57 → (d ≡ 48 → ds ≡ []) → digits_of (d - 48) ds ≡ some n → ((d ∷ ds) ≡ decimal n) × (n ≤ most)
    more [] a b z e = let q : d - 48 ≡ n = cc in (sym (decimal-small d a b) ∙ ap decimal q, omega arith)
    more (x ∷ xs) a b z e =
        let nz : d ≡ 48 → ⊥ = λ p. let c : (x ∷ xs) ≡ [] = z p in let w : ◌≡◌ {A = ℕ} 0 1 = cc in omega arith in
        let y = digits-forth (x ∷ xs) (d - 48) n (omega arith) (omega arith) e in
        (ap (λ l. l ++ (x ∷ xs)) (sym (decimal-small d a b)) ∙ sym y.0, y.1)

    go : (t : Bool) → test 0 d ≡ t → cond t (digits_of (0 * 10 + (d - 48)) ds) none ≡ some n → ((d ∷ ds) ≡ decimal n) × (n ≤ most)
    go true q r =
        let b = test-true 0 d q in
        let w : 0 * 10 + (d - 48) ≡ d - 48 = omega arith in
        more ds b.0 b.1 z (sym (ap (λ m. digits_of m ds) w) ∙ r)
    go false q r = let z : ◌≡◌ {A = ℕ} 0 1 = cc in absurd (omega arith)

pub number-sound : (f : Bytes) (n : ℕ) → number_of f ≡ some n → (f ≡ decimal n) × (n ≤ most)
unfolding number_of
number-sound [] n e = let z : ◌≡◌ {A = ℕ} 0 1 = cc in absurd (omega arith)
number-sound (d ∷ []) n e = first-digit d n [] (λ p. refl) e
number-sound (d ∷ x ∷ ds) n e = go (eqb d 48) refl e
  where
    go : (t : Bool) → eqb d 48 ≡ t → cond t none (digits_of 0 (d ∷ x ∷ ds)) ≡ some n → ((d ∷ x ∷ ds) ≡ decimal n) × (n ≤ most)
    go true q r = let z : ◌≡◌ {A = ℕ} 0 1 = cc in absurd (omega arith)
    go false q r = first-digit d n (x ∷ ds) (λ p. absurd (eqb-false d 48 q p)) r
