-- Two runs of bytes compared byte by byte. Assumes nothing.
use Prim.Native.Nat.{ℕ, zero, suc, ◌+◌, ◌≤◌, ◌<◌}
use mathlib.Core.Path.{◌≡◌, refl, sym, ◌∙◌, ap, subst}
use mathlib.Core.List.{[], ◌∷◌}
use mathlib.Core.Bool.{Bool, true, false, ◌&&◌, ◌||◌}
use native.Mathlib.Numerals.{add-one}
use native.Mathlib.Omega.{arith}
use native.Mathlib.Decide.{dec_lt}
use lib.ListN.{length, get_or, drop, drop_of_length-le}
use lib.Seq.{drop-cons}
use lib.Dec.{ltb, eqb}
use borrow.Author.Tests.{ne_eqb, eq-eqb, eqb-true, le-ltb}
use borrow.Author.Count.{below_more}
use Rattle.text.specs.Text.{Bytes}
use Rattle.text.proofs.Basics.{and_left, and_right}
use Rattle.converting.specs.Starts.{begins, less}
use Rattle.converting.specs.bridge.Order.{before}
use Rattle.starts.specs.bridge.Starts.{Shares}

or-none : (a b : Bool) → (a || (false && b)) ≡ a
or-none true b = refl
or-none false b = refl

-- ---- before

module _ (a b : Bytes) (i : ℕ) where
  next-before : i < length a → i < length b → before (drop i a) (drop i b) ≡ (ltb (get_or a i 0) (get_or b i 0) || (eqb (get_or a i 0) (get_or b i 0) && before (drop (i + 1) a) (drop (i + 1) b)))
  unfolding before
  next-before h k = rw (add-one, drop-cons a i 0 h, drop-cons b i 0 k) refl

  -- the bytes here part them
  pub before_here : i < length a → i < length b → (get_or a i 0 ≡ get_or b i 0 → ⊥) → before (drop i a) (drop i b) ≡ ltb (get_or a i 0) (get_or b i 0)
  before_here h k n = next-before h k ∙ rw (ne_eqb (get_or a i 0) (get_or b i 0) n) (or-none (ltb (get_or a i 0) (get_or b i 0)) (before (drop (i + 1) a) (drop (i + 1) b)))

  pub before_on : i < length a → i < length b → get_or a i 0 ≡ get_or b i 0 → before (drop i a) (drop i b) ≡ before (drop (i + 1) a) (drop (i + 1) b)
  before_on h k e = next-before h k ∙ rw (eq-eqb (get_or a i 0) (get_or b i 0) e, le-ltb (get_or a i 0) (get_or b i 0) (omega arith)) refl

  -- one of them ends
  pub before-ends : length a ≤ i → before (drop i a) (drop i b) ≡ false
  unfolding before
  before-ends h = rw (drop_of_length-le a h) refl

  pub before-short : length b ≤ i → before (drop i a) (drop i b) ≡ false
  unfolding before
  before-short h = rw (drop_of_length-le b h) (go (drop i a))
    where
      go : (xs : Bytes) → before xs [] ≡ false
      go [] = refl
      go (x ∷ xs) = refl

-- ---- less

module _ (a b : Bytes) (i : ℕ) where
  next-less : i < length a → i < length b → less (drop i a) (drop i b) ≡ (ltb (get_or a i 0) (get_or b i 0) || (eqb (get_or a i 0) (get_or b i 0) && less (drop (i + 1) a) (drop (i + 1) b)))
  unfolding less
  next-less h k = rw (add-one, drop-cons a i 0 h, drop-cons b i 0 k) refl

  pub less-here : i < length a → i < length b → (get_or a i 0 ≡ get_or b i 0 → ⊥) → less (drop i a) (drop i b) ≡ ltb (get_or a i 0) (get_or b i 0)
  less-here h k n = next-less h k ∙ rw (ne_eqb (get_or a i 0) (get_or b i 0) n) (or-none (ltb (get_or a i 0) (get_or b i 0)) (less (drop (i + 1) a) (drop (i + 1) b)))

  pub less-on : i < length a → i < length b → get_or a i 0 ≡ get_or b i 0 → less (drop i a) (drop i b) ≡ less (drop (i + 1) a) (drop (i + 1) b)
  less-on h k e = next-less h k ∙ rw (eq-eqb (get_or a i 0) (get_or b i 0) e, le-ltb (get_or a i 0) (get_or b i 0) (omega arith)) refl

  -- the first ends
  pub less-ends : length a ≤ i → i < length b → less (drop i a) (drop i b) ≡ true
  unfolding less
  less-ends h k = rw (drop_of_length-le a h, drop-cons b i 0 k) refl

  -- the second does
  pub less-not : length b ≤ i → less (drop i a) (drop i b) ≡ false
  unfolding less
  less-not h = rw (drop_of_length-le b h) (less-nil (drop i a))
    where
      less-nil : (xs : Bytes) → less xs [] ≡ false
      less-nil [] = refl
      less-nil (x ∷ xs) = refl

-- ---- a beginning

module _ (a x : Bytes) (i : ℕ) where
  pub begins-on : i < length a → i < length x → get_or a i 0 ≡ get_or x i 0 → begins (drop i a) (drop i x) ≡ begins (drop (i + 1) a) (drop (i + 1) x)
  unfolding begins
  begins-on h k e = rw (add-one, drop-cons a i 0 h, drop-cons x i 0 k, eq-eqb (get_or a i 0) (get_or x i 0) e) refl

  pub begins-parts : i < length a → i < length x → (get_or a i 0 ≡ get_or x i 0 → ⊥) → begins (drop i a) (drop i x) ≡ false
  unfolding begins
  begins-parts h k n = rw (drop-cons a i 0 h, drop-cons x i 0 k, ne_eqb (get_or a i 0) (get_or x i 0) n) refl

  pub begins-ends : length a ≤ i → begins (drop i a) (drop i x) ≡ true
  unfolding begins
  begins-ends h = rw (drop_of_length-le a h) refl

  pub begins-short : i < length a → length x ≤ i → begins (drop i a) (drop i x) ≡ false
  unfolding begins
  begins-short h k = rw (drop-cons a i 0 h, drop_of_length-le x k) refl

-- ---- what both begin with

module _ (a b : Bytes) where
  abbrev Alike : ℕ → Type 0
  Alike r = (k : ℕ) → k < r → get_or a k 0 ≡ get_or b k 0

  before-shared : (r : ℕ) → r ≤ length a → r ≤ length b → Alike r → before a b ≡ before (drop r a) (drop r b)
  before-shared zero h k f = refl
  before-shared (suc r) h k f =
      before-shared r (omega arith) (omega arith) (λ j l. f j (omega arith)) ∙ before_on a b r (omega arith) (omega arith) (f r (omega arith))
      ∙ ap (λ (n : ℕ). before (drop n a) (drop n b)) (add-one r)

  less-shared : (r : ℕ) → r ≤ length a → r ≤ length b → Alike r → less a b ≡ less (drop r a) (drop r b)
  less-shared zero h k f = refl
  less-shared (suc r) h k f =
      less-shared r (omega arith) (omega arith) (λ j l. f j (omega arith)) ∙ less-on a b r (omega arith) (omega arith) (f r (omega arith))
      ∙ ap (λ (n : ℕ). less (drop n a) (drop n b)) (add-one r)

  begins-shared : (r : ℕ) → r ≤ length a → r ≤ length b → Alike r → begins b a ≡ begins (drop r b) (drop r a)
  begins-shared zero h k f = refl
  begins-shared (suc r) h k f =
      begins-shared r (omega arith) (omega arith) (λ j l. f j (omega arith)) ∙ begins-on b a r (omega arith) (omega arith) (sym (f r (omega arith)))
      ∙ ap (λ (n : ℕ). begins (drop n b) (drop n a)) (add-one r)

  module _ (r : ℕ) (s : Shares a b r) where
    pub not-before-first : r ≡ length a → false ≡ before a b
    not-before-first e = sym (before-shared r s.first s.second s.alike ∙ before-ends a b r (omega arith))

    pub not-before-second : r ≡ length b → false ≡ before a b
    not-before-second e = sym (before-shared r s.first s.second s.alike ∙ before-short a b r (omega arith))

    module _ (p : r ≡ length a → ⊥) (q : r ≡ length b → ⊥) where
      pub inside : (r < length a) × (r < length b)
      inside = let f = s.first in let g = s.second in (omega arith, omega arith)

      pub before-by-byte : ltb (get_or a r 0) (get_or b r 0) ≡ before a b
      before-by-byte = sym (before-shared r s.first s.second s.alike ∙ before_here a b r inside.0 inside.1 (s.parted inside.0 inside.1))

      pub less-by-byte : ltb (get_or a r 0) (get_or b r 0) ≡ less a b
      less-by-byte = sym (less-shared r s.first s.second s.alike ∙ less-here a b r inside.0 inside.1 (s.parted inside.0 inside.1))

    pub less-first : r ≡ length a → (r ≡ length b → ⊥) → true ≡ less a b
    less-first e q = let g = s.second in sym (less-shared r s.first s.second s.alike ∙ less-ends a b r (omega arith) (omega arith))

    -- the second is the beginning of the first, or is not
    pub second-begins : r ≡ length b → begins b a ≡ true
    second-begins e = begins-shared r s.first s.second s.alike ∙ begins-ends b a r (omega arith)

    pub second-not : (r ≡ length b → ⊥) → begins b a ≡ false
    second-not q = begins-shared r s.first s.second s.alike ∙ go (dec_lt r (length a))
      where
        go : Dec (r < length a) → begins (drop r b) (drop r a) ≡ false
        go (yes k) = let g = s.second in begins-parts b a r (omega arith) k (λ e. s.parted k (omega arith) (sym e))
        go (no k) = let g = s.second in begins-short b a r (omega arith) (omega arith)

-- ---- eight bytes at a time

-- the n bytes from i on are the same
abbrev pub Same : Bytes → Bytes → ℕ → ℕ → Type 0
Same a b i n = (k : ℕ) → k < i + n → i ≤ k → get_or a k 0 ≡ get_or b k 0

module _ (a b : Bytes) (i : ℕ) where
  abbrev test : ℕ → Bool
  test n = eqb (get_or a (i + n) 0) (get_or b (i + n) 0)

  same-one : eqb (get_or a i 0) (get_or b i 0) ≡ true → Same a b i 1
  same-one h k u l = let e : k ≡ i = omega arith in subst (λ (j : ℕ). get_or a j 0 ≡ get_or b j 0) (sym e) (eqb-true _ _ h)

  same_more : (n : ℕ) (t : Bool) → (t ≡ true → Same a b i n) → (t && test n) ≡ true → Same a b i (suc n)
  same_more n t f h k u l =
      below_more (λ (k : ℕ). i ≤ k → get_or a k 0 ≡ get_or b k 0) (i + n) (f (and_left t _ h)) (λ _. eqb-true _ _ (and_right t _ h)) k (omega arith) l

  pub same-eight : (((((((eqb (get_or a i 0) (get_or b i 0) && test 1) && test 2) && test 3) && test 4) && test 5) && test 6) && test 7) ≡ true → Same a b i 8
  same-eight = same_more 7 _ (same_more 6 _ (same_more 5 _ (same_more 4 _ (same_more 3 _ (same_more 2 _ (same_more 1 _ same-one))))))

pub block_more : (a b : Bytes) (i n : ℕ) → ((k : ℕ) → k < i → get_or a k 0 ≡ get_or b k 0) → Same a b i n → (k : ℕ) → k < i + n → get_or a k 0 ≡ get_or b k 0
block_more a b i n f s k u = go (dec_lt k i)
  where
    go : Dec (k < i) → get_or a k 0 ≡ get_or b k 0
    go (yes l) = f k l
    go (no l) = s k u (omega arith)

-- the shorter one ends
pub shares-all : (a b : Bytes) (n i : ℕ) → n ≤ length a → n ≤ length b → (n < length a → n ≡ length b) → n ≤ i → ((k : ℕ) → k < i → get_or a k 0 ≡ get_or b k 0) → Shares a b n
shares-all a b n i h k s m f =
    record { first = h; second = k; alike = λ j l. f j (omega arith); parted = λ x y e. let z : n ≡ length b = s x in omega arith }
