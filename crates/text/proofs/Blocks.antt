-- Bytes tested eight or four at a time, by tests joined with `&`. Assumes nothing.
use Prim.Native.Nat.{ℕ, zero, suc, ◌+◌, ◌≤◌, ◌<◌}
use mathlib.Core.Path.{◌≡◌, refl, sym, ap, subst, ◌∙◌}
use mathlib.Core.Bool.{Bool, true, false, not, ◌&&◌}
use mathlib.Core.List.{List}
use native.Mathlib.Omega.{arith}
use lib.Dec.{eqb, ltb}
use lib.ListN.{length, get_or, drop}
use borrow.Author.Tests.{eqb-false, not-true, ltb-true, ltb-false}
use borrow.Author.Count.{below_more}
use Rattle.text.proofs.Basics.{and_left, and_right}
use Rattle.text.proofs.Lists.{same_next}
use Rattle.text.specs.Text.{Bytes, same}

-- b is none of the n bytes from i on
abbrev Lacks : ℕ → Bytes → ℕ → ℕ → Type 0
Lacks b s i n = (k : ℕ) → k < i + n → i ≤ k → get_or s k 0 ≡ b → ⊥

module _ (b : ℕ) (s : Bytes) (i : ℕ) where
  -- the byte at i + n is another one
  abbrev test : ℕ → Bool
  test n = not (eqb (get_or s (i + n) 0) b)

  lacks-one : not (eqb (get_or s i 0) b) ≡ true → Lacks b s i 1
  lacks-one h k u l = let e : k ≡ i = omega arith in subst (λ (j : ℕ). get_or s j 0 ≡ b → ⊥) (sym e) (eqb-false _ _ (not-true _ h))

  lacks-more : (n : ℕ) (t : Bool) → (t ≡ true → Lacks b s i n) → (t && test n) ≡ true → Lacks b s i (suc n)
  lacks-more n t f h k u l =
      below_more (λ (k : ℕ). i ≤ k → get_or s k 0 ≡ b → ⊥) (i + n) (f (and_left t _ h)) (λ _. eqb-false _ _ (not-true _ (and_right t _ h))) k (omega arith) l

  pub lacks-four : (((not (eqb (get_or s i 0) b) && test 1) && test 2) && test 3) ≡ true → Lacks b s i 4
  lacks-four = lacks-more 3 _ (lacks-more 2 _ (lacks-more 1 _ lacks-one))

  pub lacks-eight : (((((((not (eqb (get_or s i 0) b) && test 1) && test 2) && test 3) && test 4) && test 5) && test 6) && test 7) ≡ true → Lacks b s i 8
  lacks-eight = lacks-more 7 _ (lacks-more 6 _ (lacks-more 5 _ (lacks-more 4 _ lacks-four)))

-- none before i, and none in the n bytes from there on
pub block_more : (b : ℕ) (s : Bytes) (from i n : ℕ) → ((k : ℕ) → k < i → from ≤ k → get_or s k 0 ≡ b → ⊥) → Lacks b s i n → (k : ℕ) → k < i + n → from ≤ k → get_or s k 0 ≡ b → ⊥
block_more b s from i n f a k u l = go (ltb k i) refl
  where
    go : (t : Bool) → ltb k i ≡ t → get_or s k 0 ≡ b → ⊥
    go true e = f k (ltb-true k i e) l
    go false e = a k u (ltb-false k i e)

module _ (f g : Bytes) where
  next : (i j : ℕ) → j ≡ i + 1 → i < length f → i < length g → same (drop i f) (drop i g) ≡ (eqb (get_or f i 0) (get_or g i 0) && same (drop j f) (drop j g))
  next i j e h k = same_next f g i h k ∙ rw e refl

  abbrev alike : ℕ → Bool
  alike i = eqb (get_or f i 0) (get_or g i 0)

  same-steps : (i : ℕ) → i + 4 ≤ length f → i + 4 ≤ length g → same (drop i f) (drop i g) ≡ (alike i && (alike (i + 1) && (alike (i + 2) && (alike (i + 3) && same (drop (i + 4) f) (drop (i + 4) g)))))
  same-steps i h k =
      rw (next i (i + 1) refl (omega arith) (omega arith), next (i + 1) (i + 2) (omega arith) (omega arith) (omega arith), next (i + 2) (i + 3) (omega arith) (omega arith) (omega arith), next (i + 3) (i + 4) (omega arith) (omega arith) (omega arith)) refl

  -- four tests decide what four bytes make of `same`
  pub same-four : (i : ℕ) → i + 4 ≤ length f → i + 4 ≤ length g
      → ((((alike i && alike (i + 1)) && alike (i + 2)) && alike (i + 3)) ≡ true → same (drop i f) (drop i g) ≡ same (drop (i + 4) f) (drop (i + 4) g))
      × ((((alike i && alike (i + 1)) && alike (i + 2)) && alike (i + 3)) ≡ false → same (drop i f) (drop i g) ≡ false)
  same-four i h k =
      let e = same-steps i h k ∙ sym (four (alike i) (alike (i + 1)) (alike (i + 2)) (alike (i + 3)) (same (drop (i + 4) f) (drop (i + 4) g))) in
      ((λ t. e ∙ ap (λ (r : Bool). r && same (drop (i + 4) f) (drop (i + 4) g)) t), (λ t. e ∙ ap (λ (r : Bool). r && same (drop (i + 4) f) (drop (i + 4) g)) t))
    where
      four : (a b c d x : Bool) → ((((a && b) && c) && d) && x) ≡ (a && (b && (c && (d && x))))
      four true true true d x = refl
      four true true false d x = refl
      four true false c d x = refl
      four false b c d x = refl
