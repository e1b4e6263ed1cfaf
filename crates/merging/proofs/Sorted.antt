-- Constants by position: the sorted list rises and has the terms of the given one; in a list that rises a position below all has none. Assumes nothing.
use mathlib.Core.Path.{◌≡◌, refl, sym, ap, ◌∙◌}
use mathlib.Core.Bool.{Bool, true, false, cond, not}
use mathlib.Core.List.{List, [], ◌∷◌}
use mathlib.Core.Option.{Option, none, some}
use Prim.Native.Nat.{ℕ, ◌<◌}
use native.Mathlib.Omega.{arith}
use lib.Dec.{eqb, ltb}
use borrow.Author.Tests.{lt-ltb, ltb-true, ltb-false, eq-eqb, ne_eqb, eqb-true, eqb-false}
use Rattle.text.specs.Text.{Bytes}
use Rattle.text.proofs.Basics.{and_left, and_right, and_both}
use Rattle.algebra.specs.Query.{Pair, constants}
use Rattle.algebra.specs.Reader.{reads}
use Rattle.algebra.specs.Texts.{read_pairs}
use Rattle.algebra.proofs.Lines.{or-neither, not-no}
use Rattle.algebra.proofs.Theorem.{pairs-exactly}
use Rattle.scoping.specs.Sets.{all, any}
use Rattle.scoping.specs.Premises.{different_positions}
use Rattle.merging.specs.Sides.{Constant}
use Rattle.merging.specs.Request.{constants_in, placed, by_position, positions}
use Rattle.merging.specs.Order.{rise, listed, SameConstants}
use Rattle.merging.proofs.Lists.{placed-test, sorted-any, positions-different}

abbrev pub below : Constant → Constant → Bool
below k x = ltb k.position x.position

-- ---- the sorted list rises

further : (k x : Constant) → k.position < x.position → (ks : List Constant) → all (below x) ks ≡ true → all (below k) ks ≡ true
unfolding all
further k x h [] a = refl
further k x h (y ∷ ks) a =
    let l : x.position < y.position = ltb-true x.position y.position (and_left (below x y) (all (below x) ks) a) in
    and_both (below k y) (all (below k) ks) (lt-ltb k.position y.position (omega arith)) (further k x h ks (and_right (below x y) (all (below x) ks) a))

placed-rise : (k : Constant) (ks : List Constant) → any (eqb k.position) (positions ks) ≡ false → rise ks ≡ true → rise (placed k ks) ≡ true
unfolding rise placed any all
placed-rise k [] h r = refl
placed-rise k (x ∷ xs) h r =
    let n = or-neither (eqb k.position x.position) (any (eqb k.position) (positions xs)) h in
    go (ltb k.position x.position) refl n.0 (placed-rise k xs n.1 (and_right (all (below x) xs) (rise xs) r))
  where
    go : (t : Bool) → ltb k.position x.position ≡ t → eqb k.position x.position ≡ false → rise (placed k xs) ≡ true → rise (cond t (k ∷ x ∷ xs) (x ∷ placed k xs)) ≡ true
    go true e a q =
        and_both (all (below k) (x ∷ xs)) (rise (x ∷ xs))
        (and_both (below k x) (all (below k) xs) e (further k x (ltb-true k.position x.position e) xs (and_left (all (below x) xs) (rise xs) r))) r
    go false e a q =
        let l = ltb-false k.position x.position e in
        let n = eqb-false k.position x.position a in
        and_both (all (below x) (placed k xs)) (rise (placed k xs))
        (placed-test (below x) k xs ∙ and_both (below x k) (all (below x) xs) (lt-ltb x.position k.position (omega arith)) (and_left (all (below x) xs) (rise xs) r)) q

-- no position of the rest is the first one's
first-apart : (k : Constant) (ks : List Constant) → different_positions (positions (k ∷ ks)) ≡ true → any (eqb k.position) (positions (by_position ks)) ≡ false
unfolding different_positions
first-apart k ks d =
    sorted-any k.position ks ∙ not-no (any (eqb k.position) (positions ks)) (and_left (not (any (eqb k.position) (positions ks))) (different_positions (positions ks)) d)

rest-apart : (k : Constant) (ks : List Constant) → different_positions (positions (k ∷ ks)) ≡ true → different_positions (positions ks) ≡ true
unfolding different_positions
rest-apart k ks d = and_right (not (any (eqb k.position) (positions ks))) (different_positions (positions ks)) d

pub sorted-rise : (ks : List Constant) → different_positions (positions ks) ≡ true → rise (by_position ks) ≡ true
unfolding by_position rise
sorted-rise [] d = refl
sorted-rise (k ∷ ks) d = placed-rise k (by_position ks) (first-apart k ks d) (sorted-rise ks (rest-apart k ks d))

-- ---- it has the same terms

pub listed_here : (k : Constant) (ks : List Constant) → listed k.position (k ∷ ks) ≡ some k.term
unfolding listed
listed_here k ks = ap (λ (b : Bool). cond b (some k.term) (listed k.position ks)) (eq-eqb k.position k.position refl)

pub listed-past : (i : ℕ) (k : Constant) (ks : List Constant) → eqb i k.position ≡ false → listed i (k ∷ ks) ≡ listed i ks
unfolding listed
listed-past i k ks h = ap (λ (b : Bool). cond b (some k.term) (listed i ks)) h

-- two tests that don't both hold may be asked in either order
pub either_first : (a b : Bool) → (a ≡ true → b ≡ true → ⊥) → (s t z : Option Bytes) → cond a s (cond b t z) ≡ cond b t (cond a s z)
either_first true true h s t z = absurd (h refl refl)
either_first true false h s t z = refl
either_first false b h s t z = refl

placed-listed : (i : ℕ) (k : Constant) (ks : List Constant) → any (eqb k.position) (positions ks) ≡ false → listed i (placed k ks) ≡ listed i (k ∷ ks)
unfolding listed placed any
placed-listed i k [] h = refl
placed-listed i k (x ∷ xs) h =
    let n = or-neither (eqb k.position x.position) (any (eqb k.position) (positions xs)) h in
    go (ltb k.position x.position) n.0 (placed-listed i k xs n.1)
  where
    go : (t : Bool) → eqb k.position x.position ≡ false → listed i (placed k xs) ≡ listed i (k ∷ xs) → listed i (cond t (k ∷ x ∷ xs) (x ∷ placed k xs)) ≡ listed i (k ∷ x ∷ xs)
    go true a e = refl
    go false a e =
        ap (λ (o : Option Bytes). cond (eqb i x.position) (some x.term) o) e
        ∙ either_first (eqb i x.position) (eqb i k.position) (λ p q. eqb-false k.position x.position a (sym (eqb-true i k.position q) ∙ eqb-true i x.position p)) (some x.term) (some k.term) (listed i xs)

pub sorted-listed : (i : ℕ) (ks : List Constant) → different_positions (positions ks) ≡ true → listed i (by_position ks) ≡ listed i ks
unfolding by_position listed
sorted-listed i [] d = refl
sorted-listed i (k ∷ ks) d =
    placed-listed i k (by_position ks) (first-apart k ks d)
    ∙ ap (λ (o : Option Bytes). cond (eqb i k.position) (some k.term) o) (sorted-listed i ks (rest-apart k ks d))

-- ---- two lists that rise and have the same terms begin alike

-- a position below all has no term
pub none_below : (i : ℕ) (ks : List Constant) → all (λ x. ltb i x.position) ks ≡ true → listed i ks ≡ none
unfolding all listed
none_below i [] a = refl
none_below i (k ∷ ks) a =
    let l : i < k.position = ltb-true i k.position (and_left (ltb i k.position) (all (λ x. ltb i x.position) ks) a) in
    listed-past i k ks (ne_eqb i k.position (omega arith)) ∙ none_below i ks (and_right (ltb i k.position) (all (λ x. ltb i x.position) ks) a)

pub some-none : (t : Bytes) → some t ≡ none → ⊥
some-none t e = let z : ◌≡◌ {A = ℕ} 0 1 = cc in omega arith

-- the first of one list doesn't stand before all of the other
pub not-before : (k l : Constant) (ks ls : List Constant) → all (below l) ls ≡ true → SameConstants (k ∷ ks) (l ∷ ls) → k.position < l.position → ⊥
unfolding all
not-before k l ks ls a e h =
    some-none k.term
    (sym (listed_here k ks) ∙ e k.position
    ∙ none_below k.position (l ∷ ls) (and_both (below k l) (all (below k) ls) (lt-ltb k.position l.position h) (further k l h ls a)))

-- ---- texts

-- a text that is read as a list has no position twice
pub read-apart : (s : Bytes) (xs : List Pair) → read_pairs constants s ≡ reads xs → different_positions (positions (constants_in xs)) ≡ true
read-apart s xs e = positions-different [] xs ((pairs-exactly constants s xs).0 e).1
