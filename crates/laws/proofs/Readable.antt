-- Every row of a merge is read by the sides and positions of its columns, a join column alike on both sides. Assumes nothing.
use mathlib.Core.Path.{◌≡◌, refl, sym, ◌∙◌, ap, ap₂}
use mathlib.Core.Bool.{Bool, true, false, cond, not, ◌&&◌}
use mathlib.Core.List.{List, [], ◌∷◌, ◌++◌, map}
use mathlib.Core.Option.{none, some}
use Prim.Native.Nat.{ℕ, zero, suc, ◌≤◌}
use native.Mathlib.Omega.{arith}
use lib.ListN.{length}
use lib.Dec.{eqb}
use borrow.Author.Tests.{eq-eqb, eqb-true}
use Rattle.text.proofs.Basics.{and_left, and_right, and_both, same_refl}
use Rattle.algebra.proofs.Lines.{or-neither, not-no}
use Rattle.scoping.specs.Sets.{all, any, keep}
use Rattle.scoping.specs.Premises.{different_positions}
use Rattle.scoping.proofs.Basics.{clash, not-true}
use Rattle.counting.specs.Row.{Cell, same_cell}
use Rattle.merging.specs.Sides.{Pair, rights}
use Rattle.merging.specs.Request.{Request, positions}
use Rattle.merging.specs.Names.{from, is_at}
use Rattle.laws.specs.Swapped.{left_shown, right_shown, row_of, either_side}

-- ---- cells by position

kept-cong : (f g : ℕ → Cell) (p : ℕ → Bool) (n k : ℕ) → ((i : ℕ) → k ≤ i → p i ≡ true → f i ≡ g i) → map f (keep p (from k n)) ≡ map g (keep p (from k n))
unfolding keep from
kept-cong f g p zero k h = refl
kept-cong f g p (suc n) k h = go (p k) refl (kept-cong f g p n (suc k) (λ i a. h i (omega arith)))
  where
    go : (t : Bool) → p k ≡ t → map f (keep p (from (suc k) n)) ≡ map g (keep p (from (suc k) n)) → map f (cond t (k ∷ keep p (from (suc k) n)) (keep p (from (suc k) n))) ≡ map g (cond t (k ∷ keep p (from (suc k) n)) (keep p (from (suc k) n)))
    go true e r = ap₂ ◌∷◌ (h k (omega arith) e) r
    go false e r = r

-- as many cells as kept positions stand at these positions
cells_at : (p : ℕ → Bool) (n k : ℕ) (cs : List Cell) → length cs ≡ length (keep p (from k n)) → (x : ℕ → Cell) × (map x (keep p (from k n)) ≡ cs)
unfolding keep from
cells_at p zero k [] e = ((λ i. none), refl)
cells_at p zero k (c ∷ cs) e = absurd (omega arith)
cells_at p (suc n) k cs e = go (p k) cs e (cells_at p n (suc k))
  where
    later : List ℕ
    later = keep p (from (suc k) n)

    go : (t : Bool) (cs : List Cell) → length cs ≡ length (cond t (k ∷ later) later) → ((cs : List Cell) → length cs ≡ length later → (x : ℕ → Cell) × (map x later ≡ cs)) → (x : ℕ → Cell) × (map x (cond t (k ∷ later) later) ≡ cs)
    go true [] e r = absurd (omega arith)
    go true (c ∷ cs) e r =
        let w = r cs (omega arith) in (
          (λ i. cond (eqb i k) c (w.0 i)),
          ap₂ ◌∷◌ (ap (λ (t : Bool). cond t c (w.0 k)) (eq-eqb k k refl))
              (kept-cong (λ i. cond (eqb i k) c (w.0 i)) w.0 p n (suc k) (λ i a q. ap (λ (t : Bool). cond t c (w.0 i)) (not-true (eqb i k) (λ s. let z = eqb-true i k s in absurd (omega arith)))) ∙ w.1),
        )
    go false cs e r = r cs e

-- ---- a join column under the right side

-- the cell of the pair's left position, and y elsewhere
unfoldable through : (ℕ → Cell) → (ℕ → Cell) → List Pair → ℕ → Cell
through x y [] i = y i
through x y (j ∷ js) i = cond (eqb i j.right) (x j.left) (through x y js i)

through-apart : (x y : ℕ → Cell) (js : List Pair) (i : ℕ) → is_at i (rights js) ≡ false → through x y js i ≡ y i
unfolding through is_at any
through-apart x y [] i e = refl
through-apart x y (j ∷ js) i e =
    let n = or-neither (eqb i j.right) (any (eqb i) (rights js)) e in
    ap (λ (t : Bool). cond t (x j.left) (through x y js i)) n.0 ∙ through-apart x y js i n.1

same_self : (c : Cell) → same_cell c c ≡ true
unfolding same_cell
same_self none = refl
same_self (some a) = same_refl a

-- further pairs don't see the first
through-later : (x y : ℕ → Cell) (h : Pair) (ks js : List Pair) → any (eqb h.right) (rights ks) ≡ false
    → all (λ j. same_cell (x j.left) (through x y js j.right)) ks ≡ true → all (λ j. same_cell (x j.left) (through x y (h ∷ js) j.right)) ks ≡ true
unfolding through all any
through-later x y h [] js a e = refl
through-later x y h (k ∷ ks) js a e =
    let n = or-neither (eqb h.right k.right) (any (eqb h.right) (rights ks)) a in
    let apart : eqb k.right h.right ≡ false = not-true (eqb k.right h.right) (λ s. clash (eq-eqb h.right k.right (sym (eqb-true k.right h.right s))) n.0) in
    let b = same_cell (x k.left) (through x y js k.right) in
    let c = all (λ j. same_cell (x j.left) (through x y js j.right)) ks in
    and_both (same_cell (x k.left) (through x y (h ∷ js) k.right)) (all (λ j. same_cell (x j.left) (through x y (h ∷ js) j.right)) ks)
    (ap (λ (t : Bool). same_cell (x k.left) (cond t (x h.left) (through x y js k.right))) apart ∙ and_left b c e)
    (through-later x y h ks js n.1 (and_right b c e))

through-alike : (x y : ℕ → Cell) (js : List Pair) → different_positions (rights js) ≡ true → all (λ j. same_cell (x j.left) (through x y js j.right)) js ≡ true
unfolding different_positions all through
through-alike x y [] d = refl
through-alike x y (j ∷ js) d =
    let a = not (any (eqb j.right) (rights js)) in
    let b = different_positions (rights js) in
    and_both (same_cell (x j.left) (through x y (j ∷ js) j.right)) (all (λ k. same_cell (x k.left) (through x y (j ∷ js) k.right)) js)
    here
    (through-later x y j js js (not-no (any (eqb j.right) (rights js)) (and_left a b d)) (through-alike x y js (and_right a b d)))
  where
    here : same_cell (x j.left) (through x y (j ∷ js) j.right) ≡ true
    here = ap (λ (t : Bool). same_cell (x j.left) (cond t (x j.left) (through x y js j.right))) (eq-eqb j.right j.right refl) ∙ same_self (x j.left)

-- ---- every row

pub row_read : (m : Request) → different_positions (rights m.joins) ≡ true → (xs ys : List Cell) → length xs ≡ length (left_shown m) → length ys ≡ length (right_shown m)
    → (x y : ℕ → Cell) × (either_side m x y ≡ true) × (row_of m x y ≡ xs ++ ys)
unfolding left_shown right_shown row_of either_side
row_read m d xs ys a b =
    let n = length m.right.columns in
    let p : ℕ → Bool = λ i. not (is_at i (positions m.right_constants)) && not (is_at i (rights m.joins)) in
    let l = cells_at (λ i. not (is_at i (positions m.left_constants))) (length m.left.columns) 0 xs a in
    let r = cells_at p n 0 ys b in
    let y : ℕ → Cell = through l.0 r.0 m.joins in
    let apart : (i : ℕ) → p i ≡ true → y i ≡ r.0 i = λ i e. through-apart l.0 r.0 m.joins i (not-no (is_at i (rights m.joins)) (and_right (not (is_at i (positions m.right_constants))) (not (is_at i (rights m.joins))) e)) in
    (l.0, y, through-alike l.0 r.0 m.joins d, ap₂ ◌++◌ l.1 (kept-cong y r.0 p n 0 (λ i k e. apart i e) ∙ r.1))
