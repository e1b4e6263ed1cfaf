-- The sum for a merge is the sum for the swapped merge. Assumes nothing.
use mathlib.Core.Path.{◌≡◌, refl, sym, ◌∙◌, ap, ap₂, fun_ext}
use mathlib.Core.Bool.{Bool, true, false, cond, ◌&&◌}
use mathlib.Core.List.{List, [], ◌∷◌, ◌++◌, map}
use mathlib.Core.Option.{none, some}
use Prim.Native.Nat.{ℕ, zero, suc, ◌+◌, ◌*◌}
use native.Mathlib.Nat.{mul_comm}
use lib.Dec.{eqb}
use borrow.Author.Tests.{eqb-true}
use Rattle.text.specs.Text.{Bytes, same}
use Rattle.text.proofs.Basics.{and_right, same-eq}
use Rattle.scoping.specs.bridge.Sets.{Sub}
use Rattle.counting.specs.Bag.{once, total, count}
use Rattle.scoping.specs.Sets.{all}
use Rattle.counting.specs.Row.{Cell, compatible, or_cell, Row, bind, merge, agree, cells, named, same_row, agree_all, merge_all}
use Rattle.merging.specs.Sides.{column_at}
use Rattle.scoping.proofs.Basics.{both_ways, all-at, all_of, all_map, map-map, map-cong, map-append, mem-left, mem-right, sub-append}
use Rattle.scoping.proofs.Sets.{eq-same}
use Rattle.counting.proofs.Sums.{total-cong, total-zero, total-add}
use Rattle.counting.proofs.Columns.{cells_in}
use Rattle.demand3.proofs.Four.{agree-four, agree-flip}
use Rattle.demand3.proofs.Side.{or-none}
use Rattle.demand3.proofs.Merge.{or_assoc}
use Rattle.demand3.specs.Expected.{Single, four_rows, makes, sum}

-- ---- the letters l and r exchanged

unfoldable pub letter : ℕ → ℕ
letter b = cond (eqb b 108) 114 (cond (eqb b 114) 108 b)

letter-twice : (b : ℕ) → letter (letter b) ≡ b
unfolding letter
letter-twice b = go (eqb b 108) (eqb b 114) refl refl
  where
    go : (s t : Bool) → eqb b 108 ≡ s → eqb b 114 ≡ t → letter (cond s 114 (cond t 108 b)) ≡ b
    go true t e h = sym (eqb-true b 108 e)
    go false true e h = sym (eqb-true b 114 h)
    go false false e h = ap₂ (λ (s t : Bool). cond s 114 (cond t 108 b)) e h

unfoldable pub other : Bytes → Bytes
unfolding letter
other [] = []
other (q ∷ []) = q ∷ []
other (q ∷ b ∷ w) = q ∷ letter b ∷ w

other-twice : (w : Bytes) → other (other w) ≡ w
unfolding other
other-twice [] = refl
other-twice (q ∷ []) = refl
other-twice (q ∷ b ∷ w) = ap (λ (c : ℕ). q ∷ c ∷ w) (letter-twice b)

same-other : (u v : Bytes) → same u (other v) ≡ same (other u) v
same-other u v = both_ways (same u (other v)) (same (other u) v)
    (λ h. eq-same (other u) v (ap other (same-eq u (other v) h) ∙ other-twice v))
    (λ h. eq-same u (other v) (sym (other-twice u) ∙ ap other (same-eq (other u) v h)))

-- a row read under the exchanged names
abbrev pub back : Row → Row
back r w = r (other w)

pub named_other : (cs : List Bytes) (xs : List Cell) → named (map other cs) xs ≡ back (named cs xs)
unfolding named bind
named_other [] xs = refl
named_other (c ∷ cs) [] = refl
named_other (c ∷ cs) (none ∷ xs) = named_other cs xs
named_other (c ∷ cs) (some t ∷ xs) = fun_ext (λ w. ap₂ (λ (b : Bool) (r : Row). cond b (some t) (r w)) (same-other w c) (named_other cs xs))

agree-other : (vs : List Bytes) (a b : Row) → agree (map other vs) (back a) (back b) ≡ agree vs a b
unfolding agree
agree-other vs a b = all_map _ other vs ∙ ap (λ (t : Bytes → Bool). all t vs) (fun_ext (λ v. ap (λ (w : Bytes). compatible (a w) (b w)) (other-twice v)))

pub at_other : (cs : List Bytes) (i : ℕ) → column_at (map other cs) i ≡ other (column_at cs i)
unfolding other
at_other [] i = refl
at_other (c ∷ cs) zero = refl
at_other (c ∷ cs) (suc i) = at_other cs i

-- ---- a single answer under the exchanged names

unfoldable pub shift : Single → Single
unfolding other
shift s = record { rows = s.rows; names = map other s.names; constants = back s.constants }

-- rows that agree, under the exchanged names
four-other : (vs : List Bytes) (a k b l : Row) → agree_all (map other vs) (back a ∷ back k ∷ back b ∷ back l ∷ []) ≡ agree_all vs (a ∷ k ∷ b ∷ l ∷ [])
unfolding agree_all all
four-other vs a k b l = λ i.
    (agree-other vs a k i && (agree-other vs a b i && (agree-other vs a l i && true))) && ((agree-other vs k b i && (agree-other vs k l i && true)) && ((agree-other vs b l i && true) && (true && true)))

pub makes-shift : (l r : Single) (cs : List Bytes) (row x y : List Cell) → makes (shift l) (shift r) (map other cs) row x y ≡ makes l r cs row x y
unfolding makes shift merge_all merge
makes-shift l r cs row x y =
    (λ i. agree_all (sym (map-append other l.names r.names) i) (named_other l.names x i ∷ back l.constants ∷ named_other r.names y i ∷ back r.constants ∷ [])
    && same_row row (cells (map other cs) (merge_all (named_other l.names x i ∷ back l.constants ∷ named_other r.names y i ∷ back r.constants ∷ []))))
    ∙ ap₂ ◌&&◌ (four-other (l.names ++ r.names) (named l.names x) l.constants (named r.names y) r.constants)
    (ap (same_row row) (map-map _ other cs ∙ map-cong _ _ cs (λ w. ap (merge_all (four_rows l r x y)) (other-twice w))))

-- ---- the two sides in the other order

or_comm : (x y : Cell) → compatible x y ≡ true → or_cell x y ≡ or_cell y x
unfolding compatible
or_comm none none h = refl
or_comm none (some b) h = refl
or_comm (some a) none h = refl
or_comm (some a) (some b) h = ap some (same-eq a b h)

union-of : (a k b l : Row) (w : Bytes) → merge_all (a ∷ k ∷ b ∷ l ∷ []) w ≡ or_cell (merge a k w) (merge b l w)
unfolding merge_all merge
union-of a k b l w = ap (λ (c : Cell). or_cell (a w) (or_cell (k w) (or_cell (b w) c))) (or-none (l w)) ∙ sym (or_assoc (a w) (k w) (or_cell (b w) (l w)))

agree-over : (us vs : List Bytes) (a b : Row) → Sub us vs → Sub vs us → agree us a b ≡ agree vs b a
unfolding agree
agree-over us vs a b s t = both_ways (agree us a b) (agree vs b a)
    (λ h. agree-flip vs a b (all_of (λ v. compatible (a v) (b v)) vs (λ v m. all-at (λ v. compatible (a v) (b v)) us h v (t v m))))
    (λ h. all_of (λ v. compatible (a v) (b v)) us (λ v m. all-at (λ v. compatible (a v) (b v)) vs (agree-flip vs b a h) v (s v m)))

swap-three : (x y z : Bool) → (x && (y && z)) ≡ (y && (x && z))
swap-three true true z = refl
swap-three true false z = refl
swap-three false true z = refl
swap-three false false z = refl

module _ (l r : Single) (cs : List Bytes) (sub : Sub cs (l.names ++ r.names)) (row x y : List Cell) where
  abbrev U : List Bytes
  U = l.names ++ r.names

  abbrev W : List Bytes
  W = r.names ++ l.names

  uv : Sub U W
  uv = sub-append l.names r.names W (λ v. mem-right v r.names l.names) (λ v. mem-left v r.names l.names)

  vu : Sub W U
  vu = sub-append r.names l.names U (λ v. mem-right v l.names r.names) (λ v. mem-left v l.names r.names)

  abbrev a : Row
  a = named l.names x

  abbrev k : Row
  k = l.constants

  abbrev b : Row
  b = named r.names y

  abbrev c : Row
  c = r.constants

  agree_same : (p q : Row) → agree U p q ≡ agree W p q
  agree_same p q = agree-over U W p q uv vu ∙ agree-over W W q p (λ v m. m) (λ v m. m)

  four-swap : agree_all U (a ∷ k ∷ b ∷ c ∷ []) ≡ agree_all W (b ∷ c ∷ a ∷ k ∷ [])
  four-swap =
      sym (agree-four U a k b c)
      ∙ (λ i. agree_same a k i && (agree_same b c i && agree-over U W (merge a k) (merge b c) uv vu i))
      ∙ swap-three (agree W a k) (agree W b c) (agree W (merge b c) (merge a k))
      ∙ agree-four W b c a k

  union-swap : agree_all U (a ∷ k ∷ b ∷ c ∷ []) ≡ true → cells cs (merge_all (a ∷ k ∷ b ∷ c ∷ [])) ≡ cells cs (merge_all (b ∷ c ∷ a ∷ k ∷ []))
  unfolding agree
  union-swap h = cells_in _ _ cs (λ w m.
      let t = agree-four U a k b c ∙ h in
      let z = and_right (agree U b c) (agree U (merge a k) (merge b c)) (and_right (agree U a k) (agree U b c && agree U (merge a k) (merge b c)) t) in
      union-of a k b c w ∙ or_comm (merge a k w) (merge b c w) (all-at (λ v. compatible (merge a k v) (merge b c v)) U z w (sub w m)) ∙ sym (union-of b c a k w))

  makes-swap : makes l r cs row x y ≡ makes r l cs row y x
  unfolding makes
  makes-swap = go (agree_all U (a ∷ k ∷ b ∷ c ∷ [])) refl
    where
      go : (t : Bool) → agree_all U (a ∷ k ∷ b ∷ c ∷ []) ≡ t → (agree_all U (a ∷ k ∷ b ∷ c ∷ []) && same_row row (cells cs (merge_all (a ∷ k ∷ b ∷ c ∷ [])))) ≡ (agree_all W (b ∷ c ∷ a ∷ k ∷ []) && same_row row (cells cs (merge_all (b ∷ c ∷ a ∷ k ∷ []))))
      go true e = ap₂ ◌&&◌ four-swap (ap (same_row row) (union-swap e))
      go false e = ap (λ (s : Bool). s && same_row row (cells cs (merge_all (a ∷ k ∷ b ∷ c ∷ [])))) e ∙ sym (ap (λ (s : Bool). s && same_row row (cells cs (merge_all (b ∷ c ∷ a ∷ k ∷ [])))) (sym four-swap ∙ e))

total-swap : {A B : Type 0} (f : A → B → ℕ) (xs : List A) (ys : List B) → total (λ x. total (λ y. f x y) ys) xs ≡ total (λ y. total (λ x. f x y) xs) ys
unfolding total
total-swap f [] ys = sym (total-zero ys)
total-swap f (x ∷ xs) ys = ap (λ (n : ℕ). total (f x) ys + n) (total-swap f xs ys) ∙ sym (total-add (f x) (λ y. total (λ x. f x y) xs) ys)

-- ---- sums

pub sum_by : (l r l' r' : Single) (cs cs' : List Bytes) (row row' : List Cell) → l.rows ≡ l'.rows → r.rows ≡ r'.rows → ((x y : List Cell) → makes l r cs row x y ≡ makes l' r' cs' row' x y) → sum l r cs row ≡ sum l' r' cs' row'
unfolding sum
sum_by l r l' r' cs cs' row row' e f h =
    ap₂ (λ (p q : List (List Cell)). total (λ x. total (λ y. cond (makes l r cs row x y) (count same_row x p * count same_row y q) 0) (once same_row q)) (once same_row p)) e f
    ∙ total-cong _ _ (once same_row l'.rows) (λ x. total-cong _ _ (once same_row r'.rows) (λ y. ap (λ (t : Bool). cond t (count same_row x l'.rows * count same_row y r'.rows) 0) (h x y)))

pub sum-swap : (l r : Single) (cs : List Bytes) → Sub cs (l.names ++ r.names) → (row : List Cell) → sum l r cs row ≡ sum r l cs row
unfolding sum
sum-swap l r cs sub row =
    total-cong _ _ (once same_row l.rows) (λ x. total-cong _ _ (once same_row r.rows) (λ y. ap₂ (λ (t : Bool) (n : ℕ). cond t n 0) (makes-swap l r cs sub row x y) (mul_comm (count same_row x l.rows) (count same_row y r.rows))))
    ∙ total-swap (λ x y. cond (makes r l cs row y x) (count same_row y r.rows * count same_row x l.rows) 0) (once same_row l.rows) (once same_row r.rows)
