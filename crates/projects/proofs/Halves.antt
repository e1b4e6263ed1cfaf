-- An array that two texts share, the first k entries the left one's, the others the right one's: what becomes of each part when one is lent and comes back. Assumes nothing.
use Prim.Native.Nat.{ℕ, ◌+◌, ◌-◌, ◌/◌, ◌≤◌}
use mathlib.Core.Path.{◌≡◌, ap, ap₂, sym, subst, ◌∙◌}
use mathlib.Core.List.{List, ◌++◌, append-nil}
use native.Mathlib.Omega.{arith}
use borrow.Author.Rules.{part_to_end}
use borrow.Rule.Slice.PartMut.{put_mid, Post-is, take_put, same_len_mid}
use lib.ListN.{length, take, drop, length-append, length-drop}
use lib.Seq.{take_at, drop_at, drop-length, take-add, length-take-le, length_front}
use Rattle.text.specs.Text.{Bytes}
use Rattle.descending.specs.bridge.Renamed.{Shaped}
use Rattle.projects.specs.bridge.Joining.{HasRoom, HasNodes, half, HalfRoom, HalfNodes, rest, BothShaped}
use Rattle.projects.proofs.Known.{room-more, nodes-more}

pub shaped_in : (words a b c d : List (List ℕ)) → a ≡ b → c ≡ d → Shaped words a (length a) (length c) → Shaped words b (length b) (length d)
shaped_in words a b c d e f s =
    subst (λ (y : List (List ℕ)). Shaped words b (length b) (length y)) f (subst (λ (x : List (List ℕ)). Shaped words x (length x) (length c)) e s)

-- ---- half of an array is lent to the left text, whose entries are the first k of it

pub half-low : (v : List (List ℕ)) → length v / 2 ≤ length v
half-low v = omega arith

half-long : (v : List (List ℕ)) → length (half v) ≡ length v / 2
half-long v = length-take-le (length v / 2) v (half-low v)

pub half_room : (s : Bytes) (v : List (List ℕ)) → HalfRoom s v → HasRoom s (half v)
half_room s v h short = let r = h short in let e = half-long v in omega (arith, r, e)

pub half-nodes : (s : Bytes) (v : List (List ℕ)) → HalfNodes s v → HasNodes s (half v)
half-nodes s v h short m g l = let r = h short m g l in let e = half-long v in omega (arith, r, e)

module _ (v l : List (List ℕ)) (kept : length l ≡ length (half v)) (k : ℕ) (few : k ≤ length l) where
  abbrev noted : List (List ℕ)
  noted = l ++ drop (length v / 2) v

  -- what is left has room for as much
  half-left : length (half v) ≤ length (rest k noted)
  half-left =
      let a = half-long v in
      let b = ap length (part_to_end noted k) ∙ length-drop k noted in
      let d = length_front v l (length v / 2) kept in
      omega (arith, a, b, d, kept, few)

  pub room-left : (s : Bytes) → HalfRoom s v → HasRoom s (rest k noted)
  room-left s h = room-more s (half v) (rest k noted) half-left (half_room s v h)

  pub nodes-left : (s : Bytes) → HalfNodes s v → HasNodes s (rest k noted)
  nodes-left s h = nodes-more s (half v) (rest k noted) half-left (half-nodes s v h)

-- ---- what stands behind the first k comes back

module _ (k : ℕ) (v : List (List ℕ)) (high : k ≤ length v) (r : List (List ℕ)) where
  abbrev whole : List (List ℕ)
  whole = put_mid k (length v - k) v r

  first-stays : take k whole ≡ take k v
  first-stays = take_put k (length v - k) v r high

  behind : drop k whole ≡ r
  behind =
      drop_at (take k v) (r ++ drop (length v - k) (drop k v)) k (length-take-le k v high)
      ∙ ap (λ (w : List (List ℕ)). r ++ w) (Post-is k (length v) v high ∙ drop-length v)
      ∙ append-nil r

  -- the first j of it are the right text's
  module _ (j : ℕ) where
    abbrev cut : List (List ℕ)
    cut = take (k + j) whole

    cut-is : cut ≡ take k v ++ take j r
    cut-is = take-add k j whole ∙ ap₂ ◌++◌ first-stays (ap (take j) behind)

    pub cut-first : take k v ≡ take k cut
    cut-first = sym (ap (take k) cut-is ∙ take_at (take k v) (take j r) k (length-take-le k v high))

    pub cut-rest : take j r ≡ rest k cut
    cut-rest = sym (part_to_end cut k ∙ ap (drop k) cut-is ∙ drop_at (take k v) (take j r) k (length-take-le k v high))

    pub cut_high : k ≤ length cut
    cut_high = let a = ap length cut-is ∙ length-append (take k v) (take j r) in let b = length-take-le k v high in omega (arith, a, b)

  module _ (kept : length r ≡ length (rest k v)) where
    pub whole_long : length whole ≡ length v
    whole_long = same_len_mid k (length v - k) v r kept

    pub cut-long : (j : ℕ) (x : List (List ℕ)) → length x ≡ length (cut j) → length (x ++ drop (k + j) whole) ≡ length v
    cut-long j x e = length_front whole x (k + j) e ∙ whole_long

    module _ (j : ℕ) (few : j ≤ length r) where
      pub cut_fits : k + j ≤ length v
      cut_fits = let a = ap length (part_to_end v k) ∙ length-drop k v in omega (arith, a, kept, few, high)

      pub cut-room : k + j ≤ length whole
      cut-room = subst (λ (n : ℕ). k + j ≤ n) (sym whole_long) cut_fits

pub cut-shaped : (words nodes : List (List ℕ)) (m : ℕ) (nodes_high : m ≤ length nodes) (b : List (List ℕ)) (i : ℕ) (v : List (List ℕ)) (k : ℕ) (high : k ≤ length v) (r : List (List ℕ)) (j : ℕ)
    → Shaped words (take m nodes) (length (take m nodes)) (length (take k v)) → Shaped words (take i b) (length (take i b)) (length (take j r)) → BothShaped words (cut m nodes nodes_high b i) m (cut k v high r j) k
cut-shaped words nodes m nodes_high b i v k high r j x y = record {
  left = shaped_in words _ _ _ _ (cut-first m nodes nodes_high b i) (cut-first k v high r j) x;
  right = shaped_in words _ _ _ _ (cut-rest m nodes nodes_high b i) (cut-rest k v high r j) y;
  nodes_high = cut_high m nodes nodes_high b i;
  spots_high = cut_high k v high r j;
}

-- ---- the first k come back, then the others

module _ (k : ℕ) (v : List (List ℕ)) (high : k ≤ length v) (l : List (List ℕ)) (kept : length l ≡ length (take k v)) where
  pub still-high : k ≤ length (l ++ drop k v)
  still-high = subst (λ (n : ℕ). k ≤ n) (sym (length_front v l k kept)) high

  pub front_long : length (l ++ drop k v) ≡ length v
  front_long = length_front v l k kept

  pub rest-stays : rest k (l ++ drop k v) ≡ rest k v
  rest-stays = part_to_end (l ++ drop k v) k ∙ drop_at l (drop k v) k (kept ∙ length-take-le k v high) ∙ sym (part_to_end v k)

  pub shaped-stays : (words nodes : List (List ℕ)) (m : ℕ) → BothShaped words nodes m v k → Shaped words (rest m nodes) (length (rest m nodes)) (length (rest k (l ++ drop k v)))
  shaped-stays words nodes m b = subst (λ (w : List (List ℕ)). Shaped words (rest m nodes) (length (rest m nodes)) (length w)) (sym rest-stays) b.right

  module _ (r : List (List ℕ)) where
    abbrev both : List (List ℕ)
    both = whole k (l ++ drop k v) still-high r

    pub left-now : l ≡ take k both
    left-now = sym (first-stays k (l ++ drop k v) still-high r ∙ take_at l (drop k v) k (kept ∙ length-take-le k v high))

    pub right-now : r ≡ rest k both
    right-now = sym (part_to_end both k ∙ behind k (l ++ drop k v) still-high r)

    module _ (kept' : length r ≡ length (rest k (l ++ drop k v))) where
      pub both_long : length both ≡ length v
      both_long = whole_long k (l ++ drop k v) still-high r kept' ∙ length_front v l k kept

      pub both_high : k ≤ length both
      both_high = subst (λ (n : ℕ). k ≤ n) (sym both_long) high
