-- The columns and lines of two sides are those of the merged tree, or of without's. Assumes nothing.
use Prim.Native.Nat.{ℕ, zero, suc, ◌+◌, ◌-◌, ◌/◌, ◌≤◌, ◌<◌}
use mathlib.Core.Path.{◌≡◌, refl, sym, ap, ap₂, ◌∙◌}
use mathlib.Core.List.{List, [], ◌∷◌, ◌++◌, map}
use mathlib.Core.Bool.{Bool, true, false, not}
use native.Mathlib.Omega.{arith}
use lib.ListN.{length, get_or}
use lib.Count.{ones}
use lib.Dec.{ltb}
use borrow.Author.Tests.{ltb-true}
use Rattle.text.specs.Text.{Bytes, Line}
use Rattle.text.specs.Word.{bytes}
use Rattle.text.proofs.Basics.{and_left, and_right}
use Rattle.algebra.specs.Query as Query
use Rattle.algebra.specs.Valid.{mem}
use Rattle.algebra.specs.Layout.{put}
use Rattle.scoping.specs.Label.{prefix_l, prefix_r}
use Rattle.scoping.specs.Sets.{all, keep}
use Rattle.scoping.specs.Premises.{inside}
use Rattle.merging.specs.Sides.{Side, standardized, column_at, lefts, rights, left_join_variables, renamed_pattern, free_columns, merged_columns}
use Rattle.merging.specs.Request.{Projection, position, join_positions, by_position, constants_in, Request, request, left_side, right_side}
use Rattle.merging.specs.bridge.Combined.{combined}
use Rattle.merging.proofs.Combined.{join-lines, minus-lines}
use Rattle.merging.proofs.Lists.{map-length}
use Rattle.mask.specs.bridge.Mask.{mask_of}
use Rattle.mask.specs.bridge.Words.{mask_value}
use Rattle.columns.specs.bridge.Columns.{picked, gone_bits}
use Rattle.mask.specs.bridge.Mask.{count_of}
use Rattle.mask.proofs.Bits.{mask-ones}
use Rattle.columns.proofs.Counted.{picked-count}
use Rattle.columns.specs.bridge.Listed.{positions_in}
use Rattle.sides.specs.bridge.Side.{mask_at, new_names, OutlineIs}
use Rattle.sides.specs.declared.side.Outline.{Outline}
use Rattle.projects.specs.bridge.Pair.{gone_mask, head_columns, head_word}
use Rattle.projects.proofs.Picks.{picked-gone}
use Rattle.projects.proofs.Among.{picked-mem}
use Rattle.projects.proofs.SideLines.{side, side-free}

-- ---- positions of a join list

pub lefts-are : (xs : List Query.Pair) → lefts (join_positions xs) ≡ positions_in false xs
lefts-are [] = refl
lefts-are (x ∷ xs) = ap (λ (l : List ℕ). position x.first ∷ l) (lefts-are xs)

pub rights-are : (xs : List Query.Pair) → rights (join_positions xs) ≡ positions_in true xs
rights-are [] = refl
rights-are (x ∷ xs) = ap (λ (l : List ℕ). position x.second ∷ l) (rights-are xs)

-- the new names of the columns at left positions
join_names : (f : Bytes → Bytes) (cs : List Bytes) (xs : List Query.Pair) → all (λ i. ltb i (length cs)) (positions_in false xs) ≡ true
    → map (λ i. get_or (map f cs) i []) (positions_in false xs) ≡ map f (map (λ j. column_at cs j.left) (join_positions xs))
unfolding all
join_names f cs [] h = refl
join_names f cs (x ∷ xs) h =
    ap₂ ◌∷◌ (map_at cs (position x.first) (ltb-true (position x.first) (length cs) (and_left (ltb (position x.first) (length cs)) (all (λ i. ltb i (length cs)) (positions_in false xs)) h)))
    (join_names f cs xs (and_right (ltb (position x.first) (length cs)) (all (λ i. ltb i (length cs)) (positions_in false xs)) h))
  where
    map_at : (ds : List Bytes) (i : ℕ) → i < length ds → get_or (map f ds) i [] ≡ f (get_or ds i [])
    map_at [] i l = absurd (omega arith)
    map_at (d ∷ ds) zero l = refl
    map_at (d ∷ ds) (suc i) l = map_at ds i (omega arith)

gone_long : (m : ℕ) (js ds : List Bytes) → length (gone_bits m js ds) ≡ length ds
unfolding gone_bits
gone_long m js [] = refl
gone_long m js (d ∷ ds) = ap suc (gone_long (m / 2) js ds)

-- how many columns stay where others go
pub gone-width : (m : ℕ) (js ds : List Bytes) (gone c : ℕ) → gone ≡ mask_of (gone_bits m js ds) → c ≡ length ds → (ones gone ≤ c) × (c - ones gone ≡ length (picked 0 gone ds))
gone-width m js ds gone c e w =
    let o : ones gone ≡ count_of (gone_bits m js ds) = ap ones e ∙ mask-ones (gone_bits m js ds) in
    let q : length (picked 0 gone ds) + count_of (gone_bits m js ds) ≡ length ds = ap (λ (k : ℕ). length (picked 0 k ds) + count_of (gone_bits m js ds)) e ∙ (picked-count (gone_bits m js ds) ds (gone_long m js ds)).1 in
    (omega arith, omega arith)

-- ---- both sides

module _ (left right leftConstants rightConstants : Bytes) (x y : Projection) (js ks ls : List Query.Pair) (ljoins lat llines rjoins rat rlines : List ℕ) (l r : Outline)
    (left_is : OutlineIs left false leftConstants x js ks ljoins lat llines l) (right_is : OutlineIs right true rightConstants y js ls rjoins rat rlines r)
    (cs ds : List Bytes) (left-named : cs ≡ map (new_names prefix_l false x js) x.columns) (right-named : ds ≡ map (new_names prefix_r true y js) y.columns)
    (low : inside x.columns (positions_in false js) ≡ true) where
  -- what the texts ask for
  abbrev pub asked : Request
  asked = request x y (join_positions js) (by_position (constants_in ks)) (by_position (constants_in ls))

  abbrev lside : Side
  lside = side left false leftConstants x js ks ljoins lat llines l left_is prefix_l cs left-named

  abbrev rside : Side
  rside = side right true rightConstants y js ls rjoins rat rlines r right_is prefix_r ds right-named

  left-side : lside ≡ left_side asked
  left-side = ap (λ (is : List ℕ). standardized prefix_l x.columns x.inner is (by_position (constants_in ks))) (sym (lefts-are js))

  right_side_lem : rside ≡ right_side asked
  right_side_lem = ap (λ (is : List ℕ). standardized prefix_r y.columns y.inner is (by_position (constants_in ls))) (sym (rights-are js))

  -- ---- which right columns stay

  left-long : length (map (new_names prefix_l false x js) x.columns) ≡ length x.columns
  left-long = map-length (new_names prefix_l false x js) x.columns

  joined-are : (c : Bytes) → mem c (picked 1 (mask_value l.joined) cs) ≡ mem c (map (left_side asked).name (left_join_variables (left_side asked) (join_positions js)))
  unfolding inside
  joined-are c =
      ap (mem c) (ap₂ (picked 1) (left_is.joined ∙ ap (mask_at (positions_in false js)) (sym left-long)) left-named)
      ∙ picked-mem c (positions_in false js) (map (new_names prefix_l false x js) x.columns) (ap (λ (k : ℕ). all (λ i. ltb i k) (positions_in false js)) left-long ∙ low)
      ∙ ap (mem c) (join_names (new_names prefix_l false x js) x.columns js low)
      ∙ ap (λ (z : Side). mem c (map z.name (left_join_variables z (join_positions js)))) left-side

  left-are : picked 0 (mask_value l.constant) cs ≡ free_columns (left_side asked)
  left-are = side-free left false leftConstants x js ks ljoins lat llines l left_is prefix_l cs left-named ∙ ap free_columns left-side

  module _ (gone : ℕ) (gone-is : gone ≡ gone_mask l cs r ds) where
    merged-are : picked 0 (mask_value l.constant) cs ++ picked 0 gone ds ≡ merged_columns (left_side asked) (right_side asked) (join_positions js)
    unfolding merged_columns
    merged-are = ap₂ ◌++◌
        left-are
        (ap (λ (m : ℕ). picked 0 m ds) gone-is
        ∙ picked-gone (picked 1 (mask_value l.joined) cs) ds (mask_value r.constant)
        ∙ (λ i. keep (λ c. not (joined-are c i)) (picked 0 (mask_value r.constant) ds))
        ∙ ap (keep (λ c. not (mem c (map (left_side asked).name (left_join_variables (left_side asked) (join_positions js))))))
        (side-free right true rightConstants y js ls rjoins rat rlines r right_is prefix_r ds right-named ∙ ap free_columns right_side_lem))

    -- the lines of both, under the columns, are the tree's
    pub combined-lines : (less : Bool) (t : List Line) → (bytes "project" ∷ head_columns less (picked 0 (mask_value l.constant) cs) (picked 0 gone ds)) ∷ (head_word less ∷ []) ∷ put (renamed_pattern lside) (put (renamed_pattern rside) t) ≡ put (combined less asked) t
    unfolding head_columns head_word
    combined-lines false t =
        ap (λ (es : List Bytes). (bytes "project" ∷ es) ∷ (bytes "join" ∷ []) ∷ put (renamed_pattern lside) (put (renamed_pattern rside) t)) merged-are
        ∙ ap₂ (λ (a b : Side). (bytes "project" ∷ merged_columns (left_side asked) (right_side asked) (join_positions js)) ∷ (bytes "join" ∷ []) ∷ put (renamed_pattern a) (put (renamed_pattern b) t)) left-side right_side_lem
        ∙ sym (join-lines asked t)
    combined-lines true t =
        ap (λ (es : List Bytes). (bytes "project" ∷ es) ∷ (bytes "minus" ∷ []) ∷ put (renamed_pattern lside) (put (renamed_pattern rside) t)) left-are
        ∙ ap₂ (λ (a b : Side). (bytes "project" ∷ free_columns (left_side asked)) ∷ (bytes "minus" ∷ []) ∷ put (renamed_pattern a) (put (renamed_pattern b) t)) left-side right_side_lem
        ∙ sym (minus-lines asked t)
