-- What is found of a side gives the lines and the columns that the merge's definitions name. Assumes nothing.
use Prim.Native.Nat.{ℕ, suc, ◌≤◌}
use mathlib.Core.Path.{◌≡◌, refl, sym, ap, ap₂, ◌∙◌}
use mathlib.Core.List.{List, [], ◌∷◌, map}
use mathlib.Core.Bool.{Bool, true, false}
use native.Mathlib.Omega.{arith}
use lib.ListN.{length}
use lib.Count.{ones}
use lib.Dec.{ltb}
use Rattle.text.specs.Text.{Bytes, Line}
use Rattle.text.specs.Word.{bytes}
use Rattle.text.specs.Field.{decimal}
use Rattle.algebra.specs.Query.{Pair}
use Rattle.algebra.specs.Layout.{put}
use Rattle.algebra.specs.Tally.{bounds}
use Rattle.scoping.specs.Sets.{all}
use Rattle.scoping.specs.Premises.{inside, different_positions}
use Rattle.scoping.specs.Rename.{rename_in_graph_pattern}
use Rattle.merging.specs.Sides.{Constant, Side, standardized, constant_columns, constant_terms, renamed_pattern, free_columns}
use Rattle.merging.specs.Request.{Projection, by_position, constants_in}
use Rattle.merging.proofs.Lists.{sorted-length, map-length}
use Rattle.merging.proofs.Lines.{side-lines, side-lines-bound}
use Rattle.mask.specs.bridge.Words.{mask_value}
use Rattle.columns.specs.bridge.Columns.{picked}
use Rattle.columns.specs.bridge.Listed.{positions_in, terms_from}
use Rattle.sides.specs.bridge.Side.{mask_at, new_names, OutlineIs, join_line, values_lines}
use Rattle.sides.specs.declared.side.Outline.{Outline}
use Rattle.projects.proofs.Picks.{free-columns, constant-columns, constant-terms}

module _ (text : Bytes) (second : Bool) (constants : Bytes) (x : Projection) (js ks : List Pair) (joins at lines : List ℕ) (o : Outline) (is : OutlineIs text second constants x js ks joins at lines o)
    (prefix : ℕ) (cs : List Bytes) (named : cs ≡ map (new_names prefix second x js) x.columns) where
  abbrev ds : List Bytes
  ds = map (new_names prefix second x js) x.columns

  -- the side as the definitions have it
  abbrev pub side : Side
  side = standardized prefix x.columns x.inner (positions_in second js) (by_position (constants_in ks))

  long : length ds ≡ length x.columns
  long = map-length (new_names prefix second x js) x.columns

  constant-is : mask_value o.constant ≡ mask_at (positions_in false ks) (length ds)
  constant-is = is.constant ∙ ap (mask_at (positions_in false ks)) (sym long)

  pub side-free : picked 0 (mask_value o.constant) cs ≡ free_columns side
  unfolding free_columns
  side-free = ap₂ (picked 0) constant-is named ∙ free-columns ks ds

  module _ (many-ones : ones (mask_value o.constant) ≡ length (picked 1 (mask_value o.constant) cs)) (narrow : length x.columns ≤ bounds.columns) (different : different_positions (positions_in false ks) ≡ true) (low : inside x.columns (positions_in false ks) ≡ true) where
    below : all (λ i. ltb i (length ds)) (positions_in false ks) ≡ true
    unfolding inside
    below = ap (λ (k : ℕ). all (λ i. ltb i k) (positions_in false ks)) long ∙ low

    columns-are : picked 1 (mask_value o.constant) cs ≡ constant_columns ds (by_position (constants_in ks))
    columns-are = ap₂ (picked 1) constant-is named ∙ constant-columns ks different ds below

    terms-are : terms_from ks 0 bounds.columns ≡ constant_terms (by_position (constants_in ks))
    terms-are = constant-terms ks different (length ds) (let d = long in omega arith) below

    many : o.constants ≡ length (by_position (constants_in ks))
    many = is.kept.many ∙ sym (sorted-length (constants_in ks) ∙ go ks)
      where
        go : (xs : List Pair) → length (constants_in xs) ≡ length xs
        go [] = refl
        go (y ∷ ys) = ap suc (go ys)

    -- the lines of the renamed pattern, constants bound
    pub side-is : (t : List Line) → join_line o.constants (put (rename_in_graph_pattern (new_names prefix second x js) x.inner) (values_lines o.constants (ones (mask_value o.constant)) (picked 1 (mask_value o.constant) cs) (terms_from ks 0 bounds.columns) t))
        ≡ put (renamed_pattern side) t
    side-is t =
        (λ i. join_line (many i) (put (rename_in_graph_pattern (new_names prefix second x js) x.inner) (values_lines (many i) (ones (mask_value o.constant)) (columns-are i) (terms-are i) t)))
        ∙ go (by_position (constants_in ks)) refl (many-ones ∙ ap length columns-are)
      where
        go : (bs : List Constant) → by_position (constants_in ks) ≡ bs → ones (mask_value o.constant) ≡ length (constant_columns ds bs)
            → join_line (length bs) (put (rename_in_graph_pattern (new_names prefix second x js) x.inner) (values_lines (length bs) (ones (mask_value o.constant)) (constant_columns ds bs) (constant_terms bs) t)) ≡ put (renamed_pattern side) t
        go [] e o = sym (side-lines side t e)
        go (b ∷ bs) e o =
            ap (λ (k : ℕ). (bytes "join" ∷ []) ∷ put (rename_in_graph_pattern (new_names prefix second x js) x.inner) ((bytes "values" ∷ decimal k ∷ decimal 1 ∷ []) ∷ (bytes "cols" ∷ constant_columns ds (b ∷ bs)) ∷ (bytes "row" ∷ constant_terms (b ∷ bs)) ∷ t)) o
            ∙ sym (side-lines-bound side b bs t e)
