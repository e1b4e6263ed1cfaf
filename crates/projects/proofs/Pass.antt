-- A pass of a push or a merge: the head and the sides, written one after the other, are the tree's text; measured first, then written. Assumes nothing.
use Prim.Native.Nat.{ℕ, ◌≤◌}
use mathlib.Core.Path.{◌≡◌, refl, sym, ap, ◌∙◌}
use mathlib.Core.List.{List, [], ◌∷◌, ◌++◌, map}
use mathlib.Core.Bool.{true, false}
use native.Mathlib.Omega.{arith}
use lib.ListN.{length, get_or, take}
use Rattle.text.specs.Text.{Bytes, Line, text_of}
use Rattle.text.specs.Word.{bytes}
use Rattle.algebra.specs.Query.{Pair}
use Rattle.algebra.specs.Layout.{layout}
use Rattle.algebra.specs.Tally.{bounds}
use Rattle.emit.specs.declared.Writer.{Writer}
use Rattle.emit.specs.bridge.Writer.{Wrote, Left, state}
use Rattle.answers.specs.Outcome.{Answer, written, Answered}
use Rattle.answers.proofs.Answers.{answered}
use Rattle.scoping.specs.Label.{prefix_l, prefix_r, prefix_v}
use Rattle.merging.specs.Request.{Projection}
use Rattle.merging.proofs.Lists.{map-length}
use Rattle.walking.specs.bridge.Code.{Inside}
use Rattle.mask.specs.bridge.Words.{mask_value}
use Rattle.columns.specs.bridge.Columns.{columns_of, picked}
use Rattle.sides.specs.declared.side.FoundSide.{FoundSide}
use Rattle.sides.specs.bridge.Side.{new_names, IsNamed, SideWritten}
use Rattle.sides.proofs.Sides.{side-inside, side-columns, side-ones, side-room, side-width}
use Rattle.projects.specs.declared.merge.FoundPair.{FoundPair}
use Rattle.projects.specs.bridge.Joining.{pushed_tree, pushed_behind, combined_tree, joined_behind, rest}
use Rattle.projects.specs.bridge.Pair.{left_columns, right_columns, LeftNamed, RightNamed, gone_mask, HeaderFits, head_columns, head_word}
use Rattle.projects.proofs.SideLines.{side-is}
use Rattle.projects.proofs.Merged.{gone-width, combined-lines}
use Rattle.projects.proofs.Whole.{pass-one, pass-two, pushed-lines, pushed-is}
use Rattle.projects.proofs.Outcomes.{joined_is}

-- ---- one side: a push

module _ (text : Bytes) (table spots : List (List ℕ)) (constants : Bytes) (news : List (List ℕ)) (f : FoundSide) (x : Projection) (ks : List Pair) (d : IsNamed text table spots prefix_v false constants news f x [] ks) (head : Bytes) where
  abbrev columns : List Bytes
  columns = columns_of text table news spots f.outline.columns

  columns-are : columns ≡ map (new_names prefix_v false x []) x.columns
  columns-are = side-columns _ _ _ _ _ _ _ _ _ _ _ _ _ _ _ _ _ _ d

  pub push-pass : {u u₁ u₂ : Writer} → ((t : List Line) → Left u u₁ (head ++ text_of ((bytes "project" ∷ picked 0 (mask_value f.outline.constant) columns) ∷ t)) (text_of t)) → SideWritten text table spots constants news f u₁ u₂ → Wrote u u₂ (head ++ layout (pushed_tree x ks))
  push-pass {u} {u₁} {u₂} h w = record {
    same = (w prefix_v false x [] ks d []).same ∙ (h []).same;
    puts =
        pass-one head (state u) (state u₁) (state u₂) (λ t. (bytes "project" ∷ picked 0 (mask_value f.outline.constant) columns) ∷ t) _ _ (pushed_tree x ks) (λ t. (h t).puts) (λ t. (w prefix_v false x [] ks d t).puts)
        (side-is text false constants x [] ks _ _ _ _ d.found.is prefix_v columns columns-are (side-ones _ _ _ _ _ _ _ _ _ _ _ _ _ _ _ _ _ _ d) (d.found.stands.narrow x refl) d.found.terms.different d.found.terms_inside)
        (pushed-lines text constants x ks _ _ _ _ d.found.is columns columns-are);
  }

  pub push-answered : (out out' : Bytes) (r : Answer) → Answered (written (head ++ layout (pushed_tree x ks))) out out' r → Answered (pushed_behind head x ks) out out' r
  push-answered out out' r a = answered _ _ out out' r (pushed-is head x ks d.found.terms_inside) a

-- ---- two sides: a merge

module _ (left right : Bytes) (p : FoundPair) (tables : List (List (List ℕ))) (spots : List (List ℕ)) (news : List (List (List ℕ))) (leftConstants rightConstants : Bytes) (x y : Projection) (js ks ls : List Pair)
    (ld : LeftNamed left leftConstants p tables spots news x js ks) (rd : RightNamed right rightConstants p tables spots news y js ls) where
  -- what the columns ask for
  pub heads-need : Inside 1024 (take p.spots spots) p.left.outline.columns × Inside 1024 (rest p.spots spots) p.right.outline.columns
  heads-need = (side-inside _ _ _ _ _ _ _ _ _ _ _ _ _ _ _ _ _ _ ld, side-inside _ _ _ _ _ _ _ _ _ _ _ _ _ _ _ _ _ _ rd)

  pub right-narrow : p.right.outline.columns ≤ bounds.columns
  right-narrow = let w = rd.found.is.width in let n = rd.found.stands.narrow y refl in omega arith

  abbrev lcolumns : List Bytes
  lcolumns = left_columns left p tables spots news

  abbrev rcolumns : List Bytes
  rcolumns = right_columns right p tables spots news

  lcolumns-are : lcolumns ≡ map (new_names prefix_l false x js) x.columns
  lcolumns-are = side-columns _ _ _ _ _ _ _ _ _ _ _ _ _ _ _ _ _ _ ld

  rcolumns-are : rcolumns ≡ map (new_names prefix_r true y js) y.columns
  rcolumns-are = side-columns _ _ _ _ _ _ _ _ _ _ _ _ _ _ _ _ _ _ rd

  rcolumns-long : p.right.outline.columns ≡ length rcolumns
  rcolumns-long = rd.found.is.width ∙ sym (ap length rcolumns-are ∙ map-length (new_names prefix_r true y js) y.columns)

  pub header-fits : (gone : ℕ) → gone ≡ gone_mask p.left.outline lcolumns p.right.outline rcolumns → HeaderFits p.left.outline lcolumns gone p.right.outline rcolumns
  header-fits gone e =
      let w = gone-width (mask_value p.right.outline.constant) (picked 1 (mask_value p.left.outline.joined) lcolumns) rcolumns gone p.right.outline.columns e rcolumns-long in
      record { left_room = side-room _ _ _ _ _ _ _ _ _ _ _ _ _ _ _ _ _ _ ld; left = side-width _ _ _ _ _ _ _ _ _ _ _ _ _ _ _ _ _ _ ld; right_room = w.0; right = w.1 }

  pub merge-pass : {u u₁ u₂ u₃ : Writer} (gone : ℕ) → gone ≡ gone_mask p.left.outline lcolumns p.right.outline rcolumns → (head : Bytes)
      → ((t : List Line) → Left u u₁ (head ++ text_of ((bytes "project" ∷ head_columns p.minus (picked 0 (mask_value p.left.outline.constant) lcolumns) (picked 0 gone rcolumns)) ∷ (head_word p.minus ∷ []) ∷ t)) (text_of t))
      → SideWritten left (get_or tables 0 []) (take p.spots spots) leftConstants (get_or news 0 []) p.left u₁ u₂ → SideWritten right (get_or tables 1 []) (rest p.spots spots) rightConstants (get_or news 1 []) p.right u₂ u₃
      → Wrote u u₃ (head ++ layout (combined_tree p.minus x y js ks ls))
  merge-pass {u} {u₁} {u₂} {u₃} gone gone-is head h w v = record {
    same = (v prefix_r true y js ls rd []).same ∙ (w prefix_l false x js ks ld []).same ∙ (h []).same;
    puts =
        pass-two head (state u) (state u₁) (state u₂) (state u₃)
        (λ t. (bytes "project" ∷ head_columns p.minus (picked 0 (mask_value p.left.outline.constant) lcolumns) (picked 0 gone rcolumns)) ∷ (head_word p.minus ∷ []) ∷ t)
        _ _ _ _ (combined_tree p.minus x y js ks ls) (λ t. (h t).puts) (λ t. (w prefix_l false x js ks ld t).puts) (λ t. (v prefix_r true y js ls rd t).puts)
        (side-is left false leftConstants x js ks _ _ _ _ ld.found.is prefix_l lcolumns lcolumns-are (side-ones _ _ _ _ _ _ _ _ _ _ _ _ _ _ _ _ _ _ ld) (ld.found.stands.narrow x refl) ld.found.terms.different ld.found.terms_inside)
        (side-is right true rightConstants y js ls _ _ _ _ rd.found.is prefix_r rcolumns rcolumns-are (side-ones _ _ _ _ _ _ _ _ _ _ _ _ _ _ _ _ _ _ rd) (rd.found.stands.narrow y refl) rd.found.terms.different rd.found.terms_inside)
        (combined-lines left right leftConstants rightConstants x y js ks ls _ _ _ _ _ _ _ _ ld.found.is rd.found.is lcolumns rcolumns lcolumns-are rcolumns-are ld.found.joins-inside gone gone-is p.minus []);
  }

  module _ (head : Bytes) where
    asked-for : joined_behind p.minus head x y js ks ls ≡ written (head ++ layout (combined_tree p.minus x y js ks ls))
    asked-for = joined_is p.minus head x y js ks ls ld.found.joins-inside rd.found.joins-inside ld.found.terms_inside rd.found.terms_inside ld.joins-once rd.joins-once

    pub merge-answered : (out out' : Bytes) (r : Answer) → Answered (written (head ++ layout (combined_tree p.minus x y js ks ls))) out out' r → Answered (joined_behind p.minus head x y js ks ls) out out' r
    merge-answered out out' r a = answered _ _ out out' r asked-for a
