-- A tree's text around its outermost projection's inner pattern: what stands before, the pattern's own lines, the rest. Assumes nothing.
use Prim.Native.Nat.{ℕ, ◌+◌, ◌-◌, ◌≤◌}
use mathlib.Core.Path.{◌≡◌, sym, ap, subst, ◌∙◌}
use mathlib.Core.List.{List, [], ◌++◌}
use mathlib.Core.Option.{none, some}
use native.Mathlib.Omega.{arith}
use lib.ListN.{length, get_or, take, drop, take-append-drop}
use lib.Seq.{drop-append_seam, drop-drop}
use Rattle.text.specs.Text.{Bytes, Line, text_of, part, lines_from}
use Rattle.text.proofs.Texts.{Ended}
use Rattle.algebra.specs.Tree.{Pattern}
use Rattle.algebra.specs.Layout.{put, layout}
use Rattle.algebra.specs.Reader.{reads}
use Rattle.algebra.specs.Texts.{read_tree}
use Rattle.algebra.specs.Valid.{Valid}
use Rattle.algebra.specs.Tally.{bounds}
use Rattle.merging.specs.Request.{Projection}
use Rattle.merging.specs.Negate.{modify_outermost_projection}
use Rattle.negating.specs.Projections.{outermost_projection}
use Rattle.negating.specs.bridge.Lines.{from_project, Projects}
use Rattle.negating.proofs.Found.{Outermost, here, under-distinct, under-reduced, under-slice, under_orderby, under_group}
use Rattle.negating.proofs.TreeLines.{down_to, behind, tree-lines}
use Rattle.negating.proofs.Placed.{Placed, placed, not-placed, ended-behind, inner-text, modified-text}
use Rattle.filtering.specs.bridge.Copying.{copying}
use Rattle.filtering.proofs.Copying.{tree-copy}
use Rattle.filtering.proofs.Read.{tree-at, tree-valid, tree-ended, columns-few}
use Rattle.placing.specs.bridge.Fields.{columns_on}
use Rattle.placing.specs.bridge.Ends.{EndsAt}

pub cancel : (a b c : Bytes) → a ++ b ≡ a ++ c → b ≡ c
cancel a b c e = sym (drop-append_seam a b) ∙ ap (drop (length a)) e ∙ drop-append_seam a c

pub inner-valid : {p : Pattern} {x : Projection} → Outermost p x → Valid p → Valid x.inner
unfolding Valid
inner-valid here v = v.1
inner-valid (under-distinct o) v = inner-valid o v
inner-valid (under-reduced o) v = inner-valid o v
inner-valid (under-slice o) v = inner-valid o v.2
inner-valid (under_orderby o) v = inner-valid o v.1
inner-valid (under_group o) v = inner-valid o v.3

module _ (s : Bytes) (p : Pattern) (e : read_tree s ≡ reads p) where
  -- the way down finds no projection where there is none
  pub none_found : from_project (lines_from s 0) ≡ none → outermost_projection p ≡ none
  none_found n = not-placed s 0 p [] (tree-at s p e) n

  module _ (line inner : ℕ) (w : Projects s 0 line inner) where
    pub place : Placed s p [] line inner
    place = placed s 0 line inner p [] (tree-at s p e) w

    abbrev pub Found : Projection
    Found = place.projection

    pub is_found : outermost_projection p ≡ some Found
    is_found = place.is

    abbrev pub way : Outermost p Found
    way = place.way

    -- its columns are those of its line
    pub columns-are : columns_on s line ≡ Found.columns
    columns-are = ap (λ (ls : List Line). drop 1 (get_or ls 0 [])) place.line_at

    pub columns-low : length (columns_on s line) ≤ bounds.columns
    columns-low = subst (λ (cs : List Bytes). length cs ≤ bounds.columns) (sym columns-are) (columns-few s p e way)

    -- a tree that is modified there
    pub modified : (f : List Bytes → Pattern → Pattern) → layout (modify_outermost_projection f p) ≡ take inner s ++ text_of (put (f Found.columns Found.inner) (behind way []))
    unfolding layout
    modified f = modified-text s 0 line inner p [] (tree-at s p e) (tree-ended s p e) w.high place f

    lines-ended : Ended (put Found.inner (behind way []))
    lines-ended = ended-behind (down_to way) _ (subst Ended (tree-lines way []) (tree-ended s p e))

    module _ (end : ℕ) (x : EndsAt s inner end) where
      -- the pattern's own lines, in front of others
      pub inner-copied : (v : List Line) → text_of (put Found.inner v) ≡ part inner end s ++ text_of v
      inner-copied v =
          ap text_of (sym (tree-copy Found.inner (behind way []) v (inner-valid way (tree-valid s p e))))
          ∙ ap (λ (ls : List Line). text_of (copying ls 1 v)) (sym place.inner_at)
          ∙ x.copied (subst Ended (sym place.inner_at) lines-ended) v

      -- what stands behind them
      pub rest-text : text_of (behind way []) ≡ drop end s
      rest-text =
          let low = x.low in
          let n : inner + (end - inner) ≡ end = omega arith in
          cancel (part inner end s) (text_of (behind way [])) (drop end s)
          (sym (inner-copied (behind way []))
          ∙ sym (inner-text s 0 line inner p [] (tree-at s p e) (tree-ended s p e) w.high place)
          ∙ sym (take-append-drop (end - inner) (drop inner s))
          ∙ ap (λ (b : Bytes). part inner end s ++ b) (drop-drop (end - inner) inner s ∙ ap (λ (k : ℕ). drop k s) n))
