-- The tree whose lines stand at a place, where its outermost projection was found: what stands before and behind the inner pattern's start. Assumes nothing.
use Prim.Native.Nat.{ℕ, ◌≤◌}
use mathlib.Core.Path.{◌≡◌, refl, sym, ap, subst, ◌∙◌}
use mathlib.Core.List.{List, [], ◌∷◌, ◌++◌, append_assoc}
use mathlib.Core.Option.{Option, none, some}
use native.Mathlib.Omega.{arith}
use lib.ListN.{length, take, drop, take-append-drop}
use Rattle.text.specs.Text.{Bytes, Line, text_of, lines_from}
use Rattle.text.specs.Word.{bytes}
use Rattle.text.proofs.Texts.{Ended}
use Rattle.algebra.specs.Tree.{Pattern}
use Rattle.algebra.specs.Layout.{put}
use Rattle.merging.specs.Request.{Projection}
use Rattle.merging.specs.Negate.{modify_outermost_projection}
use Rattle.heads.proofs.Cut.{text-from, text-before, text-append}
use Rattle.negating.specs.Projections.{outermost_projection}
use Rattle.negating.specs.bridge.Lines.{from_project, Projects}
use Rattle.negating.proofs.Found.{Outermost, found}
use Rattle.negating.proofs.TreeLines.{down_to, behind, modified-lines, tree-lines, project-found, project-not-found}

-- the outermost projection of p, whose lines stand before t: its line, and its inner pattern's lines
pub record Placed (s : Bytes) (p : Pattern) (t : List Line) (line inner : ℕ) : Type 0 where
  pub projection : Projection
  pub way : Outermost p projection
  pub is : outermost_projection p ≡ some projection
  pub line_at : lines_from s line ≡ (bytes "project" ∷ projection.columns) ∷ lines_from s inner
  pub inner_at : lines_from s inner ≡ put projection.inner (behind way t)

pub placed : (s : Bytes) (from line inner : ℕ) (p : Pattern) (t : List Line) → lines_from s from ≡ put p t → Projects s from line inner → Placed s p t line inner
placed s from line inner p t e w = go (outermost_projection p) refl (ap from_project (sym e) ∙ w.found)
  where
    go : (o : Option Projection) → outermost_projection p ≡ o → from_project (put p t) ≡ some (lines_from s line) → Placed s p t line inner
    go none h k = let n = project-not-found p t h in let z : ◌≡◌ {A = ℕ} 0 1 = cc in absurd (omega arith)
    go (some x) h k =
        let o = found p x h in
        let f = project-found o t in
        let l = w.here in
        let i : lines_from s inner ≡ put x.inner (behind o t) = cc in
        let c : lines_from s line ≡ (bytes "project" ∷ x.columns) ∷ lines_from s inner = cc in
        record { projection = x; way = o; is = h; line_at = c; inner_at = i }

pub not-placed : (s : Bytes) (from : ℕ) (p : Pattern) (t : List Line) → lines_from s from ≡ put p t → from_project (lines_from s from) ≡ none → outermost_projection p ≡ none
not-placed s from p t e w = go (outermost_projection p) refl (ap from_project (sym e) ∙ w)
  where
    go : (o : Option Projection) → outermost_projection p ≡ o → from_project (put p t) ≡ none → outermost_projection p ≡ none
    go none h k = h
    go (some x) h k = let f = project-found (found p x h) t in let z : ◌≡◌ {A = ℕ} 0 1 = cc in absurd (omega arith)

-- what stands behind lines that are ended is so
pub ended-behind : (ls ms : List Line) → Ended (ls ++ ms) → Ended ms
ended-behind [] ms e = e
ended-behind ([] ∷ ls) ms e = absurd e
ended-behind ((f ∷ fs) ∷ ls) ms e = ended-behind ls ms e

module _ (s : Bytes) (from line inner : ℕ) (p : Pattern) (t : List Line) (e : lines_from s from ≡ put p t) (n : Ended (put p t)) (high : inner ≤ length s) (w : Placed s p t line inner) where
  -- from the inner pattern's start on stand its lines and those behind
  pub inner-text : drop inner s ≡ text_of (put w.projection.inner (behind w.way t))
  inner-text = text-from s inner _ w.inner_at (ended-behind (down_to w.way) _ (subst Ended (tree-lines w.way t) n))

  -- before it stand the lines down to the projection's
  pub before-inner : take inner s ≡ take from s ++ text_of (down_to w.way)
  before-inner =
      text-before s (take from s ++ text_of (down_to w.way)) inner high
      (sym (take-append-drop from s)
      ∙ ap (λ (x : Bytes). take from s ++ x)
      (text-from s from (put p t) e n ∙ ap text_of (tree-lines w.way t) ∙ text-append (down_to w.way) _ ∙ ap (λ (x : Bytes). text_of (down_to w.way) ++ x) (sym inner-text))
      ∙ sym (append_assoc (take from s) (text_of (down_to w.way)) (drop inner s)))

  -- a tree that is modified there: the text before stays, and the new inner pattern's lines follow
  pub modified-text : (f : List Bytes → Pattern → Pattern)
      → take from s ++ text_of (put (modify_outermost_projection f p) t) ≡ take inner s ++ text_of (put (f w.projection.columns w.projection.inner) (behind w.way t))
  modified-text f =
      ap (λ (x : Bytes). take from s ++ x) (ap text_of (modified-lines f w.way t) ∙ text-append (down_to w.way) _)
      ∙ sym (append_assoc (take from s) (text_of (down_to w.way)) _)
      ∙ ap (λ (x : Bytes). x ++ text_of (put (f w.projection.columns w.projection.inner) (behind w.way t))) (sym before-inner)
