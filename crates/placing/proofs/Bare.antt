-- Where only lines with nothing but a pattern below them stand above the outermost projection: the search for it, and that its inner pattern ends with the text. Assumes nothing.
use Prim.Native.Nat.{ℕ, zero, suc, ◌+◌, ◌-◌, ◌≤◌, ◌<◌}
use mathlib.Core.Path.{◌≡◌, refl, sym, ap, ◌∙◌}
use mathlib.Core.Bool.{Bool, true, false, not}
use mathlib.Core.Logic.{⊎_elim}
use mathlib.Core.List.{List, [], ◌∷◌, ◌++◌}
use native.Mathlib.Omega.{arith}
use lib.ListN.{length, drop, length-drop}
use lib.Seq.{take_all}
use borrow.Author.Tests.{not-true, not-false}
use Rattle.text.specs.Text.{Bytes, Line, same, text_of, part, lines_from, First}
use Rattle.text.specs.Word.{bytes}
use Rattle.text.proofs.Places.{lines_end, lines_next}
use Rattle.algebra.specs.Tree.{Pattern}
use Rattle.algebra.specs.Layout.{put}
use Rattle.algebra.specs.Reader.{reads}
use Rattle.algebra.specs.Texts.{read_tree}
use Rattle.algebra.specs.Valid.{mem}
use Rattle.words.specs.bridge.Key.{key_of, Keyed, key_in}
use Rattle.words.proofs.ByKey.{small, tells, same_key, other_key, all_words, in-by-key}
use Rattle.cursor.specs.bridge.Cursor.{left}
use Rattle.reader.specs.bridge.Lines.{LineEnd}
use Rattle.reader.proofs.Laws.{nothing-here}
use Rattle.walking.proofs.Laws.{line-split}
use Rattle.merging.specs.Request.{Projection}
use Rattle.heads.proofs.Cut.{text-from, text-append}
use Rattle.negating.specs.bridge.Lines.{Projects}
use Rattle.negating.proofs.Found.{Outermost, here, under-distinct, under-reduced, under-slice, under_orderby, under_group}
use Rattle.negating.proofs.TreeLines.{behind}
use Rattle.filtering.specs.bridge.Copying.{plus, to_come, copying}
use Rattle.filtering.proofs.Copying.{tree-copy}
use Rattle.filtering.proofs.Read.{tree-at, tree-valid}
use Rattle.placing.specs.bridge.Ends.{EndsAt, bare, is_bare, bare_down}
use Rattle.placing.proofs.Inner.{Found, way, place, inner-valid}

-- ---- line by line

pub past_end : (s : Bytes) (at : ℕ) → length s ≤ at → false ≡ bare_down (lines_from s at)
unfolding bare_down
past_end s at h = rw (lines_end s at h)

module _ (s : Bytes) (at end : ℕ) (l : LineEnd s at end) where
  pub no_line : end ≡ length s → false ≡ bare_down (lines_from s at)
  unfolding bare_down is_bare mem same
  no_line e = ⊎_elim (λ (h : lines_from s at ≡ []). rw h) (λ (h : lines_from s at ≡ [] ∷ []). rw h) (nothing-here s at end l e)

  module _ (more : end ≡ length s → ⊥) (w : ℕ) (f : First 9 s at end w) where
    this-line : lines_from s at ≡ (part at w s ∷ left s (w + 1) end) ∷ lines_from s (end + 1)
    this-line =
        let h = l.high in
        let i : end < length s = omega arith in
        lines_next s at end (l.ends i) i ∙ ap (λ (x : Line). x ∷ lines_from s (end + 1)) (line-split s at end w i (l.ends i).low f)

    module _ (k : ℕ) (keyed : Keyed (part at w s) k) where
      pub project-here : k ≡ key_of 0 (bytes "project") → true ≡ bare_down (lines_from s at)
      unfolding bare_down small tells
      project-here e = rw (this-line, same_key (part at w s) k keyed (bytes "project") refl e)

      module _ (n : k ≡ key_of 0 (bytes "project") → ⊥) (c : Bool) (known : c ≡ key_in k bare) where
        other : same (part at w s) (bytes "project") ≡ false
        unfolding small tells
        other = other_key (part at w s) k keyed (bytes "project") refl n

        is : is_bare (part at w s) ≡ c
        unfolding is_bare small tells all_words
        is = in-by-key (part at w s) k keyed bare refl ∙ sym known

        pub stops-here : not c ≡ true → false ≡ bare_down (lines_from s at)
        unfolding bare_down
        stops-here h = rw (this-line, other, is ∙ not-true c h)

        pub goes_on : not c ≡ false → bare_down (lines_from s (end + 1)) ≡ bare_down (lines_from s at)
        unfolding bare_down
        goes_on h = rw (this-line, other, is ∙ not-false c h)

-- ---- the tree

-- nothing stands behind the inner pattern but what follows the tree
nothing-behind : {p : Pattern} {x : Projection} (o : Outermost p x) (t : List Line) → bare_down (put p t) ≡ true → behind o t ≡ t
unfolding put behind bare_down is_bare mem same
nothing-behind here t h = refl
nothing-behind (under-distinct o) t h = nothing-behind o t h
nothing-behind (under-reduced o) t h = nothing-behind o t h
nothing-behind (under-slice o) t h = nothing-behind o t h
nothing-behind (under_orderby {p} {os} o) t h = let z : ◌≡◌ {A = ℕ} 0 1 = cc in absurd (omega arith)
nothing-behind (under_group {ks} {p} {rs} o) t h = let z : ◌≡◌ {A = ℕ} 0 1 = cc in absurd (omega arith)

-- what is copied stands in front of the rest
copied-front : (ls : List Line) (k : ℕ) (u : List Line) → copying ls k u ≡ copying ls k [] ++ u
unfolding copying
copied-front [] k u = refl
copied-front (l ∷ ls) zero u = refl
copied-front (l ∷ ls) (suc k) u = ap (λ (t : List Line). l ∷ t) (copied-front ls (plus (to_come l) k) u)

module _ (s : Bytes) (p : Pattern) (e : read_tree s ≡ reads p) (line inner : ℕ) (w : Projects s 0 line inner) (b : Bool) (is : b ≡ bare_down (lines_from s 0)) (yes : b ≡ true) where
  only-inner : lines_from s inner ≡ put (Found s p e line inner w).inner []
  only-inner =
      (place s p e line inner w).inner_at
      ∙ ap (put (Found s p e line inner w).inner) (nothing-behind (way s p e line inner w) [] (ap bare_down (sym (tree-at s p e)) ∙ sym is ∙ yes))

  all-copied : copying (lines_from s inner) 1 [] ≡ lines_from s inner
  all-copied =
      ap (λ (ls : List Line). copying ls 1 []) only-inner
      ∙ tree-copy (Found s p e line inner w).inner [] [] (inner-valid (way s p e line inner w) (tree-valid s p e))
      ∙ sym only-inner

  pub ends-with-text : EndsAt s inner (length s)
  ends-with-text =
      let high = w.high in
      let z : part inner (length s) s ≡ drop inner s = take_all (length s - inner) (drop inner s) (simp length-drop (omega arith)) in
      record {
        low = high;
        high = omega arith;
        copied = λ n v.
            ap text_of (copied-front (lines_from s inner) 1 v ∙ ap (λ (ls : List Line). ls ++ v) all-copied)
            ∙ text-append (lines_from s inner) v
            ∙ ap (λ (t : Bytes). t ++ text_of v) (sym (text-from s inner (lines_from s inner) refl n) ∙ sym z);
      }
