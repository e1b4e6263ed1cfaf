-- A line of a text by its fields, which hold no tab and no line end. Assumes nothing.
use Prim.Native.Nat.{ℕ, suc, ◌+◌, ◌-◌, ◌≤◌, ◌<◌, zero-le, suc-le-suc}
use mathlib.Core.Path.{◌≡◌, refl, sym, ◌∙◌, ap}
use mathlib.Core.List.{List, [], ◌∷◌}
use mathlib.Core.Bool.{Bool, true, false, cond, not}
use native.Mathlib.Omega.{arith}
use lib.ListN.{length, get_or, drop, length-take, length-drop}
use lib.Seq.{get_or-take, get_or-drop}
use lib.Dec.{eqb}
use borrow.Author.Tests.{ne_eqb, not-true}
use Rattle.text.specs.Text.{Bytes, Line, split, onto, lines_from, part, First}
use Rattle.text.specs.Field.{clean, Kind, is_kind, fits}
use Rattle.text.proofs.Basics.{and_left, and_right}
use Rattle.text.proofs.Places.{lines_next}
use Rattle.text.proofs.Texts.{lacks, AllClean}
use Rattle.cursor.specs.bridge.Cursor.{left}
use Rattle.cursor.proofs.Laws.{left-all}

lacks-all : (b : ℕ) (p : Bytes) → ((k : ℕ) → k < length p → get_or p k 0 ≡ b → ⊥) → lacks b p ≡ true
unfolding lacks
lacks-all b [] f = refl
lacks-all b (x ∷ xs) f = rw (ne_eqb x b (f 0 (suc-le-suc zero-le)), lacks-all b xs (λ k l. f (suc k) (suc-le-suc l)))

split-clean : (p : Bytes) → lacks 10 p ≡ true → AllClean (split 9 p)
unfolding lacks split onto clean
split-clean [] h = (refl, tt)
split-clean (x ∷ xs) h = go (eqb x 9) refl (split 9 xs) (split-clean xs (and_right (not (eqb x 10)) (lacks 10 xs) h))
  where
    ten : eqb x 10 ≡ false
    ten = not-true (eqb x 10) (and_left (not (eqb x 10)) (lacks 10 xs) h)

    go : (t : Bool) → eqb x 9 ≡ t → (ps : List Bytes) → AllClean ps → AllClean (cond t ([] ∷ ps) (onto x ps))
    go true e ps c = (refl, c)
    go false e [] c = (rw (e, ten), tt)
    go false e (q ∷ ps) c = (rw (e, ten, c.0), c.1)

module _ (s : Bytes) (at r : ℕ) (f : First 10 s at (length s) r) where
  -- the line, and those behind its end
  pub line-next : r < length s → lines_from s at ≡ left s at r ∷ lines_from s (r + 1)
  line-next h = lines_next s at r f h ∙ ap (λ (l : Line). l ∷ lines_from s (r + 1)) (sym (left-all s at r f.low))

  pub line_clean : AllClean (left s at r)
  line_clean =
      let i : at ≤ r = f.low in
      let j : r ≤ length s = f.high in
      let l : length (part at r s) ≡ r - at = simp (length-take, length-drop) (omega arith) in
      rw (left-all s at r i)
      (split-clean (part at r s) (lacks-all 10 (part at r s) (λ k h e.
      let h' : k < r - at = rw l at h in
      f.before (at + k) (omega arith) (omega arith) (sym (get_or-take (r - at) (drop at s) k 0 h' ∙ get_or-drop at s k 0) ∙ e))))

pub fits-kind : (k : Kind) (f : Bytes) → clean f ≡ true → fits k f ≡ is_kind k f
unfolding fits
fits-kind k f h = rw h
