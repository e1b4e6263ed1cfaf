-- What is asked of the lines of binding sets, field by field and line by line. Assumes nothing.
use Prim.Native.Nat.{ℕ, suc, ◌+◌, ◌≤◌, ◌<◌}
use mathlib.Core.Path.{◌≡◌, refl, sym, ap, ◌∙◌}
use mathlib.Core.Bool.{Bool, true, false, cond, ◌&&◌}
use mathlib.Core.List.{List, [], ◌∷◌}
use mathlib.Core.Logic.{⊎_elim}
use native.Mathlib.Omega.{arith}
use lib.ListN.{length, get_or, drop}
use borrow.Author.Tests.{lt-ltb, le-ltb, eq-eqb, ne_eqb}
use Rattle.text.specs.Text.{Bytes, Line, same, split, part, lines_from, First}
use Rattle.text.specs.Word.{bytes}
use Rattle.text.proofs.Places.{lines_next, lines_end}
use Rattle.words.specs.bridge.Key.{key_of, Keyed}
use Rattle.words.proofs.ByKey.{small, tells, is_word, other_key}
use Rattle.cursor.specs.bridge.Cursor.{left}
use Rattle.cursor.proofs.Laws.{left-none}
use Rattle.scoping.specs.Sets.{all}
use Rattle.reader.specs.bridge.Lines.{LineEnd}
use Rattle.reader.proofs.Laws.{nothing-here}
use Rattle.walking.proofs.Laws.{line-split}
use Rattle.merging.specs.Request.{position}
use Rattle.filtering.specs.bridge.Terms.{form_of}
use Rattle.filtering.specs.bridge.SetLines.{sets_in, is_usable, all_usable, row_usable}
use Rattle.placing.specs.declared.field.Field.{Field}
use Rattle.placing.specs.bridge.Fields.{FieldIs}
use Rattle.placing.proofs.Repeated.{with-true, and-next}
use Rattle.binding.specs.bridge.Judged.{all_below, at_below, JudgedLine, JudgedAll}
use Rattle.binding.specs.declared.judge.Judged.{Judged}

-- ---- the fields of a line

module _ (w : ℕ) (s : Bytes) (next end : ℕ) where
  module _ (h : next ≤ end) (f : Field) (i : FieldIs s next end f) (k : ℕ) (p : k ≡ position (part next f.to s)) where
    pub below-stop : w ≤ k → false ≡ all_below w (left s next end)
    unfolding all
    below-stop q = rw (i.here h, sym p, le-ltb k w q)

    pub below_next : k < w → all_below w (left s f.next end) ≡ all_below w (left s next end)
    unfolding all
    below_next q = rw (i.here h, sym p, lt-ltb k w q)

  pub below-done : end < next → true ≡ all_below w (left s next end)
  unfolding all
  below-done h = rw (left-none s next end h)

-- a value's domain, and what stands behind its three fields
usable-cons : (d : Bytes) (gs : List Bytes) → all_usable (d ∷ gs) ≡ (is_usable d && all_usable (drop 1 (drop 1 gs)))
unfolding all_usable
usable-cons d [] = sym (with-true (is_usable d))
usable-cons d (l ∷ []) = sym (with-true (is_usable d))
usable-cons d (l ∷ x ∷ fs) = refl

module _ (s : Bytes) (next end : ℕ) where
  module _ (h : next ≤ end) (d : Field) (i : FieldIs s next end d) (m : ℕ) (p : m ≡ form_of (part next d.to s)) where
    pub usable-stop : m ≡ 4 → false ≡ all_usable (left s next end)
    usable-stop q = rw (i.here h, usable-cons (part next d.to s) (left s d.next end), sym p, eq-eqb m 4 q)

    pub usable-next : (m ≡ 4 → ⊥) → (l x : Field) → FieldIs s d.next end l → FieldIs s l.next end x → all_usable (left s x.next end) ≡ all_usable (left s next end)
    usable-next q l x j k = rw (i.here h, usable-cons (part next d.to s) (left s d.next end), sym p, ne_eqb m 4 q) (ap all_usable (k.rest ∙ ap (drop 1) j.rest))

  pub usable-done : end < next → true ≡ all_usable (left s next end)
  unfolding all_usable
  usable-done h = rw (left-none s next end h)

-- ---- one line

module _ (s : Bytes) (from end w : ℕ) (h : from ≤ end) (i : end < length s) (f : First 9 s from end w) (k : ℕ) (keyed : Keyed (part from w s) k) (width : ℕ) (j : Judged) where
  abbrev Fields : List Bytes
  Fields = left s (w + 1) end

  abbrev Line-here : Line
  Line-here = split 9 (part from end s)

  begins : (v : Bytes) → tells v ≡ true → k ≡ key_of 0 v → Line-here ≡ v ∷ Fields
  begins v t e = line-split s from end w i h f ∙ ap (λ (x : Bytes). x ∷ Fields) (is_word (part from w s) k keyed v t e)

  pub set_line : k ≡ key_of 0 (bytes "set") → JudgedLine width Line-here j (record { inside = j.inside; usable = j.usable; sets = j.sets + 1 })
  unfolding at_below row_usable same small tells
  set_line e =
      let l = begins (bytes "set") refl e in record { inside = rw l (sym (with-true j.inside)); usable = rw l (sym (with-true j.usable)); sets = rw l refl; few = omega arith }

  pub at-line : k ≡ key_of 0 (bytes "at") → (b r : Bool) → b ≡ all_below width Fields → r ≡ (j.inside && b) → JudgedLine width Line-here j (record { inside = r; usable = j.usable; sets = j.sets })
  unfolding at_below row_usable same small tells
  at-line e b r p q =
      let l = begins (bytes "at") refl e in record { inside = rw l (q ∙ ap (λ (x : Bool). j.inside && x) p); usable = rw l (sym (with-true j.usable)); sets = rw l refl; few = omega arith }

  pub row_line : k ≡ key_of 0 (bytes "row") → (b r : Bool) → b ≡ all_usable Fields → r ≡ (j.usable && b) → JudgedLine width Line-here j (record { inside = j.inside; usable = r; sets = j.sets })
  unfolding at_below row_usable same small tells
  row_line e b r p q =
      let l = begins (bytes "row") refl e in record { inside = rw l (sym (with-true j.inside)); usable = rw l (q ∙ ap (λ (x : Bool). j.usable && x) p); sets = rw l refl; few = omega arith }

  pub other-line : (k ≡ key_of 0 (bytes "set") → ⊥) → (k ≡ key_of 0 (bytes "at") → ⊥) → (k ≡ key_of 0 (bytes "row") → ⊥) → JudgedLine width Line-here j j
  unfolding at_below row_usable small tells
  other-line a b c =
      let l = line-split s from end w i h f in
      record {
        inside = rw (l, other_key (part from w s) k keyed (bytes "at") refl b) (sym (with-true j.inside));
        usable = rw (l, other_key (part from w s) k keyed (bytes "row") refl c) (sym (with-true j.usable));
        sets = rw (l, other_key (part from w s) k keyed (bytes "set") refl a) refl;
        few = omega arith;
      }

-- ---- line by line

-- what was found so far, with what is still to be found
pub record Going (w : ℕ) (s : Bytes) (from : ℕ) (j : Judged) : Type 0 where
  pub below : (j.inside && all (at_below w) (lines_from s from)) ≡ all (at_below w) (lines_from s 0)
  pub cells : (j.usable && all row_usable (lines_from s from)) ≡ all row_usable (lines_from s 0)
  pub sets : j.sets + sets_in (lines_from s from) ≡ sets_in (lines_from s 0)
  pub few : j.sets ≤ from

pub going_start : (w : ℕ) (s : Bytes) → Going w s 0 (record { inside = true; usable = true; sets = 0 })
going_start w s = record { below = refl; cells = refl; sets = omega arith; few = omega arith }

and-true : (b c x : Bool) → c ≡ true → (b && c) ≡ x → b ≡ x
and-true true c x e h = sym e ∙ h
and-true false c x e h = h

module _ (w : ℕ) (s : Bytes) (from : ℕ) (j : Judged) (g : Going w s from j) where
  -- nothing is left
  module _ (ls : List Line) (q : lines_from s from ≡ ls) (x : all (at_below w) ls ≡ true) (y : all row_usable ls ≡ true) (z : sets_in ls ≡ 0) where
    over : JudgedAll w (lines_from s 0) j
    over = record {
      inside = and-true j.inside (all (at_below w) (lines_from s from)) _ (ap (all (at_below w)) q ∙ x) g.below;
      usable = and-true j.usable (all row_usable (lines_from s from)) _ (ap (all row_usable) q ∙ y) g.cells;
      sets = let e = g.sets in let i = ap sets_in q ∙ z in omega arith;
    }

  pub going_done : length s ≤ from → JudgedAll w (lines_from s 0) j
  unfolding all sets_in
  going_done h = over [] (lines_end s from h) refl refl refl

  module _ (end : ℕ) (l : LineEnd s from end) where
    pub going-stop : end ≡ length s → JudgedAll w (lines_from s 0) j
    unfolding all sets_in at_below row_usable same
    going-stop e = ⊎_elim (λ q. over [] q refl refl refl) (λ q. over ([] ∷ []) q refl refl refl) (nothing-here s from end l e)

    module _ (more : end ≡ length s → ⊥) where
      ends : end < length s
      ends = let h = l.high in omega arith

      pub going-low : from ≤ end
      going-low = (l.ends ends).low

      here : lines_from s from ≡ split 9 (part from end s) ∷ lines_from s (end + 1)
      here = lines_next s from end (l.ends ends) ends

      count_next : (b : Bool) (k m r x : ℕ) → m ≡ cond b (k + 1) k → k + cond b (suc r) r ≡ x → m + r ≡ x
      count_next true k m r x e h = omega arith
      count_next false k m r x e h = omega arith

      pub going_next : (r : Judged) → JudgedLine w (split 9 (part from end s)) j r → Going w s (end + 1) r
      unfolding all sets_in
      going_next r t = record {
        below = and-next j.inside r.inside _ (all (at_below w) (lines_from s (end + 1))) _ t.inside (ap (λ (ls : List Line). j.inside && all (at_below w) ls) (sym here) ∙ g.below);
        cells = and-next j.usable r.usable _ (all row_usable (lines_from s (end + 1))) _ t.usable (ap (λ (ls : List Line). j.usable && all row_usable ls) (sym here) ∙ g.cells);
        sets = count_next (same (get_or (split 9 (part from end s)) 0 []) (bytes "set")) j.sets r.sets (sets_in (lines_from s (end + 1))) _ t.sets (ap (λ (ls : List Line). j.sets + sets_in ls) (sym here) ∙ g.sets);
        few = let x = going-low in let y = t.few in let z = g.few in omega arith;
      }
