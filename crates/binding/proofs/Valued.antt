-- The lines of the Values, field by field and line by line. Assumes nothing.
use Prim.Native.Nat.{ℕ, ◌+◌, ◌≤◌, ◌<◌}
use mathlib.Core.Path.{◌≡◌, refl, sym, ap, ap₂, subst, ◌∙◌}
use mathlib.Core.Bool.{false}
use mathlib.Core.List.{List, [], ◌∷◌, ◌++◌, map, append-nil}
use mathlib.Core.Logic.{⊎_elim}
use native.Mathlib.Omega.{arith}
use lib.ListN.{length, get_or, drop}
use Rattle.text.specs.Text.{Bytes, Line, same, ended, text_of, split, part, lines_from, First}
use Rattle.text.specs.Word.{bytes}
use Rattle.text.proofs.Texts.{Ended, glue, glue-split}
use Rattle.text.proofs.Places.{lines_next, lines_end}
use Rattle.words.specs.bridge.Key.{key_of, Keyed}
use Rattle.words.proofs.ByKey.{small, tells, same_key, other_key}
use Rattle.cursor.specs.bridge.Cursor.{left}
use Rattle.cursor.proofs.Laws.{left-none}
use Rattle.text.proofs.Parts.{part_join}
use Rattle.emit.specs.bridge.Emit.{Em, puts}
use Rattle.emit.proofs.Laws.{puts-nil}
use Rattle.walking.specs.bridge.Walk.{tabbed}
use Rattle.reader.specs.bridge.Lines.{LineEnd}
use Rattle.reader.proofs.Laws.{nothing-here}
use Rattle.walking.proofs.Laws.{line-split}
use Rattle.walking.proofs.Written.{puts-ended}
use Rattle.merging.specs.Request.{position}
use Rattle.heads.proofs.Cut.{ended-append}
use Rattle.filtering.specs.bridge.Terms.{form_of, term_of}
use Rattle.filtering.specs.bridge.SetLines.{cell_from, cells_from, values_line}
use Rattle.placing.specs.declared.field.Field.{Field}
use Rattle.placing.specs.bridge.Fields.{FieldIs}
use Rattle.placing.proofs.Copied.{behind-line}
use Rattle.placing.proofs.Inner.{cancel}
use Rattle.binding.specs.bridge.Bound.{bound_from}

-- ---- the fields of a line

module _ (cs : List Bytes) (s : Bytes) (next end : ℕ) where
  pub bound-next : next ≤ end → (f : Field) → FieldIs s next end f → (k : ℕ) → k ≡ position (part next f.to s) → (c : Bytes) → c ≡ get_or cs k []
      → tabbed (bound_from cs (left s next end)) ≡ (9 ∷ c) ++ tabbed (bound_from cs (left s f.next end))
  unfolding tabbed
  bound-next h f i k p c q =
      ap tabbed (ap (bound_from cs) (i.here h) ∙ ap (λ (d : Bytes). d ∷ bound_from cs (left s f.next end)) (sym (q ∙ ap (λ (j : ℕ). get_or cs j []) p)))

  pub bound-done : end < next → tabbed (bound_from cs (left s next end)) ≡ []
  unfolding tabbed
  bound-done h = ap (λ (l : List Bytes). tabbed (bound_from cs l)) (left-none s next end h)

-- a value's cell, and those behind its three fields
cells-cons : (d : Bytes) (gs : List Bytes) → cells_from (d ∷ gs) ≡ cell_from d (get_or gs 0 []) (get_or (drop 1 gs) 0 []) ∷ cells_from (drop 1 (drop 1 gs))
unfolding cells_from
cells-cons d [] = refl
cells-cons d (l ∷ []) = refl
cells-cons d (l ∷ x ∷ fs) = refl

module _ (s : Bytes) (next end : ℕ) where
  module _ (h : next ≤ end) (d l x : Field) (i : FieldIs s next end d) (j : FieldIs s d.next end l) (k : FieldIs s l.next end x) (m : ℕ) (p : m ≡ form_of (part next d.to s)) where
    cell : cells_from (left s next end) ≡ term_of m (part d.next l.to s) (part l.next x.to s) ∷ cells_from (left s x.next end)
    cell =
        ap cells_from (i.here h)
        ∙ cells-cons (part next d.to s) (left s d.next end)
        ∙ ap₂ (λ (a : Bytes) (bs : List Bytes). a ∷ bs)
        (λ t. term_of (sym p t) (sym j.is t) (sym (k.is ∙ ap (λ (fs : List Bytes). get_or fs 0 []) j.rest) t))
        (ap cells_from (sym (k.rest ∙ ap (drop 1) j.rest)))

    pub cells-next : tabbed (cells_from (left s next end)) ≡ (9 ∷ term_of m (part d.next l.to s) (part l.next x.to s)) ++ tabbed (cells_from (left s x.next end))
    unfolding tabbed
    cells-next = ap tabbed cell

  pub cells-done : end < next → tabbed (cells_from (left s next end)) ≡ []
  unfolding cells_from tabbed
  cells-done h = ap (λ (l : List Bytes). tabbed (cells_from l)) (left-none s next end h)

-- ---- one line

line-put : (w : Bytes) (fs : List Bytes) (e x y : Em) → x ≡ puts w e → y ≡ puts (tabbed fs) x → puts (10 ∷ []) y ≡ puts (ended (w ∷ fs) []) e
line-put w fs e x y p q = ap (puts (10 ∷ [])) (q ∙ ap (puts (tabbed fs)) p) ∙ sym (puts-nil _) ∙ puts-ended w fs [] e

glue-tabbed : (f : Bytes) (fs : List Bytes) → glue 9 (f ∷ fs) ≡ f ++ tabbed fs
unfolding tabbed
glue-tabbed f [] = sym (append-nil f)
glue-tabbed f (g ∷ gs) = ap (λ (x : Bytes). f ++ (9 ∷ x)) (glue-tabbed g gs)

module _ (cs : List Bytes) (s : Bytes) (from end w : ℕ) (h : from ≤ end) (i : end < length s) (f : First 9 s from end w) where
  abbrev Fields : List Bytes
  Fields = left s (w + 1) end

  fields : split 9 (part from end s) ≡ part from w s ∷ Fields
  fields = line-split s from end w i h f

  tail-tabbed : part w end s ≡ tabbed Fields
  tail-tabbed = cancel (part from w s) (part w end s) (tabbed Fields) (part_join s from w end f.low f.high ∙ sym (glue-split 9 (part from end s)) ∙ ap (glue 9) fields ∙ glue-tabbed (part from w s) Fields)

  module _ (k : ℕ) (keyed : Keyed (part from w s) k) (e x y : Em) where
    abbrev Becomes : Type 0
    Becomes = puts (10 ∷ []) y ≡ puts (ended (values_line cs (split 9 (part from end s))) []) e

    pub set_line : k ≡ key_of 0 (bytes "set") → x ≡ puts (bytes "values") e → y ≡ puts (part w end s) x → Becomes
    unfolding values_line small tells
    set_line t p q = rw (fields, same_key (part from w s) k keyed (bytes "set") refl t) (line-put (bytes "values") Fields e x y p (q ∙ ap (λ (v : Bytes). puts v x) tail-tabbed))

    module _ (no : k ≡ key_of 0 (bytes "set") → ⊥) where
      no-set : same (part from w s) (bytes "set") ≡ false
      unfolding small tells
      no-set = other_key (part from w s) k keyed (bytes "set") refl no

      pub at-line : k ≡ key_of 0 (bytes "at") → x ≡ puts (bytes "cols") e → y ≡ puts (tabbed (bound_from cs Fields)) x → Becomes
      unfolding values_line small tells
      at-line t p q = rw (fields, no-set, same_key (part from w s) k keyed (bytes "at") refl t) (line-put (bytes "cols") (bound_from cs Fields) e x y p q)

      pub row_line : (k ≡ key_of 0 (bytes "at") → ⊥) → x ≡ puts (bytes "row") e → y ≡ puts (tabbed (cells_from Fields)) x → Becomes
      unfolding values_line small tells
      row_line t p q = rw (fields, no-set, other_key (part from w s) k keyed (bytes "at") refl t) (line-put (bytes "row") (cells_from Fields) e x y p q)

-- ---- line by line

abbrev pub ValuesText : List Bytes → List Line → Bytes
ValuesText cs ls = text_of (map (values_line cs) ls)

module _ (cs : List Bytes) (s : Bytes) (from : ℕ) where
  nothing-more : lines_from s from ≡ [] → ValuesText cs (lines_from s from) ≡ []
  unfolding text_of
  nothing-more z = ap (ValuesText cs) z

  pub values-done : length s ≤ from → ValuesText cs (lines_from s from) ≡ []
  values-done h = nothing-more (lines_end s from h)

  module _ (end : ℕ) (l : LineEnd s from end) where
    pub values-stop : Ended (lines_from s from) → end ≡ length s → ValuesText cs (lines_from s from) ≡ []
    values-stop n q = ⊎_elim nothing-more (λ z. absurd (subst Ended z n)) (nothing-here s from end l q)

    module _ (more : end ≡ length s → ⊥) where
      ends : end < length s
      ends = let h = l.high in omega arith

      pub values_low : from ≤ end
      values_low = (l.ends ends).low

      pub values-ended : Ended (lines_from s from) → Ended (lines_from s (end + 1))
      values-ended n = behind-line (split 9 (part from end s)) (lines_from s (end + 1)) (subst Ended (lines_next s from end (l.ends ends) ends) n)

      pub values-next : ValuesText cs (lines_from s from) ≡ ended (values_line cs (split 9 (part from end s))) [] ++ ValuesText cs (lines_from s (end + 1))
      unfolding text_of
      values-next =
          ap (ValuesText cs) (lines_next s from end (l.ends ends) ends)
          ∙ ended-append (values_line cs (split 9 (part from end s))) [] (ValuesText cs (lines_from s (end + 1)))
