-- Fields that are written one after the other. Assumes nothing.
use Prim.Native.Nat.{ℕ, ◌≤◌, ◌<◌}
use mathlib.Core.Path.{◌≡◌, refl, sym, ap, ap₂, ◌∙◌}
use mathlib.Core.Bool.{Bool, true, false}
use mathlib.Core.List.{List, [], ◌∷◌, ◌++◌}
use lib.ListN.{length, get_or}
use lib.Seq.{get_or-drop}
use lib.Dec.{eqb}
use borrow.Author.Tests.{lt-leb, eq-eqb, ne_eqb}
use Rattle.text.specs.Text.{Bytes, part}
use Rattle.text.specs.Word.{bytes}
use Rattle.text.specs.Field.{is_dash}
use Rattle.cursor.specs.bridge.Cursor.{left}
use Rattle.emit.specs.bridge.Emit.{Em, puts}
use Rattle.emit.proofs.Laws.{puts-append, puts-nil}
use Rattle.placing.specs.declared.field.Field.{Field}
use Rattle.placing.specs.bridge.Fields.{FieldIs}
use Rattle.editions.specs.Token.{written, text}
use Rattle.editions.specs.Spelling.{cell_of, spell_vars, spell_cells, spell_slice}
use Rattle.spelling.proofs.Arms.{arm, slice-open, slice-both, vars-text, cells-text}

-- three pieces
pub three : (a b c : Bytes) (e x y z : Em) → x ≡ puts a e → y ≡ puts b x → z ≡ puts c y → z ≡ puts (a ++ (b ++ c)) e
three a b c e x y z p q r = r ∙ ap (puts c) (q ∙ ap (puts b) p) ∙ sym (puts-append a (b ++ c) e ∙ puts-append b c (puts a e))

pub four : (a b c d : Bytes) (e x y z w : Em) → x ≡ puts a e → y ≡ puts b x → z ≡ puts c y → w ≡ puts d z → w ≡ puts (a ++ (b ++ (c ++ d))) e
four a b c d e x y z w p q r s = three b c d x y z w q r s ∙ ap (puts (b ++ (c ++ d))) p ∙ sym (puts-append a (b ++ (c ++ d)) e)

module _ (s : Bytes) (from end : ℕ) (d : Field) (i : FieldIs s from end d) where
  -- a field between two marks
  pub between : (a c : Bytes) (e x y z : Em) → x ≡ puts a e → y ≡ puts (part from d.to s) x → z ≡ puts c y → z ≡ puts (a ++ (get_or (left s from end) 0 [] ++ c)) e
  between a c e x y z p q r = three a _ c e x y z p q r ∙ ap (λ (b : Bytes). puts (a ++ (b ++ c)) e) i.is

  -- the field behind it
  pub second : get_or (left s d.next end) 0 [] ≡ get_or (left s from end) 1 []
  second = ap (λ (fs : List Bytes). get_or fs 0 []) i.rest ∙ get_or-drop 1 (left s from end) 0 []

  pub third : (g : Field) → FieldIs s d.next end g → get_or (left s g.next end) 0 [] ≡ get_or (left s from end) 2 []
  third g j = ap (λ (fs : List Bytes). get_or fs 0 []) j.rest ∙ get_or-drop 1 (left s d.next end) 0 [] ∙ ap (λ (fs : List Bytes). get_or fs 1 []) i.rest ∙ get_or-drop 1 (left s from end) 1 []

  -- OFFSET, and LIMIT where there is one
  module _ (g : Field) (j : FieldIs s d.next end g) (b : Bool) (q : b ≡ is_dash (part d.next g.to s)) where
    limit : is_dash (get_or (left s from end) 1 []) ≡ b
    limit = ap is_dash (sym (j.is ∙ second)) ∙ sym q

    pub slice-one : b ≡ true → (e x : Em) → x ≡ puts (bytes "OFFSET " ++ (get_or (left s from end) 0 [] ++ bytes " ")) e → x ≡ puts (text (spell_slice (get_or (left s from end) 0 []) (get_or (left s from end) 1 []) [])) e
    slice-one h e x p = arm x e _ _ p (slice-open _ _ (limit ∙ h))

    pub slice-two : b ≡ false → (e x y : Em) → x ≡ puts (bytes "OFFSET " ++ (get_or (left s from end) 0 [] ++ bytes " ")) e → y ≡ puts (bytes "LIMIT " ++ (get_or (left s d.next end) 0 [] ++ bytes " ")) x
        → y ≡ puts (text (spell_slice (get_or (left s from end) 0 []) (get_or (left s from end) 1 []) [])) e
    slice-two h e x y p r =
        r
        ∙ ap₂ (λ (n : Bytes) (z : Em). puts (bytes "LIMIT " ++ (n ++ bytes " ")) z) second p
        ∙ sym (puts-append (bytes "OFFSET " ++ (get_or (left s from end) 0 [] ++ bytes " ")) (bytes "LIMIT " ++ (get_or (left s from end) 1 [] ++ bytes " ")) e)
        ∙ ap (λ (n : Bytes). puts n e) (sym (slice-both (get_or (left s from end) 0 []) (get_or (left s from end) 1 []) (limit ∙ h)))

  -- s p o .
  pub triple : (g : Field) → FieldIs s d.next end g → (e x y z : Em) → x ≡ puts ([] ++ (get_or (left s from end) 0 [] ++ (32 ∷ []))) e → y ≡ puts ([] ++ (get_or (left s d.next end) 0 [] ++ (32 ∷ []))) x → z ≡ puts ([] ++ (get_or (left s g.next end) 0 [] ++ bytes " . ")) y
      → z ≡ puts (get_or (left s from end) 0 [] ++ (32 ∷ (get_or (left s from end) 1 [] ++ (32 ∷ (get_or (left s from end) 2 [] ++ bytes " . "))))) e
  triple g j e x y z p q r =
      three (get_or (left s from end) 0 [] ++ (32 ∷ [])) (get_or (left s d.next end) 0 [] ++ (32 ∷ [])) (get_or (left s g.next end) 0 [] ++ bytes " . ") e x y z p q r
      ∙ ap₂ (λ (b c : Bytes). puts ((get_or (left s from end) 0 [] ++ (32 ∷ [])) ++ ((b ++ (32 ∷ [])) ++ (c ++ bytes " . "))) e) second (third g j)
      ∙ ap (λ (b : Bytes). puts b e) (glue (get_or (left s from end) 0 []) (get_or (left s from end) 1 []) (get_or (left s from end) 2 [] ++ bytes " . "))
    where
      glue : (a b c : Bytes) → (a ++ (32 ∷ [])) ++ ((b ++ (32 ∷ [])) ++ c) ≡ a ++ (32 ∷ (b ++ (32 ∷ c)))
      glue [] [] c = refl
      glue [] (y ∷ ys) c = ap (λ (l : Bytes). 32 ∷ l) (ap (◌∷◌ y) (tail ys c))
        where
          tail : (b c : Bytes) → (b ++ (32 ∷ [])) ++ c ≡ b ++ (32 ∷ c)
          tail [] c = refl
          tail (y ∷ ys) c = ap (◌∷◌ y) (tail ys c)
      glue (x ∷ xs) b c = ap (◌∷◌ x) (glue xs b c)

  -- one variable more, one cell more
  module _ (h : from ≤ end) (e x y : Em) (p : y ≡ puts (32 ∷ []) x) where
    pub variable-next : x ≡ puts (part from d.to s) e → puts (text (spell_vars (left s d.next end) [])) y ≡ puts (text (spell_vars (left s from end) [])) e
    variable-next q =
        ap (puts (text (spell_vars (left s d.next end) []))) (p ∙ ap (puts (32 ∷ [])) q)
        ∙ sym (puts-append (part from d.to s) (32 ∷ text (spell_vars (left s d.next end) [])) e ∙ puts-append (32 ∷ []) (text (spell_vars (left s d.next end) [])) (puts (part from d.to s) e))
        ∙ ap (λ (b : Bytes). puts b e) (sym (vars-text (part from d.to s) (left s d.next end)))
        ∙ ap (λ (fs : List Bytes). puts (text (spell_vars fs [])) e) (sym (i.here h))

    pub cell-next : x ≡ puts (written (cell_of (part from d.to s))) e → puts (text (spell_cells (left s d.next end) [])) y ≡ puts (text (spell_cells (left s from end) [])) e
    cell-next q =
        ap (puts (text (spell_cells (left s d.next end) []))) (p ∙ ap (puts (32 ∷ [])) q)
        ∙ sym (puts-append (written (cell_of (part from d.to s))) (32 ∷ text (spell_cells (left s d.next end) [])) e ∙ puts-append (32 ∷ []) (text (spell_cells (left s d.next end) [])) (puts (written (cell_of (part from d.to s))) e))
        ∙ ap (λ (b : Bytes). puts b e) (sym (cells-text (part from d.to s) (left s d.next end)))
        ∙ ap (λ (fs : List Bytes). puts (text (spell_cells fs [])) e) (sym (i.here h))

-- none is left
module _ (s : Bytes) (from end : ℕ) (h : end < from) (e : Em) where
  none_left : left s from end ≡ []
  unfolding left
  none_left = rw (lt-leb from end h)

  pub variables-done : puts (text (spell_vars (left s from end) [])) e ≡ e
  unfolding spell_vars text
  variables-done = ap (λ (fs : List Bytes). puts (text (spell_vars fs [])) e) none_left ∙ puts-nil e

  pub cells-done : puts (text (spell_cells (left s from end) [])) e ≡ e
  unfolding spell_cells text
  cells-done = ap (λ (fs : List Bytes). puts (text (spell_cells fs [])) e) none_left ∙ puts-nil e

-- - alone
pub dash-long : (f : Bytes) → (length f ≡ 1 → ⊥) → false ≡ is_dash f
unfolding is_dash
dash-long f h = rw (ne_eqb (length f) 1 h)

pub dash-is : (f : Bytes) → length f ≡ 1 → eqb (get_or f 0 0) 45 ≡ is_dash f
unfolding is_dash
dash-is f h = rw (eq-eqb (length f) 1 h)
