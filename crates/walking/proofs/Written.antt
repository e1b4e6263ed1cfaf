-- What the walk makes of one line: its fields are written under new names, and its variables are noted. Assumes nothing.
use Prim.Native.Nat.{ℕ, suc, ◌≤◌}
use mathlib.Core.Path.{◌≡◌, refl, sym, ap, ◌∙◌}
use mathlib.Core.List.{List, [], ◌∷◌, map}
use mathlib.Core.Bool.{Bool, true, false, cond}
use Rattle.text.specs.Text.{Bytes, ended}
use Rattle.text.specs.Field.{most, decimal, clean, is_var, variable, cell, is_kind, fits, all_fit}
use Rattle.text.proofs.Basics.{and_left, and_right}
use Rattle.text.proofs.Numbers.{number-back}
use Rattle.algebra.specs.Valid.{Fits, AllFit, mem}
use Rattle.algebra.specs.bridge.Table.{Slot}
use Rattle.lines.proofs.SpotsLaw.{number-fixed, cell-fixed}
use Rattle.emit.specs.bridge.Emit.{Em, put1, puts}
use Rattle.emit.proofs.Laws.{puts-append}
use Rattle.scoping.specs.Sets.{index_of}
use Rattle.scoping.proofs.Sets.{and_none}
use Rattle.scoping.specs.bridge.Places.{Mark, Place, marked}
use Rattle.scoping.specs.Rename.{rename_in_term}
use Rattle.scoping.specs.bridge.Walk.{opened}
use Rattle.walking.specs.bridge.Walk.{tabbed, Output, writes, flagged, put_field, put_fields}
use Rattle.walking.specs.bridge.Flags.{flag_all}

-- ---- a line's bytes

-- a word, its fields and a line end, one after the other
pub puts-ended : (w : Bytes) (fs : List Bytes) (rest : Bytes) (e : Em) → puts rest (puts (10 ∷ []) (puts (tabbed fs) (puts w e))) ≡ puts (ended (w ∷ fs) rest) e
unfolding tabbed ended puts
puts-ended w [] rest e = sym (puts-append w (10 ∷ rest) e)
puts-ended w (g ∷ gs) rest e =
    ap (puts (10 ∷ rest)) (puts-append g (tabbed gs) (put1 9 (puts w e)))
    ∙ puts-ended g gs rest (put1 9 (puts w e))
    ∙ sym (puts-append w (9 ∷ ended (g ∷ gs) rest) e)

-- ---- fields

pub variable-is : (v : Bytes) → Fits variable v → is_var v ≡ true
unfolding fits is_kind
variable-is v h = and_right (clean v) (is_var v) h

-- ---- a line's fields

module _ (ns : List Bytes) (new : Bytes → Bytes) where
  -- the bytes are written, the places noted
  abbrev made : Bytes → List Place → Output → Output
  made bs xs o = record { em = puts bs o.em; flags = flag_all ns xs o.flags }

  -- the fields fs, the first of them the i-th, are written as gs, and the names vs are noted
  pub record Fields (m : Mark) (stays : Bool) (ss : List Slot) (i : ℕ) (fs gs vs : List Bytes) : Type 0 where
    pub at : (o : Output) → put_fields ns new m stays ss i fs o ≡ made (tabbed gs) (marked m vs) o

module _ {ns : List Bytes} {new : Bytes → Bytes} where
  pub no_fields : {m : Mark} {stays : Bool} {ss : List Slot} {i : ℕ} → Fields ns new m stays ss i [] [] []
  unfolding put_fields tabbed marked flag_all puts
  no_fields = record { at = λ o. refl }

  module _ {m : Mark} {stays : Bool} {ss : List Slot} {i : ℕ} {fs gs vs : List Bytes} where
    -- one field more, which is written as g and does F to the flags
    next : (f g : Bytes) (us : List Bytes) (F : List ℕ → List ℕ)
        → ((o : Output) → put_field ns new m (cond stays false (opened ss i)) f o ≡ record { em = puts g o.em; flags = F o.flags })
        → ((k : List ℕ) → flag_all ns (marked m vs) (F k) ≡ flag_all ns (marked m us) k)
        → Fields ns new m stays ss (suc i) fs gs vs → Fields ns new m stays ss i (f ∷ fs) (g ∷ gs) us
    unfolding put_fields tabbed puts
    next f g us F p q r = record {
      at = λ o.
          ap (put_fields ns new m stays ss (suc i) fs) (p (writes (9 ∷ []) o))
          ∙ r.at (record { em = puts g (puts (9 ∷ []) o.em); flags = F o.flags })
          ∙ λ j. record { em = sym (puts-append g (tabbed gs) (put1 9 o.em)) j; flags = q o.flags j };
    }

    -- it is none of the terms that the row tells
    pub shut-then : (f : Bytes) → cond stays false (opened ss i) ≡ false → Fields ns new m stays ss (suc i) fs gs vs → Fields ns new m stays ss i (f ∷ fs) (f ∷ gs) vs
    unfolding put_field
    shut-then f h r = next f f vs (λ k. k) (λ o. rw h) (λ k. refl) r

    -- it is no variable
    pub fixed_then : (f : Bytes) → is_var f ≡ false → Fields ns new m stays ss (suc i) fs gs vs → Fields ns new m stays ss i (f ∷ fs) (f ∷ gs) vs
    unfolding put_field
    fixed_then f h r = next f f vs (λ k. k) (λ o. rw (h, and_none (cond stays false (opened ss i)))) (λ k. refl) r

    -- it is a number of lines, which renaming leaves
    pub number-then : (n k : ℕ) → k ≡ n → n ≤ most → Fields ns new m stays ss (suc i) fs gs vs → Fields ns new m stays ss i (decimal n ∷ fs) (decimal k ∷ gs) vs
    number-then n k e h r = rw e (fixed_then (decimal n) (number-fixed (decimal n) n (number-back n h)) r)

    module _ (keeps : (f : Bytes) → mem f ns ≡ false → new f ≡ f) (may : cond stays false (opened ss i) ≡ true) where
      -- it is a variable
      pub variable-then : (v : Bytes) → is_var v ≡ true → Fields ns new m stays ss (suc i) fs gs vs → Fields ns new m stays ss i (v ∷ fs) (new v ∷ gs) (v ∷ vs)
      unfolding put_field marked flag_all
      variable-then v h r = next v (new v) (v ∷ vs) (λ k. cond (mem v ns) (flagged m (index_of v ns) k) k) (λ o. rw (may, h) (go (mem v ns) refl o)) (λ k. refl) r
        where
          go : (t : Bool) → mem v ns ≡ t → (o : Output) → cond t (record { em = puts (new v) o.em; flags = flagged m (index_of v ns) o.flags }) (writes v o) ≡ record { em = puts (new v) o.em; flags = cond t (flagged m (index_of v ns) o.flags) o.flags }
          go true e o = refl
          go false e o = rw (keeps v e)

      -- it is any term
      pub term-then : (f : Bytes) → Fields ns new m stays ss (suc i) fs gs vs → Fields ns new m stays ss i (f ∷ fs) (rename_in_term new f ∷ gs) (cond (is_var f) (f ∷ vs) vs)
      unfolding rename_in_term
      term-then f r = go (is_var f) refl
        where
          go : (t : Bool) → is_var f ≡ t → Fields ns new m stays ss i (f ∷ fs) (cond t (new f) f ∷ gs) (cond t (f ∷ vs) vs)
          go true e = variable-then f e r
          go false e = fixed_then f e r

  -- cells of a row
  pub cells : {m : Mark} {i : ℕ} (fs : List Bytes) → AllFit cell fs → Fields ns new m false [] i fs fs []
  unfolding all_fit
  cells [] h = no_fields
  cells (f ∷ fs) h = fixed_then f (cell-fixed f (and_left (fits cell f) (all_fit cell fs) h)) (cells fs (and_right (fits cell f) (all_fit cell fs) h))

  -- columns
  pub columns : {m : Mark} {i : ℕ} → ((f : Bytes) → mem f ns ≡ false → new f ≡ f) → (cs : List Bytes) → AllFit variable cs → Fields ns new m false [] i cs (map new cs) cs
  unfolding all_fit opened
  columns keeps [] h = no_fields
  columns keeps (c ∷ cs) h = variable-then keeps refl c (variable-is c (and_left (fits variable c) (all_fit variable cs) h)) (columns keeps cs (and_right (fits variable c) (all_fit variable cs) h))
