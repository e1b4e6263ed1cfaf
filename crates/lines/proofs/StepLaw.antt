-- One field of a line, as the code takes it. Assumes nothing.
use Prim.Native.Nat.{ℕ, suc, ◌+◌, ◌-◌, ◌≤◌, ◌<◌, zero-le, suc-le-suc}
use mathlib.Core.Path.{◌≡◌, refl, sym, ◌∙◌, ap₂, subst}
use mathlib.Core.List.{List, [], ◌∷◌}
use mathlib.Core.Bool.{Bool, true, false}
use mathlib.Core.Option.{Option, none, some}
use native.Mathlib.Omega.{arith}
use lib.ListN.{length, get_or, length-take, length-drop}
use lib.Seq.{get_or-take, get_or-drop}
use borrow.Author.Tests.{ne_eqb}
use Rattle.text.specs.Text.{Bytes, part}
use Rattle.text.specs.Field.{Kind, clean, is_kind, fits}
use Rattle.cursor.specs.declared.Cursor.{Cursor}
use Rattle.cursor.specs.bridge.Cursor.{left}
use Rattle.cursor.proofs.Laws.{left-none, left-next, Next}
use Rattle.algebra.specs.Reader.{kept}
use Rattle.algebra.specs.Tally.{notes}
use Rattle.algebra.specs.bridge.Table.{Slot, term, text}
use Rattle.names.specs.bridge.Names.{Holds}
use Rattle.lines.specs.bridge.Line.{Took, take_field}
use Rattle.lines.specs.bridge.Steps.{InLine, left_at, Follows, rest_of, terms_of}

-- bytes without a tab and without a line end
clean-bytes : (f : Bytes) → ((k : ℕ) → k < length f → get_or f k 0 ≡ 9 → ⊥) → ((k : ℕ) → k < length f → get_or f k 0 ≡ 10 → ⊥) → clean f ≡ true
unfolding clean
clean-bytes [] h i = refl
clean-bytes (x ∷ xs) h i =
    rw (ne_eqb x 9 (h 0 (suc-le-suc zero-le)), ne_eqb x 10 (i 0 (suc-le-suc zero-le)), clean-bytes xs (λ k l. h (suc k) (suc-le-suc l)) (λ k l. i (suc k) (suc-le-suc l)))

-- a cursor that has failed
abbrev pub Failed : Cursor → Cursor → Type 0
Failed c d = (d.at ≡ c.end + 2) × (d.end ≡ c.end) × (d.awaited ≡ c.awaited)

pub failed-follows : (s : Bytes) (c d : Cursor) (o : Option (List Bytes)) → o ≡ none → Failed c d → Follows s c o d
unfolding Follows
failed-follows s c d o e f = subst (λ o. Follows s c o d) (sym e) (go f)
  where
    go : Failed c d → Follows s c none d
    go f = ((f.1, f.2), f.0)

-- no field is left
pub nothing_left : (σ : Slot) (s : Bytes) (c : Cursor) → c.end < c.at → take_field σ (left_at s c) ≡ none
nothing_left σ s c h = rw (left-none s c.at c.end h)

module _ (s : Bytes) (c : Cursor) (e : ℕ) (d : Cursor) (line : InLine s c) (here : Next s c e d) where
  abbrev pub field : Bytes
  field = part c.at e s

  long : length field ≡ e - c.at
  long = let a = here.first.high in let b = line.ends in simp (length-take, length-drop) (omega arith)

  at_field : (k : ℕ) → k < e - c.at → get_or field k 0 ≡ get_or s (c.at + k) 0
  at_field k h = rw (get_or-take, get_or-drop)

  pub clean-field : clean field ≡ true
  clean-field =
      let a = here.first.low in
      let b = here.first.high in
      clean-bytes field
      (λ k h q. let i : k < e - c.at = rw long at h in here.first.before (c.at + k) (omega arith) (omega arith) (sym (at_field k i) ∙ q))
      (λ k h q. let i : k < e - c.at = rw long at h in line.plain (c.at + k) (omega arith) (omega arith) (sym (at_field k i) ∙ q))

  pub fits-is : (κ : Kind) → fits κ field ≡ is_kind κ field
  unfolding fits
  fits-is κ = rw clean-field

  pub left_is : left_at s c ≡ field ∷ left_at s d
  left_is =
      let a = here.first.low in
      let b = here.first.high in
      left-next s c.at c.end e (let q = line.ends in omega arith) (omega arith) here.first
      ∙ ap₂ (λ x y. field ∷ left s x y) (sym here.at) (sym here.end)

  -- the line goes on
  pub in-line : InLine s d
  in-line = record {
    short = line.short;
    ends = rw here.end line.ends;
    plain = λ k h i q.
        let a = here.at in
        let b = here.end in
        let l = here.first.low in
        line.plain k (omega arith) (omega arith) q;
  }

  pub step_follows : (o : Option (List Bytes)) → o ≡ some (left_at s d) → Follows s c o d
  unfolding Follows
  step_follows o q =
      let a = here.at in
      let b = here.first.low in
      let h = here.first.high in
      subst (λ o. Follows s c o d) (sym q) (go (omega arith) (omega arith))
    where
      go : c.at ≤ d.at → d.at ≤ c.end + 1 → Follows s c (some (left_at s d)) d
      go x y = ((here.end, here.awaited), x, y, refl)

  module _ (κ : Kind) (b : Bool) (is : b ≡ is_kind κ field) where
    fits-b : fits κ field ≡ b
    fits-b = fits-is κ ∙ sym is

    pub text-taken : b ≡ true → rest_of (take_field (text κ) (left_at s c)) ≡ some (left_at s d)
    unfolding kept
    text-taken t = rw (left_is, fits-b ∙ t)

    pub text-refused : b ≡ false → rest_of (take_field (text κ) (left_at s c)) ≡ none
    unfolding kept
    text-refused t = rw (left_is, fits-b ∙ t)

    pub term-taken : b ≡ true → rest_of (take_field (term κ) (left_at s c)) ≡ some (left_at s d)
    unfolding kept
    term-taken t = rw (left_is, fits-b ∙ t)

    pub term-terms : b ≡ true → terms_of (take_field (term κ) (left_at s c)) ≡ field ∷ []
    unfolding kept
    term-terms t = rw (left_is, fits-b ∙ t)

    pub term-refused : b ≡ false → take_field (term κ) (left_at s c) ≡ none
    unfolding kept
    term-refused t = rw (left_is, fits-b ∙ t)

-- nothing was taken, and the table is as it was
pub keeps-none : (s a l h : List ℕ) (n : ℕ) (o : Option Took) (want : List Bytes) → o ≡ none → Holds s a l h n want → Holds s a l h n (notes (terms_of o) want)
unfolding notes
keeps-none s a l h n o want e q = rw e q
