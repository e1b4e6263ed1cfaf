-- A line by its word, its fields and the bounds: each way out of the code is what the line machine does. Assumes nothing.
use Prim.Native.Nat.{ℕ, ◌+◌, ◌≤◌, ◌<◌}
use mathlib.Core.Path.{◌≡◌, sym, ◌∙◌, ap, subst}
use mathlib.Core.List.{List, ◌∷◌}
use mathlib.Core.Bool.{Bool, true, false}
use mathlib.Core.Option.{some}
use native.Mathlib.Omega.{arith}
use lib.ListN.{length}
use Rattle.text.specs.Text.{Bytes, split, part}
use Rattle.cursor.specs.declared.Cursor.{Cursor}
use Rattle.cursor.proofs.Laws.{left-all, Next}
use Rattle.algebra.specs.Tally.{Tally, bounds, within, notes}
use Rattle.algebra.specs.bridge.Table.{row_for, opens}
use Rattle.words.specs.declared.Row.{Row as Code}
use Rattle.words.specs.bridge.Code.{Found, sort_at, row_of, row_found, Tidy}
use Rattle.names.specs.bridge.Names.{Holds}
use Rattle.names.proofs.Laws.{holds-long}
use Rattle.lines.specs.bridge.Line.{Fields, take_line}
use Rattle.lines.specs.bridge.Steps.{InLine, left_at, terms_in}
use Rattle.lines.specs.bridge.Says.{Says, LineIs}
use Rattle.lines.proofs.StepLaw.{field, left_is}
use Rattle.lines.proofs.LineTook.{counted}
use Rattle.lines.proofs.LineLaw.{line-unknown, line-wrong, line-deep, line-over, line-asks, counted-lines, counted-names, within-yes, within-no-lines, within-no-columns, within-no-names}
use Rattle.std.specs.Prelude.{Some, None, Ok, Err}
use Rattle.algebra.specs.declared.Fault.TheVariants.{Malformed, OverBound}

module _ (s a l h : List ℕ) (c : Cursor) (e : ℕ) (d : Cursor) (i : InLine s c) (low : c.at ≤ c.end) (here : Next s c e d) (sort level width : ℕ) (m : Tally) (f : Found) (is : row_found f ≡ row_for (sort_at sort) (field s c e d i here)) where
  word : Bytes
  word = field s c e d i here

  fields-are : split 9 (part c.at c.end s) ≡ field s c e d i here ∷ left_at s d
  fields-are = sym (left-all s c.at c.end low) ∙ left_is s c e d i here

  pub is-unknown : f ≡ None → LineIs s a l h c sort level width m (Err Malformed)
  unfolding LineIs
  is-unknown q = rw fields-are (line-unknown (sort_at sort) level width (field s c e d i here) (left_at s d) m (sym is ∙ ap row_found q))

  module _ (row : Code) (q : f ≡ Some row) (b : Cursor) (x y k : ℕ) (says : Says d (take_line (row_of row) width (left_at s d)) (row_of row).tail b x y k) where
    found : row_for (sort_at sort) (field s c e d i here) ≡ some (row_of row)
    found = sym is ∙ ap row_found q

    pub is-wrong : (b.at ≡ d.end + 1 → ⊥) → LineIs s a l h c sort level width m (Err Malformed)
    unfolding LineIs
    is-wrong z = rw fields-are (line-wrong (sort_at sort) level width (field s c e d i here) (left_at s d) m (row_of row) found (says.broken z))

    module _ (z : b.at ≡ d.end + 1) where
      abbrev said : Fields
      said = (says.whole z).0

      line-said : take_line (row_of row) width (left_at s d) ≡ some said
      line-said = (says.whole z).1

      over : within bounds (counted (row_of row).tail said.terms m) ≡ false → LineIs s a l h c sort level width m (Err OverBound)
      unfolding LineIs
      over n = rw fields-are (line-over (sort_at sort) level width (field s c e d i here) (left_at s d) m (row_of row) found said line-said n)

      pub is-late : 2048 ≤ m.lines → LineIs s a l h c sort level width m (Err OverBound)
      is-late n = over (within-no-lines said.terms m (row_of row).tail n)

      pub is_wide : bounds.columns < k → LineIs s a l h c sort level width m (Err OverBound)
      is_wide n = over (within-no-columns said.terms m (row_of row).tail (rw (says.whole z).4 n))

      pub is-deep : (t : Bool) → t ≡ opens (sort_at sort) → t ≡ true → level ≡ 0 → LineIs s a l h c sort level width m (Err OverBound)
      unfolding LineIs
      is-deep t p r n = rw fields-are (line-deep (sort_at sort) level width (field s c e d i here) (left_at s d) m (row_of row) found said line-said (sym p ∙ r) n)

      module _ (n : ℕ) (keeps : Holds s a l h n (notes (terms_in (take_line (row_of row) width (left_at s d))) m.names)) where
        keeps-said : Holds s a l h n (notes said.terms m.names)
        keeps-said = subst (λ o. Holds s a l h n (notes (terms_in o) m.names)) line-said keeps

        pub is-full : 1024 < n → LineIs s a l h c sort level width m (Err OverBound)
        is-full g = over (within-no-names said.terms m (row_of row).tail (keeps-said.over g))

        pub is-asked : (number j : ℕ) → m.wide ≤ bounds.columns → m.lines < 2048 → k ≤ bounds.columns → n ≤ 1024 → (opens (sort_at sort) ≡ true → level ≡ 0 → ⊥) → Tidy sort f → LineIs s a l h c sort level width m (Ok (record { number = number; row = row; first = x; second = y; names = n; spots = j }))
        unfolding LineIs
        is-asked number j wide lines cols room shallow tidy =
            let long : length (notes said.terms m.names) ≤ 1024 = let g = holds-long s a l h n _ keeps-said room in omega arith in
            let v = says.whole z in
            let w = within-yes said.terms m (row_of row).tail wide lines (rw v.4 cols) long in (
              said.numbers,
              counted (row_of row).tail said.terms m,
              rw fields-are (line-asks (sort_at sort) level width (field s c e d i here) (left_at s d) m (row_of row) found said line-said shallow w.0),
              v.2,
              v.3,
              says.small.0,
              says.small.1,
              counted-lines said.terms m (row_of row).tail,
              w.1,
              rw (counted-names said.terms m (row_of row).tail) keeps-said,
              room,
              subst (Tidy sort) q tidy,
              shallow,
            )

-- a sort that opens no level, or a level that is left
pub not-opening : (sort level : ℕ) (t : Bool) → t ≡ opens (sort_at sort) → t ≡ false → opens (sort_at sort) ≡ true → level ≡ 0 → ⊥
not-opening sort level t p r q n = let z : true ≡ false = sym q ∙ (sym p ∙ r) in let y : ◌≡◌ {A = ℕ} 0 1 = cc in omega arith
