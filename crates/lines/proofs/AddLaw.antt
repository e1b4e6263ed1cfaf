-- What each step along a line adds to the spots. Assumes nothing.
use Prim.Native.Nat.{ℕ, ◌+◌, ◌-◌, ◌≤◌}
use mathlib.Core.Path.{◌≡◌, refl}
use mathlib.Core.List.{List, [], ◌∷◌}
use mathlib.Core.Option.{some}
use native.Mathlib.Omega.{arith}
use Rattle.text.specs.Text.{Bytes, piece}
use Rattle.text.specs.Field.{Kind}
use Rattle.cursor.specs.declared.Cursor.{Cursor}
use Rattle.cursor.proofs.Laws.{Next}
use Rattle.algebra.specs.bridge.Table.{Slot, term, text, count, choice}
use Rattle.scoping.specs.bridge.Places.{Mark}
use Rattle.words.specs.bridge.Code.{tail_of}
use Rattle.lines.specs.bridge.Line.{take_field, take_tail}
use Rattle.lines.specs.bridge.Steps.{InLine, left_at, Follows, rest_of, rest_in}
use Rattle.lines.specs.bridge.Stored.{Store, Adds, found, one_spot}
use Rattle.lines.proofs.StepLaw.{field, left_is, in-line}
use Rattle.lines.proofs.RepeatLaw.{follows-fine, follows-line}
use Rattle.lines.proofs.StoreLaw.{adds_none, adds_then, adds-front, adds-as}
use Rattle.lines.proofs.SpotsLaw.{Passes, passes-text, passes_count, passes-choice, came_from, found_passed, found-term, found-alone, found_plain}

-- a term
pub term-adds : (s : Bytes) (c : Cursor) (e : ℕ) (d : Cursor) (line : InLine s c) (here : Next s c e d) (A B : Store) (m : Mark) (κ : Kind) (ss : List Slot)
    → Adds s A c.at B (c.at + (e - c.at) + 1) (one_spot m c.at (piece c.at (e - c.at) s)) [] → Adds s A c.at B d.at (found m (term κ ∷ ss) s c) (found m ss s d)
term-adds s c e d line here A B m κ ss f =
    let l = here.first.low in
    let h = here.first.high in
    let a = here.at in
    adds-front s A c.at B (c.at + (e - c.at) + 1) d.at (one_spot m c.at (piece c.at (e - c.at) s)) _ _ (omega arith)
    (found-term s c d line (in-line s c e d line here) (here.end, here.awaited) (omega arith) (omega arith) m κ ss (field s c e d line here) (left_is s c e d line here)) f

-- a field that is no term
module _ (s : Bytes) (c d : Cursor) (A : Store) (m : Mark) (ss : List Slot) (line : InLine s c) where
  passed : (σ : Slot) → Follows s c (rest_of (take_field σ (left_at s c))) d → d.at ≤ c.end + 1 → (rest_of (take_field σ (left_at s c)) ≡ some (left_at s d) → Passes σ (left_at s c) (left_at s d)) → Adds s A c.at A d.at (found m (σ ∷ ss) s c) (found m ss s d)
  passed σ f h p =
      let x = follows-fine s c d (rest_of (take_field σ (left_at s c))) f h in
      let e = line.ends in
      let l = came_from s c d σ f h in
      adds_none s A c.at d.at _ _ x.1 (omega arith) (found_passed s c d line (follows-line s c d _ line f) x.2 (omega arith) h m σ ss (p x.0))

  pub text-adds : (κ : Kind) → Follows s c (rest_of (take_field (text κ) (left_at s c))) d → d.at ≤ c.end + 1 → Adds s A c.at A d.at (found m (text κ ∷ ss) s c) (found m ss s d)
  text-adds κ f h = passed (text κ) f h (passes-text κ (left_at s c) (left_at s d))

  pub count-adds : Follows s c (rest_of (take_field count (left_at s c))) d → d.at ≤ c.end + 1 → Adds s A c.at A d.at (found m (count ∷ ss) s c) (found m ss s d)
  count-adds f h = passed count f h (passes_count (left_at s c) (left_at s d))

  pub choice-adds : Follows s c (rest_of (take_field choice (left_at s c))) d → d.at ≤ c.end + 1 → Adds s A c.at A d.at (found m (choice ∷ ss) s c) (found m ss s d)
  choice-adds f h = passed choice f h (passes-choice (left_at s c) (left_at s d))

-- nothing is taken
pub stay-adds : (s : Bytes) (c : Cursor) (A : Store) (m : Mark) (ss : List Slot) → InLine s c → c.at ≤ c.end + 1 → Adds s A c.at A c.at (found m ss s c) (found m ss s c)
stay-adds s c A m ss line h = let e = line.ends in adds_none s A c.at c.at _ _ (omega arith) (omega arith) refl

-- variables behind the slots
pub more-adds : (s : Bytes) (c d r : Cursor) (A B C : Store) (m : Mark) (κ : Kind) → Adds s A c.at B d.at (found m [] s c) (found m [] s d) → Adds s B d.at C r.at (found m (term κ ∷ []) s d) (found m [] s r) → Adds s A c.at C r.at (found m [] s c) (found m [] s r)
more-adds s c d r A B C m κ f g = adds_then s A c.at B d.at C r.at _ _ _ f (adds-as s B d.at C r.at _ _ _ _ (found-alone m κ s d) refl g)

-- other fields behind the slots
pub plain-adds : (s : Bytes) (c d : Cursor) (A : Store) (m : Mark) (kind width : ℕ) → InLine s c → c.at ≤ c.end + 1 → (kind ≡ 1 → ⊥) → (kind ≡ 2 → ⊥) → Follows s c (rest_in (take_tail (tail_of kind) width (left_at s c))) d → d.at ≤ c.end + 1 → kind ≤ 3
    → Adds s A c.at A d.at (found m [] s c) (found m [] s d)
plain-adds s c d A m kind width line high a b f h k =
    let x = follows-fine s c d _ f h in
    let e = line.ends in
    adds_none s A c.at d.at _ _ x.1 (omega arith) (found_plain s c d kind width m line (follows-line s c d _ line f) high k a b f h)
