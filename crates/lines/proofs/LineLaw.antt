-- What a line asks for, or how it is refused: one law a way out, and how the line is counted. Assumes nothing.
use Prim.Native.Nat.{ℕ, zero, suc, ◌≤◌, ◌<◌, pred, max}
use mathlib.Core.Path.{◌≡◌, refl, ◌∙◌}
use mathlib.Core.List.{List, [], ◌∷◌, ◌++◌}
use mathlib.Core.Bool.{Bool, true, false, cond, ◌&&◌}
use mathlib.Core.Option.{none, some}
use native.Mathlib.Omega.{arith}
use lib.ListN.{length}
use lib.Dec.{leb}
use borrow.Author.Tests.{le-leb, lt-leb}
use Rattle.text.specs.Text.{Bytes}
use Rattle.text.specs.Field.{is_var}
use Rattle.algebra.specs.Valid.{mem}
use Rattle.algebra.specs.Tally.{bounds, Tally, within, notes, noted, headed}
use Rattle.algebra.specs.Reader.{malformed, over_bound, got, refused, one, end, too_many}
use Rattle.algebra.specs.bridge.Table.{Tail, nothing, columns, variables, texts, values, value, Sort, Row, row_for, opens}
use Rattle.algebra.specs.bridge.Machine.{want, wants, closing, line_of}
use Rattle.words.specs.bridge.Code.{row_of}
use Rattle.words.specs.declared.Row.{Row as Code}
use Rattle.lines.specs.bridge.Line.{Fields, take_line, columns_of}
use Rattle.lines.proofs.LineTook.{counted, Refuses, line_got, line-took}

no-right : (b : Bool) → (b && false) ≡ false
no-right true = refl
no-right false = refl

-- ---- the end of a line

pub end-refuses : Refuses (end bounds)
unfolding end
end-refuses = record { over = λ c f fs ls m. refl }

pub many-refuses : Refuses too_many
unfolding too_many
many-refuses = record { over = λ c f fs ls m. refl }

pub closing-refuses : (b : Bool) (d : ℕ) → Refuses (closing bounds b d)
closing-refuses true zero = many-refuses
closing-refuses true (suc d) = end-refuses
closing-refuses false d = end-refuses

module _ (c : Tally → Tally) (m : Tally) where
  close_deep : (b : Bool) (d : ℕ) → b ≡ true → d ≡ 0 → closing bounds b d c ([] ∷ []) m ≡ refused over_bound
  unfolding too_many
  close_deep b d p q = rw (p, q)

  close-over : (b : Bool) (d : ℕ) → within bounds (c m) ≡ false → closing bounds b d c ([] ∷ []) m ≡ refused over_bound
  unfolding too_many end
  close-over true zero h = refl
  close-over true (suc d) h = rw h
  close-over false d h = rw h

  close-on : (b : Bool) (d : ℕ) → (b ≡ true → d ≡ 0 → ⊥) → within bounds (c m) ≡ true → closing bounds b d c ([] ∷ []) m ≡ got tt [] (c m)
  unfolding end
  close-on true zero n h = absurd (n refl refl)
  close-on true (suc d) n h = rw h
  close-on false d n h = rw h

-- ---- a line, by its word and the fields behind it

module _ (s : Sort) (d n : ℕ) (w : Bytes) (l : List Bytes) (m : Tally) where
  pub line-unknown : row_for s w ≡ none → line_of bounds (want s d n) ((w ∷ l) ∷ []) m ≡ refused malformed
  unfolding line_of one
  line-unknown h = rw h

  module _ (r : Row) (h : row_for s w ≡ some r) where
    line-says : line_of bounds (want s d n) ((w ∷ l) ∷ []) m ≡ line_got (closing bounds (opens s) d) (cond (opens s) (pred d) d) r m (take_line r n l)
    unfolding line_of one
    line-says = rw h (line-took (closing bounds (opens s) d) (closing-refuses (opens s) d) (cond (opens s) (pred d) d) n r l m)

    pub line-wrong : take_line r n l ≡ none → line_of bounds (want s d n) ((w ∷ l) ∷ []) m ≡ refused malformed
    line-wrong k = line-says ∙ rw k

    module _ (u : Fields) (k : take_line r n l ≡ some u) where
      pub line-deep : opens s ≡ true → d ≡ 0 → line_of bounds (want s d n) ((w ∷ l) ∷ []) m ≡ refused over_bound
      line-deep p q = line-says ∙ rw (k, close_deep (counted r.tail u.terms) m (opens s) d p q)

      pub line-over : within bounds (counted r.tail u.terms m) ≡ false → line_of bounds (want s d n) ((w ∷ l) ∷ []) m ≡ refused over_bound
      line-over p = line-says ∙ rw (k, close-over (counted r.tail u.terms) m (opens s) d p)

      pub line-asks : (opens s ≡ true → d ≡ 0 → ⊥) → within bounds (counted r.tail u.terms m) ≡ true → line_of bounds (want s d n) ((w ∷ l) ∷ []) m ≡ got (wants (cond (opens s) (pred d) d) u.numbers r.below) [] (counted r.tail u.terms m)
      line-asks p q = line-says ∙ rw (k, close-on (counted r.tail u.terms) m (opens s) d p q)

-- a line of columns has no other fields
pub columns-bare : (c : Code) → (row_of c).tail ≡ columns → (row_of c).slots ≡ []
columns-bare c e = rw e

-- ---- how a line is counted

module _ (ts : List Bytes) (m : Tally) where
  pub counted-lines : (t : Tail) → (counted t ts m).lines ≡ suc m.lines
  unfolding counted noted headed
  counted-lines nothing = refl
  counted-lines columns = refl
  counted-lines variables = refl
  counted-lines (texts κ) = refl
  counted-lines values = refl
  counted-lines value = refl

  pub counted-names : (t : Tail) → (counted t ts m).names ≡ notes ts m.names
  unfolding counted noted headed
  counted-names nothing = refl
  counted-names columns = refl
  counted-names variables = refl
  counted-names (texts κ) = refl
  counted-names values = refl
  counted-names value = refl

  -- the columns count as the widest project's, if they are
  pub counted-wide : (t : Tail) → (counted t ts m).wide ≡ max m.wide (columns_of t ts)
  unfolding counted noted headed
  counted-wide nothing = omega arith
  counted-wide columns = refl
  counted-wide variables = omega arith
  counted-wide (texts κ) = omega arith
  counted-wide values = omega arith
  counted-wide value = omega arith

  module _ (t : Tail) where
    within-is : within bounds (counted t ts m) ≡ (leb (suc m.lines) 2048 && (leb (max m.wide (columns_of t ts)) bounds.columns && leb (length (notes ts m.names)) 1024))
    unfolding within
    within-is = rw (counted-lines t, counted-wide t, counted-names t)

    pub within-yes : m.wide ≤ bounds.columns → m.lines < 2048 → columns_of t ts ≤ bounds.columns → length (notes ts m.names) ≤ 1024 → (within bounds (counted t ts m) ≡ true) × ((counted t ts m).wide ≤ bounds.columns)
    within-yes w l c n =
        let a : max m.wide (columns_of t ts) ≤ bounds.columns = omega arith in
        (within-is ∙ rw (le-leb (suc m.lines) 2048 l, le-leb (max m.wide (columns_of t ts)) bounds.columns a, le-leb (length (notes ts m.names)) 1024 n), rw (counted-wide t) a)

    pub within-no-lines : 2048 ≤ m.lines → within bounds (counted t ts m) ≡ false
    within-no-lines h = let a : 2048 < suc m.lines = omega arith in within-is ∙ rw (lt-leb (suc m.lines) 2048 a)

    pub within-no-columns : bounds.columns < columns_of t ts → within bounds (counted t ts m) ≡ false
    within-no-columns h =
        let a : bounds.columns < max m.wide (columns_of t ts) = omega arith in
        within-is ∙ rw (lt-leb (max m.wide (columns_of t ts)) bounds.columns a) (no-right (leb (suc m.lines) 2048))

    pub within-no-names : 1024 < length (notes ts m.names) → within bounds (counted t ts m) ≡ false
    within-no-names h =
        within-is ∙ rw (lt-leb (length (notes ts m.names)) 1024 h, no-right (leb (max m.wide (columns_of t ts)) bounds.columns)) (no-right (leb (suc m.lines) 2048))

-- the names of more fields
pub notes-more : (a b ns : List Bytes) → notes (a ++ b) ns ≡ notes b (notes a ns)
unfolding notes
notes-more [] b ns = refl
notes-more (f ∷ a) b ns = notes-more a b (cond (is_var f) (cond (mem f ns) ns (ns ++ (f ∷ []))) ns)
