-- One walk over the lines of a tree, pattern and expression by turns: what is made of each line, under the mark that its variables have there. It knows lines and the table of words, and no tree. Assumes nothing.
use Prim.Native.Nat.{ℕ, zero, suc}
use mathlib.Core.List.{List, [], ◌∷◌}
use Rattle.std.specs.Prelude.{Bool, true, false, cond, ◌&&◌, ◌||◌, get_or, eqb}
use Rattle.std.proofs.Math.Option.{Option, none, some}
use Rattle.text.specs.Text.{Bytes, Line, same}
use Rattle.text.specs.Word.{bytes}
use Rattle.text.specs.Field.{number_of}
use Rattle.algebra.specs.bridge.Table.{Slot, term, text, count, choice, Sort, triples, columns, patterns, expressions, rows, orders, aggregates, heads, sets, positions, value_rows, parts, Below, Row, row, row_for}
use Rattle.algebra.specs.bridge.Machine.{amount_of}
use Rattle.scoping.specs.bridge.Places.{Mark, silent, under}

-- the lines that are not yet walked, and what was made of those that were
pub record State (O : Type 0) : Type 0 where
  pub lines : List Line
  pub output : O

abbrev pub state : {O : Type 0} → List Line → O → State O
state ls o = record { lines = ls; output = o }

-- ---- one line

-- the field may be a variable: it is none of the other texts that its row tells
unfoldable pub opened : List Slot → ℕ → Bool
opened [] i = true
opened (term k ∷ ss) zero = true
opened (text k ∷ ss) zero = false
opened (count ∷ ss) zero = true
opened (choice ∷ ss) zero = true
opened (s ∷ ss) (suc i) = opened ss i

-- no fields, and nothing below
abbrev pub row_or : Option Row → Row
row_or none = row [] []
row_or (some r) = r

-- the number that a field is, or 0
abbrev pub or_zero : Option ℕ → ℕ
or_zero none = 0
or_zero (some n) = n

abbrev pub number_in : Bytes → ℕ
number_in f = or_zero (number_of f)

-- the last pattern under this word hides its variables: a project's, a group's, the right one of a minus
unfoldable pub hides : Bytes → Bool
hides w = same w (bytes "project") || (same w (bytes "group") || same w (bytes "minus"))

-- ---- what stands below

-- so many children, one after the other; the last one is told that it is
unfoldable pub times : {O : Type 0} → (Bool → State O → State O) → ℕ → State O → State O
times f zero st = st
times f (suc n) st = times f n (f (eqb n 0) st)

-- how many lines the first group has
abbrev pub head_amount : List Below → List ℕ → ℕ
head_amount [] cs = 0
head_amount (b ∷ bs) cs = amount_of b.amount cs

module _ {O : Type 0} (put : Sort → Mark → Row → Bytes → List Bytes → O → O) where
  -- a line that is neither pattern nor expression, and the expression below it, if any
  unfoldable pub part : (Sort → Mark → State O → State O) → Sort → Mark → List Line → O → State O
  part trees s m [] o = state [] o
  part trees s m ([] ∷ ls) o = state ls o
  part trees s m ((w ∷ fs) ∷ ls) o =
      cond (eqb (head_amount (row_or (row_for s w)).below (number_in (get_or fs 0 []) ∷ number_in (get_or fs 1 []) ∷ [])) 0)
      (state ls (put s m (row_or (row_for s w)) w fs o))
      (trees expressions silent (state ls (put s m (row_or (row_for s w)) w fs o)))

  -- one child: expressions are silent, and a pattern that is hidden is marked so; other sorts stand below no tree
  unfoldable pub child : (Sort → Mark → State O → State O) → Bool → Mark → Sort → Bool → State O → State O
  unfolding part
  child trees hide m triples last st = part trees triples m st.lines st.output
  child trees hide m columns last st = part trees columns m st.lines st.output
  child trees hide m patterns last st = trees patterns (cond (hide && last) (under m) m) st
  child trees hide m expressions last st = trees expressions silent st
  child trees hide m rows last st = part trees rows m st.lines st.output
  child trees hide m orders last st = part trees orders m st.lines st.output
  child trees hide m aggregates last st = part trees aggregates m st.lines st.output
  child trees hide m heads last st = st
  child trees hide m sets last st = st
  child trees hide m positions last st = st
  child trees hide m value_rows last st = st
  child trees hide m parts last st = st

  -- the groups of lines below a line, whose numbers are cs
  unfoldable pub beneath : (Sort → Mark → State O → State O) → Bool → Mark → List Below → List ℕ → State O → State O
  unfolding child times
  beneath trees hide m [] cs st = st
  beneath trees hide m (b ∷ bs) cs st = beneath trees hide m bs cs (times (child trees hide m b.sort) (amount_of b.amount cs) st)

  -- a line and what stands below it
  unfoldable pub whole : (Sort → Mark → State O → State O) → Sort → Mark → List Line → O → State O
  unfolding beneath
  whole trees s m [] o = state [] o
  whole trees s m ([] ∷ ls) o = state ls o
  whole trees s m ((w ∷ fs) ∷ ls) o =
      beneath trees (hides w) m (row_or (row_for s w)).below (number_in (get_or fs 0 []) ∷ number_in (get_or fs 1 []) ∷ [])
      (state ls (put s m (row_or (row_for s w)) w fs o))

  -- a pattern or an expression, where d levels may still be opened
  unfoldable pub tree : ℕ → Sort → Mark → State O → State O
  unfolding whole
  tree zero s m st = st
  tree (suc d) s m st = whole (tree d) s m st.lines st.output
