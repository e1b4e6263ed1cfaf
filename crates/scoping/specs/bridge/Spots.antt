-- What one walk over the lines of a tree's text notes: where its variables stand, each a field that may be renamed, its place, and how it stands there;
-- and the lines below which others may stand, by which a descent goes that reads no text. Assumes nothing.
use Rattle.std.specs.Prelude.{ℕ, suc, ◌+◌, List, [], ◌∷◌, ◌++◌, Bool, true, false, cond, ◌&&◌, length, get_or}
use Rattle.text.specs.Text.{Bytes, same}
use Rattle.text.specs.Word.{bytes}
use Rattle.text.specs.Field.{is_var}
use Rattle.algebra.specs.bridge.Table.{Slot, Sort, triples, columns, patterns, expressions, rows, orders, aggregates, heads, sets, positions, value_rows, parts, Below, Row}
use Rattle.algebra.specs.bridge.Machine.{amount_of}
use Rattle.scoping.specs.bridge.Places.{Mark}
use Rattle.scoping.specs.bridge.Walk.{opened, number_in}

-- a variable's field: where it starts, its name, and whether it stands visible or covered
pub record Spot : Type 0 where
  pub at : ℕ
  pub name : Bytes
  pub mark : Mark

abbrev pub spot : ℕ → Bytes → Mark → Spot
spot at f m = record { at = at; name = f; mark = m }

-- the variables among the fields from number i on, the first of which starts at a place
unfoldable pub spots_in : Mark → List Slot → ℕ → ℕ → List Bytes → List Spot
unfolding opened is_var
spots_in m ss i at [] = []
spots_in m ss i at (f ∷ fs) = cond (opened ss i && is_var f) (spot at f m ∷ spots_in m ss (suc i) (at + length f + 1) fs) (spots_in m ss (suc i) (at + length f + 1) fs)

-- how many bytes fields take, each after a tab
unfoldable pub fields_size : List Bytes → ℕ
fields_size [] = 0
fields_size (f ∷ fs) = suc (length f + fields_size fs)

-- a group of lines below a line: how many, and of which sort
pub record Group : Type 0 where
  pub many : ℕ
  pub sort : Sort

abbrev pub group : ℕ → Sort → Group
group n s = record { many = n; sort = s }

-- the groups below a line, whose numbers are cs
unfoldable pub groups_below : List Below → List ℕ → List Group
groups_below [] cs = []
groups_below (b ∷ bs) cs = group (amount_of b.amount cs) b.sort ∷ groups_below bs cs

-- a noted line: how many variables were found before it, and the groups below it
pub record Node : Type 0 where
  pub before : ℕ
  pub groups : List Group

abbrev pub node : ℕ → List Group → Node
node n gs = record { before = n; groups = gs }

-- the sorts of lines that are noted: patterns, expressions, orders and aggregates. The variables of the others count for the line above them
abbrev pub noted : Sort → Bool
noted triples = false
noted columns = false
noted patterns = true
noted expressions = true
noted rows = false
noted orders = true
noted aggregates = true
noted heads = false
noted sets = false
noted positions = false
noted value_rows = false
noted parts = false

-- the place behind the lines that were walked, the variables that were found, and the lines that were noted
pub record Trace : Type 0 where
  pub at : ℕ
  pub spots : List Spot
  pub nodes : List Node

abbrev pub trace : ℕ → List Spot → List Node → Trace
trace at xs ns = record { at = at; spots = xs; nodes = ns }

-- the variables of a line; in a service's line all fields stay
unfoldable pub line_spots : Mark → Row → Bytes → List Bytes → ℕ → List Spot
unfolding spots_in same
line_spots m r w fs at = cond (same w (bytes "service")) [] (spots_in m r.slots 0 (at + length w + 1) fs)

-- the line itself, if it is of a sort that is noted
unfoldable pub line_nodes : Sort → Row → List Bytes → ℕ → List Node
unfolding groups_below
line_nodes s r fs n = cond (noted s) (node n (groups_below r.below (number_in (get_or fs 0 []) ∷ number_in (get_or fs 1 []) ∷ [])) ∷ []) []

-- a line more
unfoldable pub spot_line : Sort → Mark → Row → Bytes → List Bytes → Trace → Trace
unfolding line_spots line_nodes fields_size
spot_line s m r w fs t = trace (t.at + length w + fields_size fs + 1) (t.spots ++ line_spots m r w fs t.at) (t.nodes ++ line_nodes s r fs (length t.spots))
