-- What the code has noted at a place of the text, and what a step along a line adds. Assumes nothing.
use Rattle.std.specs.Prelude.{ℕ, ◌+◌, ◌*◌, ◌≤◌, ◌<◌, ◌≡◌, List, [], ◌∷◌, ◌++◌, cond, length, set, eqb, Ok, Err}
use Rattle.text.specs.Text.{Bytes, Line, split, part}
use Rattle.text.specs.Field.{is_var}
use Rattle.algebra.specs.bridge.Table.{Slot, Sort}
use Rattle.scoping.specs.bridge.Places.{Mark}
use Rattle.scoping.specs.bridge.Walk.{State, state, beneath, whole}
use Rattle.scoping.specs.bridge.Spots.{Spot, spot, spots_in, Node, node, groups_below, noted, Trace, trace, spot_line}
use Rattle.cursor.specs.declared.Cursor.{Cursor}
use Rattle.words.specs.bridge.Code.{sort_at, row_of}
use Rattle.names.specs.bridge.Names.{listing, starts_of, sizes_of}
use Rattle.lines.specs.declared.line.Asked.{Asked}
use Rattle.lines.specs.bridge.Says.{Line as Read}
use Rattle.lines.specs.bridge.Spotted.{mark_at, Spotted}
use Rattle.lines.specs.bridge.Steps.{left_at}
use Rattle.algebra.specs.declared.Fault.TheVariants.{Malformed, OverBound}

-- the table of names, and the spots
pub record Store : Type 0 where
  pub starts : List ℕ
  pub sizes : List ℕ
  pub names : ℕ
  pub spots : List (List ℕ)
  pub many : ℕ

abbrev pub store : List ℕ → List ℕ → ℕ → List (List ℕ) → ℕ → Store
store starts sizes n spots k = record { starts = starts; sizes = sizes; names = n; spots = spots; many = k }

abbrev pub store_of : List (List ℕ) → ℕ → List (List ℕ) → ℕ → Store
store_of t n spots k = store (starts_of t) (sizes_of t) n spots k

-- before a place of the text s there are the spots xs, and there is room for all that the text can have: each takes three bytes
pub record Keeps (s : Bytes) (A : Store) (at : ℕ) (xs : List Spot) : Type 0 where
  pub tables : (length A.starts ≡ 1024) × (length A.sizes ≡ 1024)
  pub few : A.names ≤ 1024
  pub room : length s ≤ 3 * length A.spots
  pub behind : 3 * A.many ≤ at
  pub inside : at ≤ length s
  pub spots : Spotted (listing s A.starts A.sizes A.names) A.spots A.many xs

-- from a place to another: of all spots that were to come, the rest is still to come, where the table has room
pub record Adds (s : Bytes) (A : Store) (at : ℕ) (B : Store) (to : ℕ) (all rest : List Spot) : Type 0 where
  pub grows : A.names ≤ B.names
  pub on : B.names ≤ 1024 → (xs : List Spot) → Keeps s A at xs → (ys : List Spot) × (ys ++ rest ≡ all) × Keeps s B to (xs ++ ys)

-- an entry was put behind the first k, where there was room
pub record Placed (a : List (List ℕ)) (k : ℕ) (e : List ℕ) (b : List (List ℕ)) (r : ℕ) : Type 0 where
  pub put : k < length a → (b ≡ set a k e) × (r ≡ k + 1)

-- the spots that a cursor has left in its line, where those slots are to come
abbrev pub found : Mark → List Slot → Bytes → Cursor → List Spot
found m ss s c = spots_in m ss 0 c.at (left_at s c)

-- a field's spot, if it is a variable
abbrev pub one_spot : Mark → ℕ → Bytes → List Spot
one_spot m at f = cond (is_var f) (spot at f m ∷ []) []

-- the line itself, if it is of a sort that is noted, behind so many spots
abbrev pub line_node : ℕ → ℕ → Asked → List Node
line_node sort k q = cond (noted (sort_at sort)) (node k (groups_below (row_of q.row).below (q.first ∷ q.second ∷ [])) ∷ []) []

-- a good line up to c.end: its spots were noted, and what it asks for is still to be walked, once the line is noted itself
unfoldable pub LineNotes : Bytes → List ℕ → List ℕ → ℕ → List (List ℕ) → ℕ → List ℕ → List ℕ → List (List ℕ) → Cursor → ℕ → ℕ → Read → Type 0
LineNotes s a l n p k a' l' p' c sort mark (Ok q) =
    (xs : List Spot) → Keeps s (store a l n p k) c.at xs →
    (ys : List Spot) × Keeps s (store a' l' q.names p' q.spots) (c.end + 1) ys
    × ((trees : Sort → Mark → State Trace → State Trace) (ls : List Line) (ns : List Node)
    → beneath spot_line trees (eqb q.row.flag 1) (mark_at mark) (row_of q.row).below (q.first ∷ q.second ∷ []) (state ls (trace (c.end + 1) ys (ns ++ line_node sort (length xs) q)))
    ≡ whole spot_line trees (sort_at sort) (mark_at mark) (split 9 (part c.at c.end s) ∷ ls) (trace c.at xs ns))
LineNotes s a l n p k a' l' p' c sort mark (Err Malformed) = Unit {0}
LineNotes s a l n p k a' l' p' c sort mark (Err OverBound) = Unit {0}
