-- What the descent says of the walk over a tree's lines. Assumes nothing.
use Rattle.std.specs.Prelude.{Result, IfOk, ℕ, ◌+◌, ◌*◌, ◌%◌, ◌≤◌, ◌<◌, ◌≡◌, List, [], ◌∷◌, Bool, true, false, length, set, eqb, ltb, Ok, Err}
use Rattle.text.specs.Text.{Bytes, lines_from}
use Rattle.algebra.specs.bridge.Table.{Sort, patterns, heads, opens}
use Rattle.algebra.specs.bridge.Answers.{Answer}
use Rattle.scoping.specs.bridge.Places.{Mark, visible}
use Rattle.scoping.specs.bridge.Walk.{State, state, beneath, whole, tree}
use Rattle.scoping.specs.bridge.Spots.{Spot, Node, noted, Trace, trace, spot_line}
use Rattle.words.specs.bridge.Code.{sort_at, row_of}
use Rattle.names.specs.bridge.Names.{listing, starts_of, sizes_of}
use Rattle.lines.specs.declared.line.Asked.{Asked}
use Rattle.checking.specs.declared.place.Place.{Place}
use Rattle.checking.specs.declared.place.Taken.{Taken}
use Rattle.checking.specs.declared.check.Counted.{Counted}
use Rattle.algebra.specs.Tally.{bounds}
use Rattle.algebra.specs.bridge.Machine.{want, done, check_text}
use Rattle.checking.specs.bridge.Run.{Reached, Ready, Started, Went, Runs, tree_sort}
use Rattle.lines.specs.bridge.Says.{below}
use Rattle.lines.specs.bridge.Below.{mark_under}
use Rattle.lines.specs.bridge.Noded.{Noded, Roomy}
use Rattle.lines.specs.bridge.Spotted.{mark_at, Spotted}
use Rattle.lines.specs.bridge.Stored.{Store, store, Keeps}
use Rattle.algebra.specs.declared.Fault.{Fault}

-- what was noted so far: variables and lines
pub record Marks : Type 0 where
  pub spots : List Spot
  pub nodes : List Node

-- the walk stands at a place, where it has noted x
abbrev pub walk_at : Bytes → Place → Marks → State Trace
walk_at s p x = state (lines_from s p.cursor.at) (trace p.cursor.at x.spots x.nodes)

-- the table of names and the spots; and the lines that were noted, by the table of words
pub record Book : Type 0 where
  pub store : Store
  pub words : List (List ℕ)
  pub nodes : List (List ℕ)
  pub many : ℕ
  pub lines : ℕ

abbrev pub book_at : List ℕ → List ℕ → List (List ℕ) → List (List ℕ) → List (List ℕ) → Place → Book
book_at a l spots words nodes p = record { store = store a l p.n spots p.spots; words = words; nodes = nodes; many = p.nodes; lines = p.lines }

abbrev pub book_in : List (List ℕ) → List (List ℕ) → List (List ℕ) → List (List ℕ) → Place → Book
book_in t spots words nodes p = book_at (starts_of t) (sizes_of t) spots words nodes p

-- before a place of the text s there are these spots, and these lines where there is room for them
pub record Full (s : Bytes) (A : Book) (at : ℕ) (x : Marks) : Type 0 where
  pub keeps : Keeps s A.store at x.spots
  pub few : A.many ≤ A.lines
  pub behind : 3 * A.many ≤ at
  pub noded : Roomy s A.nodes → Noded A.words A.nodes A.many x.nodes

-- a line behind so many spots was noted if its sort is, where there was room
pub record NodePut (b : List (List ℕ)) (m sort before : ℕ) (a : Asked) (b' : List (List ℕ)) (r : ℕ) : Type 0 where
  pub put : noted (sort_at sort) ≡ true → m < length b → (b' ≡ set b m ((a.number * 65536 + before % 65536) ∷ a.first ∷ a.second ∷ [])) × (r ≡ m + 1)
  pub full : length b ≤ m → (b' ≡ b) × (r ≡ m)
  pub stays : noted (sort_at sort) ≡ false → (b' ≡ b) × (r ≡ m)

-- from p to r the walk f was done
unfoldable pub Walks : Bytes → Book → Place → Book → Place → (State Trace → State Trace) → Type 0
Walks s A p B r f = (x : Marks) → Full s A p.cursor.at x → (y : Marks) × Full s B r.cursor.at y × (walk_at s r y ≡ f (walk_at s p x))

-- the same by the table, the spots and the nodes before and after, to the place that was reached
abbrev pub Notes : Bytes → List (List ℕ) → List (List ℕ) → List (List ℕ) → List (List ℕ) → Place → List (List ℕ) → List (List ℕ) → List (List ℕ) → Reached → (State Trace → State Trace) → Type 0
Notes s words t v b p t' v' b' r f = IfOk r (λ q. Walks s (book_in t v words b p) p (book_in t' v' words b' q) q f)

-- a line was walked, and what it asks for is still to be walked
unfoldable pub LineWalks : Bytes → Book → Place → Book → ℕ → ℕ → Taken → Type 0
LineWalks s A p B sort mark r =
    (x : Marks) → Full s A p.cursor.at x → (y : Marks) × Full s B r.place.cursor.at y
    × ((trees : Sort → Mark → State Trace → State Trace) → beneath spot_line trees (eqb r.row.flag 1) (mark_at mark) (row_of r.row).below (r.first ∷ r.second ∷ []) (walk_at s r.place y)
    ≡ whole spot_line trees (sort_at sort) (mark_at mark) (lines_from s p.cursor.at) (trace p.cursor.at x.spots x.nodes))

-- a query's head was walked, and its tree is still to be walked
unfoldable pub HeadWalks : Bytes → Book → Place → Book → Place → Type 0
HeadWalks s A p B r =
    (x : Marks) → Full s A p.cursor.at x → (y : Marks) × Full s B r.cursor.at y
    × ((trees : Sort → Mark → State Trace → State Trace) → trees patterns visible (walk_at s r y) ≡ whole spot_line trees heads visible (lines_from s p.cursor.at) (trace p.cursor.at x.spots x.nodes))

-- the mark of a line below none
abbrev pub mark_alone : ℕ → Mark
mark_alone sort = mark_under sort false true visible

-- a line of a sort, with what stands below it
abbrev pub entry_of : ℕ → ℕ → Mark → State Trace → State Trace
entry_of level sort m st = whole spot_line (tree spot_line (below sort level)) (sort_at sort) m st.lines st.output

-- where the check of a tree met no fault, a level was left where its sort asks for one, and the walk was done
abbrev pub TreeNotes : Bytes → List (List ℕ) → List (List ℕ) → List (List ℕ) → List (List ℕ) → Place → ℕ → ℕ → List (List ℕ) → List (List ℕ) → List (List ℕ) → Reached → Type 0
TreeNotes s words t v b p sort level t' v' b' r = IfOk r (λ _. opens (sort_at sort) ≡ true → level ≡ 0 → ⊥) × (sort ≤ 7 → Notes s words t v b p t' v' b' r (entry_of level sort (mark_alone sort)))

-- where the check of a query's head met no fault, it was walked
abbrev pub HeadNotes : Bytes → List (List ℕ) → List (List ℕ) → List (List ℕ) → List (List ℕ) → Place → List (List ℕ) → List (List ℕ) → List (List ℕ) → Reached → Type 0
HeadNotes s words t v b p t' v' b' r = IfOk r (λ q. HeadWalks s (book_in t v words b p) p (book_in t' v' words b' q) q)

-- of a text of a sort its head line, which only a query has, or its tree was read from p to r: the run, and the walk where no fault was met
pub record Reads (head : Bool) (s : Bytes) (words t : List (List ℕ)) (h : List ℕ) (v b : List (List ℕ)) (p : Place) (sort level : ℕ) (t' : List (List ℕ)) (h' : List ℕ) (v' b' : List (List ℕ)) (r : Reached) : Type 0 where
  pub ready : IfOk r (λ q. Ready s q)
  pub head_runs : head ≡ true → Runs s t h p (want (sort_at sort) level 0 ∷ []) (want (sort_at (tree_sort sort)) level 0 ∷ []) t' h' r
  pub head_notes : head ≡ true → sort ≡ 7 → HeadNotes s words t v b p t' v' b' r
  pub no-head : head ≡ true → (sort ≡ 7 → ⊥) → (r ≡ Ok p) × (book_in t' v' words b' p ≡ book_in t v words b p)
  pub tree-runs : head ≡ false → Runs s t h p (want (sort_at (tree_sort sort)) level 0 ∷ []) [] t' h' r
  pub tree_notes : head ≡ false → TreeNotes s words t v b p (tree_sort sort) level t' v' b' r

-- a text that is one line of a sort with all that it asks for was read to a place: the run, and the walk; and whether something is left over
pub record ReadTo (s : Bytes) (words t : List (List ℕ)) (v b t' : List (List ℕ)) (h' : List ℕ) (v' b' : List (List ℕ)) (sort level : ℕ) (p : Place) (left : Bool) : Type 0 where
  pub went : Went s (starts_of t') (sizes_of t') h' done [] (check_text bounds done (want (sort_at sort) level 0 ∷ []) s) (Ok p)
  pub start : Place
  pub started : Started start
  pub walked : sort ≤ 7 → Walks s (book_in t v words b start) start (book_in t' v' words b' p) p (entry_of level sort (mark_alone sort))
  pub over : left ≡ ltb p.cursor.at (length s)

-- how many names, spots and nodes
abbrev pub counts : ℕ → ℕ → ℕ → Counted
counts n k m = record { names = n; spots = k; nodes = m }

-- what a check noted, or why the text is refused
abbrev pub Noting : Type 0
Noting = Result Counted Fault

-- the answer without spots and nodes
abbrev pub answer_of : Noting → Answer
answer_of (Ok c) = Ok c.names
answer_of (Err f) = Err f

-- the spots and nodes of a good text: all that the walk from its first line on finds, where there was room
unfoldable pub Charts : Bytes → List (List ℕ) → List ℕ → List ℕ → List (List ℕ) → List (List ℕ) → List (List ℕ) → ℕ → ℕ → Noting → Type 0
Charts s words a l before after b sort level (Ok c) =
    length s ≤ 3 * length before → (c.names ≤ 1024) × (xs : List Spot) × (ns : List Node)
    × (entry_of level sort (mark_alone sort) (state (lines_from s 0) (trace 0 [] [])) ≡ state [] (trace (length s) xs ns)) × Spotted (listing s a l c.names) after c.spots xs × (Roomy s b → Noded words b c.nodes ns)
Charts s words a l before after b sort level (Err f) = Unit {0}
