-- The descent over the notes of a tree's lines goes as the walk over the lines went: behind the last note nothing is left. Assumes nothing.
use Prim.Native.Nat.{ℕ, zero, suc}
use mathlib.Core.Path.{◌≡◌, refl, sym, ap, ◌∙◌}
use mathlib.Core.List.{List, [], ◌∷◌, ◌++◌, append-nil, append_assoc}
use mathlib.Core.Bool.{Bool, true, false, cond, ◌&&◌, ◌||◌, false≢true}
use mathlib.Core.Option.{some}
use native.Mathlib.Omega.{arith}
use lib.ListN.{length, get_or}
use lib.Dec.{eqb}
use borrow.Author.Tests.{eqb-true}
use Rattle.text.specs.Text.{Bytes, Line, same}
use Rattle.text.proofs.Basics.{and_left, and_right}
use Rattle.text.proofs.Texts.{Ended}
use Rattle.algebra.specs.bridge.Table.{Sort, triples, columns, patterns, expressions, rows, orders, aggregates, heads, sets, positions, value_rows, parts, Amount, always, given, more, Below, Row, row, Entry, rows_of, row_in, row_for}
use Rattle.algebra.specs.bridge.Machine.{amount_of}
use Rattle.scoping.specs.bridge.Places.{Mark, silent, under}
use Rattle.scoping.specs.bridge.Walk.{State, state, row_or, number_in, hides, times, head_amount, part, child, beneath, whole, tree}
use Rattle.scoping.specs.bridge.Spots.{Spot, Node, node, group, groups_below, noted, Trace, trace, line_nodes, spot_line}
use Rattle.scoping.specs.bridge.Skip.{is_patterns, is_expressions, skip_times, head_many, skip_part, skip_child, skip_groups, skip_under, skip}

-- ---- rows of the table

abbrev all_rows : (Row → Bool) → List Entry → Bool
all_rows t [] = true
all_rows t (e ∷ es) = t e.row && all_rows t es

-- what all rows of a sort pass, and the row of an unknown word, a word's row passes
row-passes : (t : Row → Bool) (es : List Entry) (w : Bytes) → all_rows t es ≡ true → t (row [] []) ≡ true → t (row_or (row_in es w)) ≡ true
unfolding row_in
row-passes t [] w h n = n
row-passes t (e ∷ es) w h n = go (same w e.word) (row-passes t es w (and_right (t e.row) (all_rows t es) h) n)
  where
    go : (b : Bool) → t (row_or (row_in es w)) ≡ true → t (row_or (cond b (some e.row) (row_in es w))) ≡ true
    go true r = and_left (t e.row) (all_rows t es) h
    go false r = r

-- nothing stands below
abbrev no_group : List Below → Bool
no_group [] = true
no_group (b ∷ bs) = false

abbrev bare : Row → Bool
bare r = no_group r.below

bare-none : (r : Row) (cs : List ℕ) → bare r ≡ true → head_amount r.below cs ≡ 0
bare-none r cs h = go r.below h
  where
    go : (bs : List Below) → no_group bs ≡ true → head_amount bs cs ≡ 0
    go [] h = refl
    go (b ∷ bs) h = absurd (false≢true h)

-- one group at most, of expressions or of one pattern
abbrev once : Amount → Bool
once (always n) = eqb n 1
once (given i) = false
once (more i n) = false

abbrev one_group : List Below → Bool
one_group [] = true
one_group (b ∷ []) = is_expressions b.sort || (is_patterns b.sort && once b.amount)
one_group (b ∷ c ∷ bs) = false

abbrev single : Row → Bool
single r = one_group r.below

-- such a group is gone over as an expression's
under-groups : (U : Sort → List Node → List Node) (bs : List Below) (cs : List ℕ) (ns : List Node) → one_group bs ≡ true → skip_under U (groups_below bs cs) ns ≡ skip_groups U (groups_below bs cs) ns
unfolding groups_below skip_under skip_groups skip_times skip_child
under-groups U [] cs ns h = refl
under-groups U (b ∷ []) cs ns h = go b.sort b.amount h
  where
    pattern : (a : Amount) → once a ≡ true → U patterns ns ≡ skip_times (skip_child U patterns) (amount_of a cs) ns
    pattern (always n) h = rw (eqb-true n 1 h) refl
    pattern (given i) h = absurd (false≢true h)
    pattern (more i n) h = absurd (false≢true h)

    go : (s : Sort) (a : Amount) → (is_expressions s || (is_patterns s && once a)) ≡ true → cond (is_patterns s) (U patterns ns) (skip_times (U expressions) (amount_of a cs) ns) ≡ skip_times (skip_child U s) (amount_of a cs) ns
    go triples a h = absurd (false≢true h)
    go columns a h = absurd (false≢true h)
    go patterns a h = pattern a h
    go expressions a h = refl
    go rows a h = absurd (false≢true h)
    go orders a h = absurd (false≢true h)
    go aggregates a h = absurd (false≢true h)
    go heads a h = absurd (false≢true h)
    go sets a h = absurd (false≢true h)
    go positions a h = absurd (false≢true h)
    go value_rows a h = absurd (false≢true h)
    go parts a h = absurd (false≢true h)
under-groups U (b ∷ c ∷ bs) cs ns h = absurd (false≢true h)

-- ---- stretches of the walk

-- from the lines ls and t on, st is reached: notes were added, over which G goes
record Did (G : List Node → List Node) (ls : List Line) (t : Trace) (st : State Trace) : Type 0 where
  pub added : List Node
  pub nodes : st.output.nodes ≡ t.nodes ++ added
  pub ended : Ended st.lines
  pub idle : ls ≡ [] → (added ≡ []) × (st.lines ≡ [])
  pub over : (ns : List Node) → (st.lines ≡ [] → ns ≡ []) → G (added ++ ns) ≡ ns

abbrev Goes : (State Trace → State Trace) → (List Node → List Node) → Type 0
Goes F G = (ls : List Line) (t : Trace) → Ended ls → Did G ls t (F (state ls t))

stay : Goes (λ st. st) (λ ns. ns)
stay ls t e = record { added = []; nodes = sym (append-nil t.nodes); ended = e; idle = λ h. (refl, h); over = λ ns h. refl }

onward : {G : List Node → List Node} {ls : List Line} {t : Trace} {st : State Trace} (F : State Trace → State Trace) (H : List Node → List Node) → Did G ls t st → Goes F H → Did (λ ns. H (G ns)) ls t (F st)
onward {G} {ls} {t} {st} F H x h =
    let n = h st.lines st.output x.ended in
    record {
      added = x.added ++ n.added;
      nodes = n.nodes ∙ ap (λ (l : List Node). l ++ n.added) x.nodes ∙ append_assoc t.nodes x.added n.added;
      ended = n.ended;
      idle = λ e. let k = n.idle (x.idle e).1 in ((λ i. (x.idle e).0 i ++ k.0 i), k.1);
      over = λ ns f.
          ap (λ (l : List Node). H (G l)) (append_assoc x.added n.added ns)
          ∙ ap H (x.over (n.added ++ ns) (λ e. λ i. (n.idle e).0 i ++ f (n.idle e).1 i))
          ∙ n.over ns f;
    }

-- no line is left, and no note
none_left : (G : List Node → List Node) (t : Trace) → G [] ≡ [] → Did G [] t (state [] t)
none_left G t z = record { added = []; nodes = sym (append-nil t.nodes); ended = tt; idle = λ h. (refl, refl); over = λ ns f. ap G (f refl) ∙ z ∙ sym (f refl) }

-- a line that is noted, and what follows it
noted-then : {G : List Node → List Node} {l : Line} {ls : List Line} {t t' : Trace} {st : State Trace} (H : List Node → List Node) (n : Node) → t'.nodes ≡ t.nodes ++ (n ∷ []) → ((ns : List Node) → H (n ∷ ns) ≡ G ns)
    → Did G ls t' st → Did H (l ∷ ls) t st
noted-then {t = t} H n e q x = record {
  added = n ∷ x.added;
  nodes = x.nodes ∙ ap (λ (l : List Node). l ++ x.added) e ∙ append_assoc t.nodes (n ∷ []) x.added;
  ended = x.ended;
  idle = λ h. let z : ◌≡◌ {A = ℕ} 0 1 = cc in absurd (omega arith);
  over = λ ns f. q (x.added ++ ns) ∙ x.over ns f;
}

-- a line that isn't
passed : {l : Line} {ls : List Line} {t t' : Trace} → t'.nodes ≡ t.nodes ++ [] → Ended ls → Did (λ ns. ns) (l ∷ ls) t (state ls t')
passed e n = record { added = []; nodes = e; ended = n; idle = λ h. let z : ◌≡◌ {A = ℕ} 0 1 = cc in absurd (omega arith); over = λ ns f. refl }

times_goes : (F : Bool → State Trace → State Trace) (G : List Node → List Node) → ((b : Bool) → Goes (F b) G) → (n : ℕ) → Goes (times F n) (skip_times G n)
unfolding times skip_times
times_goes F G h zero = stay
times_goes F G h (suc n) = λ ls t e. onward (times F n) (skip_times G n) (h (eqb n 0) ls t e) (times_goes F G h n)

head-many : (bs : List Below) (cs : List ℕ) → head_many (groups_below bs cs) ≡ head_amount bs cs
unfolding groups_below
head-many [] cs = refl
head-many (b ∷ bs) cs = refl

-- the numbers of a line, and its note
abbrev numbers : List Bytes → List ℕ
numbers fs = number_in (get_or fs 0 []) ∷ number_in (get_or fs 1 []) ∷ []

abbrev note_of : Row → List Bytes → Trace → Node
note_of r fs t = node (length t.spots) (groups_below r.below (numbers fs))

noted-line : (s : Sort) (m : Mark) (r : Row) (w : Bytes) (fs : List Bytes) (t : Trace) → noted s ≡ true → (spot_line s m r w fs t).nodes ≡ t.nodes ++ (note_of r fs t ∷ [])
unfolding spot_line line_nodes
noted-line s m r w fs t y = rw y refl

passed-line : (s : Sort) (m : Mark) (r : Row) (w : Bytes) (fs : List Bytes) (t : Trace) → noted s ≡ false → (spot_line s m r w fs t).nodes ≡ t.nodes ++ []
unfolding spot_line line_nodes
passed-line s m r w fs t y = rw y refl

-- ---- below a line

module _ (T : Sort → Mark → State Trace → State Trace) (U : Sort → List Node → List Node) (p : (m : Mark) → Goes (T patterns m) (U patterns)) (x : (m : Mark) → Goes (T expressions m) (U expressions)) where
  -- an order or an aggregate
  part-goes : (s : Sort) → noted s ≡ true → (m : Mark) (ls : List Line) (t : Trace) → Ended ls → Did (skip_part U) ls t (part spot_line T s m ls t)
  unfolding part skip_part
  part-goes s y m [] t e = none_left (skip_part U) t refl
  part-goes s y m ([] ∷ ls) t e = absurd e
  part-goes s y m ((w ∷ fs) ∷ ls) t e = go (eqb (head_amount r.below (numbers fs)) 0) refl
    where
      r : Row
      r = row_or (row_for s w)

      t' : Trace
      t' = spot_line s m r w fs t

      go : (b : Bool) → eqb (head_amount r.below (numbers fs)) 0 ≡ b → Did (skip_part U) ((w ∷ fs) ∷ ls) t (cond b (state ls t') (T expressions silent (state ls t')))
      go true q = noted-then (skip_part U) (note_of r fs t) (noted-line s m r w fs t y) (λ ns. rw (head-many r.below (numbers fs), q) refl) (stay ls t' e)
      go false q = noted-then (skip_part U) (note_of r fs t) (noted-line s m r w fs t y) (λ ns. rw (head-many r.below (numbers fs), q) refl) (x silent ls t' e)

  -- a line of triples, columns or rows: nothing stands below it
  pass-goes : (s : Sort) → noted s ≡ false → all_rows bare (rows_of s) ≡ true → (m : Mark) (ls : List Line) (t : Trace) → Ended ls → Did (λ ns. ns) ls t (part spot_line T s m ls t)
  unfolding part
  pass-goes s y a m [] t e = none_left (λ ns. ns) t refl
  pass-goes s y a m ([] ∷ ls) t e = absurd e
  pass-goes s y a m ((w ∷ fs) ∷ ls) t e = rw (bare-none (row_or (row_for s w)) (numbers fs) (row-passes bare (rows_of s) w a refl)) (passed (passed-line s m (row_or (row_for s w)) w fs t y) e)

  child-goes : (hide : Bool) (m : Mark) (s : Sort) (last : Bool) → Goes (child spot_line T hide m s last) (skip_child U s)
  unfolding child skip_child
  child-goes hide m triples last = pass-goes triples refl refl m
  child-goes hide m columns last = pass-goes columns refl refl m
  child-goes hide m patterns last = p (cond (hide && last) (under m) m)
  child-goes hide m expressions last = x silent
  child-goes hide m rows last = pass-goes rows refl refl m
  child-goes hide m orders last = part-goes orders refl m
  child-goes hide m aggregates last = part-goes aggregates refl m
  child-goes hide m heads last = stay
  child-goes hide m sets last = stay
  child-goes hide m positions last = stay
  child-goes hide m value_rows last = stay
  child-goes hide m parts last = stay

  beneath-goes : (hide : Bool) (m : Mark) (bs : List Below) (cs : List ℕ) → Goes (beneath spot_line T hide m bs cs) (skip_groups U (groups_below bs cs))
  unfolding beneath skip_groups groups_below
  beneath-goes hide m [] cs = stay
  beneath-goes hide m (b ∷ bs) cs = λ ls t e.
      onward (beneath spot_line T hide m bs cs) (skip_groups U (groups_below bs cs))
      (times_goes (child spot_line T hide m b.sort) (skip_child U b.sort) (child-goes hide m b.sort) (amount_of b.amount cs) ls t e)
      (beneath-goes hide m bs cs)

  -- a line and what stands below it
  whole-goes : (H : List Node → List Node) (s : Sort) (m : Mark) (ls : List Line) (t : Trace) → noted s ≡ true → H [] ≡ []
      → ((w : Bytes) (fs : List Bytes) (ns : List Node) → H (note_of (row_or (row_for s w)) fs t ∷ ns) ≡ skip_groups U (groups_below (row_or (row_for s w)).below (numbers fs)) ns)
      → Ended ls → Did H ls t (whole spot_line T s m ls t)
  unfolding whole
  whole-goes H s m [] t y z q e = none_left H t z
  whole-goes H s m ([] ∷ ls) t y z q e = absurd e
  whole-goes H s m ((w ∷ fs) ∷ ls) t y z q e =
      noted-then H (note_of (row_or (row_for s w)) fs t) (noted-line s m (row_or (row_for s w)) w fs t y) (q w fs) (beneath-goes (hides w) m (row_or (row_for s w)).below (numbers fs) ls _ e)

-- ---- trees

tree-goes : (d : ℕ) → ((m : Mark) → Goes (tree spot_line d patterns m) (skip d patterns)) × ((m : Mark) → Goes (tree spot_line d expressions m) (skip d expressions))
unfolding tree skip
tree-goes zero = ((λ m. stay), (λ m. stay))
tree-goes (suc d) = let h = tree-goes d in (
  (λ m ls t e. whole-goes (tree spot_line d) (skip d) h.0 h.1 (skip (suc d) patterns) patterns m ls t refl refl (λ w fs ns. refl) e),
  (λ m ls t e. whole-goes (tree spot_line d) (skip d) h.0 h.1 (skip (suc d) expressions) expressions m ls t refl refl
      (λ w fs ns. under-groups (skip d) (row_or (row_for expressions w)).below (numbers fs) ns (row-passes single (rows_of expressions) w refl refl)) e),
)

-- the notes of a whole tree
module _ (d : ℕ) (m : Mark) (at end : ℕ) (xs : List Spot) (ns : List Node) where
  -- a descent over them leaves none
  pub skip_all : (ls : List Line) → Ended ls → tree spot_line d patterns m (state ls (trace at [] [])) ≡ state [] (trace end xs ns) → skip d patterns ns ≡ []
  skip_all ls n e =
      let x = (tree-goes d).0 m ls (trace at [] []) n in
      let q : x.added ≡ ns = sym x.nodes ∙ ap (λ (st : State Trace). st.output.nodes) e in
      ap (skip d patterns) (sym q ∙ sym (append-nil x.added)) ∙ x.over [] (λ h. refl)

  -- without one no variable is found
  pub none_found : (ls : List Line) → Ended ls → tree spot_line (suc d) patterns m (state ls (trace at [] [])) ≡ state [] (trace end xs ns) → length ns ≡ 0 → length xs ≡ 0
  unfolding tree tree-goes whole-goes noted-then
  none_found [] n e z = ap (λ (st : State Trace). length st.output.spots) (sym e)
  none_found ([] ∷ ls) n e z = absurd n
  none_found ((w ∷ fs) ∷ ls) n e z =
      let x = (tree-goes (suc d)).0 m ((w ∷ fs) ∷ ls) (trace at [] []) n in
      let q : length x.added ≡ length ns = ap length (sym x.nodes ∙ ap (λ (st : State Trace). st.output.nodes) e) in
      absurd (omega arith)

-- ---- an example: `filter`, `bgp 1`, `t ?a <p> ?b`, `exists`, `bgp 1`, `t ?b <q> ?a`

example : List Node
example = node 0 (group 1 patterns ∷ group 1 expressions ∷ []) ∷ node 0 (group 1 triples ∷ []) ∷ node 2 (group 1 patterns ∷ []) ∷ node 2 (group 1 triples ∷ []) ∷ []

-- three levels are enough, and two leave the last pattern
enough : skip 3 patterns example ≡ []
unfolding skip skip_groups skip_under skip_times skip_child example
enough = refl

too_few : skip 2 patterns example ≡ node 2 (group 1 triples ∷ []) ∷ []
unfolding skip skip_groups skip_under skip_times skip_child example
too_few = refl
