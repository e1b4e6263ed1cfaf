-- What callers need of the variables that a check noted: the text rewritten by them, the notes of a whole tree, and a project's columns and inner tree. Assumes nothing.
use Prim.Native.Nat.{ℕ, zero, suc, ◌+◌, ◌-◌, ◌≤◌, ◌<◌}
use mathlib.Core.Path.{◌≡◌, refl, sym, ap, subst, ◌∙◌}
use mathlib.Core.List.{List, [], ◌∷◌, ◌++◌, append-nil, append_assoc}
use mathlib.Core.Bool.{false}
use mathlib.Core.Logic.{⊎_elim}
use native.Mathlib.Nat.{eq-or-lt_of_le}
use native.Mathlib.Omega.{arith}
use lib.ListN.{length, get_or, drop, length-drop, length-append, get_or-append}
use lib.Seq.{drop_at, get_or_at}
use Rattle.text.specs.Text.{Bytes, Line, same, text_of, lines_from}
use Rattle.text.specs.Word.{bytes}
use Rattle.text.specs.Field.{variable, fits, all_fit}
use Rattle.text.proofs.Basics.{and_left, and_right}
use Rattle.text.proofs.Texts.{Ended, neat-ended}
use Rattle.algebra.specs.Tree.{Pattern, project}
use Rattle.algebra.specs.Word.{PROJECT}
use Rattle.algebra.specs.Layout.{put}
use Rattle.algebra.specs.Valid.{Valid, AllFit, mem}
use Rattle.algebra.specs.Depth.{depth}
use Rattle.algebra.specs.bridge.Table.{Sort, patterns, row_in, Row}
use Rattle.algebra.proofs.Neat.{neat}
use Rattle.algebra.specs.Tally.{bounds}
use Rattle.emit.specs.bridge.Emit.{Em, puts}
use Rattle.scoping.specs.bridge.Sets.{Once}
use Rattle.scoping.specs.Sets.{index_of}
use Rattle.scoping.proofs.Index.{index_at}
use Rattle.scoping.specs.bridge.Places.{Mark, visible, under, places}
use Rattle.scoping.specs.Rename.{rename_in_graph_pattern}
use Rattle.scoping.specs.bridge.Walk.{State, state, hides, opened, tree}
use Rattle.scoping.specs.bridge.Spots.{Spot, spot, spots_in, fields_size, Node, Trace, trace, line_spots, line_nodes, spot_line}
use Rattle.scoping.specs.bridge.Skip.{skip}
use Rattle.scoping.proofs.Skipped.{skip_all, none_found}
use Rattle.lines.specs.bridge.Noded.{node_at, nodes_of, Noded}
use Rattle.lines.specs.bridge.Spotted.{spot_at, spots_of, Spotted, Noted}
use Rattle.walking.specs.bridge.Code.{Inside}
use Rattle.descending.specs.bridge.Renamed.{Shaped}
use Rattle.walking.specs.bridge.Flags.{flag_all}
use Rattle.walking.specs.bridge.Rewritten.{rewritten, flag_spots, Stands}
use Rattle.walking.proofs.Parts.{heading}
use Rattle.walking.proofs.Written.{variable-is}
use Rattle.walking.proofs.Together.{tree-both}
use Rattle.walking.proofs.Stretches.{end-front}
use Rattle.walking.proofs.Rewriting.{Found, found-low, found-text, found-rewritten, found-flags, found-stands, text-from}

-- ---- the array

pub spots-long : (ns : List Bytes) (a : List (List ℕ)) (k : ℕ) → length (spots_of ns a k) ≡ k
unfolding spots_of
spots-long ns a zero = refl
spots-long ns a (suc k) = let q = spots-long ns a k in length-append (spots_of ns a k) (spot_at ns (get_or a k []) ∷ []) ∙ omega (arith, q)

pub spots-at : (ns : List Bytes) (a : List (List ℕ)) (k i : ℕ) (x : Spot) → i < k → get_or (spots_of ns a k) i x ≡ spot_at ns (get_or a i [])
unfolding spots_of
spots-at ns a zero i x h = absurd (omega arith)
spots-at ns a (suc k) i x h =
    ⊎_elim
    (λ (q : i ≡ k). rw q (get_or_at (spots_of ns a k) (spot_at ns (get_or a k [])) [] x k (spots-long ns a k)))
    (λ (q : i < k). get_or-append (spots_of ns a k) (spot_at ns (get_or a k []) ∷ []) x i (omega (arith, spots-long ns a k)) ∙ spots-at ns a k i x q)
    (eq-or-lt_of_le (omega arith))

nodes-long : (words b : List (List ℕ)) (m : ℕ) → length (nodes_of words b m) ≡ m
unfolding nodes_of
nodes-long words b zero = refl
nodes-long words b (suc m) = let q = nodes-long words b m in length-append (nodes_of words b m) (node_at words (get_or b m []) ∷ []) ∙ omega (arith, q)

module _ {ns : List Bytes} {a : List (List ℕ)} {k : ℕ} {xs : List Spot} (x : Spotted ns a k xs) where
  pub spotted-long : length xs ≡ k
  spotted-long = ap length (sym x.are) ∙ spots-long ns a k

  pub spotted-inside : Inside (length ns) a k
  spotted-inside = record { many = x.many; each = x.inside }

-- ---- a whole tree

module _ (s : Bytes) (from : ℕ) (ns : List Bytes) (a : List (List ℕ)) (k : ℕ) (x : Noted s from ns a k) (p : Pattern) (lines : lines_from s from ≡ put p []) (valid : Valid p) (deep : depth p ≤ bounds.depth) where
  noted-found : Found s from visible bounds.depth p x.spots
  noted-found = record { lines = lines; valid = valid; deep = deep; nodes = x.nodes; walked = x.walked }

  -- the text under new names is the renamed tree's, whatever lines follow
  pub rewritten-tree : (new : Bytes → Bytes) → ((f : Bytes) → mem f ns ≡ false → new f ≡ f) → (t : List Line) (e : Em)
      → puts (text_of t) (rewritten new s x.spots from (length s) e) ≡ puts (text_of (put (rename_in_graph_pattern new p) t)) e
  rewritten-tree new keeps = found-rewritten s from visible bounds.depth p x.spots noted-found ns new keeps

  -- each variable is noted as it stands in the tree
  pub flagged-tree : (flags : List ℕ) → flag_spots ns x.spots flags ≡ flag_all ns (places p visible) flags
  flagged-tree = found-flags s from visible bounds.depth p x.spots noted-found ns

  -- they stand in the text, one behind the other
  pub stands-tree : Stands s from (length s) x.spots
  stands-tree = found-stands s from visible bounds.depth p x.spots noted-found

  lines-ended : Ended (lines_from s from)
  lines-ended = subst Ended (sym lines) (neat-ended (put p []) (neat p [] valid tt))

  module _ (words b : List (List ℕ)) (n : ℕ) (noded : Noded words b n x.nodes) where
    -- a descent over its noted lines leaves none
    skip-tree : skip bounds.depth patterns (nodes_of words b n) ≡ []
    skip-tree = ap (skip bounds.depth patterns) noded.are ∙ skip_all bounds.depth visible from (length s) x.spots x.nodes (lines_from s from) lines-ended x.walked

    -- where no line is noted no variable is
    none-noted : n ≡ 0 → k ≡ 0
    none-noted z =
        sym (spotted-long x.kept)
        ∙ none_found 63 visible from (length s) x.spots x.nodes (lines_from s from) lines-ended x.walked (ap length (sym noded.are) ∙ nodes-long words b n ∙ z)

    pub shaped-tree : Shaped words b n k
    shaped-tree = record { few = noded.many; whole = skip-tree; none = none-noted }

-- ---- a project

-- columns are all variables
columns-long : (m : Mark) (cs : List Bytes) (i p : ℕ) → AllFit variable cs → length (spots_in m [] i p cs) ≡ length cs
unfolding spots_in opened all_fit
columns-long m [] i p h = refl
columns-long m (c ∷ cs) i p h = rw (variable-is c (and_left (fits variable c) (all_fit variable cs) h)) (ap suc (columns-long m cs (suc i) (p + length c + 1) (and_right (fits variable c) (all_fit variable cs) h)))

columns-names : (m : Mark) (cs : List Bytes) (i p j : ℕ) (x : Spot) → AllFit variable cs → j < length cs → (get_or (spots_in m [] i p cs) j x).name ≡ get_or cs j []
unfolding spots_in opened all_fit
columns-names m [] i p j x h l = absurd (omega arith)
columns-names m (c ∷ cs) i p zero x h l = rw (variable-is c (and_left (fits variable c) (all_fit variable cs) h))
columns-names m (c ∷ cs) i p (suc j) x h l = rw (variable-is c (and_left (fits variable c) (all_fit variable cs) h)) (columns-names m cs (suc i) (p + length c + 1) j x (and_right (fits variable c) (all_fit variable cs) h) (omega arith))

-- a walk that found some before it
module _ (ys : List Spot) where
  abbrev Later : List Line → Trace → Trace → Type 0
  Later ls t u = (t.at ≡ u.at) × (t.spots ≡ ys ++ u.spots)

  later-line : (s : Sort) (m : Mark) (r : Row) (w : Bytes) (fs : List Bytes) (ls : List Line) (t u : Trace) → Later ((w ∷ fs) ∷ ls) t u → Later ls (spot_line s m r w fs t) (spot_line s m r w fs u)
  unfolding spot_line
  later-line s m r w fs ls t u (h, e) = (
    ap (λ (n : ℕ). n + length w + fields_size fs + 1) h,
    (λ i. e i ++ line_spots m r w fs (h i))
        ∙ append_assoc ys u.spots (line_spots m r w fs u.at),
  )

module _ (s : Bytes) (from : ℕ) (m : Mark) (d : ℕ) (cs : List Bytes) (q : Pattern) (xs : List Spot) (x : Found s from m (suc d) (project cs q) xs) where
  -- behind the project's line, and its columns
  abbrev behind : ℕ
  behind = from + length (bytes "project") + fields_size cs + 1

  abbrev column_spots : List Spot
  column_spots = spots_in m [] 0 (from + length (bytes "project") + 1) cs

  abbrev first_node : List Node
  first_node = line_nodes patterns (heading PROJECT).row cs 0

  all-columns : AllFit variable cs
  unfolding Valid
  all-columns = x.valid.0

  inner-walk : tree spot_line (suc d) patterns m (state (lines_from s from) (trace from [] [])) ≡ tree spot_line d patterns (under m) (state (put q []) (trace behind column_spots first_node))
  unfolding tree put row_in hides same spot_line
  inner-walk = ap (λ (ls : List Line). tree spot_line (suc d) patterns m (state ls (trace from [] []))) x.lines

  pub record Parted : Type 0 where
    pub rest : List Spot
    pub nodes : List Node
    pub are : xs ≡ column_spots ++ rest
    pub walked : tree spot_line d patterns (under m) (state (put q []) (trace behind [] [])) ≡ state [] (trace (length s) rest nodes)

  pub parted : Parted
  parted =
      let b = tree-both (Later column_spots) spot_line spot_line (later-line column_spots) (λ ls t u h. h) d patterns (under m) (put q []) (trace behind column_spots first_node) (trace behind [] []) (refl, sym (append-nil column_spots)) in
      let e : state b.lines b.one ≡ state [] (trace (length s) xs x.nodes) = sym b.left ∙ sym inner-walk ∙ x.walked in
      record {
        rest = b.other.spots;
        nodes = b.other.nodes;
        are = sym (ap (λ (st : State Trace). st.output.spots) e) ∙ b.kept.1;
        walked = b.right ∙ λ i. state (e i).lines (trace ((sym b.kept.0 ∙ ap (λ (st : State Trace). st.output.at) e) i) b.other.spots b.other.nodes);
      }

  -- the columns are the first of them
  pub other-columns : drop (length cs) xs ≡ parted.rest
  other-columns = ap (drop (length cs)) parted.are ∙ drop_at column_spots parted.rest (length cs) (columns-long m cs 0 _ all-columns)

  pub few-columns : length cs ≤ length xs
  few-columns =
      let h : length xs ≡ length column_spots + length parted.rest = ap length parted.are ∙ length-append column_spots parted.rest in
      let l : length column_spots ≡ length cs = columns-long m cs 0 _ all-columns in
      omega arith

  pub name-columns : (i : ℕ) (y : Spot) → i < length cs → (get_or xs i y).name ≡ get_or cs i []
  name-columns i y h =
      let l : length column_spots ≡ length cs = columns-long m cs 0 _ all-columns in
      ap (λ (zs : List Spot). (get_or zs i y).name) parted.are
      ∙ ap (λ (z : Spot). z.name) (get_or-append column_spots parted.rest y i (omega arith))
      ∙ columns-names m cs 0 (from + length (bytes "project") + 1) i y all-columns h

  line-text : drop from s ≡ text_of ((bytes "project" ∷ cs) ∷ put q [])
  unfolding put
  line-text = found-text s from m (suc d) (project cs q) xs x

  inner-text : drop behind s ≡ text_of (put q [])
  unfolding text_of
  inner-text = (end-front s (bytes "project") cs from (text_of (put q [])) (found-low s from m (suc d) (project cs q) xs x) line-text).behind

  behind-high : behind ≤ length s
  unfolding text_of
  behind-high = (end-front s (bytes "project") cs from (text_of (put q [])) (found-low s from m (suc d) (project cs q) xs x) line-text).high

  inner-valid : Valid q
  unfolding Valid
  inner-valid = x.valid.1

  inner-deep : depth q ≤ d
  unfolding depth
  inner-deep = let h = x.deep in omega arith

  module _ (next : ℕ) (high : next ≤ length s) (lines : lines_from s next ≡ put q []) where
    pub next-behind : next ≡ behind
    next-behind =
        let e : drop next s ≡ drop behind s = text-from s next (put q []) lines (neat-ended (put q []) (neat q [] inner-valid tt)) ∙ sym inner-text in
        let l : length s - next ≡ length s - behind = sym (length-drop next s) ∙ ap length e ∙ length-drop behind s in
        let h = behind-high in
        omega arith

    pub found-inner : Found s next (under m) d q (drop (length cs) xs)
    found-inner = record {
      lines = lines;
      valid = inner-valid;
      deep = inner-deep;
      nodes = parted.nodes;
      walked =
          (λ i. tree spot_line d patterns (under m) (state (lines i) (trace (next-behind i) [] [])))
          ∙ parted.walked
          ∙ ap (λ (zs : List Spot). state [] (trace (length s) zs parted.nodes)) (sym other-columns);
    }

module _ (s : Bytes) (from : ℕ) (ns : List Bytes) (a : List (List ℕ)) (k : ℕ) (x : Noted s from ns a k) (cs : List Bytes) (q : Pattern)
    (lines : lines_from s from ≡ put (project cs q) []) (valid : Valid (project cs q)) (deep : depth (project cs q) ≤ bounds.depth) where
  project-found : Found s from visible bounds.depth (project cs q) x.spots
  project-found = noted-found s from ns a k x (project cs q) lines valid deep

  -- as many variables as columns
  pub column-count : length cs ≤ k
  column-count = let h = few-columns s from visible 63 cs q x.spots project-found in omega (arith, spotted-long x.kept)

  -- the first entries name the columns
  pub column-names : (i : ℕ) → i < length cs → get_or ns (get_or (get_or a i []) 1 0) [] ≡ get_or cs i []
  column-names i h =
      let l = column-count in
      ap (λ (y : Spot). y.name) (sym (spots-at ns a k i (spot 0 [] visible) (omega arith)) ∙ ap (λ (zs : List Spot). get_or zs i (spot 0 [] visible)) x.kept.are)
      ∙ name-columns s from visible 63 cs q x.spots project-found i (spot 0 [] visible) h

  pub column-entries : Once ns → (i : ℕ) → i < length cs → get_or (get_or a i []) 1 0 ≡ index_of (get_or cs i []) ns
  column-entries once i h =
      let l = column-count in
      sym (index_at ns (get_or (get_or a i []) 1 0) once (x.kept.inside i (omega arith)))
      ∙ ap (λ (f : Bytes). index_of f ns) (column-names i h)

  -- the inner tree starts behind the project's line
  module _ (next : ℕ) (high : next ≤ length s) (inner : lines_from s next ≡ put q []) where
    pub rewritten-inner : (new : Bytes → Bytes) → ((f : Bytes) → mem f ns ≡ false → new f ≡ f) → (t : List Line) (e : Em)
        → puts (text_of t) (rewritten new s (drop (length cs) x.spots) next (length s) e) ≡ puts (text_of (put (rename_in_graph_pattern new q) t)) e
    rewritten-inner new keeps = found-rewritten s next (under visible) 63 q (drop (length cs) x.spots) (found-inner s from visible 63 cs q x.spots project-found next high inner) ns new keeps

    pub stands-inner : Stands s next (length s) (drop (length cs) x.spots)
    stands-inner = found-stands s next (under visible) 63 q (drop (length cs) x.spots) (found-inner s from visible 63 cs q x.spots project-found next high inner)
