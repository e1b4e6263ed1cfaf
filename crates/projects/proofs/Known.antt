-- Texts that were checked: their trees stand in them, and their lists are those that the code reads. Assumes nothing.
use Prim.Native.Nat.{ℕ, zero, suc, ◌+◌, ◌-◌, ◌≤◌, ◌<◌}
use mathlib.Core.Path.{◌≡◌, refl, sym, ap, ap₂, subst, ◌∙◌}
use mathlib.Core.List.{List, [], ◌∷◌, ◌++◌}
use native.Mathlib.Nat.{le_refl}
use native.Mathlib.Omega.{arith}
use lib.ListN.{length, get_or, take, drop, length-take, length-drop, length-append}
use lib.Seq.{get_or-take, take_all, drop_at}
use Rattle.text.specs.Text.{Bytes, ended, part, split, lines_in, lines_of, lines_from}
use Rattle.text.proofs.Texts.{lines-back}
use Rattle.text.proofs.Places.{lines_start}
use Rattle.algebra.specs.Tree.{Pattern}
use Rattle.algebra.specs.Query.{Query, Pair, PairList, joins, constants}
use Rattle.algebra.specs.Layout.{put, put_pairs, layout}
use Rattle.algebra.specs.Bounded.{IsPairs, layout_pairs}
use Rattle.algebra.specs.Tally.{Tally, bounds, start, headed, tally, tally_query, noted}
use Rattle.algebra.specs.Reader.{reads}
use Rattle.algebra.specs.Texts.{read_tree, read_query, read_pairs}
use Rattle.algebra.specs.bridge.Answers.{Answer as Check}
use Rattle.algebra.proofs.Neat.{neat, pairs-neat}
use Rattle.algebra.proofs.Theorem.{tree-exactly, query-exactly, pairs-exactly}
use Rattle.algebra.proofs.Grow.{In, counts, in_bounds, grow}
use Rattle.reading.specs.bridge.Variables.{tree_names, query_names}
use Rattle.reading.specs.bridge.Charted.{Charted, tree_start, query_start}
use Rattle.reading.proofs.ChartSaid.{Good-chart, chart-good}
use Rattle.names.specs.bridge.Names.{listing}
use Rattle.lists.specs.bridge.Pairs.{pairs_in, PairsChecked}
use Rattle.lists.proofs.Said.{said-good}
use Rattle.scoping.specs.Premises.{different_positions}
use Rattle.scoping.specs.Numbering.{by_place}
use Rattle.algebra.specs.bridge.Table.{patterns}
use Rattle.scoping.specs.bridge.Spots.{Spot, Node}
use Rattle.scoping.specs.bridge.Skip.{skip}
use Rattle.scoping.proofs.FirstPlaces.{by-place-query}
use Rattle.lines.specs.bridge.Noded.{node_at, nodes_of, Noded, Roomy}
use Rattle.lines.specs.bridge.Spotted.{spot_at, spots_of, Noted}
use Rattle.descending.specs.bridge.Renamed.{Shaped}
use Rattle.walking.proofs.Noted.{shaped-tree}
use Rattle.checking.specs.bridge.Walks.{counts as noted_counts, Noting}
use Rattle.merging.specs.Request.{Projection, tree, made, read_joins, read_constants, join_positions, by_position, constants_in}
use Rattle.merging.proofs.Lists.{positions-different}
use Rattle.heads.specs.bridge.TreeAt.{head_line, TreeAt}
use Rattle.heads.proofs.Queries.{query-valid, query-depth, query-names, query-text}
use Rattle.columns.specs.bridge.Listed.{Listed}
use Rattle.sides.specs.bridge.Side.{Stands}
use Rattle.projects.specs.bridge.Joining.{KnownTree, KnownText, HasRoom, HasNodes, KnownTerms}
use Rattle.projects.proofs.Picks.{positions-are}
use Rattle.std.specs.Prelude.{Ok}

-- ---- trees

-- a project within the bounds has so many columns at most
narrow-in : (m : Tally) (x : Projection) → In bounds (tally (tree x) m) → length x.columns ≤ bounds.columns
unfolding tally headed
narrow-in m x h = let c = (counts bounds (headed x.columns m) (grow bounds x.inner (headed x.columns m) h)).wide in omega arith

module _ (s : Bytes) (a l : List ℕ) (n : ℕ) (v : List (List ℕ)) (k : KnownTree s a l n v) where
  pub tree-stands : Stands s 0 a l n v k.pattern
  unfolding layout by_place
  tree-stands =
      let t = (tree-exactly s k.pattern).0 k.read in
      let b : In bounds (tally k.pattern start) = in_bounds bounds (tally k.pattern start) (record { lines = t.2.lines; wide = t.2.columns; names = t.2.names }) in
      record {
        tree-in = record {
          lines = sym (lines_start s) ∙ ap lines_of (sym t.0) ∙ lines-back (put k.pattern []) (neat k.pattern [] t.1 tt);
          valid = t.1;
          deep = t.2.depth;
          few = t.2.names;
          names = k.names;
          noted = k.noted;
        };
        narrow = λ x e. narrow-in start x (subst (λ (p : Pattern). In bounds (tally p start)) e b);
      }

module _ (s : Bytes) (a l : List ℕ) (n : ℕ) (v : List (List ℕ)) (k : KnownText s a l n v) (from : ℕ) (high : from ≤ length s) (t : TreeAt s k.query from) where
  pub query-stands : Stands s from a l n v k.query.tree
  unfolding tally_query
  query-stands =
      let q = (query-exactly s k.query).0 k.read in
      let b : In bounds (tally k.query.tree (noted [] start)) = in_bounds bounds (tally_query k.query start) (record { lines = q.2.lines; wide = q.2.columns; names = q.2.names }) in
      record {
        tree-in = record { lines = t.lines; valid = query-valid s k.query k.read; deep = query-depth s k.query k.read; few = query-names s k.query k.read; names = k.names; noted = k.noted from high t };
        narrow = λ x e. narrow-in (noted [] start) x (subst (λ (p : Pattern). In bounds (tally p (noted [] start))) e b);
      }

-- the variables that were noted, and no more of the array
spots-taken : (ns : List Bytes) (a : List (List ℕ)) (k j : ℕ) → j ≤ k → spots_of ns (take k a) j ≡ spots_of ns a j
unfolding spots_of
spots-taken ns a k zero h = refl
spots-taken ns a k (suc j) h = ap₂ (λ (xs : List Spot) (e : List ℕ). xs ++ (spot_at ns e ∷ [])) (spots-taken ns a k j (omega arith)) (get_or-take k a j [] (omega arith))

pub taken-long : (a : List (List ℕ)) (k : ℕ) → k ≤ length a → length (take k a) ≡ k
taken-long a k h = simp length-take (omega arith)

pub noted-taken : (s : Bytes) (from : ℕ) (ns : List Bytes) (a : List (List ℕ)) (k : ℕ) → Noted s from ns a k → Noted s from ns (take k a) (length (take k a))
noted-taken s from ns a k x =
    let e : length (take k a) ≡ k = taken-long a k x.kept.many in
    subst (Noted s from ns (take k a)) (sym e) (record {
      spots = x.spots;
      nodes = x.nodes;
      walked = x.walked;
      kept = record {
        many = omega arith;
        are = spots-taken ns a k k (le_refl k) ∙ x.kept.are;
        inside = λ i h. subst (λ (w : List ℕ). get_or w 1 0 < length ns) (sym (get_or-take k a i [] h)) (x.kept.inside i h);
      };
    })

-- a query's tree stands behind its head
tree-somewhere : (s : Bytes) (q : Query) → read_query s ≡ reads q → (i : ℕ) × query_start s q i
unfolding lines_from lines_of layout
tree-somewhere s q e =
    let h : Bytes = ended (head_line q) [] in
    let d : drop (length h) s ≡ layout q.tree = ap (drop (length h)) (query-text s q e) ∙ drop_at h (layout q.tree) (length h) refl in
    let p : part (length h) (length s) s ≡ layout q.tree = take_all (length s - length h) (drop (length h) s) (simp length-drop (omega arith)) ∙ d in
    let n : length s ≡ length h + length (layout q.tree) = ap length (query-text s q e) ∙ length-append h (layout q.tree) in
    (length h, (omega arith, ap (λ (b : Bytes). lines_in (split 10 b)) p ∙ lines-back (put q.tree []) (neat q.tree [] (query-valid s q e) tt)))

-- the lines that were noted, and no more of the array
nodes-taken : (words b : List (List ℕ)) (m j : ℕ) → j ≤ m → nodes_of words (take m b) j ≡ nodes_of words b j
unfolding nodes_of
nodes-taken words b m zero h = refl
nodes-taken words b m (suc j) h = ap₂ (λ (ns : List Node) (e : List ℕ). ns ++ (node_at words e ∷ [])) (nodes-taken words b m j (omega arith)) (get_or-take m b j [] (omega arith))

shaped-taken : (words b a : List (List ℕ)) (m k : ℕ) → k ≤ length a → Shaped words b m k → Shaped words (take m b) (length (take m b)) (length (take k a))
shaped-taken words b a m k h x =
    let e : length (take m b) ≡ m = taken-long b m x.few in
    let d : length (take k a) ≡ k = taken-long a k h in
    record {
      few = le_refl (length (take m b));
      whole = ap (skip bounds.depth patterns) (ap (nodes_of words (take m b)) e ∙ nodes-taken words b m m (le_refl m)) ∙ x.whole;
      none = λ z. d ∙ x.none (sym e ∙ z);
    }

-- an array that is no shorter has no less room
pub room-more : (s : Bytes) (b c : List (List ℕ)) → length b ≤ length c → HasRoom s b → HasRoom s c
room-more s b c e h short = let r = h short in omega (arith, e, r)

pub nodes-more : (s : Bytes) (b c : List (List ℕ)) → length b ≤ length c → HasNodes s b → HasNodes s c
nodes-more s b c e h short m g l = let r = h short m g l in omega (arith, e, r)

-- an array that keeps its length keeps its room
pub nodes-kept : (s : Bytes) (b c : List (List ℕ)) → length c ≡ length b → HasNodes s b → HasNodes s c
nodes-kept s b c e h short m g l = let r = h short m g l in omega (arith, e, r)

-- a text that was checked, with room for its variables
module _ (s : Bytes) (a l h : List ℕ) (before after words b : List (List ℕ)) (r : Noting) (n k m : ℕ) (good : r ≡ Ok (noted_counts n k m)) (room : HasRoom s before) where
  module _ (said : Charted tree_names tree_start s a l h before after words b (read_tree s) r) where
    abbrev of_tree : Good-chart tree_names tree_start s a l h before after words b r (read_tree s) n k m
    of_tree = chart-good tree_names tree_start s a l h before after words b r (read_tree s) n k m said good

    tree-short : length s ≤ 16384
    tree-short = let t = (tree-exactly s of_tree.value).0 of_tree.read in subst (λ (x : Bytes). length x ≤ 16384) t.0 t.2.bytes

    tree-noted : (n ≤ 1024) × ((i : ℕ) → i ≡ 0 → (w : Noted s i (tree_names of_tree.value) after k) × (Roomy s b → Noded words b m w.nodes))
    tree-noted = of_tree.noted (room tree-short)

    pub tree-count : k ≤ length after
    tree-count = (tree-noted.1 0 refl).0.kept.many

    names-are : listing s a l n ≡ tree_names of_tree.value
    names-are = of_tree.table.fits tree-noted.0

    pub good-tree : KnownTree s a l n (take k after)
    unfolding by_place
    good-tree = record {
      pattern = of_tree.value;
      read = of_tree.read;
      names = names-are;
      noted = noted-taken s 0 (listing s a l n) after k (subst (λ (ns : List Bytes). Noted s 0 ns after k) (sym names-are) (tree-noted.1 0 refl).0);
    }

    -- where there was room for its lines too
    module _ (space : HasNodes s b) where
      shaped : Shaped words b m k
      unfolding good-tree
      shaped =
          let w = tree-noted.1 0 refl in
          let t = (tree-stands s a l n (take k after) good-tree).tree-in in
          shaped-tree s 0 (tree_names of_tree.value) after k w.0 of_tree.value t.lines t.valid t.deep words b m (w.1 (space tree-short))

      pub tree-nodes : m ≤ length b
      tree-nodes = shaped.few

      pub tree-shaped : Shaped words (take m b) (length (take m b)) (length (take k after))
      tree-shaped = shaped-taken words b after m k tree-count shaped

  module _ (said : Charted query_names query_start s a l h before after words b (read_query s) r) where
    abbrev of-query : Good-chart query_names query_start s a l h before after words b r (read_query s) n k m
    of-query = chart-good query_names query_start s a l h before after words b r (read_query s) n k m said good

    query-short : length s ≤ 16384
    query-short = let t = (query-exactly s of-query.value).0 of-query.read in subst (λ (x : Bytes). length x ≤ 16384) t.0 t.2.bytes

    query-noted : (n ≤ 1024) × ((i : ℕ) → query_start s of-query.value i → (w : Noted s i (query_names of-query.value) after k) × (Roomy s b → Noded words b m w.nodes))
    query-noted = of-query.noted (room query-short)

    abbrev somewhere : (i : ℕ) × query_start s of-query.value i
    somewhere = tree-somewhere s of-query.value of-query.read

    pub query-count : k ≤ length after
    query-count = (query-noted.1 somewhere.0 somewhere.1).0.kept.many

    pub good-query : KnownText s a l n (take k after)
    good-query =
        let e : listing s a l n ≡ query_names of-query.value = of-query.table.fits query-noted.0 in
        record {
          query = of-query.value;
          read = of-query.read;
          names = e ∙ by-place-query of-query.value;
          noted = λ from high t. noted-taken s from (listing s a l n) after k (subst (λ (ns : List Bytes). Noted s from ns after k) (sym e) (query-noted.1 from (high, t.lines)).0);
        }

    module _ (space : HasNodes s b) where
      shaped-query : Shaped words b m k
      shaped-query =
          let w = query-noted.1 somewhere.0 somewhere.1 in
          shaped-tree s somewhere.0 (query_names of-query.value) after k w.0 of-query.value.tree somewhere.1.1 (query-valid s of-query.value of-query.read) (query-depth s of-query.value of-query.read) words b m (w.1 (space query-short))

      pub query-nodes : m ≤ length b
      query-nodes = shaped-query.few

      pub query-shaped : Shaped words (take m b) (length (take m b)) (length (take k after))
      query-shaped = shaped-taken words b after m k query-count shaped-query

-- ---- lists

module _ (κ : PairList) (s : Bytes) (xs : List Pair) (e : read_pairs κ s ≡ reads xs) where
  is-pairs : IsPairs bounds κ s xs
  is-pairs = (pairs-exactly κ s xs).0 e

  pub pairs-listed : Listed s xs
  unfolding layout_pairs
  pairs-listed = record {
    lines = ap lines_of (sym is-pairs.0) ∙ lines-back (put_pairs xs []) (pairs-neat κ [] xs [] is-pairs.1 tt);
    few = is-pairs.2.entries;
    short = subst (λ (b : Bytes). length b ≤ 16384) is-pairs.0 is-pairs.2.bytes;
  }

pub good-terms : (s : Bytes) (keys : List (List ℕ)) (r : Check) (n : ℕ) → PairsChecked constants s keys r → r ≡ Ok n → KnownTerms s
unfolding read_constants
good-terms s keys r n c q =
    let xs = pairs_in s keys n in
    let read = (said-good constants s keys r c n q).read in
    record {
      list = xs;
      terms = record { listed = pairs-listed constants s xs read; different = ap different_positions (sym (positions-are xs)) ∙ positions-different [] xs (is-pairs constants s xs read).1 };
      read = ap (made (λ ys. by_position (constants_in ys))) read;
    }

-- a join list that was checked
pub record KnownJoins (s : Bytes) : Type 0 where
  pub list : List Pair
  pub listed : Listed s list
  pub read : read_joins s ≡ reads (join_positions list)

pub good-joins : (s : Bytes) (keys : List (List ℕ)) (r : Check) (n : ℕ) → PairsChecked joins s keys r → r ≡ Ok n → KnownJoins s
unfolding read_joins
good-joins s keys r n c q = let read = (said-good joins s keys r c n q).read in record { list = pairs_in s keys n; listed = pairs-listed joins s (pairs_in s keys n) read; read = ap (made join_positions) read }

-- a tree that is a project stands as one
pub stands-as : (s : Bytes) (at : ℕ) (a l : List ℕ) (n : ℕ) (v : List (List ℕ)) (p q : Pattern) → p ≡ q → Stands s at a l n v p → Stands s at a l n v q
stands-as s at a l n v p q e t = subst (Stands s at a l n v) e t
