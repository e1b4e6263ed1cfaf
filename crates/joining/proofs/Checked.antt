-- A text of either form: what its check says of it, and where its tree stands. Assumes nothing.
use Prim.Native.Nat.{ℕ, ◌/◌, ◌≤◌, ◌<◌}
use mathlib.Core.Path.{◌≡◌, refl, sym, ap, subst, subst₂, ◌∙◌}
use mathlib.Core.List.{List, [], ◌∷◌, ◌++◌}
use mathlib.Core.Bool.{Bool, true, false, cond}
use native.Mathlib.Omega.{arith}
use lib.Dec.{ltb}
use lib.ListN.{length, get_or, take, drop, set, length-append, length-set}
use lib.Seq.{get_or-set_same, get_or-set_other, take-append-le}
use borrow.Author.Tests.{lt-ltb, le-ltb}
use Rattle.text.specs.Text.{Bytes}
use Rattle.algebra.specs.Tree.{Pattern}
use Rattle.algebra.specs.Query.{Query}
use Rattle.algebra.specs.Reader.{Outcome as Reading, reads, refuses, malformed, over_bound}
use Rattle.algebra.specs.Texts.{read_tree, read_query}
use Rattle.algebra.specs.Given.{empty_tree, empty_text, read_given_query}
use Rattle.algebra.proofs.Given.{tree_text, given-as-text, empty-reads}
use Rattle.checking.specs.bridge.Walks.{counts, Noting}
use Rattle.reading.specs.bridge.Variables.{tree_names, query_names}
use Rattle.reading.specs.bridge.Charted.{Charted, tree_start, query_start}
use Rattle.reading.proofs.ChartSaid.{chart-good, chart-malformed, chart-over}
use Rattle.heads.specs.bridge.TreeAt.{TreeAt, HeadOf, Starts}
use Rattle.descending.specs.bridge.Renamed.{Shaped}
use Rattle.merging.specs.Request.{made}
use Rattle.merging.specs.Merge.{mergeable}
use Rattle.names.specs.bridge.Names.{starts_of, sizes_of}
use Rattle.sides.specs.declared.side.Standing.{Standing}
use Rattle.sides.specs.bridge.Side.{Stands}
use Rattle.projects.specs.bridge.Joining.{StandsAt, HasRoom, HasNodes, half, rest}
use Rattle.projects.proofs.Known.{tree-stands, query-stands, tree-count, query-count, good-tree, good-query, tree-nodes, query-nodes, tree-shaped, query-shaped, nodes-kept}
use Rattle.projects.proofs.Halves.{shaped_in, half_room, half-nodes, room-left, nodes-left}
use Rattle.joining.specs.bridge.Form.{headless, read_form, head_of, HeadIs, may_merge, StartsAt, stands_in, stands_from, RoomFor, HalvesFor, NotedTree, GoodForm, NotedForm}
use Rattle.std.specs.Prelude.{Ok, Err}
use Rattle.algebra.specs.declared.Fault.TheVariants.{Malformed, OverBound}

-- ---- the functions of a form, by its two ways

module _ (s : Bytes) (r : ℕ) (query : Bool) where
  pub starts-query : query ≡ true → Starts s r → StartsAt query s r
  unfolding StartsAt
  starts-query e t = subst (λ (f : Bool). StartsAt f s r) (sym e) t

  pub starts-tree : query ≡ false → r ≡ 0 → StartsAt query s r
  unfolding StartsAt
  starts-tree e z = subst (λ (f : Bool). StartsAt f s r) (sym e) z

module _ (left right : Bytes) (query r : Bool) where
  abbrev Told : Bool → Type 0
  Told f = (a b : Query) → HeadIs f left a → HeadIs f right b → r ≡ may_merge f a b

  pub may-query : query ≡ true → ((a b : Query) → HeadOf left a → HeadOf right b → r ≡ mergeable a b) → Told query
  may-query e t = subst Told (sym e) t

  pub may-tree : query ≡ false → r ≡ true → Told query
  may-tree e t = subst Told (sym e) (λ a b x y. t)

-- what stands before a tree, as it is written
pub head-text : (query : Bool) (h : Bytes) (q : Query) → HeadIs query h q → h ≡ head_of query q
head-text false h q e = e
head-text true h q e = e.text

-- the text in which a tree stands
module _ (s empty t : Bytes) (from : ℕ) where
  pub stands_here : from < length s → t ≡ s → t ≡ cond (ltb from (length s)) s empty
  stands_here h e = e ∙ sym (ap (λ (b : Bool). cond b s empty) (lt-ltb from (length s) h))

  pub stands-there : length s ≤ from → t ≡ empty → t ≡ cond (ltb from (length s)) s empty
  stands-there h e = e ∙ sym (ap (λ (b : Bool). cond b s empty) (le-ltb from (length s) h))

module _ (s : Bytes) (from : ℕ) where
  pub place_here : from < length s → from ≡ stands_from s from
  place_here h = sym (ap (λ (b : Bool). cond b from 0) (lt-ltb from (length s) h))

  pub place-there : length s ≤ from → 0 ≡ stands_from s from
  place-there h = sym (ap (λ (b : Bool). cond b from 0) (le-ltb from (length s) h))

-- ---- a text that was checked

said_same : {A : Type 0} (o : Reading A) (a b : A) → o ≡ reads a → o ≡ reads b → a ≡ b
said_same o a b e f = cc

module _ (s : Bytes) (a l h : List ℕ) (before after words b : List (List ℕ)) (r : Noting) (n k m : ℕ) (good : r ≡ Ok (counts n k m)) where
  noted-tree : Charted tree_names tree_start s a l h before after words b (read_tree s) r → (p : Pattern) → read_tree s ≡ reads p → NotedTree s 0 a l before after words b n k m p
  noted-tree c p e = record {
    few = λ room. tree-count s a l h before after words b r n k m good room c;
    stands = λ room.
        let t = good-tree s a l h before after words b r n k m good room c in
        subst (Stands s 0 a l n (take k after)) (said_same (read_tree s) t.pattern p t.read e) (tree-stands s a l n (take k after) t);
    few_nodes = λ room space. tree-nodes s a l h before after words b r n k m good room c space;
    shaped = λ room space. tree-shaped s a l h before after words b r n k m good room c space;
  }

  noted-query : Charted query_names query_start s a l h before after words b (read_query s) r → (q : Query) → read_query s ≡ reads q → (from : ℕ) → from ≤ length s → TreeAt s q from → NotedTree s from a l before after words b n k m q.tree
  noted-query c q e from high at = record {
    few = λ room. query-count s a l h before after words b r n k m good room c;
    stands = λ room.
        let t = good-query s a l h before after words b r n k m good room c in
        let same = said_same (read_query s) t.query q t.read e in
        subst (λ (x : Query). Stands s from a l n (take k after) x.tree) same (query-stands s a l n (take k after) t from high (subst (λ (x : Query). TreeAt s x from) (sym same) at));
    few_nodes = λ room space. query-nodes s a l h before after words b r n k m good room c space;
    shaped = λ room space. query-shaped s a l h before after words b r n k m good room c space;
  }

-- its tree in the text and at the place that the form says
moved : (s t : Bytes) (i j : ℕ) (a l : List ℕ) (before after words b : List (List ℕ)) (n k m : ℕ) (p q : Pattern) → s ≡ t → i ≡ j → p ≡ q → NotedTree s i a l before after words b n k m p → NotedTree t j a l before after words b n k m q
moved s t i j a l before after words b n k m p q e f g x =
    subst (NotedTree t j a l before after words b n k m) g (subst₂ (λ (u : Bytes) (w : ℕ). NotedTree u w a l before after words b n k m p) e f x)

tree-in : (s : Bytes) → tree_text s ≡ stands_in s 0
tree-in [] = stands-there [] empty_text empty_text 0 (omega arith) refl
tree-in (x ∷ s) = stands_here (x ∷ s) empty_text (x ∷ s) 0 (omega arith) refl

tree-from : (s : Bytes) → 0 ≡ stands_from s 0
tree-from s = go (ltb 0 (length s))
  where
    go : (b : Bool) → ◌≡◌ {A = ℕ} 0 (cond b 0 0)
    go true = refl
    go false = refl

empty-as-text : read_tree empty_text ≡ reads empty_tree
empty-as-text = sym (given-as-text []) ∙ empty-reads

module _ (s : Bytes) (from : ℕ) (a l h : List ℕ) (before after words b : List (List ℕ)) where
  tree-form : from ≡ 0 → (r : Noting) → Charted tree_names tree_start (tree_text s) a l h before after words b (read_tree (tree_text s)) r → NotedForm false s from a l before after words b r
  unfolding NotedForm
  tree-form z (Ok d) c =
      let n = d.names in
      let k = d.spots in
      let m = d.nodes in
      let g = chart-good tree_names tree_start (tree_text s) a l h before after words b (Ok (counts n k m)) (read_tree (tree_text s)) n k m c refl in
      record {
        said = headless g.value;
        read = ap (made headless) (given-as-text s ∙ g.read);
        head = ap (λ (i : ℕ). take i s) z;
        tree = subst (λ (i : ℕ). NotedTree (stands_in s i) (stands_from s i) a l before after words b n k m g.value) (sym z) (moved (tree_text s) (stands_in s 0) 0 (stands_from s 0) a l before after words b n k m g.value g.value (tree-in s) (tree-from s) refl (noted-tree (tree_text s) a l h before after words b (Ok (counts n k m)) n k m refl c g.value g.read));
      }
  tree-form z (Err Malformed) c = ap (made headless) (given-as-text s ∙ chart-malformed tree_names tree_start (tree_text s) a l h before after words b (Err Malformed) (read_tree (tree_text s)) c refl)
  tree-form z (Err OverBound) c = ap (made headless) (given-as-text s ∙ chart-over tree_names tree_start (tree_text s) a l h before after words b (Err OverBound) (read_tree (tree_text s)) c refl)

  query-form : Starts s from → from < length s → (r : Noting) → Charted query_names query_start s a l h before after words b (read_query s) r → NotedForm true s from a l before after words b r
  unfolding NotedForm
  query-form st more (Ok d) c =
      let n = d.names in
      let k = d.spots in
      let m = d.nodes in
      let g = chart-good query_names query_start s a l h before after words b (Ok (counts n k m)) (read_query s) n k m c refl in
      let read = st.same more ∙ g.read in
      let at = st.given g.value read in
      record {
        said = g.value;
        read = read;
        head = at.head;
        tree = moved s (stands_in s from) from (stands_from s from) a l before after words b n k m g.value.tree g.value.tree (stands_here s empty_text s from more refl) (place_here s from more) refl (noted-query s a l h before after words b (Ok (counts n k m)) n k m refl c g.value g.read from st.high (at.stands more).1);
      }
  query-form st more (Err Malformed) c = st.same more ∙ chart-malformed query_names query_start s a l h before after words b (Err Malformed) (read_query s) c refl
  query-form st more (Err OverBound) c = st.same more ∙ chart-over query_names query_start s a l h before after words b (Err OverBound) (read_query s) c refl

  alone-form : Starts s from → length s ≤ from → (q : Query) → read_given_query s ≡ reads q → (r : Noting) → Charted tree_names tree_start empty_text a l h before after words b (read_tree empty_text) r → NotedForm true s from a l before after words b r
  unfolding NotedForm
  alone-form st last q e (Ok d) c =
      let n = d.names in
      let k = d.spots in
      let m = d.nodes in
      let at = st.given q e in
      let high = st.high in
      record {
        said = q;
        read = e;
        head = at.head;
        tree = moved empty_text (stands_in s from) 0 (stands_from s from) a l before after words b n k m empty_tree q.tree (stands-there s empty_text empty_text from last refl) (place-there s from last) (sym (at.alone (omega (arith, high, last)))) (noted-tree empty_text a l h before after words b (Ok (counts n k m)) n k m refl c empty_tree empty-as-text);
      }
  alone-form st last q e (Err Malformed) c = let w = chart-malformed tree_names tree_start empty_text a l h before after words b (Err Malformed) (read_tree empty_text) c refl in let t = empty-as-text in let z : ◌≡◌ {A = ℕ} 0 1 = cc in absurd (omega arith)
  alone-form st last q e (Err OverBound) c = let w = chart-over tree_names tree_start empty_text a l h before after words b (Err OverBound) (read_tree empty_text) c refl in let t = empty-as-text in let z : ◌≡◌ {A = ℕ} 0 1 = cc in absurd (omega arith)

-- ---- the ways of a check, where the form is told by a test

module _ (s t : Bytes) (from : ℕ) (a l h : List ℕ) (before after words b : List (List ℕ)) (r : Noting) where
  abbrev tree_charted : Bytes → Type 0
  tree_charted u = Charted tree_names tree_start u a l h before after words b (read_tree u) r

  pub form-tree : (query : Bool) → query ≡ false → StartsAt query s from → t ≡ stands_in s from → tree_charted t → NotedForm query s from a l before after words b r
  unfolding StartsAt
  form-tree false e st is c = tree-form s from a l h before after words b st r (subst tree_charted (is ∙ ap (stands_in s) st ∙ sym (tree-in s)) c)
  form-tree true e st is c = let z : ◌≡◌ {A = ℕ} 0 1 = cc in absurd (omega arith)

  pub form-query : (query : Bool) → query ≡ true → StartsAt query s from → from < length s → Charted query_names query_start s a l h before after words b (read_query s) r → NotedForm query s from a l before after words b r
  unfolding StartsAt
  form-query true e st more c = query-form s from a l h before after words b st more r c
  form-query false e st more c = let z : ◌≡◌ {A = ℕ} 0 1 = cc in absurd (omega arith)

  pub form-empty : StartsAt true s from → length s ≤ from → (q : Query) → read_given_query s ≡ reads q → t ≡ empty_text → tree_charted t → NotedForm true s from a l before after words b r
  unfolding StartsAt
  form-empty st last q e is c = alone-form s from a l h before after words b st last q e r (subst tree_charted is c)

  pub form-alone : (query : Bool) → query ≡ true → NotedForm true s from a l before after words b r → NotedForm query s from a l before after words b r
  form-alone query e c = subst (λ (f : Bool). NotedForm f s from a l before after words b r) (sym e) c

pub starts-true : (query : Bool) (s : Bytes) (from : ℕ) → query ≡ true → StartsAt query s from → StartsAt true s from
starts-true query s from e st = subst (λ (f : Bool). StartsAt f s from) e st

pub stands-empty : (s t : Bytes) (from : ℕ) → t ≡ stands_in s from → length s ≤ from → t ≡ empty_text
stands-empty s t from is last = is ∙ ap (λ (b : Bool). cond b s empty_text) (le-ltb from (length s) last)

module _ (s : Bytes) (from : ℕ) (a l : List ℕ) (before after words b : List (List ℕ)) where
  pub form-malformed : read_given_query s ≡ refuses malformed → NotedForm true s from a l before after words b (Err Malformed)
  unfolding NotedForm
  form-malformed e = e

  pub form-over : read_given_query s ≡ refuses over_bound → NotedForm true s from a l before after words b (Err OverBound)
  unfolding NotedForm
  form-over e = e

  module _ (query : Bool) (r : Noting) (c : NotedForm query s from a l before after words b r) where
    pub as-malformed : r ≡ Err Malformed → read_form query s ≡ refuses malformed
    unfolding NotedForm
    as-malformed e = subst (NotedForm query s from a l before after words b) e c

    pub as-over : r ≡ Err OverBound → read_form query s ≡ refuses over_bound
    unfolding NotedForm
    as-over e = subst (NotedForm query s from a l before after words b) e c

    pub as-good : (n k m : ℕ) → r ≡ Ok (counts n k m) → GoodForm query s from a l before after words b n k m
    unfolding NotedForm
    as-good n k m e = subst (NotedForm query s from a l before after words b) e c

-- ---- room

module _ (s : Bytes) (from : ℕ) (spots nodes : List (List ℕ)) (w : RoomFor s spots nodes) where
  room_in : HasRoom (stands_in s from) spots
  room_in = go (ltb from (length s))
    where
      go : (b : Bool) → HasRoom (cond b s empty_text) spots
      go true = w.spots_for
      go false = w.spots_empty

  space-in : HasNodes (stands_in s from) nodes
  space-in = go (ltb from (length s))
    where
      go : (b : Bool) → HasNodes (cond b s empty_text) nodes
      go true = w.nodes_for
      go false = w.nodes_empty

pub half-for : (s : Bytes) (v u : List (List ℕ)) → HalvesFor s v u → RoomFor s (half v) (half u)
half-for s v u w = record { spots_for = half_room s v w.spots_for; nodes_for = half-nodes s u w.nodes_for; spots_empty = half_room empty_text v w.spots_empty; nodes_empty = half-nodes empty_text u w.nodes_empty }

-- what a left text leaves of both arrays has room for a right one
pub left-for : (s : Bytes) (v u : List (List ℕ)) → HalvesFor s v u → (a b : List (List ℕ)) → length a ≡ length (half v) → length b ≡ length (half u) → (k m : ℕ) → k ≤ length a → m ≤ length b → RoomFor s (rest k (a ++ drop (length v / 2) v)) (rest m (b ++ drop (length u / 2) u))
left-for s v u w a b e f k m i j = record {
  spots_for = room-left v a e k i s w.spots_for;
  nodes_for = nodes-left u b f m j s w.nodes_for;
  spots_empty = room-left v a e k i empty_text w.spots_empty;
  nodes_empty = nodes-left u b f m j empty_text w.nodes_empty;
}

-- ---- a good text, with room for its tree

module _ {query : Bool} {s : Bytes} {from : ℕ} {a l : List ℕ} {v u after words b : List (List ℕ)} {n k m : ℕ} (g : GoodForm query s from a l v after words b n k m) (w : RoomFor s v u) where
  pub good-few : k ≤ length after
  good-few = g.tree.few (room_in s from v u w)

  -- where its tree stands, told by a text and a place
  pub good-stands : (t : Bytes) (i : ℕ) → t ≡ stands_in s from → i ≡ stands_from s from → Stands t i a l n (take k after) g.said.tree
  good-stands t i e f = subst₂ (λ (x : Bytes) (j : ℕ). Stands x j a l n (take k after) g.said.tree) (sym e) (sym f) (g.tree.stands (room_in s from v u w))

  pub good-head : (h : Bytes) → h ≡ take from s → HeadIs query h g.said
  good-head h e = subst (λ (x : Bytes). HeadIs query x g.said) (sym e) g.head

  module _ (kept : length b ≡ length u) where
    space : HasNodes (stands_in s from) b
    space = nodes-kept (stands_in s from) u b kept (space-in s from v u w)

    pub good-nodes : m ≤ length b
    good-nodes = g.tree.few_nodes (room_in s from v u w) space

    pub good-shaped : Shaped words (take m b) (length (take m b)) (length (take k after))
    good-shaped = g.tree.shaped (room_in s from v u w) space

    -- noted at the start of longer arrays
    module _ (more others : List (List ℕ)) where
      pub front-stands : (t : Bytes) (i : ℕ) → t ≡ stands_in s from → i ≡ stands_from s from → Stands t i a l n (take k (after ++ more)) g.said.tree
      front-stands t i e f = subst (λ (x : List (List ℕ)). Stands t i a l n x g.said.tree) (sym (take-append-le k after more good-few)) (good-stands t i e f)

      pub front-shaped : Shaped words (take m (b ++ others)) (length (take m (b ++ others))) (length (take k (after ++ more)))
      front-shaped = shaped_in words _ _ _ _ (sym (take-append-le m b others good-nodes)) (sym (take-append-le k after more good-few)) good-shaped

      pub front-high : (k ≤ length (after ++ more)) × (m ≤ length (b ++ others))
      front-high = let i = good-few in let j = good-nodes in let e = length-append after more in let f = length-append b others in (omega (arith, i, e), omega (arith, j, f))

-- ---- the tables of two texts

module _ (s : Bytes) (t : Standing) (tables : List (List (List ℕ))) (x v w : List (List ℕ)) (same : v ≡ w) (p : Pattern) where
  -- the second is filled, the first stays; the variables stand in an array that is the same
  pub stands-first : StandsAt 0 s t tables v p → StandsAt 0 s t (set tables 1 x) w p
  stands-first k = subst (λ (e : List (List ℕ)). Stands s t.from (starts_of e) (sizes_of e) t.n w p) (sym (get_or-set_other tables 1 0 x [] (λ e. omega arith))) (subst (λ (u : List (List ℕ)). StandsAt 0 s t tables u p) same k)

  pub stands-second : length tables ≡ 2 → Stands s t.from (starts_of x) (sizes_of x) t.n v p → StandsAt 1 s t (set tables 1 x) w p
  stands-second two k = subst (λ (e : List (List ℕ)). Stands s t.from (starts_of e) (sizes_of e) t.n w p) (sym (get_or-set_same tables 1 x [] (omega arith))) (subst (λ (u : List (List ℕ)). Stands s t.from (starts_of x) (sizes_of x) t.n u p) same k)

-- a tree stands in the first text once its table is set
pub stands_set : (s : Bytes) (t : Standing) (tables : List (List (List ℕ))) (x : List (List ℕ)) (v : List (List ℕ)) (p : Pattern) → length tables ≡ 2 → Stands s t.from (starts_of x) (sizes_of x) t.n v p → StandsAt 0 s t (set tables 0 x) v p
stands_set s t tables x v p e d = subst (λ (z : List (List ℕ)). Stands s t.from (starts_of z) (sizes_of z) t.n v p) (sym (get_or-set_same tables 0 x [] (omega arith))) d

pub still-two : (tables : List (List (List ℕ))) (x : List (List ℕ)) → length tables ≡ 2 → length (set tables 0 x) ≡ 2
still-two tables x e = simp length-set e
