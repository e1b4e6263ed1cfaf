-- The descent and the walk: one after the other, and each way out of a line. Assumes nothing.
use Prim.Native.Nat.{ℕ, zero, suc, ◌+◌, ◌-◌, ◌*◌, ◌/◌, ◌%◌, ◌≤◌, ◌<◌}
use mathlib.Core.Path.{◌≡◌, refl, sym, ◌∙◌, ap, ap₂, subst, subst₂}
use mathlib.Core.List.{List, [], ◌∷◌, ◌++◌, append-nil}
use mathlib.Core.Bool.{Bool, true, false, cond, true≢false}
use mathlib.Core.Logic.{⊎_elim}
use native.Mathlib.Numerals.{add-one}
use native.Mathlib.Nat.{mul-add-mod_self_right, mod-mod, mod-eq_of_lt, div-add-mod'}
use native.Mathlib.Omega.{arith}
use lib.ListN.{length, set, length-set}
use lib.Seq.{get_or-set_same, get_or-set_other}
use lib.Dec.{eqb}
use borrow.Author.Tests.{eq-eqb, ne_eqb, eqb-true, eqb-false}
use Rattle.text.specs.Text.{Bytes, Line, split, part, First, lines_from}
use Rattle.text.proofs.Places.{lines_end, lines_next}
use Rattle.cursor.specs.declared.Cursor.{Cursor}
use Rattle.cursor.specs.bridge.Cursor.{line_at, line_done}
use Rattle.algebra.specs.bridge.Table.{patterns, heads, Below, opens}
use Rattle.algebra.specs.bridge.Machine.{Check}
use Rattle.scoping.specs.bridge.Places.{Mark, visible, covered, silent, under}
use Rattle.scoping.specs.bridge.Walk.{State, state, times as many, child, beneath, whole, tree}
use Rattle.scoping.specs.bridge.Spots.{Node, node, groups_below, noted, Trace, trace, spot_line}
use Rattle.words.specs.bridge.Code.{sort_at, groups_in, row_of, found}
use Rattle.words.specs.bridge.Words.{code_at}
use Rattle.names.specs.bridge.Names.{Holds}
use Rattle.checking.specs.declared.place.Place.{Place}
use Rattle.checking.specs.declared.place.Taken.{Taken}
use Rattle.checking.specs.bridge.Walks.{counts, Noting, Marks, walk_at, Book, book_at, Full, NodePut, Walks, LineWalks, HeadWalks, entry_of, mark_alone, answer_of, Charts}
use Rattle.lines.specs.declared.line.Asked.{Asked}
use Rattle.lines.specs.bridge.Says.{Line as Read, below, Heads, Sure}
use Rattle.lines.specs.bridge.Below.{amount_in, mark_under}
use Rattle.checking.specs.bridge.Run.{Started, Tells}
use Rattle.lines.specs.bridge.Noded.{node_at, nodes_of, Noded, Roomy}
use Rattle.lines.specs.bridge.Spotted.{mark_at, spots_of}
use Rattle.lines.specs.bridge.Stored.{store, Keeps, line_node, LineNotes}
use Rattle.lines.proofs.SlotLaw.{le-or-lt}
use Rattle.lines.proofs.StoreLaw.{spots-long}
use Rattle.lines.proofs.WalkLaw.{group-next, group-none, child-is, times-next, times-done}
use Rattle.std.specs.Prelude.{Some, None, Ok, Err}
use Rattle.algebra.specs.declared.Fault.{Fault}

-- ---- marks

module _ (sort flag mark : ℕ) (last : Bool) where
  pub mark-silent : sort ≡ 3 → silent ≡ mark_under sort (eqb flag 1) last (mark_at mark)
  mark-silent e = rw e

  pub mark-other : (sort ≡ 3 → ⊥) → (sort ≡ 2 → ⊥) → mark_at mark ≡ mark_under sort (eqb flag 1) last (mark_at mark)
  mark-other a b = rw (ne_eqb sort 3 a, ne_eqb sort 2 b)

  pub mark-shown : sort ≡ 2 → (flag ≡ 1 → ⊥) → mark_at mark ≡ mark_under sort (eqb flag 1) last (mark_at mark)
  mark-shown e f = rw (e, ne_eqb flag 1 f)

  pub mark-first : sort ≡ 2 → flag ≡ 1 → last ≡ false → mark_at mark ≡ mark_under sort (eqb flag 1) last (mark_at mark)
  mark-first e f l = rw (e, f, l)

  pub mark-last : sort ≡ 2 → flag ≡ 1 → last ≡ true → mark ≡ 0 → covered ≡ mark_under sort (eqb flag 1) last (mark_at mark)
  mark-last e f l z = rw (e, f, l, z)

  pub mark-under : sort ≡ 2 → flag ≡ 1 → last ≡ true → (mark ≡ 0 → ⊥) → mark_at mark ≡ mark_under sort (eqb flag 1) last (mark_at mark)
  mark-under e f l z = rw (e, f, l) (go mark z)
    where
      go : (k : ℕ) → (k ≡ 0 → ⊥) → mark_at k ≡ under (mark_at k)
      go zero h = absurd (h refl)
      go (suc zero) h = refl
      go (suc (suc k)) h = refl

-- the last of so many
pub last_one : (k : ℕ) → 0 < k → eqb k 1 ≡ eqb (k - 1) 0
last_one k h = go (eqb k 1) refl
  where
    go : (t : Bool) → eqb k 1 ≡ t → t ≡ eqb (k - 1) 0
    go true e = let q = eqb-true k 1 e in sym (eq-eqb (k - 1) 0 (omega (arith, q)))
    go false e = sym (ne_eqb (k - 1) 0 (λ z. eqb-false k 1 e (omega (arith, z, h))))

-- ---- lines that are noted

module _ (b : List (List ℕ)) (m sort before : ℕ) (x : Asked) where
  pub node-none : (t : Bool) → t ≡ noted (sort_at sort) → t ≡ false → NodePut b m sort before x b m
  node-none t e f = record { put = λ g. absurd (true≢false (sym g ∙ (sym e ∙ f))); full = λ h. (refl, refl); stays = λ g. (refl, refl) }

  pub node-full : (t : Bool) → t ≡ noted (sort_at sort) → t ≡ true → length b ≤ m → NodePut b m sort before x b m
  node-full t e f l = record { put = λ g h. absurd (omega (arith, l, h)); full = λ h. (refl, refl); stays = λ g. absurd (true≢false (sym f ∙ (e ∙ g))) }

  pub node-put : (t : Bool) → t ≡ noted (sort_at sort) → t ≡ true → m < length b → NodePut b m sort before x (set b m ((x.number * 65536 + before % 65536) ∷ x.first ∷ x.second ∷ [])) (m + 1)
  node-put t e f l = record { put = λ g h. (refl, refl); full = λ h. absurd (omega (arith, l, h)); stays = λ g. absurd (true≢false (sym f ∙ (e ∙ g))) }

module _ (s : Bytes) where
  -- ---- a line

  -- the code keeps the line that it noted as the walk notes it
  module _ (words b : List (List ℕ)) (m k : ℕ) (x : Asked) (low : k < 65536) (row : found (code_at words x.number) ≡ Some x.row) where
    abbrev raw : List ℕ
    raw = (x.number * 65536 + k % 65536) ∷ x.first ∷ x.second ∷ []

    raw-before : (x.number * 65536 + k % 65536) % 65536 ≡ k
    raw-before = mul-add-mod_self_right x.number 65536 (k % 65536) ∙ mod-mod k 65536 ∙ mod-eq_of_lt low

    raw-number : (x.number * 65536 + k % 65536) / 65536 ≡ x.number
    raw-number = let e = raw-before in let f = mod-eq_of_lt low in let d = div-add-mod' (x.number * 65536 + k % 65536) 65536 in omega (arith, e, f, d)

    row_below : code_at words x.number / 4294967296 ≡ x.row.below
    row_below = go (eqb (code_at words x.number) 0) refl
      where
        go : (t : Bool) → eqb (code_at words x.number) 0 ≡ t → code_at words x.number / 4294967296 ≡ x.row.below
        go true e = let z : None ≡ Some x.row = sym (rw e refl) ∙ row in let y : ◌≡◌ {A = ℕ} 0 1 = cc in absurd (omega arith)
        go false e = let z : Some (record { fields = code_at words x.number % 16777216; behind = code_at words x.number / 16777216 % 16; flag = code_at words x.number / 268435456 % 16; below = code_at words x.number / 4294967296 }) ≡ Some x.row = sym (rw e refl) ∙ row in cc

    raw-node : node_at words raw ≡ node k (groups_below (row_of x.row).below (x.first ∷ x.second ∷ []))
    unfolding node_at
    raw-node = λ i. node (raw-before i) (groups_below (groups_in 3 ((ap (λ (n : ℕ). code_at words n / 4294967296) raw-number ∙ row_below) i)) (x.first ∷ x.second ∷ []))

    nodes-below : (j : ℕ) → j ≤ m → nodes_of words (set b m raw) j ≡ nodes_of words b j
    unfolding nodes_of
    nodes-below zero h = refl
    nodes-below (suc j) h = rw (nodes-below j (omega arith), get_or-set_other b m j raw [] (omega arith))

    noded-put : (ns : List Node) → Noded words b m ns → m < length b → Noded words (set b m raw) (m + 1) (ns ++ (node k (groups_below (row_of x.row).below (x.first ∷ x.second ∷ [])) ∷ []))
    unfolding nodes_of
    noded-put ns q room = record {
      many = rw (length-set b m raw) (omega arith);
      are = rw (add-one, nodes-below m (omega arith), get_or-set_same b m raw [] room) (λ i. q.are i ++ (raw-node i ∷ []));
    }

  module _ (short : length s ≤ 16384) (a l : List ℕ) (w words b : List (List ℕ)) (a' l' : List ℕ) (w' b' : List (List ℕ)) (p : Place) (sort mark level : ℕ) (c : Cursor) (at : c ≡ line_at p.cursor c.end) (first : First 10 s p.cursor.at (length s) c.end) (ended : c.end < length s)
      (x : Asked) (sure : Sure words c sort level p.lines x) (m : ℕ) (put : NodePut b p.nodes sort p.spots x b' m) (d : Cursor) (done : d ≡ line_done c) where
    abbrev place : Place
    place = record { cursor = d; lines = p.lines + 1; n = x.names; spots = x.spots; nodes = m }

    at-is : c.at ≡ p.cursor.at
    at-is = ap (λ (k : Cursor). k.at) at

    to_is : d.at ≡ c.end + 1
    to_is = ap (λ (k : Cursor). k.at) done

    -- the lines that are noted behind this one
    abbrev Behind : Marks → List Node → Type 0
    Behind y ns = (length b' ≡ length b) × (m ≤ p.lines + 1) × (3 * m ≤ d.at) × (Roomy s b → Noded words b' m ns)

    stayed : (y : Marks) → Full s (book_at a l w words b p) p.cursor.at y → b' ≡ b → m ≡ p.nodes → (ns : List Node) → (Roomy s b → y.nodes ≡ ns) → Behind y ns
    stayed y f e k ns h = (
      ap length e,
      (let u = f.few in omega (arith, k, u)),
      (let v = f.behind in let g = to_is in let l = first.low in omega (arith, k, v, g, l)),
      λ room. record { many = (let g = ap length e in let h = (f.noded room).many in omega (arith, g, h, k)); are = ap₂ (nodes_of words) e k ∙ (f.noded room).are ∙ h room },
    )

    noded : (y : Marks) → Full s (book_at a l w words b p) p.cursor.at y → Behind y (y.nodes ++ line_node sort (length y.spots) x)
    noded y f = go (noted (sort_at sort)) refl
      where
        many : length y.spots ≡ p.spots
        many = ap length (sym f.keeps.spots.are) ∙ spots-long _ w p.spots

        space : noted (sort_at sort) ≡ true → Roomy s b → p.nodes < length b
        space e room = let u = f.few in let v = f.behind in let h = at-is in let i = sure.long e in let n = sure.few in let r = room (p.nodes + 1) (omega (arith, v, h, i, ended)) (omega (arith, u, n)) in omega (arith, r)

        here : noted (sort_at sort) ≡ true → p.nodes < length b → Behind y (y.nodes ++ (node (length y.spots) (groups_below (row_of x.row).below (x.first ∷ x.second ∷ [])) ∷ []))
        here e room =
            let u = f.few in let v = f.behind in let g = to_is in let h = at-is in let i = sure.long e in
            let q = put.put e room in
            let k = q.1 in
            let z = f.keeps.behind in let y0 = f.keeps.inside in
            let low : p.spots < 65536 = omega (arith, z, y0, short) in (
              ap length q.0 ∙ length-set b p.nodes _,
              omega (arith, k, u),
              omega (arith, k, v, g, h, i),
              λ all.
                  let r = noded-put words b p.nodes p.spots x low sure.row y.nodes (f.noded all) room in record {
                    many = (let o = ap length q.0 in let t = r.many in omega (arith, o, t, k));
                    are = ap₂ (nodes_of words) q.0 k ∙ r.are ∙ ap (λ (j : ℕ). y.nodes ++ (node j (groups_below (row_of x.row).below (x.first ∷ x.second ∷ [])) ∷ [])) (sym many);
                  },
            )

        go : (t : Bool) → noted (sort_at sort) ≡ t → Behind y (y.nodes ++ cond t (node (length y.spots) (groups_below (row_of x.row).below (x.first ∷ x.second ∷ [])) ∷ []) [])
        go false e = let q = put.stays e in stayed y f q.0 q.1 _ (λ room. sym (append-nil y.nodes))
        go true e =
            ⊎_elim
            (λ (h : length b ≤ p.nodes). let q = put.full h in stayed y f q.0 q.1 _ (λ room. let z = space e room in absurd (omega (arith, h, z))))
            (λ (h : p.nodes < length b). here e h)
            (le-or-lt (length b) p.nodes)

    pub line-walked : (line : Read) → line ≡ Ok x → LineNotes s a l p.n w p.spots a' l' w' c sort mark line
        → LineWalks s (book_at a l w words b p) p (book_at a' l' w' words b' place) sort mark (record { row = x.row; first = x.first; second = x.second; place = place })
    unfolding LineWalks LineNotes
    line-walked line e notes y f =
        let q : LineNotes s a l p.n w p.spots a' l' w' c sort mark (Ok x) = subst (LineNotes s a l p.n w p.spots a' l' w' c sort mark) e notes in
        let u = q y.spots (subst (λ (i : ℕ). Keeps s (store a l p.n w p.spots) i y.spots) (sym at-is) f.keeps) in
        let v = noded y f in (
          record { spots = u.0; nodes = y.nodes ++ line_node sort (length y.spots) x },
          record {
            keeps = subst (λ (i : ℕ). Keeps s (store a' l' x.names w' x.spots) i u.0) (sym to_is) u.1;
            few = v.1;
            behind = v.2;
            noded = λ room. v.3 (λ i g h. let e = v.0 in let r = room i g h in omega (arith, e, r));
          },
          λ trees.
              ap (λ (i : ℕ). beneath spot_line trees (eqb x.row.flag 1) (mark_at mark) (row_of x.row).below (x.first ∷ x.second ∷ []) (state (lines_from s i) (trace i u.0 (y.nodes ++ line_node sort (length y.spots) x)))) to_is
              ∙ u.2 trees (lines_from s (c.end + 1)) y.nodes
              ∙ ap (λ (i : ℕ). whole spot_line trees (sort_at sort) (mark_at mark) (split 9 (part i c.end s) ∷ lines_from s (c.end + 1)) (trace i y.spots y.nodes)) at-is
              ∙ ap (λ (ls : List Line). whole spot_line trees (sort_at sort) (mark_at mark) ls (trace p.cursor.at y.spots y.nodes)) (sym (lines_next s p.cursor.at c.end first ended)),
        )

  -- the same walk, told by a place with another cursor
  pub walks-moved : (A : Book) (p : Place) (B : Book) (q r : Place) (f : State Trace → State Trace) → r.cursor.at ≡ q.cursor.at → Walks s A p B q f → Walks s A p B r f
  unfolding Walks
  walks-moved A p B q r f e w x k = let u = w x k in (u.0, subst (λ (i : ℕ). Full s B i u.0) (sym e) u.1, ap (λ (i : ℕ). state (lines_from s i) (trace i u.0.spots u.0.nodes)) e ∙ u.2)

  pub walks_from : (A : Book) (p q : Place) (B : Book) (r : Place) (f : State Trace → State Trace) → q.cursor.at ≡ p.cursor.at → Walks s A q B r f → Walks s A p B r f
  unfolding Walks
  walks_from A p q B r f e w x k = let u = w x (subst (λ (i : ℕ). Full s A i x) (sym e) k) in (u.0, u.1, u.2 ∙ ap (λ (i : ℕ). f (state (lines_from s i) (trace i x.spots x.nodes))) e)

  -- nothing was walked yet
  pub walks-none : (A : Book) (p : Place) → Walks s A p A p (λ st. st)
  unfolding Walks
  walks-none A p x k = (x, k, refl)

  pub walks-then : (A : Book) (p : Place) (B : Book) (q : Place) (C : Book) (r : Place) (f : State Trace → State Trace) → Walks s A p B q (λ st. st) → Walks s B q C r f → Walks s A p C r f
  unfolding Walks
  walks-then A p B q C r f v w x k = let u = v x k in let y = w u.0 u.1 in (y.0, y.1, y.2 ∙ ap f u.2)

  module _ (A : Book) (p : Place) (B : Book) (level sort mark : ℕ) (t : Taken) (line : LineWalks s A p B sort mark t) where
    pub entry-alone : t.row.below ≡ 0 → Walks s A p B t.place (entry_of level sort (mark_at mark))
    unfolding Walks LineWalks
    entry-alone al xs k =
        let u = line xs k in
        (u.0, u.1, sym (ap (λ (n : ℕ). beneath spot_line (tree spot_line (below sort level)) (eqb t.row.flag 1) (mark_at mark) (groups_in 3 n) (t.first ∷ t.second ∷ []) (walk_at s t.place u.0)) al ∙ group-none spot_line (tree spot_line (below sort level)) (eqb t.row.flag 1) (mark_at mark) t.first t.second 3 (walk_at s t.place u.0)) ∙ u.2 (tree spot_line (below sort level)))

    pub entry-below : (d : ℕ) → d ≡ below sort level → (C : Book) (r : Place) → Walks s B t.place C r (beneath spot_line (tree spot_line d) (eqb t.row.flag 1) (mark_at mark) (groups_in 3 t.row.below) (t.first ∷ t.second ∷ []))
        → Walks s A p C r (entry_of level sort (mark_at mark))
    unfolding Walks LineWalks
    entry-below d e C r f xs k =
        let u = line xs k in
        let v = f u.0 u.1 in
        (v.0, v.1, v.2 ∙ u.2 (tree spot_line d) ∙ ap (λ (i : ℕ). whole spot_line (tree spot_line i) (sort_at sort) (mark_at mark) (lines_from s p.cursor.at) (trace p.cursor.at xs.spots xs.nodes)) e)

  -- ---- a query's head, and its tree

  -- the head's only group is its tree
  pub head-walked : (A : Book) (p : Place) (B : Book) (t : Taken) → Heads t.row t.first → LineWalks s A p B 7 0 t → HeadWalks s A p B t.place
  unfolding LineWalks HeadWalks beneath many child
  head-walked A p B t k line x f =
      let u = line x f in
      (u.0, u.1, λ trees. ap₂ (λ (bs : List Below) (n : ℕ). beneath spot_line trees (eqb n 1) visible bs (t.first ∷ t.second ∷ []) (walk_at s t.place u.0)) (sym k.below) (sym k.flag) ∙ u.2 trees)

  pub head-alone : (A : Book) (p : Place) (B : Book) (t : Taken) (sort mark : ℕ) → sort ≡ 7 → mark_at mark ≡ visible → Heads t.row t.first → LineWalks s A p B sort mark t → HeadWalks s A p B t.place
  unfolding LineWalks
  head-alone A p B t sort mark e z k line = head-walked A p B t k (λ x f.
      let u = line x f in
      (u.0, u.1, λ trees. subst₂ (λ (i : ℕ) (m : Mark). beneath spot_line trees (eqb t.row.flag 1) m (row_of t.row).below (t.first ∷ t.second ∷ []) (walk_at s t.place u.0) ≡ whole spot_line trees (sort_at i) m (lines_from s p.cursor.at) (trace p.cursor.at x.spots x.nodes)) e z (u.2 trees)))

  pub head-from : (A : Book) (p q : Place) (B : Book) (r : Place) → q.cursor.at ≡ p.cursor.at → HeadWalks s A q B r → HeadWalks s A p B r
  unfolding HeadWalks
  head-from A p q B r e w x k = let u = w x (subst (λ (i : ℕ). Full s A i x) (sym e) k) in (u.0, u.1, λ trees. u.2 trees ∙ ap (λ (i : ℕ). whole spot_line trees heads visible (lines_from s i) (trace i x.spots x.nodes)) e)

  pub head-moved : (A : Book) (p : Place) (B : Book) (q r : Place) → r.cursor.at ≡ q.cursor.at → HeadWalks s A p B q → HeadWalks s A p B r
  unfolding HeadWalks
  head-moved A p B q r e w x k = let u = w x k in (u.0, subst (λ (i : ℕ). Full s B i u.0) (sym e) u.1, λ trees. ap (λ (i : ℕ). trees patterns visible (state (lines_from s i) (trace i u.0.spots u.0.nodes))) e ∙ u.2 trees)

  pub head-then : (A : Book) (p : Place) (B : Book) (q : Place) (C : Book) (r : Place) → Walks s A p B q (λ st. st) → HeadWalks s B q C r → HeadWalks s A p C r
  unfolding Walks HeadWalks
  head-then A p B q C r v w x k = let u = v x k in let y = w u.0 u.1 in (y.0, y.1, λ trees. y.2 trees ∙ ap (λ (st : State Trace). whole spot_line trees heads visible st.lines st.output) u.2)

  pub query-walked : (A : Book) (p : Place) (B : Book) (q : Place) (C : Book) (r : Place) (level : ℕ) → (level ≡ 0 → ⊥) → HeadWalks s A p B q → Walks s B q C r (entry_of level 2 visible) → Walks s A p C r (entry_of level 7 visible)
  unfolding Walks HeadWalks tree
  query-walked A p B q C r level deep head f x k = go level deep f
    where
      go : (d : ℕ) → (d ≡ 0 → ⊥) → ((x : Marks) → Full s B q.cursor.at x → (y : Marks) × Full s C r.cursor.at y × (walk_at s r y ≡ entry_of d 2 visible (walk_at s q x)))
          → (y : Marks) × Full s C r.cursor.at y × (walk_at s r y ≡ entry_of d 7 visible (walk_at s p x))
      go zero n g = absurd (n refl)
      go (suc d) n g = let u = head x k in let v = g u.0 u.1 in (v.0, v.1, v.2 ∙ u.2 (tree spot_line (suc d)))

  -- ---- groups

  -- of what was to be walked from p on, g is left at q
  unfoldable pub Rest : Book → Place → Book → Place → (State Trace → State Trace) → (State Trace → State Trace) → Type 0
  Rest A p B q f g = (x : Marks) → Full s A p.cursor.at x → (y : Marks) × Full s B q.cursor.at y × (g (walk_at s q y) ≡ f (walk_at s p x))

  pub rest-begin : (A : Book) (p : Place) (f : State Trace → State Trace) → Rest A p A p f f
  unfolding Rest
  rest-begin A p f xs k = (xs, k, refl)

  module _ (A : Book) (p : Place) (B : Book) (q : Place) (f : State Trace → State Trace) (level : ℕ) (hide : Bool) (m : Mark) (x y k n : ℕ) where
    -- the groups of a number are left: the first of them is next
    pub rest-next : Rest A p B q f (beneath spot_line (tree spot_line level) hide m (groups_in (suc k) n) (x ∷ y ∷ [])) → (times : ℕ) → times ≡ amount_in (n % 4) (n / 4 % 8) x y → (C : Book) (r : Place) → Walks s B q C r (many (child spot_line (tree spot_line level) hide m (sort_at (n / 32 % 16))) times)
        → Rest A p C r f (beneath spot_line (tree spot_line level) hide m (groups_in k (n / 512)) (x ∷ y ∷ []))
    unfolding Rest Walks
    rest-next g times e C r w xs kp =
        let u = g xs kp in
        let v = w u.0 u.1 in (
          v.0,
          v.1,
          ap (beneath spot_line (tree spot_line level) hide m (groups_in k (n / 512)) (x ∷ y ∷ [])) (v.2 ∙ ap (λ (i : ℕ). many (child spot_line (tree spot_line level) hide m (sort_at (n / 32 % 16))) i (walk_at s q u.0)) e)
              ∙ sym (group-next spot_line (tree spot_line level) hide m x y k n (walk_at s q u.0))
              ∙ u.2,
        )

    pub rest-done : Rest A p B q f (beneath spot_line (tree spot_line level) hide m (groups_in k n) (x ∷ y ∷ [])) → n ≡ 0 → Walks s A p B q f
    unfolding Rest Walks
    rest-done g e xs kp =
        let u = g xs kp in
        (u.0, u.1, sym (ap (λ (i : ℕ). beneath spot_line (tree spot_line level) hide m (groups_in k i) (x ∷ y ∷ []) (walk_at s q u.0)) e ∙ group-none spot_line (tree spot_line level) hide m x y k (walk_at s q u.0)) ∙ u.2)

  -- ---- so many lines

  -- of n lines k are left
  unfoldable pub Left : Book → Place → Book → Place → (Bool → State Trace → State Trace) → ℕ → ℕ → Type 0
  Left A p B q f n k = (x : Marks) → Full s A p.cursor.at x → (y : Marks) × Full s B q.cursor.at y × (many f k (walk_at s q y) ≡ many f n (walk_at s p x))

  pub left-begin : (A : Book) (p : Place) (f : Bool → State Trace → State Trace) (n : ℕ) → Left A p A p f n n
  unfolding Left
  left-begin A p f n xs k = (xs, k, refl)

  pub left-next : (A : Book) (p : Place) (B : Book) (q : Place) (C : Book) (r : Place) (level flag mark sort n k m : ℕ) (last : Bool) → Left A p B q (child spot_line (tree spot_line level) (eqb flag 1) (mark_at mark) (sort_at sort)) n k → 0 < k → last ≡ eqb (k - 1) 0
      → mark_at m ≡ mark_under sort (eqb flag 1) last (mark_at mark) → sort ≤ 6 → (opens (sort_at sort) ≡ true → level ≡ 0 → ⊥) → Walks s B q C r (entry_of level sort (mark_at m))
      → Left A p C r (child spot_line (tree spot_line level) (eqb flag 1) (mark_at mark) (sort_at sort)) n (k - 1)
  unfolding Walks Left
  left-next A p B q C r level flag mark sort n k m last f some el em low deep g xs kp =
      let u = f xs kp in
      let v = g u.0 u.1 in
      let st = walk_at s q u.0 in
      let one : walk_at s r v.0 ≡ child spot_line (tree spot_line level) (eqb flag 1) (mark_at mark) (sort_at sort) (eqb (k - 1) 0) st =
      v.2
      ∙ ap (λ (i : Mark). whole spot_line (tree spot_line (below sort level)) (sort_at sort) i st.lines st.output) em
      ∙ sym (child-is spot_line level (eqb flag 1) (mark_at mark) last st sort low deep)
      ∙ ap (λ (i : Bool). child spot_line (tree spot_line level) (eqb flag 1) (mark_at mark) (sort_at sort) i st) el in
      (v.0, v.1, ap (many (child spot_line (tree spot_line level) (eqb flag 1) (mark_at mark) (sort_at sort)) (k - 1)) one ∙ times-next spot_line (child spot_line (tree spot_line level) (eqb flag 1) (mark_at mark) (sort_at sort)) k st some ∙ u.2)

  -- the same, told by a place with another cursor
  pub left-moved : (A : Book) (p : Place) (B : Book) (q r : Place) (f : Bool → State Trace → State Trace) (n k i : ℕ) → r.cursor.at ≡ q.cursor.at → i ≡ k → Left A p B q f n k → Left A p B r f n i
  unfolding Left
  left-moved A p B q r f n k i e c w x kp =
      let u = w x kp in
      (u.0, subst (λ (j : ℕ). Full s B j u.0) (sym e) u.1, ap₂ (λ (j l : ℕ). many f j (state (lines_from s l) (trace l u.0.spots u.0.nodes))) c e ∙ u.2)

  pub left-done : (A : Book) (p : Place) (B : Book) (q : Place) (f : Bool → State Trace → State Trace) (n k : ℕ) → Left A p B q f n k → k ≤ 0 → Walks s A p B q (many f n)
  unfolding Walks Left
  left-done A p B q f n k g e xs kp = let u = g xs kp in (u.0, u.1, sym (times-done spot_line f k (walk_at s q u.0) e) ∙ u.2)

-- ---- the whole text

pub charts-none : (s : Bytes) (words : List (List ℕ)) (a l : List ℕ) (w w' b : List (List ℕ)) (sort level : ℕ) (f : Fault) → Charts s words a l w w' b sort level (Err f)
unfolding Charts
charts-none s words a l w w' b sort level f = tt

keeps-start : (s : Bytes) (a l h : List ℕ) (w : List (List ℕ)) → Holds s a l h 0 [] → length s ≤ 3 * length w → Keeps s (store a l 0 w 0) 0 []
unfolding spots_of
keeps-start s a l h w q room = record {
  tables = (q.entries.0, q.entries.1);
  few = omega arith;
  room = room;
  behind = omega arith;
  inside = omega arith;
  spots = record { many = omega arith; are = refl; inside = λ i k. absurd (omega arith) };
}

full_start : (s : Bytes) (words : List (List ℕ)) (a l h : List ℕ) (w b : List (List ℕ)) (p0 : Place) → Started p0 → Holds s a l h 0 [] → length s ≤ 3 * length w → Full s (book_at a l w words b p0) 0 (record { spots = []; nodes = [] })
unfolding nodes_of
full_start s words a l h w b p0 st q room = record {
  keeps = subst₂ (λ (n k : ℕ). Keeps s (store a l n w k) 0 []) (sym st.names) (sym st.spots) (keeps-start s a l h w q room);
  few = (let e = st.nodes in omega (arith, e));
  behind = (let e = st.nodes in omega (arith, e));
  noded = λ all. record { many = (let e = st.nodes in omega (arith, e)); are = ap (nodes_of words b) st.nodes };
}

pub charted : (s : Bytes) (words : List (List ℕ)) (a l h : List ℕ) (w b : List (List ℕ)) (a' l' : List ℕ) (w' b' : List (List ℕ)) (sort level : ℕ) (p0 p : Place) → Started p0 → Holds s a l h 0 [] → length s ≤ p.cursor.at
    → Walks s (book_at a l w words b p0) p0 (book_at a' l' w' words b' p) p (entry_of level sort (mark_alone sort))
    → Charts s words a' l' w w' b' sort level (Ok (counts p.n p.spots p.nodes))
unfolding Charts Walks
charted s words a l h w b a' l' w' b' sort level p0 p st q end walks = λ room.
    let u = walks (record { spots = []; nodes = [] }) (subst (λ (i : ℕ). Full s (book_at a l w words b p0) i (record { spots = []; nodes = [] })) (sym st.at) (full_start s words a l h w b p0 st q room)) in
    let e : p.cursor.at ≡ length s = let i = u.1.keeps.inside in omega (arith, end, i) in (
      u.1.keeps.few,
      u.0.spots,
      u.0.nodes,
      ap (λ (i : ℕ). entry_of level sort (mark_alone sort) (state (lines_from s i) (trace i [] []))) (sym st.at) ∙ sym u.2 ∙ ap₂ (λ (ls : List Line) (i : ℕ). state ls (trace i u.0.spots u.0.nodes)) (lines_end s p.cursor.at end) e,
      u.1.keeps.spots,
      u.1.noded,
    )

-- ---- the answer with the spots and without

pub tells_as : (s a l h : List ℕ) (x : Check) (r q : Noting) → r ≡ q → Tells s a l h x (answer_of r) → Tells s a l h x (answer_of q)
tells_as s a l h x r q e t = subst (λ (y : Noting). Tells s a l h x (answer_of y)) e t
