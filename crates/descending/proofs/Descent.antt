-- Laws of the descent over noted lines, one for each way out. Assumes nothing.
use Prim.Native.Nat.{ℕ, zero, suc, ◌+◌, ◌-◌, ◌/◌, ◌%◌, ◌≤◌, ◌<◌}
use mathlib.Core.Path.{◌≡◌, refl, sym, ap, subst, ◌∙◌}
use mathlib.Core.Bool.{Bool, true, false, cond}
use mathlib.Core.List.{List, [], ◌∷◌, map}
use native.Mathlib.Nat.{le_refl}
use native.Mathlib.Numerals.{add-one}
use native.Mathlib.Omega.{arith}
use lib.Dec.{eqb, ltb, leb}
use lib.ListN.{length, get_or, drop, drop_of_length-le}
use lib.Seq.{drop-cons}
use borrow.Author.Tests.{le-leb, lt-leb, lt-ltb, le-ltb, ltb-true, ltb-false, ne_eqb, eq-eqb}
use Rattle.algebra.specs.bridge.Table.{Sort, patterns, expressions}
use Rattle.words.specs.bridge.Code.{sort_at, groups_in}
use Rattle.words.specs.bridge.Words.{is_front, Worded}
use Rattle.words.proofs.Front.{front_at}
use Rattle.scoping.specs.bridge.Spots.{Group, group, groups_below, Node, noted}
use Rattle.scoping.specs.bridge.Skip.{is_patterns, head_many, skip_times, skip_part, skip_child, skip_groups, skip_under, skip}
use Rattle.lines.specs.bridge.Below.{amount_in}
use Rattle.lines.specs.bridge.Noded.{node_at}
use Rattle.descending.specs.bridge.Renamed.{Walked, nodes_from, first_spot, Went, Descends, Heads}
use Rattle.descending.proofs.Marks.{none-walked, both-walked, next-in}
use Rattle.descending.proofs.ByNumber.{Narrow, one-group, no-groups, front-some, front-many, under-front}

-- ---- where a line's variables begin

module _ (nodes : List (List ℕ)) (i k : ℕ) where
  pub first-none : length nodes ≤ i → (k ≡ first_spot nodes i k) × (k ≤ k)
  unfolding first_spot
  first-none h = (rw (le-leb (length nodes) i h) refl, le_refl k)

  module _ (x : ℕ) (low : i < length nodes) (e : x ≡ get_or (get_or nodes i []) 0 0) where
    pub first-over : k < x % 65536 → (k ≡ first_spot nodes i k) × (k ≤ k)
    unfolding first_spot
    first-over h = (rw (lt-leb (length nodes) i low, ← e, lt-ltb k (x % 65536) h) refl, le_refl k)

    pub first-is : x % 65536 ≤ k → (x % 65536 ≡ first_spot nodes i k) × (x % 65536 ≤ k)
    unfolding first_spot
    first-is h = (rw (lt-leb (length nodes) i low, ← e, le-ltb k (x % 65536) h) refl, h)

-- ---- a noted line, and those behind it

module _ (words nodes : List (List ℕ)) (i : ℕ) where
  pub nodes-at : i < length nodes → nodes_from words nodes i ≡ node_at words (get_or nodes i []) ∷ nodes_from words nodes (i + 1)
  unfolding nodes_from
  nodes-at h = ap (map (node_at words)) (drop-cons nodes i [] h) ∙ ap (λ (n : ℕ). node_at words (get_or nodes i []) ∷ map (node_at words) (drop n nodes)) (sym (add-one i))

  pub nodes-end : length nodes ≤ i → nodes_from words nodes i ≡ []
  unfolding nodes_from
  nodes-end h = ap (map (node_at words)) (drop_of_length-le nodes h)

  pub head-is : (x y z g : ℕ) → Worded words → x ≡ get_or (get_or nodes i []) 0 0 → y ≡ get_or (get_or nodes i []) 1 0 → z ≡ get_or (get_or nodes i []) 2 0 → y < 4294967296 → z < 4294967296
      → g ≡ get_or (get_or words (x / 65536) []) 1 0 / 4294967296 → Heads words (get_or nodes i []) g y z
  unfolding node_at
  head-is x y z g w ex ey ez hy hz e =
      let q : g ≡ get_or (get_or words (get_or (get_or nodes i []) 0 0 / 65536) []) 1 0 / 4294967296 = e ∙ ap (λ (n : ℕ). get_or (get_or words (n / 65536) []) 1 0 / 4294967296) ex in
      let f = front_at words (get_or (get_or nodes i []) 0 0 / 65536) w.front in
      record {
        groups = λ t. groups_below (groups_in 3 (sym q t)) (sym ey t ∷ sym ez t ∷ []);
        small = subst (λ (n : ℕ). n < 134217728) (sym q) f.0;
        front = ap is_front q ∙ f.1;
        first_small = hy;
        second_small = hz;
      }

-- ---- stretches

module _ {nodes : List (List ℕ)} {sizes : List ℕ} where
  pub went-none : {a : List (List ℕ)} {i j : ℕ} → j ≤ length a → Went nodes sizes a i j a i j
  went-none h = record { on = omega arith; all = none-walked _ _ _ h; reached = λ l. absurd (omega arith) }

  module _ {a : List (List ℕ)} {i j : ℕ} {b : List (List ℕ)} {v : ℕ} where
    -- a line's variables
    pub went_line : Walked sizes a j b v → (to : ℕ) → to ≡ first_spot nodes (i + 1) (length a) → to ≤ v → Went nodes sizes a i j b (i + 1) v
    went_line w to e h = record { on = omega arith; all = w; reached = λ l. omega arith }

    -- one after the other
    pub both-went : {n : ℕ} {c : List (List ℕ)} {m u : ℕ} → Went nodes sizes a i j b n v → Went nodes sizes b n v c m u → Went nodes sizes a i j c m u
    both-went {n} {c} {m} {u} f g =
        let x = f.on in
        let y = g.on in
        record { on = omega arith; all = both-walked f.all g.all; reached = λ l. go l (ltb n m) refl }
      where
        go : i < m → (t : Bool) → ltb n m ≡ t → first_spot nodes m (length a) ≤ u
        go l true e = subst (λ (k : ℕ). first_spot nodes m k ≤ u) f.all.all.long (g.reached (ltb-true n m e))
        go l false e =
            let h : m ≤ n = ltb-false n m e in
            let o = g.on in
            let q : n ≡ m = omega arith in
            let r = g.all.on in
            let z = f.reached (omega arith) in
            subst (λ (k : ℕ). first_spot nodes k (length a) ≤ u) q (omega arith)

    -- where one ended the next can begin
    pub went-in : {n : ℕ} → Went nodes sizes a i j b n v → v ≤ length b
    went-in w = next-in w.all

-- ---- the descent

skip-none : (d : ℕ) (s : Sort) → skip d s [] ≡ []
unfolding skip
skip-none zero s = refl
skip-none (suc d) s = refl

skip-zero : (d : ℕ) (s : Sort) (ns : List Node) → d ≡ 0 → ns ≡ skip d s ns
unfolding skip
skip-zero d s ns e = rw e refl

skip-pattern : (d : ℕ) (n : Node) (ns : List Node) → (d ≡ 0 → ⊥) → skip d patterns (n ∷ ns) ≡ skip_groups (skip (d - 1)) n.groups ns
unfolding skip
skip-pattern zero n ns h = absurd (h refl)
skip-pattern (suc d) n ns h = let e : d ≡ suc d - 1 = omega arith in ap (λ (k : ℕ). skip_groups (skip k) n.groups ns) e

skip-expression : (d : ℕ) (n : Node) (ns : List Node) → (d ≡ 0 → ⊥) → skip d expressions (n ∷ ns) ≡ skip_under (skip (d - 1)) n.groups ns
unfolding skip
skip-expression zero n ns h = absurd (h refl)
skip-expression (suc d) n ns h = let e : d ≡ suc d - 1 = omega arith in ap (λ (k : ℕ). skip_under (skip k) n.groups ns) e

module _ {words nodes : List (List ℕ)} {sizes : List ℕ} {a : List (List ℕ)} {i j : ℕ} where
  -- no level is left
  pub stopped : (d : ℕ) (s : Sort) → d ≡ 0 → j ≤ length a → Descends words nodes sizes (skip d s (nodes_from words nodes i)) a i j a i j
  stopped d s e h = record { went = went-none h; shape = skip-zero d s (nodes_from words nodes i) e }

  -- no line is left
  pub over : (d : ℕ) (s : Sort) → length nodes ≤ i → j ≤ length a → Descends words nodes sizes (skip d s (nodes_from words nodes i)) a i j a i j
  over d s l h = record { went = went-none h; shape = nodes-end words nodes i l ∙ sym (ap (skip d s) (nodes-end words nodes i l) ∙ skip-none d s) }

  pub part-over : (U : Sort → List Node → List Node) → length nodes ≤ i → j ≤ length a → Descends words nodes sizes (skip_part U (nodes_from words nodes i)) a i j a i j
  unfolding skip_part
  part-over U l h = record { went = went-none h; shape = nodes-end words nodes i l ∙ sym (ap (skip_part U) (nodes-end words nodes i l)) }

  -- as it is
  pub nothing : (left : List Node) → nodes_from words nodes i ≡ left → j ≤ length a → Descends words nodes sizes left a i j a i j
  nothing left e h = record { went = went-none h; shape = e }

  -- what is left, told otherwise
  pub turned : {left other : List Node} {b : List (List ℕ)} {n v : ℕ} → left ≡ other → Descends words nodes sizes left a i j b n v → Descends words nodes sizes other a i j b n v
  turned e r = record { went = r.went; shape = r.shape ∙ e }

  -- a line, what stands below it, and what follows
  module _ {b : List (List ℕ)} {v g x y : ℕ} (low : i < length nodes) (w : Went nodes sizes a i j b (i + 1) v) (h : Heads words (get_or nodes i []) g x y) where
    pub pattern-line : {c : List (List ℕ)} {n u : ℕ} (d : ℕ) → (d ≡ 0 → ⊥) → Descends words nodes sizes (skip_groups (skip (d - 1)) (groups_below (groups_in 3 g) (x ∷ y ∷ [])) (nodes_from words nodes (i + 1))) b (i + 1) v c n u
        → Descends words nodes sizes (skip d patterns (nodes_from words nodes i)) a i j c n u
    pattern-line d z r = record {
      went = both-went w r.went;
      shape = r.shape ∙ sym (ap (skip d patterns) (nodes-at words nodes i low) ∙ skip-pattern d _ _ z ∙ ap (λ (gs : List Group). skip_groups (skip (d - 1)) gs (nodes_from words nodes (i + 1))) h.groups);
    }

    pub exists-line : {c : List (List ℕ)} {n u : ℕ} (d : ℕ) → (d ≡ 0 → ⊥) → g / 32 % 16 ≡ 2 → Descends words nodes sizes (skip (d - 1) patterns (nodes_from words nodes (i + 1))) b (i + 1) v c n u
        → Descends words nodes sizes (skip d expressions (nodes_from words nodes i)) a i j c n u
    unfolding skip_under
    exists-line d z e r = record {
      went = both-went w r.went;
      shape = r.shape ∙ sym (ap (skip d expressions) (nodes-at words nodes i low) ∙ skip-expression d _ _ z
          ∙ ap (λ (gs : List Group). skip_under (skip (d - 1)) gs (nodes_from words nodes (i + 1))) (h.groups ∙ front-some g (x ∷ y ∷ []) h.front (λ q. absurd (omega arith)))
          ∙ ap (λ (k : ℕ). cond (is_patterns (sort_at k)) (skip (d - 1) patterns (nodes_from words nodes (i + 1))) (skip_times (skip (d - 1) expressions) (amount_in (g % 4) (g / 4 % 8) x y) (nodes_from words nodes (i + 1)))) e);
    }

    pub expression-line : {c : List (List ℕ)} {n u : ℕ} (d k : ℕ) → (d ≡ 0 → ⊥) → (g / 32 % 16 ≡ 2 → ⊥) → k ≡ amount_in (g % 4) (g / 4 % 8) x y
        → Descends words nodes sizes (skip_times (skip (d - 1) expressions) k (nodes_from words nodes (i + 1))) b (i + 1) v c n u
        → Descends words nodes sizes (skip d expressions (nodes_from words nodes i)) a i j c n u
    expression-line d k z q e r = record {
      went = both-went w r.went;
      shape = r.shape ∙ sym (ap (skip d expressions) (nodes-at words nodes i low) ∙ skip-expression d _ _ z
          ∙ ap (λ (gs : List Group). skip_under (skip (d - 1)) gs (nodes_from words nodes (i + 1))) h.groups
          ∙ under-front g (x ∷ y ∷ []) h.front (skip (d - 1)) (nodes_from words nodes (i + 1)) q
          ∙ ap (λ (t : ℕ). skip_times (skip (d - 1) expressions) t (nodes_from words nodes (i + 1))) (sym e));
    }

    module _ (U : Sort → List Node → List Node) (k : ℕ) (e : k ≡ amount_in (g % 4) (g / 4 % 8) x y) where
      many_is : head_many (node_at words (get_or nodes i [])).groups ≡ k
      many_is = ap head_many h.groups ∙ front-many g (x ∷ y ∷ []) h.front ∙ sym e

      pub part-alone : k ≡ 0 → Descends words nodes sizes (skip_part U (nodes_from words nodes i)) a i j b (i + 1) v
      unfolding skip_part
      part-alone z = record { went = w; shape = sym (ap (skip_part U) (nodes-at words nodes i low) ∙ rw (many_is, eq-eqb k 0 z) refl) }

      pub part-line : {c : List (List ℕ)} {n u : ℕ} → (k ≡ 0 → ⊥) → Descends words nodes sizes (U expressions (nodes_from words nodes (i + 1))) b (i + 1) v c n u → Descends words nodes sizes (skip_part U (nodes_from words nodes i)) a i j c n u
      unfolding skip_part
      part-line z r = record { went = both-went w r.went; shape = r.shape ∙ sym (ap (skip_part U) (nodes-at words nodes i low) ∙ rw (many_is, ne_eqb k 0 z) refl) }

-- ---- loops

times-one : (F : List Node → List Node) (k : ℕ) (ns : List Node) → 0 < k → skip_times F (k - 1) (F ns) ≡ skip_times F k ns
unfolding skip_times
times-one F zero ns h = absurd (omega arith)
times-one F (suc k) ns h = let e : suc k - 1 ≡ k = omega arith in ap (λ (l : ℕ). skip_times F l (F ns)) e

times_none : (F : List Node → List Node) (k : ℕ) (ns : List Node) → k ≤ 0 → ns ≡ skip_times F k ns
unfolding skip_times
times_none F zero ns h = refl
times_none F (suc k) ns h = absurd (omega arith)

-- what F makes of the lines that are left is what is to be left
pub record Going (words nodes : List (List ℕ)) (sizes : List ℕ) (F : List Node → List Node) (left : List Node) (a : List (List ℕ)) (i j : ℕ) (b : List (List ℕ)) (n v : ℕ) : Type 0 where
  pub went : Went nodes sizes a i j b n v
  pub rest : F (nodes_from words nodes n) ≡ left

module _ {words nodes : List (List ℕ)} {sizes : List ℕ} {a : List (List ℕ)} {i j : ℕ} where
  pub times-begin : (F : List Node → List Node) (k : ℕ) → j ≤ length a → Going words nodes sizes (skip_times F k) (skip_times F k (nodes_from words nodes i)) a i j a i j
  times-begin F k h = record { went = went-none h; rest = refl }

  module _ {left : List Node} {b : List (List ℕ)} {n v : ℕ} (F : List Node → List Node) (k : ℕ) (g : Going words nodes sizes (skip_times F k) left a i j b n v) where
    pub times-next : {c : List (List ℕ)} {m u : ℕ} → 0 < k → Descends words nodes sizes (F (nodes_from words nodes n)) b n v c m u → Going words nodes sizes (skip_times F (k - 1)) left a i j c m u
    times-next h r = record { went = both-went g.went r.went; rest = ap (skip_times F (k - 1)) r.shape ∙ times-one F k (nodes_from words nodes n) h ∙ g.rest }

    pub times-done : k ≤ 0 → Descends words nodes sizes left a i j b n v
    times-done h = record { went = g.went; shape = times_none F k (nodes_from words nodes n) h ∙ g.rest }

-- the groups that are left, by their number
pub record Groups (words nodes : List (List ℕ)) (sizes : List ℕ) (U : Sort → List Node → List Node) (cs : List ℕ) (left : List Node) (a : List (List ℕ)) (i j : ℕ) (b : List (List ℕ)) (n v code : ℕ) : Type 0 where
  pub many : ℕ
  pub narrow : Narrow many code
  pub went : Went nodes sizes a i j b n v
  pub rest : skip_groups U (groups_below (groups_in many code) cs) (nodes_from words nodes n) ≡ left

module _ {words nodes : List (List ℕ)} {sizes : List ℕ} {a : List (List ℕ)} {i j : ℕ} (U : Sort → List Node → List Node) (cs : List ℕ) where
  pub groups-begin : (code : ℕ) → code < 134217728 → j ≤ length a → Groups words nodes sizes U cs (skip_groups U (groups_below (groups_in 3 code) cs) (nodes_from words nodes i)) a i j a i j code
  groups-begin code l h = record { many = 3; narrow = omega arith; went = went-none h; rest = refl }

  module _ {left : List Node} {b : List (List ℕ)} {n v code : ℕ} (g : Groups words nodes sizes U cs left a i j b n v code) where
    pub groups-next : {c : List (List ℕ)} {m u : ℕ} (s k : ℕ) → (code ≡ 0 → ⊥) → s ≡ code / 32 % 16 → k ≡ amount_in (code % 4) (code / 4 % 8) (get_or cs 0 0) (get_or cs 1 0)
        → Descends words nodes sizes (skip_times (skip_child U (sort_at s)) k (nodes_from words nodes n)) b n v c m u → Groups words nodes sizes U cs left a i j c m u (code / 512)
    unfolding groups_in
    groups-next {c} {m} {u} s k z p q r = go g.many g.narrow g.rest
      where
        go : (l : ℕ) → Narrow l code → skip_groups U (groups_below (groups_in l code) cs) (nodes_from words nodes n) ≡ left → Groups words nodes sizes U cs left a i j c m u (code / 512)
        go zero w e = absurd (z w)
        go (suc l) w e = record {
          many = l;
          narrow = w;
          went = both-went g.went r.went;
          rest = ap (skip_groups U (groups_below (groups_in l (code / 512)) cs)) (r.shape ∙ λ t. skip_times (skip_child U (sort_at (p t))) (q t) (nodes_from words nodes n))
              ∙ sym (one-group U cs (code % 4) (code / 4 % 8) (sort_at (code / 32 % 16)) (groups_in l (code / 512)) (nodes_from words nodes n))
              ∙ e;
        }

    pub groups-done : code ≡ 0 → Descends words nodes sizes left a i j b n v
    groups-done z = record { went = g.went; shape = sym (ap (λ (k : ℕ). skip_groups U (groups_below (groups_in g.many k) cs) (nodes_from words nodes n)) z ∙ no-groups U cs g.many (nodes_from words nodes n)) ∙ g.rest }
