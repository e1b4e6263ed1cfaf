-- A text that one line reader goes over: the check of its head line, if it has one, and then of its tree. Assumes nothing.
use Prim.Native.Nat.{ℕ, ◌≤◌}
use mathlib.Core.Path.{◌≡◌, refl, sym, ap, subst, ◌∙◌}
use mathlib.Core.List.{List, [], ◌∷◌}
use mathlib.Core.Bool.{Bool, true, false, cond, not, ◌&&◌}
use native.Mathlib.Omega.{arith}
use lib.ListN.{length}
use lib.Dec.{ltb, eqb}
use borrow.Author.Tests.{eq-eqb, ne_eqb, eqb-true, not-true, not-false}
use Rattle.text.specs.Text.{Bytes}
use Rattle.text.proofs.Basics.{and_left, and_right}
use Rattle.algebra.specs.Tally.{bounds}
use Rattle.algebra.specs.declared.Fault.{Fault}
use Rattle.algebra.specs.bridge.Machine.{want, done, Check, bad, check_text}
use Rattle.std.specs.Prelude.{Ok, Err, IfOk}
use Rattle.std.proofs.lemmas.Result.{IfOk-weaker}
use Rattle.algebra.specs.bridge.Table.{opens}
use Rattle.words.specs.bridge.Code.{sort_at}
use Rattle.words.specs.bridge.Words.{Worded}
use Rattle.names.specs.bridge.Names.{starts_of, sizes_of, HoldsIn}
use Rattle.scoping.proofs.Basics.{clash}
use Rattle.lines.specs.bridge.Says.{below}
use Rattle.checking.specs.declared.place.Place.{Place}
use Rattle.checking.specs.bridge.Run.{Reached, refusal, Ready, Ahead, Started, Went, Runs, Begins, tree_sort}
use Rattle.checking.specs.bridge.Walks.{book_in, Walks, Notes, entry_of, mark_alone, TreeNotes, HeadNotes, Reads, ReadTo}
use Rattle.checking.proofs.CheckLaw.{went-begun, started-ready}
use Rattle.checking.proofs.DescentLaw.{went_on, rest-begin}
use Rattle.checking.proofs.WalksLaw.{query-walked}

-- at the first line, and behind a query's head
pub begins-first : (s : Bytes) (p : Place) (sort : ℕ) (words : List (List ℕ)) → Started p → sort ≤ 11 → length s ≤ 16384 → Worded words → Begins s 0 p sort words
begins-first s p sort words st known short worded = record { at = sym st.at; known = known; ready = started-ready s p st short; worded = worded }

pub begins-behind : (s : Bytes) (p : Place) (sort : ℕ) (words : List (List ℕ)) → sort ≤ 11 → Worded words → Ready s p → Begins s p.cursor.at p sort words
begins-behind s p sort words known worded ready = record { at = refl; known = known; ready = ready; worded = worded }

pub tree-itself : (sort : ℕ) → (sort ≡ 7 → ⊥) → tree_sort sort ≡ sort
tree-itself sort ne = ap (λ (b : Bool). cond b 2 sort) (ne_eqb sort 7 ne)

pub tree-behind : (sort : ℕ) → sort ≡ 7 → tree_sort sort ≡ 2
tree-behind sort e = ap (λ (b : Bool). cond b 2 sort) (eq-eqb sort 7 e)

-- the sort of a part
pub part-head : (head : Bool) (sort : ℕ) → head ≡ true → sort ≡ cond head sort (tree_sort sort)
part-head head sort e = ap (λ (b : Bool). cond b sort (tree_sort sort)) (sym e)

pub part-behind : (head : Bool) (sort : ℕ) → head ≡ false → sort ≡ 7 → 2 ≡ cond head sort (tree_sort sort)
part-behind head sort f e = sym (tree-behind sort e) ∙ ap (λ (b : Bool). cond b sort (tree_sort sort)) (sym f)

pub part-tree : (head : Bool) (sort : ℕ) → head ≡ false → (sort ≡ 7 → ⊥) → sort ≡ cond head sort (tree_sort sort)
part-tree head sort f ne = sym (tree-itself sort ne) ∙ ap (λ (b : Bool). cond b sort (tree_sort sort)) (sym f)

pub part-known : (head : Bool) (sort k : ℕ) → k ≡ cond head sort (tree_sort sort) → sort ≤ 11 → k ≤ 11
part-known head sort k e h = subst (λ (n : ℕ). n ≤ 11) (sym e) (go head (eqb sort 7))
  where
    go : (a b : Bool) → cond a sort (cond b 2 sort) ≤ 11
    go true b = h
    go false true = omega arith
    go false false = h

-- ---- the ways out of the check of a part
module _ (head : Bool) (s : Bytes) (words t : List (List ℕ)) (h : List ℕ) (v b : List (List ℕ)) (p : Place) (sort level : ℕ) where
  pub reads_none : (head && not (eqb sort 7)) ≡ true → Ready s p → Reads head s words t h v b p sort level t h v b (Ok p)
  reads_none lacks ready =
      let e = and_left head (not (eqb sort 7)) lacks in
      let ne : sort ≡ 7 → ⊥ = λ is. clash (eq-eqb sort 7 is) (not-true (eqb sort 7) (and_right head (not (eqb sort 7)) lacks)) in
      record {
        ready = ready;
        head_runs = λ _. subst (λ (k : ℕ). Runs s t h p (want (sort_at sort) level 0 ∷ []) (want (sort_at k) level 0 ∷ []) t h (Ok p)) (sym (tree-itself sort ne)) (rest-begin s (starts_of t) (sizes_of t) h p (want (sort_at sort) level 0 ∷ []));
        head_notes = λ _ is. absurd (ne is);
        no-head = λ _ _. (refl, refl);
        tree-runs = λ f. clash e f;
        tree_notes = λ f. clash e f;
      }

  -- a line of a sort was checked, whole or alone
  module _ (t' : List (List ℕ)) (h' : List ℕ) (v' b' : List (List ℕ)) (r : Reached) (has : (head && not (eqb sort 7)) ≡ false) (k : ℕ) (is : k ≡ cond head sort (tree_sort sort)) (q : Place) (ahead : IfOk r (λ x. Ahead s q k level x)) where
    is-ready : IfOk r (λ x. Ready s x)
    is-ready = IfOk-weaker r (λ x. Ahead s q k level x) (λ x. Ready s x) (λ x u. u.ready) ahead

    is-deep : IfOk r (λ x. opens (sort_at k) ≡ true → level ≡ 0 → ⊥)
    is-deep = IfOk-weaker r (λ x. Ahead s q k level x) _ (λ x u. u.deep) ahead

    reads-head : head ≡ true → (k ≡ 7 → Runs s t h p (want (sort_at k) level 0 ∷ []) (want (sort_at 2) (below k level) 0 ∷ []) t' h' r) → (k ≡ 7 → HeadNotes s words t v b p t' v' b' r) → Reads head s words t h v b p sort level t' h' v' b' r
    reads-head e line shown =
        let seven = eqb-true sort 7 (not-false (eqb sort 7) (ap (λ (x : Bool). x && not (eqb sort 7)) (sym e) ∙ has)) in
        let k-is : k ≡ 7 = is ∙ ap (λ (x : Bool). cond x sort (tree_sort sort)) e ∙ seven in
        let on = subst (λ (n : ℕ). Runs s t h p (want (sort_at n) level 0 ∷ []) (want (sort_at 2) (below n level) 0 ∷ []) t' h' r) k-is (line k-is) in
        record {
          ready = is-ready;
          head_runs = λ _. subst (λ (n : ℕ). Runs s t h p (want (sort_at n) level 0 ∷ []) (want (sort_at (tree_sort n)) level 0 ∷ []) t' h' r) (sym seven) on;
          head_notes = λ _ _. shown k-is;
          no-head = λ _ ne. absurd (ne seven);
          tree-runs = λ f. clash e f;
          tree_notes = λ f. clash e f;
        }

    reads-tree : head ≡ false → Runs s t h p (want (sort_at k) level 0 ∷ []) [] t' h' r → (k ≤ 7 → Notes s words t v b p t' v' b' r (entry_of level k (mark_alone k))) → Reads head s words t h v b p sort level t' h' v' b' r
    reads-tree f on notes =
        let k-is : k ≡ tree_sort sort = is ∙ ap (λ (x : Bool). cond x sort (tree_sort sort)) f in
        record {
          ready = is-ready;
          head_runs = λ e. clash e f;
          head_notes = λ e. clash e f;
          no-head = λ e. clash e f;
          tree-runs = λ _. subst (λ (n : ℕ). Runs s t h p (want (sort_at n) level 0 ∷ []) [] t' h' r) k-is on;
          tree_notes = λ _. subst (λ (n : ℕ). TreeNotes s words t v b p n level t' v' b' r) k-is (is-deep, notes);
        }

    pub reads-entry : (not head ≡ true → Runs s t h p (want (sort_at k) level 0 ∷ []) [] t' h' r) → (not head ≡ true → k ≤ 7 → Notes s words t v b p t' v' b' r (entry_of level k (mark_alone k)))
        → (not head ≡ false → k ≡ 7 → Runs s t h p (want (sort_at k) level 0 ∷ []) (want (sort_at 2) (below k level) 0 ∷ []) t' h' r) → (not head ≡ false → k ≡ 7 → HeadNotes s words t v b p t' v' b' r) → Reads head s words t h v b p sort level t' h' v' b' r
    reads-entry tree notes line shown = go head refl
      where
        go : (x : Bool) → head ≡ x → Reads head s words t h v b p sort level t' h' v' b' r
        go true e = let alone : not head ≡ false = ap not e in reads-head e (line alone) (shown alone)
        go false e = let whole : not head ≡ true = ap not e in reads-tree e (tree whole) (notes whole)

-- ---- head and tree one after the other
module _ (s : Bytes) (words t : List (List ℕ)) (h : List ℕ) (v b : List (List ℕ)) (short : length s ≤ 16384) (none : HoldsIn s t h 0 []) (p0 : Place) (st : Started p0) (sort level : ℕ) (t₁ : List (List ℕ)) (h₁ : List ℕ) (v₁ b₁ : List (List ℕ)) where
  abbrev text : Check
  text = check_text bounds done (want (sort_at sort) level 0 ∷ []) s

  went-head : (r : Reached) → Reads true s words t h v b p0 sort level t₁ h₁ v₁ b₁ r → Went s (starts_of t₁) (sizes_of t₁) h₁ done (want (sort_at (tree_sort sort)) level 0 ∷ []) text r
  went-head r head = went_on s done (starts_of t) (sizes_of t) h (starts_of t₁) (sizes_of t₁) h₁ _ _ text p0 r (went-begun s (starts_of t) (sizes_of t) h short none p0 st done (want (sort_at sort) level 0 ∷ [])) (head.head_runs refl done [])

  pub head-refused : (f : Fault) → Reads true s words t h v b p0 sort level t₁ h₁ v₁ b₁ (Err f) → text ≡ bad (refusal f)
  unfolding Went
  head-refused f head = went-head (Err f) head

  module _ (p : Place) (head : Reads true s words t h v b p0 sort level t₁ h₁ v₁ b₁ (Ok p)) (t' : List (List ℕ)) (h' : List ℕ) (v' b' : List (List ℕ)) where
    went-tree : (r : Reached) → Reads false s words t₁ h₁ v₁ b₁ p sort level t' h' v' b' r → Went s (starts_of t') (sizes_of t') h' done [] text r
    went-tree r tree = went_on s done (starts_of t₁) (sizes_of t₁) h₁ (starts_of t') (sizes_of t') h' _ _ text p r (went-head (Ok p) head) (tree.tree-runs refl done [])

    pub tree-refused : (f : Fault) → Reads false s words t₁ h₁ v₁ b₁ p sort level t' h' v' b' (Err f) → text ≡ bad (refusal f)
    unfolding Went
    tree-refused f tree = went-tree (Err f) tree

    module _ (r : Place) (tree : Reads false s words t₁ h₁ v₁ b₁ p sort level t' h' v' b' (Ok r)) where
      -- the walk of the whole text
      abbrev Whole : ℕ → Type 0
      Whole k = k ≤ 7 → Walks s (book_in t v words b p0) p0 (book_in t' v' words b' r) r (entry_of level k (mark_alone k))

      walked-query : HeadNotes s words t v b p0 t₁ v₁ b₁ (Ok p) → TreeNotes s words t₁ v₁ b₁ p 2 level t' v' b' (Ok r) → Whole 7
      walked-query top w low = query-walked s (book_in t v words b p0) p0 (book_in t₁ v₁ words b₁ p) p (book_in t' v' words b' r) r level (w.0 refl) top (w.1 (omega arith))

      walked-tree : ◌≡◌ {A = Reached} (Ok p) (Ok p0) → book_in t₁ v₁ words b₁ p0 ≡ book_in t v words b p0 → TreeNotes s words t₁ v₁ b₁ p sort level t' v' b' (Ok r) → Whole sort
      walked-tree e f w low = subst (λ A. Walks s A p0 (book_in t' v' words b' r) r (entry_of level sort (mark_alone sort))) f (subst (λ q. Walks s (book_in t₁ v₁ words b₁ q) q (book_in t' v' words b' r) r (entry_of level sort (mark_alone sort))) (let i : p ≡ p0 = cc in i) (w.1 low))

      pub one-read : (left : Bool) → left ≡ ltb r.cursor.at (length s) → ReadTo s words t v b t' h' v' b' sort level r left
      one-read left over = record { went = went-tree (Ok r) tree; start = p0; started = st; walked = go (eqb sort 7) refl; over = over }
        where
          go : (x : Bool) → eqb sort 7 ≡ x → Whole sort
          go true e = let is = eqb-true sort 7 e in subst Whole (sym is) (walked-query (head.head_notes refl is) (subst (λ (k : ℕ). TreeNotes s words t₁ v₁ b₁ p k level t' v' b' (Ok r)) (tree-behind sort is) (tree.tree_notes refl)))
          go false e = let ne : sort ≡ 7 → ⊥ = λ is. clash (eq-eqb sort 7 is) e in let same = head.no-head refl ne in walked-tree same.0 same.1 (subst (λ (k : ℕ). TreeNotes s words t₁ v₁ b₁ p k level t' v' b' (Ok r)) (tree-itself sort ne) (tree.tree_notes refl))
