-- Merge, push and negate of texts that differ only inside literals: one refusal, or answers that differ only inside literals. Assumes nothing.
use mathlib.Core.Path.{◌≡◌, refl, sym, ap, ap₂, subst, ◌∙◌}
use mathlib.Core.Bool.{Bool, true, false, cond}
use mathlib.Core.List.{List, [], ◌∷◌, map}
use mathlib.Core.Option.{Option, none, some}
use Prim.Native.Nat.{ℕ, ◌≤◌}
use native.Mathlib.Omega.{arith}
use lib.ListN.{length}
use Rattle.text.specs.Text.{Bytes, Line, same}
use Rattle.text.specs.Word.{bytes}
use Rattle.algebra.specs.Tree.{Pattern}
use Rattle.algebra.specs.Query as Query
use Rattle.algebra.specs.Query.{Query, joins, constants}
use Rattle.algebra.specs.Layout.{put, layout, put_query}
use Rattle.algebra.specs.Bounded.{layout_query}
use Rattle.algebra.specs.Valid.{Valid, ValidQuery}
use Rattle.algebra.specs.Reader.{Outcome as Reading, reads, refuses, refusal_number}
use Rattle.algebra.specs.Given.{read_given_tree, read_given_query}
use Rattle.algebra.specs.Texts.{read_pairs}
use Rattle.algebra.proofs.Neat.{neat, query-neat}
use Rattle.algebra.proofs.Given.{tree-given, query-given}
use Rattle.scoping.specs.Numbering.{by_place}
use Rattle.scoping.specs.Premises.{inside}
use Rattle.scoping.proofs.Basics.{map-map}
use Rattle.answers.specs.Outcome.{Outcome, written, then, or_refused, refused_unless}
use Rattle.merging.specs.Sides.{Pair, Constant}
use Rattle.merging.specs.Request.{Projection, tree, as_project, position, or_zero, join_positions, constants_in, by_position, made, read_joins, read_constants, Request, request, all_inside, positions}
use Rattle.merging.specs.Merge.{merge_project_patterns, merge_sides, merge_trees, merge_patterns_outcome, is_select_or_ask, mergeable, over, merge_queries_outcome}
use Rattle.merging.specs.Push.{push_constants_in_project_pattern, pushed, push_constants, push_constants_outcome}
use Rattle.merging.specs.Negate.{negate_project_pattern, negate_query, negate_outcome}
use Rattle.merging.specs.Asked.{Lists}
use Rattle.merging.specs.bridge.Twice.{none_twice}
use Rattle.merging.proofs.Given.{project-of, sides-merged}
use Rattle.merging.proofs.Lists.{Good, constants-good}
use Rattle.merging.proofs.TreeRead.{TreeRead}
use Rattle.merging.proofs.Written.{merged-valid}
use Rattle.merging.proofs.Others.{given-valid, given-names, push-known, pushed-valid, negated-valid as tree-negated}
use Rattle.merging.proofs.SidesKnown.{left-known, right-known}
use Rattle.laws.specs.Alike.{Alike, AlikeOutcome, refused_alike, written_alike}
use Rattle.laws.proofs.Erased.{erased, erased_line, number-erased}
use Rattle.laws.proofs.ErasedTree.{erased_tree, put-erased}
use Rattle.laws.proofs.ErasedCalls.{on_option, erased_constant, erased_projection, erased_request, positions-erased, sorted-erased, merged-erased, inside-erased, push-erased, negate-erased, root-erased}
use Rattle.laws.proofs.AlikeLines.{texts-alike}
use Rattle.laws.proofs.AlikeReads.{ReadAlike, reads_alike, refuses_alike, read_alike, given-tree-alike, given-query-alike, erased_query, erased_pair, pairs-alike}

-- what is made of a reading, in two ways
made-through : {A B C : Type 0} (f : A → A) (g : A → B) (h : B → C) (k : A → C) → ((a : A) → h (g a) ≡ k (f a)) → (o : Reading A) → made h (made g o) ≡ made k (made f o)
made-through f g h k e (reads a) = ap reads (e a)
made-through f g h k e (refuses n) = refl

-- a tree that was read
pub record Read (p : Pattern) : Type 0 where
  pub valid : Valid p
  pub few : length (by_place p) ≤ 1024

tree-read : (s : Bytes) (p : Pattern) → read_given_tree s ≡ reads p → Read p
unfolding by_place
tree-read s p e = let x = tree-given s p e in record { valid = x.valid; few = x.names }

pub query-read : (s : Bytes) (q : Query) → read_given_query s ≡ reads q → Read q.tree
query-read s q e = record { valid = given-valid s q e; few = given-names s q e }

pub query-valid : (s : Bytes) (q : Query) → read_given_query s ≡ reads q → ValidQuery q
query-valid s q e = (query-given s q e).valid

pub root-read : (p : Pattern) (x : Projection) → as_project p ≡ some x → Read p → TreeRead x
root-read p x e r = let t = subst Read (project-of p x e) r in record { valid = t.valid; names = t.few }

-- a query's head over another tree
query-of : (q : Query) (t : Pattern) → ValidQuery q → Valid t → ValidQuery (over q t)
unfolding ValidQuery
query-of q t v w = (v.0, v.1, v.2, w)

negated-valid : (q : Query) → ValidQuery q → ValidQuery (negate_query q)
unfolding negate_query ValidQuery
negated-valid q v = go (is_select_or_ask q.kind)
  where
    go : (t : Bool) → ValidQuery (cond t (over q (negate_project_pattern q.tree)) q)
    go true = (v.0, v.1, v.2, tree-negated q.tree v.3)
    go false = v

module _ (may : Bytes → Bool) where
  -- ---- lists

  position-erased : (f : Bytes) → position (erased may f) ≡ position f
  unfolding position
  position-erased f = ap or_zero (number-erased may f)

  positions-read : (xs : List Query.Pair) → join_positions (map (erased_pair may) xs) ≡ join_positions xs
  positions-read [] = refl
  positions-read (x ∷ xs) = λ i. record { left = position x.first; right = position-erased x.second i } ∷ positions-read xs i

  constants-read : (xs : List Query.Pair) → by_position (constants_in (map (erased_pair may) xs)) ≡ map (erased_constant may) (by_position (constants_in xs))
  constants-read xs =
      let c : Query.Pair → Constant = λ x. record { position = position x.first; term = x.second } in
      ap by_position (map-map c (erased_pair may) xs ∙ sym (map-map (erased_constant may) c xs)) ∙ sorted-erased may (constants_in xs)

  pub joins-alike : (s t : Bytes) → Alike may s t → ReadAlike (λ (js : List Pair). js) (read_joins s) (read_joins t)
  unfolding read_joins
  joins-alike s t a =
      let through = made-through (map (erased_pair may)) join_positions (λ js. js) join_positions (λ xs. sym (positions-read xs)) in
      read_alike (λ js. js) (read_joins s) (read_joins t) (through (read_pairs joins s) ∙ ap (made join_positions) (pairs-alike may joins s t a) ∙ sym (through (read_pairs joins t)))

  constants-alike : (s t : Bytes) → Alike may s t → ReadAlike (map (erased_constant may)) (read_constants s) (read_constants t)
  unfolding read_constants
  constants-alike s t a =
      let sorted : List Query.Pair → List Constant = λ xs. by_position (constants_in xs) in
      let through = made-through (map (erased_pair may)) sorted (map (erased_constant may)) sorted (λ xs. sym (constants-read xs)) in
      read_alike (map (erased_constant may)) (read_constants s) (read_constants t) (through (read_pairs constants s) ∙ ap (made sorted) (pairs-alike may constants s t a) ∙ sym (through (read_pairs constants t)))

  -- ---- steps of an outcome

  pub then-alike : {A B : Type 0} (f : A → B) (o p : Reading A) (k l : A → Outcome) → ReadAlike f o p → ((a b : A) → o ≡ reads a → p ≡ reads b → f a ≡ f b → AlikeOutcome may (k a) (l b)) → AlikeOutcome may (then o k) (then p l)
  then-alike f o p k l (reads_alike a b e) h = h a b refl refl e
  then-alike f o p k l (refuses_alike n) h = refused_alike (refusal_number n)

  pub or-alike : {A B : Type 0} (n : ℕ) (f : A → B) (o p : Option A) (k l : A → Outcome) → on_option f o ≡ on_option f p → ((a b : A) → o ≡ some a → p ≡ some b → f a ≡ f b → AlikeOutcome may (k a) (l b)) → AlikeOutcome may (or_refused n o k) (or_refused n p l)
  or-alike n f none none k l e h = refused_alike n
  or-alike n f none (some b) k l e h = let z : ◌≡◌ {A = ℕ} 0 1 = cc in absurd (omega arith)
  or-alike n f (some a) none k l e h = let z : ◌≡◌ {A = ℕ} 0 1 = cc in absurd (omega arith)
  or-alike n f (some a) (some b) k l e h = h a b refl refl (let t : f a ≡ f b = cc in t)

  pub unless-alike : (n : ℕ) (s t : Bool) (o p : Outcome) → s ≡ t → (s ≡ true → AlikeOutcome may o p) → AlikeOutcome may (refused_unless n s o) (refused_unless n t p)
  unless-alike n true true o p e h = h refl
  unless-alike n false false o p e h = refused_alike n
  unless-alike n true false o p e h = let z : ◌≡◌ {A = ℕ} 0 1 = cc in absurd (omega arith)
  unless-alike n false true o p e h = let z : ◌≡◌ {A = ℕ} 0 1 = cc in absurd (omega arith)

  both-branches : (s t : Bool) (o p o' p' : Outcome) → s ≡ t → AlikeOutcome may o o' → AlikeOutcome may p p' → AlikeOutcome may (cond s o p) (cond t o' p')
  both-branches true true o p o' p' e a b = a
  both-branches false false o p o' p' e a b = b
  both-branches true false o p o' p' e a b = let z : ◌≡◌ {A = ℕ} 0 1 = cc in absurd (omega arith)
  both-branches false true o p o' p' e a b = let z : ◌≡◌ {A = ℕ} 0 1 = cc in absurd (omega arith)

  -- two outcomes, told in another way
  pub told-alike : (o o' p p' : Outcome) → o ≡ p → o' ≡ p' → AlikeOutcome may p p' → AlikeOutcome may o o'
  told-alike o o' p p' e e' a = subst (λ (q : Outcome). AlikeOutcome may q o') (sym e) (subst (AlikeOutcome may p) (sym e') a)

  pub roots-alike : (p q : Pattern) → erased_tree may p ≡ erased_tree may q → on_option (erased_projection may) (as_project p) ≡ on_option (erased_projection may) (as_project q)
  roots-alike p q e = sym (root-erased may p) ∙ ap as_project e ∙ root-erased may q

  -- trees and queries as they are given
  tree-step : (s t : Bytes) (k l : Pattern → Outcome) → Alike may s t → ((p q : Pattern) → read_given_tree s ≡ reads p → read_given_tree t ≡ reads q → erased_tree may p ≡ erased_tree may q → AlikeOutcome may (k p) (l q)) → AlikeOutcome may (then (read_given_tree s) k) (then (read_given_tree t) l)
  tree-step s t k l a h = then-alike (erased_tree may) (read_given_tree s) (read_given_tree t) k l (read_alike (erased_tree may) (read_given_tree s) (read_given_tree t) (given-tree-alike may s t a)) h

  pub query-step : (s t : Bytes) (k l : Query → Outcome) → Alike may s t → ((p q : Query) → read_given_query s ≡ reads p → read_given_query t ≡ reads q → erased_query may p ≡ erased_query may q → AlikeOutcome may (k p) (l q)) → AlikeOutcome may (then (read_given_query s) k) (then (read_given_query t) l)
  query-step s t k l a h = then-alike (erased_query may) (read_given_query s) (read_given_query t) k l (read_alike (erased_query may) (read_given_query s) (read_given_query t) (given-query-alike may s t a)) h

  -- ---- what is written

  pub written-tree : (t u : Pattern) → Valid t → Valid u → erased_tree may t ≡ erased_tree may u → AlikeOutcome may (written (layout t)) (written (layout u))
  unfolding layout
  written-tree t u v w e = written_alike (layout t) (layout u) (texts-alike may (put t []) (put u []) (neat t [] v tt) (neat u [] w tt) (put-erased may t [] v ∙ ap (λ (p : Pattern). put p []) e ∙ sym (put-erased may u [] w)))

  query-put : (q : Query) → ValidQuery q → map (erased_line may) (put_query q []) ≡ (bytes "query" ∷ q.kind ∷ q.dataset ∷ q.base ∷ []) ∷ put (erased_tree may q.tree) []
  unfolding put_query ValidQuery erased_line same
  query-put q v = ap (λ (l : List Line). (bytes "query" ∷ q.kind ∷ q.dataset ∷ q.base ∷ []) ∷ l) (put-erased may q.tree [] v.3)

  written-query : (p q : Query) → ValidQuery p → ValidQuery q → erased_query may p ≡ erased_query may q → AlikeOutcome may (written (layout_query p)) (written (layout_query q))
  unfolding layout_query
  written-query p q v w e = written_alike (layout_query p) (layout_query q) (texts-alike may (put_query p []) (put_query q []) (query-neat p [] v tt) (query-neat q [] w tt)
      (query-put p v ∙ ap (λ (r : Query). (bytes "query" ∷ r.kind ∷ r.dataset ∷ r.base ∷ []) ∷ put r.tree []) e ∙ sym (query-put q w)))

  -- ---- two trees

  pub requests-same : (l l' r r' : Projection) (js js' : List Pair) (ks ks' ls ls' : List Constant) → erased_projection may l ≡ erased_projection may l' → erased_projection may r ≡ erased_projection may r' → js ≡ js'
      → map (erased_constant may) ks ≡ map (erased_constant may) ks' → map (erased_constant may) ls ≡ map (erased_constant may) ls'
      → erased_request may (request l r js ks ls) ≡ erased_request may (request l' r' js' ks' ls')
  requests-same l l' r r' js js' ks ks' ls ls' a b c d e = λ i. request (a i) (b i) (c i) (d i) (e i)

  -- trees that are written alike wherever they are the same erased
  unfoldable pub Goes : (Pattern → Outcome) → (Pattern → Outcome) → Type 0
  Goes k k' = (t t' : Pattern) → Valid t → Valid t' → erased_tree may t ≡ erased_tree may t' → AlikeOutcome may (k t) (k' t')

  merged-read : (m : Request) (pairs ks ls : Bytes) → TreeRead m.left → TreeRead m.right → Lists pairs ks ls m → all_inside m ≡ true → none_twice m.joins ≡ true
      → (erased_tree may (merge_project_patterns m) ≡ merge_project_patterns (erased_request may m)) × Valid (merge_project_patterns m)
  merged-read m pairs ks ls l r a i o =
      let x = left-known m pairs ks ls l r a i o in
      let y = right-known m pairs ks ls l r a i o in
      (sym (merged-erased may m x y), merged-valid m x y)

  -- the lists that two texts each are read as, the same erased
  module _ (pairs pairs' ks ks' ls ls' : Bytes) (js js' : List Pair) (cs cs' ds ds' : List Constant) (j : read_joins pairs ≡ reads js) (c : read_constants ks ≡ reads cs) (d : read_constants ls ≡ reads ds) (j' : read_joins pairs' ≡ reads js') (c' : read_constants ks' ≡ reads cs') (d' : read_constants ls' ≡ reads ds') (ej : js ≡ js') (ec : map (erased_constant may) cs ≡ map (erased_constant may) cs') (ed : map (erased_constant may) ds ≡ map (erased_constant may) ds') where
    merge-alike : (p p' q q' : Pattern) (k k' : Pattern → Outcome) → Read p → Read p' → Read q → Read q' → erased_tree may p ≡ erased_tree may p' → erased_tree may q ≡ erased_tree may q'
        → Goes k k' → AlikeOutcome may (merge_trees p q js cs ds k) (merge_trees p' q' js' cs' ds' k')
    unfolding merge_trees Goes
    merge-alike p p' q q' k k' rp rp' rq rq' ep eq go =
        or-alike 4 (erased_projection may) (as_project p) (as_project p') _ _ (roots-alike p p' ep) (λ l l' x x' a.
        or-alike 4 (erased_projection may) (as_project q) (as_project q') _ _ (roots-alike q q' eq) (λ r r' y y' b.
        let m = request l r js cs ds in
        let m' = request l' r' js' cs' ds' in
        let one = requests-same l l' r r' js js' cs cs' ds ds' a b ej ec ed in
        let i : all_inside m ≡ all_inside m' = sym (inside-erased may m) ∙ ap all_inside one ∙ inside-erased may m' in
        unless-alike 3 (all_inside m) (all_inside m') _ _ i (λ h.
        told-alike (merge_sides m k) (merge_sides m' k') _ _ (sides-merged m k) (sides-merged m' k') (unless-alike 10 (none_twice js) (none_twice js') _ _ (ap none_twice ej) (λ o.
        let s = merged-read m pairs ks ls (root-read p l x rp) (root-read q r y rq) (record { joins = j; left_constants = c; right_constants = d }) h o in
        let s' = merged-read m' pairs' ks' ls' (root-read p' l' x' rp') (root-read q' r' y' rq') (record { joins = j'; left_constants = c'; right_constants = d' }) (sym i ∙ h) (sym (ap none_twice ej) ∙ o) in
        go (merge_project_patterns m) (merge_project_patterns m') s.1 s'.1 (s.0 ∙ ap merge_project_patterns one ∙ sym s'.0))))))

  trees-go : Goes (λ t. written (layout t)) (λ t. written (layout t))
  unfolding Goes
  trees-go t t' v v' e = written-tree t t' v v' e

  pub queries-go : (q q' : Query) → ValidQuery q → ValidQuery q' → erased_query may q ≡ erased_query may q' → Goes (λ t. written (layout_query (over q t))) (λ t. written (layout_query (over q' t)))
  unfolding Goes
  queries-go q q' v v' e t t' w w' f = written-query (over q t) (over q' t') (query-of q t v w) (query-of q' t' v' w') (ap₂ over e f)

  -- ---- the merges

  pub heads-alike : (a a' b b' : Query) → erased_query may a ≡ erased_query may a' → erased_query may b ≡ erased_query may b' → mergeable a b ≡ mergeable a' b'
  unfolding mergeable
  heads-alike a a' b b' e f = ap₂ mergeable e f

  module _ (left left' right right' pairs pairs' ks ks' ls ls' : Bytes) (al : Alike may left left') (ar : Alike may right right') (aj : Alike may pairs pairs') (ak : Alike may ks ks') (at : Alike may ls ls') where
    pub patterns-alike : AlikeOutcome may (merge_patterns_outcome left right pairs ks ls) (merge_patterns_outcome left' right' pairs' ks' ls')
    unfolding merge_patterns_outcome
    patterns-alike =
        tree-step left left' _ _ al (λ p p' x x' ep.
        tree-step right right' _ _ ar (λ q q' y y' eq.
        then-alike (λ js. js) (read_joins pairs) (read_joins pairs') _ _ (joins-alike pairs pairs' aj) (λ js js' j j' ej.
        then-alike (map (erased_constant may)) (read_constants ks) (read_constants ks') _ _ (constants-alike ks ks' ak) (λ c c' k k' ek.
        then-alike (map (erased_constant may)) (read_constants ls) (read_constants ls') _ _ (constants-alike ls ls' at) (λ d d' l l' el.
        merge-alike pairs pairs' ks ks' ls ls' js js' c c' d d' j k l j' k' l' ej ek el p p' q q' (λ t. written (layout t)) (λ t. written (layout t))
        (tree-read left p x) (tree-read left' p' x') (tree-read right q y) (tree-read right' q' y') ep eq trees-go)))))

    pub queries-alike : AlikeOutcome may (merge_queries_outcome left right pairs ks ls) (merge_queries_outcome left' right' pairs' ks' ls')
    unfolding merge_queries_outcome
    queries-alike =
        query-step left left' _ _ al (λ p p' x x' ep.
        query-step right right' _ _ ar (λ q q' y y' eq.
        then-alike (λ js. js) (read_joins pairs) (read_joins pairs') _ _ (joins-alike pairs pairs' aj) (λ js js' j j' ej.
        then-alike (map (erased_constant may)) (read_constants ks) (read_constants ks') _ _ (constants-alike ks ks' ak) (λ c c' k k' ek.
        then-alike (map (erased_constant may)) (read_constants ls) (read_constants ls') _ _ (constants-alike ls ls' at) (λ d d' l l' el.
        unless-alike 5 (mergeable p q) (mergeable p' q') _ _ (heads-alike p p' q q' ep eq) (λ h.
        merge-alike pairs pairs' ks ks' ls ls' js js' c c' d d' j k l j' k' l' ej ek el p.tree p'.tree q.tree q'.tree (λ t. written (layout_query (over p t))) (λ t. written (layout_query (over p' t)))
        (query-read left p x) (query-read left' p' x') (query-read right q y) (query-read right' q' y') (ap (λ (r : Query). r.tree) ep) (ap (λ (r : Query). r.tree) eq)
        (queries-go p p' (query-valid left p x) (query-valid left' p' x') ep)))))))

  -- ---- push constants

  module _ (q q' : Query) (ks ks' : List Constant) (v : ValidQuery q) (v' : ValidQuery q') (r : Read q.tree) (r' : Read q'.tree) (g : Good ks) (g' : Good ks') (e : erased_query may q ≡ erased_query may q') (f : map (erased_constant may) ks ≡ map (erased_constant may) ks') where
    pushed-alike : (o o' : Option Projection) → as_project q.tree ≡ o → as_project q'.tree ≡ o' → on_option (erased_projection may) o ≡ on_option (erased_projection may) o' → AlikeOutcome may (pushed q ks o) (pushed q' ks' o')
    unfolding pushed Goes
    pushed-alike none none x y h = written-query q q' v v' e
    pushed-alike none (some b) x y h = let z : ◌≡◌ {A = ℕ} 0 1 = cc in absurd (omega arith)
    pushed-alike (some a) none x y h = let z : ◌≡◌ {A = ℕ} 0 1 = cc in absurd (omega arith)
    pushed-alike (some a) (some b) x y h =
        let s : erased_projection may a ≡ erased_projection may b = cc in
        let c : a.columns ≡ b.columns = ap (λ (p : Projection). p.columns) s in
        let p : positions ks ≡ positions ks' = sym (positions-erased may ks) ∙ ap positions f ∙ positions-erased may ks' in
        let ra = root-read q.tree a x r in
        let rb = root-read q'.tree b y r' in
        let i : inside a.columns (positions ks) ≡ inside b.columns (positions ks') = ap₂ inside c p in
        unless-alike 3 (inside a.columns (positions ks)) (inside b.columns (positions ks')) _ _ i (λ t.
        let t' : inside b.columns (positions ks') ≡ true = sym i ∙ t in
        queries-go q q' v v' e (push_constants_in_project_pattern a ks) (push_constants_in_project_pattern b ks') (pushed-valid a ks ra.valid ra.names t g) (pushed-valid b ks' rb.valid rb.names t' g')
        (sym (push-erased may a ks (push-known a ks ra.valid ra.names t g)) ∙ ap₂ push_constants_in_project_pattern s f ∙ push-erased may b ks' (push-known b ks' rb.valid rb.names t' g')))

  pub push-alike : (query query' ks ks' : Bytes) → Alike may query query' → Alike may ks ks' → AlikeOutcome may (push_constants_outcome query ks) (push_constants_outcome query' ks')
  unfolding push_constants_outcome push_constants
  push-alike query query' ks ks' aq ak =
      query-step query query' _ _ aq (λ p p' x x' ep.
      then-alike (map (erased_constant may)) (read_constants ks) (read_constants ks') _ _ (constants-alike ks ks' ak) (λ c c' k k' ek.
      both-branches (is_select_or_ask p.kind) (is_select_or_ask p'.kind) _ _ _ _ (ap (λ (r : Query). is_select_or_ask r.kind) ep)
      (pushed-alike p p' c c' (query-valid query p x) (query-valid query' p' x') (query-read query p x) (query-read query' p' x') (constants-good ks c k) (constants-good ks' c' k') ep ek (as_project p.tree) (as_project p'.tree) refl refl (roots-alike p.tree p'.tree (ap (λ (r : Query). r.tree) ep)))
      (written-query p p' (query-valid query p x) (query-valid query' p' x') ep)))

  -- ---- negate

  negated-is : (q : Query) → erased_query may (negate_query q) ≡ negate_query (erased_query may q)
  unfolding negate_query
  negated-is q = go (is_select_or_ask q.kind)
    where
      go : (t : Bool) → erased_query may (cond t (over q (negate_project_pattern q.tree)) q) ≡ cond t (over q (negate_project_pattern (erased_tree may q.tree))) (erased_query may q)
      go true = ap (over q) (sym (negate-erased may q.tree))
      go false = refl

  pub negation-alike : (query query' : Bytes) → Alike may query query' → AlikeOutcome may (negate_outcome query) (negate_outcome query')
  unfolding negate_outcome
  negation-alike query query' a =
      query-step query query' _ _ a (λ p p' x x' e.
      written-query (negate_query p) (negate_query p') (negated-valid p (query-valid query p x)) (negated-valid p' (query-valid query' p' x')) (negated-is p ∙ ap negate_query e ∙ sym (negated-is p')))
