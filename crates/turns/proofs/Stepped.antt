-- The steps of a report that is written, one after the other: each is counted, and what it makes is read again as itself. Assumes nothing.
use mathlib.Core.Path.{◌≡◌, refl, sym, ap, subst, ◌∙◌}
use mathlib.Core.List.{List, [], ◌∷◌}
use Prim.Native.Nat.{ℕ, ◌≤◌}
use native.Mathlib.Omega.{arith}
use lib.ListN.{length}
use Rattle.text.specs.Text.{Bytes, text_of}
use Rattle.text.proofs.Texts.{lines-back}
use Rattle.algebra.specs.Tree.{Pattern}
use Rattle.algebra.specs.Query.{Query}
use Rattle.algebra.specs.Reader.{Outcome as Reading, reads, refuses}
use Rattle.algebra.specs.Layout.{put, layout, put_query}
use Rattle.algebra.specs.Bounded.{layout_query}
use Rattle.algebra.specs.Texts.{read_any_tree}
use Rattle.algebra.specs.Given.{query_lines, read_given_query}
use Rattle.algebra.specs.Valid.{Valid, ValidQuery}
use Rattle.algebra.proofs.Neat.{query-neat}
use Rattle.algebra.proofs.Roomy.{read-any-exactly, layout-injective}
use Rattle.algebra.proofs.Given.{query-given}
use Rattle.answers.specs.Outcome.{Outcome, written}
use Rattle.scoping.specs.Numbering.{by_place}
use Rattle.merging.specs.Request.{Projection, tree, Request, request}
use Rattle.merging.specs.Merge.{merge_project_patterns, mergeable, over}
use Rattle.merging.specs.Asked.{Lists, behind_head}
use Rattle.demand3.specs.Demand3.{Counted}
use Rattle.merging.proofs.Given.{test-written, merge-written}
use Rattle.merging.proofs.TreeRead.{TreeRead}
use Rattle.merging.proofs.SidesKnown.{left-known, right-known}
use Rattle.demand3.proofs.Promise.{all-promised}
use Rattle.merging.proofs.Written.{merged-valid}
use Rattle.answers.proofs.Answers.{bytes_of}
use Rattle.merging.proofs.Others.{query-over, given-names}
use Rattle.turns.proofs.Inherit.{merged-supposed}
use Rattle.reporting.specs.Report.{StepTexts, Step, merge_step, merge_steps}
use Rattle.reporting.specs.Steps.{StepRead, StepsRead}
use Rattle.turns.specs.Told.{Told, InTurn}

-- ---- what is known of a query that was read

pub record Known (q : Query) : Type 0 where
  pub valid : ValidQuery q
  pub names : length (by_place q.tree) ≤ 1024

pub known-given : (s : Bytes) (q : Query) → read_given_query s ≡ reads q → Known q
known-given s q e = record { valid = (query-given s q e).valid; names = given-names s q e }

tree-known : (q : Query) (x : Projection) → Known q → q.tree ≡ tree x → TreeRead x
unfolding ValidQuery
tree-known q x k e = record { valid = subst Valid e k.valid.3; names = subst (λ (p : Pattern). length (by_place p) ≤ 1024) e k.names }

one-reading : {A : Type 0} (o : Reading A) (a b : A) → o ≡ reads a → o ≡ reads b → a ≡ b
one-reading o a b p q = cc

record HeadsOf (s r : Query) : Type 0 where
  kinds : s.kind ≡ r.kind
  datasets : s.dataset ≡ r.dataset
  bases : s.base ≡ r.base
  trees : put s.tree [] ≡ put r.tree []

heads-of : (s r : Query) → put_query s [] ≡ put_query r [] → HeadsOf s r
unfolding put_query
heads-of s r e = record { kinds = cc; datasets = cc; bases = cc; trees = cc }

-- a well formed query over a project, whose text is read again, is itself
project-lines : (q : Query) (x : Projection) → query_lines (put_query (over q (tree x)) []) ≡ put_query (over q (tree x)) []
unfolding put_query put
project-lines q x = refl

again-itself : (q : Query) (x : Projection) (s : Query) → ValidQuery (over q (tree x)) → read_given_query (layout_query (over q (tree x))) ≡ reads s → s ≡ over q (tree x)
unfolding layout_query ValidQuery layout
again-itself q x s v e =
    let r = over q (tree x) in
    let g = query-given (layout_query r) s e in
    let h = heads-of s r (g.lines ∙ ap query_lines (lines-back (put_query r []) (query-neat r [] v tt)) ∙ project-lines q x) in
    let t = layout-injective s.tree r.tree g.valid.3 v.3 (ap text_of h.trees) in
    λ i. record { kind = h.kinds i; dataset = h.datasets i; base = h.bases i; tree = t i }

-- ---- one step

record Stepped (q : Query) (s : Step) (k : Query → Outcome) (b : Bytes) : Type 0 where
  left : Projection
  right : Projection
  left_is : q.tree ≡ tree left
  right_is : s.query.tree ≡ tree right
  made : Projection
  made-is : tree made ≡ merge_project_patterns (request left right s.joins s.left_constants s.right_constants)
  valid : Valid (tree made)
  told : Told (request left right s.joins s.left_constants s.right_constants) made
  gives : k (over q (tree made)) ≡ written b

stepped : (q : Query) (t : StepTexts) (s : Step) (k : Query → Outcome) (b : Bytes) → Known q → StepRead t s → merge_step q s k ≡ written b → Stepped q s k b
unfolding merge_step
stepped q t s k b known read e =
    let h = test-written 5 (mergeable q s.query) _ b e in
    let w = merge-written q.tree s.query.tree s.joins s.left_constants s.right_constants (λ p. k (over q p)) b h.1 in
    let m : Request = request w.left w.right s.joins s.left_constants s.right_constants in
    let ls : Lists t.joins t.left_constants t.right_constants m = record { joins = read.joins; left_constants = read.left_constants; right_constants = read.right_constants } in
    let x : TreeRead w.left = tree-known q w.left known w.left_is in
    let y : TreeRead w.right = tree-known s.query w.right (known-given t.query s.query read.query) w.right_is in
    let kl = left-known m t.joins t.left_constants t.right_constants x y ls w.all-inside w.none-twice in
    let kr = right-known m t.joins t.left_constants t.right_constants x y ls w.all-inside w.none-twice in
    let c : Counted m (layout (merge_project_patterns m)) = all-promised m t.joins t.left_constants t.right_constants x y ls w.all-inside w.none-twice (layout (merge_project_patterns m)) refl in
    let v : Valid (merge_project_patterns m) = merged-valid m kl kr in
    let i : tree c.merged ≡ merge_project_patterns m = one-reading (read_any_tree (layout (merge_project_patterns m))) (tree c.merged) (merge_project_patterns m) c.read ((read-any-exactly (layout (merge_project_patterns m)) (merge_project_patterns m)).1 (refl, v)) in
    record {
      left = w.left;
      right = w.right;
      left_is = w.left_is;
      right_is = w.right_is;
      made = c.merged;
      made-is = i;
      valid = subst Valid (sym i) v;
      told = record {
        made = i;
        columns = c.columns;
        counts = c.counts;
        supposed = λ p. merged-supposed m kl kr p c.merged i;
      };
      gives = ap (λ (z : Pattern). k (over q z)) i ∙ w.gives;
    }

-- ---- the steps in turn

-- a report that is written has read its left query
left-read : (left : Reading Query) (s : Step) (ss : List Step) (b : Bytes) → merge_steps left (s ∷ ss) ≡ written b → (q : Query) × (left ≡ reads q) × (merge_steps (reads q) (s ∷ ss) ≡ written b)
unfolding merge_steps
left-read (reads q) s ss b e = (q, refl, e)
left-read (refuses n) s [] b e = let z : ◌≡◌ {A = ℕ} 0 1 = cc in absurd (omega arith)
left-read (refuses n) s (t ∷ ts) b e = let z : ◌≡◌ {A = ℕ} 0 1 = cc in absurd (omega arith)

same-projection : (x y : Projection) → tree x ≡ tree y → x ≡ y
same-projection x y e =
    let c : x.columns ≡ y.columns = cc in
    let d : x.inner ≡ y.inner = cc in
    λ i. record { columns = c i; inner = d i }

pub nothing_read : (s : StepTexts) (rest : List StepTexts) → StepsRead (s ∷ rest) [] → ⊥
unfolding StepsRead
nothing_read s rest r = r

-- from one projection to another, behind the first query's head
pub record Went (q : Query) (ss : List Step) (b : Bytes) : Type 0 where
  pub first : Projection
  pub last : Projection
  pub text : Bytes
  pub first-is : q.tree ≡ tree first
  pub head : b ≡ behind_head q.kind q.dataset q.base text
  pub read : read_any_tree text ≡ reads (tree last)
  pub in_turn : InTurn first ss last

pub went : (ts : List StepTexts) (s : Step) (ss : List Step) (q : Query) (b : Bytes) → Known q → StepsRead ts (s ∷ ss) → merge_steps (reads q) (s ∷ ss) ≡ written b → Went q (s ∷ ss) b
unfolding merge_steps StepsRead InTurn ValidQuery
went [] s ss q b known read e = absurd read
went (t ∷ ts) s [] q b known read e =
    let x = stepped q t s (λ r. written (layout_query r)) b known read.0 e in
    record {
      first = x.left;
      last = x.made;
      text = layout (tree x.made);
      first-is = x.left_is;
      head = sym (bytes_of (layout_query (over q (tree x.made))) b x.gives) ∙ query-over q (tree x.made);
      read = (read-any-exactly (layout (tree x.made)) (tree x.made)).1 (refl, x.valid);
      in_turn = (x.right, x.made, x.right_is, x.told, refl);
    }
went (t ∷ ts) s (u ∷ us) q b known read e =
    let x = stepped q t s (λ r. merge_steps (read_given_query (layout_query r)) (u ∷ us)) b known read.0 e in
    let r : Query = over q (tree x.made) in
    let y = left-read (read_given_query (layout_query r)) u us b x.gives in
    let v : ValidQuery r = (known.valid.0, known.valid.1, known.valid.2, x.valid) in
    let i : y.0 ≡ r = again-itself q x.made y.0 v y.1 in
    let k : Known r = record { valid = v; names = subst (λ (z : Query). length (by_place z.tree) ≤ 1024) i (given-names (layout_query r) y.0 y.1) } in
    let z : Went r (u ∷ us) b = went ts u us r b k read.1 (subst (λ (z : Query). merge_steps (reads z) (u ∷ us) ≡ written b) i y.2) in
    record {
      first = x.left;
      last = z.last;
      text = z.text;
      first-is = x.left_is;
      head = z.head;
      read = z.read;
      in_turn = (x.right, x.made, x.right_is, x.told, subst (λ (p : Projection). InTurn p (u ∷ us) z.last) (sym (same-projection x.made z.first z.first-is)) z.in_turn);
    }
