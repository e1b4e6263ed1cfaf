-- A push on bytes: where constants are pushed into a select or ask query whose root is project, each row's count in the answer is a sum of counts before. Assumes nothing.
use mathlib.Core.Path.{◌≡◌, refl, sym, ap, subst, ◌∙◌}
use mathlib.Core.Bool.{Bool, true, cond}
use mathlib.Core.List.{List, []}
use Prim.Native.Nat.{ℕ, ◌≤◌}
use native.Mathlib.Omega.{arith}
use lib.ListN.{length, take}
use Rattle.text.specs.Text.{Bytes}
use Rattle.algebra.specs.Tree.{Triple, Pattern}
use Rattle.algebra.specs.Query.{Query}
use Rattle.algebra.specs.Reader.{reads}
use Rattle.algebra.specs.Layout.{layout}
use Rattle.algebra.specs.Bounded.{layout_query}
use Rattle.algebra.specs.Given.{read_given_query}
use Rattle.algebra.specs.Valid.{Valid}
use Rattle.algebra.proofs.Roomy.{read-any-exactly}
use Rattle.scoping.specs.Label.{prefix_v}
use Rattle.scoping.specs.Numbering.{by_place}
use Rattle.merging.specs.Sides.{Constant, renamed_pattern, free_columns}
use Rattle.scoping.specs.Premises.{inside}
use Rattle.scoping.specs.bridge.Premises.{NamePremises}
use Rattle.demand3.proofs.Fit.{SideFit}
use Rattle.demand3.proofs.Fits.{names_of, side-fit}
use Rattle.counting.specs.Bag.{count}
use Rattle.counting.specs.Row.{Cell, same_row}
use Rattle.counting.specs.Answer.{answer}
use Rattle.answers.specs.Outcome.{written, refused_unless, Reported}
use Rattle.answers.proofs.Numbered.{returned}
use Rattle.merging.specs.Request.{Projection, tree, as_project, read_constants, positions}
use Rattle.merging.specs.Merge.{is_select_or_ask, over}
use Rattle.merging.specs.Push.{only_side, push_constants_in_project_pattern, pushed, push_constants, push_constants_outcome}
use Rattle.merging.specs.Asked.{behind_head}
use Rattle.demand3.specs.Demand3.{Supposed}
use Rattle.merging.proofs.Given.{then-written, test-written}
use Rattle.merging.proofs.Lists.{Good, constants-good}
use Rattle.merging.proofs.Written.{Known}
use Rattle.demand3.proofs.MergedColumns.{agrees, free-by-position}
use Rattle.answers.proofs.Answers.{bytes_of}
use Rattle.merging.proofs.Others.{query-over, given-valid, given-names, push-known, pushed-valid, push-numbered}
use Rattle.demand3.proofs.Once.{read-once}
use Rattle.laws.specs.Pushed.{free_positions, pushed_names, pushed_count, PushCounted}
use Rattle.laws.proofs.Pushed.{push-count}

module _ (x : Projection) (ks : List Constant) (v : Valid (tree x)) (n : length (by_place (tree x)) ≤ 1024) (i : inside x.columns (positions ks) ≡ true) (good : Good ks) where
  known : Known prefix_v x [] ks
  known = push-known x ks v n i good

  module _ (s : Supposed x) where
    names-are : NamePremises x.columns x.inner []
    names-are = names_of prefix_v x [] ks known s

    fit : SideFit (only_side x ks)
    fit = side-fit prefix_v x [] ks known s (λ e. omega arith)

    columns-named : free_columns (only_side x ks) ≡ pushed_names x ks
    unfolding pushed_names free_positions free_columns
    columns-named = free-by-position (only_side x ks).name _ ks x.columns 0 (agrees prefix_v x [] names-are)

    counts-named : (g : List Triple) (row : List Cell) → count same_row row (answer (pushed_names x ks) g (push_constants_in_project_pattern x ks)) ≡ pushed_count x ks g row
    unfolding push_constants_in_project_pattern pushed_count
    counts-named g row =
        ap (λ (cs : List Bytes). count same_row row (answer cs g (push_constants_in_project_pattern x ks))) (sym columns-named)
        ∙ push-count (only_side x ks) fit s.columns_once good.different good.terms g row

  pushed_projection : Projection
  pushed_projection = record { columns = free_columns (only_side x ks); inner = renamed_pattern (only_side x ks) }

  promised : (text : Bytes) → layout (push_constants_in_project_pattern x ks) ≡ text → PushCounted x ks text
  unfolding push_constants_in_project_pattern pushed_projection
  promised text e = record {
    pushed = pushed_projection;
    read = (read-any-exactly text (push_constants_in_project_pattern x ks)).1 (e, pushed-valid x ks v n i good);
    columns = columns-named;
    counts = counts-named;
  }

-- where a push into a select or ask query whose root is project writes bytes, they are the query's head line and those of one tree,
-- and under demand 3's premises of the tree that was read each row stands in its answer as often as the sum says
pub pushed-counts : (query constants b : Bytes) (q : Query) (x : Projection)
    → push_constants_outcome query constants ≡ written b → read_given_query query ≡ reads q → is_select_or_ask q.kind ≡ true → q.tree ≡ tree x
    → (ks : List Constant) × (text : Bytes) × (read_constants constants ≡ reads ks) × (b ≡ behind_head q.kind q.dataset q.base text) × PushCounted x ks text
unfolding push_constants_outcome push_constants pushed
pushed-counts query constants b q x e r k t =
    let y = then-written (read_given_query query) _ b e in
    let z = then-written (read_constants constants) (push_constants y.0) b y.2 in
    let same : y.0 ≡ q = read-once (read_given_query query) y.0 q y.1 r in
    let at : push_constants q z.0 ≡ written b = subst (λ (p : Query). push_constants p z.0 ≡ written b) same z.2 in
    let ks = z.0 in
    let root : refused_unless 3 (inside x.columns (positions ks)) (written (layout_query (over q (push_constants_in_project_pattern x ks)))) ≡ written b =
    sym (ap (λ (c : Bool). cond c (pushed q ks (as_project q.tree)) (written (layout_query q))) k ∙ ap (λ (p : Pattern). pushed q ks (as_project p)) t ∙ refl) ∙ at in
    let i = test-written 3 (inside x.columns (positions ks)) (written (layout_query (over q (push_constants_in_project_pattern x ks)))) b root in
    let v : Valid (tree x) = subst Valid t (given-valid query q r) in
    let n : length (by_place (tree x)) ≤ 1024 = subst (λ (p : Pattern). length (by_place p) ≤ 1024) t (given-names query q r) in (
      ks,
      layout (push_constants_in_project_pattern x ks),
      z.1,
      sym (bytes_of (layout_query (over q (push_constants_in_project_pattern x ks))) b i.1) ∙ query-over q (push_constants_in_project_pattern x ks),
      promised x ks v n i.0 (constants-good constants ks z.1) (layout (push_constants_in_project_pattern x ks)) refl,
    )

-- the same from what a caller sees
pub pushed-returned : (query constants before after : Bytes) (number size : ℕ) (q : Query) (x : Projection)
    → Reported (push_constants_outcome query constants) before after number size → number ≡ 0 → read_given_query query ≡ reads q → is_select_or_ask q.kind ≡ true → q.tree ≡ tree x
    → (size ≤ length before) × (ks : List Constant) × (text : Bytes) × (read_constants constants ≡ reads ks) × (take size after ≡ behind_head q.kind q.dataset q.base text) × PushCounted x ks text
pushed-returned query constants before after number size q x r z e k t =
    let w = returned _ before after number size (push-numbered query constants) r z in
    let c = pushed-counts query constants w.text q x w.is e k t in
    (w.room, c.0, c.1, c.2, w.front ∙ c.3, c.4)
