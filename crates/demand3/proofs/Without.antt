-- Without on bytes: where it is written, the bytes are a head line and one tree's, whose answer has the left rows that no right row matches. Assumes nothing.
-- The statements cite merging's specs/Without.antt (the outcome) and specs/Asked.antt (what the texts ask for), specs/Demand3.antt (the premises) and specs/Unmatched.antt (the promise).
use Prim.Native.Nat.{ℕ, ◌≤◌}
use mathlib.Core.Path.{◌≡◌, refl, sym, ap, subst, ◌∙◌}
use mathlib.Core.List.{List, []}
use lib.ListN.{length, take}
use Rattle.text.specs.Text.{Bytes}
use Rattle.algebra.specs.Tree.{Triple, Pattern, minus}
use Rattle.algebra.specs.Reader.{reads}
use Rattle.algebra.specs.Given.{read_given_query}
use Rattle.algebra.specs.Query.{Query}
use Rattle.algebra.specs.Layout.{layout}
use Rattle.algebra.specs.Bounded.{layout_query}
use Rattle.algebra.proofs.Roomy.{read-any-exactly}
use Rattle.answers.specs.Outcome.{written, Reported}
use Rattle.answers.proofs.Answers.{bytes_of}
use Rattle.answers.proofs.Numbered.{returned}
use Rattle.scoping.specs.Label.{prefix_l, prefix_r}
use Rattle.counting.specs.Bag.{count}
use Rattle.counting.specs.Row.{Cell, same_row}
use Rattle.counting.specs.Answer.{answer}
use Rattle.merging.specs.Sides.{Pair, bind_constants, renamed_columns, renamed_pattern, lefts, rights}
use Rattle.merging.specs.Request.{Projection, tree, read_joins, Request, left_side, right_side}
use Rattle.merging.specs.Merge.{mergeable, over}
use Rattle.merging.specs.Without.{minus_sides, plain_request, without_queries_outcome}
use Rattle.merging.specs.Asked.{Lists, query_of, Queries, behind_head}
use Rattle.merging.proofs.Given.{then-written, test-written, without-written, head-is}
use Rattle.merging.proofs.Lists.{no-constants}
use Rattle.merging.proofs.Written.{Known, without-valid}
use Rattle.merging.proofs.Others.{query-over}
use Rattle.merging.proofs.TreeRead.{query-read}
use Rattle.merging.proofs.Numbered.{without-numbered}
use Rattle.demand3.specs.Demand3.{Premises}
use Rattle.demand3.specs.Unmatched.{unmatched_count, Unmatched}
use Rattle.demand3.proofs.Fits.{left-names, sides-fit}
use Rattle.demand3.proofs.MergedColumns.{side-names}
use Rattle.merging.proofs.SidesKnown.{left-known, right-known}
use Rattle.demand3.proofs.Once.{read-once, query-once}
use Rattle.demand3.proofs.Minus.{remaining-count}

-- ---- the promise, of two sides that were read

module _ (l r : Projection) (js : List Pair) (a : Known prefix_l l (lefts js) []) (b : Known prefix_r r (rights js) []) where
  abbrev m : Request
  m = plain_request l r js

  remaining_projection : Projection
  remaining_projection = record { columns = renamed_columns (left_side m); inner = minus (renamed_pattern (left_side m)) (renamed_pattern (right_side m)) }

  counts-left : Premises m → (g : List Triple) (row : List Cell) → count same_row row (answer (renamed_columns (left_side m)) g (minus_sides (left_side m) (right_side m))) ≡ unmatched_count m g row
  unfolding minus_sides renamed_pattern bind_constants unmatched_count
  counts-left s g row = remaining-count (left_side m) (right_side m) js (sides-fit m a b s) a.joins-inside b.joins-inside g row

  promised : (text : Bytes) → layout (minus_sides (left_side m) (right_side m)) ≡ text → Unmatched m text
  unfolding minus_sides remaining_projection
  promised text e = record {
    remaining = remaining_projection;
    read = (read-any-exactly text (minus_sides (left_side m) (right_side m))).1 (e, without-valid m a b);
    columns = λ s. side-names prefix_l l (lefts js) (left-names m a b s);
    counts = counts-left;
  }

-- ---- the call

-- where without writes bytes, they are a head line and those of one tree, and under demand 3's premises each row stands in its answer as often as it has to
pub without-queries-counts : (left right pairs b : Bytes)
    → without_queries_outcome left right pairs ≡ written b
    → (l r : Projection) × (js : List Pair) × (kind dataset base text : Bytes) × Queries left right kind dataset base (plain_request l r js) × (read_joins pairs ≡ reads js)
    × (b ≡ behind_head kind dataset base text) × Unmatched (plain_request l r js) text
unfolding without_queries_outcome
without-queries-counts left right pairs b e =
    let x = then-written (read_given_query left) _ b e in
    let y = then-written (read_given_query right) _ b x.2 in
    let z = then-written (read_joins pairs) _ b y.2 in
    let h = test-written 5 (mergeable x.0 y.0) _ b z.2 in
    let q : Query = x.0 in
    let js = z.0 in
    let w = without-written q.tree y.0.tree js (λ t. written (layout_query (over q t))) b h.1 in
    let l = w.left in
    let r = w.right in
    let m = plain_request l r js in
    let lq : read_given_query left ≡ reads (query_of q.kind q.dataset q.base (tree l)) = x.1 ∙ ap (λ (p : Pattern). reads (over q p)) w.left_is in
    let rq : read_given_query right ≡ reads (query_of q.kind q.dataset q.base (tree r)) = y.1 ∙ ap reads (head-is q y.0 h.0) ∙ ap (λ (p : Pattern). reads (over q p)) w.right_is in
    let ls : Lists pairs [] [] m = record { joins = z.1; left_constants = no-constants; right_constants = no-constants } in
    let lr = query-read left q.kind q.dataset q.base l lq in
    let rr = query-read right q.kind q.dataset q.base r rq in (
      l,
      r,
      js,
      q.kind,
      q.dataset,
      q.base,
      layout (minus_sides (left_side m) (right_side m)),
      record { left_query = lq; right_query = rq },
      z.1,
      sym (bytes_of (layout_query (over q (minus_sides (left_side m) (right_side m)))) b w.gives) ∙ query-over q (minus_sides (left_side m) (right_side m)),
      promised l r js (left-known m pairs [] [] lr rr ls w.all-inside w.none-twice) (right-known m pairs [] [] lr rr ls w.all-inside w.none-twice) (layout (minus_sides (left_side m) (right_side m))) refl,
    )

-- the same for the trees and the list that the texts are read as
pub without-queries-counts-read : (left right pairs b kind dataset base : Bytes) (l r : Projection) (js : List Pair)
    → Queries left right kind dataset base (plain_request l r js) → read_joins pairs ≡ reads js → without_queries_outcome left right pairs ≡ written b
    → (text : Bytes) × (b ≡ behind_head kind dataset base text) × Unmatched (plain_request l r js) text
without-queries-counts-read left right pairs b kind dataset base l r js q j e =
    let x = without-queries-counts left right pairs b e in
    let a = query-once x.3 x.4 x.5 kind dataset base x.0 l (read-once (read_given_query left) _ _ x.7.left_query q.left_query) in
    let c = query-once x.3 x.4 x.5 kind dataset base x.1 r (read-once (read_given_query right) _ _ x.7.right_query q.right_query) in
    let i = read-once (read_joins pairs) x.2 js x.8 j in
    let m : plain_request x.0 x.1 x.2 ≡ plain_request l r js = λ k. plain_request (a.trees k) (c.trees k) (i k) in
    (x.6, x.9 ∙ (λ k. behind_head (a.kinds k) (a.datasets k) (a.bases k) x.6), subst (λ (n : Request). Unmatched n x.6) m x.10)

-- from what a caller sees: a without that returned 0 has in its first `size` bytes a text of which this holds; `Reported` is what the call's contract says
pub without-queries-returned : (left right pairs before after : Bytes) (number size : ℕ) → Reported (without_queries_outcome left right pairs) before after number size → number ≡ 0
    → (size ≤ length before) × (l r : Projection) × (js : List Pair) × (kind dataset base text : Bytes) × Queries left right kind dataset base (plain_request l r js) × (read_joins pairs ≡ reads js)
    × (take size after ≡ behind_head kind dataset base text) × Unmatched (plain_request l r js) text
without-queries-returned left right pairs before after number size r e =
    let w = returned _ before after number size (without-numbered left right pairs) r e in
    let c = without-queries-counts left right pairs w.text w.is in
    (w.room, c.0, c.1, c.2, c.3, c.4, c.5, c.6, c.7, c.8, w.front ∙ c.9, c.10)
