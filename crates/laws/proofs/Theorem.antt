-- The laws of renaming twice, of a merge with its sides swapped, of rows after a push and of literals changed, for all texts. Assumes nothing.
use Prim.Native.Nat.{ℕ, ◌≤◌}
use mathlib.Core.Path.{◌≡◌, refl}
use mathlib.Core.Bool.{Bool, true}
use mathlib.Core.List.{List, ◌++◌, map}
use lib.ListN.{length, take}
use Rattle.text.specs.Text.{Bytes}
use Rattle.algebra.specs.Tree.{Pattern}
use Rattle.algebra.specs.Tally.{bounds}
use Rattle.algebra.specs.Query as Lines
use Rattle.algebra.specs.Query.{Query, mapping}
use Rattle.algebra.specs.Reader.{reads, number-of}
use Rattle.algebra.specs.Bounded.{layout_pairs}
use Rattle.algebra.specs.Texts.{read_tree, read_any_tree, read_pairs}
use Rattle.algebra.specs.Given.{read_given_query}
use Rattle.scoping.specs.Label.{prefix_l, prefix_r}
use Rattle.scoping.specs.Numbering.{by_place}
use Rattle.answers.specs.Outcome.{Outcome, written, Reported}
use Rattle.renaming.specs.Rename.{becomes, rename_outcome}
use Rattle.merging.specs.Sides.{Pair, Constant, lefts, rights}
use Rattle.merging.specs.Request.{Projection, tree, read_joins, read_constants, Request}
use Rattle.merging.specs.Merge.{merge_patterns_outcome, is_select_or_ask, merge_queries_outcome}
use Rattle.merging.specs.Push.{push_constants_outcome}
use Rattle.merging.specs.Negate.{negate_outcome}
use Rattle.merging.specs.Without.{without_queries_outcome}
use Rattle.merging.specs.Asked.{Trees, Lists, Queries, behind_head}
use Rattle.demand3.specs.Names.{column_name, merged_names}
use Rattle.laws.specs.Composed.{composed}
use Rattle.laws.specs.Swapped.{turned, left_shown, right_shown, SwapCounted}
use Rattle.laws.specs.Pushed.{PushCounted}
use Rattle.laws.specs.Alike.{Alike, AlikeOutcome}
use Rattle.laws.proofs.Through.{through-both, composed-once}
use Rattle.laws.proofs.Middle.{middle-good}
use Rattle.laws.proofs.SwapBytes.{patterns-swapped, queries-swapped}
use Rattle.laws.proofs.Push.{pushed-counts, pushed-returned}
use Rattle.laws.proofs.AlikeCalls.{patterns-alike, queries-alike, push-alike, negation-alike}
use Rattle.laws.proofs.AlikeWithout.{without-alike}
use Rattle.laws.proofs.AlikeReported.{alike-reported}

-- ---- renaming by one mapping and then by another

-- where the middle text is within the bounds, every mapping that takes each name where the two take it gives the same outcome, the same bytes
pub rename-through : (tree first second third middle : Bytes) (xs ys zs : List Lines.Pair)
    → read_pairs mapping first ≡ reads xs → read_pairs mapping second ≡ reads ys → read_pairs mapping third ≡ reads zs → ((v : Bytes) → becomes zs v ≡ becomes ys (becomes xs v))
    → rename_outcome tree first ≡ written middle → number-of (read_tree middle) ≡ 0
    → rename_outcome middle second ≡ rename_outcome tree third
rename-through = through-both

-- the composed list is such a mapping, where its text is within the bounds
pub rename-composed : (tree first second middle : Bytes) (xs ys : List Lines.Pair)
    → read_pairs mapping first ≡ reads xs → read_pairs mapping second ≡ reads ys
    → rename_outcome tree first ≡ written middle → number-of (read_tree middle) ≡ 0
    → length (composed xs ys) ≤ bounds.entries → length (layout_pairs (composed xs ys)) ≤ 16384
    → rename_outcome middle second ≡ rename_outcome tree (layout_pairs (composed xs ys))
rename-composed = composed-once

-- a middle text is within the bounds where its bytes and its variables are
pub middle-reads : (tree first middle : Bytes) (q : Pattern)
    → rename_outcome tree first ≡ written middle → read_any_tree middle ≡ reads q
    → length middle ≤ 16384 → length (by_place q) ≤ 1024
    → number-of (read_tree middle) ≡ 0
middle-reads = middle-good

-- ---- a merge with its sides swapped: where the one is written so is the other, and rows count the same

-- the positions shown are those of the columns that demand 3 names, in their order
pub columns-shown : (m : Request) → merged_names m ≡ map (column_name prefix_l m.left (lefts m.joins)) (left_shown m) ++ map (column_name prefix_r m.right (rights m.joins)) (right_shown m)
unfolding merged_names left_shown right_shown
columns-shown m = refl

-- for trees
pub swap-patterns-counts : (left right pairs pairs' leftConstants rightConstants b : Bytes) (js : List Pair)
    → merge_patterns_outcome left right pairs leftConstants rightConstants ≡ written b → read_joins pairs ≡ reads js → read_joins pairs' ≡ reads (map turned js)
    → (m : Request) × (b' : Bytes) × Trees left right m × Lists pairs leftConstants rightConstants m
    × (merge_patterns_outcome right left pairs' rightConstants leftConstants ≡ written b') × SwapCounted m b b'
swap-patterns-counts = patterns-swapped

-- for queries: both texts stand behind one head line
pub swap-queries-counts : (left right pairs pairs' leftConstants rightConstants b : Bytes) (js : List Pair)
    → merge_queries_outcome left right pairs leftConstants rightConstants ≡ written b → read_joins pairs ≡ reads js → read_joins pairs' ≡ reads (map turned js)
    → (m : Request) × (kind dataset base text b' text' : Bytes) × Queries left right kind dataset base m × Lists pairs leftConstants rightConstants m
    × (b ≡ behind_head kind dataset base text) × (merge_queries_outcome right left pairs' rightConstants leftConstants ≡ written b') × (b' ≡ behind_head kind dataset base text') × SwapCounted m text text'
swap-queries-counts = queries-swapped

-- ---- rows after constants were pushed into a select or ask query whose root is project

pub push-counts : (query constants b : Bytes) (q : Query) (x : Projection)
    → push_constants_outcome query constants ≡ written b → read_given_query query ≡ reads q → is_select_or_ask q.kind ≡ true → q.tree ≡ tree x
    → (ks : List Constant) × (text : Bytes) × (read_constants constants ≡ reads ks) × (b ≡ behind_head q.kind q.dataset q.base text) × PushCounted x ks text
push-counts = pushed-counts

-- from what a caller sees: a push that returned 0
pub push-returned : (query constants before after : Bytes) (number size : ℕ) (q : Query) (x : Projection)
    → Reported (push_constants_outcome query constants) before after number size → number ≡ 0 → read_given_query query ≡ reads q → is_select_or_ask q.kind ≡ true → q.tree ≡ tree x
    → (size ≤ length before) × (ks : List Constant) × (text : Bytes) × (read_constants constants ≡ reads ks) × (take size after ≡ behind_head q.kind q.dataset q.base text) × PushCounted x ks text
push-returned = pushed-returned

-- ---- texts that differ only inside literals that may be changed: one refusal, or answers of one length that differ only inside such literals

pub merge-patterns-alike : (may : Bytes → Bool) (left left' right right' pairs pairs' ks ks' ls ls' : Bytes)
    → Alike may left left' → Alike may right right' → Alike may pairs pairs' → Alike may ks ks' → Alike may ls ls'
    → AlikeOutcome may (merge_patterns_outcome left right pairs ks ls) (merge_patterns_outcome left' right' pairs' ks' ls')
merge-patterns-alike = patterns-alike

pub merge-queries-alike : (may : Bytes → Bool) (left left' right right' pairs pairs' ks ks' ls ls' : Bytes)
    → Alike may left left' → Alike may right right' → Alike may pairs pairs' → Alike may ks ks' → Alike may ls ls'
    → AlikeOutcome may (merge_queries_outcome left right pairs ks ls) (merge_queries_outcome left' right' pairs' ks' ls')
merge-queries-alike = queries-alike

pub push-constants-alike : (may : Bytes → Bool) (query query' ks ks' : Bytes) → Alike may query query' → Alike may ks ks'
    → AlikeOutcome may (push_constants_outcome query ks) (push_constants_outcome query' ks')
push-constants-alike = push-alike

pub negate-alike : (may : Bytes → Bool) (query query' : Bytes) → Alike may query query' → AlikeOutcome may (negate_outcome query) (negate_outcome query')
negate-alike = negation-alike

pub without-queries-alike : (may : Bytes → Bool) (left left' right right' pairs pairs' : Bytes) → Alike may left left' → Alike may right right' → Alike may pairs pairs'
    → AlikeOutcome may (without_queries_outcome left right pairs) (without_queries_outcome left' right' pairs')
without-queries-alike = without-alike

-- from what a caller sees: two calls with such outcomes and buffers of one length return one number and one size, and the bytes in front are alike
pub reported-alike : (may : Bytes → Bool) (o o' : Outcome) (before after before' after' : Bytes) (number size number' size' : ℕ)
    → AlikeOutcome may o o' → length before ≡ length before' → Reported o before after number size → Reported o' before' after' number' size'
    → (number ≡ number') × (size ≡ size') × Alike may (take size after) (take size' after')
reported-alike = alike-reported
