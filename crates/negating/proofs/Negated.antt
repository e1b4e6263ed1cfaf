-- The call negate, from the place of the inner pattern to the bytes. Assumes nothing.
use Prim.Native.Nat.{ℕ, ◌-◌}
use mathlib.Core.Path.{◌≡◌, refl, sym, ap, ◌∙◌}
use mathlib.Core.Bool.{Bool, true, false, cond, not}
use mathlib.Core.List.{List, [], ◌++◌, append_assoc}
use mathlib.Core.Option.{none}
use native.Mathlib.Omega.{arith}
use lib.ListN.{length, take, drop, length-drop}
use lib.Seq.{take_all}
use borrow.Author.Tests.{not-true, not-false}
use Rattle.text.specs.Text.{Bytes, Line, ended, text_of, part, lines_from}
use Rattle.text.specs.Field.{digits, decimal}
use Rattle.text.proofs.Basics.{either_way}
use Rattle.algebra.specs.Tree.{NOT, Pattern, bgp, filter, exists, apply, eend, econs}
use Rattle.algebra.specs.Query.{Query}
use Rattle.algebra.specs.Layout.{put_triples, put_arity, put, layout}
use Rattle.algebra.specs.Bounded.{layout_query}
use Rattle.algebra.specs.Reader.{reads, refuses, malformed, over_bound}
use Rattle.algebra.specs.Given.{read_given_query}
use Rattle.answers.specs.Outcome.{Answer, written, Reported, Answered}
use Rattle.answers.proofs.Answers.{answered}
use Rattle.merging.specs.Merge.{is_select_or_ask, over}
use Rattle.merging.specs.Negate.{negate_project_pattern, negate_query, negate_outcome}
use Rattle.heads.specs.bridge.TreeAt.{Parts}
use Rattle.heads.proofs.Queries.{over-layout}
use Rattle.heads.proofs.Parts.{parts-text, parts-lines}
use Rattle.text.proofs.Texts.{Ended, neat-ended}
use Rattle.algebra.proofs.Neat.{neat}
use Rattle.negating.specs.bridge.Lines.{from_project, Projects}
use Rattle.negating.specs.bridge.Negated.{not_exists, negated_at}
use Rattle.negating.proofs.Found.{not_found}
use Rattle.negating.proofs.TreeLines.{behind}
use Rattle.negating.proofs.Placed.{placed, not-placed, inner-text, modified-text}
use Rattle.std.specs.Prelude.{Err}
use Rattle.answers.specs.declared.Refusal.TheVariants.{Malformed, OverBound}

-- the new inner pattern's text
not-exists-text : (q : Pattern) (t : List Line) → text_of (put (filter (bgp []) (apply NOT (econs (exists q) eend))) t) ≡ not_exists ++ text_of (put q t)
unfolding put put_triples put_arity text_of ended decimal digits
not-exists-text q t = refl

module _ (head tree : Bytes) (q : Query) (e : Parts head tree q) where
  -- a query that is copied
  copied : negate_query q ≡ q → written (layout_query (negate_query q)) ≡ written (head ++ tree)
  copied h = ap (λ (x : Query). written (layout_query x)) h ∙ ap written (parts-text head tree q e)

  pub other-kind : (b : Bool) → b ≡ is_select_or_ask q.kind → not b ≡ true → written (layout_query (negate_query q)) ≡ written (head ++ tree)
  unfolding negate_query
  other-kind b is h = copied (rw (sym is ∙ not-true b h))

  pub no-projection : from_project (lines_from tree 0) ≡ none → written (layout_query (negate_query q)) ≡ written (head ++ tree)
  unfolding negate_query negate_project_pattern
  no-projection n =
      copied (ap (λ (t : Pattern). cond (is_select_or_ask q.kind) (over q t) q) (not_found _ q.tree (not-placed tree 0 q.tree [] (parts-lines head tree q e) n))
      ∙ either_way (is_select_or_ask q.kind) q)

  module _ (line inner : ℕ) (w : Projects tree 0 line inner) where
    ended-lines : Ended (put q.tree [])
    ended-lines = neat-ended (put q.tree []) (neat q.tree [] e.valid tt)

    negated-layout : layout_query (over q (negate_project_pattern q.tree)) ≡ head ++ negated_at inner tree
    unfolding negate_project_pattern negated_at layout
    negated-layout =
        let l = parts-lines head tree q e in
        let x = placed tree 0 line inner q.tree [] l w in
        over-layout q (negate_project_pattern q.tree)
        ∙ ap (λ (h : Bytes). h ++ layout (negate_project_pattern q.tree)) (sym e.of.text)
        ∙ ap (λ (b : Bytes). head ++ b) (modified-text tree 0 line inner q.tree [] l ended-lines w.high x _)
        ∙ ap (λ (b : Bytes). head ++ (take inner tree ++ b)) (not-exists-text x.projection.inner (behind x.way []))
        ∙ ap (λ (b : Bytes). head ++ (take inner tree ++ (not_exists ++ b))) (sym (inner-text tree 0 line inner q.tree [] l ended-lines w.high x))

    module _ (b : Bool) (is : b ≡ is_select_or_ask q.kind) (yes : not b ≡ false) where
      negated : written (layout_query (negate_query q)) ≡ written (head ++ negated_at inner tree)
      unfolding negate_query
      negated = rw (sym is ∙ not-false b yes) (ap written negated-layout)

      pub negate-answered : (out out' : Bytes) (r : Answer) → Answered (written (head ++ negated_at inner tree)) out out' r → Answered (written (layout_query (negate_query q))) out out' r
      negate-answered out out' r a = answered _ _ out out' r negated a

-- a query that is read
pub negate-read : (s : Bytes) (q : Query) → read_given_query s ≡ reads q → negate_outcome s ≡ written (layout_query (negate_query q))
unfolding negate_outcome
negate-read s q e = rw e

-- a query that is refused
pub negate-malformed : (s out : Bytes) → read_given_query s ≡ refuses malformed → Answered (negate_outcome s) out out (Err Malformed)
unfolding negate_outcome Reported
negate-malformed s out e = rw e (refl, refl, refl)

pub negate-over : (s out : Bytes) → read_given_query s ≡ refuses over_bound → Answered (negate_outcome s) out out (Err OverBound)
unfolding negate_outcome Reported
negate-over s out e = rw e (refl, refl, refl)

-- the head, what stands before the place, the new lines, what stands from it on
pub negated-put : (head s : Bytes) (inner : ℕ) → head ++ take inner s ++ not_exists ++ part inner (length s) s ≡ head ++ negated_at inner s
unfolding negated_at
negated-put head s inner =
    let k : part inner (length s) s ≡ drop inner s = take_all (length s - inner) (drop inner s) (simp length-drop (omega arith)) in
    ap (λ (l : Bytes). head ++ take inner s ++ not_exists ++ l) k
    ∙ append_assoc (head ++ take inner s) not_exists (drop inner s)
    ∙ append_assoc head (take inner s) (not_exists ++ drop inner s)
