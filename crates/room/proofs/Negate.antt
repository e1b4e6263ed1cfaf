-- What negate needs: four lines more than its query. Assumes nothing.
use Prim.Native.Nat.{◌+◌, ◌≤◌}
use mathlib.Core.Bool.{Bool, true, false, cond}
use mathlib.Core.List.{[]}
use native.Mathlib.Omega.{arith}
use lib.ListN.{length}
use Rattle.text.specs.Text.{Bytes}
use Rattle.text.specs.Field.{decimal, digits}
use Rattle.algebra.specs.Tree.{NOT, Pattern, bgp, filter, exists, apply, eend, econs}
use Rattle.algebra.specs.Query.{Query}
use Rattle.algebra.specs.Layout.{put, put_triples, put_arity}
use Rattle.algebra.specs.Bounded.{layout_query}
use Rattle.algebra.specs.Given.{read_given_query}
use Rattle.algebra.specs.Valid.{Valid}
use Rattle.algebra.proofs.Given.{query-given}
use Rattle.answers.specs.Outcome.{written}
use Rattle.merging.specs.Merge.{is_select_or_ask, over}
use Rattle.merging.specs.Negate.{negate_project_pattern, negate_query, negate_outcome}
use Rattle.merging.proofs.Others.{given-valid}
use Rattle.room.specs.Room.{negate_room}
use Rattle.room.proofs.Enough.{Enough, then-enough}
use Rattle.walking.proofs.Sizes.{width, size, query-size}
use Rattle.room.proofs.Modified.{modified-size}

negated_size : (p : Pattern) → Valid p → size (put (negate_project_pattern p) []) ≤ size (put p []) + 24
unfolding negate_project_pattern put put_triples put_arity decimal digits size width
negated_size p v = modified-size (λ cs q. filter (bgp []) (apply NOT (econs (exists q) eend))) 24 (λ cs q t h. omega arith) p [] v

negated : (q : Query) → Valid q.tree → length (layout_query (negate_query q)) ≤ length (layout_query q) + 24
unfolding negate_query
negated q v = go (is_select_or_ask q.kind)
  where
    go : (t : Bool) → length (layout_query (cond t (over q (negate_project_pattern q.tree)) q)) ≤ length (layout_query q) + 24
    go true = omega (arith, query-size q, query-size (over q (negate_project_pattern q.tree)), negated_size q.tree v)
    go false = omega arith

pub negate-enough : (query : Bytes) → Enough (negate_room (length query)) (negate_outcome query)
unfolding negate_outcome negate_room Enough
negate-enough query = then-enough (negate_room (length query)) (read_given_query query) (λ q. written (layout_query (negate_query q))) λ q e.
    omega (arith, negated q (given-valid query q e), (query-given query q e).size)
