-- What push constants needs: three times its query, and the constants. Assumes nothing.
use Prim.Native.Nat.{◌+◌, ◌*◌, ◌≤◌}
use mathlib.Core.Path.{◌≡◌, refl, ap}
use mathlib.Core.Bool.{Bool, true, false, cond}
use mathlib.Core.List.{List, []}
use mathlib.Core.Option.{Option, none, some}
use native.Mathlib.Omega.{arith}
use lib.ListN.{length}
use Rattle.text.specs.Text.{Bytes}
use Rattle.algebra.specs.Tree.{Pattern}
use Rattle.algebra.specs.Query.{Query}
use Rattle.algebra.specs.Layout.{put}
use Rattle.algebra.specs.Reader.{reads}
use Rattle.algebra.specs.Bounded.{layout_query}
use Rattle.algebra.specs.Given.{read_given_query}
use Rattle.algebra.proofs.Given.{query-given}
use Rattle.answers.specs.Outcome.{written}
use Rattle.scoping.specs.Label.{prefix_v}
use Rattle.scoping.specs.Premises.{inside}
use Rattle.merging.specs.Sides.{Constant}
use Rattle.merging.specs.Request.{Projection, tree, as_project, read_constants, positions}
use Rattle.merging.specs.Merge.{is_select_or_ask, over}
use Rattle.merging.specs.Push.{push_constants_in_project_pattern, pushed, push_constants, push_constants_outcome}
use Rattle.merging.proofs.Given.{project-of}
use Rattle.merging.proofs.TreeRead.{TreeRead}
use Rattle.room.specs.Room.{push_room}
use Rattle.room.proofs.Enough.{Enough, then-enough, test-enough}
use Rattle.walking.proofs.Sizes.{width, size, query-size}
use Rattle.room.proofs.Side.{side-size}
use Rattle.room.proofs.Merge.{query-tree}

pushed-size : (x : Projection) (ks : List Constant) (s : Bytes) → TreeRead x → read_constants s ≡ reads ks → inside x.columns (positions ks) ≡ true → size (put (push_constants_in_project_pattern x ks) []) ≤ 3 * size (put (tree x) []) + length s
unfolding push_constants_in_project_pattern put size width
pushed-size x ks s a e i = omega (arith, side-size prefix_v x [] ks s a.valid a.names (omega arith) e i)

module _ (query constants : Bytes) (q : Query) (ks : List Constant) (read : read_given_query query ≡ reads q) (listed : read_constants constants ≡ reads ks) where
  -- a query that is copied
  copied-enough : Enough (push_room (length query) (length constants)) (written (layout_query q))
  unfolding push_room Enough
  copied-enough = omega (arith, (query-given query q read).size)

  root-enough : (o : Option Projection) → as_project q.tree ≡ o → Enough (push_room (length query) (length constants)) (pushed q ks o)
  unfolding pushed push_room Enough
  root-enough none e = copied-enough
  root-enough (some x) e = test-enough (push_room (length query) (length constants)) 3 (inside x.columns (positions ks)) (written (layout_query (over q (push_constants_in_project_pattern x ks)))) (λ z. omega arith) λ i.
      let t = project-of q.tree x e in
      omega (arith, pushed-size x ks constants (query-tree query q x read t) listed i, query-size (over q (push_constants_in_project_pattern x ks)), query-size q, ap (λ (p : Pattern). size (put p [])) t, (query-given query q read).size)

  kind-enough : (t : Bool) → Enough (push_room (length query) (length constants)) (cond t (pushed q ks (as_project q.tree)) (written (layout_query q)))
  kind-enough true = root-enough (as_project q.tree) refl
  kind-enough false = copied-enough

pub push-enough : (query constants : Bytes) → Enough (push_room (length query) (length constants)) (push_constants_outcome query constants)
unfolding push_constants_outcome push_constants
push-enough query constants =
    let room = push_room (length query) (length constants) in
    then-enough room (read_given_query query) _ λ q e. then-enough room (read_constants constants) _ λ ks h. kind-enough query constants q ks e h (is_select_or_ask q.kind)
