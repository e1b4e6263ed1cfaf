-- `joining::queries/merge_queries` meets its contract. Assumes nothing.
use mathlib.Core.Path.{sym}
use mathlib.Core.Bool.{true, false}
use Rattle.answers.proofs.Answers as A
use Rattle.merging.specs.Merge.{merge_queries_outcome}
use Rattle.joining.specs.bridge.Form.{merge_outcome}
use Rattle.joining.proofs.Calls as Calls
use Rattle.joining.proofs.queries.merge_queries.Goals as goal

pub returns : goal.returns
returns c =
    A.answered (merge_outcome false true c.args.left.now c.args.right.now c.args.pairs.now c.args.left_constants.now c.args.right_constants.now) (merge_queries_outcome c.args.left.now c.args.right.now c.args.pairs.now c.args.left_constants.now c.args.right_constants.now) c.args.out.now c.merge_texts.new.out c.merge_texts.result (sym (Calls.of-queries _ _ _ _ _)) c.merge_texts.ensures
