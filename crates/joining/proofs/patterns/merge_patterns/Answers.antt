-- `joining::patterns/merge_patterns` meets its contract. Assumes nothing.
use mathlib.Core.Path.{sym}
use mathlib.Core.Bool.{false}
use Rattle.answers.proofs.Answers as A
use Rattle.merging.specs.Merge.{merge_patterns_outcome}
use Rattle.joining.specs.bridge.Form.{merge_outcome}
use Rattle.joining.proofs.Calls as Calls
use Rattle.joining.proofs.patterns.merge_patterns.Goals as goal

pub returns : goal.returns
returns c =
    A.answered (merge_outcome false false c.args.left.now c.args.right.now c.args.pairs.now c.args.left_constants.now c.args.right_constants.now) (merge_patterns_outcome c.args.left.now c.args.right.now c.args.pairs.now c.args.left_constants.now c.args.right_constants.now) c.args.out.now c.merge_texts.new.out c.merge_texts.result (sym (Calls.of-trees _ _ _ _ _)) c.merge_texts.ensures
