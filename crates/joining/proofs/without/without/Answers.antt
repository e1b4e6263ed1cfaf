-- `joining::without/without` meets its contract. Assumes nothing.
use mathlib.Core.Path.{sym}
use mathlib.Core.List.{[]}
use mathlib.Core.Bool.{true}
use Rattle.answers.proofs.Answers as A
use Rattle.merging.specs.Without.{without_queries_outcome}
use Rattle.joining.specs.bridge.Form.{merge_outcome}
use Rattle.joining.proofs.Calls as Calls
use Rattle.joining.proofs.without.without.Goals as goal

pub returns : goal.returns
returns c =
    A.answered (merge_outcome true true c.args.left.now c.args.right.now c.args.pairs.now [] []) (without_queries_outcome c.args.left.now c.args.right.now c.args.pairs.now) c.args.out.now c.merge_texts.new.out c.merge_texts.result (sym (Calls.of-less _ _ _)) c.merge_texts.ensures
