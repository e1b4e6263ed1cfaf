-- `checking::check/check_from` meets its contract. Assumes nothing.
use mathlib.Core.Path.{sym, ◌∙◌, ap}
use mathlib.Core.List.{[], ◌∷◌}
use Rattle.algebra.specs.bridge.Machine.{want}
use Rattle.words.specs.bridge.Code.{sort_at}
use Rattle.lines.specs.bridge.Says.{below}
use Rattle.std.proofs.lemmas.Result.{IfOk-weaker}
use Rattle.checking.proofs.DescentLaw as D
use Rattle.checking.proofs.WalksLaw as W
use Rattle.checking.proofs.ReadLaw as R
use Rattle.checking.proofs.check.check_from.Goals as goal

pub returns-then-lacks_head : goal.returns-then-lacks_head
returns-then-lacks_head c = R.reads_none _ _ _ _ _ _ _ _ _ _ (sym c.lacks_head.ensures ∙ c.if-lacks_head.true) c.requires.ready

pub check_entry-requires : goal.check_entry-requires
check_entry-requires c =
    (R.part-known c.args.head c.args.sort _ c.part_sort.ensures c.requires.known, D.ready_moved _ _ _ (D.other-cursor c.args.p _ (ap (λ k. k.at) c.moved_to-cursor.ensures ∙ c.requires.at)) c.requires.ready, c.requires.worded)

pub returns : goal.returns
returns c = let p = c.args.p in let at = ap (λ k. k.at) c.moved_to-cursor.ensures ∙ c.requires.at in let e = c.check_entry.ensures in
    let k = c.part_sort.result in let us = want (sort_at k) c.args.level 0 ∷ [] in let vs = want (sort_at 2) (below k c.args.level) 0 ∷ [] in let same = D.other-cursor p _ at in
    R.reads-entry c.args.head _ _ _ _ _ _ p c.args.sort c.args.level _ _ _ _ _ (sym c.lacks_head.ensures ∙ c.if-lacks_head.false) k c.part_sort.ensures _ e.ready
    (λ whole. D.rest-moved _ _ _ _ p _ _ _ _ us [] _ same (e.runs whole)) (λ whole low. IfOk-weaker _ _ _ (λ r. W.walks_from _ _ p _ _ _ _ at) (e.walks whole low))
    (λ alone seven. D.rest-moved _ _ _ _ p _ _ _ _ us vs _ same (e.head alone seven)) (λ alone seven. IfOk-weaker _ _ _ (λ r. W.head-from _ _ p _ _ _ at) (e.shown alone seven))
