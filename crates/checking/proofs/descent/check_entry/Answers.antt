-- `checking::descent/check_entry` meets its contract. Assumes nothing.
use mathlib.Core.Path.{refl, ap}
use mathlib.Core.List.{[], ◌∷◌}
use Rattle.algebra.specs.bridge.Machine.{want}
use Rattle.words.specs.bridge.Code.{sort_at}
use Rattle.lines.specs.bridge.Says.{below}
use Rattle.std.proofs.lemmas.Result.{IfOk-weaker}
use Rattle.checking.proofs.DescentLaw as D
use Rattle.checking.proofs.WalksLaw as W
use Rattle.checking.proofs.descent.check_entry.Goals as goal

pub check_lines-requires : goal.check_lines-requires
check_lines-requires c =
    (c.requires.0, D.ready_moved _ _ _ (D.other-cursor c.args.p _ (ap (λ k. k.at) c.awaiting-cursor.ensures)) c.requires.1, c.requires.2)

pub returns : goal.returns
returns c = let e = c.check_lines.ensures in
    let at = ap (λ k. k.at) c.awaiting-cursor.ensures in
    let one = ap (λ k. k.awaited) c.awaiting-cursor.ensures in
    let same = D.other-cursor c.args.p _ at in record {
      runs = λ wh. D.goes_one _ _ _ _ c.args.p _ _ _ _ (want (sort_at c.args.sort) c.args.level 0) _ _ same one (e.runs wh);
      ready = D.ahead-one _ c.args.p _ _ _ _ at one e.ready;
      walks = λ wh low. IfOk-weaker _ _ _ (λ r. W.walks_from _ _ c.args.p _ _ _ _ at) (e.one one wh low);
      head = λ w h. D.rest-moved _ _ _ _ c.args.p _ _ _ _ (want (sort_at c.args.sort) c.args.level 0 ∷ []) (want (sort_at 2) (below c.args.sort c.args.level) 0 ∷ []) _ same (e.head one w h);
      shown = λ w h. IfOk-weaker _ _ _ (λ r. W.head-from _ _ c.args.p _ _ _ at) (e.shown one w h refl);
    }
