-- `joining::merge/merge_checked` meets its contract. Assumes nothing.
use mathlib.Core.Path.{sym, ap, ◌∙◌}
use mathlib.Core.Bool.{not}
use Rattle.projects.proofs.Known as KN
use Rattle.projects.proofs.Outcomes as O
use Rattle.projects.proofs.Whole as W
use Rattle.joining.proofs.Calls as Calls
use Rattle.joining.proofs.merge.merge_checked.Goals as goal

pub returns-then-not-both : goal.returns-then-not-both
returns-then-not-both c = λ p q s t. Calls.not-mergeable _ _ _ p q _ _ _ c.requires.2 _ c.if-not-both.true

pub returns-then-not-is_project : goal.returns-then-not-is_project
returns-then-not-is_project c =
    λ p q s t. Calls.left-no-project _ _ _ p q _ _ _ c.requires.2 c.if-not-both.false _ (O.no-project _ _ _ s.tree-in.lines _ c.is_project.ensures c.if-not-is_project.true-raw)

pub returns-then-not-is_project-2 : goal.returns-then-not-is_project-2
returns-then-not-is_project-2 c =
    λ p q s t. Calls.right-no-project _ _ _ p q _ _ _ c.requires.2 c.if-not-both.false _ _ (O.a-project _ _ _ s.tree-in.lines _ c.is_project.ensures c.if-not-is_project.false-raw).1 (O.no-project _ _ _ t.tree-in.lines _ c.is_project-2.ensures c.if-not-is_project-2.true-raw)

pub returns-then-lacks_pairs : goal.returns-then-lacks_pairs
returns-then-lacks_pairs c =
    λ p q s t. let w = c.requires in let x = O.a-project _ _ _ s.tree-in.lines _ c.is_project.ensures c.if-not-is_project.false-raw in let y = O.a-project _ _ _ t.tree-in.lines _ c.is_project-2.ensures c.if-not-is_project-2.false-raw in Calls.no_pairs _ _ _ p q _ _ _ w.2 c.if-not-both.false _ _ x.1 y.1 _ (sym (c.lacks_pairs.ensures _ w.2.joins_read) ∙ ap not c.if-lacks_pairs.true)

pub merge_projects-requires : goal.merge_projects-requires
merge_projects-requires c =
    let w = c.requires in let s = w.0.1 in let t = w.1.1 in let x = O.a-project _ _ _ s.tree-in.lines _ c.is_project.ensures c.if-not-is_project.false-raw in let y = O.a-project _ _ _ t.tree-in.lines _ c.is_project-2.ensures c.if-not-is_project-2.false-raw in ((x.0, KN.stands-as _ _ _ _ _ _ _ _ x.2 s), (y.0, KN.stands-as _ _ _ _ _ _ _ _ y.2 t), w.2, w.3, w.4)

pub returns : goal.returns
returns c =
    λ p q s t. let w = c.requires in let x = O.a-project _ _ _ s.tree-in.lines _ c.is_project.ensures c.if-not-is_project.false-raw in let y = O.a-project _ _ _ t.tree-in.lines _ c.is_project-2.ensures c.if-not-is_project-2.false-raw in Calls.projects-answer _ _ _ p q _ _ _ w.2 c.if-not-both.false _ _ x.1 y.1 (sym (c.lacks_pairs.ensures _ w.2.joins_read) ∙ ap not c.if-lacks_pairs.false) c.args.out.now c.merge_projects.new.out c.merge_projects.result (c.merge_projects.ensures _ _ _ _ _ (KN.stands-as _ _ _ _ _ _ _ _ x.2 s) (KN.stands-as _ _ _ _ _ _ _ _ y.2 t) (W.lists-are _ _ _ w.2))
