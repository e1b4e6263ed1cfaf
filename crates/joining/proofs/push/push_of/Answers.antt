-- `joining::push/push_of` meets its contract. Assumes nothing.
use Rattle.answers.proofs.Answers as A
use Rattle.projects.proofs.Known as KN
use Rattle.projects.proofs.Outcomes as O
use Rattle.joining.proofs.Calls as Calls
use Rattle.joining.proofs.push.push_of.Goals as goal

pub returns-then-not-is_select_or_ask : goal.returns-then-not-is_select_or_ask
returns-then-not-is_select_or_ask c =
    λ q s h. let p = c.requires in A.answered _ _ _ _ c.copy_behind.result (Calls.other-kind q _ p.1 _ h _ _ _ s.tree-in.lines s.tree-in.valid c.piece.ensures c.is_select_or_ask.result (c.is_select_or_ask.ensures q h) c.if-not-is_select_or_ask.true-raw) c.copy_behind.ensures

pub returns-then-not-is_project : goal.returns-then-not-is_project
returns-then-not-is_project c =
    λ q s h. let p = c.requires in A.answered _ _ _ _ c.copy_behind-then-not-is_project.result (Calls.other-root q _ p.1 _ h _ _ _ s.tree-in.lines s.tree-in.valid c.piece-then-not-is_project.ensures c.is_select_or_ask.result (c.is_select_or_ask.ensures q h) c.if-not-is_select_or_ask.false-raw (O.no-project _ _ _ s.tree-in.lines _ c.is_project.ensures c.if-not-is_project.true-raw)) c.copy_behind-then-not-is_project.ensures

pub push_in_project-requires : goal.push_in_project-requires
push_in_project-requires c =
    let p = c.requires in let s = p.0.1 in let x = O.a-project _ _ _ s.tree-in.lines _ c.is_project.ensures c.if-not-is_project.false-raw in ((x.0, KN.stands-as _ _ _ _ _ _ _ _ x.2 s), p.1, p.2, p.3)

pub returns : goal.returns
returns c =
    λ q s h. let p = c.requires in let x = O.a-project _ _ _ s.tree-in.lines _ c.is_project.ensures c.if-not-is_project.false-raw in A.answered _ _ _ _ c.push_in_project.result (Calls.pushes q _ p.1 _ h c.is_select_or_ask.result (c.is_select_or_ask.ensures q h) c.if-not-is_select_or_ask.false-raw x.0 x.1) (c.push_in_project.ensures x.0 p.1.list (KN.stands-as _ _ _ _ _ _ _ _ x.2 s) p.1.terms)
