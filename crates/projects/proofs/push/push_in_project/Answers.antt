-- `projects::push/push_in_project` meets its contract. Assumes nothing.
use mathlib.Core.List.{[]}
use Rattle.projects.proofs.Whole as W
use Rattle.projects.proofs.OneSide as OS
use Rattle.projects.proofs.push.push_in_project.Goals as goal

pub find_side-found-requires : goal.find_side-found-requires
find_side-found-requires c = let p = c.requires in OS.asked_of _ _ _ _ _ _ _ _ p.0.0 [] p.0.1 W.none-listed p.1

pub returns-then-not-found : goal.returns-then-not-found
returns-then-not-found c =
    let f = c.find_side-found.ensures in λ x ks st tm. W.pushed-outside c.args.head.now x ks c.args.out.now (OS.outside _ _ _ _ _ _ (record { stands = f.0; joins_long = f.1; long = f.2; is = f.3 }) _ _ x [] ks st W.none-listed tm c.if-not-found.true)

pub push_found-requires : goal.push_found-requires
push_found-requires c =
    let f = c.find_side-found.ensures in let p = c.requires in ((p.0.0, p.1.list, OS.outlined _ _ _ _ _ _ (record { stands = f.0; joins_long = f.1; long = f.2; is = f.3 }) _ _ p.0.0 [] p.1.list p.0.1 W.none-listed p.1.terms c.if-not-found.false), p.2, p.3)

pub returns : goal.returns
returns c =
    let f = c.find_side-found.ensures in λ x ks st tm. c.push_found.ensures x ks (OS.outlined _ _ _ _ _ _ (record { stands = f.0; joins_long = f.1; long = f.2; is = f.3 }) _ _ x [] ks st W.none-listed tm c.if-not-found.false)
