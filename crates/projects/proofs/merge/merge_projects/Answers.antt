-- `projects::merge/merge_projects` meets its contract. Assumes nothing.
use Rattle.projects.proofs.OneSide as OS
use Rattle.projects.proofs.Outcomes as O
use Rattle.projects.proofs.merge.merge_projects.Goals as goal

pub find_side-l-requires : goal.find_side-l-requires
find_side-l-requires c = let p = c.requires in OS.asked_of _ _ _ _ _ _ _ _ p.0.0 p.2.js p.0.1 p.2.joins p.2.left

pub returns-then-not-l : goal.returns-then-not-l
returns-then-not-l c =
    let f = c.find_side-l.ensures in λ x y js ks ls sx sy li. O.left-outside _ c.args.head.now x y js ks ls c.args.out.now (OS.outside _ _ _ _ _ _ (record { stands = f.0; joins_long = f.1; long = f.2; is = f.3 }) _ _ x js ks sx li.joins li.left_terms c.if-not-l.true)

pub find_side-r-requires : goal.find_side-r-requires
find_side-r-requires c = let p = c.requires in OS.asked_of _ _ _ _ _ _ _ _ p.1.0 p.2.js p.1.1 p.2.joins p.2.right

pub returns-then-not-r : goal.returns-then-not-r
returns-then-not-r c =
    let f = c.find_side-r.ensures in λ x y js ks ls sx sy li. O.right-outside _ c.args.head.now x y js ks ls c.args.out.now (OS.outside _ _ _ _ _ _ (record { stands = f.0; joins_long = f.1; long = f.2; is = f.3 }) _ _ y js ls sy li.joins li.right_terms c.if-not-r.true)

pub merge_found-requires : goal.merge_found-requires
merge_found-requires c =
    let g = c.find_side-r.ensures in let f = c.find_side-l.ensures in let p = c.requires in ((p.0.0, p.1.0, p.2.js, p.2.left.list, p.2.right.list, OS.outlined _ _ _ _ _ _ (record { stands = f.0; joins_long = f.1; long = f.2; is = f.3 }) _ _ p.0.0 p.2.js p.2.left.list p.0.1 p.2.joins p.2.left.terms c.if-not-l.false, OS.outlined _ _ _ _ _ _ (record { stands = g.0; joins_long = g.1; long = g.2; is = g.3 }) _ _ p.1.0 p.2.js p.2.right.list p.1.1 p.2.joins p.2.right.terms c.if-not-r.false), p.3, p.4)

pub returns : goal.returns
returns c =
    let g = c.find_side-r.ensures in let f = c.find_side-l.ensures in λ x y js ks ls sx sy li. c.merge_found.ensures x y js ks ls (OS.outlined _ _ _ _ _ _ (record { stands = f.0; joins_long = f.1; long = f.2; is = f.3 }) _ _ x js ks sx li.joins li.left_terms c.if-not-l.false) (OS.outlined _ _ _ _ _ _ (record { stands = g.0; joins_long = g.1; long = g.2; is = g.3 }) _ _ y js ls sy li.joins li.right_terms c.if-not-r.false)
