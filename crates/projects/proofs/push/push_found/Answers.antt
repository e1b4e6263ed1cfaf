-- `projects::push/push_found` meets its contract. Assumes nothing.
use borrow.Author.Rules.{rules}
use mathlib.Core.List.{[], ◌++◌}
use Rattle.algebra.specs.Layout.{layout}
use Rattle.projects.specs.bridge.Joining.{pushed_tree}
use mathlib.Core.Bool.{false}
use Rattle.names.proofs.Cleared.{no_size}
use Rattle.projects.specs.bridge.Pair.{PushWritten}
use Rattle.projects.proofs.OneSide as OS
use Rattle.projects.proofs.Pass as P
use Rattle.projects.proofs.push.push_found.Goals as goal

pub name_found-requires : goal.name_found-requires
name_found-requires c =
    let p = c.requires in (search rules, no_size 1024, (false, c.args.constants.now, p.0.0, [], p.0.1, p.0.2), p.1, p.2)

pub returns-then-not-name_found : goal.returns-then-not-name_found
returns-then-not-name_found c =
    λ x ks o. OS.never-repeated (OS.refused _ _ _ _ _ _ _ _ _ _ _ _ (c.name_found.ensures _ _ x [] ks o) c.if-not-name_found.true-raw)

pub write_answer-requires : goal.write_answer-requires
write_answer-requires c =
    let p = c.requires.0 in
    let q = OS.named _ _ _ _ _ _ _ _ _ _ _ _ (c.name_found.ensures _ _ _ _ _ p.2) c.if-not-name_found.false-raw in
    search rules

pub returns : goal.returns
returns c =
    λ x ks o. let z = OS.named _ _ _ _ _ _ _ _ _ _ _ _ (c.name_found.ensures _ _ x [] ks o) c.if-not-name_found.false-raw in
    P.push-answered c.args.query.now c.args.table.now _ c.args.constants.now _ c.args.found x ks z c.args.head.now _ _ _
    (c.write_answer.ensures (c.args.head.now ++ layout (pushed_tree x ks)) (λ w w' p.
    let q : PushWritten c.args.head.now c.args.query.now c.args.table.now c.name_found.new.spots c.args.constants.now c.name_found.new.news c.args.found w.now w'.now = search rules in
    q.is x ks z))
