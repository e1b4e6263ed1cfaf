-- `projects::push/put_pushed` meets its contract. Assumes nothing.
use mathlib.Core.Path.{◌∙◌}
use mathlib.Core.List.{[]}
use mathlib.Core.Bool.{false}
use Rattle.scoping.specs.Label.{prefix_v}
use Rattle.sides.proofs.Sides.{side-inside, side-room, side-width}
use Rattle.projects.proofs.Whole as W
use Rattle.projects.proofs.Pass as P
use Rattle.projects.proofs.push.put_pushed.Goals as goal

pub width-requires : goal.width-requires
width-requires c = side-room _ _ _ _ _ _ _ _ _ _ _ _ _ _ _ _ _ _ c.requires.2

pub put_columns-requires : goal.put_columns-requires
put_columns-requires c =
    let d = c.requires.2 in (side-inside _ _ _ _ _ _ _ _ _ _ _ _ _ _ _ _ _ _ d, c.width.ensures ∙ side-width _ _ _ _ _ _ _ _ _ _ _ _ _ _ _ _ _ _ d)

pub put_side-requires : goal.put_side-requires
put_side-requires c = let p = c.requires in (prefix_v, false, p.0, [], p.1, p.2)

pub returns : goal.returns
returns c =
    record {
      is = λ x ks d. P.push-pass c.args.query.now c.args.table.now c.args.spots.now c.args.constants.now c.args.news.now c.args.found x ks d c.args.head.now
          (λ t. record {
            same = c.put.ensures.same ∙ c.put_columns.ensures.same ∙ c.put_all-2.ensures.same ∙ c.put_all.ensures.same;
            puts = W.one-head _ _ _ _ _ _ _ c.put_all.ensures.puts c.put_all-2.ensures.puts c.put_columns.ensures.puts c.put.ensures.puts t;
          }) c.put_side.ensures;
    }
