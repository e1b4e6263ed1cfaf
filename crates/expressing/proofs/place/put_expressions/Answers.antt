-- `expressing::place/put_expressions` meets its contract. Assumes nothing.
use mathlib.Core.Path.{◌∙◌}
use Rattle.emit.proofs.Writing.{left-all}
use Rattle.names.specs.bridge.Names.{names_in}
use Rattle.expressing.proofs.Counted as C
use Rattle.expressing.proofs.place.put_expressions.Goals as goal

pub loop-j-init : goal.loop-j-init
loop-j-init c = left-all _

pub loop-j-preserved : goal.loop-j-preserved
loop-j-preserved c =
    let a = c.args in let v = c.loop-j.invariant in let t = c.tree_to_expression.ensures in record {
      same = t.same ∙ v.same;
      puts = C.places-next (names_in a.tree.now a.columns.now a.n) _ _ _ _ _ v.puts c.loop-j-test.true _ _ t.walks;
    }

pub returns : goal.returns
returns c =
    let a = c.args in let v = c.loop-j.invariant in record {
      same = v.same;
      puts = C.places-done (names_in a.tree.now a.columns.now a.n) _ _ _ _ _ v.puts c.loop-j-test.false;
    }
