-- `emit::put` meets its contract. Assumes nothing.
use native.Mathlib.Omega.{arith}
use Rattle.emit.proofs.Laws.{put_in, put-past, put_last}
use Rattle.emit.proofs.put.Goals as goal

pub returns-then-at-out : goal.returns-then-at-out
returns-then-at-out c = put_in c.args.at c.args.b c.args.out.now (omega arith)

pub returns-then-at-lt18446744073709551615 : goal.returns-then-at-lt18446744073709551615
returns-then-at-lt18446744073709551615 c = put-past c.args.at c.args.b c.args.out.now (omega arith) (omega arith)

pub returns-else-at-lt18446744073709551615 : goal.returns-else-at-lt18446744073709551615
returns-else-at-lt18446744073709551615 c = put_last c.args.at c.args.b c.args.out.now (omega arith) (omega arith)
