-- `respelling::convert` meets its contract. Assumes nothing.
use Rattle.std.proofs.Common.{rules}
use mathlib.Core.Path.{◌≡◌}
use mathlib.Core.List.{map}
use native.Mathlib.Omega.{arith}
use Rattle.text.specs.Text.{text_of, lines_from}
use Rattle.emit.specs.bridge.Emit.{em, puts}
use Rattle.emit.proofs.Writing.{wrote-from}
use Rattle.converting.specs.Namespaces.{converted_iri}
use Rattle.converting.specs.bridge.Lines.{in_line}
use Rattle.starts.specs.bridge.Starts.{starts_in}
use Rattle.respelling.proofs.Called as C
use Rattle.respelling.proofs.convert.Goals as goal

pub returns-then-not-in_order : goal.returns-then-not-in_order
returns-then-not-in_order c =
    C.not-in-order _ _ _ c.requires.0.0 c.requires.0.1 _ _ c.requires.1 _ c.in_order.ensures c.if-not-in_order.true-raw

pub put_converted-requires : goal.put_converted-requires
put_converted-requires c = (c.requires.0, C.in_order_lem _ _ _ c.requires.1 _ c.in_order.ensures c.if-not-in_order.false-raw)

pub returns-then-not-put_converted : goal.returns-then-not-put_converted
returns-then-not-put_converted c =
    C.not_covered _ _ _ c.requires.0.0 c.requires.0.1 _ _ c.requires.1 _ c.in_order.ensures c.if-not-in_order.false-raw _ c.put_converted.ensures.1 c.if-not-put_converted.true-raw

pub returns-then-out-need : goal.returns-then-out-need
returns-then-out-need c =
    let measure = wrote-from c.put_converted.ensures.0 c.new-spare.ensures.starts in
    C.short _ _ _ c.requires.0.0 c.requires.0.1 _ _ c.requires.1 _ c.in_order.ensures c.if-not-in_order.false-raw _ c.put_converted.ensures.1 c.if-not-put_converted.false-raw _ _ _ measure c.if-out-need.true

pub put_converted-requires-2 : goal.put_converted-requires-2
put_converted-requires-2 c = (c.requires.0, C.in_order_lem _ _ _ c.requires.1 _ c.in_order.ensures c.if-not-in_order.false-raw)

pub returns : goal.returns
returns c =
    let g = c.well_formed in
    let ss = starts_in c.args.table.now c.args.keys.now c.args.n in
    let measure = wrote-from c.put_converted.ensures.0 c.new-spare.ensures.starts in
    let z = c.put_converted-2.ensures.0 in
    let e : em c.put_converted-2.new.w.at c.put_converted-2.new.w.out.now ≡ puts (text_of (map (in_line (converted_iri ss)) (lines_from c.args.tree.now 0))) (em 0 c.args.out.now) = wrote-from z c.new-w.ensures.starts in
    C.fits _ _ _ c.requires.0.0 c.requires.0.1 _ _ c.requires.1 _ c.in_order.ensures c.if-not-in_order.false-raw _ c.put_converted.ensures.1 c.if-not-put_converted.false-raw _ _ _ measure _ _ c.if-out-need.false (omega (arith, g)) (search rules)
