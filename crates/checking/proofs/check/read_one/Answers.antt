-- The head line is checked, then the tree behind it, and what is left over is asked behind the tree. Assumes nothing.
use Rattle.std.proofs.lemmas.Result.{err_from_is_err_and}
use Rattle.checking.proofs.ReadLaw as R
use Rattle.checking.proofs.check.read_one.Goals as goal

pub returns-in_err-p : goal.returns-in_err-p
returns-in_err-p c = let a = c.args in
    let p = c.check_lent.new in
    let q = err_from_is_err_and c.from_residual.result c.from_residual.ensures.1 in
    rw (q.1, q.2) (record { read = tt; refused = R.head-refused a.s.now a.words.now a.table.now a.hints.now a.spots.now a.nodes.now c.requires.1 c.requires.2 c.start.result c.start.ensures a.sort a.level p.table p.hints p.spots p.nodes _ c.in_err-p.ensures })

pub returns-in_err-q : goal.returns-in_err-q
returns-in_err-q c = let a = c.args in
    let p = c.check_lent.new in
    let r = c.check_lent-2.new in
    let q = err_from_is_err_and c.from_residual-in_err-q.result c.from_residual-in_err-q.ensures.1 in
    rw (q.1, q.2) (record { read = tt; refused = R.tree-refused a.s.now a.words.now a.table.now a.hints.now a.spots.now a.nodes.now c.requires.1 c.requires.2 c.start.result c.start.ensures a.sort a.level p.table p.hints p.spots p.nodes c.in_ok-p.p c.in_ok-p.ensures r.table r.hints r.spots r.nodes _ c.in_err-q.ensures })

pub returns : goal.returns
returns c = let a = c.args in
    let p = c.check_lent.new in
    let r = c.check_lent-2.new in
    record { read = R.one-read a.s.now a.words.now a.table.now a.hints.now a.spots.now a.nodes.now c.requires.1 c.requires.2 c.start.result c.start.ensures a.sort a.level p.table p.hints p.spots p.nodes c.in_ok-p.p c.in_ok-p.ensures r.table r.hints r.spots r.nodes c.in_ok-q.q c.in_ok-q.ensures _ c.left_over-left.ensures; refused = tt }
