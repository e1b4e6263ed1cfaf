-- `names::keep_name` meets its contract. Assumes nothing.
use native.Mathlib.Omega.{arith}
use Rattle.names.proofs.Laws as L
use Rattle.names.proofs.Kept.{entry_set}
use Rattle.names.proofs.keep_name.Goals as goal

pub returns-then-n-gt1024 : goal.returns-then-n-gt1024
returns-then-n-gt1024 c =
    record { by_index = (λ want h. L.keep-over _ _ _ _ _ _ want h c.if-n-gt1024.true); lists = L.lists-over _ _ _ _ _ c.if-n-gt1024.true }

pub returns-then-found-n : goal.returns-then-found-n
returns-then-found-n c =
    rw (← c.piece.ensures) (record { by_index = (λ want h. L.keep_known _ _ _ _ _ _ want h _ c.if-n-gt1024.false c.if-found-n.true c.probe-found.ensures.result_le_n.1); lists = L.lists-known _ _ _ _ _ _ c.if-n-gt1024.false c.if-found-n.true c.probe-found.ensures.result_le_n.1 })

pub returns-then-n-eq1024 : goal.returns-then-n-eq1024
returns-then-n-eq1024 c =
    rw (← c.piece.ensures) (record { by_index = (λ want h. L.keep-full _ _ _ _ _ _ want h _ c.if-n-gt1024.false c.probe-found.ensures.result_le_n.2 c.probe-found.ensures.result_le_n.0 c.if-found-n.false c.if-n-eq1024.true); lists = L.lists-full _ _ _ _ _ c.if-n-eq1024.true })

pub returns : goal.returns
returns c =
    let k = entry_set c.args.table.now _ c.args.n _ _ c.requires.0 c.requires.1 c.put_entry.ensures in rw (← c.piece.ensures, k.0, k.1) (record { by_index = (λ want h. L.keep-new _ _ _ _ _ _ want h _ c.if-n-gt1024.false c.probe-found.ensures.result_le_n.2 c.probe-found.ensures.result_le_n.0 c.if-found-n.false _ _ _ c.piece.ensures c.if-n-eq1024.false (c.put_hint.ensures _ (c.probe-found.ensures.free (let x = c.probe-found.ensures.result_le_n.0 in let y = c.if-found-n.false in omega (arith, x, y))))); lists = L.lists-new _ _ _ _ _ _ _ c.if-n-gt1024.false c.if-n-eq1024.false c.piece.ensures })
