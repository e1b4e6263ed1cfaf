-- `checking::check/check_list` meets its contract. Assumes nothing.
use mathlib.Core.Path.{refl, ◌∙◌}
use native.Mathlib.Omega.{arith}
use Rattle.words.specs.bridge.Code.{sort_at}
use Rattle.std.proofs.lemmas.Result.{err_from_is_err_and}
use Rattle.checking.proofs.CheckLaw as K
use Rattle.checking.proofs.check.check_list.Goals as goal

pub returns-then-s-gt16384 : goal.returns-then-s-gt16384
returns-then-s-gt16384 c = K.too_long _ _ _ _ _ _ c.if-s-gt16384.true

pub loop-p-init : goal.loop-p-init
loop-p-init c =
    (K.started-ready _ _ c.start-p.ensures c.if-s-gt16384.false, K.went-begun _ _ _ _ c.if-s-gt16384.false c.requires.1 _ c.start-p.ensures _ _, refl, refl)

pub check_entry-requires : goal.check_entry-requires
check_entry-requires c = (c.requires.0, c.loop-p.invariant.0, c.requires.2)

pub returns-in_err-p : goal.returns-in_err-p
returns-in_err-p c =
    let p = err_from_is_err_and c.from_residual.result c.from_residual.ensures.1 in rw (p.1, p.2) (K.told-stop _ _ _ _ _ _ _ _ (K.list-next _ _ _ _ _ _ _ (sort_at c.args.sort) c.args.level _ _ _ _ _ _ c.entry_level-d.ensures c.fewer-left.ensures c.loop-p.invariant.1 c.loop-p-test.true (c.in_err-p.ensures.runs refl)))

pub loop-p-smaller : goal.loop-p-smaller
loop-p-smaller c =
    let v = c.in_ok-p.ensures.ready.behind in let q = c.loop-p-test.true in let o = c.loop-p.invariant.0.short in omega (arith, v, q, o)

pub loop-p-preserved : goal.loop-p-preserved
loop-p-preserved c =
    (c.in_ok-p.ensures.ready.ready, K.list-next _ _ _ _ _ _ _ (sort_at c.args.sort) c.args.level _ _ _ _ _ _ c.entry_level-d.ensures c.fewer-left.ensures c.loop-p.invariant.1 c.loop-p-test.true (c.in_ok-p.ensures.runs refl), c.check_entry.auto.spots ∙ c.loop-p.invariant.2, c.check_entry.auto.nodes ∙ c.loop-p.invariant.3)

pub returns : goal.returns
returns c = K.told-whole _ _ _ _ _ _ _ c.loop-p.invariant.1 c.loop-p-test.false
