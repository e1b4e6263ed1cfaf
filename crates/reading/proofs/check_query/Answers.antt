-- `reading::check_query` meets its contract. Assumes nothing.
use mathlib.Core.Path.{sym, ap, ◌∙◌}
use native.Mathlib.Omega.{arith}
use Rattle.algebra.specs.Tally.{tally_query}
use Rattle.algebra.specs.bridge.Verdict.{checked}
use Rattle.algebra.proofs.Alone.{not-alone}
use Rattle.algebra.proofs.CheckReads.{check-query}
use Rattle.names.proofs.Laws.{holds-none}
use Rattle.reading.proofs.HeadLaw as H
use Rattle.reading.proofs.ToldLaw.{told}
use Rattle.reading.proofs.check_query.Goals as goal

pub next_line-line-requires : goal.next_line-line-requires
next_line-line-requires c = let n = c.new.ensures.0 in omega (arith, n)

pub overflow_sub-text : goal.overflow_sub-text
overflow_sub-text c = let h = c.next_line-line.ensures.1.high in omega (arith, h)

pub check_one-requires : goal.check_one-requires
check_one-requires c =
    (omega arith, holds-none _ _ _ _ c.no_names.ensures.0 c.no_names.ensures.1 c.no_names.ensures.2, c.requires)

pub returns-then-text-line-ne1 : goal.returns-then-text-line-ne1
returns-then-text-line-ne1 c =
    let s = c.args.text.now in told tally_query _ _ _ _ _ _ _ (check-query s ∙ ap (checked tally_query) (sym (not-alone s _ (H.from_start _ _ _ _ c.new.ensures.0 c.next_line-line.ensures.1) (λ e. c.if-text-line-ne1.true (omega (arith, e)))))) c.check_one.ensures

pub check_head-requires : goal.check_head-requires
check_head-requires c =
    let n = c.next_line-line.ensures in let h = n.1.high in let e = c.if-text-line-ne1.false in (ap (λ k. k.at) n.0 ∙ c.new.ensures.0, H.from_start _ _ _ _ c.new.ensures.0 n.1, omega (arith, e, h))

pub returns : goal.returns
returns c = let e = c.no_names.ensures in c.check_head.ensures _ _ _ (holds-none _ _ _ _ e.0 e.1 e.2)
