-- `answering::call_number` meets its contract. Assumes nothing.
use mathlib.Core.Path.{sym, ◌∙◌}
use Rattle.answering.proofs.Laws.{number-all, number-here, number-next, number-none}
use Rattle.answering.proofs.call_number.Goals as goal

pub returns-then-equal : goal.returns-then-equal
returns-then-equal c = number-all _ _ (number-here _ _ _ (sym c.equal.ensures ∙ c.if-equal.true))

pub returns-then-equal-2 : goal.returns-then-equal-2
returns-then-equal-2 c =
    number-all _ _ (number-next _ _ _ _ (sym c.equal.ensures ∙ c.if-equal.false) (number-here _ _ _ (sym c.equal-2.ensures ∙ c.if-equal-2.true)))

pub returns-then-equal-3 : goal.returns-then-equal-3
returns-then-equal-3 c =
    number-all _ _ (number-next _ _ _ _ (sym c.equal.ensures ∙ c.if-equal.false) (number-next _ _ _ _ (sym c.equal-2.ensures ∙ c.if-equal-2.false) (number-here _ _ _ (sym c.equal-3.ensures ∙ c.if-equal-3.true))))

pub returns-then-equal-4 : goal.returns-then-equal-4
returns-then-equal-4 c =
    number-all _ _ (number-next _ _ _ _ (sym c.equal.ensures ∙ c.if-equal.false) (number-next _ _ _ _ (sym c.equal-2.ensures ∙ c.if-equal-2.false) (number-next _ _ _ _ (sym c.equal-3.ensures ∙ c.if-equal-3.false) (number-here _ _ _ (sym c.equal-4.ensures ∙ c.if-equal-4.true)))))

pub returns-then-equal-5 : goal.returns-then-equal-5
returns-then-equal-5 c =
    number-all _ _ (number-next _ _ _ _ (sym c.equal.ensures ∙ c.if-equal.false) (number-next _ _ _ _ (sym c.equal-2.ensures ∙ c.if-equal-2.false) (number-next _ _ _ _ (sym c.equal-3.ensures ∙ c.if-equal-3.false) (number-next _ _ _ _ (sym c.equal-4.ensures ∙ c.if-equal-4.false) (number-here _ _ _ (sym c.equal-5.ensures ∙ c.if-equal-5.true))))))

pub returns-then-equal-6 : goal.returns-then-equal-6
returns-then-equal-6 c =
    number-all _ _ (number-next _ _ _ _ (sym c.equal.ensures ∙ c.if-equal.false) (number-next _ _ _ _ (sym c.equal-2.ensures ∙ c.if-equal-2.false) (number-next _ _ _ _ (sym c.equal-3.ensures ∙ c.if-equal-3.false) (number-next _ _ _ _ (sym c.equal-4.ensures ∙ c.if-equal-4.false) (number-next _ _ _ _ (sym c.equal-5.ensures ∙ c.if-equal-5.false) (number-here _ _ _ (sym c.equal-6.ensures ∙ c.if-equal-6.true)))))))

pub returns-then-equal-7 : goal.returns-then-equal-7
returns-then-equal-7 c =
    number-all _ _ (number-next _ _ _ _ (sym c.equal.ensures ∙ c.if-equal.false) (number-next _ _ _ _ (sym c.equal-2.ensures ∙ c.if-equal-2.false) (number-next _ _ _ _ (sym c.equal-3.ensures ∙ c.if-equal-3.false) (number-next _ _ _ _ (sym c.equal-4.ensures ∙ c.if-equal-4.false) (number-next _ _ _ _ (sym c.equal-5.ensures ∙ c.if-equal-5.false) (number-next _ _ _ _ (sym c.equal-6.ensures ∙ c.if-equal-6.false) (number-here _ _ _ (sym c.equal-7.ensures ∙ c.if-equal-7.true))))))))

pub returns-then-equal-8 : goal.returns-then-equal-8
returns-then-equal-8 c =
    number-all _ _ (number-next _ _ _ _ (sym c.equal.ensures ∙ c.if-equal.false) (number-next _ _ _ _ (sym c.equal-2.ensures ∙ c.if-equal-2.false) (number-next _ _ _ _ (sym c.equal-3.ensures ∙ c.if-equal-3.false) (number-next _ _ _ _ (sym c.equal-4.ensures ∙ c.if-equal-4.false) (number-next _ _ _ _ (sym c.equal-5.ensures ∙ c.if-equal-5.false) (number-next _ _ _ _ (sym c.equal-6.ensures ∙ c.if-equal-6.false) (number-next _ _ _ _ (sym c.equal-7.ensures ∙ c.if-equal-7.false) (number-here _ _ _ (sym c.equal-8.ensures ∙ c.if-equal-8.true)))))))))

pub returns-then-equal-9 : goal.returns-then-equal-9
returns-then-equal-9 c =
    number-all _ _ (number-next _ _ _ _ (sym c.equal.ensures ∙ c.if-equal.false) (number-next _ _ _ _ (sym c.equal-2.ensures ∙ c.if-equal-2.false) (number-next _ _ _ _ (sym c.equal-3.ensures ∙ c.if-equal-3.false) (number-next _ _ _ _ (sym c.equal-4.ensures ∙ c.if-equal-4.false) (number-next _ _ _ _ (sym c.equal-5.ensures ∙ c.if-equal-5.false) (number-next _ _ _ _ (sym c.equal-6.ensures ∙ c.if-equal-6.false) (number-next _ _ _ _ (sym c.equal-7.ensures ∙ c.if-equal-7.false) (number-next _ _ _ _ (sym c.equal-8.ensures ∙ c.if-equal-8.false) (number-here _ _ _ (sym c.equal-9.ensures ∙ c.if-equal-9.true))))))))))

pub returns-then-equal-10 : goal.returns-then-equal-10
returns-then-equal-10 c =
    number-all _ _ (number-next _ _ _ _ (sym c.equal.ensures ∙ c.if-equal.false) (number-next _ _ _ _ (sym c.equal-2.ensures ∙ c.if-equal-2.false) (number-next _ _ _ _ (sym c.equal-3.ensures ∙ c.if-equal-3.false) (number-next _ _ _ _ (sym c.equal-4.ensures ∙ c.if-equal-4.false) (number-next _ _ _ _ (sym c.equal-5.ensures ∙ c.if-equal-5.false) (number-next _ _ _ _ (sym c.equal-6.ensures ∙ c.if-equal-6.false) (number-next _ _ _ _ (sym c.equal-7.ensures ∙ c.if-equal-7.false) (number-next _ _ _ _ (sym c.equal-8.ensures ∙ c.if-equal-8.false) (number-next _ _ _ _ (sym c.equal-9.ensures ∙ c.if-equal-9.false) (number-here _ _ _ (sym c.equal-10.ensures ∙ c.if-equal-10.true)))))))))))

pub returns : goal.returns
returns c =
    number-all _ _ (number-next _ _ _ _ (sym c.equal.ensures ∙ c.if-equal.false) (number-next _ _ _ _ (sym c.equal-2.ensures ∙ c.if-equal-2.false) (number-next _ _ _ _ (sym c.equal-3.ensures ∙ c.if-equal-3.false) (number-next _ _ _ _ (sym c.equal-4.ensures ∙ c.if-equal-4.false) (number-next _ _ _ _ (sym c.equal-5.ensures ∙ c.if-equal-5.false) (number-next _ _ _ _ (sym c.equal-6.ensures ∙ c.if-equal-6.false) (number-next _ _ _ _ (sym c.equal-7.ensures ∙ c.if-equal-7.false) (number-next _ _ _ _ (sym c.equal-8.ensures ∙ c.if-equal-8.false) (number-next _ _ _ _ (sym c.equal-9.ensures ∙ c.if-equal-9.false) (number-next _ _ _ _ (sym c.equal-10.ensures ∙ c.if-equal-10.false) (number-none _)))))))))))
