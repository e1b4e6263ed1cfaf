-- `lines::line/read_line` meets its contract. Assumes nothing.
use Prim.Native.Nat.{◌+◌}
use mathlib.Core.Path.{refl, sym, ◌∙◌, ap, subst}
use native.Mathlib.Omega.{arith}
use Rattle.lines.proofs.StepLaw as S
use Rattle.cursor.proofs.Laws as C
use Rattle.lines.proofs.LineIsLaw as K
use Rattle.lines.proofs.NotesLaw as N
use Rattle.words.specs.bridge.Code.{Tidy}
use Rattle.lines.proofs.line.read_line.Goals as goal

pub word_by-number-requires : goal.word_by-number-requires
word_by-number-requires c = (let h = c.requires.2 in omega (arith, h), c.requires.3)

pub fields-f-requires : goal.fields-f-requires
fields-f-requires c =
    let x = (C.next-at _ _ _ _ c.word_at-word.ensures.0 c.behind.ensures) in let y = x.first.high in let u = x.at in let v = x.end in (S.in-line _ _ _ _ c.requires.0 x, omega arith, (subst (Tidy c.args.w.sort) (sym c.row_at.ensures ∙ c.in-Some.is) c.word_by-number.ensures.tidy).0)

pub overflow_add-d : goal.overflow_add-d
overflow_add-d c =
    let e = c.fields-f.ensures.says.along.0 in let x = c.behind.ensures.1 in let y = c.requires.0.ends in let z = c.requires.0.short in omega arith

pub returns-then-d : goal.returns-then-d
returns-then-d c =
    let x = (C.next-at _ _ _ _ c.word_at-word.ensures.0 c.behind.ensures) in record { line_is = λ m hl hw hh. K.is-wrong _ _ _ _ _ _ _ c.requires.0 c.requires.1 x _ _ _ m _ (c.word_by-number.ensures.row _ c.word_at-word.ensures.1) c.in-Some.row (sym c.row_at.ensures ∙ c.in-Some.is) _ _ _ _ c.fields-f.ensures.says (λ z. c.if-d.true (z ∙ ap (λ e. e + 1) (sym c.fields-f.ensures.says.along.0))); small = tt; notes = λ h. N.none-wrong _ _ _ _ _ _ _ _ _ _ _ _ }

pub returns-then-lines-ge2048 : goal.returns-then-lines-ge2048
returns-then-lines-ge2048 c =
    let x = (C.next-at _ _ _ _ c.word_at-word.ensures.0 c.behind.ensures) in let e = c.if-d.false ∙ ap (λ e. e + 1) c.fields-f.ensures.says.along.0 in record { line_is = λ m hl hw hh. K.is-late _ _ _ _ _ _ _ c.requires.0 c.requires.1 x _ _ _ m _ (c.word_by-number.ensures.row _ c.word_at-word.ensures.1) c.in-Some.row (sym c.row_at.ensures ∙ c.in-Some.is) _ _ _ _ c.fields-f.ensures.says e (rw hl c.if-lines-ge2048.true); small = tt; notes = λ h. N.none_over _ _ _ _ _ _ _ _ _ _ _ _ }

pub returns-then-f-gt-COLUMNS : goal.returns-then-f-gt-COLUMNS
returns-then-f-gt-COLUMNS c =
    let x = (C.next-at _ _ _ _ c.word_at-word.ensures.0 c.behind.ensures) in let e = c.if-d.false ∙ ap (λ e. e + 1) c.fields-f.ensures.says.along.0 in record { line_is = λ m hl hw hh. K.is_wide _ _ _ _ _ _ _ c.requires.0 c.requires.1 x _ _ _ m _ (c.word_by-number.ensures.row _ c.word_at-word.ensures.1) c.in-Some.row (sym c.row_at.ensures ∙ c.in-Some.is) _ _ _ _ c.fields-f.ensures.says e c.if-f-gt-COLUMNS.true; small = tt; notes = λ h. N.none_over _ _ _ _ _ _ _ _ _ _ _ _ }

pub returns-then-f-gt1024 : goal.returns-then-f-gt1024
returns-then-f-gt1024 c =
    let x = (C.next-at _ _ _ _ c.word_at-word.ensures.0 c.behind.ensures) in let e = c.if-d.false ∙ ap (λ e. e + 1) c.fields-f.ensures.says.along.0 in record { line_is = λ m hl hw hh. K.is-full _ _ _ _ _ _ _ c.requires.0 c.requires.1 x _ _ _ m _ (c.word_by-number.ensures.row _ c.word_at-word.ensures.1) c.in-Some.row (sym c.row_at.ensures ∙ c.in-Some.is) _ _ _ _ c.fields-f.ensures.says e _ (c.fields-f.ensures.keeps e _ hh) c.if-f-gt1024.true; small = tt; notes = λ h. N.none_over _ _ _ _ _ _ _ _ _ _ _ _ }

pub opens_level-requires : goal.opens_level-requires
opens_level-requires c = c.requires.2

pub returns-then-opens_level : goal.returns-then-opens_level
returns-then-opens_level c =
    let x = (C.next-at _ _ _ _ c.word_at-word.ensures.0 c.behind.ensures) in let e = c.if-d.false ∙ ap (λ e. e + 1) c.fields-f.ensures.says.along.0 in record { line_is = λ m hl hw hh. K.is-deep _ _ _ _ _ _ _ c.requires.0 c.requires.1 x _ _ _ m _ (c.word_by-number.ensures.row _ c.word_at-word.ensures.1) c.in-Some.row (sym c.row_at.ensures ∙ c.in-Some.is) _ _ _ _ c.fields-f.ensures.says e _ c.opens_level.ensures c.if-opens_level.true c.if-w-eq0.true; small = tt; notes = λ h. N.none_over _ _ _ _ _ _ _ _ _ _ _ _ }

pub returns-else-opens_level : goal.returns-else-opens_level
returns-else-opens_level c = let x = (C.next-at _ _ _ _ c.word_at-word.ensures.0 c.behind.ensures) in
    let e = c.if-d.false ∙ ap (λ e. e + 1) c.fields-f.ensures.says.along.0 in
    let r = c.word_by-number.ensures in record { line_is = λ m hl hw hh. K.is-asked _ _ _ _ _ _ _ c.requires.0 c.requires.1 x _ _ _ m _ (r.row _ c.word_at-word.ensures.1) c.in-Some.row (sym c.row_at.ensures ∙ c.in-Some.is) _ _ _ _ c.fields-f.ensures.says e _ (c.fields-f.ensures.keeps e _ hh) c.word_by-number.result c.spots_behind-j.result hw (rw hl c.if-lines-ge2048.false) c.if-f-gt-COLUMNS.false c.if-f-gt1024.false (K.not-opening c.args.w.sort _ _ c.opens_level.ensures c.if-opens_level.false) r.tidy; small = N.line-sure _ _ _ _ c.requires.0 c.requires.1 x c.args.w.sort c.args.w.mark _ (r.row _ c.word_at-word.ensures.1) (r.flags _ c.word_at-word.ensures.1) r.tidy c.in-Some.row (sym c.row_at.ensures ∙ c.in-Some.is) _ _ _ _ _ c.fields-f.ensures.says e _ _ _ _ _ _ _ _ _ _ _ c.fields-f.ensures.adds c.spots_behind-j.ensures c.if-f-gt1024.false c.word_by-number.result _ _ _ c.word_by-number.ensures.upper_bound refl c.if-lines-ge2048.false (K.not-opening c.args.w.sort _ _ c.opens_level.ensures c.if-opens_level.false); notes = λ h. N.line-notes _ _ _ _ c.requires.0 c.requires.1 x c.args.w.sort c.args.w.mark _ (r.row _ c.word_at-word.ensures.1) (r.flags _ c.word_at-word.ensures.1) r.tidy c.in-Some.row (sym c.row_at.ensures ∙ c.in-Some.is) _ _ _ _ _ c.fields-f.ensures.says e _ _ _ _ _ _ _ _ _ _ _ c.fields-f.ensures.adds c.spots_behind-j.ensures c.if-f-gt1024.false c.word_by-number.result h }

pub returns-else-w-eq0 : goal.returns-else-w-eq0
returns-else-w-eq0 c = let x = (C.next-at _ _ _ _ c.word_at-word.ensures.0 c.behind.ensures) in
    let e = c.if-d.false ∙ ap (λ e. e + 1) c.fields-f.ensures.says.along.0 in
    let r = c.word_by-number.ensures in record { line_is = λ m hl hw hh. K.is-asked _ _ _ _ _ _ _ c.requires.0 c.requires.1 x _ _ _ m _ (r.row _ c.word_at-word.ensures.1) c.in-Some.row (sym c.row_at.ensures ∙ c.in-Some.is) _ _ _ _ c.fields-f.ensures.says e _ (c.fields-f.ensures.keeps e _ hh) c.word_by-number.result c.spots_behind-j.result hw (rw hl c.if-lines-ge2048.false) c.if-f-gt-COLUMNS.false c.if-f-gt1024.false (λ p n. c.if-w-eq0.false n) r.tidy; small = N.line-sure _ _ _ _ c.requires.0 c.requires.1 x c.args.w.sort c.args.w.mark _ (r.row _ c.word_at-word.ensures.1) (r.flags _ c.word_at-word.ensures.1) r.tidy c.in-Some.row (sym c.row_at.ensures ∙ c.in-Some.is) _ _ _ _ _ c.fields-f.ensures.says e _ _ _ _ _ _ _ _ _ _ _ c.fields-f.ensures.adds c.spots_behind-j.ensures c.if-f-gt1024.false c.word_by-number.result _ _ _ c.word_by-number.ensures.upper_bound refl c.if-lines-ge2048.false (λ p n. c.if-w-eq0.false n); notes = λ h. N.line-notes _ _ _ _ c.requires.0 c.requires.1 x c.args.w.sort c.args.w.mark _ (r.row _ c.word_at-word.ensures.1) (r.flags _ c.word_at-word.ensures.1) r.tidy c.in-Some.row (sym c.row_at.ensures ∙ c.in-Some.is) _ _ _ _ _ c.fields-f.ensures.says e _ _ _ _ _ _ _ _ _ _ _ c.fields-f.ensures.adds c.spots_behind-j.ensures c.if-f-gt1024.false c.word_by-number.result h }

pub returns-in_default : goal.returns-in_default
returns-in_default c =
    let x = C.next-at _ _ _ (record { at = _; end = _; awaited = _ }) c.word_at-word.ensures.0 (refl, refl, refl) in record { line_is = λ m hl hw hh. K.is-unknown _ _ _ _ _ _ _ c.requires.0 c.requires.1 x _ _ _ m _ (c.word_by-number.ensures.row _ c.word_at-word.ensures.1) (sym c.row_at.ensures ∙ c.in_default.is); small = tt; notes = λ h. N.none-wrong _ _ _ _ _ _ _ _ _ _ _ _ }
