-- `checking::place/take_line` meets its contract. Assumes nothing.
use mathlib.Core.Path.{ap, subst}
use native.Mathlib.Omega.{arith}
use Rattle.lines.specs.bridge.Says.{Small}
use Rattle.checking.proofs.DescentLaw as D
use Rattle.lines.proofs.NotesLaw as N
use Rattle.checking.proofs.WalksLaw as W
use Rattle.std.proofs.lemmas.Result.{err_from_is_err_and}
use Rattle.checking.proofs.place.take_line.Goals as goal

pub returns-then-s-at : goal.returns-then-s-at
returns-then-s-at c =
    record { runs = tt; refused = λ ρ ws m st. D.line-missing _ _ _ _ ρ ws c.args.w.sort c.args.w.level c.args.w.width c.args.p m _ c.if-s-at.true; sound = tt; walks = λ low. tt }

pub next_line-c-requires : goal.next_line-c-requires
next_line-c-requires c = let n = c.if-s-at.false in omega (arith, n)

pub returns-then-c-s : goal.returns-then-c-s
returns-then-c-s c =
    record { runs = tt; refused = λ ρ ws m st. D.line-open _ _ _ _ ρ ws c.args.w.sort c.args.w.level c.args.w.width c.args.p m _ c.next_line-c.ensures.0 c.next_line-c.ensures.1 _ c.if-s-at.false c.if-c-s.true; sound = tt; walks = λ low. tt }

pub read_line-requires : goal.read_line-requires
read_line-requires c =
    let f = c.next_line-c.ensures in let a = ap (λ k. k.at) f.0 in (record { short = c.requires.1.short; ends = (let h = f.1.high in let n = c.if-c-s.false in omega (arith, n, h)); plain = λ k l u. f.1.before k u (let g = a in omega (arith, l, g)) }, (let h = f.1.low in omega (arith, h, a)), c.requires.0, c.requires.2)

pub put_node-m-requires : goal.put_node-m-requires
put_node-m-requires c =
    let q = subst (Small _ _ c.args.w.sort c.args.w.level c.args.p.lines) c.in_ok-a.was c.read_line.ensures.small in (c.requires.0, q.number, q.first, q.second)

pub line_done-cursor-requires : goal.line_done-cursor-requires
line_done-cursor-requires c = let h = c.next_line-c.ensures.1.high in let n = c.requires.1.short in omega (arith, h, n)

pub overflow_add-result : goal.overflow_add-result
overflow_add-result c =
    let n = c.requires.1.short in let f = c.requires.1.few in let l = c.if-s-at.false in omega (arith, n, f, l)

pub returns-in_err-a : goal.returns-in_err-a
returns-in_err-a c = let f = c.next_line-c.ensures in
    let p = err_from_is_err_and c.from_residual.result c.from_residual.ensures.1 in
    rw (p.1, p.2) (record { runs = tt; refused = λ ρ ws m st. D.line-refused _ _ _ _ ρ ws c.args.w.sort c.args.w.level c.args.w.width c.args.p m _ f.0 f.1 (let h = f.1.high in let n = c.if-c-s.false in omega (arith, n, h)) _ (c.read_line.ensures.line_is m st.lines st.wide st.names) _ _ c.in_err-a.was; sound = tt; walks = λ low. tt })

pub returns : goal.returns
returns c = let f = c.next_line-c.ensures in
    let h = f.1.high in
    let n = c.if-c-s.false in
    let q = subst (Small _ _ c.args.w.sort c.args.w.level c.args.p.lines) c.in_ok-a.was c.read_line.ensures.small in record {
      runs = λ ρ ws m st. D.line-asks _ _ _ _ ρ ws c.args.w.sort c.args.w.level c.args.w.width c.args.p m _ f.0 f.1 (omega (arith, n, h)) _ (c.read_line.ensures.line_is m st.lines st.wide st.names) _ c.in_ok-a.was st.lines _ c.line_done-cursor.ensures _;
      refused = tt;
      sound = let l = f.1.low in
          let d = ap (λ k. k.at) c.line_done-cursor.ensures in
          let o = c.requires.1.short in
          let g = c.requires.1.few in record { inside = omega (arith, l, h, n, o); ahead = record { behind = omega (arith, l, d); ready = record { short = o; few = omega (arith, l, g, d) }; deep = q.deep }; sorts = q.tidy.1; trees = λ low. (N.plain_row c.args.w.sort c.in_ok-a.a.row low q.tidy.2).sorts; small = (q.first, q.second); head = q.head };
      walks = λ low. W.line-walked _ c.requires.1.short _ _ _ _ _ _ _ _ _ c.args.p c.args.w.sort c.args.w.mark c.args.w.level _ f.0 f.1 (omega (arith, n, h)) _ q _ c.put_node-m.ensures _ c.line_done-cursor.ensures _ c.in_ok-a.was (c.read_line.ensures.notes low);
    }
