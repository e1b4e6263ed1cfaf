-- The descent: a line, the groups that it asks for, the lines of a group. The bytes that are left fall from a line to what it asks for. Assumes nothing.
use borrow.Author.Tests.{not-true, not-false}
use native.Mathlib.Omega.{arith}
use Prim.Native.Nat.{◌/◌, ◌%◌}
use Rattle.algebra.specs.bridge.Machine.{want}
use Rattle.words.specs.bridge.Code.{sort_at}
use Rattle.lines.specs.bridge.Says.{below}
use mathlib.Core.Path.{refl, sym, ◌∙◌, ap}
use mathlib.Core.Bool.{true≢false}
use mathlib.Core.List.{[], ◌∷◌}
use lib.ListN.{replicate}
use lib.Dec.{eqb}
use Rattle.scoping.specs.bridge.Walk.{child, tree}
use Rattle.scoping.specs.bridge.Spots.{spot_line}
use Rattle.lines.specs.bridge.Spotted.{mark_at}
use Rattle.std.proofs.lemmas.Result.{IfOk-weaker, err_from_is_err_and}
use Rattle.checking.proofs.WalksLaw as W
use Rattle.checking.proofs.DescentLaw as D
use Rattle.checking.proofs.GroupsLaw as G
use Rattle.checking.proofs.OneLaw as O
use Rattle.checking.proofs.descent.+check_below_check_line_check_lines.Goals as goal

-- The descent: a line, the groups that it asks for, the lines of a group. The bytes that are left fall from a line to what it asks for. Assumes nothing.

pub check_below-loop-code-init : goal.check_below-loop-code-init
check_below-loop-code-init t c =
    (c.requires.3, omega arith, refl, refl, G.left-begin _ c.args.level c.args.t.first c.args.t.second c.args.t.row.flag c.args.mark c.args.t.row.below _ _ _ _ _ _ _ c.requires.0)

pub check_below-amount-times-requires : goal.check_below-amount-times-requires
check_below-amount-times-requires t c = (c.requires.1, c.requires.2)

pub check_below-overflow_cast-code : goal.check_below-overflow_cast-code
check_below-overflow_cast-code t c = omega arith

pub check_below-check_lines-requires : goal.check_below-check_lines-requires
check_below-check_lines-requires t c =
    let y = ap (λ k. k.at) c.awaiting-cursor.ensures in (let p = c.decreases in let x = c.loop-code.invariant.1 in omega (arith, p, x, y), (G.left-sort _ _ _ _ _ _ _ _ _ _ _ _ _ _ _ _ _ _ _ _ _ c.loop-code.invariant.4 c.loop-code-test.true, D.ready_moved _ _ _ (D.other-cursor c.loop-code.q _ y) c.loop-code.invariant.0, c.requires.4))

pub check_below-shape_of-spots-in_err-q : goal.check_below-shape_of-spots-in_err-q
check_below-shape_of-spots-in_err-q t c = c.check_lines.auto.spots ∙ c.loop-code.invariant.2

pub check_below-shape_of-nodes-in_err-q : goal.check_below-shape_of-nodes-in_err-q
check_below-shape_of-nodes-in_err-q t c = c.check_lines.auto.nodes ∙ c.loop-code.invariant.3

pub check_below-returns-in_err-q : goal.check_below-returns-in_err-q
check_below-returns-in_err-q t c =
    let y = c.awaiting-cursor.ensures in
    let p = err_from_is_err_and c.from_residual.result c.from_residual.ensures.1 in
    rw (p.1, p.2) (record {
      runs = G.left-stop _ _ _ _ _ _ _ _ _ _ _ _ _ _ _ _ _ _ _ _ _ c.loop-code.invariant.4 c.loop-code-test.true _ (ap (λ k. k.awaited) y ∙ c.amount-times.ensures) _ _ _ _ (D.rest-moved _ _ _ _ c.loop-code.q _ _ _ _ (replicate c.awaiting-cursor.result.awaited (want (sort_at (c.loop-code.code / 32 % 16)) c.args.level c.args.t.first)) [] _ (D.other-cursor c.loop-code.q _ (ap (λ k. k.at) y)) (c.in_err-q.ensures.runs refl));
      ready = tt;
      walks = λ low. tt;
    })

pub check_below-loop-code-smaller : goal.check_below-loop-code-smaller
check_below-loop-code-smaller t c = let z = c.loop-code-test.true in omega (arith, z)

pub check_below-loop-code-preserved : goal.check_below-loop-code-preserved
check_below-loop-code-preserved t c = let y = c.awaiting-cursor.ensures in
    let at = ap (λ k. k.at) y in
    let e = c.in_ok-q.ensures in
    let u = e.ready in (
      u.1,
      (let v = u.0 in let x = c.loop-code.invariant.1 in omega (arith, v, x, at)),
      c.check_lines.auto.spots ∙ c.loop-code.invariant.2,
      c.check_lines.auto.nodes ∙ c.loop-code.invariant.3,
      G.left-next _ _ _ _ _ _ _ _ _ _ _ _ _ _ _ _ _ _ _ _ _ c.loop-code.invariant.4 c.loop-code-test.true _ (ap (λ k. k.awaited) y ∙ c.amount-times.ensures) _ _ _ _ (D.rest-moved _ _ _ _ c.loop-code.q _ _ _ _ (replicate c.awaiting-cursor.result.awaited (want (sort_at (c.loop-code.code / 32 % 16)) c.args.level c.args.t.first)) [] _ (D.other-cursor c.loop-code.q _ at) (e.runs refl)) _ _ (λ low. W.walks_from _ _ c.loop-code.q _ _ _ _ at (e.walks refl low)),
    )

pub check_below-shape_of-spots : goal.check_below-shape_of-spots
check_below-shape_of-spots t c = c.loop-code.invariant.2

pub check_below-shape_of-nodes : goal.check_below-shape_of-nodes
check_below-shape_of-nodes t c = c.loop-code.invariant.3

pub check_below-returns : goal.check_below-returns
check_below-returns t c =
    let v = c.loop-code.invariant in record { runs = G.left-went _ _ _ _ _ _ _ _ _ _ _ _ _ _ _ _ _ _ _ _ _ v.4 c.loop-code-test.false; ready = (v.1, v.0); walks = λ low. G.left-walked _ _ _ _ _ _ _ _ _ _ _ _ _ _ _ _ _ _ _ _ _ v.4 c.loop-code-test.false low }

pub check_line-take_line-requires : goal.check_line-take_line-requires
check_line-take_line-requires t c = c.requires

pub check_line-returns-in_err-t : goal.check_line-returns-in_err-t
check_line-returns-in_err-t t c =
    let p = err_from_is_err_and c.from_residual.result c.from_residual.ensures.1 in
    let e = c.in_err-t.ensures in
    rw (p.1, p.2) (record { runs = λ w. e.refused; ready = tt; walks = λ w low. tt; head = λ w h. D.rest-stop _ _ _ _ c.args.p _ _ _ (want (sort_at c.args.w.sort) c.args.w.level c.args.w.width ∷ []) [] (want (sort_at 2) (below c.args.w.sort c.args.w.level) 0 ∷ []) _ e.refused; shown = λ w h v. tt })

pub check_line-returns-then-not-whole : goal.check_line-returns-then-not-whole
check_line-returns-then-not-whole t c =
    let n = not-true c.args.whole c.if-not-whole.true-raw in
    let t = c.in_ok-t.t in
    let e = c.in_ok-t.ensures in
    let k = e.sound in record {
      runs = λ w. absurd (true≢false (sym w ∙ n));
      ready = k.ahead;
      walks = λ w. absurd (true≢false (sym w ∙ n));
      head = λ w h. D.head-goes _ _ _ _ c.args.p _ _ _ (want (sort_at c.args.w.sort) c.args.w.level c.args.w.width ∷ []) (below c.args.w.sort c.args.w.level) t.row t.first t.second _ (k.head h) e.runs;
      shown = λ w h v. W.head-alone _ _ _ _ t c.args.w.sort c.args.w.mark h v (k.head h) (e.walks (omega (arith, h)));
    }

pub check_line-returns-then-t-eq0 : goal.check_line-returns-then-t-eq0
check_line-returns-then-t-eq0 t c =
    let t = c.in_ok-t.t in
    let e = c.in_ok-t.ensures in
    let k = e.sound in
    let a = not-false c.args.whole c.if-not-whole.false-raw in record {
      runs = λ w ρ ws m st. D.alone-went _ ρ ws _ t.row.below (below c.args.w.sort c.args.w.level) t.first t.second _ _ _ _ c.if-t-eq0.true (e.runs ρ ws m st);
      ready = k.ahead;
      walks = λ w low. W.entry-alone _ _ _ _ c.args.w.level c.args.w.sort c.args.w.mark t (e.walks low) c.if-t-eq0.true;
      head = λ w. absurd (true≢false (sym a ∙ w));
      shown = λ w. absurd (true≢false (sym a ∙ w));
    }

pub check_line-below_level-d-requires : goal.check_line-below_level-d-requires
check_line-below_level-d-requires t c = c.requires.0

pub check_line-check_below-requires : goal.check_line-check_below-requires
check_line-check_below-requires t c =
    let k = c.in_ok-t.ensures.sound in (let p = c.decreases in let i = k.inside in let b = k.ahead.behind in omega (arith, p, i, b), (k.sorts, k.small.0, k.small.1, k.ahead.ready, c.requires.2))

pub check_line-returns : goal.check_line-returns
check_line-returns t c = let t = c.in_ok-t.t in
    let e = c.in_ok-t.ensures in
    let d = e.sound in
    let a = not-false c.args.whole c.if-not-whole.false-raw in record {
      runs = λ w ρ ws m st. D.below-went _ ρ ws _ t.row.below (below c.args.w.sort c.args.w.level) t.first t.second _ _ _ _ _ _ _ _ _ c.below_level-d.ensures (e.runs ρ ws m st) c.check_below.ensures.runs;
      ready = D.ahead-then _ _ _ _ _ _ d.ahead c.check_below.ensures.ready;
      walks = λ w low. IfOk-weaker _ _ _ (λ r. W.entry-below _ _ _ _ c.args.w.level c.args.w.sort c.args.w.mark t (e.walks low) _ c.below_level-d.ensures _ r) (c.check_below.ensures.walks (d.trees low));
      head = λ w. absurd (true≢false (sym a ∙ w));
      shown = λ w. absurd (true≢false (sym a ∙ w));
    }

pub check_lines-loop-q-init : goal.check_lines-loop-q-init
check_lines-loop-q-init t c = (
  c.requires.1,
  omega arith,
  (λ wh. D.rest-begin _ _ _ _ _ (replicate c.args.p.cursor.awaited (want (sort_at c.args.w.sort) c.args.w.level c.args.w.width))),
  refl,
  refl,
  (λ wh low. W.left-begin _ _ _ (child spot_line (tree spot_line c.args.w.level) (eqb c.args.flag 1) (mark_at c.args.w.mark) (sort_at c.args.w.sort)) c.args.p.cursor.awaited),
  omega arith,
  (λ lt. absurd (omega (arith, lt))),
  λ e. O.sole-begin _ _ _ _ _ c.args.p c.args.w.sort c.args.w.level c.args.w.width (eqb c.args.flag 1) (mark_at c.args.w.mark) c.args.whole c.args.p.cursor.awaited e,
)

pub check_lines-check_line-requires : goal.check_lines-check_line-requires
check_lines-check_line-requires t c =
    (let p = c.decreases in let x = c.loop-q.invariant.1 in omega (arith, p, x), (c.requires.0, c.loop-q.invariant.0, c.requires.2))

pub check_lines-shape_of-spots-in_err-q : goal.check_lines-shape_of-spots-in_err-q
check_lines-shape_of-spots-in_err-q t c = c.check_line.auto.spots ∙ c.loop-q.invariant.3

pub check_lines-shape_of-nodes-in_err-q : goal.check_lines-shape_of-nodes-in_err-q
check_lines-shape_of-nodes-in_err-q t c = c.check_line.auto.nodes ∙ c.loop-q.invariant.4

pub check_lines-returns-in_err-q : goal.check_lines-returns-in_err-q
check_lines-returns-in_err-q t c = let v = c.loop-q.invariant in
    let e = c.in_err-q.ensures in
    let p = err_from_is_err_and c.from_residual.result c.from_residual.ensures.1 in
    rw (p.1, p.2) (record {
      runs = λ wh. D.rest-stop _ _ _ _ c.args.p _ _ _ (replicate c.args.p.cursor.awaited (want (sort_at c.args.w.sort) c.args.w.level c.args.w.width)) _ [] _ (D.lines-one _ _ _ _ _ _ _ _ (want (sort_at c.args.w.sort) c.args.w.level c.args.w.width) c.args.p.cursor.awaited _ _ (v.2 wh) c.loop-q-test.true _ _ _ _ (e.runs wh));
      ready = tt;
      walks = λ wh low. tt;
      one = λ o wh low. tt;
      head = λ o w h. O.sole-head _ _ _ _ _ c.args.p c.args.w.sort c.args.w.level c.args.w.width (eqb c.args.flag 1) (mark_at c.args.w.mark) c.args.whole _ _ _ _ _ _ c.args.p.cursor.awaited v.8 c.loop-q-test.true v.6 _ _ _ _ o (e.head w h);
      shown = λ o w h g. tt;
    })

pub check_lines-child_done-cursor-requires : goal.check_lines-child_done-cursor-requires
check_lines-child_done-cursor-requires t c = c.loop-q-test.true

pub check_lines-loop-q-smaller : goal.check_lines-loop-q-smaller
check_lines-loop-q-smaller t c =
    let a = c.loop-q-test.true in let d = ap (λ k. k.awaited) c.child_done-cursor.ensures in omega (arith, a, d)

pub check_lines-loop-q-preserved : goal.check_lines-loop-q-preserved
check_lines-loop-q-preserved t c = let e = c.in_ok-q.ensures in
    let w = e.ready in
    let d = c.child_done-cursor.ensures in
    let at = ap (λ k. k.at) d in
    let fewer = ap (λ k. k.awaited) d in
    let v = c.loop-q.invariant in
    let same = D.other-cursor c.in_ok-q.q _ at in (
      D.ready_moved _ _ _ same w.ready,
      (let y = w.behind in let x = v.1 in omega (arith, y, x, at)),
      (λ wh. D.lines-moved _ _ _ _ _ _ _ _ (want (sort_at c.args.w.sort) c.args.w.level c.args.w.width) c.args.p.cursor.awaited _ _ _ same _ fewer (D.lines-one _ _ _ _ _ _ _ _ (want (sort_at c.args.w.sort) c.args.w.level c.args.w.width) c.args.p.cursor.awaited _ _ (v.2 wh) c.loop-q-test.true _ _ _ _ (e.runs wh))),
      c.check_line.auto.spots ∙ v.3,
      c.check_line.auto.nodes ∙ v.4,
      (λ wh low. W.left-moved _ _ _ _ _ _ _ c.args.p.cursor.awaited _ _ at fewer (W.left-next _ _ _ _ _ _ _ c.args.w.level c.args.flag c.args.w.mark c.args.w.sort c.args.p.cursor.awaited c.loop-q.q.cursor.awaited c.mark_below-mark.result (eqb c.loop-q.q.cursor.awaited 1) (v.5 wh low) c.loop-q-test.true (W.last_one _ c.loop-q-test.true) c.mark_below-mark.ensures low w.deep (e.walks wh (omega (arith, low))))),
      (let x = v.6 in omega (arith, x, fewer)),
      (λ lt. record { behind = (let y = w.behind in let x = v.1 in omega (arith, y, x, at)); ready = D.ready_moved _ _ _ same w.ready; deep = w.deep }),
      O.sole-next _ _ _ _ _ c.args.p c.args.w.sort c.args.w.level c.args.w.width (eqb c.args.flag 1) (mark_at c.args.w.mark) c.args.whole _ _ _ _ _ _ c.args.p.cursor.awaited v.8 c.loop-q-test.true v.6 _ _ _ _ _ (mark_at c.mark_below-mark.result) c.mark_below-mark.ensures e.walks e.head e.shown _ same _ fewer,
    )

pub check_lines-shape_of-spots : goal.check_lines-shape_of-spots
check_lines-shape_of-spots t c = c.loop-q.invariant.3

pub check_lines-shape_of-nodes : goal.check_lines-shape_of-nodes
check_lines-shape_of-nodes t c = c.loop-q.invariant.4

pub check_lines-returns : goal.check_lines-returns
check_lines-returns t c =
    let v = c.loop-q.invariant in let l = c.loop-q-test.false in record { runs = (λ wh. D.lines-all _ _ _ _ _ _ _ _ (want (sort_at c.args.w.sort) c.args.w.level c.args.w.width) c.args.p.cursor.awaited _ _ (v.2 wh) l); ready = (v.1, v.0, λ some. v.7 (omega (arith, some, l))); walks = (λ wh low. W.left-done _ _ _ _ _ (child spot_line (tree spot_line c.args.w.level) (eqb c.args.flag 1) (mark_at c.args.w.mark) (sort_at c.args.w.sort)) c.args.p.cursor.awaited c.loop-q.q.cursor.awaited (v.5 wh low) l); one = (λ o wh low. (v.8 o).entry (omega (arith, l)) wh low); head = (λ o w h. (v.8 o).head (omega (arith, l)) w h); shown = λ o w h g. (v.8 o).shown (omega (arith, l)) w h g }
