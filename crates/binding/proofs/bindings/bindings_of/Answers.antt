-- `binding::bindings/bindings_of` meets its contract. Assumes nothing.
use borrow.Author.Rules.{rules}
use native.Mathlib.Omega.{arith}
use Rattle.negating.proofs.Search as S
use Rattle.answers.proofs.Answers as A
use Rattle.filtering.proofs.Read as R
use Rattle.placing.proofs.Inner as I
use Rattle.names.proofs.Laws.{listing-long}
use Rattle.emit.proofs.Writing.{wrote-from}
use Rattle.binding.proofs.Whole as Wh
use Rattle.binding.proofs.bindings.bindings_of.Goals as goal

pub returns-in_default : goal.returns-in_default
returns-in_default c =
    let p = c.requires.0 in let x = c.requires.1 in A.answered _ _ _ _ c.copy.result (Wh.not_found _ _ p.0 x.0 p.1 x.1 (S.says_none _ _ _ c.outermost_projection.ensures c.in_default.is)) c.copy.ensures

pub read_columns-n-requires : goal.read_columns-n-requires
read_columns-n-requires c =
    let p = c.requires.0 in let x = c.requires.1 in (R.tree-short _ p.0 p.1, I.columns-low _ p.0 p.1 _ _ (S.says_at _ _ _ _ c.outermost_projection.ensures c.in-Some.is), search rules)

pub returns-then-not-judged : goal.returns-then-not-judged
returns-then-not-judged c =
    let p = c.requires.0 in let x = c.requires.1 in Wh.outside _ _ p.0 x.0 p.1 x.1 _ _ (S.says_at _ _ _ _ c.outermost_projection.ensures c.in-Some.is) _ _ c.read_columns-n.ensures.1 (listing-long _ _ _ _) c.judge-judged.result c.judge-judged.ensures _ c.if-not-judged.true

pub returns-then-not-judged-2 : goal.returns-then-not-judged-2
returns-then-not-judged-2 c =
    let p = c.requires.0 in let x = c.requires.1 in Wh.unusable _ _ p.0 x.0 p.1 x.1 _ _ (S.says_at _ _ _ _ c.outermost_projection.ensures c.in-Some.is) _ _ c.read_columns-n.ensures.1 (listing-long _ _ _ _) c.judge-judged.result c.judge-judged.ensures c.if-not-judged.false _ c.if-not-judged-2.true

pub inner_end-end-requires : goal.inner_end-end-requires
inner_end-end-requires c =
    let p = c.requires.0 in let x = c.requires.1 in (p, (_, S.says_at _ _ _ _ c.outermost_projection.ensures c.in-Some.is), c.requires.2)

pub has_room-requires : goal.has_room-requires
has_room-requires c =
    let p = c.requires.0 in let x = c.requires.1 in (c.inner_end-end.ensures.low, c.inner_end-end.ensures.high, c.read_columns-n.ensures.0, R.sets-ended _ x.0 x.1, R.tree-short _ p.0 p.1, Wh.sets-short _ x.0 x.1)

pub returns-then-not-has_room : goal.returns-then-not-has_room
returns-then-not-has_room c =
    let p = c.requires.0 in let x = c.requires.1 in Wh.bindings-short _ _ p.0 x.0 p.1 x.1 _ _ (S.says_at _ _ _ _ c.outermost_projection.ensures c.in-Some.is) _ _ c.read_columns-n.ensures.1 (listing-long _ _ _ _) c.judge-judged.result c.judge-judged.ensures c.if-not-judged.false c.if-not-judged-2.false _ c.inner_end-end.ensures _ _ c.has_room.ensures c.if-not-has_room.true-raw

pub put_bindings-requires : goal.put_bindings-requires
put_bindings-requires c =
    let p = c.requires.0 in let x = c.requires.1 in (c.inner_end-end.ensures.low, c.inner_end-end.ensures.high, c.read_columns-n.ensures.0, R.sets-ended _ x.0 x.1)

pub returns : goal.returns
returns c =
    let p = c.requires.0 in let x = c.requires.1 in let g = c.well_formed in let w = wrote-from c.put_bindings.ensures c.new-w.ensures.starts in Wh.bindings-all _ _ p.0 x.0 p.1 x.1 _ _ (S.says_at _ _ _ _ c.outermost_projection.ensures c.in-Some.is) _ _ c.read_columns-n.ensures.1 (listing-long _ _ _ _) c.judge-judged.result c.judge-judged.ensures c.if-not-judged.false c.if-not-judged-2.false _ c.inner_end-end.ensures _ _ c.has_room.ensures _ _ c.if-not-has_room.false-raw (omega (arith, g)) (search rules)
