-- `operators::line/put_line` meets its contract. Assumes nothing.
use borrow.Author.Rules.{rules}
use native.Mathlib.Omega.{arith}
use Rattle.names.specs.bridge.Names.{names_in}
use Rattle.words.specs.bridge.Key.{key_of}
use Rattle.operators.proofs.Headed as H
use Rattle.operators.proofs.line.put_line.Goals as goal

pub put_leaf-requires : goal.put_leaf-requires
unfolding key_of
put_leaf-requires c = let p = c.requires in (p.1, p.2)

pub put_ref-requires : goal.put_ref-requires
unfolding key_of
put_ref-requires c = c.requires

pub field_at-name-requires : goal.field_at-name-requires
unfolding key_of
field_at-name-requires c = let p = c.requires in (p.1, p.2)

pub slice_bounds-put_unary-count : goal.slice_bounds-put_unary-count
unfolding key_of
slice_bounds-put_unary-count c =
    let i = c.field_at-name.ensures in let low = i.low in let high = i.high in let p = c.requires.1 in omega arith

pub slice_bounds-put_unary-start : goal.slice_bounds-put_unary-start
unfolding key_of
slice_bounds-put_unary-start c =
    let i = c.field_at-name.ensures in let low = i.low in let high = i.high in let p = c.requires.1 in omega arith

pub slice_bounds-put_unary-end : goal.slice_bounds-put_unary-end
unfolding key_of
slice_bounds-put_unary-end c =
    let i = c.field_at-name.ensures in let low = i.low in let high = i.high in let p = c.requires.1 in omega arith

pub put_unary-requires : goal.put_unary-requires
unfolding key_of
put_unary-requires c = search rules

pub field_at-name-requires-in-6449518 : goal.field_at-name-requires-in-6449518
unfolding key_of
field_at-name-requires-in-6449518 c = let p = c.requires in (p.1, p.2)

pub slice_bounds-put_binary-count : goal.slice_bounds-put_binary-count
unfolding key_of
slice_bounds-put_binary-count c =
    let i = c.field_at-name-in-6449518.ensures in let low = i.low in let high = i.high in let p = c.requires.1 in omega arith

pub slice_bounds-put_binary-start : goal.slice_bounds-put_binary-start
unfolding key_of
slice_bounds-put_binary-start c =
    let i = c.field_at-name-in-6449518.ensures in let low = i.low in let high = i.high in let p = c.requires.1 in omega arith

pub slice_bounds-put_binary-end : goal.slice_bounds-put_binary-end
unfolding key_of
slice_bounds-put_binary-end c =
    let i = c.field_at-name-in-6449518.ensures in let low = i.low in let high = i.high in let p = c.requires.1 in omega arith

pub put_binary-requires : goal.put_binary-requires
unfolding key_of
put_binary-requires c = search rules

pub returns-in-1818583398 : goal.returns-in-1818583398
unfolding key_of
returns-in-1818583398 c =
    λ f k. let a = c.args in H.head-leaf f _ k _ _ _ (names_in a.tree.now a.columns.now a.n) _ _ _ c.in-1818583398.is c.put_leaf.ensures

pub returns-in-7497062 : goal.returns-in-7497062
unfolding key_of
returns-in-7497062 c =
    λ f k. let a = c.args in H.head-ref f _ k _ _ _ (names_in a.tree.now a.columns.now a.n) _ _ _ c.in-7497062.is c.put_ref.ensures

pub returns-in-30062 : goal.returns-in-30062
unfolding key_of
returns-in-30062 c =
    λ f k. let a = c.args in H.head-un f _ k _ _ _ (names_in a.tree.now a.columns.now a.n) _ _ _ _ c.field_at-name.ensures c.in-30062.is c.put_unary.ensures

pub returns-in-6449518 : goal.returns-in-6449518
unfolding key_of
returns-in-6449518 c =
    λ f k. let a = c.args in H.head-bin f _ k _ _ _ (names_in a.tree.now a.columns.now a.n) _ _ _ _ c.field_at-name-in-6449518.ensures c.in-6449518.is c.put_binary.ensures

pub returns-in_default : goal.returns-in_default
unfolding key_of
returns-in_default c =
    λ f k. let a = c.args in let n = c.in_default.in_default-own.rest in H.head-none f _ k _ _ _ (names_in a.tree.now a.columns.now a.n) _ n.0.0.0.1 n.0.0.1 n.0.1 n.1
