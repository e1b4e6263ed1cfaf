-- `sides::writing/put_side` meets its contract. Assumes nothing.
use mathlib.Core.Path.{◌∙◌}
use Rattle.sides.proofs.Trees as T
use Rattle.sides.proofs.Sides as S
use Rattle.sides.proofs.writing.put_side.Goals as goal

pub put_renamed-requires : goal.put_renamed-requires
put_renamed-requires c =
    let d = c.requires.5 in let p = S.placed _ _ _ _ _ _ _ _ _ _ _ _ _ _ _ _ _ _ d in let r = d.renamed in (T.tree-high _ _ _ _ _ _ _ p.stands, T.tree-once _ _ _ _ _ _ _ p.stands, T.inner-inside _ _ _ _ _ _ _ _ _ p _ _ r, T.inner-marked _ _ _ _ _ _ _ _ _ p _ _ r, T.inner-few _ _ _ _ _ _ _ _ _ p _ _ r, T.marked-inner-stands _ _ _ _ _ _ _ _ _ p _ _ r)

pub put_values-requires : goal.put_values-requires
put_values-requires c =
    let d = c.requires.5 in (S.terms-few _ _ _ _ _ _ _ _ _ _ _ _ _ _ _ _ _ _ d, d.found.long, S.side-narrow _ _ _ _ _ _ _ _ _ _ _ _ _ _ _ _ _ _ d, S.side-below _ _ _ _ _ _ _ _ _ _ _ _ _ _ _ _ _ _ d, S.side-inside _ _ _ _ _ _ _ _ _ _ _ _ _ _ _ _ _ _ d, S.side-ones _ _ _ _ _ _ _ _ _ _ _ _ _ _ _ _ _ _ d)

pub returns : goal.returns
returns c =
    λ prefix second x js ks d u. let t = S.placed _ _ _ _ _ _ _ _ _ _ _ _ _ _ _ _ _ _ d in
    let v = c.put_values.ensures ks d.found.is.kept u in
    record {
      same = v.same ∙ c.put_renamed.ensures.same ∙ (c.put_join.ensures u).same;
      puts = v.puts ∙ T.inner-written _ _ _ _ _ _ _ _ x t _ _ _ d.renames _ _ (T.marked-inner _ _ _ _ _ _ _ _ x t _ _ d.renamed _ _ _ c.put_renamed.ensures.is) _ ∙ (c.put_join.ensures _).puts;
    }
