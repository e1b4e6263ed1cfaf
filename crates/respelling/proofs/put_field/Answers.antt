-- `respelling::put_field` meets its contract. Assumes nothing.
use borrow.Author.Tests.{not-false}
use Rattle.respelling.proofs.Turns as T
use native.Mathlib.Omega.{arith}
use Rattle.respelling.proofs.put_field.Goals as goal

pub returns-then-not-is_iri_at : goal.returns-then-not-is_iri_at
returns-then-not-is_iri_at c =
    (let h = c.requires.0 in let k = c.requires.1 in omega arith, λ word keyed. T.field-stays _ _ _ _ word _ _ (c.is_iri_at.ensures.0 word keyed) _ _ c.requires.0 c.requires.1 c.if-not-is_iri_at.true-raw)

pub put_iri-requires : goal.put_iri-requires
put_iri-requires c =
    let s = c.is_iri_at.ensures.1 (not-false _ c.if-not-is_iri_at.false-raw) in (c.requires.0, s.0, c.requires.2, s.1, c.requires.3)

pub returns : goal.returns
returns c =
    (c.put_iri.ensures.0, λ word keyed. T.field-iri _ _ _ _ word _ _ (c.is_iri_at.ensures.0 word keyed) _ _ _ _ c.if-not-is_iri_at.false-raw c.put_iri.ensures.1)
