-- `phrasing::verdict/triple` meets its contract. Assumes nothing.
use Rattle.spelling.proofs.Fielded as S
use Rattle.phrasing.proofs.verdict.triple.Goals as goal

pub field_at-subject-requires : goal.field_at-subject-requires
field_at-subject-requires c = c.requires

pub field_at-predicate-requires : goal.field_at-predicate-requires
field_at-predicate-requires c = (c.requires.0, c.field_at-subject.ensures.last)

pub blank_at-requires : goal.blank_at-requires
blank_at-requires c = c.requires

pub blank_at-requires-2 : goal.blank_at-requires-2
blank_at-requires-2 c = (c.requires.0, c.field_at-predicate.ensures.last)

pub allowed_at-requires : goal.allowed_at-requires
allowed_at-requires c = (c.requires.0, c.field_at-subject.ensures.last)

pub allowed_at-requires-2 : goal.allowed_at-requires-2
allowed_at-requires-2 c = (c.requires.0, c.field_at-predicate.ensures.last)

pub allowed_at-requires-3 : goal.allowed_at-requires-3
allowed_at-requires-3 c = c.requires

pub returns : goal.returns
returns c =
    let s = S.second _ _ _ _ c.field_at-subject.ensures in let t = S.third _ _ _ _ c.field_at-subject.ensures _ c.field_at-predicate.ensures in cc
