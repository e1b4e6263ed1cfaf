-- `spelling::before/put_triple` meets its contract. Assumes nothing.
use Rattle.spelling.proofs.Fielded as F
use Rattle.spelling.proofs.before.put_triple.Goals as goal

pub field_at-subject-requires : goal.field_at-subject-requires
field_at-subject-requires c = c.requires

pub field_at-predicate-requires : goal.field_at-predicate-requires
field_at-predicate-requires c = (c.requires.0, c.field_at-subject.ensures.last)

pub put_between-a-requires : goal.put_between-a-requires
put_between-a-requires c = c.requires

pub put_between-b-requires : goal.put_between-b-requires
put_between-b-requires c = (c.requires.0, c.field_at-subject.ensures.last)

pub put_between-requires : goal.put_between-requires
put_between-requires c = (c.requires.0, c.field_at-predicate.ensures.last)

pub returns : goal.returns
returns c =
    F.triple _ _ _ _ c.field_at-subject.ensures _ c.field_at-predicate.ensures _ _ _ _ c.put_between-a.ensures c.put_between-b.ensures c.put_between.ensures
