-- `words::key_of` meets its contract. Assumes nothing.
use borrow.Author.Rules.{rules}
use Rattle.words.proofs.KeyLaws.{keyed-long, keyed-empty, keyed-zero, keyed-told}
use Rattle.words.proofs.key_of.Goals as goal

pub returns-then-size-gt8 : goal.returns-then-size-gt8
returns-then-size-gt8 c = keyed-long _ _ c.args.w c.requires.0 c.requires.1 c.if-size-gt8.true

pub returns-then-size-eq0 : goal.returns-then-size-eq0
returns-then-size-eq0 c = keyed-empty _ _ c.args.w c.requires.0 c.requires.1 c.if-size-eq0.true

pub returns-then-s-from-eq0 : goal.returns-then-s-from-eq0
returns-then-s-from-eq0 c = keyed-zero _ _ c.args.w c.requires.0 c.requires.1 c.if-size-eq0.false c.if-s-from-eq0.true

pub returns : goal.returns
returns c =
    keyed-told _ _ c.args.w c.requires.0 c.requires.1 c.if-size-eq0.false (search rules) c.if-s-from-eq0.false c.requires.2
