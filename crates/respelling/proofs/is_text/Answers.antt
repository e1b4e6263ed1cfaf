-- `respelling::is_text` meets its contract. Assumes nothing.
use Rattle.words.specs.bridge.Key.{key_of}
use Rattle.respelling.proofs.Marked as M
use Rattle.respelling.proofs.is_text.Goals as goal

pub returns-in-1885434984 : goal.returns-in-1885434984
unfolding key_of
returns-in-1885434984 c = λ word keyed. M.path-text word _ keyed _ c.in-1885434984.is

pub returns-in-6383463 : goal.returns-in-6383463
unfolding key_of
returns-in-6383463 c = λ word keyed. M.agg-text word _ keyed _ c.in-6383463.is

pub returns-in-1667329132 : goal.returns-in-1667329132
unfolding key_of
returns-in-1667329132 c = λ word keyed. M.call-text word _ keyed _ c.in-1667329132.is

pub returns-in_default : goal.returns-in_default
unfolding key_of
returns-in_default c =
    λ word keyed. M.no_text word _ keyed _ c.in_default.in_default-own.rest.0.0.1 c.in_default.in_default-own.rest.0.1 c.in_default.in_default-own.rest.1
