-- `surveying::scope/scope_of` meets its contract. Assumes nothing.
use Rattle.std.proofs.Common.{rules}
use Rattle.names.specs.bridge.Names.{names_in}
use Rattle.surveying.specs.bridge.Code.{chosen_text}
use Rattle.surveying.proofs.Tables as T
use Rattle.surveying.proofs.Scoped as S
use Rattle.surveying.proofs.scope.scope_of.Goals as goal

pub note_places-requires : goal.note_places-requires
note_places-requires c = T.surveyed-inside _ _ _ _ _ _ c.requires

pub write_answer-requires : goal.write_answer-requires
write_answer-requires c = let h = T.surveyed-high _ _ _ _ _ _ c.requires in search rules

pub returns : goal.returns
returns c =
    let b = chosen_text c.note_places.new.flags (names_in c.args.tree.now c.args.table.now c.args.n) in
    S.scope-answered _ _ _ _ _ _ c.requires _ c.note_places.ensures _ _ _ (c.write_answer.ensures b (λ w w' p. search rules))
