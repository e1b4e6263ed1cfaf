-- `renaming::rename/rename_keyed` meets its contract. Assumes nothing.
use Rattle.std.proofs.lemmas.List.{length-replicate}
use Rattle.lists.specs.bridge.Pairs.{Enough}
use Rattle.renaming.proofs.rename.rename_keyed.Goals as goal

pub rename_listed-requires : goal.rename_listed-requires
unfolding Enough
rename_listed-requires g c = (c.requires.2, λ n a b. simp length-replicate (c.requires.1 n a b))
