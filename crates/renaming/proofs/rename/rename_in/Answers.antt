-- `renaming::rename/rename_in` meets its contract. Assumes nothing.
use Rattle.std.proofs.lemmas.List.{length-replicate}
use Rattle.renaming.proofs.rename.rename_in.Goals as goal

pub rename_with-requires : goal.rename_with-requires
rename_with-requires g c = simp length-replicate (c.requires.2, c.requires.3)
