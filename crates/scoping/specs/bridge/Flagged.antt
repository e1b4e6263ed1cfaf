-- The names of a table that are flagged. Assumes nothing.
use Rattle.std.specs.Prelude.{ℕ, suc, List, [], ◌∷◌, cond, get_or, eqb}
use Rattle.text.specs.Text.{Bytes}

-- the names whose flags, from number k on, are set
unfoldable pub chosen : ℕ → List ℕ → List Bytes → List Bytes
chosen k flags [] = []
chosen k flags (f ∷ fs) = cond (eqb (get_or flags k 0) 0) (chosen (suc k) flags fs) (f ∷ chosen (suc k) flags fs)
