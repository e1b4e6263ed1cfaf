-- A line by its place in the text. Assumes nothing.
use Prim.Native.Nat.{ℕ, ◌≤◌, ◌<◌}
use mathlib.Core.Path.{◌≡◌}
use mathlib.Core.List.{[], ◌∷◌}
use mathlib.Core.Logic.{◌⊎◌, inl, inr}
use native.Mathlib.Omega.{arith}
use native.Mathlib.Decide.{dec_lt}
use lib.ListN.{length}
use Rattle.text.specs.Text.{Bytes, lines_from}
use Rattle.text.proofs.Places.{lines_end, lines-open}
use Rattle.reader.specs.bridge.Lines.{LineEnd}

pub nothing-here : (s : Bytes) (from end : ℕ) → LineEnd s from end → end ≡ length s → (lines_from s from ≡ []) ⊎ (lines_from s from ≡ [] ∷ [])
nothing-here s from end l e = go (dec_lt from (length s))
  where
    go : Dec (from < length s) → (lines_from s from ≡ []) ⊎ (lines_from s from ≡ [] ∷ [])
    go (yes h) = inr (lines-open s from end h (l.none e (let n : length s ≤ from → ⊥ = omega arith in n)) e)
    go (no h) = inl (lines_end s from (omega arith))
