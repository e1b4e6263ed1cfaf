-- The narrow table loses nothing: an entry of 16 bits and 16 bits tells where a name stands in its text and how long it is. Assumes nothing.
use Prim.Native.Nat.{ℕ, ◌≤◌, ◌<◌}
use mathlib.Core.Path.{◌≡◌, ◌∙◌, ap}
use mathlib.Core.List.{[], ◌∷◌}
use native.Mathlib.Nat.{mod-eq_of_lt}
use native.Mathlib.Omega.{arith}
use lib.ListN.{length}
use Rattle.text.specs.Text.{Bytes}
use Rattle.algebra.specs.Tally.{bounds}
use Rattle.names.specs.Narrow.{narrow_entry, read_back, StandsAt}

-- two numbers of at most 16 bits are kept as they are
pub kept_whole : (from size : ℕ) → from < 65536 → size < 65536 → narrow_entry from size ≡ from ∷ size ∷ []
kept_whole from size a b = λ i. mod-eq_of_lt {n = from} {m = 65536} a i ∷ mod-eq_of_lt {n = size} {m = 65536} b i ∷ []

-- of a name in a text of at most 16,384 bytes the entry keeps exactly its start and its size, and the name is read back byte for byte
pub narrow-loses-nothing : (s f : Bytes) (at : ℕ) → length s ≤ bounds.bytes → StandsAt s f at → (narrow_entry at (length f) ≡ at ∷ length f ∷ []) × (read_back s (narrow_entry at (length f)) ≡ f)
narrow-loses-nothing s f at short stands =
    let k = kept_whole at (length f) (let h = stands.inside in omega arith) (let h = stands.inside in omega arith) in
    (k, ap (read_back s) k ∙ stands.here)
