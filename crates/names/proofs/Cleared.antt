-- A table that was cleared. Assumes nothing.
use Prim.Native.Nat.{ℕ, zero, suc}
use mathlib.Core.Path.{◌≡◌, refl}
use lib.ListN.{get_or, replicate}
use Rattle.names.specs.bridge.Names.{column, sizes_of}

pub no_size : (n i : ℕ) → get_or (sizes_of (replicate n (replicate 2 0))) i 0 ≡ 0
unfolding column
no_size zero i = refl
no_size (suc n) zero = refl
no_size (suc n) (suc i) = no_size n i
