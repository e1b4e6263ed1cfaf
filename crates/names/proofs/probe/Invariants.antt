-- What the loops of `probe` keep. Assumes nothing.
use Prim.Native.Nat.{◌-◌, ◌<◌}
use Rattle.names.proofs.Laws as L
use Rattle.names.specs.bridge.Names.{place_of, starts_of, sizes_of}
use Rattle.names.proofs.probe.Given as goal

abbrev pub invariant-loop-tried : goal.invariant-loop-tried
invariant-loop-tried l = (l.p < 2048) × L.Seeks l.f l.s (starts_of l.table) (sizes_of l.table) l.hints l.n l.p (2048 - l.tried) × L.Taken l.hints (place_of l.f) l.p (2048 - l.tried)
