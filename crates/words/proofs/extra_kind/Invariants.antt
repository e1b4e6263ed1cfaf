-- What the loops of `extra_kind` keep. Assumes nothing.
use Prim.Native.Nat.{◌-◌, ◌≤◌}
use mathlib.Core.Path.{◌≡◌}
use Rattle.words.proofs.Domains as D
use Rattle.words.specs.bridge.Code.{extra_of}
use Rattle.words.proofs.extra_kind.Given as goal

abbrev pub invariant-loop-i : goal.invariant-loop-i
invariant-loop-i l = (l.i ≤ 16) × (extra_of l.f ≡ D.later l.i l.f)
