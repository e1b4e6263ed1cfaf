-- What was noted is told by its three numbers. Assumes nothing.
use Prim.Native.Nat.{ℕ}
use mathlib.Core.Path.{◌≡◌, sym, ◌∙◌, ap}
use Rattle.std.specs.Prelude.{Ok}
use Rattle.checking.specs.declared.check.Counted.{Counted}
use Rattle.checking.specs.bridge.Walks.{Noting, counts}

pub counts-same : (r : Noting) (n k m n' k' m' : ℕ) → r ≡ Ok (counts n k m) → r ≡ Ok (counts n' k' m') → (n ≡ n') × (k ≡ k') × (m ≡ m')
counts-same r n k m n' k' m' e f =
    let u : counts n k m ≡ counts n' k' m' = cc in
    (ap (λ (c : Counted). c.names) u, ap (λ (c : Counted). c.spots) u, ap (λ (c : Counted). c.nodes) u)
