-- `joining::merge/merge_in` meets its contract. Assumes nothing.
use native.Mathlib.Omega.{arith}
use Rattle.std.proofs.lemmas.List.{length-replicate}
use Rattle.joining.proofs.merge.merge_in.Goals as goal

pub merge_left-requires : goal.merge_left-requires
merge_left-requires g c =
    let q = c.requires in (
      record { spots_for = simp length-replicate q.4.spots_in; nodes_for = simp length-replicate q.4.nodes_in; spots_empty = λ h. simp length-replicate (omega (arith, q.2)); nodes_empty = λ h m a b. simp length-replicate (omega (arith, q.3, a)) },
      record { spots_for = simp length-replicate q.5.spots_in; nodes_for = simp length-replicate q.5.nodes_in; spots_empty = λ h. simp length-replicate (omega (arith, q.2)); nodes_empty = λ h m a b. simp length-replicate (omega (arith, q.3, a)) },
    )
