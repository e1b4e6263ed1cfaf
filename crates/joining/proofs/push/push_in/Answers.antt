-- `joining::push/push_in` meets its contract. Assumes nothing.
use native.Mathlib.Omega.{arith}
use Rattle.std.proofs.lemmas.List.{length-replicate}
use Rattle.joining.proofs.push.push_in.Goals as goal

pub push_with-requires : goal.push_with-requires
push_with-requires g c =
    let q = c.requires in
    (record { spots_for = simp length-replicate q.4; nodes_for = λ h. simp length-replicate q.5; spots_empty = λ h. simp length-replicate (omega (arith, q.2)); nodes_empty = λ h m a b. simp length-replicate (omega (arith, q.3, a)) }, c.all_words-words.ensures)
