-- Demand 3 from what a caller sees: a merge that returned 0 has in its first `size` bytes a text of which demand 3 holds. Assumes nothing.
-- The premise `Reported` is what the contracts of the calls say, of the number that is returned and of `size`.
use Prim.Native.Nat.{ℕ, ◌≤◌}
use mathlib.Core.Path.{◌≡◌, sym, subst, ◌∙◌}
use lib.ListN.{length, take}
use Rattle.text.specs.Text.{Bytes}
use Rattle.answers.specs.Outcome.{Reported}
use Rattle.answers.proofs.Numbered.{returned}
use Rattle.merging.specs.Request.{Request}
use Rattle.merging.specs.Merge.{merge_patterns_outcome, merge_queries_outcome}
use Rattle.merging.specs.Asked.{Lists, Trees, Queries, behind_head}
use Rattle.merging.proofs.Numbered.{merge-patterns-numbered, merge-queries-numbered}
use Rattle.demand3.specs.Demand3.{Counted}
use Rattle.demand3.proofs.Theorem.{merge-patterns-counts, merge-queries-counts}

module _ (left right pairs leftConstants rightConstants before after : Bytes) (number size : ℕ) where
  pub merge-patterns-returned : Reported (merge_patterns_outcome left right pairs leftConstants rightConstants) before after number size → number ≡ 0
      → (size ≤ length before) × (m : Request) × Trees left right m × Lists pairs leftConstants rightConstants m × Counted m (take size after)
  merge-patterns-returned r e =
      let w = returned _ before after number size (merge-patterns-numbered left right pairs leftConstants rightConstants) r e in
      let c = merge-patterns-counts left right pairs leftConstants rightConstants w.text w.is in
      (w.room, c.0, c.1, c.2, subst (Counted c.0) (sym w.front) c.3)

  pub merge-queries-returned : Reported (merge_queries_outcome left right pairs leftConstants rightConstants) before after number size → number ≡ 0
      → (size ≤ length before) × (m : Request) × (kind dataset base text : Bytes) × Queries left right kind dataset base m × Lists pairs leftConstants rightConstants m
      × (take size after ≡ behind_head kind dataset base text) × Counted m text
  merge-queries-returned r e =
      let w = returned _ before after number size (merge-queries-numbered left right pairs leftConstants rightConstants) r e in
      let c = merge-queries-counts left right pairs leftConstants rightConstants w.text w.is in
      (w.room, c.0, c.1, c.2, c.3, c.4, c.5, c.6, w.front ∙ c.7, c.8)
