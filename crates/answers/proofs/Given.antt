-- A call that goes on with the two lines for a tree's text of no bytes answers what is read of the given text. Assumes nothing.
use mathlib.Core.Path.{◌≡◌, sym, ap, subst, ◌∙◌}
use lib.ListN.{length}
use Rattle.text.specs.Text.{Bytes}
use Rattle.text.specs.Word.{bytes}
use Rattle.algebra.proofs.Given.{tree_text, text-none, text-some}
use Rattle.answers.specs.Outcome.{Answer, Outcome, Answered}

-- the outcome of a given text, and that of a text as it stands
module _ (given asIs : Bytes → Outcome) (same : (s : Bytes) → given s ≡ asIs (tree_text s)) (s before after : Bytes) (r : Answer) where
  pub answered-none : length s ≡ 0 → Answered (asIs (bytes "project\nbgp\t0\n")) before after r → Answered (given s) before after r
  answered-none e a = subst (λ (o : Outcome). Answered o before after r) (sym (same s ∙ ap asIs (text-none s e))) a

  pub answered-some : (length s ≡ 0 → ⊥) → Answered (asIs s) before after r → Answered (given s) before after r
  answered-some n a = subst (λ (o : Outcome). Answered o before after r) (sym (same s ∙ ap asIs (text-some s n))) a
