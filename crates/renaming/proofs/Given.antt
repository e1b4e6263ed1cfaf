-- An empty file is renamed as the text of its two lines. Assumes nothing.
use mathlib.Core.Path.{◌≡◌, ap}
use lib.ListN.{length}
use Rattle.text.specs.Text.{Bytes}
use Rattle.text.specs.Word.{bytes}
use Rattle.algebra.proofs.Given.{tree_text, given-as-text}
use Rattle.answers.specs.Outcome.{Answer, Answered}
use Rattle.answers.proofs.Given.{answered-none, answered-some}
use Rattle.renaming.specs.Rename.{rename_read, rename_outcome}
use Rattle.renaming.specs.bridge.AsIs.{rename_as_is}

pub rename-given : (tree mapping : Bytes) → rename_outcome tree mapping ≡ rename_as_is (tree_text tree) mapping
unfolding rename_outcome rename_as_is
rename-given tree mapping = ap (λ r. rename_read r mapping) (given-as-text tree)

-- a text of no bytes, and any other
module _ (s mapping before after : Bytes) (r : Answer) where
  pub rename-none : length s ≡ 0 → Answered (rename_as_is (bytes "project\nbgp\t0\n") mapping) before after r → Answered (rename_outcome s mapping) before after r
  rename-none = answered-none (λ t. rename_outcome t mapping) (λ t. rename_as_is t mapping) (λ t. rename-given t mapping) s before after r

  pub rename-some : (length s ≡ 0 → ⊥) → Answered (rename_as_is s mapping) before after r → Answered (rename_outcome s mapping) before after r
  rename-some = answered-some (λ t. rename_outcome t mapping) (λ t. rename_as_is t mapping) (λ t. rename-given t mapping) s before after r
