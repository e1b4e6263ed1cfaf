-- An empty file is converted as the text of its two lines. Assumes nothing.
use mathlib.Core.Path.{◌≡◌}
use lib.ListN.{length}
use Rattle.text.specs.Text.{Bytes}
use Rattle.text.specs.Word.{bytes}
use Rattle.answers.specs.Outcome.{Answer, Answered}
use Rattle.answers.proofs.Given.{answered-none, answered-some}
use Rattle.converting.specs.Namespaces.{namespaces_outcome}
use Rattle.converting.specs.bridge.AsIs.{namespaces_as_is}
use Rattle.converting.proofs.ByLine.{namespaces-given}

-- a text of no bytes, and any other
module _ (tree table before after : Bytes) (r : Answer) where
  pub namespaces-none : length tree ≡ 0 → Answered (namespaces_as_is (bytes "project\nbgp\t0\n") table) before after r → Answered (namespaces_outcome tree table) before after r
  namespaces-none = answered-none (λ (s : Bytes). namespaces_outcome s table) (λ (s : Bytes). namespaces_as_is s table) (λ s. namespaces-given s table) tree before after r

  pub namespaces-some : (length tree ≡ 0 → ⊥) → Answered (namespaces_as_is tree table) before after r → Answered (namespaces_outcome tree table) before after r
  namespaces-some = answered-some (λ (s : Bytes). namespaces_outcome s table) (λ (s : Bytes). namespaces_as_is s table) (λ s. namespaces-given s table) tree before after r
