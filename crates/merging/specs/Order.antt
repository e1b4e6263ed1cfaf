-- docs/SPECIFICATION.md, "The order of constants": the columns stand by rising position, whatever the order of a list's lines. Assumes nothing.
use Rattle.std.specs.Prelude.{ℕ, ◌≡◌, Bool, true, cond, ◌&&◌, List, [], ◌∷◌, eqb, ltb}
use Rattle.std.proofs.Math.Option.{Option, none, some}
use Rattle.text.specs.Text.{Bytes}
use Rattle.algebra.specs.Query.{Pair, constants}
use Rattle.algebra.specs.Reader.{reads}
use Rattle.algebra.specs.Texts.{read_pairs}
use Rattle.scoping.specs.Sets.{all}
use Rattle.merging.specs.Sides.{Constant}
use Rattle.merging.specs.Request.{constants_in}

-- each position is below all behind it, so none stands twice
unfoldable pub rise : List Constant → Bool
unfolding all
rise [] = true
rise (k ∷ ks) = all (λ x. ltb k.position x.position) ks && rise ks

-- the term that a list has for a position
unfoldable pub listed : ℕ → List Constant → Option Bytes
listed i [] = none
listed i (k ∷ ks) = cond (eqb i k.position) (some k.term) (listed i ks)

-- the same positions have the same terms, whatever the order
abbrev pub SameConstants : List Constant → List Constant → Type 0
SameConstants ks ls = (i : ℕ) → listed i ks ≡ listed i ls

-- two texts are lists of the same constants
pub record SameLists (s t : Bytes) : Type 0 where
  pub first : List Pair
  pub second : List Pair
  pub first_read : read_pairs constants s ≡ reads first
  pub second_read : read_pairs constants t ≡ reads second
  pub same : SameConstants (constants_in first) (constants_in second)
