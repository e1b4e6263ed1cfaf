-- What is supposed of a side's names for the laws on them, and the pairs of a join list. Assumes nothing.
use Rattle.std.specs.Prelude.{◌≡◌, Bool, true, false, not, ◌||◌, ◌&&◌, List, [], ◌∷◌, ℕ}
use Rattle.text.specs.Text.{Bytes, same}
use Rattle.algebra.specs.Valid.{different, Valid}
use Rattle.algebra.specs.Tree.{Pattern, project}
use Rattle.scoping.specs.Sets.{all}
use Rattle.scoping.specs.Label.{is_label}
use Rattle.scoping.specs.Numbering.{numbered}
use Rattle.scoping.specs.Premises.{inside, different_positions}

-- of a tree `project cs p` and its side's positions in the join list
pub record NamePremises (cs : List Bytes) (p : Pattern) (is : List ℕ) : Type 0 where
  pub valid : Valid (project cs p)
  pub plain : all (λ w. not (is_label w)) (numbered (project cs p)) ≡ true  -- no name ends in "Label"
  pub columns : different cs ≡ true  -- no column twice
  pub positions : inside cs is ≡ true
  pub different : different_positions is ≡ true  -- no position twice on its side

-- the two names are the columns of one pair of join variables
unfoldable pub is_pair : List Bytes → List Bytes → Bytes → Bytes → Bool
unfolding same
is_pair [] rs a b = false
is_pair (l ∷ ls) [] a b = false
is_pair (l ∷ ls) (r ∷ rs) a b = (same l a && same r b) || is_pair ls rs a b
