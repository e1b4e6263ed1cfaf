-- What a check's answer says of the list. Assumes nothing.
use Prim.Native.Nat.{ℕ}
use mathlib.Core.Path.{◌≡◌, subst}
use mathlib.Core.List.{List}
use Rattle.text.specs.Text.{Bytes}
use Rattle.algebra.specs.Query.{PairList}
use Rattle.algebra.specs.Reader.{refuses, malformed, over_bound}
use Rattle.algebra.specs.Texts.{read_pairs}
use Rattle.algebra.specs.bridge.Answers.{Answer}
use Rattle.lists.specs.bridge.Pairs.{PairsTold, PairsChecked}
use Rattle.std.specs.Prelude.{Ok, Err}
use Rattle.algebra.specs.declared.Fault.TheVariants.{Malformed, OverBound}

module _ (κ : PairList) (s : Bytes) (keys : List (List ℕ)) (r : Answer) (c : PairsChecked κ s keys r) where
  pub said-good : (n : ℕ) → r ≡ Ok n → PairsTold κ s keys n
  unfolding PairsChecked
  said-good n q = subst (PairsChecked κ s keys) q c

  pub said-malformed : r ≡ Err Malformed → read_pairs κ s ≡ refuses malformed
  unfolding PairsChecked
  said-malformed q = subst (PairsChecked κ s keys) q c

  pub said-over : r ≡ Err OverBound → read_pairs κ s ≡ refuses over_bound
  unfolding PairsChecked
  said-over q = subst (PairsChecked κ s keys) q c
