-- standardize_variables (queries.rs) as a table of pushes, the last one first: what the code keeps in place of the map. Assumes nothing.
use Rattle.std.specs.Prelude.{Bool, false, cond, ◌||◌, List, [], ◌∷◌, ◌++◌, ℕ, suc}
use Rattle.std.proofs.Math.Option.{Option, none, some}
use Rattle.text.specs.Text.{Bytes, same}
use Rattle.scoping.specs.Label.{label, base, generated, prefix_j}
use Rattle.scoping.specs.Standardize.{or_self}

-- a base with its prefix and number
pub record Push : Type 0 where
  pub base : Bytes
  pub prefix : ℕ
  pub number : ℕ

abbrev pub a_push : Bytes → ℕ → ℕ → Push
a_push b p n = record { base = b; prefix = p; number = n }

-- the last push that has w: as its base with "Label" behind, or as its base
unfoldable pub lookup : Bytes → List Push → Option Bytes
unfolding same generated
lookup w [] = none
lookup w (p ∷ ps) =
    cond (same w (p.base ++ label)) (some (generated p.prefix p.number ++ label))
    (cond (same w p.base) (some (generated p.prefix p.number)) (lookup w ps))

-- a base is there if some push has it or has it with "Label" behind
unfoldable pub contains : Bytes → List Push → Bool
unfolding same
contains b [] = false
contains b (p ∷ ps) = same b (p.base ++ label) || (same b p.base || contains b ps)

-- a push more, unless the base is there
unfoldable pub pushed : ℕ → ℕ → Bytes → List Push → List Push
unfolding base contains
pushed prefix count v ps = cond (contains (base v) ps) ps (a_push (base v) prefix count ∷ ps)

-- the names of a list, one after the other, the number growing with each
unfoldable pub pushes : ℕ → ℕ → List Bytes → List Push → List Push
unfolding pushed
pushes prefix count [] ps = ps
pushes prefix count (v ∷ vs) ps = pushes prefix (suc count) vs (pushed prefix count v ps)

-- join variables under j, then the variables under the prefix
unfoldable pub all_pushes : ℕ → List Bytes → List Bytes → List Push
unfolding pushes
all_pushes prefix vs js = pushes prefix 0 vs (pushes prefix_j 0 js [])

-- what a name becomes: what was found for it, or itself
unfoldable pub new_name : List Push → Bytes → Bytes
unfolding lookup
new_name ps w = or_self (lookup w ps) w
