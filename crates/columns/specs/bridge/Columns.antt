-- A project's columns under their new names, and which of them go: a mask, as a number with one bit a column, the lowest for the first. Assumes nothing.
use Rattle.std.specs.Prelude.{ℕ, ◌/◌, ◌%◌, List, [], ◌∷◌, map, Bool, cond, ◌||◌, get_or, take, eqb}
use Rattle.text.specs.Text.{Bytes}
use Rattle.algebra.specs.Valid.{mem}
use Rattle.names.specs.bridge.Names.{starts_of, sizes_of, name_at}
use Rattle.naming.specs.bridge.Code.{becomes}

-- what the name at an entry becomes
abbrev pub new_at : Bytes → List ℕ → List ℕ → List ℕ → List ℕ → ℕ → Bytes
new_at s starts sizes firsts seconds k = becomes (get_or firsts k 0) (get_or seconds k 0) (name_at s starts sizes k)

-- so for the first c variables
abbrev pub new_columns : Bytes → List ℕ → List ℕ → List ℕ → List ℕ → List (List ℕ) → ℕ → List Bytes
new_columns s starts sizes firsts seconds v c = map (λ x. new_at s starts sizes firsts seconds (get_or x 1 0)) (take c v)

-- the same by the tables' entries
abbrev pub new_in : Bytes → List (List ℕ) → List (List ℕ) → ℕ → Bytes
new_in s table news k = new_at s (starts_of table) (sizes_of table) (starts_of news) (sizes_of news) k

abbrev pub columns_of : Bytes → List (List ℕ) → List (List ℕ) → List (List ℕ) → ℕ → List Bytes
columns_of s table news v c = new_columns s (starts_of table) (sizes_of table) (starts_of news) (sizes_of news) v c

-- the fields whose bits are `bit`
unfoldable pub picked : ℕ → ℕ → List Bytes → List Bytes
picked bit mask [] = []
picked bit mask (f ∷ fs) = cond (eqb (mask % 2) bit) (f ∷ picked bit (mask / 2) fs) (picked bit (mask / 2) fs)

-- a field goes if its bit is 1 or if it is one of these
unfoldable pub gone_bits : ℕ → List Bytes → List Bytes → List Bool
unfolding mem
gone_bits mask js [] = []
gone_bits mask js (f ∷ fs) = (eqb (mask % 2) 1 || mem f js) ∷ gone_bits (mask / 2) js fs
