-- How the code keeps the names of the table and what they become. Assumes nothing.
use Rattle.std.specs.Prelude.{ℕ, ◌≤◌, ◌<◌, ◌≡◌, List, [], length, get_or}
use Rattle.text.specs.Text.{Bytes}
use Rattle.names.specs.bridge.Names.{listing, Hinted}
use Rattle.scoping.specs.bridge.Sets.{Once}
use Rattle.naming.specs.bridge.New.{replacement}
use Rattle.descending.specs.bridge.Renamed.{new_mark}

-- the names of the table are told apart, and each is found
pub record Named (s : Bytes) (starts sizes hints : List ℕ) (n : ℕ) : Type 0 where
  pub high : n ≤ 1024
  pub hinted : Hinted hints (listing s starts sizes n)
  pub once : Once (listing s starts sizes n)

-- what the names of the table become
abbrev pub renames : Bytes → List ℕ → List ℕ → ℕ → Bytes → List ℕ → List ℕ → Bytes → Bytes
renames s starts sizes n pool targets spans = replacement (listing s starts sizes n) pool targets spans

-- the first k entries of an array of variables name entries of a table with n
pub record Inside (n : ℕ) (a : List (List ℕ)) (k : ℕ) : Type 0 where
  pub many : k ≤ length a
  pub each : (i : ℕ) → i < k → get_or (get_or a i []) 1 0 < n

-- the names of the variables from number i up to r stay: each has no size to become
unfoldable pub Stay : List (List ℕ) → List ℕ → ℕ → ℕ → Type 0
Stay a spans i r = (j : ℕ) → i ≤ j → j < r → get_or spans (get_or (get_or a j []) 1 0) 0 ≡ 0

-- the marks of the first k variables say whose names become others, by the sizes of the new names
pub record Marked (sizes : List ℕ) (a : List (List ℕ)) (k : ℕ) : Type 0 where
  pub mark : (i : ℕ) → i < k → get_or (get_or a i []) 2 0 ≡ new_mark sizes (get_or (get_or a i []) 1 0)

-- the variables from number i up to r are not marked as becoming others
unfoldable pub Unmarked : List (List ℕ) → ℕ → ℕ → Type 0
Unmarked a i r = (j : ℕ) → i ≤ j → j < r → get_or (get_or a j []) 2 0 ≡ 4 → ⊥

-- r is the first variable from number i on that is, or k
pub record NextMarked (a : List (List ℕ)) (i k r : ℕ) : Type 0 where
  pub low : i ≤ r
  pub high : r ≤ k
  pub before : Unmarked a i r
  pub here : r < k → get_or (get_or a r []) 2 0 ≡ 4

-- r is the first variable from number i on whose name becomes another, or k
pub record NextRenamed (a : List (List ℕ)) (spans : List ℕ) (i k r : ℕ) : Type 0 where
  pub low : i ≤ r
  pub high : r ≤ k
  pub before : Stay a spans i r
  pub here : r < k → get_or spans (get_or (get_or a r []) 1 0) 0 ≡ 0 → ⊥
