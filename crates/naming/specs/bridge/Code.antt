-- How the code keeps the pushes of standardize_variables and the new names, and what its steps promise. Assumes nothing.
use Rattle.std.specs.Prelude.{ℕ, zero, suc, ◌+◌, ◌≤◌, ◌<◌, ◌≡◌, List, [], ◌∷◌, ◌++◌, true, false, cond, length, get_or, eqb}
use Rattle.text.specs.Text.{Bytes, same}
use Rattle.algebra.specs.Valid.{mem}
use Rattle.names.specs.bridge.Names.{column, starts_of, sizes_of, name_at, listing, Holds}
use Rattle.scoping.specs.Label.{label, base}
use Rattle.scoping.specs.bridge.Pushes.{Push, a_push, contains, new_name}
use Rattle.scoping.specs.bridge.Flagged.{chosen}
use Rattle.naming.specs.bridge.New.{named, replacement}

-- ---- the pushes

-- the first m pushes, the last one first: start and size of the base in the text s, prefix byte, number
unfoldable pub book : Bytes → List ℕ → List ℕ → List ℕ → List ℕ → ℕ → List Push
book s froms lens prefixes numbers zero = []
book s froms lens prefixes numbers (suc m) = a_push (name_at s froms lens m) (get_or prefixes m 0) (get_or numbers m 0) ∷ book s froms lens prefixes numbers m

-- their arrays: the bases are a table of names with hints h; t and n have 1,024 entries, and the prefixes in t are bytes
pub record Stored (s : Bytes) (f l h t n : List ℕ) (m : ℕ) : Type 0 where
  pub few : m ≤ 1024
  pub bases : Holds s f l h m (listing s f l m)
  pub prefixes : length t ≡ 1024
  pub numbers : length n ≡ 1024
  pub small : (k : ℕ) → k < m → get_or t k 0 < 256

-- the same by the code's two tables: starts and sizes of the bases are listed, and each push is marked with its prefix and its number
abbrev pub prefixes_of : List (List ℕ) → List ℕ
prefixes_of marks = column 0 marks

abbrev pub numbers_of : List (List ℕ) → List ℕ
numbers_of marks = column 1 marks

abbrev pub book_of : Bytes → List (List ℕ) → List (List ℕ) → ℕ → List Push
book_of s listed marks m = book s (starts_of listed) (sizes_of listed) (prefixes_of marks) (numbers_of marks) m

abbrev pub StoredIn : Bytes → List (List ℕ) → List ℕ → List (List ℕ) → ℕ → Type 0
StoredIn s listed hints marks m = Stored s (starts_of listed) (sizes_of listed) hints (prefixes_of marks) (numbers_of marks) m

-- no push has a base that was there before it
unfoldable pub Apart : List Push → Type 0
unfolding contains
Apart [] = Unit {0}
Apart (p ∷ ps) = (contains p.base ps ≡ false) × Apart ps

-- r is the entry of a base of which w is the Label, or it is m, and there is none among the first m
pub record LabelAt (w s : Bytes) (f l : List ℕ) (m r : ℕ) : Type 0 where
  pub here : r < m → same w (name_at s f l r ++ label) ≡ true
  pub none : m ≤ r → (k : ℕ) → k < m → same w (name_at s f l k ++ label) ≡ false

-- how many of the names have a base that no push has
unfoldable pub fresh : List Push → List Bytes → ℕ
unfolding contains base
fresh ps [] = 0
fresh ps (v ∷ vs) = cond (contains (base v) ps) (fresh ps vs) (suc (fresh ps vs))

-- there is room for a push for each of those: why 1,024 entries are enough
abbrev pub Room : List Push → List Bytes → Type 0
Room ps ns = length ps + fresh ps ns ≤ length ns

-- ---- the names that are pushed

-- the order of numbering by the flags of the table's names: those in scope, then those hidden
unfoldable pub numbered_by : List ℕ → List Bytes → List Bytes
unfolding chosen
numbered_by flags ns = chosen 0 flags ns ++ chosen 1024 flags ns

-- the names at the c entries of the table that a list has from number i on
unfoldable pub names_at : Bytes → List ℕ → List ℕ → List ℕ → ℕ → ℕ → List Bytes
names_at s starts sizes js zero i = []
names_at s starts sizes js (suc c) i = name_at s starts sizes (get_or js i 0) ∷ names_at s starts sizes js c (suc i)

-- ---- what a name becomes

-- a name, by two numbers: 0 for the second leaves it
abbrev pub becomes : ℕ → ℕ → Bytes → Bytes
becomes a b w = cond (eqb b 0) w (named a b)

-- so for the entries below i; from i on no second number has changed
pub record SettledTo (ps : List Push) (s : Bytes) (starts sizes : List ℕ) (i : ℕ) (firsts seconds seconds₀ : List ℕ) : Type 0 where
  pub each : (j : ℕ) → j < i → becomes (get_or firsts j 0) (get_or seconds j 0) (name_at s starts sizes j) ≡ new_name ps (name_at s starts sizes j)
  pub behind : (k : ℕ) → i ≤ k → get_or seconds k 0 ≡ get_or seconds₀ k 0

-- the table's names become what the pushes make of them, and no second number behind the n names has changed
pub record Standard (ps : List Push) (ns : List Bytes) (n : ℕ) (firsts seconds seconds₀ : List ℕ) : Type 0 where
  pub found : (f : Bytes) → mem f ns ≡ true → replacement ns [] firsts seconds f ≡ new_name ps f
  pub behind : (k : ℕ) → n ≤ k → get_or seconds k 0 ≡ get_or seconds₀ k 0
