-- The variable table in arrays: the names that it lists, in their order, and hints at where they stand. Assumes nothing.
use Rattle.std.specs.Prelude.{ℕ, zero, suc, ◌+◌, ◌*◌, ◌/◌, ◌%◌, ◌≤◌, ◌<◌, ◌≡◌, List, [], ◌∷◌, ◌++◌, map, Bool, cond, length, get_or, set}
use Rattle.text.specs.Text.{Bytes, piece}
use Rattle.algebra.specs.Valid.{mem}

-- a name's hash, of 32 bits, from h on
unfoldable pub hash_of : ℕ → Bytes → ℕ
hash_of h [] = h
hash_of h (b ∷ bs) = hash_of (((h + b) * 16777619) % 4294967296) bs

-- a name's place among the hints: the hash's top eleven bits
unfoldable pub place_of : Bytes → ℕ
place_of f = hash_of 0 f / 2097152

-- a column of the table: the starts of its names, and their sizes
unfoldable pub column : ℕ → List (List ℕ) → List ℕ
column j t = map (λ e. get_or e j 0) t

abbrev pub starts_of : List (List ℕ) → List ℕ
starts_of t = column 0 t

abbrev pub sizes_of : List (List ℕ) → List ℕ
sizes_of t = column 1 t

-- the name at an entry: the piece of the text s that the start and the size there tell
abbrev pub name_at : Bytes → List ℕ → List ℕ → ℕ → Bytes
name_at s starts sizes i = piece (get_or starts i 0) (get_or sizes i 0) s

-- the first n names, in order
unfoldable pub listing : Bytes → List ℕ → List ℕ → ℕ → List Bytes
listing s starts sizes zero = []
listing s starts sizes (suc n) = listing s starts sizes n ++ (name_at s starts sizes n ∷ [])

-- the same by the table's entries
abbrev pub name_in : Bytes → List (List ℕ) → ℕ → Bytes
name_in s t i = name_at s (starts_of t) (sizes_of t) i

abbrev pub names_in : Bytes → List (List ℕ) → ℕ → List Bytes
names_in s t n = listing s (starts_of t) (sizes_of t) n

-- the place after a place, around the end
abbrev pub after : ℕ → ℕ
after p = (p + 1) % 2048

-- of the k places from p on, none is empty before the first that holds the hint v
unfoldable pub Leads : List ℕ → ℕ → ℕ → ℕ → Type 0
Leads hints v p zero = Unit {0}
Leads hints v p (suc k) = (get_or hints p 0 ≡ v → ⊥) → (get_or hints p 0 ≡ 0 → ⊥) × Leads hints v (after p) k

-- from its own place on, each name is led to: a name's hint is its number, and these are numbered from i on
unfoldable pub HintedFrom : ℕ → List ℕ → List Bytes → Type 0
HintedFrom i hints [] = Unit {0}
HintedFrom i hints (x ∷ xs) = Leads hints i (place_of x) 2048 × HintedFrom (suc i) hints xs

-- the same from 1 on, since 0 is an empty place
unfoldable pub Hinted : List ℕ → List Bytes → Type 0
unfolding HintedFrom
Hinted hints xs = HintedFrom 1 hints xs

-- as many places, and what stood at one that was not empty stands there still
pub record Grows (old new : List ℕ) : Type 0 where
  pub size : length new ≡ length old
  pub stays : (p : ℕ) → (get_or old p 0 ≡ 0 → ⊥) → get_or new p 0 ≡ get_or old p 0

-- a hint that is put at a place is led to from another place on; past the last place it is put nowhere
pub record Free (hints : List ℕ) (from at : ℕ) : Type 0 where
  pub here : at < 2048 → (v : ℕ) → length hints ≡ 2048 → Grows hints (set hints at v) × Leads (set hints at v) v from 2048
  pub none : 2048 ≤ at → (v : ℕ) → Grows hints hints × Leads hints v from 2048

-- a name more, if it is new
abbrev pub kept : Bytes → List Bytes → List Bytes
kept f ns = cond (mem f ns) ns (ns ++ (f ∷ []))

-- the table with n names lists those wanted; or n is 1,025, and they are more than it can list
pub record Holds (s : Bytes) (starts sizes hints : List ℕ) (n : ℕ) (want : List Bytes) : Type 0 where
  pub entries : (length starts ≡ 1024) × (length sizes ≡ 1024) × (length hints ≡ 2048)
  pub high : n ≤ 1025
  pub fits : n ≤ 1024 → listing s starts sizes n ≡ want
  pub hinted : n ≤ 1024 → Hinted hints want
  pub over : 1024 < n → 1024 < length want

abbrev pub HoldsIn : Bytes → List (List ℕ) → List ℕ → ℕ → List Bytes → Type 0
HoldsIn s t hints n want = Holds s (starts_of t) (sizes_of t) hints n want

-- a table with n names has grown to one with m, which lists the name f at an entry, where it has room
pub record Lists (s : Bytes) (a l : List ℕ) (n : ℕ) (a' l' : List ℕ) (m entry : ℕ) (f : Bytes) : Type 0 where
  pub grows : n ≤ m
  pub low : entry < 1025
  pub tables : (length a ≡ 1024) × (length l ≡ 1024) → (length a' ≡ 1024) × (length l' ≡ 1024)
  pub more : m ≤ 1024 → (length a ≡ 1024) × (length l ≡ 1024) → (xs : List Bytes) × (listing s a' l' m ≡ listing s a l n ++ xs)
  pub inside : m ≤ 1024 → entry < m
  pub here : m ≤ 1024 → (length a ≡ 1024) × (length l ≡ 1024) → get_or (listing s a' l' m) entry [] ≡ f
