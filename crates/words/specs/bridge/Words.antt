-- The table of words as the code has it: each word's key and its row as one number, the words of a sort together. Assumes nothing.
use Rattle.std.specs.Prelude.{ℕ, zero, suc, ◌+◌, ◌-◌, ◌/◌, ◌%◌, ◌≡◌, Bool, true, cond, ◌&&◌, ◌||◌, List, [], ◌∷◌, map, eqb, ltb, get_or, take, drop, Some, None}
use Rattle.std.proofs.Math.Option.{Option, some}
use Rattle.algebra.specs.bridge.Table.{Row, Entry, table}
use Rattle.words.specs.bridge.Code.{Found, found, row_found, fits_in, sorts_in, in_tree, flag_of}
use Rattle.words.specs.bridge.Key.{key_of}

-- the row of the word with this number, 0 where there is none
abbrev pub code_at : List (List ℕ) → ℕ → ℕ
code_at ws k = get_or (get_or ws k []) 1 0

-- the row of the first word that has this key, or 0
unfoldable pub code_by : ℕ → List (List ℕ) → ℕ
code_by k [] = 0
code_by k (w ∷ ws) = cond (eqb (get_or w 0 0) k) (get_or w 1 0) (code_by k ws)

-- where the words of each sort begin
unfoldable pub first_of : ℕ → ℕ
first_of s = get_or (0 ∷ 1 ∷ 2 ∷ 19 ∷ 41 ∷ 42 ∷ 44 ∷ 46 ∷ 47 ∷ 48 ∷ 49 ∷ 50 ∷ []) s 56

-- the words of a sort
unfoldable pub words_of : {A : Type 0} → ℕ → List A → List A
unfolding first_of
words_of s ws = take (first_of (s + 1) - first_of s) (drop (first_of s) ws)

-- what is said of a word: its key, its row and what it means for names
pub record Saying : Type 0 where
  pub key : ℕ
  pub row : Option Row
  pub flag : ℕ

abbrev pub flag_found : Found → ℕ
flag_found (Some c) = c.flag
flag_found None = 0

-- by the code's table
abbrev pub said : List ℕ → Saying
said w = record { key = get_or w 0 0; row = row_found (found (get_or w 1 0)); flag = flag_found (found (get_or w 1 0)) }

-- by the table of algebra
unfoldable pub told : Entry → Saying
unfolding key_of flag_of
told e = record { key = key_of 0 e.word; row = some e.row; flag = flag_of e.word }

-- a row has three fields and three groups at most, of known sorts
abbrev pub is_tidy : ℕ → Found → Bool
is_tidy s (Some c) = fits_in 3 c.fields && (sorts_in 11 3 c.below && in_tree s c)
is_tidy s None = true

unfoldable pub all_tidy : ℕ → List (List ℕ) → Bool
all_tidy s [] = true
all_tidy s (w ∷ ws) = is_tidy s (found (get_or w 1 0)) && all_tidy s ws

-- those of the first n sorts have
unfoldable pub tidy_sorts : ℕ → List (List ℕ) → Bool
unfolding words_of all_tidy
tidy_sorts zero ws = true
tidy_sorts (suc n) ws = all_tidy n (words_of n ws) && tidy_sorts n ws

-- what stands below a line: nothing, or a first group that has lines
abbrev pub is_front : ℕ → Bool
is_front n = eqb n 0 || (ltb 0 (n % 32) && ltb (n / 4 % 8) 5)

unfoldable pub all_front : List (List ℕ) → Bool
all_front [] = true
all_front (w ∷ ws) = ltb (get_or w 1 0 / 4294967296) 134217728 && (is_front (get_or w 1 0 / 4294967296) && all_front ws)

-- the code's table says what the one of algebra says, in the same order
pub record Worded (ws : List (List ℕ)) : Type 0 where
  pub same : map said ws ≡ map told table
  pub tidy : tidy_sorts 12 ws ≡ true
  pub front : all_front ws ≡ true
