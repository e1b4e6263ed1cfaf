-- How the code writes the table of words, and what its numbers mean. Assumes nothing.
use Rattle.std.specs.Prelude.{ℕ, zero, suc, ◌/◌, ◌%◌, ◌≡◌, Bool, true, false, cond, not, ◌&&◌, ◌||◌, eqb, leb, ltb, List, [], ◌∷◌, ◌++◌, map, get_or, Some, None}
use Rattle.std.proofs.Math.Option.{Option, none, some}
use Rattle.text.specs.Text.{Bytes, same}
use Rattle.text.specs.Word.{bytes, spelled}
use Rattle.text.specs.Field.{Kind, cell, integer}
use Rattle.text.specs.bridge.Code.{kind_at}
use Rattle.algebra.specs.Query.{extra_kind}
use Rattle.algebra.specs.Word.{spell_v, domains}
use Rattle.algebra.specs.bridge.Table.{Slot, term, text, count, choice, Tail, nothing, columns, variables, texts, values, value, Sort, parts, sorts, Amount, always, given, more, Below, Row}
use Rattle.words.specs.declared.Row.{Row as Code}
use Rattle.std.specs.Prelude.{Option as Maybe, Some, None}

-- the sorts by their numbers
abbrev pub sort_at : ℕ → Sort
sort_at n = get_or sorts n parts

-- the field of a role: 1 a term, 2 something else, 3 a number of lines, any other one that is 0 or 1
unfoldable pub one_slot : ℕ → Kind → Slot
one_slot r k = get_or (choice ∷ term k ∷ text k ∷ count ∷ []) r choice

-- up to k fields, of which the lowest byte is the first: its role, and 16 times its kind
unfoldable pub slots_in : ℕ → ℕ → List Slot
unfolding one_slot
slots_in zero n = []
slots_in (suc k) n = cond (eqb n 0) [] (one_slot (n % 16) (kind_at (n / 16 % 16)) ∷ slots_in k (n / 256))

-- what stands behind the fields
abbrev pub tail_of : ℕ → Tail
tail_of n = get_or (nothing ∷ columns ∷ variables ∷ texts cell ∷ texts integer ∷ values ∷ value ∷ []) n nothing

-- a group of lines: n of them, or as many as the first or second number says, or so many more
abbrev pub group : Amount → Sort → List Below
group a s = record { amount = a; sort = s } ∷ []

abbrev pub fixed : ℕ → Sort → List Below
fixed zero s = []
fixed (suc n) s = group (always (suc n)) s

abbrev pub group_of : ℕ → ℕ → Sort → List Below
group_of n k s = get_or (fixed n s ∷ group (given 0) s ∷ group (given 1) s ∷ group (more 0 n) s ∷ group (more 1 n) s ∷ []) k []

-- up to k groups, of which the lowest nine bits are the first: so many lines, the number that counts them, and their sort
unfoldable pub groups_in : ℕ → ℕ → List Below
groups_in zero n = []
groups_in (suc k) n = group_of (n % 4) (n / 4 % 8) (sort_at (n / 32 % 16)) ++ groups_in k (n / 512)

-- a line of columns has no other fields
abbrev pub slots_under : Tail → List Slot → List Slot
slots_under nothing ss = ss
slots_under columns ss = []
slots_under variables ss = ss
slots_under (texts k) ss = ss
slots_under values ss = ss
slots_under value ss = ss

-- the row that a row of the code means
abbrev pub row_of : Code → Row
row_of c = record { slots = slots_under (tail_of c.behind) (slots_in 3 c.fields); tail = tail_of c.behind; below = groups_in 3 c.below }

-- the row of a word, if it has one
abbrev pub Found : Type 0
Found = Maybe Code

abbrev pub row_found : Found → Option Row
row_found (Some c) = some (row_of c)
row_found None = none

-- a row as one number of the table, which has 0 where there is none
abbrev pub found : ℕ → Found
found n = cond (eqb n 0) None (Some (record { fields = n % 16777216; behind = n / 16777216 % 16; flag = n / 268435456 % 16; below = n / 4294967296 }))

-- no more than k fields
unfoldable pub fits_in : ℕ → ℕ → Bool
fits_in zero n = eqb n 0
fits_in (suc k) n = fits_in k (n / 256)

-- no more than k groups, whose sorts go up to b
unfoldable pub sorts_in : ℕ → ℕ → ℕ → Bool
sorts_in b zero n = eqb n 0
sorts_in b (suc k) n = leb (n / 32 % 16) b && sorts_in b k (n / 512)

-- the number that a group's lines are counted by, if any, stands in a field that says so
abbrev pub counting : Code → ℕ → Bool
counting c k =
    get_or (true ∷ (not (eqb c.behind 1) && leb 3 (c.fields % 16)) ∷ (not (eqb c.behind 1) && leb 3 (c.fields / 256 % 16)) ∷ (not (eqb c.behind 1) && leb 3 (c.fields % 16)) ∷ (not (eqb c.behind 1) && leb 3 (c.fields / 256 % 16)) ∷ []) k true

unfoldable pub counts_in : Code → ℕ → ℕ → Bool
counts_in c zero n = true
counts_in c (suc k) n = counting c (n / 4 % 8) && counts_in c k (n / 512)

-- under a query's head and the lines of a tree stand lines of a tree, and no values stand behind their fields
abbrev pub in_tree : ℕ → Code → Bool
in_tree s c = ltb 7 s || (sorts_in 6 3 c.below && (leb c.behind 3 && counts_in c 3 c.below))

-- a row of the table has three fields and three groups at most, of known sorts
abbrev pub Tidy : ℕ → Found → Type 0
Tidy s (Some c) = (fits_in 3 c.fields ≡ true) × (sorts_in 11 3 c.below ≡ true) × (in_tree s c ≡ true)
Tidy s None = Unit {0}

-- what a word means for the names under it: 1 its last pattern hides them, 2 those of its own line stay as they are, 0 neither
unfoldable pub flag_of : Bytes → ℕ
unfolding same
flag_of w = cond (same w (bytes "project") || (same w (bytes "group") || same w (bytes "minus"))) 1 (cond (same w (bytes "service")) 2 0)

abbrev pub Flags : Bytes → Found → Type 0
Flags w (Some c) = c.flag ≡ flag_of w
Flags w None = Unit {0}

-- the kind of the extra that stands with a domain
abbrev pub mapped : {A B : Type 0} → (A → B) → Option A → Option B
mapped g none = none
mapped g (some a) = some (g a)

abbrev pub extra_of : Bytes → Option Kind
extra_of f = mapped extra_kind (spelled spell_v domains f)

abbrev pub extra_found : ℕ → Option Kind
extra_found zero = none
extra_found (suc k) = some (kind_at (suc k))

-- ---- the constants of the code for the domains of values

abbrev pub extras : List ℕ
extras = 11 ∷ 12 ∷ 11 ∷ 13 ∷ 13 ∷ 13 ∷ 13 ∷ 13 ∷ 13 ∷ 13 ∷ 13 ∷ 13 ∷ 11 ∷ 11 ∷ 11 ∷ 13 ∷ []

abbrev pub no_code : Code
no_code = record { fields = 0; behind = 0; flag = 0; below = 0 }

abbrev pub domain_at : ℕ → Bytes
domain_at i = get_or (map spell_v domains) i []
