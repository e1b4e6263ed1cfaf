-- Laws of the numbers in a line, of the table of names and of notes. Assumes nothing.
use Prim.Native.Nat.{ℕ, zero, suc, ◌+◌, ◌≤◌, ◌<◌}
use mathlib.Core.Path.{◌≡◌, refl, sym, ap, ◌∙◌}
use mathlib.Core.List.{List, [], ◌∷◌}
use mathlib.Core.Bool.{true, false}
use native.Mathlib.Omega.{arith}
use lib.ListN.{length, get_or, set, drop}
use lib.Seq.{get_or-drop}
use Rattle.text.specs.Text.{Bytes, same, part, split, First}
use Rattle.text.specs.Field.{number_of}
use Rattle.text.specs.bridge.Code as N
use Rattle.text.specs.bridge.Code.{Number}
use Rattle.text.proofs.Basics.{same-eq}
use Rattle.algebra.specs.Valid.{mem}
use Rattle.names.specs.bridge.Names.{name_at, listing, Hinted}
use Rattle.names.proofs.Laws.{listing-long, listing-at, listed}
use Rattle.cursor.specs.bridge.Cursor.{left}
use Rattle.cursor.proofs.Laws.{left-none, left-next, left-all}
use Rattle.lines.specs.bridge.Spotted.{mark_at}
use Rattle.scoping.specs.Sets.{index_of}
use Rattle.scoping.proofs.Index.{index_at}
use Rattle.scoping.specs.bridge.Walk.{number_in}
use Rattle.walking.specs.bridge.Walk.{flagged}
use Rattle.walking.specs.bridge.Code.{Named}
use Rattle.std.specs.Prelude.{Some, None}

-- ---- the number in a field

pub count_none : (s : Bytes) (at end : ℕ) → end < at → (0 ≡ number_in (get_or (left s at end) 0 [])) × (left s at end ≡ drop 1 (left s at end))
unfolding number_of
count_none s at end h = rw (left-none s at end h) (refl, refl)

module _ (s : Bytes) (at end e : ℕ) (k : end < length s) (h : at ≤ end) (f : First 9 s at end e) where
  pub next_field : left s at end ≡ part at e s ∷ left s (e + 1) end
  next_field = left-next s at end e (omega arith) h f

  module _ (r : Number) (is : N.number_in r ≡ number_of (part at e s)) where
    pub count-is : (v : ℕ) → r ≡ Some v → v ≡ number_in (get_or (left s at end) 0 [])
    count-is v q = rw (next_field, ← is, q)

    pub count-not : r ≡ None → 0 ≡ number_in (get_or (left s at end) 0 [])
    count-not q = rw (next_field, ← is, q)

  pub count_next : left s (e + 1) end ≡ drop 1 (left s at end)
  count_next = rw next_field

-- the second field's, from where the first one ends
pub second-number : (s : Bytes) (at next end n : ℕ) → left s next end ≡ drop 1 (left s at end) → n ≡ number_in (get_or (left s next end) 0 []) → n ≡ number_in (get_or (left s at end) 1 [])
second-number s at next end n h e = e ∙ ap (λ (l : List Bytes). number_in (get_or l 0 [])) h ∙ ap number_in (get_or-drop 1 (left s at end) 0 [])

-- the fields of a whole line
pub line-split : (s : Bytes) (from end w : ℕ) → end < length s → from ≤ end → First 9 s from end w → split 9 (part from end s) ≡ part from w s ∷ left s (w + 1) end
line-split s from end w k h f = sym (left-all s from end h) ∙ next_field s from end w k h f

-- ---- noting

pub flag-visible : (m k : ℕ) (fl : List ℕ) → m ≡ 0 → set fl k 1 ≡ flagged (mark_at m) k fl
flag-visible m k fl e = rw e

pub flag-covered : (m k : ℕ) (fl : List ℕ) → m ≡ 1 → set fl (1024 + k) 1 ≡ flagged (mark_at m) k fl
flag-covered m k fl e = rw e

pub flag-silent : (m k : ℕ) (fl : List ℕ) → (m ≡ 0 → ⊥) → (m ≡ 1 → ⊥) → fl ≡ flagged (mark_at m) k fl
flag-silent zero k fl h i = absurd (h refl)
flag-silent (suc zero) k fl h i = absurd (i refl)
flag-silent (suc (suc m)) k fl h i = refl

-- ---- the entry of a name

-- what find_name promises
abbrev pub FoundAt : Bytes → Bytes → List ℕ → List ℕ → List ℕ → ℕ → ℕ → Type 0
FoundAt f s a l h n r = (r ≤ n) × (r < n → same f (name_at s a l r) ≡ true) × (r ≡ n → Hinted h (listing s a l n) → mem f (listing s a l n) ≡ false)

module _ (f s : Bytes) (a l h : List ℕ) (n r : ℕ) (named : Named s a l h n) (found : FoundAt f s a l h n r) where
  pub entry-none : n ≤ r → mem f (listing s a l n) ≡ false
  entry-none k = found.2 (let x = found.0 in omega arith) named.hinted

  pub entry_here : r < n → mem f (listing s a l n) ≡ true
  entry_here k = listed f s a l r n k (found.1 k)

  pub entry-index : r < n → index_of f (listing s a l n) ≡ r
  entry-index k =
      ap (λ (g : Bytes). index_of g (listing s a l n)) (same-eq f (name_at s a l r) (found.1 k) ∙ sym (listing-at s a l r n k))
      ∙ index_at (listing s a l n) r named.once (omega (arith, listing-long s a l n))
