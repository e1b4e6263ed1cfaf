-- What a mapping's pairs make of the table's names, pair by pair. Assumes nothing.
use Prim.Native.Nat.{ℕ, zero, suc, ◌+◌, ◌≤◌, ◌<◌}
use mathlib.Core.Path.{◌≡◌, refl, sym, ap, subst, ◌∙◌}
use mathlib.Core.List.{List, [], ◌∷◌}
use mathlib.Core.Bool.{Bool, true, false, cond, true≢false, false≢true}
use native.Mathlib.Omega.{arith}
use lib.ListN.{length, get_or, set, take, drop, length-set, drop_of_length-le}
use lib.Seq.{get_or-set_same, get_or-set_other}
use borrow.Author.Tests.{ne_eqb}
use Rattle.text.specs.Text.{Bytes, same, piece}
use Rattle.text.proofs.Basics.{same-eq, same_refl}
use Rattle.algebra.specs.Query.{Pair, mapping}
use Rattle.algebra.specs.Valid.{mem, ValidPairs}
use Rattle.algebra.proofs.Theorem.{pairs-exactly}
use Rattle.names.specs.bridge.Names.{starts_of, sizes_of}
use Rattle.names.proofs.Columns.{column-length, column-set}
use Rattle.scoping.specs.Sets.{index_of}
use Rattle.scoping.proofs.Index.{same_place}
use Rattle.naming.specs.bridge.New.{spelled, replacement}
use Rattle.lists.specs.bridge.Pairs.{pair_at, pairs_in}
use Rattle.lists.proofs.Keys.{pairs-long, pair-at}
use Rattle.renaming.specs.Rename.{becomes}
use Rattle.renaming.specs.bridge.Code.{KnownPairs, Targets, Settled}
use Rattle.renaming.proofs.Mapping.{look_last, look-becomes, second-some}

-- ---- one pair

same_self : (f g : Bytes) → f ≡ g → same f g ≡ true
same_self f g q = subst (λ (z : Bytes). same f z ≡ true) q (same_refl f)

none_left : (a l : ℕ) → piece a l [] ≡ []
none_left a zero = refl
none_left a (suc l) = let z : 0 ≤ a = omega arith in ap (take (suc l)) (drop_of_length-le {A = ℕ} [] z)

-- a name that has bytes is a piece of the mapping
spelled-second : (pairs : Bytes) (a l : ℕ) (u : Bytes) → piece a l pairs ≡ u → (u ≡ [] → ⊥) → spelled pairs a l ≡ u
unfolding spelled
spelled-second [] a l u e s = absurd (s (sym e ∙ none_left a l))
spelled-second (b ∷ pairs) a l u e s = e

module _ (ns : List Bytes) (n : ℕ) (pairs : Bytes) (x : Pair) (targets spans : List ℕ) (first : Bytes) (named : first ≡ x.first) where
  -- its first name is not in the table
  pub settled-unknown : mem first ns ≡ false → Settled ns n pairs x targets spans targets spans
  settled-unknown h = record { taken = λ f i. go f i (same f x.first) refl; others = λ k l. refl; entries = (refl, refl) }
    where
      go : (f : Bytes) → mem f ns ≡ true → (b : Bool) → same f x.first ≡ b → replacement ns pairs targets spans f ≡ cond b x.second (replacement ns pairs targets spans f)
      go f i true e = absurd (true≢false (sym i ∙ ap (λ (g : Bytes). mem g ns) (same-eq f x.first e ∙ sym named) ∙ h))
      go f i false e = refl

  module _ (k a l : ℕ) (low : k < n) (roomy : k < length targets) (roomy' : k < length spans) (here : mem first ns ≡ true) (is : index_of first ns ≡ k) (bytes : piece a l pairs ≡ x.second) (some : x.second ≡ [] → ⊥) where
    becomes-second : replacement ns pairs (set targets k a) (set spans k l) x.first ≡ x.second
    unfolding replacement
    becomes-second =
        let z : l ≡ 0 → ⊥ = λ e. some (sym bytes ∙ ap (λ (j : ℕ). take j (drop a pairs)) e) in
        rw (← named, is, get_or-set_same targets k a 0 roomy, get_or-set_same spans k l 0 roomy', ne_eqb l 0 z) (spelled-second pairs a l x.second bytes some)

    stays : (f : Bytes) → (index_of f ns ≡ k → ⊥) → replacement ns pairs (set targets k a) (set spans k l) f ≡ replacement ns pairs targets spans f
    unfolding replacement
    stays f d = rw (get_or-set_other targets k (index_of f ns) a 0 d, get_or-set_other spans k (index_of f ns) l 0 d)

    set_is : Settled ns n pairs x targets spans (set targets k a) (set spans k l)
    set_is = record { taken = λ f i. go f i (same f x.first) refl; others = λ j h. get_or-set_other spans k j l 0 (let z : j ≡ k → ⊥ = omega arith in z); entries = (length-set targets k a, length-set spans k l) }
      where
        go : (f : Bytes) → mem f ns ≡ true → (b : Bool) → same f x.first ≡ b → replacement ns pairs (set targets k a) (set spans k l) f ≡ cond b x.second (replacement ns pairs targets spans f)
        go f i true e = ap (replacement ns pairs (set targets k a) (set spans k l)) (same-eq f x.first e) ∙ becomes-second
        go f i false e = stays f (λ q. false≢true (sym e ∙ same_self f x.first (same_place f first ns i here (q ∙ sym is) ∙ named)))

-- its first name is in the table: its entry is the second's start and size
module _ (ns : List Bytes) (n : ℕ) (pairs : Bytes) (x : Pair) (t : List (List ℕ)) (first : Bytes) (named : first ≡ x.first) (k a l : ℕ) (low : k < n) (roomy : k < length t) (here : mem first ns ≡ true) (is : index_of first ns ≡ k) (bytes : piece a l pairs ≡ x.second) (some : x.second ≡ [] → ⊥) where
  pub settled-set : Settled ns n pairs x (starts_of t) (sizes_of t) (starts_of (set t k (a ∷ l ∷ []))) (sizes_of (set t k (a ∷ l ∷ [])))
  settled-set =
      rw (column-set 0 t k (a ∷ l ∷ []), column-set 1 t k (a ∷ l ∷ []))
      (set_is ns n pairs x (starts_of t) (sizes_of t) first named k a l low (omega (arith, roomy, column-length 0 t)) (omega (arith, roomy, column-length 1 t)) here is bytes some)

-- ---- the whole mapping

-- nothing is set at the start
unset : (ns : List Bytes) (pairs : Bytes) (targets spans : List ℕ) (f : Bytes) → ((i : ℕ) → get_or spans i 0 ≡ 0) → replacement ns pairs targets spans f ≡ f
unfolding replacement
unset ns pairs targets spans f h = rw (h (index_of f ns))

-- what is left does what the whole does, and nothing is set behind the names
pub record Underway (ns : List Bytes) (n : ℕ) (pairs : Bytes) (xs : List Pair) (i : ℕ) (targets spans : List ℕ) : Type 0 where
  pub so_far : (f : Bytes) → mem f ns ≡ true → look_last (drop i xs) f (replacement ns pairs targets spans f) ≡ becomes xs f
  pub behind : (k : ℕ) → n ≤ k → get_or spans k 0 ≡ 0
  pub entries : (length targets ≡ 1024) × (length spans ≡ 1024)

module _ (ns : List Bytes) (n : ℕ) (pairs : Bytes) (keys : List (List ℕ)) (m : ℕ) (told : KnownPairs pairs keys m) where
  abbrev xs : List Pair
  xs = pairs_in pairs keys m

  valid : ValidPairs mapping [] xs
  valid = ((pairs-exactly mapping pairs xs).0 told.read).1

  pub begun : (targets spans : List ℕ) → (length targets ≡ 1024) × (length spans ≡ 1024) → ((i : ℕ) → get_or spans i 0 ≡ 0) → Underway ns n pairs xs 0 targets spans
  begun targets spans e h = record { so_far = λ f i. ap (look_last xs f) (unset ns pairs targets spans f h) ∙ look-becomes xs valid f; behind = λ k l. h k; entries = e }

  many : m ≤ length keys
  many = told.room

  module _ (i : ℕ) (targets spans : List ℕ) (u : Underway ns n pairs xs i targets spans) where
    pub ended : m ≤ i → Targets ns n pairs targets spans
    unfolding look_last
    ended h =
        let past : length xs ≤ i = let z = pairs-long pairs keys m many in omega arith in
        record { list = xs; read = told.read; found = λ f j. sym (ap (λ (ys : List Pair). look_last ys f (replacement ns pairs targets spans f)) (drop_of_length-le xs past)) ∙ u.so_far f j; behind = u.behind }

    module _ (l : i < m) where
      here : drop i xs ≡ pair_at pairs (get_or keys i []) ∷ drop (i + 1) xs
      here = pair-at pairs keys m i many l

      -- its second name is not empty
      pub next-some : (pair_at pairs (get_or keys i [])).second ≡ [] → ⊥
      next-some = second-some [] xs valid i (pair_at pairs (get_or keys i [])) (drop (i + 1) xs) here

      pub next-pair : (targets' spans' : List ℕ) → Settled ns n pairs (pair_at pairs (get_or keys i [])) targets spans targets' spans' → Underway ns n pairs xs (i + 1) targets' spans'
      unfolding look_last
      next-pair targets' spans' s = record {
        so_far = λ f j.
            ap (look_last (drop (i + 1) xs) f) (s.taken f j)
            ∙ sym (ap (λ (ys : List Pair). look_last ys f (replacement ns pairs targets spans f)) here)
            ∙ u.so_far f j;
        behind = λ k h. s.others k h ∙ u.behind k h;
        entries = (s.entries.0 ∙ u.entries.0, s.entries.1 ∙ u.entries.1);
      }
