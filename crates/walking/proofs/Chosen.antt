-- The names whose flags are set after the walk over a tree are its names in scope and its hidden ones, by first place. Assumes nothing.
use Prim.Native.Nat.{ℕ, suc, ◌+◌, ◌≤◌, ◌<◌}
use mathlib.Core.Path.{◌≡◌, refl, sym, ap, ◌∙◌}
use mathlib.Core.List.{List, [], ◌∷◌}
use mathlib.Core.Bool.{Bool, true, false, cond, not, ◌||◌, ◌&&◌, or-false, or-true, or_assoc, true≢false, false≢true}
use native.Mathlib.Omega.{arith}
use lib.ListN.{length, get_or, set, replicate, length-set, length-replicate, get_or-replicate}
use lib.Seq.{get_or-set_same, get_or-set_other}
use lib.Dec.{eqb}
use Rattle.text.specs.Text.{Bytes, same}
use Rattle.text.proofs.Basics.{same-eq}
use Rattle.algebra.specs.Valid.{mem, Valid}
use Rattle.algebra.specs.Tree.{Pattern}
use Rattle.scoping.specs.bridge.Sets.{Once}
use Rattle.scoping.specs.Sets.{index_of, keep}
use Rattle.scoping.specs.bridge.Places.{Mark, visible, covered, silent, Place, places, Scope, in_scope, hidden, counts, names_at, visible_names, hidden_names}
use Rattle.scoping.specs.Variables.{variables_in_pattern}
use Rattle.scoping.specs.Numbering.{by_place, in_scope_by_place, hidden_by_place}
use Rattle.scoping.proofs.Sets.{and_none, differ}
use Rattle.scoping.proofs.Index.{at-index, index_below, mem-at, index_at}
use Rattle.scoping.proofs.Walked.{visible-in-scope, covered-hidden}
use Rattle.scoping.proofs.FirstPlaces.{by-place-once}
use Rattle.walking.specs.bridge.Walk.{flagged}
use Rattle.scoping.specs.bridge.Flagged.{chosen}
use Rattle.walking.specs.bridge.Flags.{flag_all}

-- the flag is set
abbrev on : List ℕ → ℕ → Bool
on flags k = not (eqb (get_or flags k 0) 0)

-- where the flags of a set begin
abbrev base : Scope → ℕ
base in_scope = 0
base hidden = 1024

-- ---- one flag more

-- entry a is set: t says whether it is entry b
raise : (flags : List ℕ) (a b : ℕ) (t : Bool) → a < length flags → (t ≡ true → b ≡ a) → (t ≡ false → b ≡ a → ⊥) → on (set flags a 1) b ≡ (on flags b || t)
raise flags a b true h f n = rw (f refl, get_or-set_same flags a 1 0 h) (sym (or-true (on flags a)))
raise flags a b false h f n = rw (get_or-set_other flags a b 1 0 (n refl)) (sym (or-false (on flags b)))

-- an entry is noted: t says whether it is entry i
note-one : (k : Scope) (m : Mark) (flags : List ℕ) (i j : ℕ) (t : Bool) → length flags ≡ 2048 → i < 1024 → j < 1024 → (t ≡ true → i ≡ j) → (t ≡ false → i ≡ j → ⊥)
    → on (flagged m j flags) (base k + i) ≡ (on flags (base k + i) || (counts k m && t))
note-one in_scope visible flags i j t l h g f n = raise flags j (0 + i) t (omega arith) (λ e. let z : i ≡ j = f e in omega arith) (λ e q. n e (omega arith))
note-one hidden covered flags i j t l h g f n = raise flags (1024 + j) (1024 + i) t (omega arith) (λ e. let z : i ≡ j = f e in omega arith) (λ e q. n e (omega arith))
note-one hidden visible flags i j t l h g f n = raise flags j (1024 + i) false (omega arith) (λ e. absurd (false≢true e)) (λ e q. omega arith)
note-one in_scope covered flags i j t l h g f n = raise flags (1024 + j) (0 + i) false (omega arith) (λ e. absurd (false≢true e)) (λ e q. omega arith)
note-one in_scope silent flags i j t l h g f n = sym (or-false (on flags (0 + i)))
note-one hidden silent flags i j t l h g f n = sym (or-false (on flags (1024 + i)))

flagged-long : (m : Mark) (j : ℕ) (flags : List ℕ) → length (flagged m j flags) ≡ length flags
flagged-long visible j flags = length-set flags j 1
flagged-long covered j flags = length-set flags (1024 + j) 1
flagged-long silent j flags = refl

-- one place more in front
mem-place : (k : Scope) (v : Bytes) (x : Place) (xs : List Place) → mem v (names_at k (x ∷ xs)) ≡ ((counts k x.mark && same v x.name) || mem v (names_at k xs))
unfolding mem names_at
mem-place k v x xs = go (counts k x.mark)
  where
    go : (t : Bool) → mem v (cond t (x.name ∷ names_at k xs) (names_at k xs)) ≡ ((t && same v x.name) || mem v (names_at k xs))
    go true = refl
    go false = refl

-- ---- all flags

-- what one place does to the flags
abbrev step : List Bytes → Place → List ℕ → List ℕ
step ns x flags = cond (mem x.name ns) (flagged x.mark (index_of x.name ns) flags) flags

step-long : (ns : List Bytes) (x : Place) (flags : List ℕ) → length (step ns x flags) ≡ length flags
step-long ns x flags = go (mem x.name ns)
  where
    go : (t : Bool) → length (cond t (flagged x.mark (index_of x.name ns) flags) flags) ≡ length flags
    go true = flagged-long x.mark (index_of x.name ns) flags
    go false = refl

module _ (ns : List Bytes) (once : Once ns) (few : length ns ≤ 1024) (k : Scope) (i : ℕ) (low : i < length ns) where
  -- a place sets the flag of its name only
  step-on : (x : Place) (flags : List ℕ) → length flags ≡ 2048 → on (step ns x flags) (base k + i) ≡ (on flags (base k + i) || (counts k x.mark && same (get_or ns i []) x.name))
  step-on x flags l = go (mem x.name ns) refl (same (get_or ns i []) x.name) refl
    where
      go : (t : Bool) → mem x.name ns ≡ t → (s : Bool) → same (get_or ns i []) x.name ≡ s
          → on (cond t (flagged x.mark (index_of x.name ns) flags) flags) (base k + i) ≡ (on flags (base k + i) || (counts k x.mark && s))
      go true e s q =
          let j : index_of x.name ns < length ns = index_below x.name ns e in
          note-one k x.mark flags i (index_of x.name ns) s l (omega arith) (omega arith)
          (λ z. sym (index_at ns i once low) ∙ ap (λ (v : Bytes). index_of v ns) (same-eq (get_or ns i []) x.name (q ∙ z)))
          (λ z w. differ (get_or ns i []) x.name (q ∙ z) (ap (λ (n : ℕ). get_or ns n []) w ∙ at-index x.name ns e))
      go false e true q = absurd (true≢false (sym (mem-at ns i low) ∙ ap (λ (v : Bytes). mem v ns) (same-eq (get_or ns i []) x.name q) ∙ e))
      go false e false q = sym (ap (λ (b : Bool). on flags (base k + i) || b) (and_none (counts k x.mark)) ∙ or-false (on flags (base k + i)))

  -- a flag is set if it was, or if its name stands at a place of the set
  flags-on : (xs : List Place) (flags : List ℕ) → length flags ≡ 2048 → on (flag_all ns xs flags) (base k + i) ≡ (on flags (base k + i) || mem (get_or ns i []) (names_at k xs))
  unfolding flag_all names_at mem
  flags-on [] flags l = sym (or-false (on flags (base k + i)))
  flags-on (x ∷ xs) flags l =
      flags-on xs (step ns x flags) (step-long ns x flags ∙ l)
      ∙ ap (λ (b : Bool). b || mem (get_or ns i []) (names_at k xs)) (step-on x flags l)
      ∙ or_assoc (on flags (base k + i)) (counts k x.mark && same (get_or ns i []) x.name) (mem (get_or ns i []) (names_at k xs))
      ∙ ap (λ (b : Bool). on flags (base k + i) || b) (sym (mem-place k (get_or ns i []) x xs))

-- ---- the names whose flags are set

-- flags that say which names pass a test
chosen-keep : (t : Bytes → Bool) (flags : List ℕ) (fs : List Bytes) (a : ℕ) → ((i : ℕ) → i < length fs → on flags (a + i) ≡ t (get_or fs i [])) → chosen a flags fs ≡ keep t fs
unfolding chosen keep
chosen-keep t flags [] a h = refl
chosen-keep t flags (f ∷ fs) a h =
    go (eqb (get_or flags a 0) 0) (let e : a ≡ a + 0 = omega arith in ap (on flags) e ∙ h 0 (omega arith))
    (chosen-keep t flags fs (suc a) (λ i l. let e : suc a + i ≡ a + suc i = omega arith in ap (on flags) e ∙ h (suc i) (omega arith)))
  where
    go : (b : Bool) → not b ≡ t f → chosen (suc a) flags fs ≡ keep t fs → cond b (chosen (suc a) flags fs) (f ∷ chosen (suc a) flags fs) ≡ cond (t f) (f ∷ keep t fs) (keep t fs)
    go true e r = r ∙ ap (λ (c : Bool). cond c (f ∷ keep t fs) (keep t fs)) e
    go false e r = ap (λ (l : List Bytes). f ∷ l) r ∙ ap (λ (c : Bool). cond c (f ∷ keep t fs) (keep t fs)) e

-- from flags of which none is set
chosen-names : (k : Scope) (ns vs : List Bytes) (xs : List Place) → Once ns → length ns ≤ 1024 → ((v : Bytes) → mem v (names_at k xs) ≡ mem v vs)
    → chosen (base k) (flag_all ns xs (replicate 2048 0)) ns ≡ keep (λ v. mem v vs) ns
chosen-names k ns vs xs o h e = chosen-keep (λ v. mem v vs) (flag_all ns xs (replicate 2048 0)) ns (base k) λ i l.
    flags-on ns o h k i l xs (replicate 2048 0) (length-replicate {A = ℕ} 2048 0)
    ∙ ap (λ (n : ℕ). not (eqb n 0) || mem (get_or ns i []) (names_at k xs)) (get_or-replicate {A = ℕ} 2048 (base k + i) 0 0 (below k i (omega arith)))
    ∙ e (get_or ns i [])
  where
    below : (k : Scope) (i : ℕ) → i < 1024 → base k + i < 2048
    below in_scope i h = omega arith
    below hidden i h = omega arith

-- the names with a flag among the first 1,024 are those in scope
pub chosen-in-scope : (p : Pattern) → Valid p → length (by_place p) ≤ 1024 → chosen 0 (flag_all (by_place p) (places p visible) (replicate 2048 0)) (by_place p) ≡ in_scope_by_place p
unfolding in_scope_by_place visible_names
chosen-in-scope p w h = chosen-names in_scope (by_place p) (variables_in_pattern p).in_scope (places p visible) (by-place-once p) h (visible-in-scope p)

-- the names with a flag behind them are the hidden ones
pub chosen-hidden : (p : Pattern) → Valid p → length (by_place p) ≤ 1024 → chosen 1024 (flag_all (by_place p) (places p visible) (replicate 2048 0)) (by_place p) ≡ hidden_by_place p
unfolding hidden_by_place hidden_names
chosen-hidden p w h = chosen-names hidden (by_place p) (variables_in_pattern p).hidden (places p visible) (by-place-once p) h (covered-hidden p)
