-- What the pairs of a mapping make of a name, pair by pair, is what the mapping makes of it: no name is mapped twice. Assumes nothing.
use Prim.Native.Nat.{ℕ, zero, suc}
use mathlib.Core.Path.{◌≡◌, refl, sym, ap, subst, ◌∙◌}
use mathlib.Core.List.{List, [], ◌∷◌, ◌++◌, map}
use mathlib.Core.Bool.{Bool, true, false, cond, ◌||◌, or-true, or-false, true≢false, false≢true}
use mathlib.Core.Option.{some}
use native.Mathlib.Omega.{arith}
use lib.ListN.{drop}
use Rattle.text.specs.Text.{Bytes, same}
use Rattle.text.specs.Field.{variable, is_var, is_kind, fits, clean}
use Rattle.text.proofs.Basics.{same-eq}
use Rattle.algebra.specs.Query.{Pair, mapping}
use Rattle.algebra.specs.Valid.{Fits, mem, ValidPairs}
use Rattle.scoping.specs.Standardize.{Entry, entry, get, or_self, renamed}
use Rattle.scoping.proofs.Sets.{mem-append}
use Rattle.renaming.specs.Rename.{becomes}

-- what pairs make of a name, pair by pair; d is what has been found so far
unfoldable pub look_last : List Pair → Bytes → Bytes → Bytes
unfolding same
look_last [] f d = d
look_last (x ∷ xs) f d = look_last xs f (cond (same f x.first) x.second d)

-- one name more has been seen
seen_more : (f x : Bytes) (seen : List Bytes) → (mem f seen || same f x) ≡ true → mem f (seen ++ (x ∷ [])) ≡ true
unfolding mem
seen_more f x seen h = mem-append f seen (x ∷ []) ∙ ap (λ (b : Bool). mem f seen || b) (or-false (same f x)) ∙ h

-- no later pair has a name that has been seen
look-past : (f d : Bytes) (seen : List Bytes) (xs : List Pair) → ValidPairs mapping seen xs → mem f seen ≡ true → look_last xs f d ≡ d
unfolding ValidPairs look_last
look-past f d seen [] w h = refl
look-past f d seen (x ∷ xs) w h = go (same f x.first) refl (look-past f d (seen ++ (x.first ∷ [])) xs w.3 (seen_more f x.first seen (ap (λ (b : Bool). b || same f x.first) h)))
  where
    go : (t : Bool) → same f x.first ≡ t → look_last xs f d ≡ d → look_last xs f (cond t x.second d) ≡ d
    go true e r = absurd (true≢false (sym h ∙ ap (λ (v : Bytes). mem v seen) (same-eq f x.first e) ∙ w.2))
    go false e r = r

-- the map that the pairs of a mapping are
abbrev entries : List Pair → List Entry
entries xs = map (λ x. entry x.first x.second) xs

-- the first pair that has the name is the last that has it
look-first : (f d : Bytes) (seen : List Bytes) (xs : List Pair) → ValidPairs mapping seen xs → look_last xs f d ≡ or_self (get f (entries xs)) d
unfolding ValidPairs look_last get
look-first f d seen [] w = refl
look-first f d seen (x ∷ xs) w = go (same f x.first) refl (look-first f d (seen ++ (x.first ∷ [])) xs w.3)
  where
    go : (t : Bool) → same f x.first ≡ t → look_last xs f d ≡ or_self (get f (entries xs)) d → look_last xs f (cond t x.second d) ≡ or_self (cond t (some x.second) (get f (entries xs))) d
    go true e r = look-past f x.second (seen ++ (x.first ∷ [])) xs w.3 (seen_more f x.first seen (ap (λ (b : Bool). mem f seen || b) e ∙ or-true (mem f seen)))
    go false e r = r

-- where nothing has been found yet
pub look-becomes : (xs : List Pair) → ValidPairs mapping [] xs → (f : Bytes) → look_last xs f f ≡ becomes xs f
unfolding becomes renamed
look-becomes xs w f = look-first f f [] xs w

-- a variable is not empty
var-some : (v : Bytes) → Fits variable v → v ≡ [] → ⊥
unfolding fits is_kind is_var clean
var-some [] h e = false≢true h
var-some (x ∷ v) h e = let z : ◌≡◌ {A = ℕ} 0 1 = cc in absurd (omega arith)

-- nor is any second name
pub second-some : (seen : List Bytes) (xs : List Pair) → ValidPairs mapping seen xs → (i : ℕ) (x : Pair) (rest : List Pair) → drop i xs ≡ x ∷ rest → x.second ≡ [] → ⊥
unfolding ValidPairs
second-some seen [] w zero x rest e = let z : ◌≡◌ {A = ℕ} 0 1 = cc in absurd (omega arith)
second-some seen [] w (suc i) x rest e = let z : ◌≡◌ {A = ℕ} 0 1 = cc in absurd (omega arith)
second-some seen (y ∷ ys) w zero x rest e = let q : y ≡ x = cc in subst (λ (v : Pair). v.second ≡ [] → ⊥) q (var-some y.second w.1)
second-some seen (y ∷ ys) w (suc i) x rest e = second-some (seen ++ (y.first ∷ [])) ys w.3 i x rest e
