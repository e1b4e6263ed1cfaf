-- Renaming changes only the marks of variables, and no text is written by them. Assumes nothing.
use Prim.Native.Nat.{ℕ, zero, suc, ◌+◌, ◌≤◌, ◌<◌}
use mathlib.Core.Path.{◌≡◌, refl, sym, ap, subst, ◌∙◌}
use mathlib.Core.List.{List, [], ◌∷◌, ◌++◌}
use native.Mathlib.Omega.{arith}
use lib.ListN.{length, get_or, drop}
use Rattle.text.specs.Text.{Bytes, part}
use Rattle.emit.specs.bridge.Emit.{Em, puts}
use Rattle.scoping.specs.bridge.Spots.{Spot}
use Rattle.lines.specs.bridge.Spotted.{spots_of}
use Rattle.walking.specs.bridge.Code.{Inside, Marked}
use Rattle.descending.specs.bridge.Renamed.{new_mark, renamed_spot, Renamed}
use Rattle.walking.specs.bridge.Rewritten.{rewritten, Stands}

-- the same variables at the same places, whatever their marks
data Alike : List Spot → List Spot → Type 0 where
  none : Alike [] []
  next : {x y : Spot} {xs ys : List Spot} → x.at ≡ y.at → x.name ≡ y.name → Alike xs ys → Alike (x ∷ xs) (y ∷ ys)

alike-sym : {xs ys : List Spot} → Alike xs ys → Alike ys xs
alike-sym none = none
alike-sym (next p q l) = next (sym p) (sym q) (alike-sym l)

alike-append : {xs ys zs ws : List Spot} → Alike xs ys → Alike zs ws → Alike (xs ++ zs) (ys ++ ws)
alike-append none r = r
alike-append (next p q l) r = next p q (alike-append l r)

alike-drop : {xs ys : List Spot} (i : ℕ) → Alike xs ys → Alike (drop i xs) (drop i ys)
alike-drop zero l = l
alike-drop (suc i) none = none
alike-drop (suc i) (next p q l) = alike-drop i l

alike-stands : {xs ys : List Spot} (s : Bytes) (from to : ℕ) → Alike xs ys → Stands s from to xs → Stands s from to ys
unfolding Stands
alike-stands s from to none h = h
alike-stands s from to (next {x} {y} {xs} {ys} p q l) (a, b, c) = (
  subst (λ (n : ℕ). from ≤ n) p a,
  (λ i. part (sym p i) (sym p i + length (sym q i)) s) ∙ b ∙ q,
  subst (λ (n : ℕ). Stands s n to ys) (λ i. p i + length (q i)) (alike-stands s (x.at + length x.name) to l c),
)

alike-rewritten : {xs ys : List Spot} (new : Bytes → Bytes) (s : Bytes) (from to : ℕ) (e : Em) → Alike xs ys → rewritten new s xs from to e ≡ rewritten new s ys from to e
unfolding rewritten
alike-rewritten new s from to e none = refl
alike-rewritten new s from to e (next {x} {y} {xs} {ys} p q l) =
    alike-rewritten new s (x.at + length x.name) to (puts (new x.name) (puts (part from x.at s) e)) l
    ∙ λ i. rewritten new s ys (p i + length (q i)) to (puts (new (q i)) (puts (part from (p i) s) e))

-- ---- variables that were renamed

module _ {sizes : List ℕ} {a : List (List ℕ)} {b : List (List ℕ)} {k : ℕ} (r : Renamed sizes a 0 b k) where
  start-stays : (i : ℕ) → i < k → get_or (get_or b i []) 0 0 ≡ get_or (get_or a i []) 0 0
  unfolding renamed_spot
  start-stays i h = ap (λ (s : List ℕ). get_or s 0 0) (r.here i (omega arith) h)

  entry-stays : (i : ℕ) → i < k → get_or (get_or b i []) 1 0 ≡ get_or (get_or a i []) 1 0
  unfolding renamed_spot
  entry-stays i h = ap (λ (s : List ℕ). get_or s 1 0) (r.here i (omega arith) h)

  mark-is : (i : ℕ) → i < k → get_or (get_or b i []) 2 0 ≡ new_mark sizes (get_or (get_or a i []) 1 0)
  unfolding renamed_spot
  mark-is i h = ap (λ (s : List ℕ). get_or s 2 0) (r.here i (omega arith) h)

  alike-spots : (ns : List Bytes) (j : ℕ) → j ≤ k → Alike (spots_of ns b j) (spots_of ns a j)
  unfolding spots_of
  alike-spots ns zero h = none
  alike-spots ns (suc j) h = alike-append (alike-spots ns j (omega arith)) (next (start-stays j (omega arith)) (ap (λ (e : ℕ). get_or ns e []) (entry-stays j (omega arith))) none)

  -- what a writer reads off them
  module _ (j : ℕ) (h : j ≤ k) where
    pub renamed-marked : Marked sizes b j
    renamed-marked = record { mark = λ i l. mark-is i (omega arith) ∙ ap (new_mark sizes) (sym (entry-stays i (omega arith))) }

    pub renamed-inside : (n : ℕ) → Inside n a j → Inside n b j
    renamed-inside n x = record { many = let m = x.many in let l = r.long in omega arith; each = λ i l. subst (λ (e : ℕ). e < n) (sym (entry-stays i (omega arith))) (x.each i l) }

    module _ (ns : List Bytes) (s : Bytes) (i from to : ℕ) where
      pub renamed-stands : Stands s from to (drop i (spots_of ns a j)) → Stands s from to (drop i (spots_of ns b j))
      renamed-stands x = alike-stands s from to (alike-sym (alike-drop i (alike-spots ns j h))) x

      pub renamed-rewritten : (new : Bytes → Bytes) (e : Em) → rewritten new s (drop i (spots_of ns b j)) from to e ≡ rewritten new s (drop i (spots_of ns a j)) from to e
      renamed-rewritten new e = alike-rewritten new s from to e (alike-drop i (alike-spots ns j h))
