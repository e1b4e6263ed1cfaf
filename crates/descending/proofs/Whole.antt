-- A whole tree renamed: the descent over all its noted lines passed all its variables. Assumes nothing.
use Prim.Native.Nat.{ℕ, zero, suc, ◌+◌, ◌-◌, ◌≤◌}
use mathlib.Core.Path.{◌≡◌, refl, sym, ap, subst, ◌∙◌}
use mathlib.Core.Bool.{Bool, true, false}
use mathlib.Core.List.{List, [], ◌∷◌, ◌++◌, map}
use native.Mathlib.Omega.{arith}
use lib.Dec.{eqb}
use lib.ListN.{length, get_or, take, drop, length-append, length-take, length-drop, length-map, get_or-append}
use lib.Seq.{take-suc, get_or-append-add, get_or-drop, get_or-take}
use borrow.Author.Tests.{le-leb, eqb-true, eqb-false}
use Rattle.algebra.specs.bridge.Table.{patterns}
use Rattle.algebra.specs.Tally.{bounds}
use Rattle.scoping.specs.bridge.Spots.{Node}
use Rattle.scoping.specs.bridge.Skip.{skip}
use Rattle.lines.specs.bridge.Noded.{node_at, nodes_of}
use Rattle.descending.specs.bridge.Renamed.{renamed_spot, Renamed, nodes_from, first_spot, Descends}

-- ---- parts of arrays

map-append : {A B : Type 0} (f : A → B) (xs ys : List A) → map f (xs ++ ys) ≡ map f xs ++ map f ys
map-append f [] ys = refl
map-append {B = B} f (x ∷ xs) ys = ap (λ (l : List B). f x ∷ l) (map-append f xs ys)

-- the first m noted lines
pub nodes-are : (words b : List (List ℕ)) (m : ℕ) → m ≤ length b → nodes_of words b m ≡ nodes_from words (take m b) 0
unfolding nodes_of nodes_from
nodes-are words b zero h = refl
nodes-are words b (suc m) h =
    ap (λ (l : List Node). l ++ (node_at words (get_or b m []) ∷ [])) (nodes-are words b m (omega arith))
    ∙ sym (ap (map (node_at words)) (take-suc b m [] (omega arith)) ∙ map-append (node_at words) (take m b) (get_or b m [] ∷ []))

pub take_long : (a : List (List ℕ)) (k : ℕ) → k ≤ length a → k ≡ length (take k a)
take_long a k h = rw (length-take k a) (omega arith)

-- no line is left
nodes-none : (words nodes : List (List ℕ)) (n : ℕ) → nodes_from words nodes n ≡ [] → length nodes ≤ n
unfolding nodes_from
nodes-none words nodes n e =
    let l : length nodes - n ≡ 0 = sym (length-drop n nodes) ∙ sym (length-map (drop n nodes) (node_at words)) ∙ ap length e in
    omega arith

-- the first k are renamed, and the others stay
joined : (sizes : List ℕ) (a : List (List ℕ)) (k : ℕ) (b : List (List ℕ)) → k ≤ length a → Renamed sizes (take k a) 0 b k → Renamed sizes a 0 (b ++ drop k a) k
joined sizes a k b h r =
    let l : length b ≡ k = r.long ∙ sym (take_long a k h) in
    record {
      long = length-append b (drop k a) ∙ rw (length-drop k a, l) (omega arith);
      low = λ j z. absurd (omega arith);
      high = λ j z.
          let e : j ≡ length b + (j - k) = omega arith in
          let f : k + (j - k) ≡ j = omega arith in
          ap (λ (x : ℕ). get_or (b ++ drop k a) x []) e ∙ get_or-append-add b (drop k a) (j - k) [] ∙ get_or-drop k a (j - k) [] ∙ ap (λ (x : ℕ). get_or a x []) f;
      here = λ j z y. get_or-append b (drop k a) [] j (omega arith) ∙ r.here j z y ∙ ap (renamed_spot sizes) (get_or-take k a j [] y);
    }

-- ---- the descent over all lines

last-spot : (nodes : List (List ℕ)) (n k : ℕ) → length nodes ≤ n → first_spot nodes n k ≡ k
unfolding first_spot
last-spot nodes n k h = rw (le-leb (length nodes) n h) refl

pub tree-renamed : (words nodes : List (List ℕ)) (m : ℕ) (sizes : List ℕ) (a : List (List ℕ)) (k : ℕ) (b : List (List ℕ)) (n v : ℕ) → m ≤ length nodes → k ≤ length a → skip bounds.depth patterns (nodes_of words nodes m) ≡ [] → (m ≡ 0 → k ≡ 0)
    → Descends words (take m nodes) sizes (skip bounds.depth patterns (nodes_from words (take m nodes) 0)) (take k a) 0 0 b n v → Renamed sizes a 0 (b ++ drop k a) k
tree-renamed words nodes m sizes a k b n v hm hk e z r = joined sizes a k b hk (subst (Renamed sizes (take k a) 0 b) all r.went.all.all)
  where
    ends : length (take m nodes) ≤ n
    ends = nodes-none words (take m nodes) n (r.shape ∙ ap (skip bounds.depth patterns) (sym (nodes-are words nodes m hm)) ∙ e)

    last : first_spot (take m nodes) n (length (take k a)) ≡ k
    last = last-spot (take m nodes) n (length (take k a)) ends ∙ sym (take_long a k hk)

    reached : (t : Bool) → eqb m 0 ≡ t → k ≤ v
    reached true q = let p : k ≡ 0 = z (eqb-true m 0 q) in omega arith
    reached false q =
        let p : m ≡ 0 → ⊥ = eqb-false m 0 q in
        let l : m ≡ length (take m nodes) = take_long nodes m hm in
        let y = ends in
        let x = r.went.reached (omega arith) in
        let w = last in
        omega arith

    all : v ≡ k
    all = let x = r.went.all.inside in let y = reached (eqb m 0) refl in let w = take_long a k hk in omega arith
