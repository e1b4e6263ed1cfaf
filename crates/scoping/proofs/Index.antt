-- Places of names in lists, and the pairs of two lists. Assumes nothing.
use mathlib.Core.Path.{◌≡◌, refl, sym, ap, ◌∙◌}
use mathlib.Core.List.{List, [], ◌∷◌}
use mathlib.Core.Bool.{Bool, true, false, cond, ◌||◌, ◌&&◌, or-true, true≢false, false≢true}
use Prim.Native.Nat.{ℕ, zero, suc, ◌<◌}
use native.Mathlib.Omega.{arith}
use lib.ListN.{length, get_or}
use Rattle.text.specs.Text.{Bytes, same}
use Rattle.text.proofs.Basics.{same-eq, same_refl, and_left, and_right, and_both}
use Rattle.algebra.specs.Valid.{mem}
use Rattle.algebra.proofs.Lines.{different-head, different-tail}
use Rattle.scoping.specs.bridge.Sets.{Once}
use Rattle.scoping.specs.Sets.{index_of}
use Rattle.scoping.specs.bridge.Premises.{is_pair}
use Rattle.scoping.proofs.Sets.{not_same, eq-same}

pub at-index : (w : Bytes) (vs : List Bytes) → mem w vs ≡ true → get_or vs (index_of w vs) [] ≡ w
unfolding mem index_of
at-index w [] h = absurd (false≢true h)
at-index w (v ∷ vs) h = go (at-index w vs) (same w v) refl h
  where
    go : (mem w vs ≡ true → get_or vs (index_of w vs) [] ≡ w) → (t : Bool) → same w v ≡ t → (t || mem w vs) ≡ true → get_or (v ∷ vs) (cond t 0 (suc (index_of w vs))) [] ≡ w
    go r true e x = sym (same-eq w v e)
    go r false e x = r x

pub index_below : (w : Bytes) (vs : List Bytes) → mem w vs ≡ true → index_of w vs < length vs
unfolding mem index_of
index_below w [] h = absurd (false≢true h)
index_below w (v ∷ vs) h = go (index_below w vs) (same w v) h
  where
    go : (mem w vs ≡ true → index_of w vs < length vs) → (t : Bool) → (t || mem w vs) ≡ true → cond t 0 (suc (index_of w vs)) < length (v ∷ vs)
    go r true x = omega arith
    go r false x = let z : index_of w vs < length vs = r x in omega arith

pub same_place : (w u : Bytes) (vs : List Bytes) → mem w vs ≡ true → mem u vs ≡ true → index_of w vs ≡ index_of u vs → w ≡ u
same_place w u vs h k e = sym (at-index w vs h) ∙ ap (λ (n : ℕ). get_or vs n []) e ∙ at-index u vs k

pub mem-at : (vs : List Bytes) (i : ℕ) → i < length vs → mem (get_or vs i []) vs ≡ true
unfolding mem
mem-at [] i h = absurd (omega arith)
mem-at (v ∷ vs) zero h = simp (same_refl v)
mem-at (v ∷ vs) (suc i) h = ap (λ (b : Bool). same (get_or vs i []) v || b) (mem-at vs i (omega arith)) ∙ or-true (same (get_or vs i []) v)

pub index_at : (vs : List Bytes) (i : ℕ) → Once vs → i < length vs → index_of (get_or vs i []) vs ≡ i
unfolding index_of
index_at [] i o h = absurd (omega arith)
index_at (v ∷ vs) zero o h = simp (same_refl v)
index_at (v ∷ vs) (suc i) o h = ap (λ (b : Bool). cond b 0 (suc (index_of (get_or vs i []) vs))) other ∙ ap suc (index_at vs i (different-tail v vs o) (omega arith))
  where
    other : same (get_or vs i []) v ≡ false
    other = not_same (get_or vs i []) v (λ e. true≢false (sym (mem-at vs i (omega arith)) ∙ ap (λ (n : Bytes). mem n vs) e ∙ different-head v vs o))

-- ---- pairs

-- a and b stand at one place of the two lists
abbrev pub Paired : List Bytes → List Bytes → Bytes → Bytes → Type 0
Paired ls rs a b = (i : ℕ) × (i < length ls) × (i < length rs) × (get_or ls i [] ≡ a) × (get_or rs i [] ≡ b)

pub pair-at : (ls rs : List Bytes) (a b : Bytes) (i : ℕ) → i < length ls → i < length rs → get_or ls i [] ≡ a → get_or rs i [] ≡ b → is_pair ls rs a b ≡ true
unfolding is_pair
pair-at [] rs a b i h k e f = absurd (omega arith)
pair-at (l ∷ ls) [] a b i h k e f = absurd (omega arith)
pair-at (l ∷ ls) (r ∷ rs) a b zero h k e f = ap (λ (t : Bool). t || is_pair ls rs a b) (and_both (same l a) (same r b) (eq-same l a e) (eq-same r b f))
pair-at (l ∷ ls) (r ∷ rs) a b (suc i) h k e f = ap (λ (t : Bool). (same l a && same r b) || t) (pair-at ls rs a b i (omega arith) (omega arith) e f) ∙ or-true (same l a && same r b)

pub pair-index : (ls rs : List Bytes) (a b : Bytes) → is_pair ls rs a b ≡ true → Paired ls rs a b
unfolding is_pair
pair-index [] rs a b h = absurd (false≢true h)
pair-index (l ∷ ls) [] a b h = absurd (false≢true h)
pair-index (l ∷ ls) (r ∷ rs) a b h = go (same l a && same r b) refl h (pair-index ls rs a b)
  where
    go : (t : Bool) → (same l a && same r b) ≡ t → (t || is_pair ls rs a b) ≡ true → (is_pair ls rs a b ≡ true → Paired ls rs a b) → Paired (l ∷ ls) (r ∷ rs) a b
    go true e x f = (0, omega arith, omega arith, same-eq l a (and_left (same l a) (same r b) e), same-eq r b (and_right (same l a) (same r b) e))
    go false e x f = let q = f x in (suc q.0, omega (arith, q.1), omega (arith, q.2), q.3, q.4)

-- a name that is not there has no place among them
pub index-none : (w : Bytes) (vs : List Bytes) → mem w vs ≡ false → index_of w vs ≡ length vs
unfolding mem index_of
index-none w [] h = refl
index-none w (v ∷ vs) h = go (same w v) (mem w vs) h (index-none w vs)
  where
    go : (b c : Bool) → (b || c) ≡ false → (c ≡ false → index_of w vs ≡ length vs) → cond b 0 (suc (index_of w vs)) ≡ suc (length vs)
    go true c e f = absurd (true≢false e)
    go false c e f = ap suc (f e)
