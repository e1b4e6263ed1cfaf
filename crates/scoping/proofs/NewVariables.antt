-- New names are variables as the specification bounds them, and there are few numbers. Assumes nothing.
use mathlib.Core.Path.{◌≡◌, refl, ap, ◌∙◌}
use mathlib.Core.List.{List, [], ◌∷◌, ◌++◌}
use mathlib.Core.Bool.{Bool, true, false, cond, ◌&&◌}
use Prim.Native.Nat.{ℕ, zero, suc, ◌+◌, ◌*◌, ◌/◌, ◌%◌, ◌≤◌, ◌<◌}
use native.Mathlib.Omega.{arith}
use native.Mathlib.Decide.{dec_lt}
use lib.ListN.{length, length-append}
use lib.Dec.{leb}
use borrow.Author.Tests.{le-leb}
use Rattle.text.specs.Text.{Bytes}
use Rattle.text.specs.Field.{most, is_var, digits, decimal}
use Rattle.text.proofs.Basics.{and_both}
use Rattle.text.proofs.Numbers.{digits-small, digits-big}
use Rattle.algebra.specs.Valid.{mem}
use Rattle.algebra.specs.Tree.{Pattern}
use Rattle.scoping.specs.Sets.{keep, index_of}
use Rattle.scoping.specs.Variables.{variables_in_pattern}
use Rattle.scoping.specs.Label.{label, generated, prefix_j}
use Rattle.scoping.specs.Numbering.{by_place, in_scope_by_place, hidden_by_place, numbered}
use Rattle.scoping.proofs.Closed.{target}
use Rattle.scoping.proofs.Index.{index_below}

-- ---- few digits

-- ten to the power of one more than d
tens : ℕ → ℕ
tens zero = 10
tens (suc d) = 10 * tens d

digits-few : (d k n : ℕ) → n < tens d → length (digits k n) ≤ suc d
unfolding tens digits
digits-few d zero n h = omega arith
digits-few zero (suc k) n h = omega (arith, ap length (digits-small k n h))
digits-few (suc d) (suc k) n h = go (digits-few d k (n / 10)) (dec_lt n 10)
  where
    go : (n / 10 < tens d → length (digits k (n / 10)) ≤ suc d) → Dec (n < 10) → length (digits (suc k) n) ≤ suc (suc d)
    go r (yes l) = omega (arith, ap length (digits-small k n l))
    go r (no l) = omega (arith, r (omega arith), ap length (digits-big k n (omega arith)), length-append (digits k (n / 10)) ((n % 10 + 48) ∷ []))

decimal-few : (n : ℕ) → n ≤ most → length (decimal n) ≤ 10
unfolding decimal tens
decimal-few n h = digits-few 9 (suc n) n (omega arith)

-- ---- variables

is-variable : (xs : Bytes) → 1 ≤ length xs → length xs ≤ 128 → is_var (63 ∷ xs) ≡ true
unfolding is_var
is-variable xs h k = and_both (leb 2 (length (63 ∷ xs))) (leb (length (63 ∷ xs)) 129 && true) (le-leb 2 (length (63 ∷ xs)) (omega arith)) (and_both (leb (length (63 ∷ xs)) 129) true (le-leb (length (63 ∷ xs)) 129 (omega arith)) refl)

pub generated-variable : (prefix n : ℕ) → n ≤ most → is_var (generated prefix n) ≡ true
unfolding generated
generated-variable prefix n h = is-variable (prefix ∷ decimal n) (omega arith) (omega (arith, decimal-few n h))

pub generated-label-variable : (prefix n : ℕ) → n ≤ most → is_var (generated prefix n ++ label) ≡ true
unfolding generated
generated-label-variable prefix n h = is-variable (prefix ∷ (decimal n ++ label)) (omega arith) (omega (arith, decimal-few n h, length-append (decimal n) label))

pub target-variable : (prefix : ℕ) (vs js : List Bytes) (w : Bytes) → mem w vs ≡ true → length vs ≤ most → length js ≤ most → is_var (target prefix vs js w) ≡ true
unfolding target
target-variable prefix vs js w h a b = go (mem w js) refl
  where
    go : (t : Bool) → mem w js ≡ t → is_var (cond t (generated prefix_j (index_of w js)) (generated prefix (index_of w vs))) ≡ true
    go true e = generated-variable prefix_j (index_of w js) (omega (arith, index_below w js e))
    go false e = generated-variable prefix (index_of w vs) (omega (arith, index_below w vs h))

-- ---- few numbers

keep-few : (f : Bytes → Bool) (vs : List Bytes) → length (keep f vs) ≤ length vs
unfolding keep
keep-few f [] = omega arith
keep-few f (v ∷ vs) = go (f v) (keep-few f vs)
  where
    go : (t : Bool) → length (keep f vs) ≤ length vs → length (cond t (v ∷ keep f vs) (keep f vs)) ≤ length (v ∷ vs)
    go true h = omega arith
    go false h = omega arith

-- at most two numbers a name
pub numbered-few : (p : Pattern) → length (numbered p) ≤ length (by_place p) + length (by_place p)
unfolding numbered in_scope_by_place hidden_by_place
numbered-few p =
    let f : Bytes → Bool = λ v. mem v (variables_in_pattern p).in_scope in
    let g : Bytes → Bool = λ v. mem v (variables_in_pattern p).hidden in
    omega (arith, length-append (keep f (by_place p)) (keep g (by_place p)), keep-few f (by_place p), keep-few g (by_place p))
