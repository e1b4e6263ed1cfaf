-- Chains of tests as the code makes them, one `return` after the other, against && and ||. Assumes nothing.
use mathlib.Core.Path.{◌≡◌, refl, sym, ◌∙◌}
use mathlib.Core.Bool.{Bool, true, false, not, ◌&&◌, ◌||◌}
use Prim.Native.Nat.{ℕ, ◌≤◌, ◌<◌}
use lib.Dec.{eqb, leb}
use borrow.Author.Tests.{le-leb, lt-leb, eq-eqb, ne_eqb, not-true, not-false}

-- `or`: the first test holds; it does not, and the rest decides
pub or_left : (b x y : Bool) → b ≡ x → b ≡ true → true ≡ (x || y)
or_left b x y h e = rw (sym h ∙ e)

pub or_right : (b c x y : Bool) → b ≡ x → b ≡ false → c ≡ y → c ≡ (x || y)
or_right b c x y h e k = rw (sym h ∙ e, k)

-- `and`: the first test fails; it holds, and the rest decides
pub and-stop : (b x y : Bool) → b ≡ x → b ≡ false → false ≡ (x && y)
and-stop b x y h e = rw (sym h ∙ e)

pub and-go : (b c x y : Bool) → b ≡ x → b ≡ true → c ≡ y → c ≡ (x && y)
and-go b c x y h e k = rw (sym h ∙ e, k)

-- the same where the first test is an order or an equation
pub least-stop : (a n : ℕ) (y : Bool) → n < a → false ≡ (leb a n && y)
least-stop a n y h = rw (lt-leb a n h)

pub least-go : (a n : ℕ) (c y : Bool) → a ≤ n → c ≡ y → c ≡ (leb a n && y)
least-go a n c y h k = rw (le-leb a n h, k)

pub equal-stop : (a n : ℕ) (y : Bool) → (a ≡ n → ⊥) → false ≡ (eqb a n && y)
equal-stop a n y h = rw (ne_eqb a n h)

pub equal-go : (a n : ℕ) (c y : Bool) → a ≡ n → c ≡ y → c ≡ (eqb a n && y)
equal-go a n c y h k = rw (eq-eqb a n h, k)

pub equal-left : (a n : ℕ) (y : Bool) → a ≡ n → true ≡ (eqb a n || y)
equal-left a n y h = rw (eq-eqb a n h)

pub equal-right : (a n : ℕ) (c y : Bool) → (a ≡ n → ⊥) → c ≡ y → c ≡ (eqb a n || y)
equal-right a n c y h k = rw (ne_eqb a n h, k)

pub not_same : (b x : Bool) → b ≡ x → b ≡ true → false ≡ not x
not_same b x h e = rw (sym h ∙ e)

pub not-other : (b x : Bool) → b ≡ x → b ≡ false → true ≡ not x
not-other b x h e = rw (sym h ∙ e)

pub not-stop : (b x y : Bool) → b ≡ x → b ≡ true → false ≡ (not x && y)
not-stop b x y h e = rw (sym h ∙ e)

pub not-go : (b c x y : Bool) → b ≡ x → b ≡ false → c ≡ y → c ≡ (not x && y)
not-go b c x y h e k = rw (sym h ∙ e, k)

-- and where the code tests `!b`
pub and-stop! : (b x y : Bool) → b ≡ x → not b ≡ true → false ≡ (x && y)
and-stop! b x y h e = and-stop b x y h (not-true b e)

pub and-go! : (b c x y : Bool) → b ≡ x → not b ≡ false → c ≡ y → c ≡ (x && y)
and-go! b c x y h e k = and-go b c x y h (not-false b e) k
