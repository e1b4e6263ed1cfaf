-- Columns at positions, and those without constants. Assumes nothing.
use mathlib.Core.Path.{◌≡◌, refl, sym, ◌∙◌, ap, ap₂}
use mathlib.Core.Bool.{Bool, true, false, cond, ◌||◌}
use mathlib.Core.List.{List, [], ◌∷◌, map}
use Prim.Native.Nat.{ℕ, zero, suc, ◌<◌}
use native.Mathlib.Omega.{arith}
use lib.ListN.{length}
use lib.Dec.{eqb}
use borrow.Author.Tests.{ne_eqb, eq-eqb, eqb-true, eqb-false}
use Rattle.text.specs.Text.{Bytes}
use Rattle.algebra.specs.Valid.{mem}
use Rattle.scoping.specs.Sets.{any}
use Rattle.scoping.specs.Premises.{inside}
use Rattle.scoping.specs.bridge.Sets.{Sub}
use Rattle.scoping.proofs.Positions.{inside-first, inside-rest}
use Rattle.scoping.proofs.Basics.{either, mem-nil, mem-here, mem-there, mem-eq, mem-cases}
use Rattle.merging.specs.Sides.{Constant, Side, column_at, without_constants, renamed_columns, free_columns}
use Rattle.merging.specs.Request.{positions}
use Rattle.merging.specs.Names.{is_at}

pub at_in : (cs : List Bytes) (i : ℕ) → i < length cs → mem (column_at cs i) cs ≡ true
at_in [] i h = absurd (omega arith)
at_in (c ∷ cs) zero h = mem-here c cs
at_in (c ∷ cs) (suc i) h = mem-there (column_at cs i) c cs (at_in cs i (omega arith))

-- the columns at positions that are inside are columns
pub positions-in : {A : Type 0} (cs : List Bytes) (pos : A → ℕ) (js : List A) → inside cs (map pos js) ≡ true → Sub (map (λ j. column_at cs (pos j)) js) cs
positions-in cs pos [] h v m = mem-nil v m
positions-in cs pos (j ∷ js) h v m = either
    (λ e. ap (λ x. mem x cs) e ∙ at_in cs (pos j) (inside-first cs (pos j) (map pos js) h))
    (positions-in cs pos js (inside-rest cs (pos j) (map pos js) h) v)
    (mem-cases v (column_at cs (pos j)) _ m)

eqb-sym : (i j : ℕ) → eqb i j ≡ eqb j i
eqb-sym i j = go (eqb j i) refl
  where
    go : (t : Bool) → eqb j i ≡ t → eqb i j ≡ t
    go true e = eq-eqb i j (sym (eqb-true j i e))
    go false e = ne_eqb i j (λ x. eqb-false j i e (sym x))

pub at-sym : (i : ℕ) (ks : List Constant) → any (λ (c : Constant). eqb c.position i) ks ≡ is_at i (positions ks)
unfolding any is_at
at-sym i [] = refl
at-sym i (k ∷ ks) = ap₂ ◌||◌ (eqb-sym k.position i) (at-sym i ks)

-- ---- the columns without constants are columns

without-case : (c : Bytes) (cs xs : List Bytes) → Sub xs cs → (b : Bool) → Sub (cond b xs (c ∷ xs)) (c ∷ cs)
without-case c cs xs s true v m = mem-there v c cs (s v m)
without-case c cs xs s false v m = either (λ e. mem-eq v c cs e) (λ k. mem-there v c cs (s v k)) (mem-cases v c xs m)

pub without_sub : (i : ℕ) (cs : List Bytes) (ks : List Constant) → Sub (without_constants i cs ks) cs
unfolding without_constants
without_sub i [] ks = λ v m. m
without_sub i (c ∷ cs) ks = without-case c cs (without_constants (suc i) cs ks) (without_sub (suc i) cs ks) (any (λ k. eqb k.position i) ks)

pub free-sub : (s : Side) → Sub (free_columns s) (renamed_columns s)
unfolding free_columns
free-sub s = without_sub 0 (renamed_columns s) s.constants
