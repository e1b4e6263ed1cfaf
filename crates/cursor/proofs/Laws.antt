-- Laws of the cursor: what a step leaves of a line. Assumes nothing.
use Prim.Native.Nat.{ℕ, suc, ◌+◌, ◌-◌, ◌≤◌, ◌<◌}
use mathlib.Core.Path.{◌≡◌, refl, sym, ◌∙◌, ap, subst}
use mathlib.Core.List.{List, [], ◌∷◌}
use mathlib.Core.Bool.{Bool, true, false, cond, not, ◌&&◌}
use mathlib.Core.Logic.{◌⊎◌, inl, inr, ⊎_elim}
use native.Mathlib.Nat.{eq-or-lt_of_le}
use native.Mathlib.Omega.{arith}
use lib.ListN.{length, get_or}
use lib.Dec.{leb, eqb}
use borrow.Author.Tests.{le-leb, lt-leb}
use Rattle.text.specs.Text.{Bytes, split, part, First}
use Rattle.text.proofs.Lists.{split-here, split-last}
use Rattle.reader.specs.bridge.Lines.{LineEnd}
use Rattle.cursor.specs.declared.Cursor.{Cursor}
use Rattle.cursor.specs.bridge.Cursor.{Reading, field, left, Reads}
use Rattle.std.specs.Prelude.{Some, None}

-- past the end of the line no field is left
pub left-none : (s : Bytes) (at end : ℕ) → end < at → left s at end ≡ []
unfolding left
left-none s at end h = rw (lt-leb at end h)

-- before it there is one, up to the next tab or the line's end
pub left-next : (s : Bytes) (at end e : ℕ) → end ≤ length s → at ≤ end → First 9 s at end e → left s at end ≡ part at e s ∷ left s (e + 1) end
unfolding left
left-next s at end e k h f =
    rw (le-leb at end h)
    (⊎_elim
    (λ (q : e ≡ end). let n : end < e + 1 = omega arith in rw (lt-leb (e + 1) end n) (split-last 9 s at end e k f q))
    (λ (q : e < end). let n : e + 1 ≤ end = omega arith in rw (le-leb (e + 1) end n) (split-here 9 s at end e k f q))
    (eq-or-lt_of_le f.high))

-- at a line's start all its fields are left
pub left-all : (s : Bytes) (at end : ℕ) → at ≤ end → left s at end ≡ split 9 (part at end s)
unfolding left
left-all s at end h = rw (le-leb at end h)

-- the end of the line that starts here
pub line-there : (s : Bytes) (at end : ℕ) → First 10 s at (length s) end → LineEnd s at end
line-there s at end f = record { high = f.high; ends = λ _. f; none = λ _ _. f }

-- ---- what a step found

pub record Next (s : Bytes) (c : Cursor) (e : ℕ) (d : Cursor) : Type 0 where
  pub first : First 9 s c.at c.end e
  pub at : d.at ≡ e + 1
  pub end : d.end ≡ c.end
  pub awaited : d.awaited ≡ c.awaited

pub next-at : (s : Bytes) (c : Cursor) (e : ℕ) (d : Cursor) → First 9 s c.at c.end e → (d.at ≡ e + 1) × (d.end ≡ c.end) × (d.awaited ≡ c.awaited) → Next s c e d
next-at s c e d f h = record { first = f; at = h.0; end = h.1; awaited = h.2 }

pub reads_at : (s : Bytes) (c : Cursor) (r : Reading) (e : ℕ) (d : Cursor) → Reads s c r → r ≡ Some (field e d) → Next s c e d
unfolding Reads
reads_at s c r e d h q = taken (subst (Reads s c) q h)
  where
    taken : Reads s c (Some (field e d)) → Next s c e d
    taken h = next-at s c e d h.0 (h.1, h.2, h.3)

pub reads_none : (s : Bytes) (c : Cursor) (r : Reading) → Reads s c r → r ≡ None → c.end < c.at
unfolding Reads
reads_none s c r h q = subst (Reads s c) q h
