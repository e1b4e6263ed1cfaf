-- A reader and a layout that match: a text is read as something exactly if it is the layout of that, well formed and within the bounds. Proved once, for every kind of text. Assumes nothing.
use mathlib.Core.Path.{◌≡◌, refl, sym, ◌∙◌, ap, subst}
use mathlib.Core.Logic.{◌↔◌}
use mathlib.Core.Bool.{Bool, true, false, cond}
use mathlib.Core.List.{List, [], ◌∷◌}
use Prim.Native.Nat.{ℕ, ◌≤◌}
use native.Mathlib.Omega.{arith}
use lib.ListN.{length}
use lib.Dec.{ltb}
use borrow.Author.Tests.{ltb-false, le-ltb}
use Rattle.text.specs.Text.{Bytes, Line, text_of, lines_of}
use Rattle.text.proofs.Texts.{Neat, Ended, neat-ended, lines-back, text-back}
use Rattle.algebra.specs.Tally.{Limits, Tally, start}
use Rattle.algebra.specs.Bounded.{Within}
use Rattle.algebra.specs.bridge.Just.{Just}
use Rattle.algebra.specs.Reader.{malformed, over_bound, Got, got, refused, Reader, Outcome, reads, refuses, number-of, outcome, read_text}
use Rattle.algebra.specs.bridge.Machine.{Want, good, bad, check_number, resume, More, done, run, check_text}
use Rattle.algebra.specs.bridge.Verdict.{checked}
use Rattle.algebra.proofs.Grow.{In, counts, in_bounds}

-- r reads the lines of each well formed value within the bounds as that value, and nothing else
pub record Matches {A : Type 0} (β : Limits) (r : Reader A) (lines : A → List Line) (Ok : A → Type 0) (T : A → Tally → Tally) (deep many : A → ℕ) : Type 0 where
  pub sound : (s : List Line) (l : Tally) (a : A) → r s start ≡ got a [] l → (l ≡ T a start) × In β (T a start) × ((s ≡ lines a) × Ok a × (deep a ≤ β.depth) × (many a ≤ β.entries))
  pub back : (a : A) → Ok a → deep a ≤ β.depth → many a ≤ β.entries → In β (T a start) → r (lines a) start ≡ got a [] (T a start)
  pub neat : (a : A) → Ok a → Neat (lines a)

pub all_read : {A : Type 0} (g : Got A) (a : A) → outcome g ≡ reads a → (m : Tally) × (g ≡ got a [] m)
all_read (got b [] m) a e = let i : b ≡ a = cc in (m, ap (λ x. got x [] m) i)
all_read (got b (l ∷ ls) m) a e = let z : ◌≡◌ {A = ℕ} 0 1 = cc in absurd (omega arith)
all_read (refused n) a e = let z : ◌≡◌ {A = ℕ} 0 1 = cc in absurd (omega arith)

pub short : {A : Type 0} (b : Bool) (x : Outcome A) (a : A) → cond b (refuses over_bound) x ≡ reads a → (b ≡ false) × (x ≡ reads a)
short true x a e = let z : ◌≡◌ {A = ℕ} 0 1 = cc in absurd (omega arith)
short false x a e = (refl, e)

read_only : {A : Type 0} (a b : A) (o : Outcome A) → o ≡ reads a → o ≡ reads b → b ≡ a
read_only a b o p q = cc

pub check-number : {A : Type 0} (T : A → Tally → Tally) (o : Outcome A) → check_number (checked T o) ≡ number-of o
check-number T (reads a) = refl
check-number T (refuses n) = refl

module _ {A : Type 0} (β : Limits) (r : Reader A) (lines : A → List Line) (Ok : A → Type 0) (T : A → Tally → Tally) (deep many : A → ℕ) (w : Matches β r lines Ok T deep many) where
  abbrev Is : Bytes → A → Type 0
  Is s a = (text_of (lines a) ≡ s) × Ok a × Within β (text_of (lines a)) (T a start) (deep a) (many a)

  layout-read : (a : A) → Ok a → Within β (text_of (lines a)) (T a start) (deep a) (many a) → read_text β r (text_of (lines a)) ≡ reads a
  unfolding read_text
  layout-read a v b =
      let o : In β (T a start) = in_bounds β (T a start) (record { lines = b.lines; wide = b.columns; names = b.names }) in
      rw (le-ltb β.bytes (length (text_of (lines a))) b.bytes, lines-back (lines a) (w.neat a v), w.back a v b.depth b.entries o)

  read-written : (s : Bytes) (a : A) → read_text β r s ≡ reads a → Is s a
  unfolding read_text
  read-written s a e =
      let c = short (ltb β.bytes (length s)) (outcome (r (lines_of s) start)) a e in
      let g = all_read (r (lines_of s) start) a c.1 in
      let x = w.sound (lines_of s) g.0 a g.1 in
      let n : Ended (lines_of s) = subst Ended (sym x.2.0) (neat-ended (lines a) (w.neat a x.2.1)) in
      let t : text_of (lines a) ≡ s = ap text_of (sym x.2.0) ∙ text-back s n in
      let b = counts β (T a start) x.1 in
      let z : length s ≤ β.bytes = ltb-false β.bytes (length s) c.0 in
      (t, x.2.1, record { bytes = subst (λ l. length l ≤ β.bytes) (sym t) z; lines = b.lines; depth = x.2.2; columns = b.wide; names = b.names; entries = x.2.3 })

  -- a text is read as a exactly if it is a's
  pub reads-exactly : (s : Bytes) (a : A) → (read_text β r s ≡ reads a) ↔ Is s a
  reads-exactly s a = (read-written s a, λ x. subst (λ t. read_text β r t ≡ reads a) x.0 (layout-read a x.1 x.2))

  -- a text's number is 0 exactly if it is that of one value, and of one only
  pub zero-exactly : (s : Bytes) → (number-of (read_text β r s) ≡ 0) ↔ Just (Is s)
  zero-exactly s = (λ e. to (read_text β r s) refl e, λ j. ap number-of ((reads-exactly s j.it).1 j.holds))
    where
      to : (o : Outcome A) → read_text β r s ≡ o → number-of o ≡ 0 → Just (Is s)
      to (reads a) q e = record { it = a; holds = read-written s a q; only = λ b i. read_only a b (read_text β r s) q ((reads-exactly s b).1 i) }
      to (refuses malformed) q e = absurd (omega arith)
      to (refuses over_bound) q e = absurd (omega arith)

  -- the check line by line says what the reader says
  pub checks : (ρ : More) (ws : List Want) → ((s : List Line) → run β s ρ ws start ≡ resume (r s start) (λ a t l. run β t done [] l)) → (s : Bytes) → check_text β ρ ws s ≡ checked T (read_text β r s)
  unfolding check_text read_text run
  checks ρ ws f s = go (ltb β.bytes (length s))
    where
      whole : (g : Got A) → r (lines_of s) start ≡ g → resume g (λ a t l. run β t done [] l) ≡ checked T (outcome g)
      whole (got a [] m) e = ap good (w.sound (lines_of s) m a e).0
      whole (got a (l ∷ ls) m) e = refl
      whole (refused n) e = refl

      go : (b : Bool) → cond b (bad over_bound) (run β (lines_of s) ρ ws start) ≡ checked T (cond b (refuses over_bound) (outcome (r (lines_of s) start)))
      go true = refl
      go false = f (lines_of s) ∙ whole (r (lines_of s) start) refl
