-- The check of a whole text: each way out. Assumes nothing.
use Prim.Native.Nat.{ℕ, zero, suc, ◌-◌, ◌≤◌, ◌<◌, pred}
use mathlib.Core.Path.{◌≡◌, refl, sym, ◌∙◌, ap, subst}
use mathlib.Core.List.{List, [], ◌∷◌}
use mathlib.Core.Bool.{Bool, true, false, cond}
use native.Mathlib.Omega.{arith}
use lib.ListN.{length, length-take, length-drop}
use lib.Dec.{eqb}
use Rattle.text.specs.Text.{Bytes, Line, onto, split, lines_in, lines_from, part}
use Rattle.text.proofs.Places.{lines_end}
use Rattle.algebra.specs.Tally.{Tally, bounds, start}
use Rattle.algebra.specs.Reader.{malformed}
use Rattle.algebra.specs.bridge.Table.{Sort}
use Rattle.algebra.specs.bridge.Machine.{Want, want, More, done, entries, Check, bad, run, check_text}
use Rattle.names.specs.bridge.Names.{Holds}
use Rattle.checking.specs.declared.place.Place.{Place}
use Rattle.checking.specs.bridge.Run.{Reached, refusal, Ready, Started, Stood, Went, level_for, Tells}
use Rattle.checking.proofs.RunLaw.{run_none, run-done, check-long, check-start}
use Rattle.checking.proofs.DescentLaw.{went-here, Goes}
use Rattle.std.specs.Prelude.{Ok, Err}
use Rattle.algebra.specs.declared.Fault.{Fault}
use Rattle.algebra.specs.declared.Fault.TheVariants.{Malformed, OverBound}

-- ---- a text that is refused

module _ (s a b h : List ℕ) (x : Check) where
  pub told-fault : (f : Fault) → x ≡ bad (refusal f) → Tells s a b h x (Err f)
  unfolding Tells
  told-fault Malformed e = subst (λ k. Tells s a b h k (Err Malformed)) (sym e) refl
  told-fault OverBound e = subst (λ k. Tells s a b h k (Err OverBound)) (sym e) refl

  pub told-stop : (ρ : More) (ws : List Want) (f : Fault) → Went s a b h ρ ws x (Err f) → Tells s a b h x (Err f)
  unfolding Went
  told-stop ρ ws f w = told-fault f w

pub too_long : (s a b h : List ℕ) (ρ : More) (ws : List Want) → 16384 < length s → Tells s a b h (check_text bounds ρ ws s) (Err OverBound)
too_long s a b h ρ ws e = told-fault s a b h _ OverBound (check-long ρ ws s e)

-- ---- bytes that are left are lines that are left

unfoldable Some : List Line → Type 0
Some [] = ⊥
Some (l ∷ ls) = Unit {0}

unfoldable Filled : List Bytes → Type 0
Filled [] = ⊥
Filled (p ∷ ps) = Unit {0}

onto-filled : (x : ℕ) (ps : List Bytes) → Filled (onto x ps)
unfolding onto Filled
onto-filled x [] = tt
onto-filled x (p ∷ ps) = tt

split-filled : (c : ℕ) (xs : Bytes) → Filled (split c xs)
unfolding split Filled
split-filled c [] = tt
split-filled c (x ∷ xs) = go (eqb x c)
  where
    go : (t : Bool) → Filled (cond t ([] ∷ split c xs) (onto x (split c xs)))
    go true = tt
    go false = onto-filled x (split c xs)

some-lines : (xs : Bytes) → 0 < length xs → Some (lines_in (split 10 xs))
unfolding split lines_in Some Filled onto
some-lines [] h = absurd (omega arith)
some-lines (x ∷ xs) h = go (eqb x 10) (split 10 xs) (split-filled 10 xs)
  where
    go : (t : Bool) (ps : List Bytes) → Filled ps → Some (lines_in (cond t ([] ∷ ps) (onto x ps)))
    go t [] f = absurd f
    go true (p ∷ ps) f = tt
    go false (p ∷ []) f = tt
    go false (p ∷ q ∷ ps) f = tt

lines_left : (s : Bytes) (at : ℕ) → at < length s → Some (lines_from s at)
unfolding lines_from
lines_left s at h = some-lines (part at (length s) s) (let l : length (part at (length s) s) ≡ length s - at = simp (length-take, length-drop) (omega arith) in omega arith)

left-bad : (m : Tally) (ls : List Line) → Some ls → run bounds ls done [] m ≡ bad malformed
unfolding Some
left-bad m [] f = absurd f
left-bad m (l ∷ ls) f = run_none ls l done [] m refl

-- ---- the end

module _ (s a b h : List ℕ) (x : Check) (p : Place) where
  pub told-whole : (ρ : More) → Went s a b h ρ [] x (Ok p) → length s ≤ p.cursor.at → Tells s a b h x (Ok p.n)
  unfolding Went Tells
  told-whole ρ w e = subst (λ k. Tells s a b h k (Ok p.n)) (sym (w.1 ∙ ap (λ (ls : List Line). run bounds ls ρ [] w.0) (lines_end s p.cursor.at e) ∙ run-done ρ w.0)) (p.n, refl, w.2.names)

  pub told-left : Went s a b h done [] x (Ok p) → p.cursor.at < length s → Tells s a b h x (Err Malformed)
  unfolding Went
  told-left w e = told-fault s a b h x Malformed (w.1 ∙ left-bad w.0 (lines_from s p.cursor.at) (lines_left s p.cursor.at e))

pub started-ready : (s : Bytes) (p : Place) → Started p → length s ≤ 16384 → Ready s p
started-ready s p st short = record { short = short; few = (let l = st.lines in omega (arith, l)) }

module _ (s a0 b0 h0 : List ℕ) (short : length s ≤ 16384) (none : Holds s a0 b0 h0 0 []) (p0 : Place) (start_is : Started p0) where
  begun : Stood s a0 b0 h0 p0 start
  begun = record { lines = sym start_is.lines; wide = omega arith; names = subst (λ (n : ℕ). Holds s a0 b0 h0 n []) (sym start_is.names) none }

  check-from : (ρ : More) (ws : List Want) → check_text bounds ρ ws s ≡ run bounds (lines_from s p0.cursor.at) ρ ws start
  check-from ρ ws = check-start ρ ws s short ∙ ap (λ (i : ℕ). run bounds (lines_from s i) ρ ws start) (sym start_is.at)

  -- the run of the whole text stands before its first line
  pub went-begun : (ρ : More) (ws : List Want) → Went s a0 b0 h0 ρ ws (check_text bounds ρ ws s) (Ok p0)
  went-begun ρ ws = subst (λ x. Went s a0 b0 h0 ρ ws x (Ok p0)) (sym (check-from ρ ws)) (went-here s ρ a0 b0 h0 ws p0 start begun)

-- ---- entries of a list

pub level-none : (level left : ℕ) → left ≡ 0 → 0 ≡ level_for left level
level-none level left e = ap (λ (n : ℕ). level_for n level) (sym e)

pub level-some : (left level : ℕ) → (left ≡ 0 → ⊥) → level ≡ level_for left level
level-some zero level nz = absurd (nz refl)
level-some (suc n) level nz = refl

entry-run : (sort : Sort) (level left : ℕ) (ls : List Line) (m : Tally) → Some ls → run bounds ls (entries left sort level) [] m ≡ run bounds ls (entries (pred left) sort level) (want sort (level_for left level) 0 ∷ []) m
unfolding run Some
entry-run sort level left [] m f = absurd f
entry-run sort level zero (l ∷ ls) m f = refl
entry-run sort level (suc n) (l ∷ ls) m f = refl

pub list-next : (s a b h a' b' h' : List ℕ) (sort : Sort) (level left d fewer : ℕ) (x : Check) (p : Place) (r : Reached) → d ≡ level_for left level → fewer ≡ pred left → Went s a b h (entries left sort level) [] x (Ok p) → p.cursor.at < length s
    → Goes s a b h p a' b' h' (want sort d 0 ∷ []) r → Went s a' b' h' (entries fewer sort level) [] x r
unfolding Went
list-next s a b h a' b' h' sort level left d fewer x p r e k w low f =
    subst (λ y. Went s a' b' h' (entries fewer sort level) [] y r)
    (sym (w.1 ∙ entry-run sort level left (lines_from s p.cursor.at) w.0 (lines_left s p.cursor.at low) ∙ (λ i. run bounds (lines_from s p.cursor.at) (entries (sym k i) sort level) (want sort (sym e i) 0 ∷ []) w.0)))
    (f (entries fewer sort level) [] w.0 w.2)
