-- The machine's run over a text by places in it: a turn of the run by its ways out, and the fields of a line. Assumes nothing.
use Prim.Native.Nat.{ℕ, suc, ◌+◌, ◌-◌, ◌≤◌, ◌<◌, zero-le, suc-le-suc}
use mathlib.Core.Path.{◌≡◌, refl, sym, ◌∙◌}
use mathlib.Core.List.{List, [], ◌∷◌, ◌++◌}
use mathlib.Core.Bool.{true}
use mathlib.Core.Option.{Option, none, some}
use native.Mathlib.Omega.{arith}
use lib.ListN.{length, get_or, drop, length-take}
use lib.Seq.{get_or-take, get_or-drop}
use borrow.Author.Tests.{ne_eqb, lt-ltb, le-ltb}
use Rattle.text.specs.Text.{Bytes, Line, split, lines_from, part, First}
use Rattle.text.specs.Field.{Kind, clean, is_kind, fits}
use Rattle.text.proofs.Places.{lines_start}
use Rattle.algebra.specs.Tally.{bounds, Tally, start}
use Rattle.algebra.specs.Reader.{Refusal, malformed, over_bound, got, refused, one}
use Rattle.algebra.specs.bridge.Machine.{Want, line_of, good, bad, More, Demand, demand, turn, run, check_text}
use Rattle.cursor.specs.bridge.Cursor.{left}
use Rattle.cursor.proofs.Laws.{left-next, left-all}

-- ---- a turn of the run

pub run-open : (ρ : More) (ws : List Want) (m : Tally) → run bounds ([] ∷ []) ρ ws m ≡ bad malformed
unfolding run line_of one
run-open ρ ws m = go (demand ρ ws)
  where
    go : (x : Option Demand) → turn bounds x (run bounds []) [] m ≡ bad malformed
    go none = refl
    go (some d) = refl

module _ (ls : List Line) (l : Line) (ρ : More) (ws : List Want) (m : Tally) where
  pub run_none : demand ρ ws ≡ none → run bounds (l ∷ ls) ρ ws m ≡ bad malformed
  unfolding run
  run_none h = rw h

  module _ (d : Demand) (h : demand ρ ws ≡ some d) where
    pub run-refused : (n : Refusal) → line_of bounds d.this (l ∷ []) m ≡ refused n → run bounds (l ∷ ls) ρ ws m ≡ bad n
    unfolding run
    run-refused n k = rw (h, k)

    pub run-next : (below : List Want) (m' : Tally) → line_of bounds d.this (l ∷ []) m ≡ got below [] m' → run bounds (l ∷ ls) ρ ws m ≡ run bounds ls d.again (below ++ d.behind) m'
    unfolding run
    run-next below m' k = rw (h, k)

pub run-done : (ρ : More) (m : Tally) → run bounds [] ρ [] m ≡ good m
unfolding run
run-done ρ m = refl

pub run-missing : (ρ : More) (w : Want) (ws : List Want) (m : Tally) → run bounds [] ρ (w ∷ ws) m ≡ bad malformed
unfolding run
run-missing ρ w ws m = refl

-- ---- the whole text

module _ (ρ : More) (ws : List Want) (s : Bytes) where
  pub check-long : 16384 < length s → check_text bounds ρ ws s ≡ bad over_bound
  unfolding check_text
  check-long h = rw (lt-ltb 16384 (length s) h)

  pub check-start : length s ≤ 16384 → check_text bounds ρ ws s ≡ run bounds (lines_from s 0) ρ ws start
  unfolding check_text
  check-start h = rw (le-ltb 16384 (length s) h, lines_start s)

-- ---- the fields of a line

pub line-fields : (s : Bytes) (at e f : ℕ) → at ≤ e → First 9 s at e f → e ≤ length s → split 9 (part at e s) ≡ part at f s ∷ left s (f + 1) e
line-fields s at e f h w k = sym (left-all s at e h) ∙ left-next s at e f k h w

clean_all : (xs : Bytes) → ((k : ℕ) → k < length xs → get_or xs k 0 ≡ 9 → ⊥) → ((k : ℕ) → k < length xs → get_or xs k 0 ≡ 10 → ⊥) → clean xs ≡ true
unfolding clean
clean_all [] f g = refl
clean_all (x ∷ xs) f g = rw (ne_eqb x 9 (f 0 (suc-le-suc zero-le)), ne_eqb x 10 (g 0 (suc-le-suc zero-le))) (clean_all xs (λ k l. f (suc k) (suc-le-suc l)) (λ k l. g (suc k) (suc-le-suc l)))

-- a field of a line has no tab and no line end in it
pub clean-field : (s : Bytes) (at0 at end e : ℕ) → First 10 s at0 (length s) end → at0 ≤ at → First 9 s at end e → clean (part at e s) ≡ true
clean-field s at0 at end e f h g =
    clean_all (part at e s)
    (λ k l. let i : k < e - at = inside k l in λ q. g.before (at + k) (omega arith) (omega arith) (sym (here k i) ∙ q))
    (λ k l. let i : k < e - at = inside k l in let j : e ≤ end = g.high in λ q. f.before (at + k) (omega arith) (omega arith) (sym (here k i) ∙ q))
  where
    inside : (k : ℕ) → k < length (part at e s) → k < e - at
    inside k l = omega (arith, length-take (e - at) (drop at s))

    here : (k : ℕ) → k < e - at → get_or (part at e s) k 0 ≡ get_or s (at + k) 0
    here k i = rw (get_or-take, get_or-drop)

pub fits-kind : (k : Kind) (f : Bytes) → clean f ≡ true → fits k f ≡ is_kind k f
unfolding fits
fits-kind k f h = rw h
