-- The lines of a text by places in it. Assumes nothing.
use Prim.Native.Nat.{ℕ, ◌+◌, ◌-◌, ◌≤◌, ◌<◌}
use mathlib.Core.Path.{◌≡◌, refl, ap, ◌∙◌}
use mathlib.Core.List.{List, [], ◌∷◌}
use mathlib.Core.Bool.{Bool, true, false, cond}
use native.Mathlib.Nat.{le_refl, sub-zero}
use native.Mathlib.Omega.{arith}
use lib.ListN.{length, length-take, length-drop}
use lib.Seq.{take-length}
use lib.Dec.{eqb}
use Rattle.text.specs.Text.{Bytes, onto, split, lines_in, lines_of, lines_from, part, First}
use Rattle.text.proofs.Lists.{split-here, split-last}

pub lines_start : (s : Bytes) → lines_of s ≡ lines_from s 0
unfolding lines_of lines_from
lines_start s = rw (sub-zero, take-length)

pub lines_end : (s : Bytes) (at : ℕ) → length s ≤ at → lines_from s at ≡ []
unfolding lines_from lines_in split
lines_end s at h = let z : length s - at ≡ 0 = omega arith in rw z

not-ended : (p : Bytes) → 0 < length p → lines_in (p ∷ []) ≡ [] ∷ []
unfolding lines_in
not-ended [] h = absurd (omega arith)
not-ended (x ∷ xs) h = refl

-- something follows a line end, if only nothing
one_more : (p xs : Bytes) → lines_in (p ∷ split 10 xs) ≡ split 9 p ∷ lines_in (split 10 xs)
unfolding lines_in split onto
one_more p [] = refl
one_more p (x ∷ xs) = go (eqb x 10) (split 10 xs)
  where
    go : (t : Bool) (ps : List Bytes) → lines_in (p ∷ cond t ([] ∷ ps) (onto x ps)) ≡ split 9 p ∷ lines_in (cond t ([] ∷ ps) (onto x ps))
    go true ps = refl
    go false [] = refl
    go false (q ∷ ps) = refl

-- nothing ends the line that starts here
pub lines-open : (s : Bytes) (at e : ℕ) → at < length s → First 10 s at (length s) e → e ≡ length s → lines_from s at ≡ [] ∷ []
unfolding lines_from
lines-open s at e h f k =
    let l : length (part at e s) ≡ e - at = simp (length-take, length-drop) (omega arith) in
    ap lines_in (split-last 10 s at (length s) e (le_refl (length s)) f k) ∙ not-ended (part at e s) (omega arith)

-- a line, then those behind it
pub lines_next : (s : Bytes) (at e : ℕ) → First 10 s at (length s) e → e < length s → lines_from s at ≡ split 9 (part at e s) ∷ lines_from s (e + 1)
unfolding lines_from
lines_next s at e f h = ap lines_in (split-here 10 s at (length s) e (le_refl (length s)) f h) ∙ one_more (part at e s) (part (e + 1) (length s) s)
