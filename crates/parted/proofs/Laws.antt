-- The texts of an input by places in it. Assumes nothing.
use Prim.Native.Nat.{ℕ, zero, suc, ◌+◌, ◌-◌, ◌≤◌, ◌<◌}
use mathlib.Core.Path.{◌≡◌, refl, sym, ◌∙◌, ap, ap₂}
use mathlib.Core.List.{List, [], ◌∷◌, ◌++◌, append_assoc, append-nil}
use mathlib.Core.Bool.{Bool, true, false, cond}
use native.Mathlib.Nat.{le_refl, sub-zero}
use native.Mathlib.Omega.{arith}
use lib.ListN.{length, get_or, take, drop, length-take, length-drop}
use lib.Seq.{take-length}
use lib.Dec.{eqb}
use borrow.Author.Tests.{lt-ltb, le-ltb}
use Rattle.text.specs.Text.{Bytes, same, onto, split, part, First}
use Rattle.text.proofs.Basics.{same-eq}
use Rattle.text.proofs.Parts.{part_join, part-line}
use Rattle.text.proofs.Lists.{split-here, split-last}
use Rattle.parted.specs.Parted.{bar, before, texts_in, texts}
use Rattle.parted.specs.bridge.Code.{texts_from, after, Ends}

pub texts-start : (s : Bytes) → texts s ≡ texts_from s 0
unfolding texts texts_from
texts-start s = rw (sub-zero, take-length)

-- something follows a line end, if only nothing
one_more : (p xs : Bytes) → texts_in (p ∷ split 10 xs) ≡ cond (same p bar) ([] ∷ texts_in (split 10 xs)) (before (p ++ (10 ∷ [])) (texts_in (split 10 xs)))
unfolding texts_in split onto
one_more p [] = refl
one_more p (x ∷ xs) = go (eqb x 10) (split 10 xs)
  where
    go : (t : Bool) (ps : List Bytes) → texts_in (p ∷ cond t ([] ∷ ps) (onto x ps)) ≡ cond (same p bar) ([] ∷ texts_in (cond t ([] ∷ ps) (onto x ps))) (before (p ++ (10 ∷ [])) (texts_in (cond t ([] ∷ ps) (onto x ps))))
    go true ps = refl
    go false [] = refl
    go false (q ∷ ps) = refl

pub before-join : (a b : Bytes) (ts : List Bytes) → before a (before b ts) ≡ before (a ++ b) ts
unfolding before
before-join a b [] = refl
before-join a b (t ∷ ts) = rw append_assoc

before-first : (a b : Bytes) (ts : List Bytes) → before a (b ∷ ts) ≡ (a ++ b) ∷ ts
unfolding before
before-first a b ts = refl

-- there is always a first text
nothing-before : (ps : List Bytes) → before [] (texts_in ps) ≡ texts_in ps
unfolding before texts_in
nothing-before [] = refl
nothing-before (p ∷ []) = refl
nothing-before (l ∷ m ∷ ls) = go (same l bar) (texts_in (m ∷ ls))
  where
    go : (t : Bool) (ts : List Bytes) → before [] (cond t ([] ∷ ts) (before (l ++ (10 ∷ [])) ts)) ≡ cond t ([] ∷ ts) (before (l ++ (10 ∷ [])) ts)
    go true ts = refl
    go false ts = before-join [] (l ++ (10 ∷ [])) ts

-- ---- the texts from a line's start on

from-here : (s : Bytes) (at e : ℕ) → First 10 s at (length s) e → e < length s → texts_from s at ≡ cond (same (part at e s) bar) ([] ∷ texts_from s (e + 1)) (before (part at e s ++ (10 ∷ [])) (texts_from s (e + 1)))
unfolding texts_from
from-here s at e f h = ap texts_in (split-here 10 s at (length s) e (le_refl (length s)) f h) ∙ one_more (part at e s) (part (e + 1) (length s) s)

-- no line end follows: the text goes on to the end of the input
from-open : (s : Bytes) (at e : ℕ) → First 10 s at (length s) e → e ≡ length s → texts_from s at ≡ part at e s ∷ []
unfolding texts_from texts_in
from-open s at e f k = ap texts_in (split-last 10 s at (length s) e (le_refl (length s)) f k)

-- a line that is not `--` stands in its text
from-line : (s : Bytes) (at e : ℕ) → First 10 s at (length s) e → e < length s → same (part at e s) bar ≡ false → texts_from s at ≡ before (part at (e + 1) s) (texts_from s (e + 1))
from-line s at e f h q =
    from-here s at e f h ∙ rw q (ap (λ (l : Bytes). before l (texts_from s (e + 1))) (part-line s at e f.low h (f.here h)))

-- a line `--` ends its text
from-bar : (s : Bytes) (at e : ℕ) → First 10 s at (length s) e → e < length s → same (part at e s) bar ≡ true → texts_from s at ≡ [] ∷ texts_from s (e + 1)
from-bar s at e f h q = from-here s at e f h ∙ rw q

pub bar-long : (s : Bytes) (at e : ℕ) → at ≤ e → e ≤ length s → same (part at e s) bar ≡ true → e ≡ at + 2
bar-long s at e h k q =
    let l : length (part at e s) ≡ e - at = simp (length-take, length-drop) (omega arith) in
    let b : length (part at e s) ≡ 2 = ap length (same-eq (part at e s) bar q) in
    omega arith

-- ---- what stands behind a text

pub after_none : (s : Bytes) (at : ℕ) → length s ≤ at → after s at ≡ []
unfolding after
after_none s at h = rw (le-ltb at (length s) h)

pub after-bar : (s : Bytes) (at : ℕ) → at < length s → after s at ≡ texts_from s (at + 3)
unfolding after
after-bar s at h = rw (lt-ltb at (length s) h)

-- ---- the search for a text's end: so far the lines stand in its text

abbrev pub Within : Bytes → ℕ → ℕ → Type 0
Within s from at = texts_from s from ≡ before (part from at s) (texts_from s at)

pub within-start : (s : Bytes) (from : ℕ) → Within s from from
unfolding texts_from
within-start s from =
    let z : from - from ≡ 0 = omega arith in
    sym (ap (λ (n : ℕ). before (take n (drop from s)) (texts_from s from)) z ∙ nothing-before (split 10 (part from (length s) s)))

pub within-line : (s : Bytes) (from at e : ℕ) → Within s from at → from ≤ at → First 10 s at (length s) e → e < length s → same (part at e s) bar ≡ false → Within s from (e + 1)
within-line s from at e w l f h q =
    let m : at ≤ e = f.low in
    w
    ∙ ap (before (part from at s)) (from-line s at e f h q)
    ∙ before-join (part from at s) (part at (e + 1) s) (texts_from s (e + 1))
    ∙ ap (λ (b : Bytes). before b (texts_from s (e + 1))) (part_join s from at (e + 1) l (omega arith))

-- its two ways out: no line end is left, a line `--`
pub ends_open : (s : Bytes) (from at e : ℕ) → Within s from at → from ≤ at → First 10 s at (length s) e → length s ≤ e → Ends s from e
ends_open s from at e w l f h =
    let m : at ≤ e = f.low in
    let k : e ≤ length s = f.high in
    record {
      low = omega arith;
      high = k;
      room = λ r. absurd (omega arith);
      first = w ∙ ap (before (part from at s)) (from-open s at e f (omega arith)) ∙ before-first (part from at s) (part at e s) [] ∙ ap₂ ◌∷◌ (part_join s from at e l m) (sym (after_none s e h));
    }

pub ends-bar : (s : Bytes) (from at : ℕ) → Within s from at → from ≤ at → First 10 s at (length s) (at + 2) → at + 2 < length s → same (part at (at + 2) s) bar ≡ true → Ends s from at
ends-bar s from at w l f h q =
    let three : at + 2 + 1 ≡ at + 3 = omega arith in
    record {
      low = l;
      high = omega arith;
      room = λ r. omega arith;
      first = w ∙ ap (before (part from at s)) (from-bar s at (at + 2) f h q) ∙ before-first (part from at s) [] (texts_from s (at + 2 + 1)) ∙ ap₂ ◌∷◌ (append-nil (part from at s)) (ap (texts_from s) three ∙ sym (after-bar s at (omega arith)));
    }

-- ---- counting the texts

pub count-start : (s : Bytes) (r : ℕ) → Ends s 0 r → length (texts s) ≡ 1 + length (after s r)
count-start s r e = ap length (texts-start s ∙ e.first) ∙ omega arith

pub count_next : (s : Bytes) (at r : ℕ) → at < length s → Ends s (at + 3) r → length (after s at) ≡ 1 + length (after s r)
count_next s at r h e = ap length (after-bar s at h ∙ e.first) ∙ omega arith

-- ---- the text of a number: of those from a place on

pub at-start : (s : Bytes) (k : ℕ) → get_or (texts s) k [] ≡ get_or (texts_from s 0) k []
at-start s k = ap (λ (ts : List Bytes). get_or ts k []) (texts-start s)

pub at_here : (s : Bytes) (from at k : ℕ) → Ends s from at → k ≡ 0 → get_or (texts_from s from) k [] ≡ part from at s
at_here s from at k e z = ap₂ (λ (ts : List Bytes) (n : ℕ). get_or ts n []) e.first z

behind : (s : Bytes) (from at k : ℕ) → Ends s from at → (k ≡ 0 → ⊥) → get_or (texts_from s from) k [] ≡ get_or (after s at) (k - 1) []
behind s from at zero e z = absurd (z refl)
behind s from at (suc k) e z =
    let q : k ≡ suc k - 1 = omega arith in
    ap (λ (ts : List Bytes). get_or ts (suc k) []) e.first ∙ ap (λ (n : ℕ). get_or (after s at) n []) q

pub at_next : (s : Bytes) (from at k : ℕ) → Ends s from at → at < length s → (k ≡ 0 → ⊥) → get_or (texts_from s from) k [] ≡ get_or (texts_from s (at + 3)) (k - 1) []
at_next s from at k e h z = behind s from at k e z ∙ ap (λ (ts : List Bytes). get_or ts (k - 1) []) (after-bar s at h)
