-- A text ends at its first line `--`, wherever the search for dashes finds it. Assumes nothing.
use Prim.Native.Nat.{ℕ, zero, suc, ◌+◌, ◌-◌, ◌≤◌, ◌<◌}
use mathlib.Core.Path.{◌≡◌, refl, sym, ◌∙◌, ap, ap₂, subst}
use mathlib.Core.List.{[], ◌∷◌}
use mathlib.Core.Bool.{Bool, true, false}
use native.Mathlib.Decide.{dec_lt, ℕ_discrete}
use native.Mathlib.Numerals.{add-one}
use native.Mathlib.Omega.{arith}
use lib.ListN.{length, get_or}
use lib.Seq.{drop-cons}
use lib.Dec.{eqb}
use borrow.Author.Tests.{eqb-true, eqb-false}
use Rattle.text.specs.Text.{Bytes, same, part, First}
use Rattle.text.proofs.Basics.{same-eq, same_refl}
use Rattle.parted.specs.Parted.{bar}
use Rattle.parted.specs.bridge.Code.{Ends, BarAt}
use Rattle.parted.proofs.Laws.{Within, within-start, within-line, bar-long, ends_open, ends-bar}

-- ---- a line `--` by its bytes

part-two : (s : Bytes) (at : ℕ) → at + 2 ≤ length s → part at (at + 2) s ≡ get_or s at 0 ∷ get_or s (at + 1) 0 ∷ []
part-two s at h =
    let two : at + 2 - at ≡ 2 = omega arith in
    rw (two, add-one, drop-cons s at 0 (omega arith), drop-cons s (suc at) 0 (omega arith))

module _ (s : Bytes) (from at : ℕ) where
  bar-line : BarAt s from at → First 10 s at (length s) (at + 2)
  bar-line b = record {
    low = omega arith;
    high = omega (arith, b.fits);
    before = λ k h l e. go k h l e (ℕ_discrete k at);
    here = λ h. b.over;
  }
    where
      go : (k : ℕ) → k < at + 2 → at ≤ k → get_or s k 0 ≡ 10 → Dec (k ≡ at) → ⊥
      go k h l e (yes y) = let d = sym b.dash ∙ ap (λ (i : ℕ). get_or s i 0) (sym y) ∙ e in omega (arith, d)
      go k h l e (no z) = let y : at + 1 ≡ k = omega arith in let d = sym b.again ∙ ap (λ (i : ℕ). get_or s i 0) y ∙ e in omega (arith, d)

  bar-same : BarAt s from at → same (part at (at + 2) s) bar ≡ true
  bar-same b = ap (λ (l : Bytes). same l bar) (part-two s at (omega (arith, b.fits)) ∙ ap₂ (λ (x y : ℕ). x ∷ y ∷ []) b.dash b.again) ∙ same_refl bar

  line-bar : (e : ℕ) → ((at ≡ from → ⊥) → get_or s (at - 1) 0 ≡ 10) → First 10 s at (length s) e → e < length s → same (part at e s) bar ≡ true → BarAt s from at
  line-bar e st f h q =
      let two : e ≡ at + 2 = bar-long s at e f.low f.high q in
      let bs = sym (part-two s at (omega arith)) ∙ ap (λ (i : ℕ). part at i s) (sym two) ∙ same-eq (part at e s) bar q in
      record {
        start = st;
        fits = omega arith;
        dash = ap (λ (l : Bytes). get_or l 0 0) bs;
        again = ap (λ (l : Bytes). get_or l 1 0) bs;
        over = ap (λ (i : ℕ). get_or s i 0) (sym two) ∙ f.here h;
      }

module _ (s : Bytes) (from at : ℕ) (fit : at + 3 ≤ length s) (one : get_or s at 0 ≡ 45) (two : get_or s (at + 1) 0 ≡ 45) (end : get_or s (at + 2) 0 ≡ 10) where
  pub bar-here : ((at ≡ from → ⊥) → get_or s (at - 1) 0 ≡ 10) → BarAt s from at
  bar-here st = record {
    start = st;
    fits = fit;
    dash = one;
    again = two;
    over = end;
  }

  -- behind the text's start the byte before tells
  pub bar-behind : (at ≡ from → ⊥) → (eqb (get_or s (at - 1) 0) 10 ≡ true → BarAt s from at) × (eqb (get_or s (at - 1) 0) 10 ≡ false → BarAt s from at → ⊥)
  bar-behind n = (λ e. bar-here (λ z. eqb-true _ _ e), λ e b. eqb-false _ _ e (b.start n))

-- ---- a line's end

line-end : (s : Bytes) (n at : ℕ) → at + n ≡ length s → (e : ℕ) × First 10 s at (length s) e
line-end s zero at h = (
  at,
  record {
    low = omega arith;
    high = omega arith;
    before = λ k l m e. omega arith;
    here = λ l. absurd (omega arith);
  },
)
line-end s (suc n) at h = go (ℕ_discrete (get_or s at 0) 10) (line-end s n (at + 1) (omega arith))
  where
    go : Dec (get_or s at 0 ≡ 10) → (e : ℕ) × First 10 s (at + 1) (length s) e → (e : ℕ) × First 10 s at (length s) e
    go (yes y) r = (
      at,
      record {
        low = omega arith;
        high = omega arith;
        before = λ k l m e. omega arith;
        here = λ l. y;
      },
    )
    go (no z) (e, f) = (
      e,
      record {
        low = omega (arith, f.low);
        high = f.high;
        before = λ k l m q. old k l m q (ℕ_discrete at k);
        here = f.here;
      },
    )
      where
        old : (k : ℕ) → k < e → at ≤ k → get_or s k 0 ≡ 10 → Dec (at ≡ k) → ⊥
        old k l m q (yes y) = z (ap (λ (i : ℕ). get_or s i 0) y ∙ q)
        old k l m q (no w) = f.before k l (omega arith) q

-- ---- the first line `--` of a text

-- none stands before a place
abbrev pub Clear : Bytes → ℕ → ℕ → Type 0
Clear s from to = (k : ℕ) → from ≤ k → k < to → BarAt s from k → ⊥

module _ (s : Bytes) (from r : ℕ) (high : r ≤ length s) (clear : Clear s from r) (stops : r < length s → BarAt s from r) where
  -- a line starts here, and those before it stand in the text
  abbrev Here : ℕ → Type 0
  Here at = Within s from at × (from ≤ at) × (at ≤ r) × ((at ≡ from → ⊥) → get_or s (at - 1) 0 ≡ 10)

  module _ (at : ℕ) (here : Here at) (e : ℕ) (f : First 10 s at (length s) e) where
    -- a line before the end stands in the text too
    line-passed : e < r → (b : Bool) → same (part at e s) bar ≡ b → Here (e + 1)
    line-passed h true q = let l = f.low in absurd (clear at here.1 (omega (arith, l, h)) (line-bar s from at e here.3 f (omega arith) q))
    line-passed h false q =
        let l = f.low in
        let one : e + 1 - 1 ≡ e = omega arith in
        (within-line s from at e here.0 here.1 f (omega arith) q, omega (arith, l, here.1), omega arith, λ z. ap (λ (i : ℕ). get_or s i 0) one ∙ f.here (omega arith))

    -- the end is this line, or the input's
    line-last : r ≤ e → Dec (r < length s) → Dec (at < r) → Ends s from r
    line-last h (no z) d = let k = f.high in let q : e ≡ r = omega arith in subst (Ends s from) q (ends_open s from at e here.0 here.1 f (omega arith))
    line-last h (yes y) (yes l) = absurd (f.before (r - 1) (omega arith) (omega arith) ((stops y).start (let d : r ≡ from → ⊥ = omega (arith, here.1, l) in d)))
    line-last h (yes y) (no l) =
        let q : at ≡ r = omega (arith, here.2) in
        let b = subst (BarAt s from) (sym q) (stops y) in
        subst (Ends s from) q (ends-bar s from at here.0 here.1 (bar-line s from at b) (omega (arith, b.fits)) (bar-same s from at b))

    line-by : Dec (e < r) → (at ≤ e → Here (e + 1) → Ends s from r) → Ends s from r
    line-by (yes y) rest = rest f.low (line-passed y (same (part at e s) bar) refl)
    line-by (no z) rest = line-last (omega arith) (dec_lt r (length s)) (dec_lt at r)

  line-from : (at : ℕ) → Here at → ((e : ℕ) → at ≤ e → Here (e + 1) → Ends s from r) → Ends s from r
  line-from at here rest = let (e, f) = line-end s (length s - at) at (omega (arith, here.2)) in line-by at here e f (dec_lt e r) (rest e)

  by_lines : (n at : ℕ) → length s ≤ at + n → Here at → Ends s from r
  by_lines zero at few here = line-from at here (λ e l next. absurd (omega (arith, next.2)))
  by_lines (suc n) at few here = line-from at here (λ e l next. by_lines n (e + 1) (omega arith) next)

  ends_there : from ≤ r → Ends s from r
  ends_there h = by_lines (length s) from (omega arith) (within-start s from, omega arith, h, λ z. absurd (z refl))

pub ends-first : (s : Bytes) (from r : ℕ) → Clear s from r → from ≤ r → BarAt s from r → Ends s from r
ends-first s from r c h b = ends_there s from r (omega (arith, b.fits)) c (λ l. b) h

-- ---- the search by dashes

pub clear-start : (s : Bytes) (from : ℕ) → Clear s from from
clear-start s from k l h b = omega arith

-- nor from there up to a further one
clear-more : (s : Bytes) (from at to : ℕ) → Clear s from at → ((k : ℕ) → at ≤ k → k < to → BarAt s from k → ⊥) → Clear s from to
clear-more s from at to c more k l h b = go (dec_lt k at)
  where
    go : Dec (k < at) → ⊥
    go (yes y) = c k l y b
    go (no z) = more k (omega arith) h b

pub clear-find : (s : Bytes) (from at d : ℕ) → Clear s from at → First 45 s at (length s) d → Clear s from d
clear-find s from at d c f = clear-more s from at d c (λ k l h b. f.before k h l b.dash)

pub clear_next : (s : Bytes) (from d : ℕ) → Clear s from d → (BarAt s from d → ⊥) → Clear s from (d + 1)
clear_next s from d c n = clear-more s from d (d + 1) c (λ k l h b. let q : k ≡ d = omega arith in n (subst (BarAt s from) q b))

-- too little is left for one more
pub ends_last : (s : Bytes) (from at : ℕ) → Clear s from at → from ≤ length s → length s - at < 3 → Ends s from (length s)
ends_last s from at c h few =
    ends_there s from (length s) (omega arith) (clear-more s from at (length s) c (λ k l m b. omega (arith, b.fits))) (λ l. absurd (omega arith)) h
