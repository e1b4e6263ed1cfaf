-- Calls whose outcomes are alike, with buffers of one length: one number, one size, and alike bytes in front. Assumes nothing.
use Prim.Native.Nat.{ℕ, ◌≤◌}
use mathlib.Core.Path.{◌≡◌, refl, sym, ap, ap₂, subst, ◌∙◌}
use mathlib.Core.Bool.{Bool}
use mathlib.Core.List.{List, [], ◌∷◌}
use native.Mathlib.Omega.{arith}
use native.Mathlib.Decide.{dec_le}
use lib.ListN.{length, take, drop}
use lib.Seq.{take-append_seam}
use Rattle.text.specs.Text.{Bytes, Line, lines_of}
use Rattle.answers.specs.Outcome.{Outcome, refused, written, Reported}
use Rattle.laws.specs.Alike.{AllAlike, ends, also, AlikeLine, untouched, Alike, AlikeOutcome, refused_alike, written_alike}

module _ (may : Bytes → Bool) where
  lines-self : (ls : List Line) → AllAlike (AlikeLine may) ls ls
  lines-self [] = ends
  lines-self (l ∷ ls) = also (untouched l) (lines-self ls)

  self : (s : Bytes) → Alike may s s
  self s = record { long = refl; lines = lines-self (lines_of s) }

  -- what stands in front, told in another way
  fronts : (s s' t t' : Bytes) → s ≡ t → s' ≡ t' → Alike may t t' → Alike may s s'
  fronts s s' t t' e e' a = subst (λ (u : Bytes). Alike may u s') (sym e) (subst (Alike may t) (sym e') a)

  none-in-front : (n : ℕ) (s : Bytes) → n ≡ 0 → take n s ≡ []
  none-in-front n s e = ap (λ (k : ℕ). take k s) e

  pub alike-reported : (o o' : Outcome) (before after before' after' : Bytes) (number size number' size' : ℕ)
      → AlikeOutcome may o o' → length before ≡ length before' → Reported o before after number size → Reported o' before' after' number' size'
      → (number ≡ number') × (size ≡ size') × Alike may (take size after) (take size' after')
  unfolding Reported
  alike-reported o o' before after before' after' number size number' size' (refused_alike n) e r r' =
      (r.0 ∙ sym r'.0, r.1 ∙ sym r'.1, fronts (take size after) (take size' after') [] [] (none-in-front size after r.1) (none-in-front size' after' r'.1) (self []))
  alike-reported o o' before after before' after' number size number' size' (written_alike a b k) e r r' = go (dec_le (length a) (length before))
    where
      go : Dec (length a ≤ length before) → (number ≡ number') × (size ≡ size') × Alike may (take size after) (take size' after')
      go (yes l) =
          let w = r.0 l in
          let w' = r'.0 (omega (arith, l, e, k.long)) in (
            w.0 ∙ sym w'.0,
            w.1 ∙ k.long ∙ sym w'.1,
            fronts (take size after) (take size' after') a b (ap₂ take w.1 w.2 ∙ take-append_seam a (drop (length a) before)) (ap₂ take w'.1 w'.2 ∙ take-append_seam b (drop (length b) before')) k,
          )
      go (no l) =
          let w = r.1 (omega arith) in
          let w' = r'.1 (let h = k.long in omega arith) in
          (w.0 ∙ sym w'.0, w.1 ∙ sym w'.1, fronts (take size after) (take size' after') [] [] (none-in-front size after w.1) (none-in-front size' after' w'.1) (self []))
