-- Laws of answers: what was measured decides, and what was written is the answer. Assumes nothing.
use Prim.Native.Nat.{ℕ, ◌+◌, ◌≤◌, ◌<◌, min}
use mathlib.Core.Path.{◌≡◌, refl, sym, ap, ap₂, subst, ◌∙◌}
use mathlib.Core.List.{◌++◌}
use native.Mathlib.Nat.{zero-add}
use native.Mathlib.Omega.{arith}
use lib.ListN.{length, take, drop}
use lib.Seq.{sets-eq, take-append_seam}
use Rattle.text.specs.Text.{Bytes, piece}
use Rattle.emit.specs.bridge.Emit.{Em, em, last, puts}
use Rattle.emit.proofs.Laws.{puts-at, puts-out}
use Rattle.answers.specs.Outcome.{Answer, Outcome, written, number, size, Reported, Answered}
use Rattle.std.specs.Prelude.{Ok, Err}
use Rattle.answers.specs.declared.Refusal.TheVariants.{TooShort}

-- where a measure ended
measured : (b : Bytes) (k : ℕ) (o o' : Bytes) → em k o' ≡ puts b (em 0 o) → k ≡ min (length b) last
measured b k o o' e = ap (λ (x : Em). x.at) e ∙ puts-at b (em 0 o) (omega arith) ∙ ap (λ (n : ℕ). min n last) (zero-add (length b))

module _ (b out : Bytes) (need : ℕ) (spare spare' : Bytes) (measure : em need spare' ≡ puts b (em 0 spare)) where
  -- the answer is longer than the buffer
  pub too_short : length out < need → Answered (written b) out out (Err TooShort)
  unfolding Reported
  too_short h =
      let m = measured b need spare spare' measure in
      (λ k. absurd (omega arith), λ k. (refl, refl, refl))

  -- all of it stands in front, and what was behind it is as it was
  pub all-written : (size : ℕ) (out' : Bytes) → need ≤ length out → length out < last → em size out' ≡ puts b (em 0 out) → Answered (written b) out out' (Ok size)
  unfolding Reported
  all-written size out' h k e =
      let m = measured b need spare spare' measure in
      let z = measured b size out out' e in
      let fits : length b ≤ length out = omega arith in
      (λ i. (refl, omega arith, ap (λ (x : Em). x.out) e ∙ puts-out b (em 0 out) (omega arith) ∙ sets-eq b out 0 (omega arith) ∙ ap (λ (n : ℕ). b ++ drop n out) (zero-add (length b))), λ i. absurd (omega arith))

-- an answer that a spare buffer has room for stands in front of it
pub spared : (b spare spare' : Bytes) (need : ℕ) → em need spare' ≡ puts b (em 0 spare) → need ≤ length spare → length spare < last → piece 0 need spare' ≡ b
spared b spare spare' need e h k =
    let m = measured b need spare spare' e in
    let long : need ≡ length b = omega arith in
    ap₂ take long (ap (λ (x : Em). x.out) e ∙ puts-out b (em 0 spare) (omega arith) ∙ sets-eq b spare 0 (omega arith))
    ∙ take-append_seam b (drop (0 + length b) spare)

-- a short answer is copied from a spare buffer of k bytes
pub copied : (b out : Bytes) (need : ℕ) (spare spare' : Bytes) → em need spare' ≡ puts b (em 0 spare) → (size : ℕ) (out' : Bytes) (k : ℕ) → need ≤ length out → length out < last → length spare ≡ k → k < last → need ≤ k
    → em size out' ≡ puts (piece 0 need spare') (em 0 out) → Answered (written b) out out' (Ok size)
copied b out need spare spare' m size out' k i j l x y e =
    all-written b out need spare spare' m size out' i j (e ∙ ap (λ (c : Bytes). puts c (em 0 out)) (spared b spare spare' need m (omega arith) (omega arith)))

-- the answer for what the texts say
pub answered : (o q : Outcome) (before after : Bytes) (r : Answer) → q ≡ o → Answered o before after r → Answered q before after r
answered o q before after r e h = subst (λ (x : Outcome). Answered x before after r) (sym e) h

-- what is reported of an answer's number and size
pub reported : (o : Outcome) (before after : Bytes) (r : Answer) (n s : ℕ) → Answered o before after r → n ≡ number r → s ≡ size r → Reported o before after n s
reported o before after r n s h p q = rw (p, q) h

-- two answers that are the same have the same bytes
pub bytes_of : (a b : Bytes) → written a ≡ written b → a ≡ b
bytes_of a b e = cc
