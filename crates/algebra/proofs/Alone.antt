-- Whether a query's head line stands alone, by the place where its first line ends. Assumes nothing.
use mathlib.Core.Path.{◌≡◌, refl, ap, ◌∙◌}
use mathlib.Core.List.{List, [], ◌∷◌}
use Prim.Native.Nat.{ℕ, ◌+◌, ◌-◌, ◌<◌}
use native.Mathlib.Omega.{arith}
use native.Mathlib.Decide.{dec_lt}
use mathlib.Core.Logic.{◌⊎◌, inl, inr}
use lib.ListN.{length, length-take, length-drop}
use Rattle.text.specs.Text.{Bytes, Line, split, lines_of, part, lines_from, First}
use Rattle.text.proofs.Places.{lines_start, lines_end, lines-open, lines_next}
use Rattle.algebra.specs.Reader.{read_text, one, end}
use Rattle.algebra.specs.Given.{read_given_query}
use Rattle.algebra.specs.Texts.{read_query}
use Rattle.algebra.proofs.Given.{some-line, query-as-it-is}

-- ---- whether a line stands behind the first one

pub some-from : (s : Bytes) (at : ℕ) → at < length s → lines_from s at ≡ [] → ⊥
unfolding lines_from lines_of
some-from s at h e = go (part at (length s) s) refl
  where
    go : (b : Bytes) → part at (length s) s ≡ b → ⊥
    go [] k = let n : length (part at (length s) s) ≡ length s - at = simp (length-take, length-drop) (omega arith) in let z : length (part at (length s) s) ≡ 0 = ap length k in omega arith
    go (x ∷ b) k = let y = (some-line x b).2 in let z : ◌≡◌ {A = ℕ} 0 1 = cc in omega arith

-- the first line ends at a place
module _ (s : Bytes) (end : ℕ) (first : First 10 s 0 (length s) end) where
  first-line : end < length s → lines_of s ≡ split 9 (part 0 end s) ∷ lines_from s (end + 1)
  first-line h = lines_start s ∙ lines_next s 0 end first h

  -- a text that isn't one line alone is read as it stands; one that isn't ended is malformed either way
  pub not-alone : (end + 1 ≡ length s → ⊥) → read_given_query s ≡ read_query s
  unfolding read_given_query read_query read_text one
  not-alone n = go (dec_lt end (length s))
    where
      unended : (ls : List Line) → lines_of s ≡ ls → (ls ≡ []) ⊎ (ls ≡ [] ∷ []) → read_given_query s ≡ read_query s
      unended ls e (inl z) = query-as-it-is s (λ l k. let c : ◌≡◌ {A = ℕ} 0 1 = cc in omega arith)
      unended ls e (inr z) = rw (e ∙ z)

      first-only : Dec (0 < length s) → end ≡ length s → (lines_from s 0 ≡ []) ⊎ (lines_from s 0 ≡ [] ∷ [])
      first-only (yes h) k = inr (lines-open s 0 end h first k)
      first-only (no h) k = inl (lines_end s 0 (omega arith))

      go : Dec (end < length s) → read_given_query s ≡ read_query s
      go (yes h) = query-as-it-is s (λ l e. some-from s (end + 1) (omega arith) (let f = first-line h in cc))
      go (no h) = let k = first.high in unended (lines_from s 0) (lines_start s) (first-only (dec_lt 0 (length s)) (omega arith))

  pub stands-alone : end + 1 ≡ length s → lines_of s ≡ split 9 (part 0 end s) ∷ []
  stands-alone h = first-line (omega arith) ∙ ap (λ (ls : List Line). split 9 (part 0 end s) ∷ ls) (lines_end s (end + 1) (omega arith))
