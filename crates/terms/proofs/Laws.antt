-- Laws of names, IRIs and literals, byte by byte. Assumes nothing.
use Prim.Native.Nat.{ℕ, zero, suc, ◌+◌, ◌-◌, ◌<◌, min}
use mathlib.Core.Path.{◌≡◌, refl, ap, ◌∙◌}
use mathlib.Core.Bool.{false}
use mathlib.Core.List.{[], ◌∷◌}
use native.Mathlib.Numerals.{add-one}
use native.Mathlib.Omega.{arith}
use lib.ListN.{length, get_or, take, drop}
use lib.Seq.{drop-cons}
use borrow.Author.Tests.{le-leb, lt-leb}
use Rattle.std.proofs.lemmas.List.{take_rest, drop_min}
use Rattle.text.specs.Text.{Bytes}
use Rattle.editions.specs.Lexical.{utf8}
use Rattle.terms.specs.bridge.State.{state_at}

-- a byte, and those behind it
byte_at : (f : Bytes) (i : ℕ) → i < length f → drop i f ≡ get_or f i 0 ∷ drop (i + 1) f
byte_at f i h = rw add-one (drop-cons f i 0 h)

-- nothing follows
pub dead : (s : Bytes) → utf8 (state_at 1 1 0) s ≡ false
unfolding utf8
dead [] = refl
dead (zero ∷ s) = refl
dead (suc b ∷ s) = rw (le-leb 1 (suc b) (omega arith), lt-leb (suc b) 0 (omega arith))

-- the byte here may not follow
pub stops : (f : Bytes) (i n a z : ℕ) → i < length f → ((s : Bytes) → utf8 (state_at n a z) (get_or f i 0 ∷ s) ≡ utf8 (state_at 1 1 0) s) → utf8 (state_at n a z) (drop i f) ≡ false
stops f i n a z h e = ap (utf8 (state_at n a z)) (byte_at f i h) ∙ (e (drop (i + 1) f) ∙ dead (drop (i + 1) f))

-- behind the end there is nothing, so a place may be held to it
pub held : (f : Bytes) (n k : ℕ) → k ≡ min n (length f) → take (length f - k) (drop k f) ≡ drop n f
held f n k e = take_rest f k ∙ (ap (λ (i : ℕ). drop i f) e ∙ drop_min n f)
