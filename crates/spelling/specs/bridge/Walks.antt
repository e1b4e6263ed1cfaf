-- What code says of a walk over the lines of a query's text: where the lines behind start, and what was written or found. Assumes nothing.
use Rattle.std.specs.Prelude.{ℕ, zero, suc, ◌≡◌, Bool, true, false}
use Rattle.std.proofs.Math.Option.{Option, none, some}
use Rattle.text.specs.Text.{Bytes, same, lines_from}
use Rattle.text.specs.Word.{bytes}
use Rattle.emit.specs.bridge.Emit.{Em, puts}
use Rattle.editions.specs.Token.{Keyword, DISTINCT, REDUCED, text}
use Rattle.spelling.specs.declared.before.Manner.{Manner}
use Rattle.spelling.specs.declared.before.Manner.TheVariants.{Distinct, Plain, Reduced}
use Rattle.spelling.specs.declared.say.Sort.{Sort}
use Rattle.spelling.specs.declared.say.Sort.TheVariants.{Expression, Flat}
use Rattle.spelling.specs.bridge.Saying.{shallow, Said}
use Rattle.spelling.specs.bridge.Seeking.{Sought}

-- the tokens were written, and the lines behind start there
pub record Writes (s : Bytes) (w : Said) (before after : Em) (from : ℕ) : Type 0 where
  pub tokens : after ≡ puts (text w.tokens) before
  pub left : lines_from s from ≡ w.left

-- a line's sort by its word: a flat one adds no depth, and to an expression no manner matters
pub record Sorted (w : Bytes) (sort : Sort) : Type 0 where
  pub flat : sort ≡ Flat → shallow w ≡ true
  pub deep : (sort ≡ Flat → ⊥) → shallow w ≡ false
  pub plain : sort ≡ Expression → same w (bytes "project") ≡ false

-- it was found or not, and the lines behind start there
pub record Seeks (s : Bytes) (w : Sought) (b : Bool) (from : ℕ) : Type 0 where
  pub found : b ≡ w.found
  pub left : lines_from s from ≡ w.left

-- a manner as the code has it
abbrev pub manner_at : Manner → Option Keyword
manner_at Plain = none
manner_at Distinct = some DISTINCT
manner_at Reduced = some REDUCED

-- a manner by its number: 2 and any higher one is the last
abbrev pub manner_told : ℕ → Option Keyword
manner_told zero = none
manner_told (suc zero) = some DISTINCT
manner_told (suc (suc n)) = some REDUCED
