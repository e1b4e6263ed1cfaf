-- What code knows between two bytes of a term. Assumes nothing.
use Rattle.std.specs.Prelude.{Option, Some, None, ℕ, ◌≡◌, Bool, true, false, not, ◌&&◌, ◌∷◌, eqb}
use Rattle.text.specs.Text.{Bytes}
use Rattle.editions.specs.Lexical as L
use Rattle.editions.specs.Lexical.{utf8, is_tag, is_echar}
use Rattle.terms.specs.declared.literal.Tag.{Tag}
use Rattle.terms.specs.declared.utf8.Follow.{Follow}

abbrev pub state_at : ℕ → ℕ → ℕ → L.Follow
state_at n a z = record { count = n; low = a; high = z }

-- 1 from 1 to 0 is nothing
abbrev pub state_of : Option Follow → L.Follow
state_of (Some f) = state_at f.count f.low f.high
state_of None = state_at 1 1 0

-- what is left behind the byte is UTF-8 exactly if all of it is
abbrev pub Steps : Follow → ℕ → Option Follow → Type 0
Steps f b g = (s : Bytes) → utf8 (state_of (Some f)) (b ∷ s) ≡ utf8 (state_of g) s

-- a language tag goes on behind the byte, or the byte may not stand there
abbrev pub TagSteps : Tag → ℕ → Option Tag → Type 0
TagSteps t b (Some u) = (s : Bytes) → is_tag t.more t.first (b ∷ s) ≡ is_tag u.more u.first s
TagSteps t b None = (s : Bytes) → is_tag t.more t.first (b ∷ s) ≡ false

-- a byte of a string that doesn't end it; behind a backslash or not
abbrev pub stays : Bool → ℕ → Bool
stays true b = is_echar b
stays false b = not (eqb b 10) && not (eqb b 13)
