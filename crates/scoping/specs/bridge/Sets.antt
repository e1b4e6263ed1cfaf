-- What proofs say of lists of names. Assumes nothing.
use Rattle.std.specs.Prelude.{◌≡◌, true, List}
use Rattle.text.specs.Text.{Bytes}
use Rattle.algebra.specs.Valid.{mem, different}

-- no name twice
abbrev pub Once : List Bytes → Type 0
Once vs = different vs ≡ true

-- each name of xs is one of ys
abbrev pub Sub : List Bytes → List Bytes → Type 0
Sub xs ys = (v : Bytes) → mem v xs ≡ true → mem v ys ≡ true

-- f takes no two names of U to one
abbrev pub Inj : List Bytes → (Bytes → Bytes) → Type 0
Inj U f = (u v : Bytes) → mem u U ≡ true → mem v U ≡ true → f u ≡ f v → u ≡ v
