-- Words: how they are spelled, and how one is found by its spelling. Assumes nothing.
use Prim.Native.String.{String}
use Prim.Native.String as S
use Prim.Native.Char.{code}
use Rattle.std.specs.Prelude.{List, [], ◌∷◌, Bool, cond}
use Rattle.std.proofs.Math.Option.{Option, none, some}
use Rattle.text.specs.Text.{Bytes, same}

-- the bytes of a word in ASCII
abbrev pub bytes : String → Bytes
bytes S.[] = []
bytes (S.◌∷◌ c s) = code c ∷ bytes s

-- the first of the list that is spelled so
unfoldable pub spelled : {A : Type 0} → (A → Bytes) → List A → Bytes → Option A
unfolding same
spelled sp [] f = none
spelled sp (a ∷ rest) f = cond (same f (sp a)) (some a) (spelled sp rest f)
