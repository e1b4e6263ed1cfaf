-- The first line of a tree's text, as the code looks at it. Assumes nothing.
use Prim.Native.Nat.{ℕ, ◌≤◌, ◌<◌}
use mathlib.Core.Path.{◌≡◌, refl, sym, ap, ◌∙◌}
use mathlib.Core.List.{List, [], ◌∷◌}
use mathlib.Core.Bool.{Bool, false}
use mathlib.Core.Logic.{⊎_elim}
use native.Mathlib.Omega.{arith}
use lib.Dec.{eqb}
use lib.ListN.{length, get_or}
use Rattle.text.specs.Text.{Bytes, Line, same, part, lines_from, First}
use Rattle.text.specs.Word.{bytes}
use Rattle.text.proofs.Places.{lines_next}
use Rattle.reader.specs.bridge.Lines.{LineEnd}
use Rattle.reader.proofs.Laws.{nothing-here}
use Rattle.words.specs.bridge.Key.{key_of, Keyed}
use Rattle.words.proofs.ByKey.{small, tells, told}
use Rattle.walking.proofs.Laws.{line-split}

-- the key of a line's word tells whether it is that of a project
project-by-key : (f : Bytes) (k : ℕ) → Keyed f k → eqb k 31651020243559284 ≡ same f (bytes "project")
unfolding key_of small tells
project-by-key f k h = sym (h (bytes "project") (told (bytes "project") refl))

module _ (s : Bytes) (from e : ℕ) (l : LineEnd s from e) where
  abbrev pub IsProject : Bool → Type 0
  IsProject r = r ≡ same (get_or (get_or (lines_from s from) 0 []) 0 []) (bytes "project")

  pub root_none : e ≡ length s → IsProject false
  unfolding same
  root_none q = ⊎_elim (λ (z : lines_from s from ≡ []). rw z refl) (λ (z : lines_from s from ≡ [] ∷ []). rw z refl) (nothing-here s from e l q)

  module _ (low : e ≡ length s → ⊥) where
    ends : e < length s
    ends = let h = l.high in omega arith

    pub root-low : from ≤ e
    root-low = (l.ends ends).low

    pub root_is : (word k : ℕ) → First 9 s from e word → Keyed (part from word s) k → IsProject (eqb k 31651020243559284)
    root_is word k f h =
        project-by-key (part from word s) k h ∙ ap (λ (y : Line). same (get_or y 0 []) (bytes "project")) (sym (line-split s from e word ends root-low f)) ∙ ap (λ (y : List Line). same (get_or (get_or y 0 []) 0 []) (bytes "project")) (sym (lines_next s from e (l.ends ends) ends))
