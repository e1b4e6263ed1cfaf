-- The search for the outermost projection, line by line by places in the text. Assumes nothing.
use Prim.Native.Nat.{ℕ, ◌+◌, ◌≤◌, ◌<◌}
use mathlib.Core.Path.{◌≡◌, refl, sym, ap, subst, ◌∙◌}
use mathlib.Core.Bool.{Bool, true, false, not}
use mathlib.Core.Logic.{⊎_elim}
use mathlib.Core.List.{[], ◌∷◌}
use mathlib.Core.Option.{none}
use native.Mathlib.Omega.{arith}
use lib.ListN.{length}
use borrow.Author.Tests.{not-true, not-false}
use Rattle.text.specs.Text.{Bytes, Line, same, part, lines_from, First}
use Rattle.text.specs.Word.{bytes}
use Rattle.text.proofs.Places.{lines_end, lines_next}
use Rattle.algebra.specs.Valid.{mem}
use Rattle.words.specs.bridge.Key.{key_of, Keyed, key_in}
use Rattle.words.proofs.ByKey.{small, tells, same_key, is_word, other_key, all_words, in-by-key}
use Rattle.cursor.specs.bridge.Cursor.{left}
use Rattle.reader.specs.bridge.Lines.{LineEnd}
use Rattle.reader.proofs.Laws.{nothing-here}
use Rattle.walking.proofs.Laws.{line-split}
use Rattle.negating.specs.declared.Outermost.{Outermost}
use Rattle.negating.specs.bridge.Lines.{Search, passed, is_passed, from_project, Projects, Finds}
use Rattle.std.specs.Prelude.{Some, None}

-- behind the last line
pub past_end : (s : Bytes) (at : ℕ) → length s ≤ at → from_project (lines_from s at) ≡ none
unfolding from_project
past_end s at h = rw (lines_end s at h)

module _ (s : Bytes) (at end : ℕ) (l : LineEnd s at end) where
  -- no line that is ended starts here
  pub no_line : end ≡ length s → from_project (lines_from s at) ≡ none
  unfolding from_project is_passed mem same
  no_line e = ⊎_elim (λ (h : lines_from s at ≡ []). rw h) (λ (h : lines_from s at ≡ [] ∷ []). rw h) (nothing-here s at end l e)

  module _ (more : end ≡ length s → ⊥) (w : ℕ) (f : First 9 s at end w) where
    less : end < length s
    less = let h = l.high in omega arith

    this-line : lines_from s at ≡ (part at w s ∷ left s (w + 1) end) ∷ lines_from s (end + 1)
    this-line =
        let k = (l.ends less).low in
        lines_next s at end (l.ends less) less ∙ ap (λ (x : Line). x ∷ lines_from s (end + 1)) (line-split s at end w less k f)

    module _ (k : ℕ) (keyed : Keyed (part at w s) k) where
      pub project-here : k ≡ key_of 0 (bytes "project") → (from : ℕ) → from ≤ at → from_project (lines_from s from) ≡ from_project (lines_from s at) → Projects s from at (end + 1)
      unfolding from_project small tells
      project-here e from low inv =
          let i = (l.ends less).low in
          let j = less in
          record {
            low = low;
            less = omega arith;
            high = omega arith;
            columns = left s (w + 1) end;
            here = this-line ∙ ap (λ (x : Bytes). (x ∷ left s (w + 1) end) ∷ lines_from s (end + 1)) (is_word (part at w s) k keyed (bytes "project") refl e);
            found = inv ∙ rw (this-line, same_key (part at w s) k keyed (bytes "project") refl e);
          }

      module _ (n : k ≡ key_of 0 (bytes "project") → ⊥) (c : Bool) (known : c ≡ key_in k passed) where
        other : same (part at w s) (bytes "project") ≡ false
        unfolding small tells
        other = other_key (part at w s) k keyed (bytes "project") refl n

        passes : is_passed (part at w s) ≡ c
        unfolding is_passed small tells all_words
        passes = in-by-key (part at w s) k keyed passed refl ∙ sym known

        pub stops-here : not c ≡ true → from_project (lines_from s at) ≡ none
        unfolding from_project
        stops-here h = rw (this-line, other, passes ∙ not-true c h)

        pub goes_on : not c ≡ false → from_project (lines_from s at) ≡ from_project (lines_from s (end + 1))
        unfolding from_project
        goes_on h = rw (this-line, other, passes ∙ not-false c h)

-- what an answer says
pub says_at : (s : Bytes) (from : ℕ) (r : Search) (o : Outermost) → Finds s from r → r ≡ Some o → Projects s from o.line o.inner
says_at s from r o f e = subst (Finds s from) e f

pub says_none : (s : Bytes) (from : ℕ) (r : Search) → Finds s from r → r ≡ None → from_project (lines_from s from) ≡ none
says_none s from r f e = subst (Finds s from) e f
