-- Reading a namespace table line by line: what a line makes of the lines read so far. Assumes nothing.
use Prim.Native.Nat.{ℕ, zero, suc, ◌≤◌}
use mathlib.Core.Path.{◌≡◌, refl, sym, ◌∙◌, ap}
use mathlib.Core.List.{List, [], ◌∷◌, ◌++◌, append-nil}
use mathlib.Core.Bool.{Bool, true, false, ◌&&◌, true≢false}
use native.Mathlib.Numerals.{add-one}
use native.Mathlib.Omega.{arith}
use lib.ListN.{length, length-append}
use lib.Seq.{append_snoc}
use borrow.Author.Tests.{le-leb}
use Rattle.text.specs.Text.{Bytes, Line}
use Rattle.text.specs.Field.{clean}
use Rattle.text.proofs.Basics.{and_left, and_right, and_both}
use Rattle.text.proofs.Texts.{AllClean}
use Rattle.algebra.specs.Tally.{Tally, start, within, notes, noted}
use Rattle.algebra.specs.Reader.{malformed, over_bound, Got, got, refused, next, ◌>>=◌, return, refuse, one, kept, end, too_many, several, Outcome, reads, refuses, outcome}
use Rattle.converting.specs.Starts.{Start, is_start, start_bounds, start_line}
use Rattle.starts.specs.bridge.Starts.{is_start_field, is_two}

-- what is said, behind these lines
abbrev pub behind : List Start → Outcome (List Start) → Outcome (List Start)
behind xs (reads ys) = reads (xs ++ ys)
behind xs (refuses n) = refuses n

-- what is counted after these lines
abbrev pub state : List Start → Tally
state xs = record { lines = length xs; wide = 0; names = [] }

-- what the lines say behind the lines xs, where k more may come
unfoldable pub told : ℕ → List Start → List Line → Outcome (List Start)
told k xs ls = behind xs (outcome (several k (start_line 1) (start_line 0) ls (state xs)))

pub told-start : (ls : List Line) → outcome (several 64 (start_line 1) (start_line 0) ls start) ≡ told 64 [] ls
unfolding told
told-start ls = whole (outcome (several 64 (start_line 1) (start_line 0) ls start))
  where
    whole : (o : Outcome (List Start)) → o ≡ behind [] o
    whole (reads ys) = refl
    whole (refuses n) = refl

pub told-end : (k : ℕ) (xs : List Start) → told k xs [] ≡ reads xs
unfolding told several
told-end zero xs = ap reads (append-nil xs)
told-end (suc k) xs = ap reads (append-nil xs)

-- a field of a line is a start if it is one of a line
pub start-field : (f : Bytes) → clean f ≡ true → is_start f ≡ is_start_field f
unfolding is_start is_start_field
start-field f h = rw h

module _ (m : Tally) (ls : List Line) where
  not_first : (i : ℕ) (f : Bytes) (fs : List Bytes) → is_start f ≡ false → start_line i ((f ∷ fs) ∷ ls) m ≡ refused malformed
  unfolding one kept
  not_first i f fs p = rw p

  short : (i : ℕ) (f : Bytes) (a : Bool) → is_start f ≡ a → start_line i ((f ∷ []) ∷ ls) m ≡ refused malformed
  unfolding one kept
  short i f true p = rw p
  short i f false p = not_first i f [] p

  not-second : (i : ℕ) (f g : Bytes) (fs : List Bytes) → is_start f ≡ true → is_start g ≡ false → start_line i ((f ∷ g ∷ fs) ∷ ls) m ≡ refused malformed
  unfolding one kept
  not-second i f g fs p q = rw (p, q)

  long : (i : ℕ) (f g h : Bytes) (fs : List Bytes) (a b : Bool) → is_start f ≡ a → is_start g ≡ b → start_line i ((f ∷ g ∷ h ∷ fs) ∷ ls) m ≡ refused malformed
  unfolding one kept end too_many
  long zero f g h fs true true p q = rw (p, q)
  long (suc i) f g h fs true true p q = rw (p, q)
  long i f g h fs true false p q = not-second i f g (h ∷ fs) p q
  long i f g h fs false b p q = not_first i f (g ∷ h ∷ fs) p

  two : (i : ℕ) (f g : Bytes) → clean f ≡ true → clean g ≡ true → (is_start_field f && is_start_field g) ≡ false → (a b : Bool) → is_start f ≡ a → is_start g ≡ b → start_line i ((f ∷ g ∷ []) ∷ ls) m ≡ refused malformed
  two i f g cf cg e true true p q = absurd (true≢false (sym (and_both (is_start_field f) (is_start_field g) (sym (start-field f cf) ∙ p) (sym (start-field g cg) ∙ q)) ∙ e))
  two i f g cf cg e true false p q = not-second i f g [] p q
  two i f g cf cg e false b p q = not_first i f (g ∷ []) p

  -- no line of two starts
  no-two : (i : ℕ) (l : Line) → AllClean l → is_two l ≡ false → start_line i (l ∷ ls) m ≡ refused malformed
  unfolding one is_two
  no-two i [] c e = refl
  no-two i (f ∷ []) c e = short i f (is_start f) refl
  no-two i (f ∷ g ∷ []) c e = two i f g c.0 c.1.0 e (is_start f) (is_start g) refl refl
  no-two i (f ∷ g ∷ h ∷ fs) c e = long i f g h fs (is_start f) (is_start g) refl refl

module _ (xs : List Start) (ls : List Line) where
  pub told-bad : (k : ℕ) (l : Line) → AllClean l → is_two l ≡ false → told k xs (l ∷ ls) ≡ refuses malformed
  unfolding told several
  told-bad zero l c e = ap (λ (r : Got Start). behind xs (outcome (next r (λ x. refuse over_bound)))) (no-two (state xs) ls 0 l c e)
  told-bad (suc k) l c e = ap (λ (r : Got Start). behind xs (outcome (next r (λ x. several k (start_line 1) (start_line 0) >>= λ ys. return (x ∷ ys))))) (no-two (state xs) ls 1 l c e)

  -- a line that may be an entry
  module _ (f g : Bytes) (c : AllClean (f ∷ g ∷ [])) (e : is_two (f ∷ g ∷ []) ≡ true) where
    first_fits : is_start f ≡ true
    unfolding is_two
    first_fits = start-field f c.0 ∙ and_left (is_start_field f) (is_start_field g) e

    second_fits : is_start g ≡ true
    unfolding is_two
    second_fits = start-field g c.1.0 ∙ and_right (is_start_field f) (is_start_field g) e

    pub told_over : told 0 xs ((f ∷ g ∷ []) ∷ ls) ≡ refuses over_bound
    unfolding told several one kept too_many
    told_over = rw (first_fits, second_fits)

    abbrev pub more : List Start
    more = xs ++ (record { old = f; new = g } ∷ [])

    counted : noted [] (state xs) ≡ state more
    unfolding noted notes
    counted = rw (length-append xs (record { old = f; new = g } ∷ []), add-one)

    in_bounds : length more ≤ 64 → within start_bounds (state more) ≡ true
    unfolding within
    in_bounds h = let i : length more ≤ 2048 = omega arith in rw (le-leb (length more) 2048 i)

    pub told-next : (k : ℕ) → length more ≤ 64 → told (suc k) xs ((f ∷ g ∷ []) ∷ ls) ≡ told k more ls
    unfolding told several one kept end
    told-next k h =
        rw (first_fits, second_fits, ap (within start_bounds) counted ∙ in_bounds h)
        (go (several k (start_line 1) (start_line 0) ls (noted [] (state xs))) ∙ ap (λ (m : Tally). behind more (outcome (several k (start_line 1) (start_line 0) ls m))) counted)
      where
        go : (r : Got (List Start)) → behind xs (outcome (next r (λ ys. return (record { old = f; new = g } ∷ ys)))) ≡ behind more (outcome r)
        go (got ys [] n) = ap reads (sym (append_snoc xs (record { old = f; new = g }) ys))
        go (got ys (l ∷ ls) n) = refl
        go (refused n) = refl
