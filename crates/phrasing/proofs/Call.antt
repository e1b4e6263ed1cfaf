-- The lines judged one after the other, and the answers of the call. Assumes nothing.
use Prim.Native.Nat.{ℕ, ◌+◌, ◌≤◌, ◌<◌}
use mathlib.Core.Path.{◌≡◌, refl, sym, ap, ◌∙◌}
use mathlib.Core.Bool.{Bool, true, false, ◌&&◌}
use mathlib.Core.List.{List, ◌∷◌}
use mathlib.Core.Option.{none, some}
use native.Mathlib.Omega.{arith}
use lib.ListN.{length}
use Rattle.text.specs.Text.{Bytes, Line, same, split, part, lines_from, First}
use Rattle.text.specs.Word.{bytes}
use Rattle.text.proofs.Places.{lines-open}
use Rattle.cursor.specs.bridge.Cursor.{left as fieldsFrom}
use Rattle.walking.proofs.Laws.{line-split}
use Rattle.reader.specs.bridge.Lines.{LineEnd}
use Rattle.algebra.specs.Query.{Query}
use Rattle.algebra.specs.Reader.{reads, refuses, malformed, over_bound}
use Rattle.algebra.specs.Texts.{read_query}
use Rattle.negating.specs.bridge.Lines.{word}
use Rattle.answers.specs.Outcome.{Answer, written, Reported, Answered}
use Rattle.answers.proofs.Answers.{answered}
use Rattle.editions.specs.Token.{Edition, text}
use Rattle.editions.specs.Spelling.{spell}
use Rattle.editions.specs.Refusals.{unsayable, forbidden, Verdict, line, Place as Standing, root, takes_project, first, first_of, judge, judge_query, refusal}
use Rattle.algebra.specs.Given.{empty_tree, read_given_query}
use Rattle.editions.specs.Outcome.{unless_refused, edition_read, edition_outcome}
use Rattle.editions.specs.bridge.AsIs.{edition_as_is}
use Rattle.spelling.specs.bridge.Saying.{said_tree}
use Rattle.spelling.specs.bridge.Judging.{place_under, is_plain_pattern, is_plain_expression, verdict_of, judged_lines}
use Rattle.spelling.specs.declared.before.Manner.TheVariants.{Plain}
use Rattle.spelling.specs.bridge.Walks.{manner_at}
use Rattle.spelling.proofs.Going.{judged-next, judged-end}
use Rattle.spelling.proofs.ByLines.{edition-by-lines}
use Rattle.phrasing.specs.bridge.Code.{verdict_told, place_at}
use Rattle.std.specs.Prelude.{Result, Ok, Err}
use Rattle.answers.specs.declared.Refusal.{Refusal}
use Rattle.phrasing.specs.declared.place.Place.{Place}
use Rattle.answers.specs.declared.Refusal.TheVariants.{Forbidden, Malformed, OverBound, Unsayable}

-- ---- a verdict as it is told

no-refusal : (v : Verdict) (x : Unit {0}) → Ok x ≡ verdict_told v → v ≡ none
unfolding verdict_told
no-refusal none x h = refl
no-refusal (some unsayable) x h = cc
no-refusal (some forbidden) x h = cc

-- ---- line by line

first_stops : (v u : Verdict) (f : Refusal) → Err f ≡ verdict_told v → Err f ≡ verdict_told (first v u)
unfolding verdict_told first
first_stops none u f h = cc
first_stops (some r) u f h = h

first_goes : (v u : Verdict) → v ≡ none → first v u ≡ u
unfolding first
first_goes v u h = rw h

module _ (ed : Edition) (s : Bytes) (n : ℕ) (p : Place) (from end : ℕ) (l : LineEnd s from end) where
  -- the text ends in a line that isn't ended
  pub judge-open : from < length s → end ≡ length s → Err Unsayable ≡ verdict_told (judged_lines ed n (place_at p) (lines_from s from))
  unfolding verdict_told judged_lines verdict_of is_plain_pattern is_plain_expression first same
  judge-open h e = sym (ap (λ (ls : List Line). verdict_told (judged_lines ed n (place_at p) ls)) (lines-open s from end h (l.none e (let n : length s ≤ from → ⊥ = omega arith in n)) e))

  module _ (more : end ≡ length s → ⊥) (w : ℕ) (f : First 9 s from end w) where
    abbrev Told : Line
    Told = part from w s ∷ fieldsFrom s (w + 1) end

    line-is : split 9 (part from end s) ≡ Told
    line-is = let h = l.high in let i : end < length s = omega arith in line-split s from end w i (l.ends i).low f

    judged : judged_lines ed n (place_at p) (lines_from s from) ≡ first (verdict_of ed n (place_at p) Told (lines_from s (end + 1))) (judged_lines ed n (place_under (part from w s)) (lines_from s (end + 1)))
    judged = judged-next ed s n (place_at p) from end l more ∙ ap (λ (o : Line). first (verdict_of ed n (place_at p) o (lines_from s (end + 1))) (judged_lines ed n (place_under (word o)) (lines_from s (end + 1)))) line-is

    module _ (told : Result (Unit {0}) Refusal) (t : told ≡ verdict_told (verdict_of ed n (place_at p) Told (lines_from s (end + 1)))) where
      pub judge-stop : (f : Refusal) → told ≡ Err f → Err f ≡ verdict_told (judged_lines ed n (place_at p) (lines_from s from))
      judge-stop f h = first_stops _ (judged_lines ed n (place_under (part from w s)) (lines_from s (end + 1))) f (sym h ∙ t) ∙ ap verdict_told (sym judged)

      pub judge-next : (x : Unit {0}) → told ≡ Ok x → (p' : Place) → place_at p' ≡ place_under (part from w s) → verdict_told (judged_lines ed n (place_at p) (lines_from s from)) ≡ verdict_told (judged_lines ed n (place_at p') (lines_from s (end + 1)))
      judge-next x h p' q = ap verdict_told (judged ∙ first_goes _ _ (no-refusal _ x (sym h ∙ t)) ∙ ap (λ (o : Standing). judged_lines ed n o (lines_from s (end + 1))) (sym q))

pub judge-end : (ed : Edition) (s : Bytes) (n : ℕ) (p : Place) (from : ℕ) → length s ≤ from → Ok tt ≡ verdict_told (judged_lines ed n (place_at p) (lines_from s from))
unfolding verdict_told
judge-end ed s n p from h = sym (ap verdict_told (judged-end ed s n (place_at p) from h))

-- ---- the call

-- a verdict refuses the call, with its number
stopped : (v : Verdict) (f : Refusal) (t out : Bytes) → Err f ≡ verdict_told v → Answered (unless_refused v t) out out (Err f)
unfolding verdict_told Reported
stopped none f t out h = cc
stopped (some unsayable) f t out h = rw (let e : f ≡ Unsayable = cc in e) (refl, refl, refl)
stopped (some forbidden) f t out h = rw (let e : f ≡ Forbidden = cc in e) (refl, refl, refl)

module _ (ed : Edition) (s : Bytes) (q : Query) (e : read_query s ≡ reads q) (told : Result (Unit {0}) Refusal) (j : told ≡ verdict_told (judged_lines ed 64 root (lines_from s 0))) (out : Bytes) where
  abbrev Verdict-of : Verdict
  Verdict-of = judged_lines ed 64 root (lines_from s 0)

  abbrev pub Text : Bytes
  Text = text (said_tree 65 (manner_at Plain) (lines_from s 0)).tokens

  pub unsaid : (f : Refusal) → told ≡ Err f → Answered (edition_as_is ed s) out out (Err f)
  unsaid f h = answered _ _ out out (Err f) (edition-by-lines ed s q e) (stopped Verdict-of f Text out (sym h ∙ j))

  pub written_so : (x : Unit {0}) → told ≡ Ok x → (after : Bytes) (a : Answer) → Answered (written Text) out after a → Answered (edition_as_is ed s) out after a
  written_so x h after a w = answered _ _ out after a (edition-by-lines ed s q e ∙ ap (λ (v : Verdict). unless_refused v Text) (no-refusal Verdict-of x (sym h ∙ j))) w

-- something stands behind the head line, so that the text is read as it stands
pub as-it-is : (ed : Edition) (s before after : Bytes) (r : Answer) → read_given_query s ≡ read_query s → Answered (edition_as_is ed s) before after r → Answered (edition_outcome ed s) before after r
unfolding edition_outcome edition_as_is
as-it-is ed s before after r e h = answered _ _ before after r (ap (edition_read ed) e) h

-- an empty file has no columns; its head line cannot be said either
empty-unsaid : (ed : Edition) (q : Query) → q.tree ≡ empty_tree → refusal ed q ≡ some unsayable
unfolding refusal judge_query judge first_of first
empty-unsaid ed q e = rw e (go (same q.kind (bytes "select") && (same q.dataset (bytes "-") && same q.base (bytes "-"))) (takes_project ed root))
  where
    go : (b c : Bool) → first (line b true) (first (line (c && false) true) none) ≡ some unsayable
    go true true = refl
    go true false = refl
    go false c = refl

pub empty-file : (ed : Edition) (s : Bytes) (q : Query) (out : Bytes) → read_given_query s ≡ reads q → q.tree ≡ empty_tree → Answered (edition_outcome ed s) out out (Err Unsayable)
unfolding edition_outcome Reported
empty-file ed s q out e t = answered _ _ out out (Err Unsayable) (ap (edition_read ed) e ∙ ap (λ (v : Verdict). unless_refused v (spell q)) (empty-unsaid ed q t)) (refl, refl, refl)

-- a query that is refused
pub edition-malformed : (ed : Edition) (s out : Bytes) → read_given_query s ≡ refuses malformed → Answered (edition_outcome ed s) out out (Err Malformed)
unfolding edition_outcome Reported
edition-malformed ed s out e = rw e (refl, refl, refl)

pub edition-over : (ed : Edition) (s out : Bytes) → read_given_query s ≡ refuses over_bound → Answered (edition_outcome ed s) out out (Err OverBound)
unfolding edition_outcome Reported
edition-over ed s out e = rw e (refl, refl, refl)
