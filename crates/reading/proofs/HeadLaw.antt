-- A query's head line that stands alone: its fields as they are taken, and the query that is read. Assumes nothing.
use Prim.Native.Nat.{ℕ, ◌+◌, ◌≤◌, ◌<◌}
use mathlib.Core.Path.{◌≡◌, refl, sym, ap, ap₂, subst, ◌∙◌}
use mathlib.Core.Bool.{Bool, true, false, cond, ◌&&◌}
use mathlib.Core.List.{List, [], ◌∷◌}
use mathlib.Core.Option.{Option, none, some}
use native.Mathlib.Omega.{arith}
use native.Mathlib.Decide.{dec_le}
use lib.ListN.{length}
use lib.Dec.{eqb, ltb}
use borrow.Author.Tests.{lt-ltb, le-ltb, eqb-true, eq-eqb}
use Rattle.text.specs.Text.{Bytes, same, onto, split, part, lines_of, First}
use Rattle.text.specs.Word.{bytes}
use Rattle.text.specs.Field.{Kind, fits, form, opaque}
use Rattle.text.proofs.Basics.{and_left, and_right, same_refl}
use Rattle.algebra.specs.bridge.Table.{text}
use Rattle.algebra.specs.Query.{Query}
use Rattle.algebra.specs.Tally.{notes, noted, headed, tally, tally_triples, tally_query, bounds, start}
use Rattle.algebra.specs.Reader.{malformed, Got, refused, reads, refuses, one, kept, end}
use Rattle.algebra.specs.ListReading.{query}
use Rattle.algebra.specs.Given.{empty_lines, read_given_query}
use Rattle.algebra.proofs.Given.{head-reads}
use Rattle.algebra.proofs.Alone.{stands-alone}
use Rattle.scoping.proofs.Basics.{both_ways, clash}
use Rattle.names.specs.bridge.Names.{Holds}
use Rattle.names.specs.bridge.Checked.{Checked}
use Rattle.words.specs.bridge.Key.{key_of, Keyed}
use Rattle.words.proofs.ByKey.{small, tells, is_word, other_key}
use Rattle.cursor.specs.declared.Cursor.{Cursor}
use Rattle.cursor.specs.bridge.Cursor.{left}
use Rattle.cursor.proofs.Laws.{left-none, left-next, left-all}
use Rattle.lines.specs.bridge.Line.{take_field, and_then}
use Rattle.lines.specs.bridge.Steps.{InLine, left_at, Follows, rest_of}
use Rattle.lines.proofs.RepeatLaw.{follows-along, follows_both, follows-fine}
use Rattle.reading.specs.bridge.Variables.{query_names}
use Rattle.reading.specs.bridge.Head.{is_head}
use Rattle.std.specs.Prelude.{Ok, Err}
use Rattle.algebra.specs.declared.Fault.TheVariants.{Malformed, OverBound}

pub from_start : (s : Bytes) (at n e : ℕ) → at ≡ 0 → First 10 s at n e → First 10 s 0 n e
from_start s at n e is f = subst (λ (i : ℕ). First 10 s i n e) is f

-- ---- the fields

abbrev taken : Kind → List Bytes → Option (List Bytes)
taken κ l = rest_of (take_field (text κ) l)

abbrev three_taken : List Bytes → Option (List Bytes)
three_taken l = and_then (and_then (taken form l) (taken opaque)) (taken opaque)

all-taken : (l : List Bytes) → is_head l ≡ true → three_taken l ≡ some []
unfolding is_head kept
all-taken (k ∷ d ∷ b ∷ []) e =
    let x = and_left (fits form k) _ e in
    let r = and_right (fits form k) _ e in
    rw (x, and_left (fits opaque d) _ r, and_right (fits opaque d) _ r)
all-taken [] e = let z : ◌≡◌ {A = ℕ} 0 1 = cc in absurd (omega arith)
all-taken (k ∷ []) e = let z : ◌≡◌ {A = ℕ} 0 1 = cc in absurd (omega arith)
all-taken (k ∷ d ∷ []) e = let z : ◌≡◌ {A = ℕ} 0 1 = cc in absurd (omega arith)
all-taken (k ∷ d ∷ b ∷ f ∷ fs) e = let z : ◌≡◌ {A = ℕ} 0 1 = cc in absurd (omega arith)

-- whatever was said of three tests
module _ (k d b : Bytes) (fs : List Bytes) where
  abbrev line : List Bytes
  line = k ∷ d ∷ b ∷ fs

  fits_all : (rest : List Bytes) → three_taken line ≡ some rest → (fits form k ≡ true) × (fits opaque d ≡ true) × (fits opaque b ≡ true) × (rest ≡ fs)
  unfolding kept
  fits_all rest e = first (fits form k) refl
    where
      third : (z : Bool) → fits form k ≡ true → fits opaque d ≡ true → fits opaque b ≡ z → (fits form k ≡ true) × (fits opaque d ≡ true) × (fits opaque b ≡ true) × (rest ≡ fs)
      third true x y q = let n : three_taken line ≡ some fs = rw (x, y, q) in let i : rest ≡ fs = cc in (x, y, q, i)
      third false x y q = let n : three_taken line ≡ none = rw (x, y, q) in let w : ◌≡◌ {A = ℕ} 0 1 = cc in absurd (omega arith)

      second : (z : Bool) → fits form k ≡ true → fits opaque d ≡ z → (fits form k ≡ true) × (fits opaque d ≡ true) × (fits opaque b ≡ true) × (rest ≡ fs)
      second true x q = third (fits opaque b) x q refl
      second false x q = let n : three_taken line ≡ none = rw (x, q) in let w : ◌≡◌ {A = ℕ} 0 1 = cc in absurd (omega arith)

      first : (z : Bool) → fits form k ≡ z → (fits form k ≡ true) × (fits opaque d ≡ true) × (fits opaque b ≡ true) × (rest ≡ fs)
      first true q = second (fits opaque d) q refl
      first false q = let n : three_taken line ≡ none = rw q in let w : ◌≡◌ {A = ℕ} 0 1 = cc in absurd (omega arith)

taken-all : (l : List Bytes) → three_taken l ≡ some [] → is_head l ≡ true
unfolding is_head kept
taken-all [] e = let z : ◌≡◌ {A = ℕ} 0 1 = cc in absurd (omega arith)
taken-all (k ∷ []) e = lone (fits form k) refl
  where
    lone : (x : Bool) → fits form k ≡ x → is_head (k ∷ []) ≡ true
    lone true p = let n : three_taken (k ∷ []) ≡ none = rw p in let z : ◌≡◌ {A = ℕ} 0 1 = cc in absurd (omega arith)
    lone false p = let n : three_taken (k ∷ []) ≡ none = rw p in let z : ◌≡◌ {A = ℕ} 0 1 = cc in absurd (omega arith)
taken-all (k ∷ d ∷ b ∷ []) e = let x = fits_all k d b [] [] e in rw (x.0, x.1, x.2)
taken-all (k ∷ d ∷ b ∷ f ∷ fs) e = let x = (fits_all k d b (f ∷ fs) [] e).3 in let z : ◌≡◌ {A = ℕ} 0 1 = cc in absurd (omega arith)
taken-all (k ∷ d ∷ []) e = two (fits form k) refl (fits opaque d) refl
  where
    two : (x : Bool) → fits form k ≡ x → (y : Bool) → fits opaque d ≡ y → is_head (k ∷ d ∷ []) ≡ true
    two true p true q = let n : three_taken (k ∷ d ∷ []) ≡ none = rw (p, q) in let z : ◌≡◌ {A = ℕ} 0 1 = cc in absurd (omega arith)
    two true p false q = let n : three_taken (k ∷ d ∷ []) ≡ none = rw (p, q) in let z : ◌≡◌ {A = ℕ} 0 1 = cc in absurd (omega arith)
    two false p y q = let n : three_taken (k ∷ d ∷ []) ≡ none = rw p in let z : ◌≡◌ {A = ℕ} 0 1 = cc in absurd (omega arith)

split-some : (f : Bytes) → split 9 f ≡ [] → ⊥
unfolding split onto
split-some [] e = let z : ◌≡◌ {A = ℕ} 0 1 = cc in omega arith
split-some (x ∷ f) e = go (eqb x 9) (split 9 f) e
  where
    go : (t : Bool) (ps : List Bytes) → cond t ([] ∷ ps) (onto x ps) ≡ [] → ⊥
    go true ps q = let z : ◌≡◌ {A = ℕ} 0 1 = cc in omega arith
    go false [] q = let z : ◌≡◌ {A = ℕ} 0 1 = cc in omega arith
    go false (p ∷ ps) q = let z : ◌≡◌ {A = ℕ} 0 1 = cc in omega arith

-- before a line's end a field is left
some_left : (s : Bytes) (at end : ℕ) → at ≤ end → left s at end ≡ [] → ⊥
some_left s at end h e = split-some (part at end s) (sym (left-all s at end h) ∙ e)

module _ (s : Bytes) (c k d b : Cursor) (f : Follows s c (taken form (left_at s c)) k) (g : Follows s k (taken opaque (left_at s k)) d) (h : Follows s d (taken opaque (left_at s d)) b) where
  behind : Follows s c (three_taken (left_at s c)) b
  behind = follows_both s c d b _ (taken opaque) refl (follows_both s c k d _ (taken opaque) refl f g) h

  pub head-fields : eqb b.at (b.end + 1) ≡ is_head (left_at s c)
  unfolding Follows
  head-fields = both_ways (eqb b.at (b.end + 1)) (is_head (left_at s c)) to from
    where
      to : eqb b.at (b.end + 1) ≡ true → is_head (left_at s c) ≡ true
      to e =
          let i = eqb-true b.at (b.end + 1) e in
          let along = follows-along s c b (three_taken (left_at s c)) behind in
          let x = follows-fine s c b (three_taken (left_at s c)) behind (let a = along.0 in omega (arith, i, a)) in
          taken-all (left_at s c) (x.0 ∙ ap some (left-none s b.at b.end (omega (arith, i))))

      from : is_head (left_at s c) ≡ true → eqb b.at (b.end + 1) ≡ true
      from e =
          let x = subst (λ (o : Option (List Bytes)). Follows s c o b) (all-taken (left_at s c) e) behind in
          let n : b.at ≤ b.end → ⊥ = (λ low. some_left s b.at b.end low x.3) in
          let a = x.0.0 in
          let u = x.2 in
          eq-eqb b.at (b.end + 1) (omega (arith, n, a, u))

-- ---- the query

-- a line of other fields is malformed, whatever follows it
module _ (w : Bytes) (word : same w (bytes "query") ≡ true) where
  abbrev given : List Bytes → Got Query
  given l = query bounds ((w ∷ l) ∷ empty_lines) start

  fields-refused : (l : List Bytes) → is_head l ≡ false → given l ≡ refused malformed
  unfolding is_head one kept end
  fields-refused [] n = rw word
  fields-refused (k ∷ fs) n = first (fits form k) refl
    where
      fourth : (d b : Bytes) (gs : List Bytes) → is_head (k ∷ d ∷ b ∷ gs) ≡ false → fits form k ≡ true → fits opaque d ≡ true → fits opaque b ≡ true → given (k ∷ d ∷ b ∷ gs) ≡ refused malformed
      fourth d b [] m x y z = let i : is_head (k ∷ d ∷ b ∷ []) ≡ true = rw (x, y, z) in clash i m
      fourth d b (f ∷ gs) m x y z = rw (word, x, y, z)

      third : (d b : Bytes) (gs : List Bytes) → is_head (k ∷ d ∷ b ∷ gs) ≡ false → fits form k ≡ true → fits opaque d ≡ true → (v : Bool) → fits opaque b ≡ v → given (k ∷ d ∷ b ∷ gs) ≡ refused malformed
      third d b gs m x y true z = fourth d b gs m x y z
      third d b gs m x y false z = rw (word, x, y, z)

      second : (d : Bytes) (gs : List Bytes) → is_head (k ∷ d ∷ gs) ≡ false → fits form k ≡ true → (v : Bool) → fits opaque d ≡ v → given (k ∷ d ∷ gs) ≡ refused malformed
      second d [] m x true y = rw (word, x, y)
      second d (b ∷ gs) m x true y = third d b gs m x y (fits opaque b) refl
      second d gs m x false y = rw (word, x, y)

      behind-kind : (gs : List Bytes) → is_head (k ∷ gs) ≡ false → fits form k ≡ true → given (k ∷ gs) ≡ refused malformed
      behind-kind [] m x = rw (word, x)
      behind-kind (d ∷ gs) m x = second d gs m x (fits opaque d) refl

      first : (v : Bool) → fits form k ≡ v → given (k ∷ fs) ≡ refused malformed
      first true x = behind-kind fs n x
      first false x = rw (word, x)

module _ (s w : Bytes) (l : List Bytes) (alone : lines_of s ≡ (w ∷ l) ∷ []) (short : length s ≤ 16384) where
  other_word : same w (bytes "query") ≡ false → read_given_query s ≡ refuses malformed
  unfolding read_given_query one kept
  other_word e = rw (le-ltb 16384 (length s) short, alone, e)

  other-fields : w ≡ bytes "query" → is_head l ≡ false → read_given_query s ≡ refuses malformed
  unfolding read_given_query
  other-fields i e = rw (le-ltb 16384 (length s) short, alone, fields-refused w (ap (λ (x : Bytes). same x (bytes "query")) i ∙ same_refl (bytes "query")) l e)

  is_read : w ≡ bytes "query" → is_head l ≡ true → (q : Query) × (read_given_query s ≡ reads q) × (query_names q ≡ [])
  unfolding is_head tally_query tally tally_triples headed noted notes
  is_read i e = go l alone e
    where
      go : (m : List Bytes) → lines_of s ≡ (w ∷ m) ∷ [] → is_head m ≡ true → (q : Query) × (read_given_query s ≡ reads q) × (query_names q ≡ [])
      go (k ∷ d ∷ b ∷ []) a x =
          let y = and_right (fits form k) _ x in
          (_, head-reads s k d b (a ∙ ap (λ (v : Bytes). (v ∷ k ∷ d ∷ b ∷ []) ∷ []) i) (and_left (fits form k) _ x) (and_left (fits opaque d) _ y) (and_right (fits opaque d) _ y) short, refl)
      go [] a x = let z : ◌≡◌ {A = ℕ} 0 1 = cc in absurd (omega arith)
      go (k ∷ []) a x = let z : ◌≡◌ {A = ℕ} 0 1 = cc in absurd (omega arith)
      go (k ∷ d ∷ []) a x = let z : ◌≡◌ {A = ℕ} 0 1 = cc in absurd (omega arith)
      go (k ∷ d ∷ b ∷ f ∷ fs) a x = let z : ◌≡◌ {A = ℕ} 0 1 = cc in absurd (omega arith)

-- ---- the check's ways out

module _ (s : Bytes) (a l h : List ℕ) where
  pub head-long : 16384 < length s → Checked query_names s a l h (read_given_query s) (Err OverBound)
  unfolding Checked read_given_query
  head-long n = rw (lt-ltb 16384 (length s) n) refl

  module _ (c : Cursor) (at : c.at ≡ 0) (first : First 10 s 0 (length s) c.end) (alone : c.end + 1 ≡ length s) (short : length s ≤ 16384) (w : ℕ) (f : First 9 s c.at c.end w) (d : Cursor) (behind-word : (d.at ≡ w + 1) × (d.end ≡ c.end)) where
    fields-are : lines_of s ≡ (part c.at w s ∷ left_at s d) ∷ []
    fields-are =
        let low : c.at ≤ c.end = omega arith in
        stands-alone s c.end first alone
        ∙ ap (λ (i : ℕ). split 9 (part i c.end s) ∷ []) (sym at)
        ∙ ap (λ (x : List Bytes). x ∷ []) (sym (left-all s c.at c.end low) ∙ left-next s c.at c.end w (omega arith) low f)
        ∙ ap₂ (λ (i j : ℕ). (part c.at w s ∷ left s i j) ∷ []) (sym behind-word.0) (sym behind-word.1)

    module _ (k : ℕ) (keyed : Keyed (part c.at w s) k) where
      pub head-other : (k ≡ key_of 0 (bytes "query") → ⊥) → Checked query_names s a l h (read_given_query s) (Err Malformed)
      unfolding Checked small tells
      head-other n = rw (other_word s _ _ fields-are short (other_key (part c.at w s) k keyed (bytes "query") refl n)) refl

      module _ (is : k ≡ key_of 0 (bytes "query")) where
        the_word : part c.at w s ≡ bytes "query"
        unfolding small tells
        the_word = is_word (part c.at w s) k keyed (bytes "query") refl is

        pub head-wrong : is_head (left_at s d) ≡ false → Checked query_names s a l h (read_given_query s) (Err Malformed)
        unfolding Checked
        head-wrong e = rw (other-fields s _ _ fields-are short the_word e) refl

        pub head-good : is_head (left_at s d) ≡ true → Holds s a l h 0 [] → Checked query_names s a l h (read_given_query s) (Ok 0)
        unfolding Checked
        head-good e t = let x = is_read s _ _ fields-are short the_word e in rw x.1 (0, refl, subst (Holds s a l h 0) (sym x.2) t)
