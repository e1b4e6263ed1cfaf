-- Reading a list of triples line by line: what a line makes of the triples read so far. Assumes nothing.
use Prim.Native.Nat.{ℕ, zero, suc, ◌≤◌}
use mathlib.Core.Path.{◌≡◌, refl, sym, ◌∙◌, ap}
use mathlib.Core.List.{List, [], ◌∷◌, ◌++◌, map, map-append, append-nil}
use mathlib.Core.Bool.{Bool, true, false, not, ◌&&◌, true≢false}
use native.Mathlib.Numerals.{add-one}
use native.Mathlib.Omega.{arith}
use lib.ListN.{length, length-append, length-map}
use lib.Seq.{append_snoc}
use borrow.Author.Tests.{le-leb}
use Rattle.text.specs.Text.{Bytes, Line}
use Rattle.text.specs.Field.{constant, is_kind, fits}
use Rattle.text.proofs.Basics.{and_left, and_right, and_both}
use Rattle.text.proofs.Texts.{AllClean}
use Rattle.algebra.specs.Tree.{Triple}
use Rattle.algebra.specs.Valid.{mem}
use Rattle.algebra.specs.Tally.{bounds, Tally, start, within, paired}
use Rattle.algebra.specs.Reader.{malformed, over_bound, Got, got, refused, next, ◌>>=◌, return, refuse, one, kept, end, too_many, several, Outcome, reads, refuses, outcome}
use Rattle.lists.proofs.Lines.{fits-kind}
use Rattle.evaluating.specs.Triples.{most_triples, line_of, triple}
use Rattle.triples.specs.bridge.Triples.{is_three}

-- a triple's line, with its end
abbrev pub line_in : Triple → Bytes
line_in d = line_of d.subj d.pred d.obj

-- what is said, behind these triples
abbrev pub behind : List Triple → Outcome (List Triple) → Outcome (List Triple)
behind xs (reads ys) = reads (xs ++ ys)
behind xs (refuses n) = refuses n

-- what is counted after these triples
abbrev pub state : List Triple → Tally
state xs = record { lines = length xs; wide = 0; names = map line_in xs }

-- what the lines say behind the triples xs, where k more may come
unfoldable pub told : ℕ → List Triple → List Line → Outcome (List Triple)
told k xs ls = behind xs (outcome (several k (triple bounds 1) (triple bounds 0) ls (state xs)))

pub told-start : (ls : List Line) → outcome (several most_triples (triple bounds 1) (triple bounds 0) ls start) ≡ told most_triples [] ls
unfolding told
told-start ls = whole (outcome (several most_triples (triple bounds 1) (triple bounds 0) ls start))
  where
    whole : (o : Outcome (List Triple)) → o ≡ behind [] o
    whole (reads ys) = refl
    whole (refuses n) = refl

pub told-end : (k : ℕ) (xs : List Triple) → told k xs [] ≡ reads xs
unfolding told several
told-end zero xs = ap reads (append-nil xs)
told-end (suc k) xs = ap reads (append-nil xs)

-- ---- a line that is no entry

module _ (m : Tally) (ls : List Line) where
  -- the last field passes: an IRI or a literal, and the line is new
  abbrev ends : Bytes → Bytes → Bytes → Bool
  ends f g h = fits constant h && not (mem (line_of f g h) m.names)

  not_first : (i : ℕ) (f : Bytes) (fs : List Bytes) → fits constant f ≡ false → triple bounds i ((f ∷ fs) ∷ ls) m ≡ refused malformed
  unfolding one kept
  not_first i f fs p = rw p

  short : (i : ℕ) (f : Bytes) (a : Bool) → fits constant f ≡ a → triple bounds i ((f ∷ []) ∷ ls) m ≡ refused malformed
  unfolding one kept
  short i f true p = rw p
  short i f false p = not_first i f [] p

  not-second : (i : ℕ) (f g : Bytes) (fs : List Bytes) → fits constant f ≡ true → fits constant g ≡ false → triple bounds i ((f ∷ g ∷ fs) ∷ ls) m ≡ refused malformed
  unfolding one kept
  not-second i f g fs p q = rw (p, q)

  shorter : (i : ℕ) (f g : Bytes) (a b : Bool) → fits constant f ≡ a → fits constant g ≡ b → triple bounds i ((f ∷ g ∷ []) ∷ ls) m ≡ refused malformed
  unfolding one kept
  shorter i f g true true p q = rw (p, q)
  shorter i f g true false p q = not-second i f g [] p q
  shorter i f g false b p q = not_first i f (g ∷ []) p

  not_third : (i : ℕ) (f g h : Bytes) (fs : List Bytes) → fits constant f ≡ true → fits constant g ≡ true → ends f g h ≡ false → triple bounds i ((f ∷ g ∷ h ∷ fs) ∷ ls) m ≡ refused malformed
  unfolding one kept
  not_third i f g h fs p q r = rw (p, q, r)

  no_end : (i : ℕ) (f g h : Bytes) (fs : List Bytes) → ends f g h ≡ false → (a b : Bool) → fits constant f ≡ a → fits constant g ≡ b → triple bounds i ((f ∷ g ∷ h ∷ fs) ∷ ls) m ≡ refused malformed
  no_end i f g h fs r true true p q = not_third i f g h fs p q r
  no_end i f g h fs r true false p q = not-second i f g (h ∷ fs) p q
  no_end i f g h fs r false b p q = not_first i f (g ∷ h ∷ fs) p

  long : (i : ℕ) (f g h k : Bytes) (fs : List Bytes) (a b c : Bool) → fits constant f ≡ a → fits constant g ≡ b → ends f g h ≡ c → triple bounds i ((f ∷ g ∷ h ∷ k ∷ fs) ∷ ls) m ≡ refused malformed
  unfolding one kept end too_many
  long zero f g h k fs true true true p q r = rw (p, q, r)
  long (suc i) f g h k fs true true true p q r = rw (p, q, r)
  long i f g h k fs a b false p q r = no_end i f g h (k ∷ fs) r a b p q
  long i f g h k fs true false true p q r = not-second i f g (h ∷ k ∷ fs) p q
  long i f g h k fs false b true p q r = not_first i f (g ∷ h ∷ k ∷ fs) p

  three : (i : ℕ) (f g h : Bytes) → AllClean (f ∷ g ∷ h ∷ []) → is_three (f ∷ g ∷ h ∷ []) ≡ false → (a b c : Bool) → fits constant f ≡ a → fits constant g ≡ b → ends f g h ≡ c → triple bounds i ((f ∷ g ∷ h ∷ []) ∷ ls) m ≡ refused malformed
  unfolding is_three
  three i f g h c e true true true p q r =
      let x : is_kind constant f ≡ true = sym (fits-kind constant f c.0) ∙ p in
      let y : is_kind constant g ≡ true = sym (fits-kind constant g c.1.0) ∙ q in
      let z : is_kind constant h ≡ true = sym (fits-kind constant h c.1.1.0) ∙ and_left (fits constant h) _ r in
      absurd (true≢false (sym (rw (x, y, z) refl) ∙ e))
  three i f g h c e a b false p q r = no_end i f g h [] r a b p q
  three i f g h c e true false true p q r = not-second i f g (h ∷ []) p q
  three i f g h c e false b true p q r = not_first i f (g ∷ h ∷ []) p

  no-three : (i : ℕ) (l : Line) → AllClean l → is_three l ≡ false → triple bounds i (l ∷ ls) m ≡ refused malformed
  unfolding one
  no-three i [] c e = refl
  no-three i (f ∷ []) c e = short i f (fits constant f) refl
  no-three i (f ∷ g ∷ []) c e = shorter i f g (fits constant f) (fits constant g) refl refl
  no-three i (f ∷ g ∷ h ∷ []) c e = three i f g h c e (fits constant f) (fits constant g) (ends f g h) refl refl refl
  no-three i (f ∷ g ∷ h ∷ k ∷ fs) c e = long i f g h k fs (fits constant f) (fits constant g) (ends f g h) refl refl refl

  twice : (i : ℕ) (f g h : Bytes) (fs : List Bytes) → mem (line_of f g h) m.names ≡ true → triple bounds i ((f ∷ g ∷ h ∷ fs) ∷ ls) m ≡ refused malformed
  twice i f g h fs e = no_end i f g h fs (rw e (go (fits constant h))) (fits constant f) (fits constant g) refl refl
    where
      go : (a : Bool) → (a && false) ≡ false
      go true = refl
      go false = refl

-- ---- what it says of the whole

module _ (xs : List Triple) (ls : List Line) where
  stop : (k : ℕ) (l : Line) → ((i : ℕ) → triple bounds i (l ∷ ls) (state xs) ≡ refused malformed) → told k xs (l ∷ ls) ≡ refuses malformed
  unfolding told several
  stop zero l p = ap (λ (r : Got Triple). behind xs (outcome (next r (λ x. refuse over_bound)))) (p 0)
  stop (suc k) l p = ap (λ (r : Got Triple). behind xs (outcome (next r (λ x. several k (triple bounds 1) (triple bounds 0) >>= λ ys. return (x ∷ ys))))) (p 1)

  pub told-bad : (k : ℕ) (l : Line) → AllClean l → is_three l ≡ false → told k xs (l ∷ ls) ≡ refuses malformed
  told-bad k l c e = stop k l (λ i. no-three (state xs) ls i l c e)

  pub told-twice : (k : ℕ) (f g h : Bytes) → mem (line_of f g h) (map line_in xs) ≡ true → told k xs ((f ∷ g ∷ h ∷ []) ∷ ls) ≡ refuses malformed
  told-twice k f g h e = stop k (f ∷ g ∷ h ∷ []) (λ i. twice (state xs) ls i f g h [] e)

  -- a line that may be an entry
  module _ (f g h : Bytes) (c : AllClean (f ∷ g ∷ h ∷ [])) (e : is_three (f ∷ g ∷ h ∷ []) ≡ true) (new : mem (line_of f g h) (map line_in xs) ≡ false) where
    abbrev pub this : Triple
    this = record { subj = f; pred = g; obj = h }

    kinds : (is_kind constant f ≡ true) × (is_kind constant g ≡ true) × (is_kind constant h ≡ true)
    unfolding is_three
    kinds =
        let r = and_right (is_kind constant f) (is_kind constant g && (is_kind constant h && true)) e in
        (and_left (is_kind constant f) (is_kind constant g && (is_kind constant h && true)) e, and_left (is_kind constant g) (is_kind constant h && true) r, and_left (is_kind constant h) true (and_right (is_kind constant g) (is_kind constant h && true) r))

    first_fits : fits constant f ≡ true
    first_fits = fits-kind constant f c.0 ∙ kinds.0

    second_fits : fits constant g ≡ true
    second_fits = fits-kind constant g c.1.0 ∙ kinds.1

    third-fits : (fits constant h && not (mem (line_of f g h) (map line_in xs))) ≡ true
    third-fits = and_both (fits constant h) (not (mem (line_of f g h) (map line_in xs))) (fits-kind constant h c.1.1.0 ∙ kinds.2) (ap not new)

    pub told_over : told 0 xs ((f ∷ g ∷ h ∷ []) ∷ ls) ≡ refuses over_bound
    unfolding told several one kept too_many
    told_over = rw (first_fits, second_fits, third-fits)

    abbrev pub more : List Triple
    more = xs ++ (this ∷ [])

    counted : paired (line_of f g h) (state xs) ≡ state more
    unfolding paired
    counted = rw (length-append xs (this ∷ []), map-append line_in xs (this ∷ []), add-one)

    in_bounds : length more ≤ most_triples → within bounds (state more) ≡ true
    unfolding within
    in_bounds k =
        let i : length more ≤ 2048 = omega arith in
        let j : length (map line_in more) ≤ 1024 = let z = length-map more line_in in omega arith in
        rw (le-leb (length more) 2048 i, le-leb (length (map line_in more)) 1024 j)

    pub told-next : (k : ℕ) → length more ≤ most_triples → told (suc k) xs ((f ∷ g ∷ h ∷ []) ∷ ls) ≡ told k more ls
    unfolding told several one kept end
    told-next k b =
        rw (first_fits, second_fits, third-fits, ap (within bounds) counted ∙ in_bounds b)
        (go (several k (triple bounds 1) (triple bounds 0) ls (paired (line_of f g h) (state xs))) ∙ ap (λ (m : Tally). behind more (outcome (several k (triple bounds 1) (triple bounds 0) ls m))) counted)
      where
        go : (r : Got (List Triple)) → behind xs (outcome (next r (λ ys. return (this ∷ ys)))) ≡ behind more (outcome r)
        go (got ys [] n) = ap reads (sym (append_snoc xs this ys))
        go (got ys (l ∷ ls) n) = refl
        go (refused n) = refl
