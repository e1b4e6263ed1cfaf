-- Reading a list of pairs line by line: what a line makes of the pairs read so far. Assumes nothing.
use Prim.Native.Nat.{ℕ, zero, suc, ◌≤◌}
use mathlib.Core.Path.{◌≡◌, refl, sym, ◌∙◌, ap}
use mathlib.Core.List.{List, [], ◌∷◌, ◌++◌, append-nil}
use mathlib.Core.Bool.{Bool, true, false, ◌&&◌, true≢false}
use Rattle.text.specs.Text.{Bytes, Line}
use Rattle.text.specs.Field.{clean, is_kind, fits}
use Rattle.text.proofs.Basics.{and_left, and_right, and_both, either_way}
use Rattle.text.proofs.Texts.{AllClean}
use Rattle.algebra.specs.Query.{PairList, Pair, first_kind, second_kind, unique}
use lib.ListN.{length}
use lib.Seq.{append_snoc}
use Rattle.algebra.specs.Tally.{bounds, Tally, start, within, tally_pair}
use Rattle.algebra.specs.Reader.{malformed, over_bound, Got, got, refused, next, ◌>>=◌, return, refuse, one, kept, end, too_many, several, Outcome, reads, refuses, outcome}
use Rattle.algebra.specs.ListReading.{pair, pairs}
use Rattle.lists.specs.bridge.Pairs.{is_pair, firsts, fresh}
use Rattle.lists.proofs.Lines.{fits-kind}
use Rattle.lists.proofs.Counts.{state, counted, new-to, in_bounds}

-- what is said, behind these pairs
abbrev pub behind : List Pair → Outcome (List Pair) → Outcome (List Pair)
behind xs (reads ys) = reads (xs ++ ys)
behind xs (refuses n) = refuses n

-- what the lines say behind the pairs xs, where k more may come
unfoldable pub told : PairList → ℕ → List Pair → List Line → Outcome (List Pair)
told κ k xs ls = behind xs (outcome (several k (pair bounds κ 1) (pair bounds κ 0) ls (state κ xs)))

pub told-start : (κ : PairList) (ls : List Line) → outcome (pairs bounds κ ls start) ≡ told κ bounds.entries [] ls
unfolding told
told-start κ ls =
    whole (outcome (pairs bounds κ ls start))
    ∙ ap (λ (ns : List Bytes). behind [] (outcome (pairs bounds κ ls (record { lines = 0; wide = 0; names = ns })))) (sym (either_way (unique κ) []))
  where
    whole : (o : Outcome (List Pair)) → o ≡ behind [] o
    whole (reads ys) = refl
    whole (refuses n) = refl

pub told-end : (κ : PairList) (k : ℕ) (xs : List Pair) → told κ k xs [] ≡ reads xs
unfolding told several
told-end κ zero xs = ap reads (append-nil xs)
told-end κ (suc k) xs = ap reads (append-nil xs)

-- a first field passes: it is of its kind and, where it may not be repeated, new
abbrev starts : PairList → Tally → Bytes → Bool
starts κ m f = fits (first_kind κ) f && fresh (unique κ) f m.names

module _ (κ : PairList) (m : Tally) (ls : List Line) where
  -- the first field does not pass
  not_first : (i : ℕ) (f : Bytes) (fs : List Bytes) → starts κ m f ≡ false → pair bounds κ i ((f ∷ fs) ∷ ls) m ≡ refused malformed
  unfolding one kept fresh
  not_first i f fs p = rw p

  short : (i : ℕ) (f : Bytes) (a : Bool) → starts κ m f ≡ a → pair bounds κ i ((f ∷ []) ∷ ls) m ≡ refused malformed
  unfolding one kept fresh
  short i f true p = rw p
  short i f false p = not_first i f [] p

  not-second : (i : ℕ) (f g : Bytes) (fs : List Bytes) → starts κ m f ≡ true → fits (second_kind κ) g ≡ false → pair bounds κ i ((f ∷ g ∷ fs) ∷ ls) m ≡ refused malformed
  unfolding one kept fresh
  not-second i f g fs p q = rw (p, q)

  long : (i : ℕ) (f g h : Bytes) (fs : List Bytes) (a b : Bool) → starts κ m f ≡ a → fits (second_kind κ) g ≡ b → pair bounds κ i ((f ∷ g ∷ h ∷ fs) ∷ ls) m ≡ refused malformed
  unfolding one kept end too_many fresh
  long zero f g h fs true true p q = rw (p, q)
  long (suc i) f g h fs true true p q = rw (p, q)
  long i f g h fs true false p q = not-second i f g (h ∷ fs) p q
  long i f g h fs false b p q = not_first i f (g ∷ h ∷ fs) p

  two : (i : ℕ) (f g : Bytes) → clean f ≡ true → clean g ≡ true → (is_kind (first_kind κ) f && is_kind (second_kind κ) g) ≡ false → (a b : Bool) → starts κ m f ≡ a → fits (second_kind κ) g ≡ b → pair bounds κ i ((f ∷ g ∷ []) ∷ ls) m ≡ refused malformed
  two i f g cf cg e true true p q =
      absurd (true≢false (sym (and_both (is_kind (first_kind κ) f) (is_kind (second_kind κ) g) (sym (fits-kind (first_kind κ) f cf) ∙ and_left (fits (first_kind κ) f) (fresh (unique κ) f m.names) p) (sym (fits-kind (second_kind κ) g cg) ∙ q)) ∙ e))
  two i f g cf cg e true false p q = not-second i f g [] p q
  two i f g cf cg e false b p q = not_first i f (g ∷ []) p

  -- no line of two fields of the kinds
  no-pair : (i : ℕ) (l : Line) → AllClean l → is_pair (first_kind κ) (second_kind κ) l ≡ false → pair bounds κ i (l ∷ ls) m ≡ refused malformed
  unfolding one is_pair
  no-pair i [] c e = refl
  no-pair i (f ∷ []) c e = short i f (starts κ m f) refl
  no-pair i (f ∷ g ∷ []) c e = two i f g c.0 c.1.0 e (starts κ m f) (fits (second_kind κ) g) refl refl
  no-pair i (f ∷ g ∷ h ∷ fs) c e = long i f g h fs (starts κ m f) (fits (second_kind κ) g) refl refl

module _ (κ : PairList) (xs : List Pair) (ls : List Line) where
  -- a line that no entry can be
  stop : (k : ℕ) (l : Line) → ((i : ℕ) → pair bounds κ i (l ∷ ls) (state κ xs) ≡ refused malformed) → told κ k xs (l ∷ ls) ≡ refuses malformed
  unfolding told several
  stop zero l p = ap (λ (r : Got Pair). behind xs (outcome (next r (λ x. refuse over_bound)))) (p 0)
  stop (suc k) l p = ap (λ (r : Got Pair). behind xs (outcome (next r (λ x. several k (pair bounds κ 1) (pair bounds κ 0) >>= λ ys. return (x ∷ ys))))) (p 1)

  pub told-bad : (k : ℕ) (l : Line) → AllClean l → is_pair (first_kind κ) (second_kind κ) l ≡ false → told κ k xs (l ∷ ls) ≡ refuses malformed
  told-bad k l c e = stop k l (λ i. no-pair κ (state κ xs) ls i l c e)

  pub told-twice : (k : ℕ) (f : Bytes) (fs : List Bytes) → fresh (unique κ) f (firsts xs) ≡ false → told κ k xs ((f ∷ fs) ∷ ls) ≡ refuses malformed
  told-twice k f fs e = stop k (f ∷ fs) (λ i. not_first κ (state κ xs) ls i f fs (rw (new-to κ f xs, e) (go (fits (first_kind κ) f))))
    where
      go : (a : Bool) → (a && false) ≡ false
      go true = refl
      go false = refl

  -- a line that may be an entry
  module _ (f g : Bytes) (c : AllClean (f ∷ g ∷ [])) (e : is_pair (first_kind κ) (second_kind κ) (f ∷ g ∷ []) ≡ true) (new : fresh (unique κ) f (firsts xs) ≡ true) where
    first_fits : starts κ (state κ xs) f ≡ true
    unfolding is_pair
    first_fits = and_both (fits (first_kind κ) f) (fresh (unique κ) f (state κ xs).names) (fits-kind (first_kind κ) f c.0 ∙ and_left (is_kind (first_kind κ) f) (is_kind (second_kind κ) g) e) (new-to κ f xs ∙ new)

    second_fits : fits (second_kind κ) g ≡ true
    unfolding is_pair
    second_fits = fits-kind (second_kind κ) g c.1.0 ∙ and_right (is_kind (first_kind κ) f) (is_kind (second_kind κ) g) e

    pub told_over : told κ 0 xs ((f ∷ g ∷ []) ∷ ls) ≡ refuses over_bound
    unfolding told several one kept too_many fresh
    told_over = rw (first_fits, second_fits)

    abbrev pub more : List Pair
    more = xs ++ (record { first = f; second = g } ∷ [])

    pub told-next : (k : ℕ) → length more ≤ bounds.entries → told κ (suc k) xs ((f ∷ g ∷ []) ∷ ls) ≡ told κ k more ls
    unfolding told several one kept end fresh
    told-next k h =
        let t : tally_pair κ f (state κ xs) ≡ state κ more = counted κ xs (record { first = f; second = g }) in
        rw (first_fits, second_fits, ap (within bounds) t ∙ in_bounds κ more h)
        (go (several k (pair bounds κ 1) (pair bounds κ 0) ls (tally_pair κ f (state κ xs))) ∙ ap (λ (m : Tally). behind more (outcome (several k (pair bounds κ 1) (pair bounds κ 0) ls m))) t)
      where
        go : (r : Got (List Pair)) → behind xs (outcome (next r (λ ys. return (record { first = f; second = g } ∷ ys)))) ≡ behind more (outcome r)
        go (got ys [] n) = ap reads (sym (append_snoc xs (record { first = f; second = g }) ys))
        go (got ys (l ∷ ls) n) = refl
        go (refused n) = refl
