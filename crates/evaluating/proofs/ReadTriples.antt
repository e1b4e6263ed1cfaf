-- Triples that are read are IRIs and literals, and no triple stands twice. Assumes nothing.
use mathlib.Core.Path.{◌≡◌, refl, sym, ◌∙◌, ap, subst}
use mathlib.Core.Bool.{Bool, true, false, cond, not, ◌&&◌, false≢true}
use mathlib.Core.List.{List, [], ◌∷◌, ◌++◌}
use mathlib.Core.Option.{Option, none, some}
use Prim.Native.Nat.{ℕ, zero, suc}
use native.Mathlib.Omega.{arith}
use lib.Dec.{ltb}
use lib.ListN.{length}
use Rattle.text.specs.Text.{Bytes, Line, same, lines_of}
use Rattle.text.specs.Field.{constant, fits}
use Rattle.text.proofs.Basics.{same-eq, and_left, and_right}
use Rattle.algebra.specs.Tree.{Triple}
use Rattle.algebra.specs.Valid.{mem}
use Rattle.algebra.specs.Tally.{Limits, Tally, bounds, start, paired, within}
use Rattle.algebra.specs.Reader.{over_bound, Got, got, refused, Reader, next, reads, refuses, outcome, one, or_refuse, kept, end, several, read_text}
use Rattle.scoping.proofs.Basics.{clash, not-true, mem-here, mem-right}
use Rattle.counting.proofs.Every.{Every, done, more, every-imp}
use Rattle.counting.proofs.Only.{not_left}
use Rattle.evaluating.specs.Triples.{most_triples, line_of, last_field, triple, read_triples}
use Rattle.evaluating.proofs.Sorted.{Different, dnil, dcons}
use Rattle.evaluating.proofs.BgpLine.{same_triple}

-- ---- what holds of a value that is read

Post : {A : Type 0} → (A → Tally → Type 0) → Got A → Type 0
Post Q (got a s m) = Q a m
Post Q (refused n) = Unit {0}

post-next : {A B : Type 0} (Q : A → Tally → Type 0) (R : B → Tally → Type 0) (x : Got A) (k : A → Reader B) → Post Q x → ((a : A) (s : List Line) (m : Tally) → Q a m → Post R (k a s m)) → Post R (next x k)
unfolding Post
post-next Q R (got a s m) k q h = h a s m q
post-next Q R (refused n) k q h = tt

post-or : {A : Type 0} (Q : A → Tally → Type 0) (o : Option A) (s : List Line) (m : Tally) → ((a : A) → o ≡ some a → Q a m) → Post Q (or_refuse o s m)
unfolding Post
post-or Q none s m h = tt
post-or Q (some a) s m h = h a refl

post-one : {A : Type 0} (Q : A → Tally → Type 0) (t : Bytes → Option A) (ls : List Line) (m : Tally) → ((f : Bytes) (a : A) → t f ≡ some a → Q a m) → Post Q (one t ls m)
unfolding Post one
post-one Q t [] m h = tt
post-one Q t ([] ∷ ls) m h = tt
post-one Q t ((f ∷ fs) ∷ ls) m h = post-or Q (t f) (fs ∷ ls) m (h f)

post-end : (Q : Tally → Type 0) (β : Limits) (c : Tally → Tally) (ls : List Line) (m : Tally) → Q (c m) → Post (λ (u : Unit {0}) n. Q n) (end β c ls m)
unfolding Post end
post-end Q β c [] m q = tt
post-end Q β c ([] ∷ ls) m q = go (within β (c m))
  where
    go : (b : Bool) → Post (λ (u : Unit {0}) n. Q n) (cond b (got tt ls (c m)) (refused over_bound))
    go true = q
    go false = tt
post-end Q β c ((f ∷ fs) ∷ ls) m q = tt

kept-is : {A : Type 0} (b : Bool) (a c : A) → kept b a ≡ some c → (b ≡ true) × (a ≡ c)
unfolding kept
kept-is true a c e = (refl, let h : some a ≡ some c = e in let i : a ≡ c = cc in i)
kept-is false a c e = let z : ◌≡◌ {A = ℕ} 0 1 = cc in absurd (omega arith)

-- ---- a line

pub record Constants (d : Triple) : Type 0 where
  pub subj_fits : fits constant d.subj ≡ true
  pub pred_fits : fits constant d.pred ≡ true
  pub obj_fits : fits constant d.obj ≡ true

abbrev line_in : Triple → Bytes
line_in d = line_of d.subj d.pred d.obj

-- a triple whose line isn't there yet, and is there from now on
record Fresh (seen : List Bytes) (d : Triple) (m : Tally) : Type 0 where
  constants : Constants d
  fresh : mem (line_in d) seen ≡ false
  noted : m.names ≡ seen ++ (line_in d ∷ [])

field_fits : (f a : Bytes) → kept (fits constant f) f ≡ some a → fits constant a ≡ true
field_fits f a e = let k = kept-is (fits constant f) f a e in subst (λ x. fits constant x ≡ true) k.1 k.0

not-false : (b : Bool) → not b ≡ true → b ≡ false
not-false true e = absurd (false≢true e)
not-false false e = refl

post-triple : (β : Limits) (ls : List Line) (m : Tally) → Post (Fresh m.names) (triple β 1 ls m)
unfolding Post paired
post-triple β ls m =
    post-next (λ s n. (fits constant s ≡ true) × (n.names ≡ m.names)) (Fresh m.names) (one (λ f. kept (fits constant f) f) ls m) _
    (post-one _ (λ f. kept (fits constant f) f) ls m (λ f a e. (field_fits f a e, refl)))
    (λ s ls₁ m₁ hs.
    post-next (λ p n. (fits constant p ≡ true) × (n.names ≡ m.names)) (Fresh m.names) (one (λ f. kept (fits constant f) f) ls₁ m₁) _
    (post-one _ (λ f. kept (fits constant f) f) ls₁ m₁ (λ f a e. (field_fits f a e, hs.1)))
    (λ p ls₂ m₂ hp.
    post-next (λ o n. (fits constant o ≡ true) × (mem (line_of s p o) m.names ≡ false) × (n.names ≡ m.names)) (Fresh m.names) (last_field s p ls₂ m₂) _
    (post-one _ (λ o. kept (fits constant o && not (mem (line_of s p o) m₂.names)) o) ls₂ m₂ (λ f a e.
    let k = kept-is (fits constant f && not (mem (line_of s p f) m₂.names)) f a e in
    let b : (fits constant a && not (mem (line_of s p a) m₂.names)) ≡ true = subst (λ x. (fits constant x && not (mem (line_of s p x) m₂.names)) ≡ true) k.1 k.0 in
    (and_left (fits constant a) _ b, ap (mem (line_of s p a)) (sym hp.1) ∙ not-false (mem (line_of s p a) m₂.names) (and_right (fits constant a) _ b), hp.1)))
    (λ o ls₃ m₃ ho.
    post-next (λ (u : Unit {0}) n. n.names ≡ m.names ++ (line_of s p o ∷ [])) (Fresh m.names) (end β (paired (line_of s p o)) ls₃ m₃) _
    (post-end (λ n. n.names ≡ m.names ++ (line_of s p o ∷ [])) β (paired (line_of s p o)) ls₃ m₃ (ap (λ l. l ++ (line_of s p o ∷ [])) ho.2))
    (λ u ls₄ m₄ hn. record { constants = record { subj_fits = hs.0; pred_fits = hp.0; obj_fits = ho.0 }; fresh = ho.1; noted = hn }))))

-- ---- all lines

data Fine : List Bytes → List Triple → Type 0 where
  fnil : {seen : List Bytes} → Fine seen []
  fcons : {seen : List Bytes} {d : Triple} {ds : List Triple} → Constants d → mem (line_in d) seen ≡ false → Fine (seen ++ (line_in d ∷ [])) ds → Fine seen (d ∷ ds)

post-stop : {A B : Type 0} (R : B → Tally → Type 0) (x : Got A) → Post R (next x (λ a s m. refused over_bound))
unfolding Post
post-stop R (got a s m) = tt
post-stop R (refused n) = tt

post-several : (β : Limits) (n : ℕ) (ls : List Line) (m : Tally) → Post (λ ds k. Fine m.names ds) (several n (triple β 1) (triple β 0) ls m)
unfolding Post several
post-several β zero [] m = fnil
post-several β zero (l ∷ ls) m = post-stop (λ ds k. Fine m.names ds) (triple β 0 (l ∷ ls) m)
post-several β (suc n) [] m = fnil
post-several β (suc n) (l ∷ ls) m =
    post-next (Fresh m.names) (λ ds k. Fine m.names ds) (triple β 1 (l ∷ ls) m) _ (post-triple β (l ∷ ls) m)
    (λ d ls₁ m₁ h. post-next (λ ds k. Fine m₁.names ds) (λ ds k. Fine m.names ds) (several n (triple β 1) (triple β 0) ls₁ m₁) _ (post-several β n ls₁ m₁)
    (λ ds ls₂ m₂ f. fcons h.constants h.fresh (subst (λ l. Fine l ds) h.noted f)))

outcome-is : (Q : List Triple → Type 0) (x : Got (List Triple)) (g : List Triple) → outcome x ≡ reads g → Post (λ ds k. Q ds) x → Q g
unfolding Post
outcome-is Q (got a [] m) g e q = let i : a ≡ g = cc in subst Q i q
outcome-is Q (got a (l ∷ ls) m) g e q = let z : ◌≡◌ {A = ℕ} 0 1 = cc in absurd (omega arith)
outcome-is Q (refused n) g e q = let z : ◌≡◌ {A = ℕ} 0 1 = cc in absurd (omega arith)

read-fine : (s : Bytes) (g : List Triple) → read_triples s ≡ reads g → Fine [] g
unfolding read_triples read_text
read-fine s g e = go (ltb bounds.bytes (length s)) e
  where
    go : (b : Bool) → cond b (refuses over_bound) (outcome (several most_triples (triple bounds 1) (triple bounds 0) (lines_of s) start)) ≡ reads g → Fine [] g
    go true e = let z : ◌≡◌ {A = ℕ} 0 1 = cc in absurd (omega arith)
    go false e = outcome-is (Fine []) (several most_triples (triple bounds 1) (triple bounds 0) (lines_of s) start) g e (post-several bounds most_triples (lines_of s) start)

-- ---- what follows

later : {seen : List Bytes} {ds : List Triple} → Fine seen ds → Every (λ e. mem (line_in e) seen ≡ false) ds
later fnil = done
later (fcons {seen = seen} {d = d} c n f) = more n (every-imp (λ e h. not_left (line_in e) seen (line_in d ∷ []) h) (later f))

same_line : (d e : Triple) → same_triple d e ≡ true → line_in e ≡ line_in d
unfolding same_triple
same_line d e h =
    let a : d.subj ≡ e.subj = same-eq d.subj e.subj (and_left (same d.subj e.subj) _ h) in
    let k : (same d.pred e.pred && same d.obj e.obj) ≡ true = and_right (same d.subj e.subj) _ h in
    let b : d.pred ≡ e.pred = same-eq d.pred e.pred (and_left (same d.pred e.pred) _ k) in
    let c : d.obj ≡ e.obj = same-eq d.obj e.obj (and_right (same d.pred e.pred) _ k) in
    sym (λ i. line_of (a i) (b i) (c i))

fine-different : {seen : List Bytes} {ds : List Triple} → Fine seen ds → Different same_triple ds
fine-different fnil = dnil
fine-different (fcons {seen = seen} {d = d} c n f) = dcons (every-imp (λ e h. not-true (same_triple d e) (λ i. clash (subst (λ l. mem l (seen ++ (line_in d ∷ [])) ≡ true) (sym (same_line d e i)) (mem-right (line_in d) seen (line_in d ∷ []) (mem-here (line_in d) []))) h)) (later f)) (fine-different f)

fine-constants : {seen : List Bytes} {ds : List Triple} → Fine seen ds → Every Constants ds
fine-constants fnil = done
fine-constants (fcons c n f) = more c (fine-constants f)

-- no triple twice
pub triples-different : (s : Bytes) (g : List Triple) → read_triples s ≡ reads g → Different same_triple g
triples-different s g e = fine-different (read-fine s g e)

-- IRIs and literals
pub triples-constant : (s : Bytes) (g : List Triple) → read_triples s ≡ reads g → Every Constants g
triples-constant s g e = fine-constants (read-fine s g e)
