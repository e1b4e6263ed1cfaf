-- An IRI whose start is replaced is an IRI: its > stays, since no start has one. Assumes nothing.
use Prim.Native.Nat.{ℕ, zero, suc, ◌+◌, ◌-◌, ◌≤◌}
use mathlib.Core.Path.{◌≡◌, refl, sym, subst, ◌∙◌}
use mathlib.Core.Bool.{Bool, true, false, cond, not, ◌&&◌, false≢true}
use mathlib.Core.List.{List, [], ◌∷◌, ◌++◌}
use mathlib.Core.Option.{some}
use native.Mathlib.Omega.{arith}
use lib.ListN.{length, get_or, drop, length-drop}
use lib.Dec.{leb, eqb}
use borrow.Author.Tests.{le-leb, eqb-true, eqb-false, not-true}
use Rattle.text.specs.Text.{Bytes}
use Rattle.text.specs.Field.{clean, is_iri}
use Rattle.text.proofs.Basics.{and_left, and_right, and_both}
use Rattle.scoping.specs.Sets.{all}
use Rattle.converting.specs.Starts.{Start, is_start, begins}
use Rattle.converting.specs.Tables.{ValidStarts}
use Rattle.converting.specs.Namespaces.{covers, covering_line, start_replaced, converted_iri}
use Rattle.converting.proofs.Reading.{start-clean}
use Rattle.converting.proofs.Valid.{Iri, Keeps}

-- ---- the last byte

-- the last byte is >
abbrev ends : Bytes → Bool
ends [] = false
ends (x ∷ []) = eqb x 62
ends (x ∷ y ∷ ys) = ends (y ∷ ys)

last-is : (x : ℕ) (xs : Bytes) → eqb (get_or (x ∷ xs) (length xs) 0) 62 ≡ ends (x ∷ xs)
last-is x [] = refl
last-is x (y ∷ ys) = last-is y ys

-- an IRI is < and bytes that end in >
iri-body : (b : Bytes) → is_iri (60 ∷ b) ≡ ends b
unfolding is_iri
iri-body [] = refl
iri-body (x ∷ xs) =
    let l : leb 2 (suc (suc (length xs))) ≡ true = le-leb 2 (suc (suc (length xs))) (omega arith) in
    let n : suc (suc (length xs)) - 1 ≡ suc (length xs) = omega arith in
    rw (l, n) (last-is x xs)

ends-behind : (a b : Bytes) → ends b ≡ true → ends (a ++ b) ≡ true
ends-behind [] b h = h
ends-behind (x ∷ []) [] h = absurd (false≢true h)
ends-behind (x ∷ []) (y ∷ ys) h = h
ends-behind (x ∷ y ∷ ys) b h = ends-behind (y ∷ ys) b h

-- what stands behind a beginning that has no > still ends in >
ends-dropped : (a b : Bytes) → begins a b ≡ true → all (λ c. not (eqb c 62)) a ≡ true → ends b ≡ true → ends (drop (length a) b) ≡ true
unfolding begins all
ends-dropped [] b h n e = e
ends-dropped (x ∷ xs) [] h n e = absurd (false≢true e)
ends-dropped (x ∷ xs) (y ∷ []) h n e =
    let i = eqb-true x y (and_left (eqb x y) (begins xs []) h) in
    let j = not-true (eqb x 62) (and_left (not (eqb x 62)) (all (λ c. not (eqb c 62)) xs) n) in
    absurd (eqb-false x 62 j (i ∙ eqb-true y 62 e))
ends-dropped (x ∷ xs) (y ∷ z ∷ zs) h n e = ends-dropped xs (z ∷ zs) (and_right (eqb x y) (begins xs (z ∷ zs)) h) (and_right (not (eqb x 62)) (all (λ c. not (eqb c 62)) xs) n) e

-- ---- clean

clean-append : (a b : Bytes) → clean a ≡ true → clean b ≡ true → clean (a ++ b) ≡ true
unfolding clean
clean-append [] b h k = k
clean-append (x ∷ a) b h k =
    let r = and_right (not (eqb x 9)) (not (eqb x 10) && clean a) h in
    and_both (not (eqb x 9)) (not (eqb x 10) && clean (a ++ b)) (and_left (not (eqb x 9)) (not (eqb x 10) && clean a) h)
    (and_both (not (eqb x 10)) (clean (a ++ b)) (and_left (not (eqb x 10)) (clean a) r) (clean-append a b (and_right (not (eqb x 10)) (clean a) r) k))

clean_drop : (n : ℕ) (a : Bytes) → clean a ≡ true → clean (drop n a) ≡ true
unfolding clean
clean_drop zero a h = h
clean_drop (suc n) [] h = refl
clean_drop (suc n) (x ∷ xs) h = clean_drop n xs (and_right (not (eqb x 10)) (clean xs) (and_right (not (eqb x 9)) (not (eqb x 10) && clean xs) h))

-- ---- the IRI

no_end : (f : Bytes) → is_start f ≡ true → all (λ b. not (eqb b 62)) f ≡ true
unfolding is_start
no_end f h = and_right (clean f) (all (λ b. not (eqb b 62)) f) (and_right (leb (length f) 128) (clean f && all (λ b. not (eqb b 62)) f) (and_right (leb 1 (length f)) (leb (length f) 128 && (clean f && all (λ b. not (eqb b 62)) f)) h))

first-is : (x : ℕ) (b : Bytes) → is_iri (x ∷ b) ≡ true → x ≡ 60
unfolding is_iri
first-is x b h = eqb-true x 60 (and_left (eqb x 60) (eqb (get_or (x ∷ b) (suc (length b) - 1) 0) 62) (and_right (leb 2 (suc (length b))) (eqb x 60 && eqb (get_or (x ∷ b) (suc (length b) - 1) 0) 62) h))

replaced-iri : (s : Start) (x : Bytes) → is_start s.old ≡ true → is_start s.new ≡ true → covers x s ≡ true → Iri x → Iri (start_replaced (some s) x)
unfolding covers is_iri clean
replaced-iri s [] o n c i = absurd (false≢true i.1)
replaced-iri s (y ∷ b) o n c i =
    let e = first-is y b i.1 in
    let k : ends b ≡ true = sym (iri-body b) ∙ subst (λ (z : ℕ). is_iri (z ∷ b) ≡ true) e i.1 in
    let d = drop (length s.old) b in
    let q : clean b ≡ true = clean_drop 1 (y ∷ b) i.0 in (
      clean-append s.new d (start-clean s.new n) (clean_drop (length s.old) b q),
      iri-body (s.new ++ d) ∙ ends-behind s.new d (ends-dropped s.old b c (no_end s.old o) k),
    )

pub converted-iri : (ss : List Start) → ValidStarts ss → Keeps (converted_iri ss)
unfolding converted_iri covering_line ValidStarts
converted-iri [] v x i = i
converted-iri (s ∷ ss) v x i = go (covers x s) refl (converted-iri ss v.2 x i)
  where
    go : (b : Bool) → covers x s ≡ b → Iri (start_replaced (covering_line ss x) x) → Iri (start_replaced (cond b (some s) (covering_line ss x)) x)
    go true e r = replaced-iri s x v.0 v.1 e i
    go false e r = r

-- a covered IRI has its <, its old start and its >
pub covered-long : (s : Start) (x : Bytes) → is_start s.old ≡ true → covers x s ≡ true → is_iri x ≡ true → length s.old + 2 ≤ length x
unfolding covers is_iri
covered-long s [] o c i = absurd (false≢true i)
covered-long s (y ∷ b) o c i =
    let e = first-is y b i in
    let k : ends b ≡ true = sym (iri-body b) ∙ subst (λ (z : ℕ). is_iri (z ∷ b) ≡ true) e i in
    let d = ends-dropped s.old b c (no_end s.old o) k in
    let l = some_byte (drop (length s.old) b) d in
    omega (arith, length-drop (length s.old) b)
  where
    some_byte : (a : Bytes) → ends a ≡ true → 1 ≤ length a
    some_byte [] h = absurd (false≢true h)
    some_byte (z ∷ a) h = omega arith
