-- The order of a table: neighbours are enough to test, at most one line covers an IRI, and a search finds it. Assumes nothing.
use Prim.Native.Nat.{ℕ, zero, suc, ◌≤◌, ◌<◌}
use mathlib.Core.Path.{◌≡◌, refl, sym, ap, ◌∙◌}
use mathlib.Core.Bool.{Bool, true, false, cond, not, ◌&&◌, ◌||◌, true≢false, false≢true}
use mathlib.Core.List.{List, [], ◌∷◌}
use mathlib.Core.Option.{none, some}
use native.Mathlib.Omega.{arith}
use lib.ListN.{length, get_or, drop}
use lib.Dec.{ltb, eqb}
use borrow.Author.Tests.{ltb-true, ltb-false, eqb-true, eqb-false, lt-ltb, le-ltb, eq-eqb, ne_eqb, not-true}
use Rattle.text.specs.Text.{Bytes}
use Rattle.text.proofs.Basics.{and_left, and_right, and_both}
use Rattle.scoping.specs.Sets.{all, keep}
use Rattle.converting.specs.Starts.{Start, begins, overlap, less, is_sorted, are_apart, in_order, old_starts}
use Rattle.converting.specs.Namespaces.{covers, covering_line}
use Rattle.converting.specs.bridge.Order.{before, neighbours, rank, line_if, last_of, searched}

-- ---- two bytes

data Order (x y : ℕ) : Type 0 where
  under : x < y → Order x y
  level : x ≡ y → Order x y
  over : y < x → Order x y

order : (x y : ℕ) → Order x y
order x y = go (ltb x y) refl (eqb x y) refl
  where
    go : (a : Bool) → ltb x y ≡ a → (b : Bool) → eqb x y ≡ b → Order x y
    go true e b f = under (ltb-true x y e)
    go false e true f = level (eqb-true x y f)
    go false e false f = over (let h = ltb-false x y e in let n = eqb-false x y f in omega arith)

both_ways : (a b : Bool) → (a ≡ true → b ≡ true) → (b ≡ true → a ≡ true) → a ≡ b
both_ways true b f g = sym (f refl)
both_ways false true f g = g refl
both_ways false false f g = refl

-- ---- neighbours

-- strictly before, with no overlap
pub before-is : (a b : Bytes) → before a b ≡ (not (less b a) && not (overlap a b))
unfolding before less begins
before-is [] [] = refl
before-is [] (y ∷ ys) = refl
before-is (x ∷ xs) [] = refl
before-is (x ∷ xs) (y ∷ ys) = go (order x y) (before-is xs ys)
  where
    go : Order x y → before xs ys ≡ (not (less ys xs) && not (begins xs ys || begins ys xs))
        → (ltb x y || (eqb x y && before xs ys)) ≡ (not (ltb y x || (eqb y x && less ys xs)) && not ((eqb x y && begins xs ys) || (eqb y x && begins ys xs)))
    go (under h) i = rw (lt-ltb x y h, le-ltb y x (omega arith), ne_eqb x y (λ e. omega arith), ne_eqb y x (λ e. omega arith)) refl
    go (level h) i = rw (le-ltb x y (omega arith), le-ltb y x (omega arith), eq-eqb x y h, eq-eqb y x (sym h)) i
    go (over h) i = rw (le-ltb x y (omega arith), lt-ltb y x h, ne_eqb x y (λ e. omega arith)) refl

pub before-trans : (a b c : Bytes) → before a b ≡ true → before b c ≡ true → before a c ≡ true
unfolding before
before-trans [] b c h k = absurd (false≢true h)
before-trans (x ∷ xs) [] c h k = absurd (false≢true h)
before-trans (x ∷ xs) (y ∷ ys) [] h k = absurd (false≢true k)
before-trans (x ∷ xs) (y ∷ ys) (z ∷ zs) h k = go (order x y) (order y z) h k (before-trans xs ys zs)
  where
    go : Order x y → Order y z → (ltb x y || (eqb x y && before xs ys)) ≡ true → (ltb y z || (eqb y z && before ys zs)) ≡ true
        → (before xs ys ≡ true → before ys zs ≡ true → before xs zs ≡ true) → (ltb x z || (eqb x z && before xs zs)) ≡ true
    go (over p) q h k i = absurd (false≢true (rw (le-ltb x y (omega arith), ne_eqb x y (λ e. omega arith)) at h))
    go (under p) (over q) h k i = absurd (false≢true (rw (le-ltb y z (omega arith), ne_eqb y z (λ e. omega arith)) at k))
    go (level p) (over q) h k i = absurd (false≢true (rw (le-ltb y z (omega arith), ne_eqb y z (λ e. omega arith)) at k))
    go (under p) (under q) h k i = rw (lt-ltb x z (omega arith)) refl
    go (under p) (level q) h k i = rw (lt-ltb x z (omega arith)) refl
    go (level p) (under q) h k i = rw (lt-ltb x z (omega arith)) refl
    go (level p) (level q) h k i =
        rw (le-ltb x z (omega arith), eq-eqb x z (p ∙ q))
        (i (rw (le-ltb x y (omega arith), eq-eqb x y p) at h) (rw (le-ltb y z (omega arith), eq-eqb y z q) at k))

-- a start stands before all that follow
pub all-before : (a : Bytes) (bs : List Bytes) → neighbours (a ∷ bs) ≡ true → all (before a) bs ≡ true
unfolding neighbours all
all-before a [] h = refl
all-before a (b ∷ bs) h =
    let p = and_left (before a b) (neighbours (b ∷ bs)) h in
    let q = and_right (before a b) (neighbours (b ∷ bs)) h in
    and_both (before a b) (all (before a) bs) p (further a b bs p (all-before b bs q))
  where
    further : (a b : Bytes) (cs : List Bytes) → before a b ≡ true → all (before b) cs ≡ true → all (before a) cs ≡ true
    further a b [] p q = refl
    further a b (c ∷ cs) p q = and_both (before a c) (all (before a) cs) (before-trans a b c p (and_left (before b c) (all (before b) cs) q)) (further a b cs p (and_right (before b c) (all (before b) cs) q))

rest-ordered : (a : Bytes) (bs : List Bytes) → neighbours (a ∷ bs) ≡ true → neighbours bs ≡ true
unfolding neighbours
rest-ordered a [] h = refl
rest-ordered a (b ∷ bs) h = and_right (before a b) (neighbours (b ∷ bs)) h

all_apart : (a : Bytes) (bs : List Bytes) → all (before a) bs ≡ true → all (λ b. not (overlap a b)) bs ≡ true
unfolding all
all_apart a [] h = refl
all_apart a (b ∷ bs) h =
    and_both (not (overlap a b)) (all (λ b. not (overlap a b)) bs)
    (and_right (not (less b a)) (not (overlap a b)) (sym (before-is a b) ∙ and_left (before a b) (all (before a) bs) h))
    (all_apart a bs (and_right (before a b) (all (before a) bs) h))

neighbours-apart : (bs : List Bytes) → neighbours bs ≡ true → are_apart bs ≡ true
unfolding are_apart
neighbours-apart [] h = refl
neighbours-apart (a ∷ bs) h = and_both (all (λ b. not (overlap a b)) bs) (are_apart bs) (all_apart a bs (all-before a bs h)) (neighbours-apart bs (rest-ordered a bs h))

neighbours-sorted : (bs : List Bytes) → neighbours bs ≡ true → is_sorted bs ≡ true
unfolding is_sorted neighbours
neighbours-sorted [] h = refl
neighbours-sorted (a ∷ []) h = refl
neighbours-sorted (a ∷ b ∷ bs) h =
    and_both (not (less b a)) (is_sorted (b ∷ bs))
    (and_left (not (less b a)) (not (overlap a b)) (sym (before-is a b) ∙ and_left (before a b) (neighbours (b ∷ bs)) h))
    (neighbours-sorted (b ∷ bs) (and_right (before a b) (neighbours (b ∷ bs)) h))

ordered-neighbours : (bs : List Bytes) → is_sorted bs ≡ true → are_apart bs ≡ true → neighbours bs ≡ true
unfolding is_sorted neighbours are_apart all
ordered-neighbours [] s p = refl
ordered-neighbours (a ∷ []) s p = refl
ordered-neighbours (a ∷ b ∷ bs) s p =
    and_both (before a b) (neighbours (b ∷ bs))
    (before-is a b ∙ and_both (not (less b a)) (not (overlap a b)) (and_left (not (less b a)) (is_sorted (b ∷ bs)) s) (and_left (not (overlap a b)) (all (λ c. not (overlap a c)) bs) (and_left (not (overlap a b) && all (λ c. not (overlap a c)) bs) (are_apart (b ∷ bs)) p)))
    (ordered-neighbours (b ∷ bs) (and_right (not (less b a)) (is_sorted (b ∷ bs)) s) (and_right (not (overlap a b) && all (λ c. not (overlap a c)) bs) (are_apart (b ∷ bs)) p))

-- no line is unsorted and no two overlap exactly if each stands before the next one without overlap: one pass
pub neighbours-enough : (bs : List Bytes) → in_order bs ≡ neighbours bs
unfolding in_order
neighbours-enough bs =
    both_ways (is_sorted bs && are_apart bs) (neighbours bs)
    (λ h. ordered-neighbours bs (and_left (is_sorted bs) (are_apart bs) h) (and_right (is_sorted bs) (are_apart bs) h))
    (λ h. and_both (is_sorted bs) (are_apart bs) (neighbours-sorted bs h) (neighbours-apart bs h))

-- ---- an IRI's bytes among the starts

-- what x begins with is not above x
pub begins-not-above : (a x : Bytes) → begins a x ≡ true → less x a ≡ false
unfolding begins less
begins-not-above [] [] h = refl
begins-not-above [] (y ∷ ys) h = refl
begins-not-above (p ∷ ps) [] h = absurd (false≢true h)
begins-not-above (p ∷ ps) (y ∷ ys) h =
    let e = eqb-true p y (and_left (eqb p y) (begins ps ys) h) in
    rw (le-ltb y p (omega arith), eq-eqb y p (sym e)) (begins-not-above ps ys (and_right (eqb p y) (begins ps ys) h))

-- the starts behind one that x begins with are above x
pub begins-then-above : (a b x : Bytes) → begins a x ≡ true → before a b ≡ true → less x b ≡ true
unfolding begins less before
begins-then-above [] b x h k = absurd (false≢true k)
begins-then-above (p ∷ ps) [] x h k = absurd (false≢true k)
begins-then-above (p ∷ ps) (q ∷ qs) [] h k = absurd (false≢true h)
begins-then-above (p ∷ ps) (q ∷ qs) (y ∷ ys) h k = go (order p q) k (begins-then-above ps qs ys (and_right (eqb p y) (begins ps ys) h)) (eqb-true p y (and_left (eqb p y) (begins ps ys) h))
  where
    go : Order p q → (ltb p q || (eqb p q && before ps qs)) ≡ true → (before ps qs ≡ true → less ys qs ≡ true) → p ≡ y → (ltb y q || (eqb y q && less ys qs)) ≡ true
    go (under o) k i e = rw (lt-ltb y q (omega arith)) refl
    go (level o) k i e = rw (le-ltb y q (omega arith), eq-eqb y q (sym e ∙ o)) (i (rw (le-ltb p q (omega arith), eq-eqb p q o) at k))
    go (over o) k i e = absurd (false≢true (rw (le-ltb p q (omega arith), ne_eqb p q (λ e. omega arith)) at k))

-- and so are those behind one that is above x
pub above-then-above : (a b x : Bytes) → less x a ≡ true → before a b ≡ true → less x b ≡ true
unfolding less before
above-then-above [] b x h k = absurd (false≢true k)
above-then-above (p ∷ ps) [] x h k = absurd (false≢true k)
above-then-above (p ∷ ps) (q ∷ qs) [] h k = refl
above-then-above (p ∷ ps) (q ∷ qs) (y ∷ ys) h k = go (order y p) (order p q) h k (above-then-above ps qs ys)
  where
    go : Order y p → Order p q → (ltb y p || (eqb y p && less ys ps)) ≡ true → (ltb p q || (eqb p q && before ps qs)) ≡ true → (less ys ps ≡ true → before ps qs ≡ true → less ys qs ≡ true) → (ltb y q || (eqb y q && less ys qs)) ≡ true
    go (over o) (under r) h k i = absurd (false≢true (rw (le-ltb y p (omega arith), ne_eqb y p (λ e. omega arith)) at h))
    go (over o) (level r) h k i = absurd (false≢true (rw (le-ltb y p (omega arith), ne_eqb y p (λ e. omega arith)) at h))
    go (over o) (over r) h k i = absurd (false≢true (rw (le-ltb y p (omega arith), ne_eqb y p (λ e. omega arith)) at h))
    go (under o) (over r) h k i = absurd (false≢true (rw (le-ltb p q (omega arith), ne_eqb p q (λ e. omega arith)) at k))
    go (level o) (over r) h k i = absurd (false≢true (rw (le-ltb p q (omega arith), ne_eqb p q (λ e. omega arith)) at k))
    go (under o) (under r) h k i = rw (lt-ltb y q (omega arith)) refl
    go (under o) (level r) h k i = rw (lt-ltb y q (omega arith)) refl
    go (level o) (under r) h k i = rw (lt-ltb y q (omega arith)) refl
    go (level o) (level r) h k i =
        rw (le-ltb y q (omega arith), eq-eqb y q (o ∙ r))
        (i (rw (le-ltb y p (omega arith), eq-eqb y p o) at h) (rw (le-ltb p q (omega arith), eq-eqb p q r) at k))

-- ---- the search

not_covered : (a x : Bytes) → less x a ≡ true → begins a x ≡ false
not_covered a x h = go (begins a x) refl
  where
    go : (b : Bool) → begins a x ≡ b → b ≡ false
    go true e = absurd (true≢false (sym h ∙ begins-not-above a x e))
    go false e = refl

-- a binary search may split anywhere: below the rank no start is above x, and from there on each is
pub rank_below : (x : Bytes) (bs : List Bytes) (i : ℕ) → i < rank x bs → less x (get_or bs i []) ≡ false
unfolding rank
rank_below x [] i h = absurd (omega arith)
rank_below x (b ∷ bs) i h = go (less x b) refl i h (rank_below x bs)
  where
    go : (t : Bool) → less x b ≡ t → (i : ℕ) → i < cond t 0 (suc (rank x bs)) → ((j : ℕ) → j < rank x bs → less x (get_or bs j []) ≡ false) → less x (get_or (b ∷ bs) i []) ≡ false
    go true e i h r = absurd (omega arith)
    go false e zero h r = e
    go false e (suc i) h r = r i (omega arith)

all_above : (a x : Bytes) (bs : List Bytes) → less x a ≡ true → all (before a) bs ≡ true → (i : ℕ) → i < length bs → less x (get_or bs i []) ≡ true
unfolding all
all_above a x [] h k i l = absurd (omega arith)
all_above a x (b ∷ bs) h k zero l = above-then-above a b x h (and_left (before a b) (all (before a) bs) k)
all_above a x (b ∷ bs) h k (suc i) l = all_above a x bs h (and_right (before a b) (all (before a) bs) k) i (omega arith)

pub rank-above : (x : Bytes) (bs : List Bytes) → neighbours bs ≡ true → (i : ℕ) → rank x bs ≤ i → i < length bs → less x (get_or bs i []) ≡ true
unfolding rank
rank-above x [] n i h l = absurd (omega arith)
rank-above x (b ∷ bs) n i h l = go (less x b) refl i h l (rank-above x bs (rest-ordered b bs n))
  where
    go : (t : Bool) → less x b ≡ t → (i : ℕ) → cond t 0 (suc (rank x bs)) ≤ i → i < suc (length bs) → ((j : ℕ) → rank x bs ≤ j → j < length bs → less x (get_or bs j []) ≡ true) → less x (get_or (b ∷ bs) i []) ≡ true
    go true e zero h l r = e
    go true e (suc i) h l r = all_above b x bs e (all-before b bs n) i (omega arith)
    go false e zero h l r = absurd (omega arith)
    go false e (suc i) h l r = r i (omega arith) (omega arith)

none-covers : (x : Bytes) (a : Bytes) (ss : List Start) → less (drop 1 x) a ≡ true → all (before a) (old_starts ss) ≡ true → covering_line ss x ≡ none
unfolding all covering_line covers
none-covers x a [] h k = refl
none-covers x a (s ∷ ss) h k =
    let b = s.old in
    let n = not_covered b (drop 1 x) (above-then-above a b (drop 1 x) h (and_left (before a b) (all (before a) (old_starts ss)) k)) in
    rw n (none-covers x a ss h (and_right (before a b) (all (before a) (old_starts ss)) k))

no-rank : (x a : Bytes) (bs : List Bytes) → begins a x ≡ true → all (before a) bs ≡ true → rank x bs ≡ 0
unfolding rank all
no-rank x a [] h k = refl
no-rank x a (b ∷ bs) h k = rw (begins-then-above a b x h (and_left (before a b) (all (before a) bs) k)) refl

-- the line that covers an IRI, if there is one, is the last that is passed
pub covering-searched : (ss : List Start) (x : Bytes) → neighbours (old_starts ss) ≡ true → covering_line ss x ≡ searched ss x
unfolding searched covering_line covers rank line_if
covering-searched [] x n = refl
covering-searched (s ∷ ss) x n =
    go (less (drop 1 x) s.old) refl (begins s.old (drop 1 x)) refl (rank (drop 1 x) (old_starts ss)) refl (covering-searched ss x (rest-ordered s.old (old_starts ss) n))
  where
    go : (t : Bool) → less (drop 1 x) s.old ≡ t → (c : Bool) → begins s.old (drop 1 x) ≡ c → (r : ℕ) → rank (drop 1 x) (old_starts ss) ≡ r
        → covering_line ss x ≡ last_of x ss (rank (drop 1 x) (old_starts ss)) → cond c (some s) (covering_line ss x) ≡ last_of x (s ∷ ss) (cond t 0 (suc r))
    go true e true f r q i = absurd (true≢false (sym e ∙ begins-not-above s.old (drop 1 x) f))
    go true e false f r q i = none-covers x s.old ss e (all-before s.old (old_starts ss) n)
    go false e true f zero q i = rw f refl
    go false e true f (suc k) q i = absurd (let z = no-rank (drop 1 x) s.old (old_starts ss) f (all-before s.old (old_starts ss) n) in omega arith)
    go false e false f zero q i = i ∙ rw (q, f) refl
    go false e false f (suc k) q i = i ∙ rw q refl

-- ---- at most one line

begin-one : (a b x : Bytes) → begins a x ≡ true → begins b x ≡ true → overlap a b ≡ true
unfolding begins
begin-one [] b x h k = refl
begin-one (p ∷ ps) [] x h k = refl
begin-one (p ∷ ps) (q ∷ qs) [] h k = absurd (false≢true h)
begin-one (p ∷ ps) (q ∷ qs) (y ∷ ys) h k =
    let e = eqb-true p y (and_left (eqb p y) (begins ps ys) h) in
    let f = eqb-true q y (and_left (eqb q y) (begins qs ys) k) in
    rw (eq-eqb p q (e ∙ sym f), eq-eqb q p (f ∙ sym e)) (begin-one ps qs ys (and_right (eqb p y) (begins ps ys) h) (and_right (eqb q y) (begins qs ys) k))

none-else : (x : Bytes) (a : Bytes) (ss : List Start) → begins a (drop 1 x) ≡ true → all (λ b. not (overlap a b)) (old_starts ss) ≡ true → keep (covers x) ss ≡ []
unfolding keep all covers
none-else x a [] h k = refl
none-else x a (s ∷ ss) h k = go (begins s.old (drop 1 x)) refl (none-else x a ss h (and_right (not (overlap a s.old)) (all (λ b. not (overlap a b)) (old_starts ss)) k))
  where
    go : (c : Bool) → begins s.old (drop 1 x) ≡ c → keep (covers x) ss ≡ [] → cond c (s ∷ keep (covers x) ss) (keep (covers x) ss) ≡ []
    go true e i = absurd (true≢false (sym (begin-one a s.old (drop 1 x) h e) ∙ not-true (overlap a s.old) (and_left (not (overlap a s.old)) (all (λ b. not (overlap a b)) (old_starts ss)) k)))
    go false e i = i

-- no IRI is covered by two lines of a table in order
pub covered-once : (ss : List Start) (x : Bytes) → in_order (old_starts ss) ≡ true → length (keep (covers x) ss) ≤ 1
unfolding in_order are_apart keep covers
covered-once ss x h = go ss (and_right (is_sorted (old_starts ss)) (are_apart (old_starts ss)) h)
  where
    one : (s : Start) (ss : List Start) (c : Bool) → covers x s ≡ c → all (λ b. not (overlap s.old b)) (old_starts ss) ≡ true → length (keep (covers x) ss) ≤ 1 → length (cond c (s ∷ keep (covers x) ss) (keep (covers x) ss)) ≤ 1
    one s ss true e k i = let z = ap length (none-else x s.old ss e k) in omega arith
    one s ss false e k i = i

    go : (ss : List Start) → are_apart (old_starts ss) ≡ true → length (keep (covers x) ss) ≤ 1
    go [] h = omega arith
    go (s ∷ ss) h = one s ss (covers x s) refl (and_left (all (λ b. not (overlap s.old b)) (old_starts ss)) (are_apart (old_starts ss)) h) (go ss (and_right (all (λ b. not (overlap s.old b)) (old_starts ss)) (are_apart (old_starts ss)) h))
