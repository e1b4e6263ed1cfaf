-- The code's table of words, lent, says what the table of algebra says. Assumes nothing.
use Prim.Native.Nat.{ℕ, zero, suc, ◌+◌, ◌-◌, ◌≤◌, ◌<◌}
use mathlib.Core.Path.{◌≡◌, refl, sym, ◌∙◌, ap, subst}
use mathlib.Core.Bool.{Bool, true, false, cond, ◌&&◌}
use mathlib.Core.List.{List, [], ◌∷◌, map}
use mathlib.Core.Option.{some}
use native.Mathlib.Omega.{arith}
use lib.Dec.{eqb}
use lib.ListN.{length, get_or, take, drop, get_or-eq_default}
use borrow.Author.Tests.{eqb-true, eqb-false, eq-eqb, ne_eqb}
use Rattle.text.specs.Text.{Bytes}
use Rattle.text.proofs.Basics.{and_left, and_right}
use Rattle.algebra.specs.bridge.Table.{Entry, rows_of, table, row_in, row_for}
use Rattle.words.specs.bridge.Code.{Found, sort_at, found, row_found, Tidy, fits_in, sorts_in, in_tree, flag_of, Flags}
use Rattle.words.specs.bridge.Key.{key_of, Keyed, row_by, flag_by, Flagged}
use Rattle.words.specs.bridge.Words.{code_at, code_by, first_of, words_of, Saying, said, told, flag_found, is_tidy, all_tidy, tidy_sorts, Worded}
use Rattle.words.proofs.ByKey.{row-by-key, row-by-any, flag-by-key}
use Rattle.std.specs.Prelude.{Some, None}

-- a row as a number says what these words say of a key
abbrev Says : List Entry → ℕ → ℕ → Type 0
Says es k code = (row_found (found code) ≡ row_by k es) × Flagged k es (found code)

-- ---- the search, word by word

pub code-none : (k i : ℕ) (ws : List (List ℕ)) → code_by k (take 0 (drop i ws)) ≡ 0
unfolding code_by
code-none k i ws = refl

pub code_here : (k n i : ℕ) (ws : List (List ℕ)) → get_or (get_or ws i []) 0 0 ≡ k → code_by k (take (suc n) (drop i ws)) ≡ get_or (get_or ws i []) 1 0
unfolding code_by
code_here k n zero [] e = refl
code_here k n (suc i) [] e = refl
code_here k n zero (w ∷ ws) e = rw (eq-eqb (get_or w 0 0) k e) refl
code_here k n (suc i) (w ∷ ws) e = code_here k n i ws e

pub code-past : (k n i : ℕ) (ws : List (List ℕ)) → (get_or (get_or ws i []) 0 0 ≡ k → ⊥) → code_by k (take (suc n) (drop i ws)) ≡ code_by k (take n (drop (suc i) ws))
unfolding code_by
code-past k zero zero [] e = refl
code-past k (suc n) zero [] e = refl
code-past k zero (suc i) [] e = refl
code-past k (suc n) (suc i) [] e = refl
code-past k n zero (w ∷ ws) e = rw (ne_eqb (get_or w 0 0) k e) refl
code-past k n (suc i) (w ∷ ws) e = code-past k n i ws e

pub step-here : (k to i : ℕ) (ws : List (List ℕ)) → i < to → get_or (get_or ws i []) 0 0 ≡ k → code_by k (take (to - i) (drop i ws)) ≡ get_or (get_or ws i []) 1 0
step-here k to i ws l e = let n : to - i ≡ suc (to - (i + 1)) = omega arith in rw n (code_here k (to - (i + 1)) i ws e)

pub step_past : (k to i : ℕ) (ws : List (List ℕ)) → i < to → (get_or (get_or ws i []) 0 0 ≡ k → ⊥) → code_by k (take (to - (i + 1)) (drop (i + 1) ws)) ≡ code_by k (take (to - i) (drop i ws))
step_past k to i ws l e = let n : to - i ≡ suc (to - (i + 1)) = omega arith in let m : i + 1 ≡ suc i = omega arith in rw n (ap (λ (j : ℕ). code_by k (take (to - (i + 1)) (drop j ws))) m ∙ sym (code-past k (to - (i + 1)) i ws e))

-- there are so many words
pub no_word : (ws : List (List ℕ)) (n : ℕ) → length ws ≤ n → code_at ws n ≡ 0
no_word ws n h = ap (λ (w : List ℕ). get_or w 1 0) (get_or-eq_default ws [] h)

length-map : {A B : Type 0} (g : A → B) (l : List A) → length (map g l) ≡ length l
length-map g [] = refl
length-map g (x ∷ l) = ap suc (length-map g l)

length-said : (ws : List (List ℕ)) → Worded ws → length ws ≡ 56
unfolding table
length-said ws h = sym (length-map said ws) ∙ ap length h.same

pub step_end : (k to i : ℕ) (ws : List (List ℕ)) → to ≤ i → Worded ws → code_at ws 56 ≡ code_by k (take (to - i) (drop i ws))
step_end k to i ws l h =
    let n : to - i ≡ 0 = omega arith in let m = length-said ws h in let all : length ws ≤ 56 = omega arith in no_word ws 56 all ∙ sym (rw n (code-none k i ws))

-- ---- what is found is what the table of algebra has

flag-of : (f : Found) (k : ℕ) (es : List Entry) → flag_found f ≡ flag_by k es → Flagged k es f
flag-of (Some c) k es e = e
flag-of None k es e = tt

flag-past : (f : Found) (k : ℕ) (x : Entry) (xs : List Entry) → eqb k (key_of 0 x.word) ≡ false → Flagged k xs f → Flagged k (x ∷ xs) f
unfolding flag_by
flag-past (Some c) k x xs o h = rw o h
flag-past None k x xs o h = tt

tidy_of : (s : ℕ) (f : Found) → is_tidy s f ≡ true → Tidy s f
tidy_of s (Some c) t =
    let r = and_right (fits_in 3 c.fields) (sorts_in 11 3 c.below && in_tree s c) t in (
      and_left (fits_in 3 c.fields) (sorts_in 11 3 c.below && in_tree s c) t,
      and_left (sorts_in 11 3 c.below) (in_tree s c) r,
      and_right (sorts_in 11 3 c.below) (in_tree s c) r,
    )
tidy_of s None t = tt

at-word : (k : ℕ) (w : List ℕ) (x : Entry) (xs : List Entry) (code : ℕ) → said w ≡ told x → Says xs k code → (b : Bool) → eqb (get_or w 0 0) k ≡ b → Says (x ∷ xs) k (cond b (get_or w 1 0) code)
unfolding row_by flag_by told
at-word k w x xs code e rest true p =
    let key : get_or w 0 0 ≡ key_of 0 x.word = ap (λ (y : Saying). y.key) e in
    let at : eqb k (key_of 0 x.word) ≡ true = eq-eqb k (key_of 0 x.word) (sym (eqb-true (get_or w 0 0) k p) ∙ key) in
    let row : row_found (found (get_or w 1 0)) ≡ some x.row = ap (λ (y : Saying). y.row) e in
    let flag : flag_found (found (get_or w 1 0)) ≡ flag_of x.word = ap (λ (y : Saying). y.flag) e in
    (rw at row, flag-of (found (get_or w 1 0)) k (x ∷ xs) (rw at flag))
at-word k w x xs code e rest false p =
    let key : get_or w 0 0 ≡ key_of 0 x.word = ap (λ (y : Saying). y.key) e in
    let other : eqb k (key_of 0 x.word) ≡ false = ne_eqb k (key_of 0 x.word) (λ z. eqb-false (get_or w 0 0) k p (key ∙ sym z)) in
    (rw other rest.0, flag-past (found code) k x xs other rest.1)

says : (k : ℕ) (ws : List (List ℕ)) (es : List Entry) → map said ws ≡ map told es → Says es k (code_by k ws)
unfolding code_by row_by flag_by
says k [] [] e = (refl, tt)
says k [] (x ∷ xs) e = let z : ◌≡◌ {A = ℕ} 0 1 = cc in absurd (omega arith)
says k (w ∷ ws) [] e = let z : ◌≡◌ {A = ℕ} 0 1 = cc in absurd (omega arith)
says k (w ∷ ws) (x ∷ xs) e =
    let here : said w ≡ told x = cc in
    let behind : map said ws ≡ map told xs = cc in
    at-word k w x xs (code_by k ws) here (says k ws xs behind) (eqb (get_or w 0 0) k) refl

tidy-says : (s k : ℕ) (ws : List (List ℕ)) → all_tidy s ws ≡ true → Tidy s (found (code_by k ws))
unfolding code_by all_tidy
tidy-says s k [] t = tt
tidy-says s k (w ∷ ws) t = go (eqb (get_or w 0 0) k) (tidy_of s (found (get_or w 1 0)) (and_left (is_tidy s (found (get_or w 1 0))) (all_tidy s ws) t)) (tidy-says s k ws (and_right (is_tidy s (found (get_or w 1 0))) (all_tidy s ws) t))
  where
    go : (b : Bool) → Tidy s (found (get_or w 1 0)) → Tidy s (found (code_by k ws)) → Tidy s (found (cond b (get_or w 1 0) (code_by k ws)))
    go true here behind = here
    go false here behind = behind

-- ---- the words of a sort

map-take : {A B : Type 0} (g : A → B) (n : ℕ) (l : List A) → map g (take n l) ≡ take n (map g l)
map-take g zero l = refl
map-take g (suc n) [] = refl
map-take g (suc n) (x ∷ l) = ap (λ (ys : List _). g x ∷ ys) (map-take g n l)

map-drop : {A B : Type 0} (g : A → B) (n : ℕ) (l : List A) → map g (drop n l) ≡ drop n (map g l)
map-drop g zero l = refl
map-drop g (suc n) [] = refl
map-drop g (suc n) (x ∷ l) = map-drop g n l

map-words : {A B : Type 0} (g : A → B) (s : ℕ) (l : List A) → map g (words_of s l) ≡ words_of s (map g l)
unfolding words_of
map-words g s l = map-take g (first_of (s + 1) - first_of s) (drop (first_of s) l) ∙ ap (λ (m : List _). take (first_of (s + 1) - first_of s) m) (map-drop g (first_of s) l)

-- in the table of algebra the words of a sort stand where the code has them
Parted : ℕ → Type 0
Parted zero = Unit {0}
Parted (suc n) = (words_of n table ≡ rows_of (sort_at n)) × Parted n

parted : Parted 12
unfolding Parted words_of table
parted = (refl, (refl, (refl, (refl, (refl, (refl, (refl, (refl, (refl, (refl, (refl, (refl, tt))))))))))))

part-or : (n s : ℕ) → words_of n table ≡ rows_of (sort_at n) → ((s ≡ n → ⊥) → words_of s table ≡ rows_of (sort_at s)) → (b : Bool) → eqb s n ≡ b → words_of s table ≡ rows_of (sort_at s)
part-or n s h on true p = subst (λ (m : ℕ). words_of m table ≡ rows_of (sort_at m)) (sym (eqb-true s n p)) h
part-or n s h on false p = on (eqb-false s n p)

part_at : (n s : ℕ) → s < n → Parted n → words_of s table ≡ rows_of (sort_at s)
unfolding Parted
part_at zero s l h = absurd (omega arith)
part_at (suc n) s l h = part-or n s h.0 (λ d. part_at n s (omega (arith, d)) h.1) (eqb s n) refl

tidy-or : (n s : ℕ) (ws : List (List ℕ)) → all_tidy n (words_of n ws) ≡ true → ((s ≡ n → ⊥) → all_tidy s (words_of s ws) ≡ true) → (b : Bool) → eqb s n ≡ b → all_tidy s (words_of s ws) ≡ true
tidy-or n s ws h on true p = subst (λ (m : ℕ). all_tidy m (words_of m ws) ≡ true) (sym (eqb-true s n p)) h
tidy-or n s ws h on false p = on (eqb-false s n p)

tidy-at : (n s : ℕ) (ws : List (List ℕ)) → s < n → tidy_sorts n ws ≡ true → all_tidy s (words_of s ws) ≡ true
unfolding tidy_sorts
tidy-at zero s ws l h = absurd (omega arith)
tidy-at (suc n) s ws l h =
    tidy-or n s ws (and_left (all_tidy n (words_of n ws)) (tidy_sorts n ws) h) (λ d. tidy-at n s ws (omega (arith, d)) (and_right (all_tidy n (words_of n ws)) (tidy_sorts n ws) h)) (eqb s n) refl

sort-same : (s : ℕ) (ws : List (List ℕ)) → s < 12 → map said ws ≡ map told table → map said (words_of s ws) ≡ map told (rows_of (sort_at s))
sort-same s ws l h =
    map-words said s ws ∙ ap (λ (m : List Saying). words_of s m) h ∙ sym (map-words told s table) ∙ ap (λ (es : List Entry). map told es) (part_at 12 s l parted)

whole_same : (ws : List (List ℕ)) → map said ws ≡ map told table → map said (take 56 (drop 0 ws)) ≡ map told table
unfolding table
whole_same ws h = map-take said 56 ws ∙ ap (λ (m : List Saying). take 56 m) h

-- ---- what the code's two searches find

module _ (ws : List (List ℕ)) (h : Worded ws) (k n : ℕ) where
  -- among the words of a sort, from the first to that of the next
  module _ (s a b : ℕ) (l : s < 12) (p : a ≡ first_of s) (q : b ≡ first_of (s + 1)) (e : code_at ws n ≡ code_by k (take (b - a) (drop a ws))) where
    among : code_by k (words_of s ws) ≡ code_at ws n
    unfolding words_of
    among = sym (e ∙ rw (p, q) refl)

    there : Says (rows_of (sort_at s)) k (code_at ws n)
    there = subst (λ (c : ℕ). Says (rows_of (sort_at s)) k c) among (says k (words_of s ws) (rows_of (sort_at s)) (sort-same s ws l h.same))

    pub sort-row : (f : Bytes) → Keyed f k → row_found (found (code_at ws n)) ≡ row_for (sort_at s) f
    sort-row f t = there.0 ∙ row-by-key s f k t

    pub sort-tidy : Tidy s (found (code_at ws n))
    sort-tidy = subst (λ (c : ℕ). Tidy s (found c)) among (tidy-says s k (words_of s ws) (tidy-at 12 s ws l h.tidy))

    pub sort-flags : (f : Bytes) → Keyed f k → Flags f (found (code_at ws n))
    sort-flags f t = flag-by-key s f k (found (code_at ws n)) t there.0 there.1

  -- among all words
  pub any-row : code_at ws n ≡ code_by k (take 56 (drop 0 ws)) → (f : Bytes) → Keyed f k → row_found (found (code_at ws n)) ≡ row_in table f
  any-row e f t = ap (λ (c : ℕ). row_found (found c)) e ∙ (says k (take 56 (drop 0 ws)) table (whole_same ws h.same)).0 ∙ row-by-any f k t
