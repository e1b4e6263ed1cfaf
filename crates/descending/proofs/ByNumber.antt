-- Groups of lines and their sorts, by their numbers. Assumes nothing.
use Prim.Native.Nat.{ℕ, zero, suc, ◌+◌, ◌-◌, ◌*◌, ◌/◌, ◌%◌, ◌≤◌, ◌<◌}
use mathlib.Core.Path.{◌≡◌, refl, sym, ap, ◌∙◌}
use mathlib.Core.Bool.{Bool, true, false, not, ◌&&◌, ◌||◌, true≢false, false≢true}
use mathlib.Core.List.{List, [], ◌∷◌, ◌++◌}
use native.Mathlib.Omega.{arith}
use lib.Dec.{eqb, ltb}
use lib.ListN.{length, get_or, get_or-eq_default}
use borrow.Author.Tests.{ltb-true, ne_eqb, eqb-true, eqb-false}
use Rattle.text.proofs.Basics.{and_left, and_right}
use Rattle.algebra.specs.bridge.Table.{Sort, triples, columns, patterns, expressions, rows, orders, aggregates, heads, sets, positions, value_rows, parts, Below}
use Rattle.words.specs.bridge.Code.{sort_at, group_of, groups_in}
use Rattle.words.specs.bridge.Words.{is_front}
use Rattle.scoping.specs.bridge.Spots.{Group, group, groups_below, Node, noted}
use Rattle.scoping.specs.bridge.Skip.{is_patterns, head_many, skip_times, skip_part, skip_child, skip_groups, skip_under}
use Rattle.lines.specs.bridge.Below.{amount_in}
use Rattle.lines.proofs.SortLaw.{high-none}

-- ---- groups by their numbers

-- no more than k groups
abbrev pub Narrow : ℕ → ℕ → Type 0
Narrow zero n = n ≡ 0
Narrow (suc k) n = Narrow k (n / 512)

module _ (U : Sort → List Node → List Node) (cs : List ℕ) where
  pub one-group : (b f : ℕ) (s : Sort) (bs : List Below) (ns : List Node) → skip_groups U (groups_below (group_of b f s ++ bs) cs) ns ≡ skip_groups U (groups_below bs cs) (skip_times (skip_child U s) (amount_in b f (get_or cs 0 0) (get_or cs 1 0)) ns)
  unfolding groups_below skip_groups skip_times
  one-group zero zero s bs ns = refl
  one-group (suc b) zero s bs ns = refl
  one-group b (suc zero) s bs ns = refl
  one-group b (suc (suc zero)) s bs ns = refl
  one-group b (suc (suc (suc zero))) s bs ns = refl
  one-group b (suc (suc (suc (suc zero)))) s bs ns = refl
  one-group b (suc (suc (suc (suc (suc f))))) s bs ns = refl

  pub no-groups : (k : ℕ) (ns : List Node) → skip_groups U (groups_below (groups_in k 0) cs) ns ≡ ns
  unfolding groups_in groups_below skip_groups
  no-groups zero ns = refl
  no-groups (suc k) ns = no-groups k ns

-- the first group has lines
front-group : (b f : ℕ) (s : Sort) (bs : List Below) (cs : List ℕ) → 0 < b + 4 * f → f < 5 → groups_below (group_of b f s ++ bs) cs ≡ group (amount_in b f (get_or cs 0 0) (get_or cs 1 0)) s ∷ groups_below bs cs
unfolding groups_below
front-group zero zero s bs cs h l = absurd (omega arith)
front-group (suc b) zero s bs cs h l = refl
front-group b (suc zero) s bs cs h l = refl
front-group b (suc (suc zero)) s bs cs h l = refl
front-group b (suc (suc (suc zero))) s bs cs h l = refl
front-group b (suc (suc (suc (suc zero)))) s bs cs h l = refl
front-group b (suc (suc (suc (suc (suc f))))) s bs cs h l = absurd (omega arith)

none-many : (n : ℕ) (cs : List ℕ) → n ≡ 0 → head_many (groups_below (groups_in 3 n) cs) ≡ amount_in (n % 4) (n / 4 % 8) (get_or cs 0 0) (get_or cs 1 0)
unfolding groups_in groups_below
none-many n cs e = rw e refl

under_none : (U : Sort → List Node → List Node) (n : ℕ) (cs : List ℕ) (ns : List Node) → n ≡ 0 → skip_under U (groups_below (groups_in 3 n) cs) ns ≡ skip_times (U expressions) (amount_in (n % 4) (n / 4 % 8) (get_or cs 0 0) (get_or cs 1 0)) ns
unfolding groups_in groups_below skip_under skip_times
under_none U n cs ns e = rw e refl

under-other : (U : Sort → List Node → List Node) (s k : ℕ) (gs : List Group) (ns : List Node) → (s ≡ 2 → ⊥) → skip_under U (group k (sort_at s) ∷ gs) ns ≡ skip_times (U expressions) k ns
unfolding skip_under
under-other U s k gs ns h = rw (not-patterns s h) refl
  where
    not-patterns : (s : ℕ) → (s ≡ 2 → ⊥) → is_patterns (sort_at s) ≡ false
    not-patterns zero h = refl
    not-patterns (suc zero) h = refl
    not-patterns (suc (suc zero)) h = absurd (h refl)
    not-patterns (suc (suc (suc zero))) h = refl
    not-patterns (suc (suc (suc (suc zero)))) h = refl
    not-patterns (suc (suc (suc (suc (suc zero))))) h = refl
    not-patterns (suc (suc (suc (suc (suc (suc zero)))))) h = refl
    not-patterns (suc (suc (suc (suc (suc (suc (suc zero))))))) h = refl
    not-patterns (suc (suc (suc (suc (suc (suc (suc (suc zero)))))))) h = refl
    not-patterns (suc (suc (suc (suc (suc (suc (suc (suc (suc zero))))))))) h = refl
    not-patterns (suc (suc (suc (suc (suc (suc (suc (suc (suc (suc zero)))))))))) h = refl
    not-patterns (suc (suc (suc (suc (suc (suc (suc (suc (suc (suc (suc zero))))))))))) h = refl
    not-patterns (suc (suc (suc (suc (suc (suc (suc (suc (suc (suc (suc (suc k)))))))))))) h = refl

-- past the table there is no row
pub no_word : (words : List (List ℕ)) (k : ℕ) → length words ≤ k → 0 ≡ get_or (get_or words k []) 1 0 / 4294967296
no_word words k h = ap (λ (w : List ℕ). get_or w 1 0 / 4294967296) (sym (get_or-eq_default words [] h))

module _ (n : ℕ) (cs : List ℕ) (front : is_front n ≡ true) where
  -- the groups of a row that has some, the first apart
  pub front-some : (n ≡ 0 → ⊥) → groups_below (groups_in 3 n) cs ≡ group (amount_in (n % 4) (n / 4 % 8) (get_or cs 0 0) (get_or cs 1 0)) (sort_at (n / 32 % 16)) ∷ groups_below (groups_in 2 (n / 512)) cs
  unfolding groups_in
  front-some h =
      let f : (ltb 0 (n % 32) && ltb (n / 4 % 8) 5) ≡ true = ap (λ (b : Bool). b || (ltb 0 (n % 32) && ltb (n / 4 % 8) 5)) (sym (ne_eqb n 0 h)) ∙ front in
      let x = ltb-true 0 (n % 32) (and_left (ltb 0 (n % 32)) (ltb (n / 4 % 8) 5) f) in
      let y = ltb-true (n / 4 % 8) 5 (and_right (ltb 0 (n % 32)) (ltb (n / 4 % 8) 5) f) in
      front-group (n % 4) (n / 4 % 8) (sort_at (n / 32 % 16)) (groups_in 2 (n / 512)) cs (omega arith) y

  -- how many lines the first group has
  pub front-many : head_many (groups_below (groups_in 3 n) cs) ≡ amount_in (n % 4) (n / 4 % 8) (get_or cs 0 0) (get_or cs 1 0)
  front-many = go (eqb n 0) refl
    where
      go : (t : Bool) → eqb n 0 ≡ t → head_many (groups_below (groups_in 3 n) cs) ≡ amount_in (n % 4) (n / 4 % 8) (get_or cs 0 0) (get_or cs 1 0)
      go true e = none-many n cs (eqb-true n 0 e)
      go false e = ap head_many (front-some (eqb-false n 0 e))

  -- expressions stand below
  pub under-front : (U : Sort → List Node → List Node) (ns : List Node) → (n / 32 % 16 ≡ 2 → ⊥) → skip_under U (groups_below (groups_in 3 n) cs) ns ≡ skip_times (U expressions) (amount_in (n % 4) (n / 4 % 8) (get_or cs 0 0) (get_or cs 1 0)) ns
  under-front U ns q = go (eqb n 0) refl
    where
      go : (t : Bool) → eqb n 0 ≡ t → skip_under U (groups_below (groups_in 3 n) cs) ns ≡ skip_times (U expressions) (amount_in (n % 4) (n / 4 % 8) (get_or cs 0 0) (get_or cs 1 0)) ns
      go true e = under_none U n cs ns (eqb-true n 0 e)
      go false e = ap (λ (gs : List Group). skip_under U gs ns) (front-some (eqb-false n 0 e)) ∙ under-other U (n / 32 % 16) _ (groups_below (groups_in 2 (n / 512)) cs) ns q

-- ---- a child

module _ (U : Sort → List Node → List Node) (ns : List Node) where
  -- a line of a sort that isn't noted
  child-none : (s : Sort) → noted s ≡ false → skip_child U s ns ≡ ns
  unfolding skip_child
  child-none triples h = refl
  child-none columns h = refl
  child-none patterns h = absurd (true≢false h)
  child-none expressions h = absurd (true≢false h)
  child-none rows h = refl
  child-none orders h = absurd (true≢false h)
  child-none aggregates h = absurd (true≢false h)
  child-none heads h = refl
  child-none sets h = refl
  child-none positions h = refl
  child-none value_rows h = refl
  child-none parts h = refl

  pub child-pattern : (s : ℕ) → s ≡ 2 → U patterns ns ≡ skip_child U (sort_at s) ns
  unfolding skip_child
  child-pattern s e = rw e refl

  pub child-expression : (s : ℕ) → s ≡ 3 → U expressions ns ≡ skip_child U (sort_at s) ns
  unfolding skip_child
  child-expression s e = rw e refl

-- so many of them
times-still : (F : List Node → List Node) (k : ℕ) (ns : List Node) → F ns ≡ ns → ns ≡ skip_times F k ns
unfolding skip_times
times-still F zero ns e = refl
times-still F (suc k) ns e = times-still F k ns e ∙ ap (skip_times F k) (sym e)

pub group-none : (U : Sort → List Node → List Node) (s k : ℕ) (ns : List Node) (t : Bool) → t ≡ noted (sort_at s) → not t ≡ true → ns ≡ skip_times (skip_child U (sort_at s)) k ns
group-none U s k ns false p q = times-still (skip_child U (sort_at s)) k ns (child-none U ns (sort_at s) (sym p))
group-none U s k ns true p q = absurd (false≢true q)

pub group-noted : (s : ℕ) (t : Bool) → t ≡ noted (sort_at s) → not t ≡ false → noted (sort_at s) ≡ true
group-noted s true p q = sym p
group-noted s false p q = absurd (true≢false q)

-- an order or an aggregate
pub child-part : (U : Sort → List Node → List Node) (ns : List Node) (s : ℕ) → noted (sort_at s) ≡ true → (s ≡ 2 → ⊥) → (s ≡ 3 → ⊥) → skip_part U ns ≡ skip_child U (sort_at s) ns
unfolding skip_child
child-part U ns zero h p e = absurd (false≢true h)
child-part U ns (suc zero) h p e = absurd (false≢true h)
child-part U ns (suc (suc zero)) h p e = absurd (p refl)
child-part U ns (suc (suc (suc zero))) h p e = absurd (e refl)
child-part U ns (suc (suc (suc (suc zero)))) h p e = absurd (false≢true h)
child-part U ns (suc (suc (suc (suc (suc zero))))) h p e = refl
child-part U ns (suc (suc (suc (suc (suc (suc zero)))))) h p e = refl
child-part U ns (suc (suc (suc (suc (suc (suc (suc k))))))) h p e = absurd (false≢true (sym (high-none k) ∙ h))
