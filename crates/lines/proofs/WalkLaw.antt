-- Laws of the walk over a tree's lines, whatever is made of each line. Assumes nothing.
use Prim.Native.Nat.{ℕ, zero, suc, ◌-◌, ◌/◌, ◌%◌, ◌≤◌, ◌<◌}
use mathlib.Core.Path.{◌≡◌, refl, sym, ap, ap₂, ◌∙◌}
use mathlib.Core.List.{List, [], ◌∷◌, ◌++◌}
use mathlib.Core.Bool.{Bool, true, false, cond, ◌&&◌}
use mathlib.Core.Option.{Option, none, some}
use native.Mathlib.Omega.{arith}
use lib.ListN.{get_or}
use lib.Dec.{eqb}
use Rattle.text.specs.Text.{Bytes, Line, same}
use Rattle.text.proofs.Basics.{and_left, and_right}
use Rattle.algebra.specs.bridge.Table.{Sort, triples, columns, patterns, expressions, rows, orders, aggregates, Below, Row, Entry, rows_of, row_in, row_for, opens}
use Rattle.words.specs.declared.Row.{Row as Code}
use Rattle.words.specs.bridge.Code.{sort_at, group_of, groups_in, counting, counts_in}
use Rattle.scoping.specs.bridge.Places.{Mark, silent, under}
use Rattle.scoping.specs.bridge.Spots.{Group, group, groups_below}
use Rattle.scoping.specs.bridge.Walk.{State, state, row_or, number_in, hides, times, head_amount, part, child, beneath, whole, tree}
use Rattle.lines.specs.bridge.Below.{amount_in}
use Rattle.lines.specs.bridge.Says.{below}
use Rattle.lines.specs.bridge.Below.{mark_under}

module _ {O : Type 0} (put : Sort → Mark → Row → Bytes → List Bytes → O → O) where
  -- ---- groups of lines

  module _ (trees : Sort → Mark → State O → State O) (hide : Bool) (m : Mark) where
    module _ (a b : ℕ) where
      -- a group of the code's row is as many children
      group-is : (n k : ℕ) (s : Sort) (bs : List Below) (st : State O) → beneath put trees hide m (group_of n k s ++ bs) (a ∷ b ∷ []) st ≡ beneath put trees hide m bs (a ∷ b ∷ []) (times (child put trees hide m s) (amount_in n k a b) st)
      unfolding beneath times
      group-is zero zero s bs st = refl
      group-is (suc n) zero s bs st = refl
      group-is n (suc zero) s bs st = refl
      group-is n (suc (suc zero)) s bs st = refl
      group-is n (suc (suc (suc zero))) s bs st = refl
      group-is n (suc (suc (suc (suc zero)))) s bs st = refl
      group-is n (suc (suc (suc (suc (suc k))))) s bs st = refl

      nothing-more : (st : State O) → beneath put trees hide m [] (a ∷ b ∷ []) st ≡ st
      unfolding beneath
      nothing-more st = refl

      pub group-next : (k n : ℕ) (st : State O) → beneath put trees hide m (groups_in (suc k) n) (a ∷ b ∷ []) st ≡ beneath put trees hide m (groups_in k (n / 512)) (a ∷ b ∷ []) (times (child put trees hide m (sort_at (n / 32 % 16))) (amount_in (n % 4) (n / 4 % 8) a b) st)
      unfolding groups_in
      group-next k n st = group-is (n % 4) (n / 4 % 8) (sort_at (n / 32 % 16)) (groups_in k (n / 512)) st

      pub group-none : (k : ℕ) (st : State O) → beneath put trees hide m (groups_in k 0) (a ∷ b ∷ []) st ≡ st
      unfolding groups_in times
      group-none zero st = nothing-more st
      group-none (suc k) st = group-next k 0 st ∙ group-none k st

    -- the same amounts
    pub beneath-same : (c : Code) (a b a' b' : ℕ) → ((n k : ℕ) → counting c k ≡ true → amount_in n k a b ≡ amount_in n k a' b') → (k n : ℕ) → counts_in c k n ≡ true → (st : State O)
        → beneath put trees hide m (groups_in k n) (a ∷ b ∷ []) st ≡ beneath put trees hide m (groups_in k n) (a' ∷ b' ∷ []) st
    unfolding groups_in counts_in
    beneath-same c a b a' b' am zero n h st = nothing-more a b st ∙ sym (nothing-more a' b' st)
    beneath-same c a b a' b' am (suc k) n h st =
        group-next a b k n st
        ∙ beneath-same c a b a' b' am k (n / 512) (and_right (counting c (n / 4 % 8)) (counts_in c k (n / 512)) h) _
        ∙ ap (λ (i : ℕ). beneath put trees hide m (groups_in k (n / 512)) (a' ∷ b' ∷ []) (times (child put trees hide m (sort_at (n / 32 % 16))) i st)) (am (n % 4) (n / 4 % 8) (and_left (counting c (n / 4 % 8)) (counts_in c k (n / 512)) h))
        ∙ sym (group-next a' b' k n st)

    whole_row : (w : Bytes) (fs : List Bytes) (ls : List Line) (o : O) (s : Sort) → whole put trees s m ((w ∷ fs) ∷ ls) o ≡ beneath put trees (hides w) m (row_or (row_for s w)).below (number_in (get_or fs 0 []) ∷ number_in (get_or fs 1 []) ∷ []) (state ls (put s m (row_or (row_for s w)) w fs o))
    unfolding whole
    whole_row w fs ls o s = refl

    -- a line by its row
    pub whole-line : (w : Bytes) (fs : List Bytes) (ls : List Line) (o : O) (s : Sort) (r : Row) → row_for s w ≡ some r
        → beneath put trees (hides w) m r.below (number_in (get_or fs 0 []) ∷ number_in (get_or fs 1 []) ∷ []) (state ls (put s m r w fs o)) ≡ whole put trees s m ((w ∷ fs) ∷ ls) o
    whole-line w fs ls o s r e = sym (whole_row w fs ls o s ∙ ap (λ (q : Option Row). beneath put trees (hides w) m (row_or q).below (number_in (get_or fs 0 []) ∷ number_in (get_or fs 1 []) ∷ []) (state ls (put s m (row_or q) w fs o))) e)

  -- ---- lines that are no trees

  module _ (trees : Sort → Mark → State O → State O) (m : Mark) where
    -- a row of them asks for nothing or for one expression
    abbrev Lone : Option Row → Type 0
    Lone q = (h : Bool) (a b : ℕ) (st : State O) → cond (eqb (head_amount (row_or q).below (a ∷ b ∷ [])) 0) st (trees expressions silent st) ≡ beneath put trees h m (row_or q).below (a ∷ b ∷ []) st

    none-lone : Lone none
    unfolding beneath
    none-lone h a b st = refl

    AllLone : List Entry → Type 0
    AllLone [] = Unit {0}
    AllLone (e ∷ es) = Lone (some e.row) × AllLone es

    lone-in : (es : List Entry) (w : Bytes) → AllLone es → Lone (row_in es w)
    unfolding AllLone row_in
    lone-in [] w h = none-lone
    lone-in (e ∷ es) w h = go (same w e.word) (lone-in es w h.1)
      where
        go : (x : Bool) → Lone (row_in es w) → Lone (cond x (some e.row) (row_in es w))
        go true q = h.0
        go false q = q

    triples-lone : AllLone (rows_of triples)
    unfolding AllLone beneath
    triples-lone = (λ h a b st. refl, tt)

    columns-lone : AllLone (rows_of columns)
    unfolding AllLone beneath
    columns-lone = (λ h a b st. refl, tt)

    rows-lone : AllLone (rows_of rows)
    unfolding AllLone beneath
    rows-lone = (λ h a b st. refl, tt)

    orders-lone : AllLone (rows_of orders)
    unfolding AllLone beneath times child
    orders-lone = (λ h a b st. refl, (λ h a b st. refl, tt))

    aggregates-lone : AllLone (rows_of aggregates)
    unfolding AllLone beneath times child
    aggregates-lone = (λ h a b st. refl, (λ h a b st. refl, tt))

    part-whole : (s : Sort) → AllLone (rows_of s) → (ls : List Line) (o : O) → part put trees s m ls o ≡ whole put trees s m ls o
    unfolding part whole
    part-whole s lone [] o = refl
    part-whole s lone ([] ∷ ls) o = refl
    part-whole s lone ((w ∷ fs) ∷ ls) o = lone-in (rows_of s) w lone (hides w) (number_in (get_or fs 0 [])) (number_in (get_or fs 1 [])) (state ls (put s m (row_or (row_for s w)) w fs o))

  -- a line below another: by its sort, with its mark, where a level is left if it opens one
  module _ (level : ℕ) (hide : Bool) (m : Mark) (last : Bool) (st : State O) where
    pub child-is : (s : ℕ) → s ≤ 6 → (opens (sort_at s) ≡ true → level ≡ 0 → ⊥)
        → child put (tree put level) hide m (sort_at s) last st ≡ whole put (tree put (below s level)) (sort_at s) (mark_under s hide last m) st.lines st.output
    unfolding child tree
    child-is zero h o = part-whole (tree put level) m triples (triples-lone (tree put level) m) st.lines st.output
    child-is (suc zero) h o = part-whole (tree put level) m columns (columns-lone (tree put level) m) st.lines st.output
    child-is (suc (suc zero)) h o = go level (o refl)
      where
        go : (d : ℕ) → (d ≡ 0 → ⊥) → tree put d patterns (cond (hide && last) (under m) m) st ≡ whole put (tree put (below 2 d)) patterns (cond (hide && last) (under m) m) st.lines st.output
        go zero n = absurd (n refl)
        go (suc d) n = refl
    child-is (suc (suc (suc zero))) h o = go level (o refl)
      where
        go : (d : ℕ) → (d ≡ 0 → ⊥) → tree put d expressions silent st ≡ whole put (tree put (below 3 d)) expressions silent st.lines st.output
        go zero n = absurd (n refl)
        go (suc d) n = refl
    child-is (suc (suc (suc (suc zero)))) h o = part-whole (tree put level) m rows (rows-lone (tree put level) m) st.lines st.output
    child-is (suc (suc (suc (suc (suc zero))))) h o = part-whole (tree put level) m orders (orders-lone (tree put level) m) st.lines st.output
    child-is (suc (suc (suc (suc (suc (suc zero)))))) h o = part-whole (tree put level) m aggregates (aggregates-lone (tree put level) m) st.lines st.output
    child-is (suc (suc (suc (suc (suc (suc (suc s))))))) h o = absurd (omega arith)

  -- ---- many children

  module _ (f : Bool → State O → State O) where
    pub times-next : (n : ℕ) (st : State O) → 0 < n → times f (n - 1) (f (eqb (n - 1) 0) st) ≡ times f n st
    unfolding times
    times-next zero st h = absurd (omega arith)
    times-next (suc n) st h = let q : suc n - 1 ≡ n = omega arith in ap (λ (k : ℕ). times f k (f (eqb k 0) st)) q

    pub times-done : (n : ℕ) (st : State O) → n ≤ 0 → times f n st ≡ st
    unfolding times
    times-done n st h = let e : n ≡ 0 = omega arith in rw e

-- ---- the groups of a line that is noted

-- the same amounts
group-same : (a b a' b' n k : ℕ) (s : Sort) (bs : List Below) → amount_in n k a b ≡ amount_in n k a' b' → groups_below bs (a ∷ b ∷ []) ≡ groups_below bs (a' ∷ b' ∷ []) → groups_below (group_of n k s ++ bs) (a ∷ b ∷ []) ≡ groups_below (group_of n k s ++ bs) (a' ∷ b' ∷ [])
unfolding groups_below
group-same a b a' b' zero zero s bs e h = h
group-same a b a' b' (suc n) zero s bs e h = ap (λ (gs : List Group). group (suc n) s ∷ gs) h
group-same a b a' b' n (suc zero) s bs e h = ap₂ (λ (i : ℕ) (gs : List Group). group i s ∷ gs) e h
group-same a b a' b' n (suc (suc zero)) s bs e h = ap₂ (λ (i : ℕ) (gs : List Group). group i s ∷ gs) e h
group-same a b a' b' n (suc (suc (suc zero))) s bs e h = ap₂ (λ (i : ℕ) (gs : List Group). group i s ∷ gs) e h
group-same a b a' b' n (suc (suc (suc (suc zero)))) s bs e h = ap₂ (λ (i : ℕ) (gs : List Group). group i s ∷ gs) e h
group-same a b a' b' n (suc (suc (suc (suc (suc k))))) s bs e h = h

pub groups-same : (c : Code) (a b a' b' : ℕ) → ((n k : ℕ) → counting c k ≡ true → amount_in n k a b ≡ amount_in n k a' b') → (k n : ℕ) → counts_in c k n ≡ true → groups_below (groups_in k n) (a ∷ b ∷ []) ≡ groups_below (groups_in k n) (a' ∷ b' ∷ [])
unfolding groups_in counts_in groups_below
groups-same c a b a' b' am zero n h = refl
groups-same c a b a' b' am (suc k) n h =
    group-same a b a' b' (n % 4) (n / 4 % 8) (sort_at (n / 32 % 16)) (groups_in k (n / 512)) (am (n % 4) (n / 4 % 8) (and_left (counting c (n / 4 % 8)) (counts_in c k (n / 512)) h))
    (groups-same c a b a' b' am k (n / 512) (and_right (counting c (n / 4 % 8)) (counts_in c k (n / 512)) h))
