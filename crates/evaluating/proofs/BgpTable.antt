-- The table of a bgp, line by line, holds the bgp's rows after each line. Assumes nothing.
use mathlib.Core.Path.{◌≡◌, refl, sym, ◌∙◌, ap, ap₂, subst, fun_ext}
use mathlib.Core.Bool.{Bool, true, false, cond, not, ◌&&◌}
use mathlib.Core.List.{List, [], ◌∷◌, ◌++◌, map}
use mathlib.Core.Option.{none, some}
use Prim.Native.Nat.{ℕ, suc, ◌+◌, ◌<◌}
use native.Mathlib.Omega.{arith}
use native.Mathlib.Nat.{one-mul}
use lib.Dec.{eqb, ltb}
use Rattle.text.specs.Text.{Bytes, same}
use Rattle.text.specs.Field.{is_var}
use Rattle.text.proofs.Basics.{and_left, and_right, and_both}
use Rattle.algebra.specs.Tree.{Triple, bgp}
use Rattle.algebra.specs.Valid.{mem}
use Rattle.scoping.specs.Sets.{all, variables_of, triple_variables, each}
use Rattle.scoping.specs.Variables.{variables_in_pattern}
use Rattle.scoping.proofs.Sets.{mem-keep}
use Rattle.scoping.specs.bridge.Sets.{Sub}
use Rattle.scoping.proofs.Basics.{both_ways, either, mem-nil, mem-here, mem-there, mem-right, mem-cases, mem-variables, sub-append, sub-left, sub-right, all-at, all_of, map-map, each_map, map_each, all_map}
use Rattle.counting.specs.Bag.{when, once, total, tick, count}
use Rattle.counting.specs.Row.{Cell, same_cell, Row, merge, same_on}
use Rattle.counting.specs.Answer.{ways, terms, bgp_rows, eval}
use Rattle.counting.proofs.Basics.{map-when}
use Rattle.counting.proofs.Every.{Every, done, more, every_two, every-each, every-when, every_map, each-every}
use Rattle.counting.proofs.Sums.{total-cong}
use Rattle.counting.proofs.Only.{Only, only-sub, only-bgp}
use Rattle.counting.proofs.Bgp.{by_rows}
use Rattle.counting.specs.Condition.{value_in}
use Rattle.evaluating.specs.Order.{lexical}
use Rattle.evaluating.specs.Bounds.{starts, table_fits}
use Rattle.evaluating.specs.bridge.Numbers.{Numbers, code, coded, numbers, constant_fields, line_constants, Spelled, Spells, NamesApart}
use Rattle.evaluating.specs.bridge.Cells.{same_numbers}
use Rattle.evaluating.specs.bridge.Table.{Table, gather, is_small, weigh}
use Rattle.evaluating.specs.bridge.Tables.{columns_of, meets, given_cell, matched_cell, is_triple, matched, line_columns, bgp_from, bgp_small, unit}
use Rattle.evaluating.proofs.Sorted.{Different, dnil, dcons}
use Rattle.evaluating.proofs.Orders.{rows-order}
use Rattle.evaluating.proofs.Bags.{Holds, cells_of, gather-holds, counts-in}
use Rattle.evaluating.proofs.Operators.{bag-match, match-positive}
use Rattle.evaluating.proofs.Coded.{map-mem, Known, Within, code_same, either-code, look-coded}
use Rattle.evaluating.proofs.Within.{within-bgp, within-merge, known-value, spells-left, spells-right}
use Rattle.evaluating.proofs.Truths.{value-coded}
use Rattle.evaluating.proofs.Rows.{Good, name-same}
use Rattle.evaluating.proofs.Fits.{in-columns, columns-in, count-coded, small_is}
use Rattle.evaluating.proofs.BgpLine.{same_triple, line_is, fields_of, given, matched_with, matched_rows, matched-count}

pub append-group : {A : Type 0} (xs ys zs : List A) → (xs ++ ys) ++ zs ≡ xs ++ (ys ++ zs)
append-group [] ys zs = refl
append-group (x ∷ xs) ys zs = ap (λ l. x ∷ l) (append-group xs ys zs)

variables-append : (xs ys : List Triple) → triple_variables (xs ++ ys) ≡ triple_variables xs ++ triple_variables ys
unfolding triple_variables
variables-append [] ys = refl
variables-append (x ∷ xs) ys = ap (λ l. variables_of (fields_of x) ++ l) (variables-append xs ys) ∙ sym (append-group (variables_of (fields_of x)) (triple_variables xs) (triple_variables ys))

append-nothing : {A : Type 0} (xs : List A) → xs ++ [] ≡ xs
append-nothing [] = refl
append-nothing (x ∷ xs) = ap (λ l. x ∷ l) (append-nothing xs)

variables-last : (ds : List Triple) (t : Triple) → triple_variables (ds ++ (t ∷ [])) ≡ triple_variables ds ++ variables_of (fields_of t)
unfolding triple_variables
variables-last ds t = variables-append ds (t ∷ []) ∙ ap (λ l. triple_variables ds ++ l) (append-nothing (variables_of (fields_of t)))

-- rows compared over two lists that have the same names
pub same_names : (xs ys : List Bytes) (a b : Row) → Sub xs ys → Sub ys xs → same_on xs a b ≡ same_on ys a b
unfolding same_on
same_names xs ys a b s t = both_ways _ _ (λ h. all_of (λ v. same_cell (a v) (b v)) ys (λ v m. all-at (λ u. same_cell (a u) (b u)) xs h v (t v m))) (λ h. all_of (λ v. same_cell (a v) (b v)) xs (λ v m. all-at (λ u. same_cell (a u) (b u)) ys h v (s v m)))

-- a triple's terms are spelled
pub record Tripled (κ : Numbers) (d : Triple) : Type 0 where
  pub subj_is : Spelled κ d.subj
  pub pred-is : Spelled κ d.pred
  pub obj_is : Spelled κ d.obj

pub all-tripled : (κ : Numbers) (g : List Triple) → Spells κ (terms g) → Every (Tripled κ) g
unfolding terms each
all-tripled κ [] h = done
all-tripled κ (d ∷ g) h =
    more (record { subj_is = h d.subj (mem-here d.subj _); pred-is = h d.pred (mem-there d.pred d.subj _ (mem-here d.pred _)); obj_is = h d.obj (mem-there d.obj d.subj _ (mem-there d.obj d.pred _ (mem-here d.obj _))) })
    (all-tripled κ g (λ x m. h x (mem-right x (fields_of d) (terms g) m)))

module _ (κ : Numbers) (N : List Bytes) (inj : NamesApart κ N) where
  -- ---- one line

  module _ (t : Triple) (vn : Sub (variables_of (fields_of t)) N) (ct : Spells κ (constant_fields (fields_of t))) where
    field-name : (f : Bytes) → mem f (fields_of t) ≡ true → is_var f ≡ true → mem f N ≡ true
    field-name f m i = vn f (mem-variables f (fields_of t) i m)

    subj-in : mem t.subj (fields_of t) ≡ true
    subj-in = mem-here t.subj _

    pred_in : mem t.pred (fields_of t) ≡ true
    pred_in = mem-there t.pred t.subj _ (mem-here t.pred _)

    obj-in : mem t.obj (fields_of t) ≡ true
    obj-in = mem-there t.obj t.subj _ (mem-there t.obj t.pred _ (mem-here t.obj []))

    given-field : (f x w : Bytes) (n : ℕ) (c : Cell) → mem f (fields_of t) ≡ true → mem w N ≡ true → n ≡ code κ c → cond (is_var f && eqb (κ.name w) (κ.name f)) (suc (κ.term x)) n ≡ code κ (cond (is_var f && same w f) (some x) c)
    given-field f x w n c m mw e = go (is_var f) (λ i. name-same κ N inj w f mw (field-name f m i))
      where
        last : (b : Bool) → cond b (suc (κ.term x)) n ≡ code κ (cond b (some x) c)
        last true = refl
        last false = e

        go : (b : Bool) → (b ≡ true → eqb (κ.name w) (κ.name f) ≡ same w f) → cond (b && eqb (κ.name w) (κ.name f)) (suc (κ.term x)) n ≡ code κ (cond (b && same w f) (some x) c)
        go true k = ap (λ b. cond b (suc (κ.term x)) n) (k refl) ∙ last (same w f)
        go false k = e

    given-coded : (d : Triple) (w : Bytes) → mem w N ≡ true → given_cell κ t d (κ.name w) ≡ code κ (given t d w)
    unfolding given
    given-coded d w m = given-field t.subj d.subj w _ _ subj-in m (given-field t.pred d.pred w _ _ pred_in m (given-field t.obj d.obj w 0 none obj-in m refl))

    given-known : (d : Triple) → Tripled κ d → Within κ (given t d)
    unfolding given
    given-known d k w = step (is_var t.subj && same w t.subj) d.subj _ k.subj_is (step (is_var t.pred && same w t.pred) d.pred _ k.pred-is (step (is_var t.obj && same w t.obj) d.obj none k.obj_is tt))
      where
        step : (b : Bool) (x : Bytes) (c : Cell) → Spelled κ x → Known κ c → Known κ (cond b (some x) c)
        step true x c s h = s
        step false x c s h = h

    module _ (U : List Bytes) (un : Sub U N) (a : Row) (oa : Only U a) (ka : Within κ a) where
      matched-coded : (d : Triple) (w : Bytes) → mem w N ≡ true → matched_cell κ (numbers κ U) t d (coded κ U a) (κ.name w) ≡ code κ (matched_with a t d w)
      unfolding merge
      matched-coded d w m = ap₂ (λ x y. cond (eqb x 0) y x) (look-coded κ N inj U a w un oa m) (given-coded d w m) ∙ either-code κ (a w) (given t d w)

      constant-field : (f : Bytes) → mem f (fields_of t) ≡ true → Spells κ (constant_fields (f ∷ []))
      unfolding constant_fields
      constant-field f m x k =
          let h = sym (mem-keep (λ y. not (is_var y)) x (f ∷ [])) ∙ k in
          ct x (mem-keep (λ y. not (is_var y)) x (fields_of t) ∙ and_both (not (is_var x)) (mem x (fields_of t)) (and_left (not (is_var x)) (mem x (f ∷ [])) h) (either (λ e. subst (λ y. mem y (fields_of t) ≡ true) (sym e) m) (λ n. mem-nil x n) (mem-cases x f [] (and_right (not (is_var x)) (mem x (f ∷ [])) h))))

      meets-coded : (d : Triple) → Tripled κ d → (f x : Bytes) → mem f (fields_of t) ≡ true → Spelled κ x → meets κ (matched_cell κ (numbers κ U) t d (coded κ U a)) f (suc (κ.term x)) ≡ same_cell (value_in f (matched_with a t d)) (some x)
      meets-coded d k f x m s =
          let w : Within κ (matched_with a t d) = within-merge κ a (given t d) ka (given-known d k) in
          ap (λ c. eqb c (suc (κ.term x))) (value-coded κ N (matched_with a t d) w (matched_cell κ (numbers κ U) t d (coded κ U a)) (matched-coded d) f (field-name f m))
          ∙ code_same κ (value_in f (matched_with a t d)) (some x) (known-value κ f (matched_with a t d) (constant-field f m) w) s

      triple-coded : (d : Triple) → Tripled κ d → is_triple κ (matched_cell κ (numbers κ U) t d (coded κ U a)) t d ≡ line_is (matched_with a t d) t d
      unfolding is_triple line_is
      triple-coded d k = ap₂ ◌&&◌ (meets-coded d k t.subj d.subj subj-in k.subj_is) (ap₂ ◌&&◌ (meets-coded d k t.pred d.pred pred_in k.pred-is) (meets-coded d k t.obj d.obj obj-in k.obj_is))

      row-coded : (W : List Bytes) → Sub W N → (g : List Triple) → Every (Tripled κ) g → each (λ d. when (is_triple κ (matched_cell κ (numbers κ U) t d (coded κ U a)) t d) (map (matched_cell κ (numbers κ U) t d (coded κ U a)) (numbers κ W))) g ≡ map (coded κ W) (each (λ d. when (line_is (matched_with a t d) t d) (matched_with a t d)) g)
      unfolding coded
      row-coded W wn g kg =
          each-every _ _ kg (λ d k. ap₂ when (triple-coded d k) (map-map _ κ.name W ∙ map-mem _ _ W (λ w m. matched-coded d w (wn w m))) ∙ sym (map-when (coded κ W) (line_is (matched_with a t d) t d) (matched_with a t d)))
          ∙ sym (map_each (coded κ W) (λ d. when (line_is (matched_with a t d) t d) (matched_with a t d)) g)

    step-coded : (S U W : List Bytes) → Sub S U → Sub U N → Sub W N → (g : List Triple) → Every (Tripled κ) g → {rows : List Row} → Every (Good κ S) rows → each (λ x. each (λ d. when (is_triple κ (matched_cell κ (numbers κ U) t d x) t d) (map (matched_cell κ (numbers κ U) t d x) (numbers κ W))) g) (map (coded κ U) rows) ≡ map (coded κ W) (matched_rows g t rows)
    unfolding matched_rows
    step-coded S U W su un wn g kg {rows} gs = each_map _ (coded κ U) rows ∙ (each-every _ _ gs (λ a ga. row-coded U un a (only-sub S U a su ga.only) ga.within W wn g kg) ∙ sym (map_each (coded κ W) _ rows))

    matched-within : (g : List Triple) → Every (Tripled κ) g → {rows : List Row} → Every (Within κ) rows → Every (Within κ) (matched_rows g t rows)
    unfolding matched_rows
    matched-within g kg ks = every-each _ (λ a ka. every-each (λ d. when (line_is (matched_with a t d) t d) (matched_with a t d)) (λ d kd. every-when (line_is (matched_with a t d) t d) (matched_with a t d) (within-merge κ a (given t d) ka (given-known d kd))) kg) ks

  -- ---- a line more

  module _ (g : List Triple) (kg : Spells κ (terms g)) (dg : Different same_triple g) where
    pub bgp-good : (ds : List Triple) → Every (Good κ (triple_variables ds)) (bgp_rows g ds)
    bgp-good ds = every_two (λ a oa ka. record { only = oa; within = ka }) (only-bgp g ds) (within-bgp κ g ds kg)

    module _ (ds : List Triple) (t : Triple) (dn : Sub (triple_variables ds) N) (vn : Sub (variables_of (fields_of t)) N) (ct : Spells κ (constant_fields (fields_of t))) where
      abbrev wide : List Bytes
      wide = columns_of (bgp (ds ++ (t ∷ [])))

      names_in : Sub (triple_variables (ds ++ (t ∷ []))) N
      names_in = subst (λ l. Sub l N) (sym (variables-last ds t)) (sub-append (triple_variables ds) (variables_of (fields_of t)) N dn vn)

      wide-in : Sub wide N
      unfolding variables_in_pattern
      wide-in v m = names_in v (columns-in (bgp (ds ++ (t ∷ []))) v m)

      narrow-in : Sub (columns_of (bgp ds)) N
      unfolding variables_in_pattern
      narrow-in v m = dn v (columns-in (bgp ds) v m)

      same-wide : (r x : Row) → same_on wide r x ≡ same_on (triple_variables (ds ++ (t ∷ []))) r x
      unfolding variables_in_pattern
      same-wide r x = same_names wide (triple_variables (ds ++ (t ∷ []))) r x (columns-in (bgp (ds ++ (t ∷ [])))) (in-columns (bgp (ds ++ (t ∷ []))))

      over-wide : (r : Row) (rows : List Row) → count (same_on wide) r rows ≡ count (same_on (triple_variables (ds ++ (t ∷ [])))) r rows
      unfolding count
      over-wide r rows = total-cong _ _ rows (λ x. ap tick (same-wide r x))

      -- how often a row stands among the matched ones, and in the bgp
      alike-counts : (r : Row) → count (same_on wide) r (matched_rows g t (bgp_rows g ds)) ≡ count (same_on wide) r (bgp_rows g (ds ++ (t ∷ [])))
      alike-counts r =
          over-wide r (matched_rows g t (bgp_rows g ds))
          ∙ (ap (λ l. count (same_on l) r (matched_rows g t (bgp_rows g ds))) (variables-last ds t)
          ∙ (matched-count g ds t r dg ∙ sym (over-wide r (bgp_rows g (ds ++ (t ∷ []))) ∙ by_rows g (ds ++ (t ∷ [])) r)))

      coded-counts : {rows : List Row} → Every (Within κ) rows → Every (λ x. count same_numbers x (map (coded κ wide) (matched_rows g t (bgp_rows g ds))) ≡ count same_numbers x (map (coded κ wide) (bgp_rows g (ds ++ (t ∷ []))))) (map (coded κ wide) rows)
      coded-counts ks = every_map (coded κ wide) (λ r kr. count-coded κ wide r kr (matched-within t vn ct g (all-tripled κ g kg) (within-bgp κ g ds kg)) ∙ (alike-counts r ∙ sym (count-coded κ wide r kr (within-bgp κ g (ds ++ (t ∷ [])) kg)))) ks

      pub step-holds : (s : Table) → Holds s (map (coded κ (columns_of (bgp ds))) (bgp_rows g ds)) → Holds (gather (matched κ g (line_columns κ ds) (line_columns κ (ds ++ (t ∷ []))) t s) []) (map (coded κ wide) (bgp_rows g (ds ++ (t ∷ []))))
      unfolding matched variables_in_pattern
      step-holds s h = gather-holds _ _
          (λ f.
          bag-match (λ x d. is_triple κ (matched_cell κ (line_columns κ ds) t d x) t d) (λ x d. map (matched_cell κ (line_columns κ ds) t d x) (line_columns κ (ds ++ (t ∷ [])))) g s (map (coded κ (columns_of (bgp ds))) (bgp_rows g ds)) h.bag f
          ∙ (ap (total f) (step-coded t vn ct (triple_variables ds) (columns_of (bgp ds)) wide (in-columns (bgp ds)) narrow-in wide-in g (all-tripled κ g kg) (bgp-good ds))
          ∙ counts-in (lexical ltb eqb) same_numbers rows-order f (map (coded κ wide) (matched_rows g t (bgp_rows g ds))) (map (coded κ wide) (bgp_rows g (ds ++ (t ∷ [])))) (coded-counts (matched-within t vn ct g (all-tripled κ g kg) (within-bgp κ g ds kg))) (coded-counts (within-bgp κ g (ds ++ (t ∷ [])) kg))))
          (match-positive (λ x d. is_triple κ (matched_cell κ (line_columns κ ds) t d x) t d) (λ x d. map (matched_cell κ (line_columns κ ds) t d x) (line_columns κ (ds ++ (t ∷ [])))) g s h.positive)

    -- ---- all lines

    pub from-holds : (ds ts : List Triple) → Sub (triple_variables ds) N → Sub (triple_variables ts) N → Spells κ (line_constants ts) → (s : Table) → Holds s (map (coded κ (columns_of (bgp ds))) (bgp_rows g ds)) → Holds (bgp_from κ g ds s ts) (map (coded κ (columns_of (bgp (ds ++ ts)))) (bgp_rows g (ds ++ ts)))
    unfolding bgp_from triple_variables line_constants each
    from-holds ds [] dn tn ct s h = subst (λ l. Holds s (map (coded κ (columns_of (bgp l))) (bgp_rows g l))) (sym (append-nothing ds)) h
    from-holds ds (t ∷ ts) dn tn ct s h =
        let vn : Sub (variables_of (fields_of t)) N = sub-left (variables_of (fields_of t)) (triple_variables ts) N tn in
        let cn : Spells κ (constant_fields (fields_of t)) = spells-left κ (constant_fields (fields_of t)) (line_constants ts) ct in
        subst (λ l. Holds (bgp_from κ g (ds ++ (t ∷ [])) (gather (matched κ g (line_columns κ ds) (line_columns κ (ds ++ (t ∷ []))) t s) []) ts) (map (coded κ (columns_of (bgp l))) (bgp_rows g l))) (append-group ds (t ∷ []) ts)
        (from-holds (ds ++ (t ∷ [])) ts (names_in ds t dn vn cn) (sub-right (variables_of (fields_of t)) (triple_variables ts) N tn) (spells-right κ (constant_fields (fields_of t)) (line_constants ts) ct) _ (step-holds ds t dn vn cn s h))

    own-small : (ds : List Triple) → Sub (triple_variables ds) N → (s : Table) → Holds s (map (coded κ (columns_of (bgp ds))) (bgp_rows g ds)) → is_small s ≡ table_fits g (bgp ds)
    unfolding variables_in_pattern eval
    own-small ds dn s h = small_is κ N inj g (bgp ds) (λ v m. dn v (columns-in (bgp ds) v m)) (bgp-good ds) s h

    pub from-small : (ds ts : List Triple) → Sub (triple_variables ds) N → Sub (triple_variables ts) N → Spells κ (line_constants ts) → (s : Table) → Holds s (map (coded κ (columns_of (bgp ds))) (bgp_rows g ds)) → bgp_small κ g ds s ts ≡ all (λ us. table_fits g (bgp (ds ++ us))) (starts ts)
    unfolding bgp_small starts all triple_variables line_constants each
    from-small ds [] dn tn ct s h = own-small ds dn s h ∙ (ap (λ l. table_fits g (bgp l)) (sym (append-nothing ds)) ∙ sym (and-true (table_fits g (bgp (ds ++ [])))))
      where
        and-true : (b : Bool) → (b && true) ≡ b
        and-true true = refl
        and-true false = refl
    from-small ds (t ∷ ts) dn tn ct s h =
        let vn : Sub (variables_of (fields_of t)) N = sub-left (variables_of (fields_of t)) (triple_variables ts) N tn in
        let cn : Spells κ (constant_fields (fields_of t)) = spells-left κ (constant_fields (fields_of t)) (line_constants ts) ct in
        ap₂ ◌&&◌ (own-small ds dn s h ∙ ap (λ l. table_fits g (bgp l)) (sym (append-nothing ds)))
        (from-small (ds ++ (t ∷ [])) ts (names_in ds t dn vn cn) (sub-right (variables_of (fields_of t)) (triple_variables ts) N tn) (spells-right κ (constant_fields (fields_of t)) (line_constants ts) ct) _ (step-holds ds t dn vn cn s h)
        ∙ (ap (λ f. all f (starts ts)) (fun_ext (λ us. ap (λ l. table_fits g (bgp l)) (append-group ds (t ∷ []) us))) ∙ sym (all_map (λ us. table_fits g (bgp (ds ++ us))) (λ ys. t ∷ ys) (starts ts))))

    -- before the first line
    pub unit-holds : Holds unit (map (coded κ (columns_of (bgp []))) (bgp_rows g []))
    unfolding bgp_rows ways each columns_of variables_in_pattern triple_variables once coded cells_of weigh total all
    unit-holds = record { bag = λ f. ap (λ n. n + 0) (one-mul (f [])); apart = dcons done dnil; positive = more one done }
      where
        one : 0 < 1
        one = omega arith
