-- The printed table of a projection is its printed answer. Assumes nothing.
use mathlib.Core.Path.{◌≡◌, refl, sym, ◌∙◌, ap, ap₂, subst}
use mathlib.Core.Bool.{Bool, true, false, cond, ◌&&◌}
use mathlib.Core.List.{List, [], ◌∷◌, map}
use mathlib.Core.Option.{none, some}
use Prim.Native.Nat.{ℕ}
use lib.Dec.{eqb, ltb}
use Rattle.text.specs.Text.{Bytes, Line, same, text_of}
use Rattle.text.specs.Word.{bytes}
use Rattle.text.proofs.Basics.{same_refl, same-eq}
use Rattle.algebra.specs.Tree.{Triple, Pattern, project}
use Rattle.scoping.specs.Sets.{all, any}
use Rattle.scoping.specs.Variables.{variables_in_pattern}
use Rattle.scoping.specs.bridge.Sets.{Sub}
use Rattle.scoping.proofs.Basics.{clash, not-true, or_inl, or_inr, map-map, any-map}
use Rattle.counting.specs.Bag.{once, total, tick, count}
use Rattle.counting.specs.Row.{Cell, same_cell, Row, cells, same_on}
use Rattle.counting.specs.Answer.{eval, answer}
use Rattle.counting.proofs.Every.{Every, done, more, every-imp, every_map, every_two, map-every}
use Rattle.counting.proofs.Sums.{total-map, total-every}
use Rattle.counting.proofs.Only.{only-sub}
use Rattle.evaluating.specs.Order.{alike, lexical, row_before, placed, sorted}
use Rattle.evaluating.specs.Print.{printed_cell, same_fields, row_line, printed}
use Rattle.evaluating.specs.bridge.Numbers.{Numbers, code, coded, numbers, spelt, Spelled, NamesApart, NoDash}
use Rattle.evaluating.specs.bridge.Cells.{same_numbers}
use Rattle.evaluating.specs.bridge.Table.{Table}
use Rattle.evaluating.specs.bridge.Tables.{columns_of, numbers_of}
use Rattle.evaluating.specs.bridge.Text.{shown, entry_before, table_text}
use Rattle.evaluating.proofs.Sorted.{Different, dnil, dcons, every_any, every-sorted, sorted-same}
use Rattle.evaluating.proofs.Orders.{rows-order, printed-order, once-different}
use Rattle.evaluating.proofs.Bags.{Holds, cells_of, counted, count_at, holds-any, holds-member, any-once}
use Rattle.evaluating.proofs.Coded.{map-mem, Known, Within, look-coded, same_coded}
use Rattle.evaluating.proofs.Rows.{Good}
use Rattle.evaluating.proofs.Fits.{in-columns, columns-in}
use Rattle.evaluating.proofs.BgpTable.{same_names}

-- ---- order by a key

placed-map : {A B : Type 0} (lt : B → B → Bool) (k : A → B) (x : A) (ys : List A) → placed lt (k x) (map k ys) ≡ map k (placed (λ a b. lt (k a) (k b)) x ys)
unfolding placed
placed-map lt k x [] = refl
placed-map {A = A} lt k x (y ∷ ys) = go (lt (k y) (k x)) (placed-map lt k x ys)
  where
    go : (b : Bool) → placed lt (k x) (map k ys) ≡ map k (placed (λ a b. lt (k a) (k b)) x ys) → cond b (k y ∷ placed lt (k x) (map k ys)) (k x ∷ k y ∷ map k ys) ≡ map k (cond b (y ∷ placed (λ a b. lt (k a) (k b)) x ys) (x ∷ y ∷ ys))
    go true e = ap (λ l. k y ∷ l) e
    go false e = refl

pub sorted-map : {A B : Type 0} (lt : B → B → Bool) (k : A → B) (xs : List A) → sorted lt (map k xs) ≡ map k (sorted (λ a b. lt (k a) (k b)) xs)
unfolding sorted
sorted-map lt k [] = refl
sorted-map lt k (x ∷ xs) = ap (placed lt (k x)) (sorted-map lt k xs) ∙ placed-map lt k x (sorted (λ a b. lt (k a) (k b)) xs)

-- ---- different elements under another name

every-two-map : {A B : Type 0} {P : A → Type 0} (eq : A → A → Bool) (eq' : B → B → Bool) (h : A → B) (x : A) {ys : List A} → P x → Every P ys → Every (λ y. eq x y ≡ false) ys → ((x y : A) → P x → P y → eq' (h x) (h y) ≡ eq x y) → Every (λ z. eq' (h x) z ≡ false) (map h ys)
every-two-map eq eq' h x p done done e = done
every-two-map eq eq' h x p (more {x = y} q r) (more n ns) e = more (e x y p q ∙ n) (every-two-map eq eq' h x p r ns e)

different-map : {A B : Type 0} {P : A → Type 0} (eq : A → A → Bool) (eq' : B → B → Bool) (h : A → B) {xs : List A} → Every P xs → Different eq xs → ((x y : A) → P x → P y → eq' (h x) (h y) ≡ eq x y) → Different eq' (map h xs)
different-map eq eq' h done dnil e = dnil
different-map eq eq' h (more {x = x} p r) (dcons n d) e = dcons (every-two-map eq eq' h x p r n e) (different-map eq eq' h r d e)

-- an element of a list stands in it
self-any : {A : Type 0} (eq : A → A → Bool) → ((x : A) → eq x x ≡ true) → (xs : List A) → Every (λ x. any (eq x) xs ≡ true) xs
unfolding any
self-any eq self [] = done
self-any eq self (x ∷ xs) = more (or_inl (eq x x) (any (eq x) xs) (self x)) (every-imp (λ y h. or_inr (eq y x) (any (eq y) xs) h) (self-any eq self xs))

every-unmap : {A B : Type 0} {P : B → Type 0} (f : A → B) (xs : List A) → Every P (map f xs) → Every (λ x. P (f x)) xs
every-unmap f [] h = done
every-unmap f (x ∷ xs) (more p r) = more p (every-unmap f xs r)

-- ---- printed cells

module _ (κ : Numbers) (nd : NoDash κ) where
  spelt-code : (c : Cell) → Known κ c → spelt κ (code κ c) ≡ printed_cell c
  spelt-code none k = refl
  spelt-code (some t) k = k

  no-dash : (t : Bytes) → Spelled κ t → same t (bytes "-") ≡ false
  no-dash t s = subst (λ x. same x (bytes "-") ≡ false) s (nd (κ.term t))

  printed-same : (c d : Cell) → Known κ c → Known κ d → same (printed_cell c) (printed_cell d) ≡ same_cell c d
  unfolding same_cell
  printed-same none none k l = same_refl (bytes "-")
  printed-same none (some t) k l = not-true (same (bytes "-") t) (λ e. clash (subst (λ x. same x (bytes "-") ≡ true) (same-eq (bytes "-") t e) (same_refl (bytes "-"))) (no-dash t l))
  printed-same (some t) none k l = no-dash t k
  printed-same (some s) (some t) k l = refl

  pub row_same : (cs : List Bytes) (a b : Row) → Within κ a → Within κ b → same_fields (map printed_cell (cells cs a)) (map printed_cell (cells cs b)) ≡ same_on cs a b
  unfolding same_fields alike same_on all
  row_same [] a b k l = refl
  row_same (c ∷ cs) a b k l = ap₂ ◌&&◌ (printed-same (a c) (b c) (k c) (l c)) (row_same cs a b k l)

  module _ (N : List Bytes) (inj : NamesApart κ N) (cs : List Bytes) (cn : Sub cs N) (U : List Bytes) (cu : Sub cs U) (uc : Sub U cs) where
    un : Sub U N
    un v m = cn v (uc v m)

    shown-coded : (r : Row) → Good κ cs r → shown κ (numbers κ U) cs (coded κ U r) ≡ map printed_cell (cells cs r)
    unfolding shown
    shown-coded r gr = map-mem _ _ cs (λ c m. ap (spelt κ) (look-coded κ N inj U r c un (only-sub cs U r cu gr.only) (cn c m)) ∙ spelt-code (r c) (gr.within c)) ∙ sym (map-map printed_cell r cs)

    -- x is a good row in numbers
    Is : List ℕ → Type 0
    Is x = (r : Row) × Good κ cs r × (x ≡ coded κ U r)

    every-is : {rows : List Row} → Every (Good κ cs) rows → Every Is (map (coded κ U) rows)
    unfolding Is
    every-is gs = every_map (coded κ U) (λ r gr. (r, gr, refl)) gs

    shown-same : (x y : List ℕ) → Is x → Is y → same_fields (shown κ (numbers κ U) cs x) (shown κ (numbers κ U) cs y) ≡ same_numbers x y
    unfolding Is
    shown-same x y ix iy =
        let a : Row = ix.0 in
        let b : Row = iy.0 in
        ap₂ same_fields (ap (shown κ (numbers κ U) cs) ix.2 ∙ shown-coded a ix.1) (ap (shown κ (numbers κ U) cs) iy.2 ∙ shown-coded b iy.1)
        ∙ (row_same cs a b ix.1.within iy.1.within ∙ (same_names cs U a b cu uc ∙ (sym (same_coded κ U a b ix.1.within iy.1.within) ∙ ap₂ same_numbers (sym ix.2) (sym iy.2))))

    module _ (rows : List Row) (gs : Every (Good κ cs) rows) (t : Table) (h : Holds t (map (coded κ U) rows)) where
      abbrev xs : List (List ℕ)
      xs = map (coded κ U) rows

      abbrev show : List ℕ → List Bytes
      show = shown κ (numbers κ U) cs

      abbrev lines : List (List Bytes)
      lines = map (λ r. map printed_cell (cells cs r)) rows

      lines_are : map show xs ≡ lines
      lines_are = map-map show (coded κ U) rows ∙ map-every _ _ gs (λ r gr. shown-coded r gr)

      entries-are : Every Is (cells_of t)
      entries-are = every-imp (λ x k. every_any (lexical ltb eqb) same_numbers rows-order x (every-is gs) (sym (holds-member t xs h x) ∙ k)) (self-any same_numbers rows-order.self (cells_of t))

      entries-different : Different same_fields (map show (cells_of t))
      entries-different = different-map same_numbers same_fields show entries-are h.apart shown-same

      same_lines : (m : List Bytes) → any (same_fields m) (map show (cells_of t)) ≡ any (same_fields m) (once same_fields lines)
      unfolding cells_of
      same_lines m =
          any-map (same_fields m) show (cells_of t)
          ∙ (any-map (λ x. same_fields m (show x)) (λ e. e.cells) t
          ∙ (holds-any t xs h (λ x. same_fields m (show x))
          ∙ (sym (any-map (same_fields m) show xs) ∙ (ap (any (same_fields m)) lines_are ∙ sym (any-once row_before same_fields printed-order m lines)))))

      in_order : sorted row_before (once same_fields lines) ≡ map (λ e. show e.cells) (sorted (entry_before κ (numbers κ U) cs) t)
      unfolding cells_of
      in_order =
          sym (sorted-same row_before same_fields printed-order (map show (cells_of t)) (once same_fields lines) entries-different (once-different same_fields lines) same_lines)
          ∙ (ap (sorted row_before) (map-map show (λ e. e.cells) t) ∙ sorted-map row_before (λ e. show e.cells) t)

      entry-count : Every (λ e. count same_fields (show e.cells) lines ≡ e.count) t
      unfolding count cells_of counted
      entry-count = every_two (λ e ie k.
          ap (total (λ l. tick (same_fields (show e.cells) l))) (sym lines_are)
          ∙ (total-map (λ l. tick (same_fields (show e.cells) l)) show xs
          ∙ (total-every _ _ (every-imp (λ x ix. ap tick (shown-same e.cells x ie ix)) (every-is gs))
          ∙ (sym (h.bag (λ x. tick (same_numbers e.cells x))) ∙ k))))
          (every-unmap (λ e. e.cells) t entries-are) (count_at t h.apart)

      pub text-is : printed cs lines ≡ table_text κ (numbers κ U) cs t
      unfolding printed table_text
      text-is = ap (λ (l : List Line). text_of ((bytes "cols" ∷ cs) ∷ l))
          (ap (map (λ x. row_line x (count same_fields x lines))) in_order
          ∙ (map-map (λ x. row_line x (count same_fields x lines)) (λ e. show e.cells) (sorted (entry_before κ (numbers κ U) cs) t)
          ∙ map-every _ _ (every-sorted (entry_before κ (numbers κ U) cs) entry-count) (λ e k. ap (row_line (show e.cells)) k)))

-- the printed table of a projection is its printed answer
pub answer-is : (κ : Numbers) → NoDash κ → (N : List Bytes) → NamesApart κ N → (g : List Triple) (cs : List Bytes) (p : Pattern) → Sub cs N → Every (Good κ cs) (eval g (project cs p)) → (t : Table) → Holds t (map (coded κ (columns_of (project cs p))) (eval g (project cs p)))
    → printed cs (map (map printed_cell) (answer cs g (project cs p))) ≡ table_text κ (numbers_of κ (project cs p)) cs t
unfolding answer variables_in_pattern
answer-is κ nd N inj g cs p cn gs t h =
    ap (printed cs) (map-map (map printed_cell) (cells cs) (eval g (project cs p)))
    ∙ text-is κ nd N inj cs cn (columns_of (project cs p)) (in-columns (project cs p)) (columns-in (project cs p)) (eval g (project cs p)) gs t h
