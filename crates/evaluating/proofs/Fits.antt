-- A pattern's rows in numbers are as many, and each as often, as its rows. Assumes nothing.
use mathlib.Core.Path.{◌≡◌, sym, ◌∙◌, ap, ap₂}
use mathlib.Core.Bool.{◌&&◌}
use mathlib.Core.List.{List, map}
use lib.Dec.{leb}
use lib.ListN.{length}
use Rattle.text.specs.Text.{Bytes}
use Rattle.text.specs.Field.{most}
use Rattle.algebra.specs.Tree.{Triple, Pattern}
use Rattle.scoping.specs.Variables.{scope_of}
use Rattle.scoping.specs.bridge.Sets.{Sub}
use Rattle.scoping.proofs.Basics.{all_map}
use Rattle.counting.specs.Bag.{once, tick, count}
use Rattle.counting.specs.Row.{Row, cells, same_on, same_row}
use Rattle.counting.specs.Answer.{eval, answer}
use Rattle.counting.proofs.Basics.{once-map}
use Rattle.counting.proofs.Every.{Every, every-imp}
use Rattle.counting.proofs.Sums.{total-every, total-map}
use Rattle.counting.proofs.Bgp.{same_row-cells}
use Rattle.counting.proofs.Wider.{same_on-wider}
use Rattle.evaluating.specs.Bounds.{most_rows, few_rows, table_fits}
use Rattle.evaluating.specs.bridge.Numbers.{Numbers, coded, NamesApart}
use Rattle.evaluating.specs.bridge.Cells.{same_numbers}
use Rattle.evaluating.specs.bridge.Table.{Table, is_small}
use Rattle.evaluating.specs.bridge.Tables.{columns_of}
use Rattle.evaluating.proofs.Bags.{Holds, few_in, holds-small, length-map, all-every}
use Rattle.evaluating.proofs.Coded.{Within, mem-once, same_coded}
use Rattle.evaluating.proofs.Rows.{Good, once-coded}

-- columns are the variables in scope
pub in-columns : (p : Pattern) → Sub (scope_of p) (columns_of p)
unfolding columns_of
in-columns p v m = mem-once v (scope_of p) ∙ m

pub columns-in : (p : Pattern) → Sub (columns_of p) (scope_of p)
unfolding columns_of
columns-in p v m = sym (mem-once v (scope_of p)) ∙ m

-- how often a row stands among rows, in numbers
pub count-coded : (κ : Numbers) (U : List Bytes) (r : Row) {rows : List Row} → Within κ r → Every (Within κ) rows → count same_numbers (coded κ U r) (map (coded κ U) rows) ≡ count (same_on U) r rows
unfolding count
count-coded κ U r {rows} k h = total-map (λ x. tick (same_numbers (coded κ U r) x)) (coded κ U) rows ∙ total-every _ _ (every-imp (λ b kb. ap tick (same_coded κ U r b k kb)) h)

module _ (κ : Numbers) (N : List Bytes) (inj : NamesApart κ N) (S U : List Bytes) (su : Sub S U) (us : Sub U S) (un : Sub U N) where
  few-length : {rows : List Row} → Every (Good κ S) rows → length (once same_numbers (map (coded κ U) rows)) ≡ length (once same_row (map (cells S) rows))
  few-length {rows} gs =
      ap length (once-coded κ N inj S U su un us gs)
      ∙ (length-map (coded κ U) (once (same_on S) rows)
      ∙ (sym (length-map (cells S) (once (same_on S) rows)) ∙ ap length (sym (once-map same_row (same_on S) (cells S) rows (λ a b. same_row-cells S a b)))))

  few-count : (a : Row) {rows : List Row} → Good κ S a → Every (Good κ S) rows → count same_numbers (coded κ U a) (map (coded κ U) rows) ≡ count same_row (cells S a) (map (cells S) rows)
  unfolding count
  few-count a {rows} ga gs =
      count-coded κ U a ga.within (every-imp (λ b gb. gb.within) gs)
      ∙ (total-every _ _ (every-imp (λ b gb. ap tick (same_on-wider U S a b su ga.only gb.only ∙ sym (same_row-cells S a b))) gs)
      ∙ sym (total-map (λ x. tick (same_row (cells S a) x)) (cells S) rows))

  pub few-coded : {rows : List Row} → Every (Good κ S) rows → few_in (map (coded κ U) rows) ≡ few_rows (map (cells S) rows)
  unfolding few_in few_rows
  few-coded {rows} gs = ap₂ (λ a b. leb a most_rows && b) (few-length gs)
      (all_map (λ x. leb (count same_numbers x (map (coded κ U) rows)) most) (coded κ U) rows
      ∙ (all-every _ _ (every-imp (λ a ga. ap (λ n. leb n most) (few-count a ga gs)) gs)
      ∙ sym (all_map (λ x. leb (count same_row x (map (cells S) rows)) most) (cells S) rows)))

-- a table that holds a pattern's rows is within the bounds exactly if the pattern's own table is
pub small_is : (κ : Numbers) (N : List Bytes) → NamesApart κ N → (g : List Triple) (p : Pattern) → Sub (columns_of p) N → Every (Good κ (scope_of p)) (eval g p) → (t : Table) → Holds t (map (coded κ (columns_of p)) (eval g p)) → is_small t ≡ table_fits g p
unfolding table_fits answer
small_is κ N inj g p un gs t h = holds-small t (map (coded κ (columns_of p)) (eval g p)) h ∙ few-coded κ N inj (scope_of p) (columns_of p) (in-columns p) (columns-in p) un gs
