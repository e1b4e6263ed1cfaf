-- Rows under columns: a row is the row of its cells, a renamed pattern has the same answer under the renamed columns, and more columns spread an answer. Assumes nothing.
use mathlib.Core.Path.{◌≡◌, refl, sym, ◌∙◌, ap, ap₂, fun_ext}
use mathlib.Core.Bool.{Bool, true, false, cond, ◌||◌}
use mathlib.Core.List.{List, [], ◌∷◌, ◌++◌, map}
use mathlib.Core.Option.{none, some}
use Rattle.text.specs.Text.{Bytes, same}
use Rattle.text.specs.Field.{is_var}
use Rattle.text.proofs.Basics.{same-eq}
use Rattle.algebra.specs.Tree.{Triple, Pattern}
use Rattle.algebra.specs.Valid.{mem}
use Rattle.scoping.specs.Variables.{scope_of}
use Rattle.scoping.specs.Rename.{rename_in_graph_pattern}
use Rattle.scoping.specs.bridge.Sets.{Sub, Inj}
use Rattle.counting.specs.Bag.{total, tick, count}
use Rattle.counting.specs.Row.{Cell, Row, bind, named, cells, cut, same_row}
use Rattle.counting.specs.Scope.{names}
use Rattle.counting.specs.Answer.{eval, answer}
use Rattle.scoping.proofs.Basics.{split, either, mem-here, mem-there, mem-left, mem-right, map-map}
use Rattle.counting.proofs.Every.{map-every}
use Rattle.counting.proofs.Sums.{total-map}
use Rattle.counting.proofs.Only.{Only, only-in}
use Rattle.counting.proofs.Push.{push, push_at}
use Rattle.counting.proofs.Rename.{eval-renamed}

pub cells_in : (f h : Row) (cs : List Bytes) → ((v : Bytes) → mem v cs ≡ true → f v ≡ h v) → cells cs f ≡ cells cs h
cells_in f h [] e = refl
cells_in f h (c ∷ cs) e = ap₂ ◌∷◌ (e c (mem-here c cs)) (cells_in f h cs (λ v m. e v (mem-there v c cs m)))

pub cells_cut : (cs : List Bytes) (r : Row) → cells cs (cut cs r) ≡ cells cs r
unfolding cut
cells_cut cs r = cells_in (cut cs r) r cs (λ v m. ap (λ c. cond c (r v) none) m)

-- ---- a row, cut, is the row of its cells

cond-none : (c : Bool) (x : Cell) → x ≡ none → cond c x none ≡ none
cond-none true x e = e
cond-none false x e = refl

cut-skip : (c : Bytes) (cs : List Bytes) (r : Row) (w : Bytes) → r c ≡ none → (b : Bool) → same w c ≡ b → cond (mem w cs) (r w) none ≡ cond (b || mem w cs) (r w) none
cut-skip c cs r w n true e = cond-none (mem w cs) (r w) (ap r (same-eq w c e) ∙ n) ∙ sym (ap r (same-eq w c e) ∙ n)
cut-skip c cs r w n false e = refl

cut-bind : (c t : Bytes) (cs : List Bytes) (r : Row) (w : Bytes) → r c ≡ some t → (b : Bool) → same w c ≡ b → cond b (some t) (cond (mem w cs) (r w) none) ≡ cond (b || mem w cs) (r w) none
cut-bind c t cs r w n true e = sym (ap r (same-eq w c e) ∙ n)
cut-bind c t cs r w n false e = refl

named_step : (c : Bytes) (cs : List Bytes) (r : Row) (x : Cell) → r c ≡ x → named cs (cells cs r) ≡ cut cs r → named (c ∷ cs) (x ∷ cells cs r) ≡ cut (c ∷ cs) r
unfolding named cut bind mem
named_step c cs r none n ih = ih ∙ fun_ext (λ w. cut-skip c cs r w n (same w c) refl)
named_step c cs r (some t) n ih = ap (bind c t) ih ∙ fun_ext (λ w. cut-bind c t cs r w n (same w c) refl)

pub named-cells : (cs : List Bytes) (r : Row) → named cs (cells cs r) ≡ cut cs r
unfolding named cut mem
named-cells [] r = refl
named-cells (c ∷ cs) r = named_step c cs r (r c) refl (named-cells cs r)

-- a row that binds only names of U is the row of its cells there
pub row-of-cells : (U : List Bytes) (r : Row) → Only U r → named U (cells U r) ≡ r
unfolding cut
row-of-cells U r o = named-cells U r ∙ fun_ext (λ w. either (λ m. ap (λ c. cond c (r w) none) m) (λ n. ap (λ c. cond c (r w) none) n ∙ sym (o w n)) (split (mem w U)))

-- ---- answers

-- a count in an answer, over the rows themselves
pub count-rows : (U : List Bytes) (m : List Cell) (g : List Triple) (p : Pattern) → count same_row m (answer U g p) ≡ total (λ a. tick (same_row m (cells U a))) (eval g p)
unfolding count answer
count-rows U m g p = total-map (λ x. tick (same_row m x)) (cells U) (eval g p)

-- the renamed pattern has the same answer under the renamed columns
pub answer-renamed : (f : Bytes → Bytes) (g : List Triple) (p : Pattern) (cs : List Bytes) → Inj (cs ++ names p) f → ((v : Bytes) → mem v (cs ++ names p) ≡ true → is_var (f v) ≡ true) → answer (map f cs) g (rename_in_graph_pattern f p) ≡ answer cs g p
unfolding answer
answer-renamed f g p cs inj new =
    ap (map (cells (map f cs))) (eval-renamed (cs ++ names p) f inj new g p (λ v. mem-right v cs (names p)))
    ∙ (map-map (cells (map f cs)) (push (cs ++ names p) f) (eval g p)
    ∙ ap (λ k. map k (eval g p)) (fun_ext (λ r. map-map (push (cs ++ names p) f r) f cs ∙ cells_in (λ v. push (cs ++ names p) f r (f v)) r cs (λ v m. push_at (cs ++ names p) f inj r v (mem-left v cs (names p) m)))))

-- over other columns the rows spread: those in scope decide
pub answer-spread : (U cs : List Bytes) (g : List Triple) (p : Pattern) → Sub (scope_of p) U → answer cs g p ≡ map (λ xs. cells cs (named U xs)) (answer U g p)
unfolding answer
answer-spread U cs g p s =
    map-every (cells cs) (λ r. cells cs (named U (cells U r))) (only-in U g p s) (λ r o. ap (cells cs) (sym (row-of-cells U r o)))
    ∙ sym (map-map (λ xs. cells cs (named U xs)) (cells U) (eval g p))
