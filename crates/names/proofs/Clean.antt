-- The names of a well formed tree have no line end, and its text ends in one: so a piece of the text that is such a name is as long as it says. Assumes nothing.
use Prim.Native.Nat.{ℕ, zero, suc, ◌+◌, ◌-◌, ◌≤◌, ◌<◌}
use mathlib.Core.Path.{◌≡◌, refl, sym, ◌∙◌, ap, subst}
use mathlib.Core.List.{List, [], ◌∷◌, ◌++◌}
use mathlib.Core.Bool.{Bool, true, false, cond, not, ◌&&◌, false≢true}
use native.Mathlib.Omega.{arith}
use lib.ListN.{length, get_or, drop, length-drop}
use lib.Seq.{take_all, length-take-le}
use lib.Dec.{eqb, leb}
use borrow.Author.Tests.{leb-true, leb-false}
use Rattle.text.specs.Text.{Bytes, Line, piece, ended, text_of}
use Rattle.text.specs.Field.{Kind, variable, node, name, plain, fits, clean, is_var}
use Rattle.text.proofs.Basics.{and_left, and_right}
use Rattle.text.proofs.Texts.{AllClean, fits-clean, all-clean}
use Rattle.algebra.specs.Tree.{Triple, Pattern, bgp, path, join, union, minus, leftjoin, filter, graph, extend, values, orderby, project, distinct, reduced, slice, group, service, Expression, term, bound, exists, apply, call, Condition, always, provided, Expressions, eend, econs, Orders, oend, ocons, Aggregates, aend, agg, aggall}
use Rattle.algebra.specs.Valid.{mem, Triples, Valid, ValidE, ValidC, ValidEs, ValidOs, ValidAs}
use Rattle.algebra.specs.Tally.{Tally, notes, noted, headed, tally_triples, tally_rows, tally, tally_e, tally_c, tally_es, tally_os, tally_as}
use Rattle.names.specs.Narrow.{StandsAt}

-- ---- the names that are counted are clean variables

abbrev pub Clean : List Bytes → Type 0
Clean [] = Unit {0}
Clean (f ∷ fs) = (clean f ≡ true) × (is_var f ≡ true) × Clean fs

clean-more : (f : Bytes) (ns : List Bytes) → clean f ≡ true → is_var f ≡ true → Clean ns → Clean (ns ++ (f ∷ []))
clean-more f [] c v h = (c, v, tt)
clean-more f (x ∷ xs) c v h = (h.0, h.1, clean-more f xs c v h.2)

pub clean_at : (ns : List Bytes) (i : ℕ) → i < length ns → Clean ns → (clean (get_or ns i []) ≡ true) × (is_var (get_or ns i []) ≡ true)
clean_at [] i k h = absurd (omega arith)
clean_at (x ∷ xs) zero k h = (h.0, h.1)
clean_at (x ∷ xs) (suc i) k h = clean_at xs i (omega arith) h.2

clean-notes : (fs ns : List Bytes) → AllClean fs → Clean ns → Clean (notes fs ns)
unfolding notes
clean-notes [] ns c h = h
clean-notes (f ∷ fs) ns c h = clean-notes fs _ c.1 (go (is_var f) (mem f ns) refl)
  where
    go : (b d : Bool) → is_var f ≡ b → Clean (cond b (cond d ns (ns ++ (f ∷ []))) ns)
    go true true e = h
    go true false e = clean-more f ns c.0 e h
    go false d e = h

clean-one : (k : Kind) (f : Bytes) (m : Tally) → fits k f ≡ true → Clean m.names → Clean (noted (f ∷ []) m).names
unfolding noted
clean-one k f m v h = clean-notes (f ∷ []) m.names (fits-clean k f v, tt) h

clean-triples : (ts : List Triple) (m : Tally) → Triples ts → Clean m.names → Clean (tally_triples ts m).names
unfolding Triples tally_triples noted
clean-triples [] m v h = h
clean-triples (x ∷ xs) m v h = clean-triples xs _ v.3 (clean-notes (x.subj ∷ x.pred ∷ x.obj ∷ []) m.names (fits-clean node x.subj v.0, (fits-clean name x.pred v.1, (fits-clean node x.obj v.2, tt))) h)

clean-rows : {A : Type 0} (rs : List A) (m : Tally) → Clean m.names → Clean (tally_rows rs m).names
unfolding tally_rows noted notes
clean-rows [] m h = h
clean-rows (r ∷ rs) m h = clean-rows rs _ h

mutual
  unfolding Valid tally noted headed notes

  pub clean-names : (p : Pattern) (m : Tally) → Valid p → Clean m.names → Clean (tally p m).names
  clean-names (bgp ts) m v h = clean-triples ts _ v.1 h
  clean-names (path s x o) m v h = clean-notes (s ∷ o ∷ []) m.names (fits-clean node s v.0, (fits-clean node o v.2, tt)) h
  clean-names (join p q) m v h = clean-names q _ v.1 (clean-names p _ v.0 h)
  clean-names (union p q) m v h = clean-names q _ v.1 (clean-names p _ v.0 h)
  clean-names (minus p q) m v h = clean-names q _ v.1 (clean-names p _ v.0 h)
  clean-names (leftjoin p q c) m v h = clean-names_c c _ v.2 (clean-names q _ v.1 (clean-names p _ v.0 h))
  clean-names (filter p e) m v h = clean-names_e e _ v.1 (clean-names p _ v.0 h)
  clean-names (graph x p) m v h = clean-names p _ v.1 (clean-one name x m v.0 h)
  clean-names (extend x p e) m v h = clean-names_e e _ v.2 (clean-names p _ v.1 (clean-one variable x m v.0 h))
  clean-names (values cs rs) m v h = clean-rows rs _ (clean-notes cs m.names (all-clean variable cs v.2) h)
  clean-names (orderby p os) m v h = clean-names_os os _ v.2 (clean-names p _ v.1 h)
  clean-names (project cs p) m v h = clean-names p _ v.1 (clean-notes cs m.names (all-clean variable cs v.0) h)
  clean-names (distinct p) m v h = clean-names p _ v h
  clean-names (reduced p) m v h = clean-names p _ v h
  clean-names (slice a n p) m v h = clean-names p _ v.2 h
  clean-names (group ks p rs) m v h = clean-names_as rs _ v.4 (clean-names p _ v.3 (clean-notes ks m.names (all-clean variable ks v.2) h))
  clean-names (service x f p) m v h = clean-names p _ v.2 (clean-one name x m v.0 h)

  clean-names_e : (e : Expression) (m : Tally) → ValidE e → Clean m.names → Clean (tally_e e m).names
  clean-names_e (term x) m v h = clean-one plain x m v h
  clean-names_e (bound x) m v h = clean-one variable x m v h
  clean-names_e (exists p) m v h = clean-names p _ v h
  clean-names_e (apply o es) m v h = clean-names_es es _ v.1 h
  clean-names_e (call x es) m v h = clean-names_es es _ v.2 h

  clean-names_c : (c : Condition) (m : Tally) → ValidC c → Clean m.names → Clean (tally_c c m).names
  clean-names_c always m v h = h
  clean-names_c (provided e) m v h = clean-names_e e m v h

  clean-names_es : (es : Expressions) (m : Tally) → ValidEs es → Clean m.names → Clean (tally_es es m).names
  clean-names_es eend m v h = h
  clean-names_es (econs e es) m v h = clean-names_es es _ v.1 (clean-names_e e m v.0 h)

  clean-names_os : (os : Orders) (m : Tally) → ValidOs os → Clean m.names → Clean (tally_os os m).names
  clean-names_os oend m v h = h
  clean-names_os (ocons d e os) m v h = clean-names_os os _ v.1 (clean-names_e e _ v.0 h)

  clean-names_as : (rs : Aggregates) (m : Tally) → ValidAs rs → Clean m.names → Clean (tally_as rs m).names
  clean-names_as aend m v h = h
  clean-names_as (agg x n f e rs) m v h = clean-names_as rs _ v.4 (clean-names_e e _ v.3 (clean-one variable x m v.0 h))
  clean-names_as (aggall x f rs) m v h = clean-names_as rs _ v.2 (clean-one variable x m v.0 h)

-- ---- a text ends in a line end

abbrev pub EndsLine : Bytes → Type 0
EndsLine [] = ⊥
EndsLine (x ∷ []) = x ≡ 10
EndsLine (x ∷ y ∷ ys) = EndsLine (y ∷ ys)

ends-behind : (f e : Bytes) → EndsLine e → EndsLine (f ++ e)
ends-behind [] e h = h
ends-behind (x ∷ f) e h = go (f ++ e) (ends-behind f e h)
  where
    go : (r : Bytes) → EndsLine r → EndsLine (x ∷ r)
    go [] i = absurd i
    go (y ∷ ys) i = i

ends-line : (l : Line) (r : Bytes) → EndsLine (10 ∷ r) → EndsLine (ended l r)
unfolding ended
ends-line [] r h = h
ends-line (f ∷ []) r h = ends-behind f (10 ∷ r) h
ends-line (f ∷ g ∷ fs) r h = ends-behind f (9 ∷ ended (g ∷ fs) r) (ends-behind (9 ∷ []) (ended (g ∷ fs) r) (ends-line (g ∷ fs) r h))

pub text-ends : (ls : List Line) → EndsLine (10 ∷ text_of ls)
unfolding text_of
text-ends [] = refl
text-ends (l ∷ ls) = ends-behind (10 ∷ []) (ended l (text_of ls)) (ends-line l (text_of ls) (text-ends ls))

ends-dropped : (n : ℕ) (s : Bytes) → EndsLine (10 ∷ s) → 1 ≤ length (drop n s) → EndsLine (drop n s)
ends-dropped zero [] h k = absurd (omega arith)
ends-dropped zero (y ∷ ys) h k = h
ends-dropped (suc n) [] h k = absurd (omega arith)
ends-dropped (suc n) (y ∷ []) h k = ends-dropped n [] refl k
ends-dropped (suc n) (y ∷ z ∷ zs) h k = ends-dropped n (z ∷ zs) h k

not-clean : (f : Bytes) → EndsLine f → clean f ≡ true → ⊥
unfolding clean
not-clean [] h c = h
not-clean (x ∷ []) h c = false≢true (subst (λ y. clean (y ∷ []) ≡ true) h c)
not-clean (x ∷ y ∷ ys) h c = not-clean (y ∷ ys) h (and_right (not (eqb x 10)) (clean (y ∷ ys)) (and_right (not (eqb x 9)) (not (eqb x 10) && clean (y ∷ ys)) c))

-- a piece of a text that is a clean variable has as many bytes as it says, and they stand in the text
pub piece-whole : (s f : Bytes) (at size : ℕ) → EndsLine (10 ∷ s) → piece at size s ≡ f → clean f ≡ true → is_var f ≡ true → StandsAt s f at × (size ≡ length f)
unfolding is_var
piece-whole s f at size ends is c v = go (leb size (length s - at)) refl
  where
    long : 2 ≤ length f
    long = leb-true 2 (length f) (and_left (leb 2 (length f)) (leb (length f) 129 && eqb (get_or f 0 0) 63) v)

    go : (b : Bool) → leb size (length s - at) ≡ b → StandsAt s f at × (size ≡ length f)
    go true e =
        let low : size ≤ length (drop at s) = rw (length-drop at s) (leb-true size (length s - at) e) in
        let same : length f ≡ size = ap length (sym is) ∙ length-take-le size (drop at s) low in
        let d = length-drop at s in
        (record { inside = omega (arith, long); here = ap (λ n. piece at n s) same ∙ is }, sym same)
    go false e =
        let high = leb-false size (length s - at) e in
        let d = length-drop at s in
        let all : drop at s ≡ f = sym (take_all size (drop at s) (omega arith)) ∙ is in
        absurd (not-clean f (subst EndsLine all (ends-dropped at s ends (let l = ap length all in omega (arith, long)))) c)
