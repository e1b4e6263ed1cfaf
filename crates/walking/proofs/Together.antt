-- Two walks over the same lines keep whatever each line keeps. Assumes nothing.
use Prim.Native.Nat.{ℕ, zero, suc}
use mathlib.Core.Path.{◌≡◌, refl, ap, ◌∙◌}
use mathlib.Core.List.{List, [], ◌∷◌}
use mathlib.Core.Bool.{Bool, true, false, cond, ◌&&◌}
use lib.ListN.{get_or}
use lib.Dec.{eqb}
use Rattle.text.specs.Text.{Bytes, Line}
use Rattle.algebra.specs.bridge.Table.{Sort, triples, columns, patterns, expressions, rows, orders, aggregates, heads, sets, positions, value_rows, parts, Below, Row, row_for}
use Rattle.algebra.specs.bridge.Machine.{amount_of}
use Rattle.scoping.specs.bridge.Places.{Mark, silent, under}
use Rattle.scoping.specs.bridge.Walk.{State, state, row_or, number_in, hides, times, head_amount, part, child, beneath, whole, tree}

-- both stand before the same lines, and what is kept holds of them
pub record Both {O P : Type 0} (R : List Line → O → P → Type 0) (a : State O) (b : State P) : Type 0 where
  pub lines : List Line
  pub one : O
  pub other : P
  pub left : a ≡ state lines one
  pub right : b ≡ state lines other
  pub kept : R lines one other

abbrev Keep : {O P : Type 0} (R : List Line → O → P → Type 0) → (State O → State O) → (State P → State P) → Type 0
Keep {O} {P} R F G = (ls : List Line) (o : O) (p : P) → R ls o p → Both R (F (state ls o)) (G (state ls p))

module _ {O P : Type 0} (R : List Line → O → P → Type 0) where
  stay : Keep R (λ a. a) (λ b. b)
  stay ls o p r = record { lines = ls; one = o; other = p; left = refl; right = refl; kept = r }

  onward : {a : State O} {b : State P} (F : State O → State O) (G : State P → State P) → Both R a b → Keep R F G → Both R (F a) (G b)
  onward F G x h =
      let n = h x.lines x.one x.other x.kept in
      record { lines = n.lines; one = n.one; other = n.other; left = ap F x.left ∙ n.left; right = ap G x.right ∙ n.right; kept = n.kept }

  times-both : (F : Bool → State O → State O) (G : Bool → State P → State P) → ((b : Bool) → Keep R (F b) (G b)) → (n : ℕ) → Keep R (times F n) (times G n)
  unfolding times
  times-both F G h zero = stay
  times-both F G h (suc n) = λ ls o p r. onward (times F n) (times G n) (h (eqb n 0) ls o p r) (times-both F G h n)

  module _ (f : Sort → Mark → Row → Bytes → List Bytes → O → O) (g : Sort → Mark → Row → Bytes → List Bytes → P → P)
      (line : (s : Sort) (m : Mark) (r : Row) (w : Bytes) (fs : List Bytes) (ls : List Line) (o : O) (p : P) → R ((w ∷ fs) ∷ ls) o p → R ls (f s m r w fs o) (g s m r w fs p))
      (none : (ls : List Line) (o : O) (p : P) → R ([] ∷ ls) o p → R ls o p) where
    module _ (T : Sort → Mark → State O → State O) (U : Sort → Mark → State P → State P) (h : (s : Sort) (m : Mark) → Keep R (T s m) (U s m)) where
      part-both : (s : Sort) (m : Mark) (ls : List Line) (o : O) (p : P) → R ls o p → Both R (part f T s m ls o) (part g U s m ls p)
      unfolding part
      part-both s m [] o p r = stay [] o p r
      part-both s m ([] ∷ ls) o p r = stay ls o p (none ls o p r)
      part-both s m ((w ∷ fs) ∷ ls) o p r = go (eqb (head_amount (row_or (row_for s w)).below (number_in (get_or fs 0 []) ∷ number_in (get_or fs 1 []) ∷ [])) 0)
        where
          o' : O
          o' = f s m (row_or (row_for s w)) w fs o

          p' : P
          p' = g s m (row_or (row_for s w)) w fs p

          r' : R ls o' p'
          r' = line s m (row_or (row_for s w)) w fs ls o p r

          go : (t : Bool) → Both R (cond t (state ls o') (T expressions silent (state ls o'))) (cond t (state ls p') (U expressions silent (state ls p')))
          go true = stay ls o' p' r'
          go false = h expressions silent ls o' p' r'

      child-both : (hide : Bool) (m : Mark) (s : Sort) (last : Bool) → Keep R (child f T hide m s last) (child g U hide m s last)
      unfolding child
      child-both hide m triples last = part-both triples m
      child-both hide m columns last = part-both columns m
      child-both hide m patterns last = h patterns (cond (hide && last) (under m) m)
      child-both hide m expressions last = h expressions silent
      child-both hide m rows last = part-both rows m
      child-both hide m orders last = part-both orders m
      child-both hide m aggregates last = part-both aggregates m
      child-both hide m heads last = stay
      child-both hide m sets last = stay
      child-both hide m positions last = stay
      child-both hide m value_rows last = stay
      child-both hide m parts last = stay

      beneath-both : (hide : Bool) (m : Mark) (bs : List Below) (cs : List ℕ) → Keep R (beneath f T hide m bs cs) (beneath g U hide m bs cs)
      unfolding beneath
      beneath-both hide m [] cs = stay
      beneath-both hide m (b ∷ bs) cs = λ ls o p r.
          onward (beneath f T hide m bs cs) (beneath g U hide m bs cs)
          (times-both (child f T hide m b.sort) (child g U hide m b.sort) (child-both hide m b.sort) (amount_of b.amount cs) ls o p r)
          (beneath-both hide m bs cs)

      whole-both : (s : Sort) (m : Mark) (ls : List Line) (o : O) (p : P) → R ls o p → Both R (whole f T s m ls o) (whole g U s m ls p)
      unfolding whole
      whole-both s m [] o p r = stay [] o p r
      whole-both s m ([] ∷ ls) o p r = stay ls o p (none ls o p r)
      whole-both s m ((w ∷ fs) ∷ ls) o p r =
          beneath-both (hides w) m (row_or (row_for s w)).below (number_in (get_or fs 0 []) ∷ number_in (get_or fs 1 []) ∷ []) ls _ _ (line s m (row_or (row_for s w)) w fs ls o p r)

    pub tree-both : (d : ℕ) (s : Sort) (m : Mark) → Keep R (tree f d s m) (tree g d s m)
    unfolding tree
    tree-both zero s m = stay
    tree-both (suc d) s m = whole-both (tree f d) (tree g d) (tree-both d) s m
