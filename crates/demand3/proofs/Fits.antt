-- Demand 3's premises and the laws of naming make the two sides of a merge fit. Assumes nothing.
use mathlib.Core.Path.{◌≡◌, refl, sym, ◌∙◌, ap, ap₂, subst}
use mathlib.Core.Bool.{Bool, true, false, not, false≢true}
use mathlib.Core.List.{List, [], ◌∷◌, map}
use Prim.Native.Nat.{ℕ, zero, suc, ◌≤◌, ◌<◌}
use native.Mathlib.Omega.{arith}
use lib.ListN.{length, get_or}
use lib.Dec.{eqb, eqb_refl}
use Rattle.text.specs.Text.{Bytes}
use Rattle.text.specs.Field.{most, is_var}
use Rattle.text.proofs.Basics.{T→so, and_both}
use Rattle.algebra.specs.Valid.{mem, different}
use Rattle.algebra.proofs.Lines.{different-head, different-tail}
use Rattle.scoping.specs.Sets.{any}
use Rattle.scoping.specs.Label.{prefix_j, prefix_l, prefix_r}
use Rattle.scoping.specs.Numbering.{numbered}
use Rattle.scoping.specs.Premises.{columns_at, inside, different_positions}
use Rattle.scoping.specs.bridge.Premises.{NamePremises, is_pair}
use Rattle.scoping.specs.ScopedOrHidden.{scoped_or_hidden}
use Rattle.scoping.proofs.Positions.{inside-first, inside-rest, different-first, different-rest}
use Rattle.scoping.proofs.Numbered.{numbered-variable}
use Rattle.scoping.proofs.ScopedOrHidden.{numbered-scoped}
use Rattle.scoping.proofs.NewVariables.{numbered-few}
use Rattle.scoping.proofs.Theorem.{side-apart, side-variables, sides-meet}
use Rattle.counting.specs.Row.{Cell, compatible, named, one_term, cell}
use Rattle.counting.specs.Scope.{names}
use Rattle.counting.specs.Countable.{expressions_known}
use Rattle.scoping.proofs.Basics.{clash, not-true, or_inl, or_inr, either, mem-nil, mem-cases, all-at}
use Rattle.counting.proofs.Only.{only-named, compatible-none}
use Rattle.merging.specs.Sides.{Pair, Constant, column_at, constant_columns, constant_terms, lefts, rights, standardized}
use Rattle.merging.specs.Request.{Projection, tree, Request, left_side, right_side}
use Rattle.demand3.specs.Demand3.{Supposed, Premises}
use Rattle.demand3.proofs.Fit.{SideFit, Fit}
use Rattle.merging.proofs.Positions.{at_in}
use Rattle.merging.proofs.Written.{Known}

-- ---- columns at different positions are different

not-of : (b : Bool) → b ≡ false → not b ≡ true
not-of b h = ap not h

-- in a list that repeats no name, two positions with one name are one
at_once : (cs : List Bytes) → different cs ≡ true → (i j : ℕ) → i < length cs → j < length cs → column_at cs i ≡ column_at cs j → i ≡ j
at_once [] d i j hi hj e = absurd (omega arith)
at_once (c ∷ cs) d zero zero hi hj e = refl
at_once (c ∷ cs) d zero (suc j) hi hj e = clash (ap (λ x. mem x cs) e ∙ at_in cs j (omega arith)) (different-head c cs d)
at_once (c ∷ cs) d (suc i) zero hi hj e = clash (ap (λ x. mem x cs) (sym e) ∙ at_in cs i (omega arith)) (different-head c cs d)
at_once (c ∷ cs) d (suc i) (suc j) hi hj e = ap suc (at_once cs (different-tail c cs d) i j (omega arith) (omega arith) e)

-- a column that stands at one of the positions stands at its own
pub found_at : {A : Type 0} (cs : List Bytes) → different cs ≡ true → (pos : A → ℕ) (i : ℕ) → i < length cs → (ks : List A) → inside cs (map pos ks) ≡ true → mem (column_at cs i) (map (λ k. column_at cs (pos k)) ks) ≡ true → any (eqb i) (map pos ks) ≡ true
unfolding any
found_at cs d pos i hi [] h m = mem-nil (column_at cs i) m
found_at cs d pos i hi (k ∷ ks) h m = either
    (λ e. or_inl (eqb i (pos k)) (any (eqb i) (map pos ks)) (subst (λ n. eqb i n ≡ true) (at_once cs d i (pos k) hi (inside-first cs (pos k) (map pos ks) h) e) (T→so (eqb i i) (eqb_refl i))))
    (λ t. or_inr (eqb i (pos k)) (any (eqb i) (map pos ks)) (found_at cs d pos i hi ks (inside-rest cs (pos k) (map pos ks) h) t))
    (mem-cases (column_at cs i) (column_at cs (pos k)) (map (λ k. column_at cs (pos k)) ks) m)

pub columns-at-different : {A : Type 0} (cs : List Bytes) → different cs ≡ true → (pos : A → ℕ) (ks : List A) → inside cs (map pos ks) ≡ true → different_positions (map pos ks) ≡ true → different (map (λ k. column_at cs (pos k)) ks) ≡ true
unfolding different
columns-at-different cs d pos [] h p = refl
columns-at-different cs d pos (k ∷ ks) h p = and_both (not (mem (column_at cs (pos k)) (map (λ k. column_at cs (pos k)) ks))) (different (map (λ k. column_at cs (pos k)) ks))
    (not-of (mem (column_at cs (pos k)) (map (λ k. column_at cs (pos k)) ks)) (not-true (mem (column_at cs (pos k)) (map (λ k. column_at cs (pos k)) ks)) (λ m. clash (found_at cs d pos (pos k) (inside-first cs (pos k) (map pos ks) h) ks (inside-rest cs (pos k) (map pos ks) h) m) (different-first (pos k) (map pos ks) p))))
    (columns-at-different cs d pos ks (inside-rest cs (pos k) (map pos ks) h) (different-rest (pos k) (map pos ks) p))

-- different columns get one term each
pub one-term : (cs : List Bytes) (xs : List Cell) → different cs ≡ true → one_term cs xs ≡ true
unfolding one_term
one-term [] xs d = refl
one-term (c ∷ cs) [] d = refl
one-term (c ∷ cs) (x ∷ xs) d = and_both (compatible x (named cs xs c)) (one_term cs xs)
    (ap (compatible x) (only-named cs xs c (different-head c cs d)) ∙ compatible-none x)
    (one-term cs xs (different-tail c cs d))

-- ---- one side

module _ (prefix : ℕ) (x : Projection) (is : List ℕ) (ks : List Constant) (k : Known prefix x is ks) (s : Supposed x) where
  -- the premises as crates/scoping wants them for the names
  pub names_of : NamePremises x.columns x.inner is
  names_of = record {
    valid = k.valid;
    plain = s.no_label;
    columns = s.columns_once;
    positions = k.joins-inside;
    different = k.joins-once;
  }

  -- every name of the tree is numbered
  numbered-if : (v : Bytes) → mem v (names (tree x)) ≡ true → mem v (numbered (tree x)) ≡ true
  unfolding expressions_known
  numbered-if v h = numbered-scoped (tree x) k.valid v ∙ all-at (λ v. mem v (scoped_or_hidden (tree x))) (names (tree x)) s.expressions_known v h

  few-names : length (numbered (tree x)) ≤ most
  few-names = let a = k.names in let b = numbered-few (tree x) in omega arith

  few-pairs : length is ≤ most
  few-pairs = let a = k.pairs in omega arith

  pub side-fit : (prefix ≡ prefix_j → ⊥) → SideFit (standardized prefix x.columns x.inner is ks)
  unfolding is_var
  side-fit n = record {
    apart = λ u v h j. side-apart x.columns x.inner is names_of prefix n u v (numbered-if u h) (numbered-if v j);
    variables = λ v h. side-variables x.columns x.inner is names_of prefix few-names few-pairs v (numbered-if v h);
    no_empty = not-true (mem [] (names (tree x))) (λ m. false≢true (numbered-variable (tree x) k.valid [] (numbered-if [] m)));
    constant_inside = k.constants-inside;
    constant_once = one-term (constant_columns x.columns ks) (map cell (constant_terms ks)) (columns-at-different x.columns s.columns_once (λ c. c.position) ks k.constants-inside k.constants-good.different);
  }

-- ---- both

columns-map : (cs : List Bytes) (f : Pair → ℕ) (js : List Pair) → columns_at cs (map f js) ≡ map (λ j. get_or cs (f j) []) js
unfolding columns_at
columns-map cs f [] = refl
columns-map cs f (j ∷ js) = ap (λ (l : List Bytes). get_or cs (f j) [] ∷ l) (columns-map cs f js)

module _ (m : Request) (a : Known prefix_l m.left (lefts m.joins) m.left_constants) (b : Known prefix_r m.right (rights m.joins) m.right_constants) (s : Premises m) where
  pub left-names : NamePremises m.left.columns m.left.inner (lefts m.joins)
  left-names = names_of prefix_l m.left (lefts m.joins) m.left_constants a s.left

  pub right-names : NamePremises m.right.columns m.right.inner (rights m.joins)
  right-names = names_of prefix_r m.right (rights m.joins) m.right_constants b s.right

  pub sides-fit : Fit (left_side m) (right_side m) m.joins
  sides-fit = record {
    left = side-fit prefix_l m.left (lefts m.joins) m.left_constants a s.left (λ e. omega arith);
    right = side-fit prefix_r m.right (rights m.joins) m.right_constants b s.right (λ e. omega arith);
    joined = λ u v h k.
        sides-meet m.left.columns m.left.inner (lefts m.joins) m.right.columns m.right.inner (rights m.joins) left-names right-names u v
        (numbered-if prefix_l m.left (lefts m.joins) m.left_constants a s.left u h) (numbered-if prefix_r m.right (rights m.joins) m.right_constants b s.right v k)
        ∙ ap₂ (λ (x y : List Bytes). is_pair x y u v) (columns-map m.left.columns (λ j. j.left) m.joins) (columns-map m.right.columns (λ j. j.right) m.joins);
  }
