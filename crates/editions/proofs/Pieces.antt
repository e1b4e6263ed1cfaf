-- Runs of tokens of one sort are read back. Assumes nothing.
use mathlib.Core.Path.{◌≡◌, refl, sym, ap}
use mathlib.Core.Bool.{Bool, true, false, cond, ◌||◌, false≢true}
use mathlib.Core.List.{List, [], ◌∷◌}
use mathlib.Core.Option.{some}
use Prim.Native.Nat.{ℕ}
use native.Mathlib.Omega.{arith}
use lib.Dec.{eqb, eqb→eq}
use lib.ListN.{length}
use Rattle.text.specs.Text.{Bytes, same}
use Rattle.text.specs.Word.{bytes}
use Rattle.text.specs.Field.{name, is_var, is_iri, is_dash, is_kind, fits, clean}
use Rattle.algebra.specs.Valid.{Fits}
use Rattle.editions.specs.Token.{Keyword, UNDEF, RIGHT, Token, key, var, iri, literal}
use Rattle.editions.specs.Readers.{got, is_key, var_of, name_of, node_of, cell_of, all}
use Rattle.editions.specs.Spelling.{term_of, spell_vars, spell_cells}
use Rattle.editions.specs.Spelling as S
use Rattle.text.proofs.Basics.{so→T, and_left, and_right}

pub node-back : (x : Bytes) → node_of (term_of x) ≡ some x
unfolding term_of
node-back x = go (is_var x) (is_iri x)
  where
    go : (a b : Bool) → node_of (cond a (var x) (cond b (iri x) (literal x))) ≡ some x
    go true b = refl
    go false true = refl
    go false false = refl

-- a term is no keyword
pub no_key : (k : Keyword) (x : Bytes) → is_key k (term_of x) ≡ false
unfolding term_of
no_key k x = go (is_var x) (is_iri x)
  where
    go : (a b : Bool) → is_key k (cond a (var x) (cond b (iri x) (literal x))) ≡ false
    go true b = refl
    go false true = refl
    go false false = refl

pub name_back : (x : Bytes) → Fits name x → name_of (term_of x) ≡ some x
unfolding term_of fits is_kind is_iri is_var
name_back x v = go (is_var x) (is_iri x) (and_right (clean x) _ v)
  where
    go : (a b : Bool) → (b || a) ≡ true → name_of (cond a (var x) (cond b (iri x) (literal x))) ≡ some x
    go true b h = refl
    go false true h = refl
    go false false h = absurd (false≢true h)

pub dash : (x : Bytes) → is_dash x ≡ true → bytes "-" ≡ x
unfolding is_dash
dash [] h = absurd (false≢true h)
dash (b ∷ []) h = ap (λ (c : ℕ). c ∷ []) (sym (eqb→eq b 45 (so→T (eqb b 45) (and_right (eqb 1 1) (eqb b 45) h))))
dash (b ∷ c ∷ s) h = let e : length (b ∷ c ∷ s) ≡ 1 = eqb→eq (length (b ∷ c ∷ s)) 1 (so→T _ (and_left (eqb (length (b ∷ c ∷ s)) 1) (eqb b 45) h)) in absurd (omega arith)

pub cell-back : (x : Bytes) → cell_of (S.cell_of x) ≡ some x
unfolding S.cell_of same
cell-back x = go (is_dash x) (is_iri x) refl
  where
    go : (a b : Bool) → is_dash x ≡ a → cell_of (cond a (key UNDEF) (cond b (iri x) (literal x))) ≡ some x
    go true b h = ap some (dash x h)
    go false true h = refl
    go false false h = refl

pub vars-back : (vs : List Bytes) (k : Keyword) (t : List Token) → all var_of (spell_vars vs (key k ∷ t)) ≡ got vs (key k ∷ t)
unfolding all spell_vars
vars-back [] k t = refl
vars-back (v ∷ vs) k t = rw (vars-back vs k t)

pub cells-back : (xs : List Bytes) (t : List Token) → all cell_of (spell_cells xs (key RIGHT ∷ t)) ≡ got xs (key RIGHT ∷ t)
unfolding all spell_cells same
cells-back [] t = refl
cells-back (x ∷ xs) t = rw (cell-back x, cells-back xs t)
