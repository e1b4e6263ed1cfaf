-- What stands behind the slots of a row. Assumes nothing.
use Prim.Native.Nat.{ℕ, zero, suc, ◌+◌, ◌≤◌}
use mathlib.Core.Path.{◌≡◌, refl, sym, ◌∙◌, ap, subst}
use mathlib.Core.List.{List, [], ◌∷◌, ◌++◌}
use mathlib.Core.Bool.{Bool, true, false, ◌&&◌}
use mathlib.Core.Option.{Option, none, some}
use native.Mathlib.Omega.{arith}
use lib.ListN.{length}
use Rattle.text.specs.Text.{Bytes}
use Rattle.text.specs.Field.{Kind, variable, cell, integer, fits, all_fit}
use Rattle.cursor.specs.declared.Cursor.{Cursor}
use Rattle.algebra.specs.Reader.{kept}
use Rattle.algebra.specs.bridge.Table.{term, text, Tail, nothing, columns, variables, texts, values, value}
use Rattle.words.specs.bridge.Code.{mapped, tail_of}
use Rattle.lines.specs.bridge.Line.{and_then, Took, took, take_field, Fields, fields, take_times, take_value, take_values, take_tail, columns_of}
use Rattle.lines.specs.bridge.Steps.{left_at, Follows, rest_in, terms_in, terms_of}
use Rattle.lines.proofs.RepeatLaw.{stay}
use Rattle.lines.proofs.SlotLaw.{text-bare}

-- ---- which tail a number means

pub tail_at : (k j : ℕ) → k ≡ j → tail_of k ≡ tail_of j
tail_at k j e = ap tail_of e

pub tail-nothing : (k : ℕ) → (k ≡ 1 → ⊥) → (k ≡ 2 → ⊥) → (k ≡ 3 → ⊥) → (k ≡ 4 → ⊥) → (k ≡ 5 → ⊥) → (k ≡ 6 → ⊥) → tail_of k ≡ nothing
tail-nothing zero a b c d e f = refl
tail-nothing (suc zero) a b c d e f = absurd (a refl)
tail-nothing (suc (suc zero)) a b c d e f = absurd (b refl)
tail-nothing (suc (suc (suc zero))) a b c d e f = absurd (c refl)
tail-nothing (suc (suc (suc (suc zero)))) a b c d e f = absurd (d refl)
tail-nothing (suc (suc (suc (suc (suc zero))))) a b c d e f = absurd (e refl)
tail-nothing (suc (suc (suc (suc (suc (suc zero)))))) a b c d e f = absurd (f refl)
tail-nothing (suc (suc (suc (suc (suc (suc (suc k))))))) a b c d e f = refl

-- ---- each tail taken

module _ (s : Bytes) (c r : Cursor) (w : ℕ) (t : Tail) where
  pub cells-follow : t ≡ texts cell → Follows s c (rest_in (take_times w (text cell) (left_at s c))) r → Follows s c (rest_in (take_tail t w (left_at s c))) r
  unfolding take_tail
  cells-follow e f = rw e f

  pub integers-follow : t ≡ texts integer → Follows s c (rest_in (take_times w (text integer) (left_at s c))) r → Follows s c (rest_in (take_tail t w (left_at s c))) r
  unfolding take_tail
  integers-follow e f = rw e f

  pub values-follow : t ≡ values → Follows s c (rest_in (take_values w (left_at s c))) r → Follows s c (rest_in (take_tail t w (left_at s c))) r
  unfolding take_tail
  values-follow e f = rw e f

  pub value-follows : t ≡ value → Follows s c (rest_in (take_values 1 (left_at s c))) r → Follows s c (rest_in (take_tail t w (left_at s c))) r
  unfolding take_tail
  value-follows e f = rw e f

pub nothing-follows : (s : Bytes) (c : Cursor) (w : ℕ) (t : Tail) → t ≡ nothing → c.at ≤ c.end + 1 → Follows s c (rest_in (take_tail t w (left_at s c))) c
unfolding take_tail
nothing-follows s c w t e h = rw e (stay s c h)

pub variables-are : (w : ℕ) (t : Tail) (l : List Bytes) → t ≡ variables → take_tail t w l ≡ take_times w (term variable) l
unfolding take_tail
variables-are w t l e = rw e

-- a project's columns are all the fields that are left
times-all : (l : List Bytes) → kept (all_fit variable l) (fields [] l []) ≡ take_times (length l) (term variable) l
unfolding take_times all_fit kept
times-all [] = refl
times-all (f ∷ fs) = go (fits variable f) (times-all fs)
  where
    inner : (b : Bool) → kept b (fields [] (f ∷ fs) []) ≡ mapped (λ u. fields u.rest ((f ∷ []) ++ u.terms) []) (kept b (fields [] fs []))
    inner true = refl
    inner false = refl

    go : (b : Bool) → kept (all_fit variable fs) (fields [] fs []) ≡ take_times (length fs) (term variable) fs → kept (b && all_fit variable fs) (fields [] (f ∷ fs) []) ≡ and_then (kept b (took fs (f ∷ []) 0)) (λ t. mapped (λ u. fields u.rest (t.terms ++ u.terms) []) (take_times (length fs) (term variable) t.rest))
    go true i = inner (all_fit variable fs) ∙ ap (mapped (λ u. fields u.rest ((f ∷ []) ++ u.terms) [])) i
    go false i = refl

pub columns-are : (w k : ℕ) (t : Tail) (l : List Bytes) → t ≡ columns → k ≡ length l → take_tail t w l ≡ take_times k (term variable) l
unfolding take_tail
columns-are w k t l e h = rw (e, h) (times-all l)

pub columns-count : (w : ℕ) (t : Tail) (l m : List Bytes) → t ≡ columns → rest_in (take_tail t w l) ≡ some m → columns_of t (terms_in (take_tail t w l)) ≡ length l
unfolding take_tail kept
columns-count w t l m e h = rw e (go (all_fit variable l) (rw e at h))
  where
    go : (b : Bool) → rest_in (kept b (fields [] l [])) ≡ some m → length (terms_in (kept b (fields [] l []))) ≡ length l
    go true h = refl
    go false h = let z : ◌≡◌ {A = ℕ} 0 1 = cc in absurd (omega arith)

-- ---- the other tails have no columns, and save variables no terms

pub no-columns : (k : ℕ) (ts : List Bytes) → (k ≡ 1 → ⊥) → columns_of (tail_of k) ts ≡ 0
no-columns zero ts h = refl
no-columns (suc zero) ts h = absurd (h refl)
no-columns (suc (suc zero)) ts h = refl
no-columns (suc (suc (suc zero))) ts h = refl
no-columns (suc (suc (suc (suc zero)))) ts h = refl
no-columns (suc (suc (suc (suc (suc zero))))) ts h = refl
no-columns (suc (suc (suc (suc (suc (suc zero)))))) ts h = refl
no-columns (suc (suc (suc (suc (suc (suc (suc k))))))) ts h = refl

times-bare : (n : ℕ) (κ : Kind) (l : List Bytes) → terms_in (take_times n (text κ) l) ≡ []
unfolding take_times
times-bare zero κ l = refl
times-bare (suc n) κ l = go (take_field (text κ) l) (text-bare κ l) (times-bare n κ)
  where
    inner : (t : Took) (o : Option Fields) → t.terms ≡ [] → terms_in o ≡ [] → terms_in (mapped (λ u. fields u.rest (t.terms ++ u.terms) []) o) ≡ []
    inner t none a b = refl
    inner t (some u) a b = rw (a, b)

    go : (o : Option Took) → terms_of o ≡ [] → ((l : List Bytes) → terms_in (take_times n (text κ) l) ≡ []) → terms_in (and_then o (λ t. mapped (λ u. fields u.rest (t.terms ++ u.terms) []) (take_times n (text κ) t.rest))) ≡ []
    go none a i = refl
    go (some t) a i = inner t (take_times n (text κ) t.rest) a (i t.rest)

values-bare : (n : ℕ) (l : List Bytes) → terms_in (take_values n l) ≡ []
unfolding take_values
values-bare zero l = refl
values-bare (suc n) l = go (take_value l) (values-bare n)
  where
    go : (o : Option (List Bytes)) → ((l : List Bytes) → terms_in (take_values n l) ≡ []) → terms_in (and_then o (take_values n)) ≡ []
    go none i = refl
    go (some m) i = i m

pub plain-bare : (k w : ℕ) (l : List Bytes) → (k ≡ 1 → ⊥) → (k ≡ 2 → ⊥) → terms_in (take_tail (tail_of k) w l) ≡ []
unfolding take_tail
plain-bare zero w l a b = refl
plain-bare (suc zero) w l a b = absurd (a refl)
plain-bare (suc (suc zero)) w l a b = absurd (b refl)
plain-bare (suc (suc (suc zero))) w l a b = times-bare w cell l
plain-bare (suc (suc (suc (suc zero)))) w l a b = times-bare w integer l
plain-bare (suc (suc (suc (suc (suc zero))))) w l a b = values-bare w l
plain-bare (suc (suc (suc (suc (suc (suc zero)))))) w l a b = values-bare 1 l
plain-bare (suc (suc (suc (suc (suc (suc (suc k))))))) w l a b = refl

pub follows_by : (s : Bytes) (c r : Cursor) (o p : Option Fields) → o ≡ p → Follows s c (rest_in p) r → Follows s c (rest_in o) r
follows_by s c r o p e f = subst (λ o. Follows s c (rest_in o) r) (sym e) f
