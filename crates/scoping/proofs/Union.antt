-- A set that is the union of two. Assumes nothing.
use mathlib.Core.Path.{◌≡◌, refl, sym, ◌∙◌}
use mathlib.Core.List.{List, [], ◌++◌}
use mathlib.Core.Bool.{Bool, true, false, ◌||◌, or-false}
use Rattle.text.specs.Text.{Bytes}
use Rattle.algebra.specs.Valid.{mem}
use Rattle.scoping.proofs.Sets.{mem-append, swap_inner}

-- s is the union of i and u
pub record Union (s i u : List Bytes) : Type 0 where
  pub at : (v : Bytes) → mem v s ≡ (mem v i || mem v u)

pub both : {s t i j u w : List Bytes} → Union s i u → Union t j w → Union (s ++ t) (i ++ j) (u ++ w)
both {s} {t} {i} {j} {u} {w} h k = record { at = λ v. simp mem-append (simp (h.at v, k.at v) (swap_inner (mem v i) (mem v u) (mem v j) (mem v w))) }

pub first : (s : List Bytes) → Union s s []
unfolding mem
first s = record { at = λ v. sym (or-false (mem v s)) }

pub last : (s : List Bytes) → Union s [] s
unfolding mem
last s = record { at = λ v. refl }

pub nil_end : {s i u : List Bytes} → Union s i u → Union (s ++ []) i u
unfolding mem
nil_end {s} a = record { at = λ v. mem-append v s [] ∙ or-false (mem v s) ∙ a.at v }

-- a set all hidden beneath another
pub beneath : {s i h : List Bytes} (t : List Bytes) → Union s i h → Union (t ++ s) t ((h ++ i) ++ [])
unfolding mem
beneath {s} {i} {h} t a = record { at = λ v. simp mem-append (simp (a.at v) (go (mem v t) (mem v i) (mem v h))) }
  where
    go : (b c d : Bool) → (b || (c || d)) ≡ (b || ((d || c) || false))
    go true c d = refl
    go false true true = refl
    go false true false = refl
    go false false true = refl
    go false false false = refl

-- a set hidden beside another
pub beside : {s i h t j g : List Bytes} → Union s i h → Union t j g → Union (s ++ t) i ((g ++ j) ++ h)
beside {s} {i} {h} {t} {j} {g} a b = record { at = λ v. simp mem-append (simp (a.at v, b.at v) (go (mem v i) (mem v h) (mem v j) (mem v g))) }
  where
    go : (b c d e : Bool) → ((b || c) || (d || e)) ≡ (b || ((e || d) || c))
    go true c d e = refl
    go false true true true = refl
    go false true true false = refl
    go false true false true = refl
    go false true false false = refl
    go false false true true = refl
    go false false true false = refl
    go false false false true = refl
    go false false false false = refl
