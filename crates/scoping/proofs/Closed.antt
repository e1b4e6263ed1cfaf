-- Where no name ends in "Label": what each numbered name becomes, in closed form. Assumes nothing.
use mathlib.Core.Path.{◌≡◌, refl, sym, ap, ap₂, ◌∙◌}
use mathlib.Core.List.{List, [], ◌∷◌, ◌++◌}
use mathlib.Core.Bool.{Bool, true, false, cond, ◌||◌, true≢false, false≢true}
use mathlib.Core.Option.{Option, none, some}
use Prim.Native.Nat.{ℕ, suc, ◌+◌}
use native.Mathlib.Omega.{arith}
use Rattle.text.specs.Text.{Bytes, same}
use Rattle.text.specs.Field.{given}
use Rattle.text.proofs.Basics.{same-eq}
use Rattle.algebra.specs.Valid.{mem}
use Rattle.scoping.specs.Sets.{index_of}
use Rattle.scoping.specs.Label.{is_label, generated, prefix_j}
use Rattle.scoping.specs.Standardize.{or_self}
use Rattle.scoping.specs.bridge.Pushes.{Push, a_push, lookup, contains, pushed, pushes, all_pushes, new_name}
use Rattle.scoping.proofs.Agree.{contains-given}
use Rattle.scoping.proofs.Labels.{base-plain, lookup-plain}

-- no name of the list ends in "Label"
abbrev pub Plain : List Bytes → Type 0
Plain [] = Unit {0}
Plain (v ∷ vs) = (is_label v ≡ false) × Plain vs

-- j and its place among the join variables, or the prefix and its place among the numbered names
unfoldable pub target : ℕ → List Bytes → List Bytes → Bytes → Bytes
unfolding mem index_of generated
target prefix vs js w = cond (mem w js) (generated prefix_j (index_of w js)) (generated prefix (index_of w vs))

-- ---- options

or_else : Option Bytes → Option Bytes → Option Bytes
or_else none o = o
or_else (some n) o = some n

given-none : (o : Option Bytes) → given o ≡ false → o ≡ none
given-none none h = refl
given-none (some n) h = absurd (true≢false h)

or_else-given : (o u v : Option Bytes) → given o ≡ true → or_else o u ≡ or_else o v
unfolding or_else
or_else-given none u v h = absurd (false≢true h)
or_else-given (some n) u v h = refl

or_else-none : (o : Option Bytes) → or_else o none ≡ o
unfolding or_else
or_else-none none = refl
or_else-none (some n) = refl

-- ---- names numbered from c on

numbered_from : ℕ → ℕ → Bytes → List Bytes → Option Bytes
unfolding mem index_of
numbered_from p c w vs = cond (mem w vs) (some (generated p (c + index_of w vs))) none

numbered-here : (p c : ℕ) (w v : Bytes) (vs : List Bytes) → same w v ≡ true → numbered_from p c w (v ∷ vs) ≡ some (generated p c)
unfolding numbered_from mem index_of
numbered-here p c w v vs h = simp h (ap (λ (n : ℕ). some (generated p n)) (omega arith))

numbered-on : (p c : ℕ) (w v : Bytes) (vs : List Bytes) → same w v ≡ false → numbered_from p (suc c) w vs ≡ numbered_from p c w (v ∷ vs)
unfolding numbered_from mem index_of
numbered-on p c w v vs h = simp h (ap (λ (n : ℕ). cond (mem w vs) (some (generated p n)) none) (let e : suc c + index_of w vs ≡ c + suc (index_of w vs) = omega arith in e))

module _ (w : Bytes) (h : is_label w ≡ false) (p : ℕ) where
  by-pushes : (c : ℕ) (vs : List Bytes) (ps : List Push) → Plain vs → lookup w (pushes p c vs ps) ≡ or_else (lookup w ps) (numbered_from p c w vs)
  unfolding pushes pushed numbered_from mem or_else
  by-pushes c [] ps k = sym (or_else-none (lookup w ps))
  by-pushes c (v ∷ vs) ps k =
      ap (λ (b : Bytes). lookup w (pushes p (suc c) vs (cond (contains b ps) ps (a_push b p c ∷ ps)))) (base-plain v k.0)
      ∙ go (contains v ps) refl (same w v) refl (by-pushes (suc c) vs ps k.1) (by-pushes (suc c) vs (a_push v p c ∷ ps) k.1)
    where
      new : Option Bytes
      new = lookup w (a_push v p c ∷ ps)

      go : (t : Bool) → contains v ps ≡ t → (s : Bool) → same w v ≡ s
          → lookup w (pushes p (suc c) vs ps) ≡ or_else (lookup w ps) (numbered_from p (suc c) w vs)
          → lookup w (pushes p (suc c) vs (a_push v p c ∷ ps)) ≡ or_else new (numbered_from p (suc c) w vs)
          → lookup w (pushes p (suc c) vs (cond t ps (a_push v p c ∷ ps))) ≡ or_else (lookup w ps) (numbered_from p c w (v ∷ vs))
      go true e true f x y =
          x ∙ or_else-given (lookup w ps) (numbered_from p (suc c) w vs) (numbered_from p c w (v ∷ vs))
          (ap (λ (n : Bytes). given (lookup n ps)) (same-eq w v f) ∙ sym (contains-given v ps) ∙ e)
      go true e false f x y = x ∙ ap (or_else (lookup w ps)) (numbered-on p c w v vs f)
      go false e true f x y =
          y
          ∙ ap (λ (o : Option Bytes). or_else o (numbered_from p (suc c) w vs)) (lookup-plain w (a_push v p c) ps h ∙ ap (λ (b : Bool). cond b (some (generated p c)) (lookup w ps)) f)
          ∙ sym (numbered-here p c w v vs f)
          ∙ ap (λ (o : Option Bytes). or_else o (numbered_from p c w (v ∷ vs)))
          (sym (ap (λ (n : Bytes). lookup n ps) (same-eq w v f) ∙ given-none (lookup v ps) (sym (contains-given v ps) ∙ e)))
      go false e false f x y =
          y
          ∙ ap (λ (o : Option Bytes). or_else o (numbered_from p (suc c) w vs)) (lookup-plain w (a_push v p c) ps h ∙ ap (λ (b : Bool). cond b (some (generated p c)) (lookup w ps)) f)
          ∙ ap (or_else (lookup w ps)) (numbered-on p c w v vs f)

pub plain-mem : (w : Bytes) (vs : List Bytes) → Plain vs → mem w vs ≡ true → is_label w ≡ false
unfolding mem
plain-mem w [] k h = absurd (false≢true h)
plain-mem w (v ∷ vs) k h = go (plain-mem w vs k.1) (same w v) refl h
  where
    go : (mem w vs ≡ true → is_label w ≡ false) → (t : Bool) → same w v ≡ t → (t || mem w vs) ≡ true → is_label w ≡ false
    go r true e x = ap is_label (same-eq w v e) ∙ k.0
    go r false e x = r x

module _ (prefix : ℕ) (vs js : List Bytes) (pv : Plain vs) (pj : Plain js) where
  lookup-target : (w : Bytes) → mem w vs ≡ true → lookup w (all_pushes prefix vs js) ≡ some (target prefix vs js w)
  unfolding all_pushes numbered_from or_else target lookup
  lookup-target w h =
      let l : is_label w ≡ false = plain-mem w vs pv h in
      by-pushes w l prefix 0 vs (pushes prefix_j 0 js []) pv
      ∙ ap (λ (o : Option Bytes). or_else o (numbered_from prefix 0 w vs)) (by-pushes w l prefix_j 0 js [] pj)
      ∙ go (mem w js) (mem w vs) h
    where
      plus : (p n : ℕ) → generated p (0 + n) ≡ generated p n
      plus p n = let e : 0 + n ≡ n = omega arith in ap (generated p) e

      go : (t s : Bool) → s ≡ true
          → or_else (cond t (some (generated prefix_j (0 + index_of w js))) none) (cond s (some (generated prefix (0 + index_of w vs))) none)
          ≡ some (cond t (generated prefix_j (index_of w js)) (generated prefix (index_of w vs)))
      go true s e = ap some (plus prefix_j (index_of w js))
      go false true e = ap some (plus prefix (index_of w vs))
      go false false e = absurd (false≢true e)

  -- every numbered name becomes its target
  pub new-name-target : (w : Bytes) → mem w vs ≡ true → new_name (all_pushes prefix vs js) w ≡ target prefix vs js w
  unfolding new_name
  new-name-target w h = ap (λ (o : Option Bytes). or_self o w) (lookup-target w h)

  -- a name that is neither numbered nor a join variable stays as it is
  pub stays : (w : Bytes) → is_label w ≡ false → mem w vs ≡ false → mem w js ≡ false → new_name (all_pushes prefix vs js) w ≡ w
  unfolding new_name all_pushes numbered_from or_else lookup
  stays w l h k =
      ap (λ (o : Option Bytes). or_self o w)
      (by-pushes w l prefix 0 vs (pushes prefix_j 0 js []) pv
      ∙ ap (λ (o : Option Bytes). or_else o (numbered_from prefix 0 w vs)) (by-pushes w l prefix_j 0 js [] pj)
      ∙ ap₂ (λ (t s : Bool). or_else (cond t (some (generated prefix_j (0 + index_of w js))) none) (cond s (some (generated prefix (0 + index_of w vs))) none)) k h)
