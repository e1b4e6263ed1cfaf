-- Several fields of a line, one after the other, as the code takes them. Assumes nothing.
use Prim.Native.Nat.{ℕ, zero, suc, ◌+◌, ◌-◌, ◌≤◌, ◌<◌}
use mathlib.Core.Path.{◌≡◌, refl, sym, ◌∙◌, ap, subst}
use mathlib.Core.List.{List, [], ◌∷◌, ◌++◌}
use mathlib.Core.Bool.{Bool, true, false, ◌&&◌}
use mathlib.Core.Option.{Option, none, some}
use native.Mathlib.Omega.{arith}
use Rattle.text.specs.Text.{Bytes}
use Rattle.text.specs.Field.{Kind, lexical, number_of, fits}
use Rattle.text.specs.bridge.Code.{Number, number_in, kind_at}
use Rattle.cursor.specs.declared.Cursor.{Cursor}
use Rattle.cursor.proofs.Laws.{left-none, Next}
use Rattle.algebra.specs.Reader.{kept}
use Rattle.algebra.specs.bridge.Table.{Slot, text, count}
use Rattle.words.specs.bridge.Code.{mapped, extra_of, extra_found}
use Rattle.lines.specs.bridge.Line.{and_then, Took, took, take_field, Fields, fields, take_times, take_value, take_values}
use Rattle.lines.specs.bridge.Steps.{InLine, left_at, Along, Follows, rest_of, rest_in}
use Rattle.lines.proofs.StepLaw.{field, left_is, step_follows}
use Rattle.std.specs.Prelude.{Some, None}

-- ---- where a step left the cursor

pub follows-along : (s : Bytes) (c d : Cursor) (o : Option (List Bytes)) → Follows s c o d → Along c d
unfolding Follows
follows-along s c d none f = f.0
follows-along s c d (some l) f = f.0

pub follows-fine : (s : Bytes) (c d : Cursor) (o : Option (List Bytes)) → Follows s c o d → d.at ≤ c.end + 1 → (o ≡ some (left_at s d)) × (c.at ≤ d.at) × Along c d
unfolding Follows
follows-fine s c d none f h = let q = f.1 in absurd (omega arith)
follows-fine s c d (some l) f h = (ap some (sym f.3), f.1, f.0)

pub follows-fault : (s : Bytes) (c d : Cursor) (o : Option (List Bytes)) → Follows s c o d → c.end + 1 < d.at → (o ≡ none) × (d.at ≡ c.end + 2) × Along c d
unfolding Follows
follows-fault s c d none f h = (refl, f.1, f.0)
follows-fault s c d (some l) f h = let q = f.2 in absurd (omega arith)

pub follows-line : (s : Bytes) (c d : Cursor) (o : Option (List Bytes)) → InLine s c → Follows s c o d → InLine s d
unfolding Follows
follows-line s c d none i f = record {
  short = i.short;
  ends = rw f.0.0 i.ends;
  plain = λ k h l q. let x = f.1 in let y = f.0.0 in absurd (omega arith);
}
follows-line s c d (some r) i f = record {
  short = i.short;
  ends = rw f.0.0 i.ends;
  plain = λ k h l q. let x = f.1 in let y = f.0.0 in i.plain k (omega arith) (omega arith) q;
}

pub stay : (s : Bytes) (c : Cursor) → c.at ≤ c.end + 1 → Follows s c (some (left_at s c)) c
unfolding Follows
stay s c h = ((refl, refl), omega arith, h, refl)

-- from c to d and from d to r is from c to r
pub follows_both : (s : Bytes) (c d r : Cursor) (o : Option (List Bytes)) (g : List Bytes → Option (List Bytes)) → g [] ≡ none → Follows s c o d → Follows s d (g (left_at s d)) r → Follows s c (and_then o g) r
unfolding Follows
follows_both s c d r none g z f h =
    let past : d.end < d.at = let a = f.1 in let b = f.0.0 in omega arith in
    let q : g (left_at s d) ≡ none = ap g (left-none s d.at d.end past) ∙ z in
    ended (subst (λ o. Follows s d o r) q h)
  where
    ended : Follows s d none r → Follows s c none r
    ended k = ((k.0.0 ∙ f.0.0, k.0.1 ∙ f.0.1), k.1 ∙ ap (λ e. e + 2) f.0.0)
follows_both s c d r (some l) g z f h = go (g l) (subst (λ l. Follows s d (g l) r) f.3 h)
  where
    go : (o : Option (List Bytes)) → Follows s d o r → Follows s c o r
    go none k = ((k.0.0 ∙ f.0.0, k.0.1 ∙ f.0.1), k.1 ∙ ap (λ e. e + 2) f.0.0)
    go (some m) k = ((k.0.0 ∙ f.0.0, k.0.1 ∙ f.0.1), let a = f.1 in let b = k.1 in omega arith, let a = k.2 in let b = f.0.0 in omega arith, k.3)

-- ---- numbers

module _ (s : Bytes) (c : Cursor) (e : ℕ) (d : Cursor) (line : InLine s c) (here : Next s c e d) (r : Number) (is : number_in r ≡ number_of (field s c e d line here)) where
  pub count-taken : (v : ℕ) → r ≡ Some v → take_field count (left_at s c) ≡ some (took (left_at s d) [] v)
  count-taken v q = rw (left_is s c e d line here, ← is, q)

  pub count-refused : r ≡ None → take_field count (left_at s c) ≡ none
  count-refused q = rw (left_is s c e d line here, ← is, q)

-- ---- values

value_none : (f : Bytes) (l : List Bytes) → extra_of f ≡ none → take_value (f ∷ l) ≡ none
value_none f [] e = refl
value_none f (x ∷ []) e = refl
value_none f (x ∷ y ∷ l) e = rw e

value-some : (f : Bytes) (κ : Kind) (l : List Bytes) → extra_of f ≡ some κ → take_value (f ∷ l) ≡ and_then (rest_of (take_field (text lexical) l)) (λ m. rest_of (take_field (text κ) m))
unfolding kept
value-some f κ [] e = refl
value-some f κ (x ∷ []) e = go (fits lexical x)
  where
    go : (b : Bool) → none ≡ and_then (rest_of (kept b (took [] [] 0))) (λ m. rest_of (take_field (text κ) m))
    go true = refl
    go false = refl
value-some f κ (x ∷ y ∷ l) e = rw e (go (fits lexical x) (fits κ y) refl)
  where
    last : (b : Bool) → kept b l ≡ rest_of (kept b (took l [] 0))
    last true = refl
    last false = refl

    go : (a b : Bool) → fits κ y ≡ b → kept (a && fits κ y) l ≡ and_then (rest_of (kept a (took (y ∷ l) [] 0))) (λ m. rest_of (take_field (text κ) m))
    go true b q = last (fits κ y)
    go false b q = refl

extra-some : (r : ℕ) → (r ≡ 0 → ⊥) → extra_found r ≡ some (kind_at r)
extra-some zero h = absurd (h refl)
extra-some (suc r) h = refl

module _ (s : Bytes) (c : Cursor) (e : ℕ) (d : Cursor) (line : InLine s c) (here : Next s c e d) (k : ℕ) (is : extra_found k ≡ extra_of (field s c e d line here)) where
  pub value-refused : k ≡ 0 → take_value (left_at s c) ≡ none
  value-refused q = rw (left_is s c e d line here) (value_none (field s c e d line here) (left_at s d) (sym is ∙ ap extra_found q))

  pub value_taken : (b r : Cursor) → (k ≡ 0 → ⊥) → Follows s d (rest_of (take_field (text lexical) (left_at s d))) b → Follows s b (rest_of (take_field (text (kind_at k)) (left_at s b))) r → Follows s c (take_value (left_at s c)) r
  value_taken b r nz f g =
      rw (left_is s c e d line here, value-some (field s c e d line here) (kind_at k) (left_at s d) (sym is ∙ extra-some k nz))
      (follows_both s c d r (some (left_at s d)) (λ l. and_then (rest_of (take_field (text lexical) l)) (λ m. rest_of (take_field (text (kind_at k)) m))) refl
      (step_follows s c e d line here (some (left_at s d)) refl)
      (follows_both s d b r (rest_of (take_field (text lexical) (left_at s d))) (λ m. rest_of (take_field (text (kind_at k)) m)) refl f g))

-- ---- repeated steps: one more, and the end. `go` is what is taken k times more

module _ (s : Bytes) (c d r : Cursor) (one : List Bytes → Option (List Bytes)) (go : ℕ → List Bytes → Option (List Bytes)) (k : ℕ) (whole : Option (List Bytes))
    (more : (k : ℕ) (l : List Bytes) → go (suc k) l ≡ and_then (one l) (go k)) (so : whole ≡ go k (left_at s d)) (along : Along c d) (low : c.at ≤ d.at) (step : Follows s d (one (left_at s d)) r) (left_over : 0 < k) where
  once_more : go k (left_at s d) ≡ and_then (one (left_at s d)) (go (k - 1))
  once_more = let q : k ≡ suc (k - 1) = omega arith in ap (λ k. go k (left_at s d)) q ∙ more (k - 1) (left_at s d)

  pub repeat-fault : r.end + 1 < r.at → Follows s c whole r
  unfolding Follows
  repeat-fault h =
      let f = follows-fault s d r (one (left_at s d)) step (rw (follows-along s d r (one (left_at s d)) step).0 at h) in
      let w : whole ≡ none = so ∙ (once_more ∙ rw f.0) in
      subst (λ o. Follows s c o r) (sym w) ((f.2.0 ∙ along.0, f.2.1 ∙ along.1), f.1 ∙ ap (λ e. e + 2) along.0)

  pub repeat-next : r.at ≤ r.end + 1 → (whole ≡ go (k - 1) (left_at s r)) × Along c r × (c.at ≤ r.at) × (r.at ≤ c.end + 1)
  repeat-next h =
      let e = follows-along s d r (one (left_at s d)) step in
      let f = follows-fine s d r (one (left_at s d)) step (rw e.0 at h) in
      let a = f.1 in
      let b = e.0 in
      let g = along.0 in
      (so ∙ (once_more ∙ rw f.0), (f.2.0 ∙ along.0, f.2.1 ∙ along.1), omega arith, omega arith)

-- nothing more is to be taken
pub repeat-end : (s : Bytes) (c d : Cursor) (go : ℕ → List Bytes → Option (List Bytes)) (k : ℕ) (whole : Option (List Bytes)) → ((l : List Bytes) → go 0 l ≡ some l) → whole ≡ go k (left_at s d) → k ≤ 0 → Along c d → c.at ≤ d.at → d.at ≤ c.end + 1 → Follows s c whole d
unfolding Follows
repeat-end s c d go k whole z so e along low high =
    let q : k ≡ 0 = omega arith in
    subst (λ o. Follows s c o d) (sym (so ∙ (ap (λ k. go k (left_at s d)) q ∙ z (left_at s d)))) (along, low, high, refl)

pub times_more : (σ : Slot) (k : ℕ) (l : List Bytes) → rest_in (take_times (suc k) σ l) ≡ and_then (rest_of (take_field σ l)) (λ m. rest_in (take_times k σ m))
unfolding take_times
times_more σ k l = go (take_field σ l)
  where
    inner : (t : Took) (o : Option Fields) → rest_in (mapped (λ u. fields u.rest (t.terms ++ u.terms) []) o) ≡ rest_in o
    inner t none = refl
    inner t (some u) = refl

    go : (o : Option Took) → rest_in (and_then o (λ t. mapped (λ u. fields u.rest (t.terms ++ u.terms) []) (take_times k σ t.rest))) ≡ and_then (rest_of o) (λ m. rest_in (take_times k σ m))
    go none = refl
    go (some t) = inner t (take_times k σ t.rest)

pub times-end : (σ : Slot) (l : List Bytes) → rest_in (take_times 0 σ l) ≡ some l
unfolding take_times
times-end σ l = refl

pub values-more : (k : ℕ) (l : List Bytes) → rest_in (take_values (suc k) l) ≡ and_then (take_value l) (λ m. rest_in (take_values k m))
unfolding take_values
values-more k l = go (take_value l)
  where
    go : (o : Option (List Bytes)) → rest_in (and_then o (take_values k)) ≡ and_then o (λ m. rest_in (take_values k m))
    go none = refl
    go (some m) = refl

pub values-end : (l : List Bytes) → rest_in (take_values 0 l) ≡ some l
unfolding take_values
values-end l = refl

pub value-missing : (s : Bytes) (c : Cursor) → c.end < c.at → take_value (left_at s c) ≡ none
value-missing s c h = rw (left-none s c.at c.end h)
