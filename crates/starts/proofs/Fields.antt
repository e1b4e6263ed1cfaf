-- Laws of a line's two fields, one for each way out of the code. Assumes nothing.
use Prim.Native.Nat.{ℕ, ◌+◌, ◌≤◌, ◌<◌}
use mathlib.Core.Path.{◌≡◌, refl, sym, ◌∙◌, ap, subst}
use mathlib.Core.List.{[], ◌∷◌}
use mathlib.Core.Bool.{Bool, true, false, cond, not, ◌&&◌}
use native.Mathlib.Omega.{arith}
use lib.ListN.{length}
use lib.Dec.{eqb}
use borrow.Author.Tests.{not-true, not-false}
use Rattle.text.specs.Text.{Bytes, Line, split, onto, part, First}
use Rattle.cursor.specs.bridge.Cursor.{left, Reads, Reading, field}
use Rattle.cursor.proofs.Laws.{left-all, left-next, left-none}
use Rattle.cursor.specs.declared.Cursor.{Cursor}
use Rattle.starts.specs.bridge.Starts.{is_start_field, is_two, Finds}
use Rattle.std.specs.Prelude.{Some, None}

not_first : (f : Bytes) (fs : Line) → is_start_field f ≡ false → is_two (f ∷ fs) ≡ false
unfolding is_two
not_first f [] e = refl
not_first f (g ∷ []) e = rw e
not_first f (g ∷ h ∷ fs) e = refl

not-second : (f g : Bytes) (fs : Line) → is_start_field g ≡ false → is_two (f ∷ g ∷ fs) ≡ false
unfolding is_two
not-second f g [] e = rw e (go (is_start_field f))
  where
    go : (a : Bool) → (a && false) ≡ false
    go true = refl
    go false = refl
not-second f g (h ∷ fs) e = refl

third : (f g xs : Bytes) → is_two (f ∷ g ∷ split 9 xs) ≡ false
unfolding is_two split onto
third f g [] = refl
third f g (x ∷ xs) = go (eqb x 9) (split 9 xs)
  where
    go : (t : Bool) (ps : Line) → is_two (f ∷ g ∷ cond t ([] ∷ ps) (onto x ps)) ≡ false
    go true ps = refl
    go false [] = refl
    go false (p ∷ ps) = refl

-- what a field that was read says of the cursor behind it
pub record Next (s : Bytes) (c : Cursor) (e : ℕ) (d : Cursor) : Type 0 where
  pub field : First 9 s c.at c.end e
  pub low : c.at ≤ e
  pub high : e ≤ c.end
  pub at : d.at ≡ e + 1
  pub end : d.end ≡ c.end

pub read_at : (s : Bytes) (c : Cursor) (x : Reading) (e : ℕ) (d : Cursor) → Reads s c x → x ≡ Some (field e d) → Next s c e d
unfolding Reads
read_at s c x e d r i =
    let q : Reads s c (Some (field e d)) = subst (Reads s c) i r in
    record { field = q.0; low = q.0.low; high = q.0.high; at = q.1; end = q.2 }

pub read_none : (s : Bytes) (c : Cursor) (x : Reading) → Reads s c x → x ≡ None → c.end < c.at
unfolding Reads
read_none s c x r i = subst (Reads s c) i r

module _ (s : Bytes) (c : Cursor) (low : c.at ≤ c.end) (high : c.end < length s) where
  pub finds-none : c.end < c.at → Finds s c None
  finds-none h = absurd (omega arith)

  module _ (e : ℕ) (d : Cursor) (one : Next s c e d) where
    fields : left s c.at c.end ≡ part c.at e s ∷ left s (e + 1) c.end
    fields = left-next s c.at c.end e (omega arith) low one.field

    pub finds-first : (b : Bool) → b ≡ is_start_field (part c.at e s) → not b ≡ true → Finds s c None
    unfolding Finds
    finds-first b i n = rw fields (not_first (part c.at e s) (left s (e + 1) c.end) (sym i ∙ not-true b n))

    pub finds-one : d.end < d.at → Finds s c None
    unfolding Finds is_two
    finds-one h =
        let p = one.at in
        let q = one.end in
        let n : c.end < e + 1 = omega arith in
        rw (fields, left-none s (e + 1) c.end n)

    module _ (e' : ℕ) (d' : Cursor) (two : Next s d e' d') where
      more : left s c.at c.end ≡ part c.at e s ∷ part d.at e' s ∷ left s (e' + 1) c.end
      more =
          let p = one.end in
          let i = two.low in
          let l : d.end ≤ length s = omega arith in
          let m : d.at ≤ d.end = let q = two.high in omega arith in
          fields ∙ ap (λ fs. part c.at e s ∷ fs) (rw (← one.at, ← one.end) (left-next s d.at d.end e' l m two.field))

      pub finds-second : (b : Bool) → b ≡ is_start_field (part d.at e' s) → not b ≡ true → Finds s c None
      unfolding Finds
      finds-second b i n = rw more (not-second (part c.at e s) (part d.at e' s) (left s (e' + 1) c.end) (sym i ∙ not-true b n))

      pub finds-third : (e' ≡ c.end → ⊥) → Finds s c None
      unfolding Finds
      finds-third h =
          let p = one.end in
          let q = two.high in
          let l : e' + 1 ≤ c.end = omega arith in
          rw (more, left-all s (e' + 1) c.end l) (third (part c.at e s) (part d.at e' s) (part (e' + 1) c.end s))

      pub finds-two : (a b : Bool) → a ≡ is_start_field (part c.at e s) → not a ≡ false → b ≡ is_start_field (part d.at e' s) → not b ≡ false → e' ≡ c.end → Finds s c (Some (field e d'))
      unfolding Finds is_two
      finds-two a b i n i' n' h =
          let p = one.at in
          let q = two.low in
          let past : c.end < e' + 1 = omega arith in
          let f : left s c.at c.end ≡ part c.at e s ∷ part d.at e' s ∷ [] = more ∙ ap (λ fs. part c.at e s ∷ part d.at e' s ∷ fs) (left-none s (e' + 1) c.end past) in
          (one.low, omega arith, two.at ∙ ap (λ x. x + 1) h, f ∙ rw (one.at, h), rw (f, sym i ∙ not-false a n, sym i' ∙ not-false b n'))
