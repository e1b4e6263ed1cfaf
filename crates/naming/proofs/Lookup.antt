-- Laws of a name looked up: the pushes are apart, so its entry decides, and one with its Label behind goes before. Assumes nothing.
use mathlib.Core.Path.{◌≡◌, refl, sym, ap, subst, ◌∙◌}
use mathlib.Core.List.{List, [], ◌∷◌, ◌++◌}
use mathlib.Core.Bool.{Bool, true, false, cond, ◌||◌, or-true, false≢true}
use mathlib.Core.Logic.{⊎_elim}
use mathlib.Core.Option.{none, some}
use Prim.Native.Nat.{ℕ, zero, suc, ◌-◌, ◌≤◌, ◌<◌}
use native.Mathlib.Nat.{eq-or-lt_of_le}
use native.Mathlib.Omega.{arith}
use lib.ListN.{length, get_or, take}
use Rattle.text.specs.Text.{Bytes, same}
use Rattle.text.specs.Field.{given}
use Rattle.text.proofs.Basics.{same-eq}
use Rattle.algebra.specs.Valid.{mem}
use Rattle.names.specs.bridge.Names.{name_at, listing, Hinted}
use Rattle.names.proofs.Laws.{listing-long, listed}
use Rattle.names.proofs.Laws.{listing-at}
use Rattle.scoping.specs.Label.{label, is_label, base, generated}
use Rattle.scoping.specs.bridge.Pushes.{Push, a_push, lookup, contains, pushed, pushes, all_pushes}
use Rattle.scoping.specs.Sets.{index_of}
use Rattle.scoping.proofs.Agree.{contains-given}
use Rattle.scoping.proofs.Index.{at-index, index_below}
use Rattle.scoping.proofs.Sets.{eq-same}
use Rattle.naming.specs.bridge.Code.{book, Apart, LabelAt}
use Rattle.naming.proofs.Labels.{base-label, label_of, label-of-none}
use Rattle.naming.proofs.Room.{contains-more}

-- ---- pushes are apart

apart-pushed : (p c : ℕ) (v : Bytes) (ps : List Push) → Apart ps → Apart (pushed p c v ps)
unfolding Apart pushed
apart-pushed p c v ps h = go (contains (base v) ps) refl
  where
    go : (t : Bool) → contains (base v) ps ≡ t → Apart (cond t ps (a_push (base v) p c ∷ ps))
    go true e = h
    go false e = (e, h)

apart-pushes : (p c : ℕ) (vs : List Bytes) (ps : List Push) → Apart ps → Apart (pushes p c vs ps)
unfolding pushes
apart-pushes p c [] ps h = h
apart-pushes p c (v ∷ vs) ps h = apart-pushes p (suc c) vs (pushed p c v ps) (apart-pushed p c v ps h)

pub apart-all : (p : ℕ) (vs js : List Bytes) (ps : List Push) → ps ≡ all_pushes p vs js → Apart ps
unfolding all_pushes Apart
apart-all p vs js ps e = rw e (apart-pushes p 0 vs (pushes 106 0 js []) (apart-pushes 106 0 js [] tt))

-- ---- entries

-- a name that is not listed is at no entry
pub unlisted : (w s : Bytes) (f l : List ℕ) (m : ℕ) → mem w (listing s f l m) ≡ false → (k : ℕ) → k < m → same w (name_at s f l k) ≡ false
unlisted w s f l m new k h = go (same w (name_at s f l k)) refl
  where
    go : (t : Bool) → same w (name_at s f l k) ≡ t → t ≡ false
    go true e = absurd (false≢true (sym new ∙ listed w s f l k m h e))
    go false e = refl

-- the entry of the name without its Label
pub label-found : (w s : Bytes) (f l h : List ℕ) (m r : ℕ) (v : Bytes) → is_label w ≡ true → v ≡ take (length w - 5) w → Hinted h (listing s f l m)
    → (r ≤ m) × (r < m → same v (name_at s f l r) ≡ true) × (r ≡ m → Hinted h (listing s f l m) → mem v (listing s f l m) ≡ false) → LabelAt w s f l m r
label-found w s f l h m r v y e hinted found =
    let to : (k : ℕ) → same v (name_at s f l k) ≡ same w (name_at s f l k ++ label) = λ k. ap (λ (u : Bytes). same u (name_at s f l k)) e ∙ label_of w (name_at s f l k) y in
    record { here = λ k. sym (to r) ∙ found.1 k; none = λ g k i. let x = found.0 in sym (to k) ∙ unlisted v s f l m (found.2 (omega arith) hinted) k i }

pub label-none : (w s : Bytes) (f l : List ℕ) (m : ℕ) → is_label w ≡ false → LabelAt w s f l m m
label-none w s f l m y = record { here = λ k. absurd (omega arith); none = λ g k i. sym (label-of-none w (name_at s f l k) y) }

-- ---- a name looked up

module _ (s : Bytes) (f l g n : List ℕ) where
  -- a name that some entry has, or has with Label behind, is there
  pub contains-at : (w : Bytes) (i m : ℕ) → i < m → (same w (name_at s f l i ++ label) || same w (name_at s f l i)) ≡ true → contains w (book s f l g n m) ≡ true
  unfolding contains book
  contains-at w i zero h e = absurd (omega arith)
  contains-at w i (suc m) h e =
      ⊎_elim
      (λ (q : i ≡ m). here (same w (name_at s f l m ++ label)) (same w (name_at s f l m)) (rw (← q) e))
      (λ (q : i < m). contains-more w (a_push (name_at s f l m) (get_or g m 0) (get_or n m 0)) (book s f l g n m) (contains-at w i m q e))
      (eq-or-lt_of_le (omega arith))
    where
      here : (a b : Bool) → (a || b) ≡ true → (a || (b || contains w (book s f l g n m))) ≡ true
      here true b x = refl
      here false true x = refl
      here false false x = absurd (false≢true x)

  -- so no later entry has the base of an earlier one, or that base with Label behind
  module _ (m i : ℕ) (h : i < m) (apart : Apart (book s f l g n (suc m))) where
    not-again : (same (name_at s f l m) (name_at s f l i ++ label) || same (name_at s f l m) (name_at s f l i)) ≡ true → ⊥
    unfolding Apart book
    not-again e = false≢true (sym apart.0 ∙ contains-at (name_at s f l m) i m h e)

    not-base : name_at s f l m ≡ name_at s f l i → ⊥
    not-base e = not-again (ap (λ (t : Bool). same (name_at s f l m) (name_at s f l i ++ label) || t) (eq-same (name_at s f l m) (name_at s f l i) e) ∙ or-true (same (name_at s f l m) (name_at s f l i ++ label)))

    not-label : name_at s f l m ≡ name_at s f l i ++ label → ⊥
    not-label e = not-again (ap (λ (t : Bool). t || same (name_at s f l m) (name_at s f l i)) (eq-same (name_at s f l m) (name_at s f l i ++ label) e))

    earlier : Apart (book s f l g n m)
    unfolding Apart book
    earlier = apart.1

  module _ (w : Bytes) where
    -- the name is a base with Label behind
    pub lookup-label : (m i : ℕ) → i < m → Apart (book s f l g n m) → same w (name_at s f l i ++ label) ≡ true
        → some (generated (get_or g i 0) (get_or n i 0) ++ label) ≡ lookup w (book s f l g n m)
    unfolding lookup book
    lookup-label zero i h apart e = absurd (omega arith)
    lookup-label (suc m) i h apart e =
        ⊎_elim
        (λ (q : i ≡ m). subst (λ (k : ℕ). same w (name_at s f l k ++ label) ≡ true → some (generated (get_or g k 0) (get_or n k 0) ++ label) ≡ lookup w (book s f l g n (suc m))) (sym q) (λ x. simp x) e)
        (λ (q : i < m). go q (same w (name_at s f l m ++ label)) refl (same w (name_at s f l m)) refl (lookup-label m i q (earlier m i q apart) e))
        (eq-or-lt_of_le (omega arith))
      where
        go : i < m → (t : Bool) → same w (name_at s f l m ++ label) ≡ t → (u : Bool) → same w (name_at s f l m) ≡ u
            → some (generated (get_or g i 0) (get_or n i 0) ++ label) ≡ lookup w (book s f l g n m)
            → some (generated (get_or g i 0) (get_or n i 0) ++ label)
            ≡ cond t (some (generated (get_or g m 0) (get_or n m 0) ++ label)) (cond u (some (generated (get_or g m 0) (get_or n m 0))) (lookup w (book s f l g n m)))
        go q true a u b r =
            absurd
            (not-base m i q apart
            (sym (base-label (name_at s f l m)) ∙ ap base (sym (same-eq w (name_at s f l m ++ label) a) ∙ same-eq w (name_at s f l i ++ label) e) ∙ base-label (name_at s f l i)))
        go q false a true b r = absurd (not-label m i q apart (sym (same-eq w (name_at s f l m) b) ∙ same-eq w (name_at s f l i ++ label) e))
        go q false a false b r = r

    -- it is no base with Label behind, but a base
    pub lookup-base : (m i : ℕ) → i < m → Apart (book s f l g n m) → ((k : ℕ) → k < m → same w (name_at s f l k ++ label) ≡ false) → same w (name_at s f l i) ≡ true
        → some (generated (get_or g i 0) (get_or n i 0)) ≡ lookup w (book s f l g n m)
    unfolding lookup book
    lookup-base zero i h apart not e = absurd (omega arith)
    lookup-base (suc m) i h apart not e =
        rw (not m (omega arith))
        (⊎_elim
        (λ (q : i ≡ m). subst (λ (k : ℕ). same w (name_at s f l k) ≡ true → some (generated (get_or g k 0) (get_or n k 0)) ≡ cond (same w (name_at s f l m)) (some (generated (get_or g m 0) (get_or n m 0))) (lookup w (book s f l g n m))) (sym q) (λ x. simp x) e)
        (λ (q : i < m). go q (same w (name_at s f l m)) refl (lookup-base m i q (earlier m i q apart) (λ k b. not k (omega arith)) e))
        (eq-or-lt_of_le (omega arith)))
      where
        go : i < m → (u : Bool) → same w (name_at s f l m) ≡ u → some (generated (get_or g i 0) (get_or n i 0)) ≡ lookup w (book s f l g n m)
            → some (generated (get_or g i 0) (get_or n i 0)) ≡ cond u (some (generated (get_or g m 0) (get_or n m 0))) (lookup w (book s f l g n m))
        go q true b r = absurd (not-base m i q apart (sym (same-eq w (name_at s f l m) b) ∙ same-eq w (name_at s f l i) e))
        go q false b r = r

    -- it is neither
    pub lookup-none : (m : ℕ) → ((k : ℕ) → k < m → same w (name_at s f l k ++ label) ≡ false) → ((k : ℕ) → k < m → same w (name_at s f l k) ≡ false) → none ≡ lookup w (book s f l g n m)
    unfolding lookup book
    lookup-none zero x y = refl
    lookup-none (suc m) x y = rw (x m (omega arith), y m (omega arith)) (lookup-none m (λ k h. x k (omega arith)) (λ k h. y k (omega arith)))

    pub contains-none : (m : ℕ) → ((k : ℕ) → k < m → same w (name_at s f l k ++ label) ≡ false) → mem w (listing s f l m) ≡ false → contains w (book s f l g n m) ≡ false
    contains-none m x y = contains-given w (book s f l g n m) ∙ ap given (sym (lookup-none m x (unlisted w s f l m y)))

    pub contains-listed : (m : ℕ) → mem w (listing s f l m) ≡ true → contains w (book s f l g n m) ≡ true
    contains-listed m y =
        let i = index_of w (listing s f l m) in
        let h : i < m = omega (arith, index_below w (listing s f l m) y, listing-long s f l m) in
        let e : same w (name_at s f l i) ≡ true = eq-same w (name_at s f l i) (sym (at-index w (listing s f l m) y) ∙ listing-at s f l i m h) in
        contains-at w i m h (ap (λ (t : Bool). same w (name_at s f l i ++ label) || t) e ∙ or-true (same w (name_at s f l i ++ label)))
