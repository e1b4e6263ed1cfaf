-- Laws of a line's three fields, one for each way out of the code. Assumes nothing.
use Prim.Native.Nat.{ℕ, ◌+◌, ◌≤◌, ◌<◌}
use mathlib.Core.Path.{◌≡◌, refl, sym, ◌∙◌, ap}
use mathlib.Core.List.{[], ◌∷◌}
use mathlib.Core.Bool.{Bool, true, false, cond, not, ◌&&◌}
use native.Mathlib.Omega.{arith}
use lib.ListN.{length}
use borrow.Author.Tests.{not-true, not-false}
use lib.Dec.{eqb}
use Rattle.text.specs.Text.{Bytes, Line, split, onto, part}
use Rattle.text.specs.Field.{constant, is_kind}
use Rattle.cursor.specs.bridge.Cursor.{left, Reads, Reading, field}
use Rattle.cursor.proofs.Laws.{left-all, left-next, left-none, reads_at, reads_none}
use Rattle.cursor.specs.declared.Cursor.{Cursor}
use Rattle.triples.specs.bridge.Triples.{first_fits, behind, none, is_three, Takes, ends, Finds}
use Rattle.std.specs.Prelude.{Some, None}

-- ---- one field

module _ (s : Bytes) (c : Cursor) (high : c.end < length s) (x : Reading) (r : Reads s c x) where
  pub takes_none : x ≡ None → Takes s c None
  unfolding Takes
  takes_none e = rw (left-none s c.at c.end (reads_none s c x r e)) refl

  module _ (e : ℕ) (d : Cursor) (is : x ≡ Some (field e d)) where
    pub read_low : c.at ≤ e
    read_low = (reads_at s c x e d r is).first.low

    pub read-high : e ≤ c.end
    read-high = (reads_at s c x e d r is).first.high

    fields : left s c.at c.end ≡ part c.at e s ∷ left s d.at d.end
    fields =
        let n = reads_at s c x e d r is in
        let l = n.first.low in
        let h = n.first.high in
        rw (n.at, n.end) (left-next s c.at c.end e (omega arith) (omega arith) n.first)

    pub takes-other : (b : Bool) → b ≡ is_kind constant (part c.at e s) → not b ≡ true → Takes s c None
    unfolding Takes
    takes-other b i n = rw fields (sym i ∙ not-true b n)

    pub takes_at : (b : Bool) → b ≡ is_kind constant (part c.at e s) → not b ≡ false → Takes s c (Some (field e d))
    unfolding Takes
    takes_at b i n = let k = reads_at s c x e d r is in (k.first.low, k.first.high, k.at, k.end, fields, rw fields (sym i ∙ not-false b n))

-- ---- three of them

split-some : (xs : Bytes) → none (split 9 xs) ≡ false
unfolding split onto
split-some [] = refl
split-some (x ∷ xs) = go (eqb x 9) (split 9 xs)
  where
    go : (t : Bool) (ps : Line) → none (cond t ([] ∷ ps) (onto x ps)) ≡ false
    go true ps = refl
    go false [] = refl
    go false (p ∷ ps) = refl

stop-first : (l : Line) → first_fits l ≡ false → is_three l ≡ false
unfolding is_three
stop-first l e = rw e

go-first : (l : Line) → first_fits l ≡ true → is_three l ≡ (first_fits (behind l) && (first_fits (behind (behind l)) && none (behind (behind (behind l)))))
unfolding is_three
go-first l e = rw e

module _ (s : Bytes) (c : Cursor) (x : Reading) (t : Takes s c x) where
  pub finds-none : x ≡ None → Finds s c None
  unfolding Finds Takes
  finds-none e = stop-first (left s c.at c.end) (rw e at t)

  module _ (e : ℕ) (d : Cursor) (is : x ≡ Some (field e d)) where
    one : Takes s c (Some (field e d))
    one = rw is at t

    pub first-end : d.end ≡ c.end
    unfolding Takes
    first-end = one.3

    module _ (y : Reading) (u : Takes s d y) where
      pub finds-one : y ≡ None → Finds s c None
      unfolding Finds Takes
      finds-one n =
          let z : first_fits (left s d.at d.end) ≡ false = rw n at u in
          go-first (left s c.at c.end) one.5 ∙ rw (one.4, z)

      module _ (e' : ℕ) (d' : Cursor) (is' : y ≡ Some (field e' d')) where
        two : Takes s d (Some (field e' d'))
        two = rw is' at u

        pub second-end : d'.end ≡ c.end
        unfolding Takes
        second-end = two.3 ∙ one.3

        rest : is_three (left s c.at c.end) ≡ (first_fits (left s d'.at d'.end) && none (behind (left s d'.at d'.end)))
        unfolding Takes
        rest = go-first (left s c.at c.end) one.5 ∙ (ap (λ l. first_fits (behind l) && (first_fits (behind (behind l)) && none (behind (behind (behind l))))) one.4 ∙ (ap (λ b. b && (first_fits (behind (left s d.at d.end)) && none (behind (behind (left s d.at d.end))))) two.5 ∙ ap (λ l. first_fits (behind l) && none (behind (behind l))) two.4))

        module _ (z : Reading) (v : Takes s d' z) where
          pub finds-two : z ≡ None → Finds s c None
          unfolding Finds Takes
          finds-two n =
              let k : first_fits (left s d'.at d'.end) ≡ false = rw n at v in
              rest ∙ rw k

          module _ (e'' : ℕ) (d'' : Cursor) (is'' : z ≡ Some (field e'' d'')) where
            three : Takes s d' (Some (field e'' d''))
            three = rw is'' at v

            last : is_three (left s c.at c.end) ≡ none (left s d''.at d''.end)
            unfolding Takes
            last = rest ∙ (ap (λ b. b && none (behind (left s d'.at d'.end))) three.5 ∙ ap (λ l. none (behind l)) three.4)

            pub finds-more : (e'' ≡ c.end → ⊥) → Finds s c None
            unfolding Finds Takes
            finds-more n =
                let p = three.1 in
                let q : d''.end ≡ c.end = three.3 ∙ (two.3 ∙ one.3) in
                let w = second-end in
                let a = three.2 in
                last ∙ (ap none (left-all s d''.at d''.end (omega arith)) ∙ split-some (part d''.at d''.end s))

            pub finds-all : e'' ≡ c.end → Finds s c (Some (ends e e'))
            unfolding Finds Takes
            finds-all n =
                let a = one.2 in
                let b = two.2 in
                let i = one.0 in
                let j = two.0 in
                let k = three.0 in
                let w = second-end in
                let past : d''.end < d''.at = let q = three.2 in let r = three.3 in omega arith in
                let empty : left s d''.at d''.end ≡ [] = left-none s d''.at d''.end past in (
                  i,
                  omega arith,
                  omega arith,
                  one.4 ∙ ap (λ l. part c.at e s ∷ l) (two.4 ∙ (ap (λ a. part a e' s ∷ left s d'.at d'.end) a ∙ ap (λ l. part (e + 1) e' s ∷ l) (three.4 ∙ (ap (λ l. part d'.at e'' s ∷ l) empty ∙ (ap (λ a. part a e'' s ∷ []) b ∙ ap (λ a. part (e' + 1) a s ∷ []) n))))),
                  last ∙ ap none empty,
                )
