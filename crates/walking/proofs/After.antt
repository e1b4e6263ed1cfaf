-- What stands after a stretch of the walk, and stretches one after the other. Assumes nothing.
use Prim.Native.Nat.{ℕ}
use mathlib.Core.Path.{◌≡◌, refl, sym, ap, subst, ◌∙◌}
use mathlib.Core.List.{List, [], ◌∷◌, ◌++◌}
use mathlib.Core.Bool.{Bool, true, false, cond}
use Rattle.text.specs.Text.{Bytes, Line, same, text_of}
use Rattle.text.specs.Word.{bytes}
use Rattle.algebra.specs.Valid.{mem}
use Rattle.algebra.specs.bridge.Table.{Entry}
use Rattle.emit.specs.bridge.Emit.{puts}
use Rattle.scoping.specs.bridge.Places.{Mark, silent, Place, marked}
use Rattle.scoping.specs.bridge.Walk.{State, state}
use Rattle.walking.specs.bridge.Walk.{Output, writes, put_line}
use Rattle.walking.specs.bridge.Flags.{flag_all}
use Rattle.walking.proofs.Written.{Fields, puts-ended}

-- from o on, the lines that front puts before others are written, the places xs are noted, and rest is left
pub record After (ns : List Bytes) (o : Output) (front : List Line → List Line) (xs : List Place) (rest : List Line) (st : State Output) : Type 0 where
  pub left : st.lines ≡ rest
  pub written : (t : List Line) → puts (text_of t) st.output.em ≡ puts (text_of (front t)) o.em
  pub noted : st.output.flags ≡ flag_all ns xs o.flags

-- ---- notes

flag-append : (ns : List Bytes) (xs ys : List Place) (k : List ℕ) → flag_all ns (xs ++ ys) k ≡ flag_all ns ys (flag_all ns xs k)
unfolding flag_all
flag-append ns [] ys k = refl
flag-append ns (x ∷ xs) ys k = flag-append ns xs ys _

-- a silent place changes nothing
flag-silent : (ns vs : List Bytes) (xs : List Place) (k : List ℕ) → flag_all ns (marked silent vs ++ xs) k ≡ flag_all ns xs k
unfolding flag_all marked
flag-silent ns [] xs k = refl
flag-silent ns (v ∷ vs) xs k = ap (flag_all ns (marked silent vs ++ xs)) (go (mem v ns)) ∙ flag-silent ns vs xs k
  where
    go : (t : Bool) → cond t k k ≡ k
    go true = refl
    go false = refl

pub marked_append : (m : Mark) (us vs : List Bytes) → marked m us ++ marked m vs ≡ marked m (us ++ vs)
unfolding marked
marked_append m [] vs = refl
marked_append m (u ∷ us) vs = ap (λ (l : List Place). record { name = u; mark = m } ∷ l) (marked_append m us vs)

-- ---- stretches

module _ {ns : List Bytes} where
  -- nothing is written
  pub none_after : {rest : List Line} {o : Output} → After ns o (λ t. t) [] rest (state rest o)
  unfolding flag_all
  none_after = record { left = refl; written = λ t. refl; noted = refl }

  module _ {o : Output} {a : List Line → List Line} {xs : List Place} {ls : List Line} {st : State Output} where
    -- one after the other
    pub then : {b : List Line → List Line} {ys : List Place} {rest : List Line} (g : State Output → State Output)
        → After ns o a xs ls st → ((o : Output) → After ns o b ys rest (g (state ls o))) → After ns o (λ t. a (b t)) (xs ++ ys) rest (g st)
    then {b} {ys} g f h =
        let e : g (state ls st.output) ≡ g st = ap (λ (l : List Line). g (state l st.output)) (sym f.left) in
        let n = h st.output in
        record {
          left = sym (ap (λ (z : State Output). z.lines) e) ∙ n.left;
          written = λ t. sym (ap (λ (z : State Output). puts (text_of t) z.output.em) e) ∙ n.written t ∙ f.written (b t);
          noted = sym (ap (λ (z : State Output). z.output.flags) e) ∙ n.noted ∙ ap (flag_all ns ys) f.noted ∙ sym (flag-append ns xs ys o.flags);
        }

    -- the same places, told otherwise
    pub told : {ys : List Place} → xs ≡ ys → After ns o a xs ls st → After ns o a ys ls st
    told e f = subst (λ (zs : List Place). After ns o a zs ls st) e f

    -- the same state, told otherwise
    pub reached : {st' : State Output} → st' ≡ st → After ns o a xs ls st → After ns o a xs ls st'
    reached e f = subst (λ (z : State Output). After ns o a xs ls z) (sym e) f

    -- a silent place is not noted
    pub muted : (vs : List Bytes) → After ns o a xs ls st → After ns o a (marked silent vs ++ xs) ls st
    muted vs f = record { left = f.left; written = f.written; noted = f.noted ∙ sym (flag-silent ns vs xs o.flags) }

-- ---- one line

-- its word and its fields, as its entry of the table has them
pub line : {ns : List Bytes} {fs gs vs : List Bytes} (new : Bytes → Bytes) (m : Mark) (e : Entry) (rest : List Line) (o : Output) → Fields ns new m (same e.word (bytes "service")) e.row.slots 0 fs gs vs
    → After ns o (λ t. (e.word ∷ gs) ∷ t) (marked m vs) rest (state rest (put_line ns new m e.row e.word fs o))
unfolding put_line text_of
line {ns} {gs = gs} new m e rest o q = record {
  left = refl;
  written = λ t. ap (λ (x : Output). puts (text_of t) (puts (10 ∷ []) x.em)) (q.at (writes e.word o)) ∙ puts-ended e.word gs (text_of t) o.em;
  noted = ap (λ (x : Output). x.flags) (q.at (writes e.word o));
}
