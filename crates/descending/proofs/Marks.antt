-- Variables that are renamed, one behind the other. Assumes nothing.
use Prim.Native.Nat.{ℕ, ◌+◌, ◌≤◌, ◌<◌}
use mathlib.Core.Path.{◌≡◌, refl, sym, ap, ◌∙◌}
use mathlib.Core.Bool.{Bool, true, false}
use mathlib.Core.List.{List, [], ◌∷◌}
use native.Mathlib.Omega.{arith}
use lib.Dec.{leb}
use lib.ListN.{length, get_or, set, length-set}
use lib.Seq.{get_or-set_same, get_or-set_other}
use borrow.Author.Tests.{leb-true, leb-false, le-leb, lt-leb, eq-eqb, ne_eqb}
use Rattle.descending.specs.bridge.Renamed.{new_mark, renamed_spot, Renamed, Walked}

-- ---- one variable

module _ (sizes : List ℕ) (k : ℕ) where
  pub mark-none : 1024 ≤ k → 3 ≡ new_mark sizes k
  unfolding new_mark
  mark-none h = rw (le-leb 1024 k h) refl

  pub mark-stays : (x : ℕ) → k < 1024 → x ≡ get_or sizes k 0 → x ≡ 0 → 3 ≡ new_mark sizes k
  unfolding new_mark
  mark-stays x h e z = rw (lt-leb 1024 k h, eq-eqb (get_or sizes k 0) 0 (sym e ∙ z)) refl

  pub mark-becomes : (x : ℕ) → k < 1024 → x ≡ get_or sizes k 0 → (x ≡ 0 → ⊥) → 4 ≡ new_mark sizes k
  unfolding new_mark
  mark-becomes x h e n = rw (lt-leb 1024 k h, ne_eqb (get_or sizes k 0) 0 (λ z. n (e ∙ z))) refl

pub one-renamed : (sizes : List ℕ) (a : List (List ℕ)) (i e m : ℕ) → i < length a → e ≡ get_or (get_or a i []) 1 0 → m ≡ new_mark sizes e → Renamed sizes a i (set a i (get_or (get_or a i []) 0 0 ∷ get_or (get_or a i []) 1 0 ∷ m ∷ [])) (i + 1)
unfolding renamed_spot
one-renamed sizes a i e m l p q = record {
  long = length-set a i _;
  low = λ j b. get_or-set_other a i j _ [] (λ z. absurd (omega arith));
  high = λ j b. get_or-set_other a i j _ [] (λ z. absurd (omega arith));
  here = λ j b h.
      let z : j ≡ i = omega arith in
      rw z (get_or-set_same a i _ [] l ∙ ap (λ (x : ℕ). get_or (get_or a i []) 0 0 ∷ get_or (get_or a i []) 1 0 ∷ x ∷ []) (q ∙ ap (new_mark sizes) p));
}

-- ---- stretches

none-renamed : (sizes : List ℕ) (a : List (List ℕ)) (i : ℕ) → Renamed sizes a i a i
none-renamed sizes a i = record { long = refl; low = λ j l. refl; high = λ j h. refl; here = λ j l h. absurd (omega arith) }

pub none-walked : (sizes : List ℕ) (a : List (List ℕ)) (i : ℕ) → i ≤ length a → Walked sizes a i a i
none-walked sizes a i l = record { on = omega arith; inside = l; all = none-renamed sizes a i }

module _ {sizes : List ℕ} {a : List (List ℕ)} {i : ℕ} {b : List (List ℕ)} where
  pub one-walked : i < length a → Renamed sizes a i b (i + 1) → Walked sizes a i b (i + 1)
  one-walked l h = record { on = omega arith; inside = omega arith; all = h }

  -- where a walk ended the next can begin
  pub next-in : {r : ℕ} → Walked sizes a i b r → r ≤ length b
  next-in w = let x = w.inside in let y = w.all.long in omega arith

  in_both : {m : ℕ} {c : List (List ℕ)} {r : ℕ} → Renamed sizes a i b m → Renamed sizes b m c r → (j : ℕ) → i ≤ j → j < r → (t : Bool) → leb m j ≡ t → get_or c j [] ≡ renamed_spot sizes (get_or a j [])
  in_both {m} f g j l h true p = let q = leb-true m j p in g.here j q h ∙ ap (renamed_spot sizes) (f.high j q)
  in_both {m} f g j l h false p = let q = leb-false m j p in g.low j q ∙ f.here j l q

  -- one after the other
  pub both-walked : {m : ℕ} {c : List (List ℕ)} {r : ℕ} → Walked sizes a i b m → Walked sizes b m c r → Walked sizes a i c r
  both-walked {m} f g =
      let o = f.on in
      let n = g.on in
      record {
        on = omega arith;
        inside = let x = g.inside in let y = f.all.long in omega arith;
        all = record {
          long = g.all.long ∙ f.all.long;
          low = λ j l. g.all.low j (omega arith) ∙ f.all.low j l;
          high = λ j h. g.all.high j h ∙ f.all.high j (omega arith);
          here = λ j l h. in_both f.all g.all j l h (leb m j) refl;
        };
      }
