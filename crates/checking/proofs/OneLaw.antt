-- One line that is awaited alone: before it nothing has happened, and behind it the run and the walk are that line's. Assumes nothing.
use Prim.Native.Nat.{ℕ, ◌-◌, ◌≤◌, ◌<◌}
use mathlib.Core.Path.{◌≡◌, ◌∙◌, ap, subst}
use mathlib.Core.List.{List, [], ◌∷◌}
use mathlib.Core.Bool.{Bool, true, false}
use native.Mathlib.Omega.{arith}
use lib.Dec.{eqb}
use Rattle.algebra.specs.bridge.Machine.{want}
use Rattle.scoping.specs.bridge.Places.{Mark, visible}
use Rattle.words.specs.bridge.Code.{sort_at}
use Rattle.std.specs.Prelude.{Ok}
use Rattle.checking.specs.declared.place.Place.{Place}
use Rattle.checking.specs.bridge.Run.{Reached}
use Rattle.lines.specs.bridge.Says.{below}
use Rattle.checking.specs.bridge.Walks.{Book, Walks, HeadWalks, entry_of}
use Rattle.lines.specs.bridge.Below.{mark_under}
use Rattle.checking.proofs.DescentLaw.{SamePlace, Rest, rest-begin, rest_then, rest-to}
use Rattle.checking.proofs.WalksLaw.{walks-none, walks-then, walks-moved, head-then, head-moved}

-- the only one of so many
pub mark-one : (sort k : ℕ) (hide : Bool) (m x : Mark) → k ≡ 1 → m ≡ mark_under sort hide (eqb k 1) x → m ≡ mark_under sort hide true x
mark-one sort k hide m x e h = h ∙ ap (λ (i : ℕ). mark_under sort hide (eqb i 1) x) e

-- a query's head has the mark that it is given
pub mark-head : (sort : ℕ) (hide last : Bool) (m x : Mark) → sort ≡ 7 → m ≡ mark_under sort hide last x → x ≡ visible → m ≡ visible
mark-head sort hide last m x e h v = h ∙ (ap (λ (i : ℕ). mark_under i hide last x) e ∙ v)

-- of one line that is awaited from p on, k are left at q
pub record Sole (s a b h : List ℕ) (A : Book) (p : Place) (sort level width : ℕ) (hide : Bool) (m : Mark) (whole : Bool) (a' b' h' : List ℕ) (B : Book) (q : Place) (k : ℕ) : Type 0 where
  pub before : k ≡ 1 → Rest s a b h p a' b' h' (want (sort_at sort) level width ∷ []) (want (sort_at sort) level width ∷ []) (Ok q) × Walks s A p B q (λ st. st)
  pub entry : k ≡ 0 → whole ≡ true → sort ≤ 7 → Walks s A p B q (entry_of level sort (mark_under sort hide true m))
  pub head : k ≡ 0 → whole ≡ false → sort ≡ 7 → Rest s a b h p a' b' h' (want (sort_at sort) level width ∷ []) (want (sort_at 2) (below sort level) 0 ∷ []) (Ok q)
  pub shown : k ≡ 0 → whole ≡ false → sort ≡ 7 → m ≡ visible → HeadWalks s A p B q

module _ (s a b h : List ℕ) (A : Book) (p : Place) (sort level width : ℕ) (hide : Bool) (m : Mark) (whole : Bool) where
  pub sole-begin : (k : ℕ) → k ≡ 1 → Sole s a b h A p sort level width hide m whole a b h A p k
  sole-begin k e = record {
    before = λ o. (rest-begin s a b h p (want (sort_at sort) level width ∷ []), walks-none s A p);
    entry = λ o. absurd (omega (arith, o, e));
    head = λ o. absurd (omega (arith, o, e));
    shown = λ o. absurd (omega (arith, o, e));
  }

  -- the line was taken, to r
  module _ (a' b' h' : List ℕ) (B : Book) (q : Place) (k n : ℕ) (one : n ≡ 1 → Sole s a b h A p sort level width hide m whole a' b' h' B q k) (up : 0 < k) (few : k ≤ n) (a'' b'' h'' : List ℕ) where
    pub sole-head : (r : Reached) → n ≡ 1
        → Rest s a' b' h' q a'' b'' h'' (want (sort_at sort) level width ∷ []) (want (sort_at 2) (below sort level) 0 ∷ []) r
        → Rest s a b h p a'' b'' h'' (want (sort_at sort) level width ∷ []) (want (sort_at 2) (below sort level) 0 ∷ []) r
    sole-head r e f = rest_then s a b h p a' b' h' (want (sort_at sort) level width ∷ []) (want (sort_at sort) level width ∷ []) q a'' b'' h'' (want (sort_at 2) (below sort level) 0 ∷ []) r ((one e).before (omega (arith, e, up, few))).0 f

    pub sole-next : (C : Book) (r : Place) (x : Mark) → x ≡ mark_under sort hide (eqb k 1) m → (whole ≡ true → sort ≤ 7 → Walks s B q C r (entry_of level sort x))
        → (whole ≡ false → sort ≡ 7 → Rest s a' b' h' q a'' b'' h'' (want (sort_at sort) level width ∷ []) (want (sort_at 2) (below sort level) 0 ∷ []) (Ok r))
        → (whole ≡ false → sort ≡ 7 → x ≡ visible → HeadWalks s B q C r) → (r' : Place) → SamePlace r r' → (i : ℕ) → i ≡ k - 1
        → n ≡ 1 → Sole s a b h A p sort level width hide m whole a'' b'' h'' C r' i
    sole-next C r x ex wk rs hd r' same i ei e =
        let o : k ≡ 1 = omega (arith, e, up, few) in
        let id = ((one e).before o).1 in record {
          before = λ c. absurd (omega (arith, c, ei, o));
          entry = λ c w t. walks-moved s A p C r r' _ same.at (walks-then s A p B q C r _ id (subst (λ (y : Mark). Walks s B q C r (entry_of level sort y)) (mark-one sort k hide x m o ex) (wk w t)));
          head = λ c w t. rest-to s a b h p a'' b'' h'' (want (sort_at sort) level width ∷ []) (want (sort_at 2) (below sort level) 0 ∷ []) r r' same (sole-head (Ok r) e (rs w t));
          shown = λ c w t v. head-moved s A p C r r' same.at (head-then s A p B q C r id (hd w t (mark-head sort hide (eqb k 1) x m t ex v)));
        }
