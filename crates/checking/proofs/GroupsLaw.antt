-- The groups of lines below a line in turn, for the run and for the walk. Assumes nothing.
use Prim.Native.Nat.{ℕ, zero, suc, ◌/◌, ◌%◌, ◌≤◌}
use mathlib.Core.Path.{◌≡◌}
use mathlib.Core.List.{List, [], ◌∷◌}
use mathlib.Core.Bool.{true}
use lib.Dec.{eqb, leb}
use lib.ListN.{replicate}
use borrow.Author.Tests.{leb-true, eqb-true}
use Rattle.text.specs.Text.{Bytes}
use Rattle.text.proofs.Basics.{and_left, and_right}
use Rattle.algebra.specs.bridge.Machine.{want}
use Rattle.scoping.specs.bridge.Walk.{State, times as many, child, beneath, tree}
use Rattle.scoping.specs.bridge.Spots.{Trace, spot_line}
use Rattle.words.specs.bridge.Code.{sort_at, groups_in, sorts_in}
use Rattle.checking.specs.declared.place.Place.{Place}
use Rattle.lines.specs.bridge.Below.{amount_in, groups}
use Rattle.lines.specs.bridge.Spotted.{mark_at}
use Rattle.checking.specs.bridge.Walks.{book_at, Walks}
use Rattle.algebra.specs.declared.Fault.{Fault}
use Rattle.std.specs.Prelude.{Ok, Err}
use Rattle.checking.proofs.DescentLaw as D
use Rattle.checking.proofs.WalksLaw as W

-- the sorts of a number: that of its first group, and those behind it
first-sort : (b k n : ℕ) → sorts_in b (suc k) n ≡ true → n / 32 % 16 ≤ b
unfolding sorts_in
first-sort b k n h = leb-true (n / 32 % 16) b (and_left (leb (n / 32 % 16) b) (sorts_in b k (n / 512)) h)

more-sorts : (b k n : ℕ) → sorts_in b (suc k) n ≡ true → sorts_in b k (n / 512) ≡ true
unfolding sorts_in
more-sorts b k n h = and_right (leb (n / 32 % 16) b) (sorts_in b k (n / 512)) h

no-sorts : (b n : ℕ) → sorts_in b 0 n ≡ true → n ≡ 0
unfolding sorts_in
no-sorts b n h = eqb-true n 0 h

module _ (s : Bytes) (level first second flag mark all : ℕ) (a b h : List ℕ) (w words v : List (List ℕ)) (p : Place) where
  abbrev pub beneath_of : ℕ → ℕ → State Trace → State Trace
  beneath_of k n = beneath spot_line (tree spot_line level) (eqb flag 1) (mark_at mark) (groups_in k n) (first ∷ second ∷ [])

  -- of the groups of a number, those of another are left
  pub record Left (a' b' h' : List ℕ) (w' v' : List (List ℕ)) (q : Place) (n : ℕ) : Type 0 where
    pub many : ℕ
    pub sorts : sorts_in 11 many n ≡ true
    pub runs : D.Rest s a b h p a' b' h' (groups 3 all level first second) (groups many n level first second) (Ok q)
    pub walks : sorts_in 6 3 all ≡ true → (sorts_in 6 many n ≡ true) × W.Rest s (book_at a b w words v p) p (book_at a' b' w' words v' q) q (beneath_of 3 all) (beneath_of many n)

  pub left-begin : sorts_in 11 3 all ≡ true → Left a b h w v p all
  left-begin o = record { many = 3; sorts = o; runs = D.rest-begin s a b h p (groups 3 all level first second); walks = λ low. (low, W.rest-begin s (book_at a b w words v p) p (beneath_of 3 all)) }

  module _ (a' b' h' : List ℕ) (w' v' : List (List ℕ)) (q : Place) (n : ℕ) (l : Left a' b' h' w' v' q n) where
    module _ (some : n ≡ 0 → ⊥) where
      pub left-sort : n / 32 % 16 ≤ 11
      left-sort = go l.many l.sorts
        where
          go : (k : ℕ) → sorts_in 11 k n ≡ true → n / 32 % 16 ≤ 11
          go zero o = absurd (some (no-sorts 11 n o))
          go (suc k) o = first-sort 11 k n o

      module _ (times : ℕ) (e : times ≡ amount_in (n % 4) (n / 4 % 8) first second) (a'' b'' h'' : List ℕ) where
        pub left-stop : (f : Fault) → D.Goes s a' b' h' q a'' b'' h'' (replicate times (want (sort_at (n / 32 % 16)) level first)) (Err f) → D.Goes s a b h p a'' b'' h'' (groups 3 all level first second) (Err f)
        left-stop fault g = go l.many l.sorts l.runs
          where
            go : (k : ℕ) → sorts_in 11 k n ≡ true → D.Rest s a b h p a' b' h' (groups 3 all level first second) (groups k n level first second) (Ok q) → D.Goes s a b h p a'' b'' h'' (groups 3 all level first second) (Err fault)
            go zero o f = absurd (some (no-sorts 11 n o))
            go (suc k) o f = D.rest-stop s a b h p a'' b'' h'' _ _ [] fault (D.rest-next s a b h p a' b' h' (groups 3 all level first second) q k n level first second f times e a'' b'' h'' (Err fault) g)

        pub left-next : (r : Place) → D.Goes s a' b' h' q a'' b'' h'' (replicate times (want (sort_at (n / 32 % 16)) level first)) (Ok r) → (w'' v'' : List (List ℕ))
            → (n / 32 % 16 ≤ 6 → Walks s (book_at a' b' w' words v' q) q (book_at a'' b'' w'' words v'' r) r (many (child spot_line (tree spot_line level) (eqb flag 1) (mark_at mark) (sort_at (n / 32 % 16))) times)) → Left a'' b'' h'' w'' v'' r (n / 512)
        left-next r g w'' v'' u0 = go l.many l.sorts l.runs l.walks
          where
            go : (k : ℕ) → sorts_in 11 k n ≡ true → D.Rest s a b h p a' b' h' (groups 3 all level first second) (groups k n level first second) (Ok q)
                → (sorts_in 6 3 all ≡ true → (sorts_in 6 k n ≡ true) × W.Rest s (book_at a b w words v p) p (book_at a' b' w' words v' q) q (beneath_of 3 all) (beneath_of k n)) → Left a'' b'' h'' w'' v'' r (n / 512)
            go zero o f t = absurd (some (no-sorts 11 n o))
            go (suc k) o f t = record {
              many = k;
              sorts = more-sorts 11 k n o;
              runs = D.rest-next s a b h p a' b' h' (groups 3 all level first second) q k n level first second f times e a'' b'' h'' (Ok r) g;
              walks = λ low.
                  let u = t low in
                  (more-sorts 6 k n u.0, W.rest-next s (book_at a b w words v p) p (book_at a' b' w' words v' q) q (beneath_of 3 all) level (eqb flag 1) (mark_at mark) first second k n u.1 times e (book_at a'' b'' w'' words v'' r) r (u0 (first-sort 6 k n u.0)));
            }

    module _ (none : n ≡ 0) where
      pub left-went : D.Goes s a b h p a' b' h' (groups 3 all level first second) (Ok q)
      left-went = D.rest-done s a b h p a' b' h' (groups 3 all level first second) q l.many n level first second l.runs none

      pub left-walked : sorts_in 6 3 all ≡ true → Walks s (book_at a b w words v p) p (book_at a' b' w' words v' q) q (beneath_of 3 all)
      left-walked low = W.rest-done s (book_at a b w words v p) p (book_at a' b' w' words v' q) q (beneath_of 3 all) level (eqb flag 1) (mark_at mark) first second l.many n (l.walks low).1 none
