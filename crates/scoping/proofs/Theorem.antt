-- Under demand 3's premises: a side's names stay apart, become variables, and a left and a right name meet exactly if they are the two columns of one join pair. Assumes nothing.
use mathlib.Core.Path.{◌≡◌, refl, sym, ap, ap₂, ◌∙◌}
use mathlib.Core.List.{List, [], ◌∷◌}
use mathlib.Core.Bool.{Bool, true, false, not, ◌||◌}
use Prim.Native.Nat.{ℕ, suc, ◌≤◌, ◌<◌}
use native.Mathlib.Omega.{arith}
use lib.ListN.{length, get_or}
use lib.Dec.{eqb}
use borrow.Author.Tests.{eqb-false}
use Rattle.text.specs.Text.{Bytes, same}
use Rattle.text.specs.Field.{most, is_var}
use Rattle.text.proofs.Basics.{and_left, and_right}
use Rattle.algebra.specs.Valid.{mem, different}
use Rattle.algebra.specs.Tree.{Pattern, project}
use Rattle.algebra.proofs.Lines.{different-both, or-neither, not-no}
use Rattle.scoping.specs.Sets.{all, any, index_of}
use Rattle.scoping.specs.bridge.Sets.{Once}
use Rattle.scoping.specs.Variables.{variables_in_pattern}
use Rattle.scoping.specs.Label.{is_label, prefix_j, prefix_l, prefix_r}
use Rattle.scoping.specs.Numbering.{numbered}
use Rattle.scoping.specs.bridge.Pushes.{all_pushes, new_name}
use Rattle.scoping.specs.Premises.{columns_at, inside, different_positions, side_name}
use Rattle.scoping.specs.bridge.Premises.{NamePremises, is_pair}
use Rattle.scoping.proofs.Sets.{not_same}
use Rattle.scoping.proofs.Positions.{inside-first, inside-rest, different-first, different-rest}
use Rattle.scoping.proofs.Numbered.{numbered-mem}
use Rattle.scoping.proofs.Agree.{renamed-by-pushes}
use Rattle.scoping.proofs.Closed.{Plain, plain-mem, target, new-name-target}
use Rattle.scoping.proofs.Index.{mem-at, index_at}
use Rattle.scoping.proofs.NewVariables.{target-variable}
use Rattle.scoping.proofs.Meet.{new-names-apart, new-names-meet}

-- ---- from the premises

plain_of : (vs : List Bytes) → all (λ w. not (is_label w)) vs ≡ true → Plain vs
unfolding all
plain_of [] h = tt
plain_of (v ∷ vs) h = (not-no (is_label v) (and_left (not (is_label v)) _ h), plain_of vs (and_right (not (is_label v)) _ h))

plain-columns : (cs : List Bytes) (is : List ℕ) → ((w : Bytes) → mem w cs ≡ true → is_label w ≡ false) → inside cs is ≡ true → Plain (columns_at cs is)
unfolding columns_at
plain-columns cs [] h k = tt
plain-columns cs (i ∷ is) h k = (h (get_or cs i []) (mem-at cs i (inside-first cs i is k)), plain-columns cs is h (inside-rest cs i is k))

column-other : (cs : List Bytes) → Once cs → (i : ℕ) → i < length cs → (is : List ℕ) → inside cs is ≡ true → any (eqb i) is ≡ false → mem (get_or cs i []) (columns_at cs is) ≡ false
unfolding mem columns_at any
column-other cs o i h [] k d = refl
column-other cs o i h (j ∷ is) k d =
    ap (λ (b : Bool). b || mem (get_or cs i []) (columns_at cs is))
    (not_same (get_or cs i []) (get_or cs j []) (λ e. eqb-false i j (or-neither (eqb i j) (any (eqb i) is) d).0 (sym (index_at cs i o h) ∙ ap (λ (n : Bytes). index_of n cs) e ∙ index_at cs j o (inside-first cs j is k))))
    ∙ column-other cs o i h is (inside-rest cs j is k) (or-neither (eqb i j) (any (eqb i) is) d).1

once-columns : (cs : List Bytes) → Once cs → (is : List ℕ) → inside cs is ≡ true → different_positions is ≡ true → Once (columns_at cs is)
unfolding columns_at different
once-columns cs o [] k d = refl
once-columns cs o (i ∷ is) k d =
    different-both (get_or cs i []) (columns_at cs is) (column-other cs o i (inside-first cs i is k) is (inside-rest cs i is k) (different-first i is d)) (once-columns cs o is (inside-rest cs i is k) (different-rest i is d))

pub columns-length : (cs : List Bytes) (is : List ℕ) → length (columns_at cs is) ≡ length is
unfolding columns_at
columns-length cs [] = refl
columns-length cs (i ∷ is) = ap suc (columns-length cs is)

module _ (cs : List Bytes) (p : Pattern) (is : List ℕ) (s : NamePremises cs p is) where
  -- a column is numbered
  pub column-numbered : (w : Bytes) → mem w cs ≡ true → mem w (numbered (project cs p)) ≡ true
  unfolding variables_in_pattern
  column-numbered w h = numbered-mem (project cs p) s.valid w ∙ ap (λ (b : Bool). b || mem w (variables_in_pattern (project cs p)).hidden) h

  names-plain : Plain (numbered (project cs p))
  names-plain = plain_of (numbered (project cs p)) s.plain

  joins-plain : Plain (columns_at cs is)
  joins-plain = plain-columns cs is (λ w h. plain-mem w (numbered (project cs p)) names-plain (column-numbered w h)) s.positions

  joins-once : Once (columns_at cs is)
  joins-once = once-columns cs s.columns is s.positions s.different

  by-pushes : (prefix : ℕ) (w : Bytes) → side_name prefix cs p is w ≡ new_name (all_pushes prefix (numbered (project cs p)) (columns_at cs is)) w
  unfolding side_name
  by-pushes prefix w = renamed-by-pushes prefix (numbered (project cs p)) (columns_at cs is) w

  -- each name in scope or hidden becomes j and its place among the join variables, or the prefix and its number
  pub side-target : (prefix : ℕ) (w : Bytes) → mem w (numbered (project cs p)) ≡ true → side_name prefix cs p is w ≡ target prefix (numbered (project cs p)) (columns_at cs is) w
  side-target prefix w h = by-pushes prefix w ∙ new-name-target prefix (numbered (project cs p)) (columns_at cs is) names-plain joins-plain w h

  -- renaming keeps apart all names in scope or hidden
  pub side-apart : (prefix : ℕ) → (prefix ≡ prefix_j → ⊥) → (w u : Bytes) → mem w (numbered (project cs p)) ≡ true → mem u (numbered (project cs p)) ≡ true
      → side_name prefix cs p is w ≡ side_name prefix cs p is u → w ≡ u
  side-apart prefix d w u h k e =
      new-names-apart prefix d (numbered (project cs p)) (columns_at cs is) names-plain joins-plain w u h k (sym (by-pushes prefix w) ∙ e ∙ by-pushes prefix u)

  -- and makes variables of them
  pub side-variables : (prefix : ℕ) → length (numbered (project cs p)) ≤ most → length is ≤ most → (w : Bytes) → mem w (numbered (project cs p)) ≡ true
      → is_var (side_name prefix cs p is w) ≡ true
  side-variables prefix a b w h =
      ap is_var (by-pushes prefix w ∙ new-name-target prefix (numbered (project cs p)) (columns_at cs is) names-plain joins-plain w h)
      ∙ target-variable prefix (numbered (project cs p)) (columns_at cs is) w h a (omega (arith, columns-length cs is))

-- a left and a right name become one exactly if they are the two columns of one join pair
pub sides-meet : (cs : List Bytes) (p : Pattern) (is : List ℕ) (ds : List Bytes) (q : Pattern) (ks : List ℕ) → NamePremises cs p is → NamePremises ds q ks
    → (w u : Bytes) → mem w (numbered (project cs p)) ≡ true → mem u (numbered (project ds q)) ≡ true
    → same (side_name prefix_l cs p is w) (side_name prefix_r ds q ks u) ≡ is_pair (columns_at cs is) (columns_at ds ks) w u
sides-meet cs p is ds q ks s t w u h k =
    ap₂ same (by-pushes cs p is s prefix_l w) (by-pushes ds q ks t prefix_r u)
    ∙ new-names-meet (numbered (project cs p)) (columns_at cs is) (numbered (project ds q)) (columns_at ds ks)
    (names-plain cs p is s) (joins-plain cs p is s) (names-plain ds q ks t) (joins-plain ds q ks t) (joins-once cs p is s) (joins-once ds q ks t) w u h k
