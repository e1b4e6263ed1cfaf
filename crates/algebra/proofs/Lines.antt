-- What the tally calls lines are the lines of the text, and its names are different variables. Assumes nothing.
use mathlib.Core.Path.{◌≡◌, refl, sym, ◌∙◌, ap}
use mathlib.Core.Bool.{Bool, true, false, cond, not, ◌||◌, true≢false, false≢true}
use mathlib.Core.List.{List, [], ◌∷◌, ◌++◌}
use Prim.Native.Nat.{ℕ, suc, ◌+◌}
use native.Mathlib.Omega.{arith}
use lib.ListN.{length}
use Rattle.text.specs.Text.{Bytes, Line, same, lines_of}
use Rattle.text.specs.Field.{is_var}
use Rattle.text.proofs.Basics.{same-eq, same_refl, and_left, and_right, and_both}
use Rattle.text.proofs.Texts.{lines-back}
use Rattle.algebra.specs.Tree.{Pattern}
use Rattle.algebra.specs.Query.{Query, PairList, Pair, unique, BindingSet, Filter}
use Rattle.algebra.specs.Layout.{put, layout, put_query, put_pairs, put_sets, put_filters}
use Rattle.algebra.specs.Valid.{mem, different, Valid}
use Rattle.algebra.specs.Tally.{Tally, start, notes, noted, headed, paired, tally, tally_query, tally_pair, tally_pairs, tally_sets, tally_filters}
use Rattle.algebra.specs.bridge.Just.{Variables}
use Rattle.algebra.proofs.Walk.{Keeps, walk, walk-query, walk-sets, walk-filters}
use Rattle.algebra.proofs.Neat.{neat}

-- ---- lines: those to come and those counted are always as many

abbrev Lines : ℕ → List Line → Tally → Type 0
Lines n s m = length s + m.lines ≡ n

lines_keep : (n : ℕ) → Keeps (Lines n)
unfolding noted headed
lines_keep n = record { noted = λ l s fs m h i. omega (arith, i); headed = λ w cs s m i. omega (arith, i) }

pub lines_are : (p : Pattern) → (tally p start).lines ≡ length (put p [])
lines_are p = let a = walk (Lines (length (put p []) + 0)) (lines_keep _) p [] start refl in omega (arith, a)

pub lines-are-query : (q : Query) → (tally_query q start).lines ≡ length (put_query q [])
lines-are-query q = let a = walk-query (Lines (length (put_query q []) + 0)) (lines_keep _) q [] start refl in omega (arith, a)

pub lines-are-sets : (xs : List BindingSet) → (tally_sets xs start).lines ≡ length (put_sets xs [])
lines-are-sets xs = let a = walk-sets (Lines (length (put_sets xs []) + 0)) (lines_keep _) xs [] start refl in omega (arith, a)

pub lines-are-filters : (fs : List Filter) → (tally_filters fs start).lines ≡ length (put_filters fs [])
lines-are-filters fs = let a = walk-filters (Lines (length (put_filters fs []) + 0)) (lines_keep _) fs [] start refl in omega (arith, a)

pair_line : (b : Bool) (f : Bytes) (m : Tally) → (cond b (paired f m) (noted [] m)).lines ≡ suc m.lines
unfolding paired noted
pair_line true f m = refl
pair_line false f m = refl

pairs-lines : (κ : PairList) (xs : List Pair) (m : Tally) → (tally_pairs κ xs m).lines ≡ length (put_pairs xs []) + m.lines
unfolding tally_pairs put_pairs
pairs-lines κ [] m = omega arith
pairs-lines κ (x ∷ xs) m = let a = pairs-lines κ xs (tally_pair κ x.first m) in let b = pair_line (unique κ) x.first m in omega (arith, a, b)

pub lines-are-pairs : (κ : PairList) (xs : List Pair) → (tally_pairs κ xs start).lines ≡ length (put_pairs xs [])
lines-are-pairs κ xs = let a = pairs-lines κ xs start in omega (arith, a)

-- and so the lines of the text of a well formed tree
pub lines-of-text : (p : Pattern) → Valid p → (tally p start).lines ≡ length (lines_of (layout p))
unfolding layout
lines-of-text p v = lines_are p ∙ sym (ap length (lines-back (put p []) (neat p [] v tt)))

-- ---- names: distinct variables

same_not : (a b : Bytes) → same a b ≡ false → same b a ≡ false
same_not a b e = go (same b a) refl
  where
    go : (t : Bool) → same b a ≡ t → t ≡ false
    go true q = let i : b ≡ a = same-eq b a q in absurd (true≢false (sym (same_refl a) ∙ (ap (same a) (sym i) ∙ e)))
    go false q = refl

pub or-neither : (a b : Bool) → (a || b) ≡ false → (a ≡ false) × (b ≡ false)
or-neither true b e = absurd (true≢false e)
or-neither false b e = (refl, e)

mem-last : (v f : Bytes) (ns : List Bytes) → mem v ns ≡ false → same v f ≡ false → mem v (ns ++ (f ∷ [])) ≡ false
unfolding mem
mem-last v f [] h e = rw e
mem-last v f (x ∷ xs) h e = let a = or-neither (same v x) (mem v xs) h in rw (a.0, mem-last v f xs a.1 e)

pub not-no : (b : Bool) → not b ≡ true → b ≡ false
not-no true h = absurd (false≢true h)
not-no false h = refl

-- the first stands not behind, and the rest are different
pub different-head : (x : Bytes) (xs : List Bytes) → different (x ∷ xs) ≡ true → mem x xs ≡ false
unfolding different
different-head x xs d = not-no (mem x xs) (and_left (not (mem x xs)) (different xs) d)

pub different-tail : (x : Bytes) (xs : List Bytes) → different (x ∷ xs) ≡ true → different xs ≡ true
unfolding different
different-tail x xs d = and_right (not (mem x xs)) (different xs) d

pub different-both : (x : Bytes) (xs : List Bytes) → mem x xs ≡ false → different xs ≡ true → different (x ∷ xs) ≡ true
unfolding different
different-both x xs h d = and_both (not (mem x xs)) (different xs) (ap not h) d

different-more : (f : Bytes) (ns : List Bytes) → different ns ≡ true → mem f ns ≡ false → different (ns ++ (f ∷ [])) ≡ true
unfolding mem
different-more f [] d h = different-both f [] refl d
different-more f (x ∷ xs) d h =
    let a = or-neither (same f x) (mem f xs) h in
    different-both x (xs ++ (f ∷ [])) (mem-last x f xs (different-head x xs d) (same_not f x a.0)) (different-more f xs (different-tail x xs d) a.1)

variables-more : (f : Bytes) (ns : List Bytes) → Variables ns → is_var f ≡ true → Variables (ns ++ (f ∷ []))
unfolding Variables
variables-more f [] v h = (h, tt)
variables-more f (x ∷ xs) v h = (v.0, variables-more f xs v.1 h)

abbrev Names : List Bytes → Type 0
Names ns = (different ns ≡ true) × Variables ns

notes-names : (fs ns : List Bytes) → Names ns → Names (notes fs ns)
unfolding notes
notes-names [] ns h = h
notes-names (f ∷ fs) ns h = notes-names fs _ (go (is_var f) (mem f ns) refl refl)
  where
    go : (b c : Bool) → is_var f ≡ b → mem f ns ≡ c → Names (cond b (cond c ns (ns ++ (f ∷ []))) ns)
    go true true p q = h
    go true false p q = (different-more f ns h.0 q, variables-more f ns h.1 p)
    go false c p q = h

names-keep : Keeps (λ s m. Names m.names)
unfolding noted headed
names-keep = record { noted = λ l s fs m h i. notes-names fs m.names i; headed = λ w cs s m i. notes-names cs m.names i }

no_names : Names []
unfolding different Variables
no_names = (refl, tt)

pub names-different : (p : Pattern) → (different (tally p start).names ≡ true) × Variables (tally p start).names
names-different p = walk (λ s m. Names m.names) names-keep p [] start no_names

pub names-different-query : (q : Query) → (different (tally_query q start).names ≡ true) × Variables (tally_query q start).names
names-different-query q = walk-query (λ s m. Names m.names) names-keep q [] start no_names
