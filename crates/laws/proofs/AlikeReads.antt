-- Alike texts are refused alike, or read as trees, queries and lists that are the same with literals erased. Assumes nothing.
use mathlib.Core.Path.{◌≡◌, refl, sym, ap, ap₂, subst, ◌∙◌}
use mathlib.Core.Bool.{Bool, true, false, cond, not, ◌&&◌}
use mathlib.Core.List.{List, [], ◌∷◌, map}
use Prim.Native.Nat.{ℕ, zero, suc}
use native.Mathlib.Omega.{arith}
use lib.ListN.{length}
use lib.Dec.{ltb}
use Rattle.text.specs.Text.{Bytes, Line, same, text_of, lines_of}
use Rattle.text.specs.Word.{bytes}
use Rattle.text.specs.Field.{digits_of, number_of, clean, is_var, is_kind, fits}
use Rattle.text.proofs.Basics.{same-eq}
use Rattle.text.proofs.Texts.{lines-back}
use Rattle.algebra.specs.Tree.{Pattern}
use Rattle.algebra.specs.Query.{Query, PairList, joins, constants, mapping, first_kind, second_kind, unique}
use Rattle.algebra.specs.Layout.{put, layout, put_query}
use Rattle.algebra.specs.Bounded.{layout_query}
use Rattle.algebra.specs.Valid.{mem, Valid, ValidQuery}
use Rattle.algebra.specs.Tally.{bounds, Tally, start, within, tally_pair, tally, tally_query}
use Rattle.algebra.specs.Reader.{Refusal, malformed, over_bound, Got, got, refused, Reader, next, or_refuse, one, kept, end, too_many, close_at, several, Outcome, reads, refuses, outcome, read_text}
use Rattle.algebra.specs.bridge.Table.{patterns, heads}
use Rattle.algebra.specs.bridge.Machine.{Want, want, Check, bad, More, done, run, check_text}
use Rattle.algebra.specs.bridge.Verdict.{checked}
use Rattle.algebra.specs.Texts.{read_tree, read_query, read_pairs}
use Rattle.algebra.specs.Given.{empty_lines, query_lines, read_given_tree, read_given_query}
use Rattle.algebra.proofs.Given.{tree-as-it-is, query-as-it-is}
use Rattle.algebra.proofs.CheckReads.{check-tree, check-query}
use Rattle.algebra.proofs.Neat.{neat, query-neat}
use Rattle.algebra.proofs.Theorem.{tree-exactly, query-exactly}
use Rattle.algebra.proofs.Roomy.{layout-injective}
use Rattle.merging.specs.Request.{made}
use Rattle.merging.specs.Merge.{over}
use Rattle.laws.specs.Alike.{AllAlike, ends, also, AlikeLine, untouched, touched, Alike}
use Rattle.laws.proofs.Erased.{erased, erased_line, fits-erased}
use Rattle.laws.proofs.ErasedTree.{erased_tree, put-erased, valid-erased}
use Rattle.laws.proofs.ErasedCheck.{run-erased}
use Rattle.laws.proofs.AlikeLines.{lines_same}
use Rattle.algebra.specs.Query as Query
use Rattle.algebra.specs.ListReading as L

-- both are refused alike, or both are read, and f makes them the same
pub data ReadAlike {A B : Type 0} (f : A → B) : Outcome A → Outcome A → Type 0 where
  reads_alike : (a b : A) → f a ≡ f b → ReadAlike f (reads a) (reads b)
  refuses_alike : (n : Refusal) → ReadAlike f (refuses n) (refuses n)

pub read_alike : {A B : Type 0} (f : A → B) (o p : Outcome A) → made f o ≡ made f p → ReadAlike f o p
read_alike f (reads a) (reads b) e = reads_alike a b (let h : f a ≡ f b = cc in h)
read_alike f (reads a) (refuses n) e = let z : ◌≡◌ {A = ℕ} 0 1 = cc in absurd (omega arith)
read_alike f (refuses n) (reads b) e = let z : ◌≡◌ {A = ℕ} 0 1 = cc in absurd (omega arith)
read_alike f (refuses n) (refuses k) e = subst (λ (j : Refusal). ReadAlike f (refuses n) (refuses j)) (let h : n ≡ k = cc in h) (refuses_alike n)

module _ (may : Bytes → Bool) where
  -- ---- the check

  checks-alike : (ρ : More) (ws : List Want) (s t : Bytes) → Alike may s t → check_text bounds ρ ws s ≡ check_text bounds ρ ws t
  unfolding check_text
  checks-alike ρ ws s t a =
      ap₂ (λ (n : ℕ) (c : Check). cond (ltb 16384 n) (bad over_bound) c) a.long
      (sym (run-erased may bounds (lines_of s) ρ ws start) ∙ ap (λ (l : List Line). run bounds l ρ ws start) (lines_same may (lines_of s) (lines_of t) a.lines) ∙ run-erased may bounds (lines_of t) ρ ws start)

  made-both : {A B : Type 0} (f : A → B) (T : A → Tally → Tally) (o p : Outcome A) → checked T o ≡ checked T p → ((a b : A) → o ≡ reads a → p ≡ reads b → f a ≡ f b) → made f o ≡ made f p
  made-both f T (reads a) (reads b) e h = ap reads (h a b refl refl)
  made-both f T (reads a) (refuses n) e h = let z : ◌≡◌ {A = ℕ} 0 1 = cc in absurd (omega arith)
  made-both f T (refuses n) (reads b) e h = let z : ◌≡◌ {A = ℕ} 0 1 = cc in absurd (omega arith)
  made-both f T (refuses n) (refuses k) e h = ap refuses (let j : n ≡ k = cc in j)

  -- ---- trees

  tree-lines : (s : Bytes) (p : Pattern) → read_tree s ≡ reads p → map (erased_line may) (lines_of s) ≡ put (erased_tree may p) []
  unfolding layout
  tree-lines s p e =
      let x = (tree-exactly s p).0 e in
      ap (λ (t : Bytes). map (erased_line may) (lines_of t)) (sym x.0)
      ∙ ap (map (erased_line may)) (lines-back (put p []) (neat p [] x.1 tt))
      ∙ put-erased may p [] x.1

  tree-alike : (s t : Bytes) → Alike may s t → made (erased_tree may) (read_tree s) ≡ made (erased_tree may) (read_tree t)
  unfolding layout
  tree-alike s t a = made-both (erased_tree may) tally (read_tree s) (read_tree t) (sym (check-tree s) ∙ checks-alike done (want patterns 64 0 ∷ []) s t a ∙ check-tree t)
      (λ p q x y. layout-injective (erased_tree may p) (erased_tree may q) (valid-erased may p ((tree-exactly s p).0 x).1) (valid-erased may q ((tree-exactly t q).0 y).1)
      (ap text_of (sym (tree-lines s p x) ∙ lines_same may (lines_of s) (lines_of t) a.lines ∙ tree-lines t q y)))

  -- ---- queries

  abbrev pub erased_query : Query → Query
  erased_query q = over q (erased_tree may q.tree)

  abbrev head_line : Query → Line
  head_line q = bytes "query" ∷ q.kind ∷ q.dataset ∷ q.base ∷ []

  query-lines : (s : Bytes) (q : Query) → read_query s ≡ reads q → map (erased_line may) (lines_of s) ≡ head_line q ∷ put (erased_tree may q.tree) []
  unfolding layout_query put_query ValidQuery erased_line same
  query-lines s q e =
      let x = (query-exactly s q).0 e in
      ap (λ (t : Bytes). map (erased_line may) (lines_of t)) (sym x.0)
      ∙ ap (map (erased_line may)) (lines-back (put_query q []) (query-neat q [] x.1 tt))
      ∙ ap (λ (l : List Line). head_line q ∷ l) (put-erased may q.tree [] x.1.3)

  same-query : (p q : Query) → Valid p.tree → Valid q.tree → head_line p ∷ put (erased_tree may p.tree) [] ≡ head_line q ∷ put (erased_tree may q.tree) [] → erased_query p ≡ erased_query q
  unfolding layout
  same-query p q v w e =
      let h : head_line p ≡ head_line q = cc in
      let r : put (erased_tree may p.tree) [] ≡ put (erased_tree may q.tree) [] = cc in
      let k : p.kind ≡ q.kind = cc in
      let d : p.dataset ≡ q.dataset = cc in
      let b : p.base ≡ q.base = cc in
      let t : (erased_tree may) p.tree ≡ erased_tree may q.tree = layout-injective (erased_tree may p.tree) (erased_tree may q.tree) (valid-erased may p.tree v) (valid-erased may q.tree w) (ap text_of r) in
      λ i. record { kind = k i; dataset = d i; base = b i; tree = t i }

  query-alike : (s t : Bytes) → Alike may s t → made erased_query (read_query s) ≡ made erased_query (read_query t)
  unfolding ValidQuery
  query-alike s t a = made-both erased_query tally_query (read_query s) (read_query t) (sym (check-query s) ∙ checks-alike done (want heads 64 0 ∷ []) s t a ∙ check-query t)
      (λ p q x y. same-query p q ((query-exactly s p).0 x).1.3 ((query-exactly t q).0 y).1.3 (sym (query-lines s p x) ∙ lines_same may (lines_of s) (lines_of t) a.lines ∙ query-lines t q y))

  -- ---- an empty file

  pub given-tree-alike : (s t : Bytes) → Alike may s t → made (erased_tree may) (read_given_tree s) ≡ made (erased_tree may) (read_given_tree t)
  given-tree-alike [] [] a = refl
  given-tree-alike [] (c ∷ t) a = let h = a.long in absurd (omega arith)
  given-tree-alike (b ∷ s) [] a = let h = a.long in absurd (omega arith)
  given-tree-alike (b ∷ s) (c ∷ t) a = ap (made (erased_tree may)) (tree-as-it-is b s) ∙ tree-alike (b ∷ s) (c ∷ t) a ∙ sym (ap (made (erased_tree may)) (tree-as-it-is c t))

  -- a line that begins with another word is no head line
  no-head : (w : Bytes) (fs : List Bytes) (ls : List Line) → same w (bytes "query") ≡ false → L.query bounds ((w ∷ fs) ∷ ls) start ≡ refused malformed
  unfolding one kept
  no-head w fs ls e = rw e

  -- no line and two lines are not one
  nil_not : (l : Line) → [] ≡ l ∷ [] → ⊥
  nil_not l e = let z : ◌≡◌ {A = ℕ} 0 1 = ap length e in omega arith

  two-not : {l m k : Line} {ls : List Line} → l ∷ m ∷ ls ≡ k ∷ [] → ⊥
  two-not {l} {m} {k} {ls} e = let z : length (l ∷ m ∷ ls) ≡ 1 = ap length e in omega arith

  pub given-query-alike : (s t : Bytes) → Alike may s t → made erased_query (read_given_query s) ≡ made erased_query (read_given_query t)
  unfolding read_given_query
  given-query-alike s t a = go (lines_of s) (lines_of t) refl refl a.lines
    where
      as-they-are : ((l : Line) → lines_of s ≡ l ∷ [] → ⊥) → ((l : Line) → lines_of t ≡ l ∷ [] → ⊥) → made erased_query (read_given_query s) ≡ made erased_query (read_given_query t)
      as-they-are n k = ap (made erased_query) (query-as-it-is s n) ∙ query-alike s t a ∙ sym (ap (made erased_query) (query-as-it-is t k))

      alone : (l m : Line) → lines_of s ≡ l ∷ [] → lines_of t ≡ m ∷ [] → outcome (L.query bounds (l ∷ empty_lines) start) ≡ outcome (L.query bounds (m ∷ empty_lines) start) → made erased_query (read_given_query s) ≡ made erased_query (read_given_query t)
      alone l m e f h = ap (made erased_query) (ap₂ (λ (n : ℕ) (o : Outcome Query). cond (ltb 16384 n) (refuses over_bound) o) a.long
          (ap (λ (ls : List Line). outcome (L.query bounds (query_lines ls) start)) e ∙ h ∙ sym (ap (λ (ls : List Line). outcome (L.query bounds (query_lines ls) start)) f)))

      one_line : (l m : Line) → lines_of s ≡ l ∷ [] → lines_of t ≡ m ∷ [] → AlikeLine may l m → made erased_query (read_given_query s) ≡ made erased_query (read_given_query t)
      one_line l m e f (untouched k) = alone k k e f refl
      one_line l m e f (touched w fs gs n x) = alone (w ∷ fs) (w ∷ gs) e f (ap outcome (no-head w fs empty_lines n ∙ sym (no-head w gs empty_lines n)))

      go : (ls ms : List Line) → lines_of s ≡ ls → lines_of t ≡ ms → AllAlike (AlikeLine may) ls ms → made erased_query (read_given_query s) ≡ made erased_query (read_given_query t)
      go ls ms e f ends = as-they-are (λ l x. nil_not l (sym e ∙ x)) (λ l x. nil_not l (sym f ∙ x))
      go ls ms e f (also {x = l} {y = m} x ends) = one_line l m e f x
      go ls ms e f (also x (also y zs)) = as-they-are (λ l x. two-not (sym e ∙ x)) (λ l x. two-not (sym f ∙ x))

  -- ---- lists of pairs

  abbrev pub erased_pair : Query.Pair → Query.Pair
  erased_pair x = record { first = x.first; second = erased may x.second }

  abbrev on_got : {A : Type 0} → (A → A) → Got A → Got A
  on_got f (got a ls m) = got (f a) (map (erased_line may) ls) m
  on_got f (refused n) = refused n

  no-query : (κ : PairList) → fits (first_kind κ) (bytes "query") ≡ false
  unfolding fits is_kind clean is_var number_of digits_of
  no-query joins = refl
  no-query constants = refl
  no-query mapping = refl

  module _ (κ : PairList) where
    -- the end of a pair's line
    close-erased : (n : ℕ) (c : Tally → Tally) (gs : List Bytes) (ls : List Line) (m : Tally) (x : Query.Pair)
        → next (close_at bounds n c (map (erased may) gs ∷ map (erased_line may) ls) m) (λ u s m. got (erased_pair x) s m) ≡ on_got erased_pair (next (close_at bounds n c (gs ∷ ls) m) (λ u s m. got x s m))
    unfolding end too_many
    close-erased zero c [] ls m x = refl
    close-erased zero c (g ∷ gs) ls m x = refl
    close-erased (suc n) c [] ls m x = go (within bounds (c m))
      where
        go : (t : Bool) → next (cond t (got (tt {0}) (map (erased_line may) ls) (c m)) (refused over_bound)) (λ u s m. got (erased_pair x) s m) ≡ on_got erased_pair (next (cond t (got (tt {0}) ls (c m)) (refused over_bound)) (λ u s m. got x s m))
        go true = refl
        go false = refl
    close-erased (suc n) c (g ∷ gs) ls m x = refl

    abbrev first_test : Bytes → Tally → Bool
    first_test a m = fits (first_kind κ) a && not (cond (unique κ) (mem a m.names) false)

    pair-erased : (n : ℕ) (ls : List Line) (m : Tally) → L.pair bounds κ n (map (erased_line may) ls) m ≡ on_got erased_pair (L.pair bounds κ n ls m)
    unfolding one kept erased_line
    pair-erased n [] m = refl
    pair-erased n ([] ∷ ls) m = refl
    pair-erased n ((a ∷ fs) ∷ ls) m = go (same a (bytes "query")) refl
      where
        second : (b : Bytes) (gs : List Bytes) (t : Bool)
            → next (or_refuse (kept t (erased may b)) (map (erased may) gs ∷ map (erased_line may) ls) m) (λ b. λ s m. next (close_at bounds n (tally_pair κ a) s m) (λ u s m. got (record { first = a; second = b }) s m))
            ≡ on_got erased_pair (next (or_refuse (kept t b) (gs ∷ ls) m) (λ b. λ s m. next (close_at bounds n (tally_pair κ a) s m) (λ u s m. got (record { first = a; second = b }) s m)))
        second b gs true = close-erased n (tally_pair κ a) gs ls m (record { first = a; second = b })
        second b gs false = refl

        field-two : (hs : List Bytes)
            → next (one (λ f. kept (fits (second_kind κ) f) f) (map (erased may) hs ∷ map (erased_line may) ls) m) (λ b. λ s m. next (close_at bounds n (tally_pair κ a) s m) (λ u s m. got (record { first = a; second = b }) s m))
            ≡ on_got erased_pair (next (one (λ f. kept (fits (second_kind κ) f) f) (hs ∷ ls) m) (λ b. λ s m. next (close_at bounds n (tally_pair κ a) s m) (λ u s m. got (record { first = a; second = b }) s m)))
        field-two [] = refl
        field-two (b ∷ gs) =
            ap (λ (t : Bool). next (or_refuse (kept t (erased may b)) (map (erased may) gs ∷ map (erased_line may) ls) m) (λ b. λ s m. next (close_at bounds n (tally_pair κ a) s m) (λ u s m. got (record { first = a; second = b }) s m))) (fits-erased may (second_kind κ) b)
            ∙ second b gs (fits (second_kind κ) b)

        first : (t : Bool)
            → next (or_refuse (kept t a) (map (erased may) fs ∷ map (erased_line may) ls) m) (λ a. λ s m. next (one (λ f. kept (fits (second_kind κ) f) f) s m) (λ b. λ s m. next (close_at bounds n (tally_pair κ a) s m) (λ u s m. got (record { first = a; second = b }) s m)))
            ≡ on_got erased_pair (next (or_refuse (kept t a) (fs ∷ ls) m) (λ a. λ s m. next (one (λ f. kept (fits (second_kind κ) f) f) s m) (λ b. λ s m. next (close_at bounds n (tally_pair κ a) s m) (λ u s m. got (record { first = a; second = b }) s m))))
        first true = field-two fs
        first false = refl

        no_line : (hs : List Bytes) (ms : List Line) → first_test a m ≡ false → L.pair bounds κ n ((a ∷ hs) ∷ ms) m ≡ refused malformed
        no_line hs ms e = ap (λ (t : Bool). next (or_refuse (kept t a) (hs ∷ ms) m) (λ a. λ s m. next (one (λ f. kept (fits (second_kind κ) f) f) s m) (λ b. λ s m. next (close_at bounds n (tally_pair κ a) s m) (λ u s m. got (record { first = a; second = b }) s m)))) e

        go : (t : Bool) → same a (bytes "query") ≡ t → L.pair bounds κ n (cond t (a ∷ fs) (a ∷ map (erased may) fs) ∷ map (erased_line may) ls) m ≡ on_got erased_pair (L.pair bounds κ n ((a ∷ fs) ∷ ls) m)
        go true e =
            let z : first_test a m ≡ false = ap (λ (b : Bool). b && not (cond (unique κ) (mem a m.names) false)) (ap (fits (first_kind κ)) (same-eq a (bytes "query") e) ∙ no-query κ) in
            no_line fs (map (erased_line may) ls) z ∙ sym (ap (on_got erased_pair) (no_line fs ls z))
        go false e = first (first_test a m)

    abbrev Several : ℕ → Type 0
    Several n = (ls : List Line) (m : Tally) → several n (L.pair bounds κ 1) (L.pair bounds κ 0) (map (erased_line may) ls) m ≡ on_got (map erased_pair) (several n (L.pair bounds κ 1) (L.pair bounds κ 0) ls m)

    none_more : Several zero
    unfolding several
    none_more [] m = refl
    none_more (l ∷ ls) m = ap (λ (g : Got Query.Pair). next g (λ x s m. refused over_bound)) (pair-erased 0 (l ∷ ls) m) ∙ go (L.pair bounds κ 0 (l ∷ ls) m)
      where
        go : (g : Got Query.Pair) → next {B = List Query.Pair} (on_got erased_pair g) (λ x s m. refused over_bound) ≡ on_got (map erased_pair) (next {B = List Query.Pair} g (λ x s m. refused over_bound))
        go (got x s k) = refl
        go (refused k) = refl

    one_more : (n : ℕ) → Several n → Several (suc n)
    unfolding several
    one_more n r [] m = refl
    one_more n r (l ∷ ls) m = ap (λ (g : Got Query.Pair). next g more) (pair-erased 1 (l ∷ ls) m) ∙ go (L.pair bounds κ 1 (l ∷ ls) m)
      where
        more : Query.Pair → Reader (List Query.Pair)
        more x s m = next (several n (L.pair bounds κ 1) (L.pair bounds κ 0) s m) (λ xs s m. got (x ∷ xs) s m)

        put_first : (x : Query.Pair) (g : Got (List Query.Pair)) → next (on_got (map erased_pair) g) (λ xs s m. got (erased_pair x ∷ xs) s m) ≡ on_got (map erased_pair) (next g (λ xs s m. got (x ∷ xs) s m))
        put_first x (got xs s k) = refl
        put_first x (refused k) = refl

        go : (g : Got Query.Pair) → next (on_got erased_pair g) more ≡ on_got (map erased_pair) (next g more)
        go (got x s k) = ap (λ (g : Got (List Query.Pair)). next g (λ xs s m. got (erased_pair x ∷ xs) s m)) (r s k) ∙ put_first x (several n (L.pair bounds κ 1) (L.pair bounds κ 0) s k)
        go (refused k) = refl

    several-erased : (n : ℕ) → Several n
    several-erased zero = none_more
    several-erased (suc n) = one_more n (several-erased n)

    outcome-erased : (g : Got (List Query.Pair)) → outcome (on_got (map erased_pair) g) ≡ made (map erased_pair) (outcome g)
    outcome-erased (got xs [] m) = refl
    outcome-erased (got xs (l ∷ ls) m) = refl
    outcome-erased (refused n) = refl

    pub pairs-alike : (s t : Bytes) → Alike may s t → made (map erased_pair) (read_pairs κ s) ≡ made (map erased_pair) (read_pairs κ t)
    unfolding read_pairs read_text
    pairs-alike s t a = into (ltb 16384 (length s)) (read s) ∙ ap₂ (λ (n : ℕ) (o : Outcome (List Query.Pair)). cond (ltb 16384 n) (refuses over_bound) o) a.long same_read ∙ sym (into (ltb 16384 (length t)) (read t))
      where
        read : Bytes → Got (List Query.Pair)
        read u = several bounds.entries (L.pair bounds κ 1) (L.pair bounds κ 0) (lines_of u) start

        into : (b : Bool) (g : Got (List Query.Pair)) → made (map erased_pair) (cond b (refuses over_bound) (outcome g)) ≡ cond b (refuses over_bound) (outcome (on_got (map erased_pair) g))
        into true g = refl
        into false g = sym (outcome-erased g)

        same_read : outcome (on_got (map erased_pair) (read s)) ≡ outcome (on_got (map erased_pair) (read t))
        same_read = ap outcome (sym (several-erased bounds.entries (lines_of s) start) ∙ ap (λ (l : List Line). several bounds.entries (L.pair bounds κ 1) (L.pair bounds κ 0) l start) (lines_same may (lines_of s) (lines_of t) a.lines) ∙ several-erased bounds.entries (lines_of t) start)
