-- The machine goes as the reader: lines that add no depth, and the expressions, conditions, orders and aggregates of a level. Assumes nothing.
use mathlib.Core.Path.{◌≡◌, refl, ◌∙◌}
use mathlib.Core.Bool.{Bool, true, false, cond}
use mathlib.Core.List.{List, [], ◌∷◌, ◌++◌}
use Prim.Native.Nat.{ℕ, zero, suc}
use lib.ListN.{replicate}
use Rattle.text.specs.Text.{Line}
use Rattle.text.specs.Word.{bytes}
use Rattle.text.specs.Field.{cell}
use Rattle.algebra.specs.Tree.{Expression}
use Rattle.algebra.specs.Word.{AggregateWord, AGG, AGGALL, spell_d, spell_a, directions, aggregate_words}
use Rattle.algebra.specs.Tally.{Limits, Tally}
use Rattle.algebra.specs.Reader.{Got, got, refused, Reader, next, times, end}
use Rattle.algebra.specs.Reading.{expressions as someExpressions, condition, triple, columns as columnsLine, listed, orders as someOrders, aggregate, aggregates as someAggregates}
use Rattle.algebra.specs.bridge.Table.{triples, columns, expressions, rows, orders, aggregates, row as row_of, one as one_of, ◌of◌, aggregate_row}
use Rattle.algebra.specs.bridge.Machine.{Want, want, line_by, line_of, resume, More, run}
use Rattle.algebra.proofs.Local.{local, one_local, one-nil, times-local, word_line, key-line, ends}

module _ (β : Limits) where
  -- the wants are the lines that the reader r reads
  abbrev pub Runs : {A : Type 0} → List Want → Reader A → Type 0
  Runs us r = (s : List Line) (m : Tally) (ρ : More) (ws : List Want) → run β s ρ (us ++ ws) m ≡ resume (r s m) (λ a t l. run β t ρ ws l)

  -- a line read by k alone asks for the lines that the reader h goes on with
  abbrev pub Same : {A : Type 0} → Reader (List Want) → Reader A → Type 0
  Same k h = (l : Line) (ls : List Line) (m : Tally) (ρ : More) (ws : List Want) → resume (k (l ∷ []) m) (λ below t n. run β ls ρ (below ++ ws) n) ≡ resume (h (l ∷ ls) m) (λ a t n. run β t ρ ws n)

  -- two readers, one after the other
  pub follow : {A B : Type 0} (us ws zs : List Want) (r : Reader A) (k : A → Reader B) (s : List Line) (m : Tally) (ρ : More) → Runs us r → ((a : A) (t : List Line) (l : Tally) → run β t ρ ws l ≡ resume (k a t l) (λ b t l. run β t ρ zs l)) → run β s ρ (us ++ ws) m ≡ resume (next (r s m) k) (λ b t l. run β t ρ zs l)
  follow {A = A} us ws zs r k s m ρ q f = q s m ρ ws ∙ go (r s m)
    where
      go : (g : Got A) → resume g (λ a t l. run β t ρ ws l) ≡ resume (next g k) (λ b t l. run β t ρ zs l)
      go (got a t l) = f a t l
      go (refused n) = refl

  pub times-runs : {A : Type 0} (w : Want) (r : Reader A) → Runs (w ∷ []) r → (n : ℕ) → Runs (replicate n w) (times n r)
  unfolding times
  times-runs w r q zero s m ρ ws = refl
  times-runs w r q (suc n) s m ρ ws =
      follow (w ∷ []) (replicate n w ++ ws) ws r _ s m ρ q λ x t l.
      follow (replicate n w) ws ws (times n r) _ t l ρ (times-runs w r q n) λ xs t l. refl

  -- ---- lines of fields alone

  pub triple-runs : (d w : ℕ) → Runs (want triples d w ∷ []) (triple β)
  unfolding run line_of
  triple-runs d w [] m ρ ws = rw one-nil
  triple-runs d w (l ∷ ls) m ρ ws =
      key-line _ _ _ _ _ _ _ _ _ λ x.
      local _ _ _ _ _ (one_local _ _ _) λ s x1.
      local _ _ _ _ _ (one_local _ _ _) λ p x2.
      local _ _ _ _ _ (one_local _ _ _) λ o x3.
      ends β _ _ _ _ _ _ _ _ λ t. refl

  pub cols-runs : (d n : ℕ) → Runs (want columns d n ∷ []) (columnsLine β n)
  unfolding run line_of
  cols-runs d n [] m ρ ws = rw one-nil
  cols-runs d n (l ∷ ls) m ρ ws =
      key-line _ _ _ _ _ _ _ _ _ λ x.
      local _ _ _ _ _ (times-local _ (one_local _) n _ _) λ fs x1.
      ends β _ _ _ _ _ _ _ _ λ t. refl

  pub row-runs : (d n : ℕ) → Runs (want rows d n ∷ []) (listed β (bytes "row") cell n)
  unfolding run line_of
  row-runs d n [] m ρ ws = rw one-nil
  row-runs d n (l ∷ ls) m ρ ws =
      key-line _ _ _ _ _ _ _ _ _ λ x.
      local _ _ _ _ _ (times-local _ (one_local _) n _ _) λ fs x1.
      ends β _ _ _ _ _ _ _ _ λ t. refl

  -- ---- what stands under a line, at a level where r reads expressions

  module _ (d w : ℕ) (r : Reader Expression) (ke : (w : ℕ) → Runs (want expressions d w ∷ []) r) where
    pub expressions-runs : (n : ℕ) → Runs (replicate n (want expressions d w)) (someExpressions n r)
    unfolding someExpressions
    expressions-runs zero s m ρ ws = refl
    expressions-runs (suc n) s m ρ ws =
        follow (want expressions d w ∷ []) (replicate n (want expressions d w) ++ ws) ws r _ s m ρ (ke w) λ x t l.
        follow (replicate n (want expressions d w)) ws ws (someExpressions n r) _ t l ρ (expressions-runs n) λ xs t l. refl

    pub condition-runs : (b : Bool) → Runs (replicate (cond b 1 0) (want expressions d w)) (condition b r)
    condition-runs false s m ρ ws = refl
    condition-runs true s m ρ ws = follow (want expressions d w ∷ []) ws ws r _ s m ρ (ke w) λ x t l. refl

    pub orders-runs : (n : ℕ) → Runs (replicate n (want orders d w)) (someOrders β n r)
    unfolding someOrders run line_of
    orders-runs zero s m ρ ws = refl
    orders-runs (suc n) [] m ρ ws = rw one-nil
    orders-runs (suc n) (x ∷ s) m ρ ws =
        word_line spell_d (λ v. row_of [] (one_of of expressions ∷ [])) directions _ _ _ _ _ _ _ λ v x0.
        ends β _ _ _ _ _ _ _ _ λ t.
        follow (want expressions d 0 ∷ []) (replicate n (want orders d w) ++ ws) ws r _ s t ρ (ke 0) λ e s l.
        follow (replicate n (want orders d w)) ws ws (someOrders β n r) _ s l ρ (orders-runs n) λ xs t l. refl

    aggregate-runs : (n : ℕ) (v : AggregateWord) → Runs (replicate n (want aggregates d w)) (someAggregates β n r) → (x : Line) (s : List Line) (m : Tally) (ρ : More) (ws : List Want) → resume (line_by (end β) d w (aggregate_row v) (x ∷ []) m) (λ below t l. run β s ρ (below ++ (replicate n (want aggregates d w) ++ ws)) l) ≡ resume (aggregate β v r (someAggregates β n r) (x ∷ s) m) (λ a t l. run β t ρ ws l)
    aggregate-runs n AGG q x s m ρ ws =
        local _ _ _ _ _ (one_local _ _ _) λ v x0.
        local _ _ _ _ _ (one_local _ _ _) λ f x1.
        local _ _ _ _ _ (one_local _ _ _) λ g x2.
        ends β _ _ _ _ _ _ _ _ λ t.
        follow (want expressions d 0 ∷ []) (replicate n (want aggregates d w) ++ ws) ws r _ s t ρ (ke 0) λ e s l.
        follow (replicate n (want aggregates d w)) ws ws (someAggregates β n r) _ s l ρ q λ xs t l. refl
    aggregate-runs n AGGALL q x s m ρ ws =
        local _ _ _ _ _ (one_local _ _ _) λ v x0.
        local _ _ _ _ _ (one_local _ _ _) λ f x1.
        ends β _ _ _ _ _ _ _ _ λ t.
        follow (replicate n (want aggregates d w)) ws ws (someAggregates β n r) _ s t ρ q λ xs t l. refl

    pub aggregates-runs : (n : ℕ) → Runs (replicate n (want aggregates d w)) (someAggregates β n r)
    unfolding someAggregates run line_of
    aggregates-runs zero s m ρ ws = refl
    aggregates-runs (suc n) [] m ρ ws = rw one-nil
    aggregates-runs (suc n) (x ∷ s) m ρ ws =
        word_line spell_a aggregate_row aggregate_words _ _ _ _ _ _ _ λ v x0.
        aggregate-runs n v (aggregates-runs n) x0 s m ρ ws
