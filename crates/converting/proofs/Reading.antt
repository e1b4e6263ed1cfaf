-- A text is read as a namespace table exactly if it is that table's layout, its starts are well formed and it is within the bounds. Assumes nothing.
use mathlib.Core.Path.{◌≡◌, refl, ◌∙◌, ap, subst}
use mathlib.Core.Logic.{◌↔◌}
use mathlib.Core.Bool.{true, not, ◌&&◌}
use mathlib.Core.List.{List, [], ◌∷◌}
use Prim.Native.Nat.{ℕ, zero, suc, ◌≤◌}
use native.Mathlib.Omega.{arith}
use lib.ListN.{length}
use lib.Dec.{leb, eqb}
use Rattle.text.specs.Text.{Bytes, Line}
use Rattle.text.specs.Field.{clean}
use Rattle.text.proofs.Basics.{and_left, and_right}
use Rattle.text.proofs.Texts.{Neat}
use Rattle.algebra.specs.Tally.{Tally, start, noted, tally_rows}
use Rattle.algebra.specs.Reader.{over_bound, Got, got, refused, next, reads, one, kept, end, several}
use Rattle.algebra.proofs.Grow.{In, grow-rows, start-in}
use Rattle.algebra.proofs.Fields.{Exact, Still, never, done, kept-sound, push, inv_at, inv, one-by, close-sound}
use Rattle.algebra.proofs.Exactly.{Matches, reads-exactly}
use Rattle.scoping.specs.Sets.{all}
use Rattle.converting.specs.Starts.{Start, is_start, start_bounds, start_line, read_starts}
use Rattle.converting.specs.Tables.{put_starts, layout_starts, ValidStarts, IsTable}

-- ---- what is read was written

start-sound : Still start_bounds (one (λ f. kept (is_start f) f)) (λ f s u. (s ≡ push f u) × (is_start f ≡ true))
start-sound = one-by start_bounds (λ f. kept (is_start f) f) (λ f s u. (s ≡ push f u) × (is_start f ≡ true)) (λ f a s u q p.
    let y = kept-sound (is_start f) f a q in
    subst (λ (g : Bytes). (s ≡ push g u) × (is_start g ≡ true)) y.1 (p, y.0))

abbrev OneLine : ℕ → Start → List Line → List Line → Type 0
OneLine n x s u = (s ≡ (x.old ∷ x.new ∷ []) ∷ u) × (is_start x.old ≡ true) × (is_start x.new ≡ true) × (1 ≤ n)

line-sound : (n : ℕ) → Exact start_bounds (start_line n) (λ x m. noted [] m) (OneLine n)
line-sound n s t m l x o e =
    inv start_bounds _ _ _ start-sound o e λ a s0 x0 o h0.
    inv start_bounds _ _ _ start-sound o h0 λ b s1 x1 o h1.
    inv start_bounds _ _ _ (close-sound start_bounds n _) o h1 λ u2 s2 x2 o h2.
    done (λ x t l. (l ≡ noted [] m) × In start_bounds (noted [] m) × OneLine n x s t) h2 (refl, o, (rw (x0.0, x1.0, x2.0), x0.1, x1.1, x2.1))

past : {A B C : Type 0} (g : Got A) (b : B) (t : List Line) (n : Tally) → next g (λ a s m. refused over_bound) ≡ got b t n → C
past (got a s m) b t n e = never over_bound t n b e
past (refused c) b t n e = never c t n b e

abbrev Lines : ℕ → List Line → Tally → List Start → List Line → Tally → Type 0
Lines n s m xs u l = (l ≡ tally_rows xs m) × In start_bounds (tally_rows xs m) × ((s ≡ put_starts xs) × ValidStarts xs × (u ≡ []) × (length xs ≤ n))

lines-sound : (n : ℕ) (s u : List Line) (m l : Tally) (xs : List Start) → In start_bounds m → several n (start_line 1) (start_line 0) s m ≡ got xs u l → Lines n s m xs u l
unfolding several put_starts ValidStarts tally_rows
lines-sound zero [] u m l xs o e = done (Lines zero [] m) e (refl, o, (refl, tt, refl, omega arith))
lines-sound zero (r ∷ s) u m l xs o e = past (start_line 0 (r ∷ s) m) xs u l e
lines-sound (suc n) [] u m l xs o e = done (Lines (suc n) [] m) e (refl, o, (refl, tt, refl, omega arith))
lines-sound (suc n) (r ∷ s) u m l xs o e =
    inv start_bounds _ (r ∷ s) m (line-sound 1) o e λ x s0 a o h.
    inv_at start_bounds (several n (start_line 1) (start_line 0)) (λ ys. tally_rows ys (noted [] m)) _ s0 (noted [] m) (λ u l ys e. lines-sound n s0 u (noted [] m) l ys o e) h λ ys s1 b o q.
    done (Lines (suc n) (r ∷ s) m) q (refl, o, (a.0 ∙ ap (λ (t : List Line). (x.old ∷ x.new ∷ []) ∷ t) b.0, (a.1, a.2, b.1), b.2, omega arith))

-- ---- what is written is read back

lines-back : (n : ℕ) (xs : List Start) (m : Tally) → ValidStarts xs → length xs ≤ n → In start_bounds (tally_rows xs m) → several n (start_line 1) (start_line 0) (put_starts xs) m ≡ got xs [] (tally_rows xs m)
unfolding several put_starts ValidStarts tally_rows one kept end
lines-back zero [] m v h o = refl
lines-back (suc n) [] m v h o = refl
lines-back zero (x ∷ xs) m v h o = absurd (omega arith)
lines-back (suc n) (x ∷ xs) m v h o = rw (v.0, v.1, grow-rows start_bounds xs _ o, lines-back n xs _ v.2 (omega arith) o)

pub start-clean : (f : Bytes) → is_start f ≡ true → clean f ≡ true
unfolding is_start
start-clean f h = and_left (clean f) (all (λ b. not (eqb b 62)) f) (and_right (leb (length f) 128) (clean f && all (λ b. not (eqb b 62)) f) (and_right (leb 1 (length f)) (leb (length f) 128 && (clean f && all (λ b. not (eqb b 62)) f)) h))

lines-neat : (xs : List Start) → ValidStarts xs → Neat (put_starts xs)
unfolding put_starts ValidStarts
lines-neat [] v = tt
lines-neat (x ∷ xs) v = ((start-clean x.old v.0, (start-clean x.new v.1, tt)), lines-neat xs v.2)

starts-match : Matches start_bounds (several start_bounds.entries (start_line 1) (start_line 0)) put_starts ValidStarts tally_rows (λ xs. 0) length
starts-match = record {
  sound = λ s l xs e. let x = lines-sound start_bounds.entries s [] start l xs (start-in start_bounds) e in (x.0, x.1, (x.2.0, x.2.1, omega arith, x.2.3));
  back = λ xs v d n o. lines-back start_bounds.entries xs start v n o;
  neat = λ xs v. lines-neat xs v;
}

pub starts-exactly : (s : Bytes) (ss : List Start) → (read_starts s ≡ reads ss) ↔ IsTable s ss
unfolding read_starts layout_starts
starts-exactly s ss = reads-exactly start_bounds _ _ _ _ _ _ starts-match s ss
