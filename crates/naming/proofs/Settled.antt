-- Laws of the new names: what two numbers say, what a push makes of a name, and the names of the table one by one. Assumes nothing.
use mathlib.Core.Path.{◌≡◌, refl, sym, ap, ap₂, subst, ◌∙◌}
use mathlib.Core.List.{List, [], ◌∷◌, ◌++◌}
use mathlib.Core.Bool.{Bool, true, cond}
use mathlib.Core.Logic.{⊎_elim}
use mathlib.Core.Option.{Option, none, some}
use Prim.Native.Nat.{ℕ, ◌+◌, ◌%◌, ◌≤◌, ◌<◌}
use native.Mathlib.Nat.{eq-or-lt_of_le}
use native.Mathlib.Decide.{dec_lt}
use native.Mathlib.Omega.{arith}
use lib.ListN.{length, get_or, set, length-append}
use lib.Seq.{get_or-set_same, get_or-set_other}
use borrow.Author.Tests.{ne_eqb, lt-ltb, le-ltb}
use Rattle.text.specs.Text.{Bytes, piece}
use Rattle.algebra.specs.Valid.{mem}
use Rattle.names.specs.bridge.Names.{name_at, listing, starts_of, sizes_of}
use Rattle.names.proofs.Columns.{column-length, column-at, column-set}
use Rattle.names.proofs.Laws.{listing-at, listing-long}
use Rattle.emit.specs.declared.Writer.{Writer}
use Rattle.emit.specs.bridge.Writer.{Wrote}
use Rattle.emit.proofs.Writing.{wrote-then, wrote-as}
use Rattle.scoping.specs.Sets.{index_of}
use Rattle.scoping.specs.Label.{label, generated}
use Rattle.scoping.specs.Standardize.{or_self}
use Rattle.scoping.specs.bridge.Pushes.{Push, lookup, new_name}
use Rattle.scoping.proofs.Index.{at-index, index_below}
use Rattle.naming.specs.bridge.New.{named, spelled, replacement}
use Rattle.naming.proofs.Decimals.{digits-five}
use Rattle.naming.specs.bridge.Code.{prefixes_of, numbers_of, becomes, SettledTo, Standard}

-- ---- a generated name by two numbers

pub named-plain : (n b : ℕ) → b < 512 → named n b ≡ generated (b % 256) n
unfolding named
named-plain n b h = rw (lt-ltb b 512 h)

pub named-labelled : (n b : ℕ) → 512 ≤ b → named n b ≡ generated (b % 256) n ++ label
unfolding named
named-labelled n b h = rw (le-ltb b 512 h)

-- a new name, without and with a text of names
pub spelled_none : (names : Bytes) (a b : ℕ) → length names ≡ 0 → spelled names a b ≡ named a b
unfolding spelled
spelled_none [] a b h = refl
spelled_none (x ∷ names) a b h = absurd (omega arith)

pub spelled-piece : (names : Bytes) (a b : ℕ) → (length names ≡ 0 → ⊥) → spelled names a b ≡ piece a b names
unfolding spelled
spelled-piece [] a b h = absurd (h refl)
spelled-piece (x ∷ names) a b h = refl

-- it has at most 12 bytes
pub named-short : (n b : ℕ) → n < 65536 → length (named n b) ≤ 12
unfolding generated
named-short n b h = go (dec_lt b 512)
  where
    go : Dec (b < 512) → length (named n b) ≤ 12
    go (yes l) = let e = ap length (named-plain n b l) in let d = digits-five n h in omega arith
    go (no l) = let e = ap length (named-labelled n b (omega arith)) in let d = digits-five n h in omega (arith, e, d, length-append (generated (b % 256) n) label)

-- as it is written
module _ (n w b : ℕ) (is : w ≡ n) where
  pub put-plain : {u v : Writer} → b < 512 → Wrote u v (generated (b % 256) w) → Wrote u v (named n b)
  put-plain h p = wrote-as (ap (λ (k : ℕ). generated (b % 256) k) is ∙ sym (named-plain n b h)) p

  pub put-labelled : {u v x : Writer} → 512 ≤ b → Wrote u v (generated (b % 256) w) → Wrote v x label → Wrote u x (named n b)
  put-labelled h p q = wrote-as (ap (λ (k : ℕ). generated (b % 256) k ++ label) is ∙ sym (named-labelled n b h)) (wrote-then p q)

-- ---- what was found for a name

module _ (w : Bytes) (ps : List Push) where
  found_as : (a b : ℕ) (u : Bytes) → (b ≡ 0 → ⊥) → named a b ≡ u → some u ≡ lookup w ps → becomes a b w ≡ new_name ps w
  unfolding new_name
  found_as a b u z e q = ap (λ (t : Bool). cond t w (named a b)) (ne_eqb b 0 z) ∙ e ∙ ap (λ (o : Option Bytes). or_self o w) q

  module _ (p n : ℕ) (small : p < 256) where
    found_plain : some (generated p n) ≡ lookup w ps → becomes n (p + 256) w ≡ new_name ps w
    found_plain q =
        let m : (p + 256) % 256 ≡ p = omega arith in
        found_as n (p + 256) (generated p n) (let z : p + 256 ≡ 0 → ⊥ = omega arith in z) (named-plain n (p + 256) (omega arith) ∙ ap (λ (l : ℕ). generated l n) m) q

    found-labelled : some (generated p n ++ label) ≡ lookup w ps → becomes n (p + 512) w ≡ new_name ps w
    found-labelled q =
        let m : (p + 512) % 256 ≡ p = omega arith in
        found_as n (p + 512) (generated p n ++ label) (let z : p + 512 ≡ 0 → ⊥ = omega arith in z) (named-labelled n (p + 512) (omega arith) ∙ ap (λ (l : ℕ). generated l n ++ label) m) q

  -- by the mark of its push
  module _ (marks : List (List ℕ)) (i : ℕ) (small : get_or (prefixes_of marks) i 0 < 256) where
    pub marked-plain : some (generated (get_or (prefixes_of marks) i 0) (get_or (numbers_of marks) i 0)) ≡ lookup w ps → becomes (get_or (get_or marks i []) 1 0) (get_or (get_or marks i []) 0 0 + 256) w ≡ new_name ps w
    marked-plain q = rw (← column-at 0 marks i, ← column-at 1 marks i) (found_plain (get_or (prefixes_of marks) i 0) (get_or (numbers_of marks) i 0) small q)

    pub marked-labelled : some (generated (get_or (prefixes_of marks) i 0) (get_or (numbers_of marks) i 0) ++ label) ≡ lookup w ps → becomes (get_or (get_or marks i []) 1 0) (get_or (get_or marks i []) 0 0 + 512) w ≡ new_name ps w
    marked-labelled q = rw (← column-at 0 marks i, ← column-at 1 marks i) (found-labelled (get_or (prefixes_of marks) i 0) (get_or (numbers_of marks) i 0) small q)

  pub found_none : none ≡ lookup w ps → becomes 0 0 w ≡ new_name ps w
  unfolding new_name
  found_none q = ap (λ (o : Option Bytes). or_self o w) q

-- ---- one more

module _ (ps : List Push) (s : Bytes) (a l : List ℕ) where
  pub settled-none : (firsts seconds : List ℕ) → SettledTo ps s a l 0 firsts seconds seconds
  settled-none firsts seconds = record { each = λ j h. absurd (omega arith); behind = λ k h. refl }

  module _ (i : ℕ) (t : List (List ℕ)) (seconds₀ : List ℕ) (to : SettledTo ps s a l i (starts_of t) (sizes_of t) seconds₀) (few : i < length t)
      (e : List ℕ) (x y : ℕ) (f : Bytes) (ex : x ≡ get_or a i 0) (ey : y ≡ get_or l i 0) (ef : f ≡ piece x y s) (says : becomes (get_or e 0 0) (get_or e 1 0) f ≡ new_name ps f) where
    name-is : f ≡ name_at s a l i
    name-is = ef ∙ ap₂ (λ (p q : ℕ). piece p q s) ex ey

    pub settled-next : SettledTo ps s a l (i + 1) (starts_of (set t i e)) (sizes_of (set t i e)) seconds₀
    settled-next = rw (column-set 0 t i e, column-set 1 t i e) (record { each = each; behind = λ k h. get_or-set_other (sizes_of t) i k (get_or e 1 0) 0 (let z : k ≡ i → ⊥ = omega arith in z) ∙ to.behind k (omega arith) })
      where
        each : (j : ℕ) → j < i + 1 → becomes (get_or (set (starts_of t) i (get_or e 0 0)) j 0) (get_or (set (sizes_of t) i (get_or e 1 0)) j 0) (name_at s a l j) ≡ new_name ps (name_at s a l j)
        each j h =
            ⊎_elim
            (λ (q : j ≡ i).
            rw (q, get_or-set_same (starts_of t) i (get_or e 0 0) 0 (omega (arith, few, column-length 0 t)), get_or-set_same (sizes_of t) i (get_or e 1 0) 0 (omega (arith, few, column-length 1 t)))
            (subst (λ (w : Bytes). becomes (get_or e 0 0) (get_or e 1 0) w ≡ new_name ps w) name-is says))
            (λ (q : j < i).
            let z : j ≡ i → ⊥ = omega arith in
            rw (get_or-set_other (starts_of t) i j (get_or e 0 0) 0 z, get_or-set_other (sizes_of t) i j (get_or e 1 0) 0 z) (to.each j q))
            (eq-or-lt_of_le (omega arith))

  -- all of them
  pub settled-all : (n i : ℕ) (firsts seconds seconds₀ : List ℕ) → SettledTo ps s a l i firsts seconds seconds₀ → i ≤ n → n ≤ i → Standard ps (listing s a l n) n firsts seconds seconds₀
  unfolding replacement spelled
  settled-all n i firsts seconds seconds₀ to h k = record { found = found; behind = λ j q. to.behind j (omega arith) }
    where
      found : (f : Bytes) → mem f (listing s a l n) ≡ true → replacement (listing s a l n) [] firsts seconds f ≡ new_name ps f
      found f m =
          let j = index_of f (listing s a l n) in
          let b : j < n = omega (arith, index_below f (listing s a l n) m, listing-long s a l n) in
          let e : f ≡ name_at s a l j = sym (at-index f (listing s a l n) m) ∙ listing-at s a l j n b in
          ap (λ (w : Bytes). becomes (get_or firsts j 0) (get_or seconds j 0) w) e ∙ to.each j (omega arith) ∙ ap (new_name ps) (sym e)

pub standard-by : (ps qs : List Push) (ns : List Bytes) (n : ℕ) (firsts seconds seconds₀ : List ℕ) → ps ≡ qs → Standard ps ns n firsts seconds seconds₀ → Standard qs ns n firsts seconds seconds₀
standard-by ps qs ns n firsts seconds seconds₀ e h = subst (λ (x : List Push). Standard x ns n firsts seconds seconds₀) e h
