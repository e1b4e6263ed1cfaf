-- Stretches of a text that are written under new names: one after the other, and a line's. Assumes nothing.
use Prim.Native.Nat.{ℕ, suc, ◌+◌, ◌-◌, ◌≤◌}
use mathlib.Core.Path.{◌≡◌, refl, sym, ap, ap₂, subst, ◌∙◌}
use mathlib.Core.List.{List, [], ◌∷◌, ◌++◌, append_assoc}
use mathlib.Core.Bool.{Bool, true, false, cond, ◌&&◌}
use native.Mathlib.Nat.{sub_self}
use native.Mathlib.Omega.{arith}
use lib.ListN.{length, take, drop, length-append, length-drop}
use lib.Seq.{drop-drop, take-add, take_at, drop_at}
use Rattle.text.specs.Text.{Bytes, same, part, ended}
use Rattle.text.specs.Word.{bytes}
use Rattle.text.specs.Field.{is_var}
use Rattle.algebra.specs.Valid.{mem}
use Rattle.algebra.specs.bridge.Table.{Slot, Row}
use Rattle.emit.specs.bridge.Emit.{Em, puts}
use Rattle.emit.proofs.Laws.{puts-append, puts-nil}
use Rattle.scoping.specs.Sets.{index_of}
use Rattle.scoping.specs.bridge.Places.{Mark}
use Rattle.scoping.specs.bridge.Walk.{opened}
use Rattle.scoping.specs.bridge.Spots.{Spot, spot, spots_in, fields_size, line_spots}
use Rattle.walking.specs.bridge.Walk.{tabbed, Output, writes, flagged, put_field, put_fields, put_line}
use Rattle.walking.specs.bridge.Rewritten.{rewritten, flag_spots, Stands}

-- ---- a text's front

-- what stands at a place, and what follows it
pub record Front (s : Bytes) (p : ℕ) (f rest : Bytes) : Type 0 where
  pub is : part p (p + length f) s ≡ f
  pub behind : drop (p + length f) s ≡ rest
  pub high : p + length f ≤ length s

pub front : (s : Bytes) (p : ℕ) (f rest : Bytes) → p ≤ length s → drop p s ≡ f ++ rest → Front s p f rest
front s p f rest h e = record {
  is = let k : p + length f - p ≡ length f = omega arith in ap₂ (λ (n : ℕ) (l : Bytes). take n l) k e ∙ take_at f rest (length f) refl;
  behind = sym (drop-drop (length f) p s) ∙ ap (drop (length f)) e ∙ drop_at f rest (length f) refl;
  high = let l : length s - p ≡ length f + length rest = sym (length-drop p s) ∙ ap length e ∙ length-append f rest in omega arith;
}

-- a line: its word, its fields, its end
pub ended_is : (w : Bytes) (fs : List Bytes) (rest : Bytes) → ended (w ∷ fs) rest ≡ w ++ (tabbed fs ++ (10 ∷ rest))
unfolding ended tabbed
ended_is w [] rest = refl
ended_is w (f ∷ fs) rest = ap (λ (l : Bytes). w ++ (9 ∷ l)) (ended_is f fs rest ∙ sym (append_assoc f (tabbed fs) (10 ∷ rest)))

pub part-append : (s : Bytes) (p q r : ℕ) → p ≤ q → q ≤ r → part p r s ≡ part p q s ++ part q r s
part-append s p q r h k =
    let a : r - p ≡ (q - p) + (r - q) = omega arith in
    let b : p + (q - p) ≡ q = omega arith in
    ap (λ (n : ℕ). take n (drop p s)) a
    ∙ take-add (q - p) (r - q) (drop p s)
    ∙ ap (λ (l : Bytes). part p q s ++ take (r - q) l) (drop-drop (q - p) p s ∙ ap (λ (n : ℕ). drop n s) b)

-- ---- stretches

pub flags-append : (ns : List Bytes) (xs ys : List Spot) (k : List ℕ) → flag_spots ns (xs ++ ys) k ≡ flag_spots ns ys (flag_spots ns xs k)
unfolding flag_spots
flags-append ns [] ys k = refl
flags-append ns (x ∷ xs) ys k = flags-append ns xs ys _

-- they stand from an earlier place on too
pub stands-lower : (s : Bytes) (p q to : ℕ) (ys : List Spot) → p ≤ q → Stands s q to ys → Stands s p to ys
unfolding Stands
stands-lower s p q to [] h (a, b) = (omega arith, b)
stands-lower s p q to (y ∷ ys) h (a, b, c) = (omega arith, b, c)

pub stands-high : (s : Bytes) (p to : ℕ) (ys : List Spot) → Stands s p to ys → (p ≤ to) × (to ≤ length s)
unfolding Stands
stands-high s p to [] h = h
stands-high s p to (y ∷ ys) (a, b, c) = let i = stands-high s (y.at + length y.name) to ys c in (let x = i.0 in omega arith, i.1)

-- what is copied first may be copied apart
pub copy_apart : (new : Bytes → Bytes) (s : Bytes) (p q to : ℕ) (ys : List Spot) (e : Em) → p ≤ q → Stands s q to ys → rewritten new s ys p to e ≡ rewritten new s ys q to (puts (part p q s) e)
unfolding Stands rewritten
copy_apart new s p q to [] e h (a, b) = ap (λ (l : Bytes). puts l e) (part-append s p q to h a) ∙ puts-append (part p q s) (part q to s) e
copy_apart new s p q to (y ∷ ys) e h (a, b, c) =
    ap (λ (x : Em). rewritten new s ys (y.at + length y.name) to (puts (new y.name) x))
    (ap (λ (l : Bytes). puts l e) (part-append s p q y.at h a) ∙ puts-append (part p q s) (part q y.at s) e)

part_none : (s : Bytes) (p : ℕ) → part p p s ≡ []
part_none s p = rw sub_self

-- nothing is left
pub rewritten-none : (new : Bytes → Bytes) (s : Bytes) (p : ℕ) (e : Em) → rewritten new s [] p p e ≡ e
unfolding rewritten
rewritten-none new s p e = ap (λ (l : Bytes). puts l e) (part_none s p) ∙ puts-nil e

-- the text from p to q, in which the variables zs stand, makes o' of o
pub record Stretch (ns : List Bytes) (new : Bytes → Bytes) (s : Bytes) (p q : ℕ) (zs : List Spot) (o o' : Output) : Type 0 where
  pub stands : (ys : List Spot) (to : ℕ) → Stands s q to ys → Stands s p to (zs ++ ys)
  pub written : (ys : List Spot) (to : ℕ) → Stands s q to ys → rewritten new s (zs ++ ys) p to o.em ≡ rewritten new s ys q to o'.em
  pub noted : o'.flags ≡ flag_spots ns zs o.flags

module _ {ns : List Bytes} {new : Bytes → Bytes} {s : Bytes} where
  pub nothing : (p : ℕ) (o : Output) → Stretch ns new s p p [] o o
  unfolding flag_spots
  nothing p o = record { stands = λ ys to h. h; written = λ ys to h. refl; noted = refl }

  module _ {p q r : ℕ} {zs ws : List Spot} {o o' o'' : Output} where
    pub chain : Stretch ns new s p q zs o o' → Stretch ns new s q r ws o' o'' → Stretch ns new s p r (zs ++ ws) o o''
    chain a b = record {
      stands = λ ys to h. rw (append_assoc zs ws ys) (a.stands (ws ++ ys) to (b.stands ys to h));
      written = λ ys to h. ap (λ (l : List Spot). rewritten new s l p to o.em) (append_assoc zs ws ys) ∙ a.written (ws ++ ys) to (b.stands ys to h) ∙ b.written ys to h;
      noted = b.noted ∙ ap (flag_spots ns ws) a.noted ∙ sym (flags-append ns zs ws o.flags);
    }

  module _ {p q r : ℕ} {zs : List Spot} {o o' : Output} where
    -- bytes that are copied, and then others
    pub copied-then : (f rest : Bytes) → q ≡ p + length f → Front s p f rest → Stretch ns new s q r zs (writes f o) o' → Stretch ns new s p r zs o o'
    copied-then f rest e x a = record {
      stands = λ ys to h. stands-lower s p q to (zs ++ ys) (omega arith) (a.stands ys to h);
      written = λ ys to h.
          copy_apart new s p q to (zs ++ ys) o.em (omega arith) (a.stands ys to h)
          ∙ ap (λ (l : Bytes). rewritten new s (zs ++ ys) q to (puts l o.em)) (ap (λ (n : ℕ). part p n s) e ∙ x.is)
          ∙ a.written ys to h;
      noted = a.noted;
    }

    -- the same, the bytes last
    pub then-copied : (f rest : Bytes) → r ≡ q + length f → Front s q f rest → Stretch ns new s p q zs o o' → Stretch ns new s p r zs o (writes f o')
    then-copied f rest e x a = record {
      stands = λ ys to h. a.stands ys to (stands-lower s q r to ys (omega arith) h);
      written = λ ys to h.
          a.written ys to (stands-lower s q r to ys (omega arith) h)
          ∙ copy_apart new s q r to ys o'.em (omega arith) h
          ∙ ap (λ (l : Bytes). rewritten new s ys r to (puts l o'.em)) (ap (λ (n : ℕ). part q n s) e ∙ x.is);
      noted = a.noted;
    }

    -- a variable, and then others
    pub spot-then : (f rest : Bytes) (m : Mark) → q ≡ p + length f → Front s p f rest
        → Stretch ns new s q r zs (record { em = puts (new f) o.em; flags = cond (mem f ns) (flagged m (index_of f ns) o.flags) o.flags }) o' → Stretch ns new s p r (spot p f m ∷ zs) o o'
    unfolding Stands rewritten flag_spots
    spot-then f rest m e x a = record {
      stands = λ ys to h. (omega arith, x.is, stands-lower s (p + length f) q to (zs ++ ys) (omega arith) (a.stands ys to h));
      written = λ ys to h.
          ap (λ (n : ℕ). rewritten new s (zs ++ ys) n to (puts (new f) (puts (part p p s) o.em))) (sym e)
          ∙ ap (λ (l : Bytes). rewritten new s (zs ++ ys) q to (puts (new f) (puts l o.em))) (part_none s p)
          ∙ ap (λ (x : Em). rewritten new s (zs ++ ys) q to (puts (new f) x)) (puts-nil o.em)
          ∙ a.written ys to h;
      noted = a.noted;
    }

-- ---- a line

module _ (ns : List Bytes) (new : Bytes → Bytes) (keeps : (f : Bytes) → mem f ns ≡ false → new f ≡ f) (s : Bytes) (m : Mark) (ss : List Slot) where
  -- fields that stay
  stay-fields : (fs : List Bytes) (i p r : ℕ) (rest : Bytes) (o : Output) → p ≤ length s → drop p s ≡ tabbed fs ++ rest → r ≡ p + fields_size fs → Stretch ns new s p r [] o (put_fields ns new m true ss i fs o)
  unfolding put_fields put_field tabbed fields_size
  stay-fields [] i p r rest o h e k = let q : p ≡ r = omega arith in rw q (nothing r o)
  stay-fields (f ∷ fs) i p r rest o h e k =
      let a = front s p (9 ∷ []) ((f ++ tabbed fs) ++ rest) h e in
      let b = front s (p + 1) f (tabbed fs ++ rest) a.high (a.behind ∙ append_assoc f (tabbed fs) rest) in
      copied-then (9 ∷ []) _ refl a
      (copied-then f _ refl b
      (stay-fields fs (suc i) (p + 1 + length f) r rest (writes f (writes (9 ∷ []) o)) b.high b.behind (omega arith)))

  -- a field that may be a variable, after its tab
  one_field : (f : Bytes) (p r : ℕ) (zs : List Spot) (rest : Bytes) (F : Output → Output) (o : Output) (t : Bool) → Front s p f rest → ((o : Output) → Stretch ns new s (p + length f) r zs o (F o))
      → Stretch ns new s p r (cond t (spot p f m ∷ zs) zs) o (F (cond t (cond (mem f ns) (record { em = puts (new f) o.em; flags = flagged m (index_of f ns) o.flags }) (writes f o)) (writes f o)))
  one_field f p r zs rest F o false b more = copied-then f rest refl b (more (writes f o))
  one_field f p r zs rest F o true b more = spot-then f rest m refl b (go (mem f ns) refl)
    where
      go : (t : Bool) → mem f ns ≡ t
          → Stretch ns new s (p + length f) r zs (record { em = puts (new f) o.em; flags = cond t (flagged m (index_of f ns) o.flags) o.flags })
          (F (cond t (record { em = puts (new f) o.em; flags = flagged m (index_of f ns) o.flags }) (writes f o)))
      go true q = more (record { em = puts (new f) o.em; flags = flagged m (index_of f ns) o.flags })
      go false q = rw (keeps f q) (more (writes f o))

  -- fields among which variables are
  line-fields : (fs : List Bytes) (i p r : ℕ) (rest : Bytes) (o : Output) → p ≤ length s → drop p s ≡ tabbed fs ++ rest → r ≡ p + fields_size fs
      → Stretch ns new s p r (spots_in m ss i (p + 1) fs) o (put_fields ns new m false ss i fs o)
  unfolding put_fields put_field tabbed fields_size spots_in
  line-fields [] i p r rest o h e k = let q : p ≡ r = omega arith in rw q (nothing r o)
  line-fields (f ∷ fs) i p r rest o h e k =
      let a = front s p (9 ∷ []) ((f ++ tabbed fs) ++ rest) h e in
      let b = front s (p + 1) f (tabbed fs ++ rest) a.high (a.behind ∙ append_assoc f (tabbed fs) rest) in
      copied-then (9 ∷ []) _ refl a
      (one_field f (p + 1) r _ (tabbed fs ++ rest) (put_fields ns new m false ss (suc i) fs) (writes (9 ∷ []) o) (opened ss i && is_var f) b
      (λ o. line-fields fs (suc i) (p + 1 + length f) r rest o b.high b.behind (omega arith)))

  any-fields : (stays : Bool) (fs : List Bytes) (p : ℕ) (rest : Bytes) (o : Output) → p ≤ length s → drop p s ≡ tabbed fs ++ rest
      → Stretch ns new s p (p + fields_size fs) (cond stays [] (spots_in m ss 0 (p + 1) fs)) o (put_fields ns new m stays ss 0 fs o)
  any-fields true fs p rest o h e = stay-fields fs 0 p (p + fields_size fs) rest o h e refl
  any-fields false fs p rest o h e = line-fields fs 0 p (p + fields_size fs) rest o h e refl

tabbed-size : (fs : List Bytes) → length (tabbed fs) ≡ fields_size fs
unfolding tabbed fields_size
tabbed-size [] = refl
tabbed-size (f ∷ fs) = ap suc (length-append f (tabbed fs) ∙ ap (λ (n : ℕ). length f + n) (tabbed-size fs))

-- a whole line, which stands at a place
module _ (s w : Bytes) (fs : List Bytes) (p : ℕ) (rest : Bytes) (h : p ≤ length s) (e : drop p s ≡ ended (w ∷ fs) rest) where
  word-front : Front s p w (tabbed fs ++ (10 ∷ rest))
  word-front = front s p w (tabbed fs ++ (10 ∷ rest)) h (e ∙ ended_is w fs rest)

  fields-front : Front s (p + length w) (tabbed fs) (10 ∷ rest)
  fields-front = front s (p + length w) (tabbed fs) (10 ∷ rest) word-front.high word-front.behind

  pub end-front : Front s (p + length w + fields_size fs) (10 ∷ []) rest
  end-front = ap-front (tabbed-size fs) (front s (p + length w + length (tabbed fs)) (10 ∷ []) rest fields-front.high fields-front.behind)
    where
      ap-front : {a b : ℕ} → a ≡ b → Front s (p + length w + a) (10 ∷ []) rest → Front s (p + length w + b) (10 ∷ []) rest
      ap-front q x = subst (λ (n : ℕ). Front s (p + length w + n) (10 ∷ []) rest) q x

  pub line-stretch : (ns : List Bytes) (new : Bytes → Bytes) → ((f : Bytes) → mem f ns ≡ false → new f ≡ f) → (m : Mark) (r : Row) (o : Output)
      → Stretch ns new s p (p + length w + fields_size fs + 1) (line_spots m r w fs p) o (put_line ns new m r w fs o)
  unfolding put_line line_spots
  line-stretch ns new keeps m r o =
      copied-then w _ refl word-front
      (then-copied (10 ∷ []) _ refl end-front
      (any-fields ns new keeps s m r.slots (same w (bytes "service")) fs (p + length w) (10 ∷ rest) (writes w o) word-front.high word-front.behind))
