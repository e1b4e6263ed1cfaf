-- Lines that are alike are the same erased, and neat lines that are the same erased are alike, with texts of one length. Assumes nothing.
use mathlib.Core.Path.{◌≡◌, refl, sym, ap, ap₂, subst, ◌∙◌}
use mathlib.Core.Bool.{Bool, true, false, cond, ◌&&◌}
use mathlib.Core.List.{List, [], ◌∷◌, map}
use Prim.Native.Nat.{ℕ, suc, ◌+◌}
use native.Mathlib.Omega.{arith}
use lib.ListN.{length, length-append}
use Rattle.text.specs.Text.{Bytes, Line, same, ended, text_of, lines_of}
use Rattle.text.specs.Word.{bytes}
use Rattle.text.specs.Field.{clean}
use Rattle.text.proofs.Basics.{and_left, and_right}
use Rattle.text.proofs.Texts.{Neat, lines-back}
use Rattle.laws.specs.Alike.{AllAlike, ends, also, AlikeField, equal, literals, AlikeLine, untouched, touched, Alike}
use Rattle.laws.proofs.Erased.{marked, erased, erased_line, Look, quote, other, look}

-- equal lists have one first element and equal rests
head_of : {A : Type 0} (x y : A) (xs ys : List A) → ◌≡◌ {A = List A} (x ∷ xs) (y ∷ ys) → x ≡ y
head_of x y xs ys e = cc

tail_of : {A : Type 0} (x y : A) (xs ys : List A) → ◌≡◌ {A = List A} (x ∷ xs) (y ∷ ys) → xs ≡ ys
tail_of x y xs ys e = cc

-- ---- lengths

module _ (may : Bytes → Bool) where
  pub field-long : (f g : Bytes) → AlikeField may f g → length f ≡ length g
  field-long f g (equal h) = refl
  field-long f g (literals a b h k e x y) = ap suc e

  first-long : (f g : Bytes) (fs gs : List Bytes) (r s : Bytes) → AlikeField may f g → AllAlike (AlikeField may) fs gs → length r ≡ length s → length (ended (f ∷ fs) r) ≡ length (ended (g ∷ gs) s)
  unfolding ended
  first-long f g fs gs r s a ends e =
      let c = field-long f g a in
      let p = length-append f (10 ∷ r) in
      let q = length-append g (10 ∷ s) in
      omega arith
  first-long f g fs gs r s a (also {x = u} {y = v} {xs = us} {ys = vs} b bs) e =
      let c = field-long f g a in
      let i = first-long u v us vs r s b bs e in
      let p = length-append f (9 ∷ ended (u ∷ us) r) in
      let q = length-append g (9 ∷ ended (v ∷ vs) s) in
      omega arith

  all-equal : (fs : List Bytes) → AllAlike (AlikeField may) fs fs
  all-equal [] = ends
  all-equal (f ∷ fs) = also (equal f) (all-equal fs)

  line-long : (l m : Line) (r s : Bytes) → AlikeLine may l m → length r ≡ length s → length (ended l r) ≡ length (ended m s)
  unfolding ended
  line-long l m r s (untouched []) e = ap suc e
  line-long l m r s (untouched (w ∷ fs)) e = first-long w w fs fs r s (equal w) (all-equal fs) e
  line-long l m r s (touched w fs gs n a) e = first-long w w fs gs r s (equal w) a e

  text-long : (ls ms : List Line) → AllAlike (AlikeLine may) ls ms → length (text_of ls) ≡ length (text_of ms)
  unfolding text_of
  text-long ls ms ends = refl
  text-long ls ms (also {x = x} {y = y} {xs = xs} {ys = ys} a more) = line-long x y (text_of xs) (text_of ys) a (text-long xs ys more)

  -- ---- alike, so the same erased

  -- what may be changed is told by its length
  marked-is : (a : Bytes) → clean a ≡ true → may (34 ∷ a) ≡ true → marked may a ≡ 11 ∷ (11 + length a) ∷ []
  unfolding marked
  marked-is a h m = ap₂ (λ (c t : Bool). cond (c && t) (11 ∷ (11 + length a) ∷ []) (12 ∷ a)) h m

  pub field-same : (f g : Bytes) → AlikeField may f g → erased may f ≡ erased may g
  unfolding erased
  field-same f g (equal h) = refl
  field-same f g (literals a b h k e x y) = ap (λ (l : Bytes). 34 ∷ l) (marked-is a h x ∙ ap (λ (n : ℕ). 11 ∷ (11 + n) ∷ []) e ∙ sym (marked-is b k y))

  fields-same : (fs gs : List Bytes) → AllAlike (AlikeField may) fs gs → map (erased may) fs ≡ map (erased may) gs
  fields-same fs gs ends = refl
  fields-same fs gs (also {x = x} {y = y} {xs = xs} {ys = ys} r rs) = ap₂ ◌∷◌ (field-same x y r) (fields-same xs ys rs)

  line_same : (l m : Line) → AlikeLine may l m → erased_line may l ≡ erased_line may m
  unfolding erased_line
  line_same l m (untouched k) = refl
  line_same l m (touched w fs gs n r) = ap₂ (λ (b : Bool) (h : List Bytes). cond b (w ∷ fs) (w ∷ h)) n (fields-same fs gs r) ∙ sym (ap (λ (b : Bool). cond b (w ∷ gs) (w ∷ map (erased may) gs)) n)

  pub lines_same : (ls ms : List Line) → AllAlike (AlikeLine may) ls ms → map (erased_line may) ls ≡ map (erased_line may) ms
  lines_same ls ms ends = refl
  lines_same ls ms (also {x = x} {y = y} {xs = xs} {ys = ys} r rs) = ap₂ ◌∷◌ (line_same x y r) (lines_same xs ys rs)

  -- ---- the same erased, so alike

  -- both are told by their lengths, or both by their bytes
  quoted-alike : (ys zs : Bytes) → marked may ys ≡ marked may zs → AlikeField may (34 ∷ ys) (34 ∷ zs)
  unfolding marked
  quoted-alike ys zs e = go (clean ys && may (34 ∷ ys)) (clean zs && may (34 ∷ zs)) refl refl e
    where
      go : (s t : Bool) → (clean ys && may (34 ∷ ys)) ≡ s → (clean zs && may (34 ∷ zs)) ≡ t → cond s (11 ∷ (11 + length ys) ∷ []) (12 ∷ ys) ≡ cond t (11 ∷ (11 + length zs) ∷ []) (12 ∷ zs) → AlikeField may (34 ∷ ys) (34 ∷ zs)
      go true true p q h =
          let n : 11 + length ys ≡ 11 + length zs = cc in
          literals ys zs (and_left (clean ys) (may (34 ∷ ys)) p) (and_left (clean zs) (may (34 ∷ zs)) q) (omega arith) (and_right (clean ys) (may (34 ∷ ys)) p) (and_right (clean zs) (may (34 ∷ zs)) q)
      go true false p q h = let n : ◌≡◌ {A = ℕ} 11 12 = cc in absurd (omega arith)
      go false true p q h = let n : ◌≡◌ {A = ℕ} 12 11 = cc in absurd (omega arith)
      go false false p q h = subst (λ (l : Bytes). AlikeField may (34 ∷ ys) (34 ∷ l)) (let t : ys ≡ zs = cc in t) (equal (34 ∷ ys))

  field_alike : (f g : Bytes) → erased may f ≡ erased may g → AlikeField may f g
  field_alike f g e = go (look may f) (look may g)
    where
      go : Look may f → Look may g → AlikeField may f g
      go (quote ys a b) (quote zs c d) =
          let t : 34 ∷ marked may ys ≡ 34 ∷ marked may zs = sym b ∙ e ∙ d in
          subst (λ (u : Bytes). AlikeField may u g) (sym a) (subst (AlikeField may (34 ∷ ys)) (sym c) (quoted-alike ys zs (tail_of 34 34 (marked may ys) (marked may zs) t)))
      go (quote ys a b) (other d n) = absurd (n (marked may ys) (sym d ∙ sym e ∙ b))
      go (other b n) (quote zs c d) = absurd (n (marked may zs) (sym b ∙ e ∙ d))
      go (other b n) (other d m) = subst (AlikeField may f) (sym b ∙ e ∙ d) (equal f)

  fields-alike : (fs gs : List Bytes) → map (erased may) fs ≡ map (erased may) gs → AllAlike (AlikeField may) fs gs
  fields-alike [] [] e = ends
  fields-alike [] (g ∷ gs) e = let n = ap length e in absurd (omega arith)
  fields-alike (f ∷ fs) [] e = let n = ap length e in absurd (omega arith)
  fields-alike (f ∷ fs) (g ∷ gs) e = also (field_alike f g (head_of (erased may f) (erased may g) (map (erased may) fs) (map (erased may) gs) e)) (fields-alike fs gs (tail_of (erased may f) (erased may g) (map (erased may) fs) (map (erased may) gs) e))

  line-alike : (w v : Bytes) (fs gs : List Bytes) → erased_line may (w ∷ fs) ≡ erased_line may (v ∷ gs) → AlikeLine may (w ∷ fs) (v ∷ gs)
  unfolding erased_line
  line-alike w v fs gs e = subst (λ (u : Bytes). AlikeLine may (w ∷ fs) (u ∷ gs)) one_word (go (same w (bytes "query")) refl)
    where
      first : (s t : Bool) → cond s (w ∷ fs) (w ∷ map (erased may) fs) ≡ cond t (v ∷ gs) (v ∷ map (erased may) gs) → w ≡ v
      first true true x = head_of w v fs gs x
      first true false x = head_of w v fs (map (erased may) gs) x
      first false true x = head_of w v (map (erased may) fs) gs x
      first false false x = head_of w v (map (erased may) fs) (map (erased may) gs) x

      one_word : w ≡ v
      one_word = first (same w (bytes "query")) (same v (bytes "query")) e

      lines_are : cond (same w (bytes "query")) (w ∷ fs) (w ∷ map (erased may) fs) ≡ cond (same w (bytes "query")) (v ∷ gs) (v ∷ map (erased may) gs)
      lines_are = e ∙ ap (λ (u : Bytes). cond (same u (bytes "query")) (v ∷ gs) (v ∷ map (erased may) gs)) (sym one_word)

      go : (t : Bool) → same w (bytes "query") ≡ t → AlikeLine may (w ∷ fs) (w ∷ gs)
      go true q = subst (λ (l : List Bytes). AlikeLine may (w ∷ fs) (w ∷ l)) (tail_of w v fs gs (subst (λ (b : Bool). cond b (w ∷ fs) (w ∷ map (erased may) fs) ≡ cond b (v ∷ gs) (v ∷ map (erased may) gs)) q lines_are)) (untouched (w ∷ fs))
      go false q = touched w fs gs q (fields-alike fs gs (tail_of w v (map (erased may) fs) (map (erased may) gs) (subst (λ (b : Bool). cond b (w ∷ fs) (w ∷ map (erased may) fs) ≡ cond b (v ∷ gs) (v ∷ map (erased may) gs)) q lines_are)))

  lines-alike : (ls ms : List Line) → Neat ls → Neat ms → map (erased_line may) ls ≡ map (erased_line may) ms → AllAlike (AlikeLine may) ls ms
  lines-alike [] [] h k e = ends
  lines-alike [] (m ∷ ms) h k e = let n = ap length e in absurd (omega arith)
  lines-alike (l ∷ ls) [] h k e = let n = ap length e in absurd (omega arith)
  lines-alike ([] ∷ ls) (m ∷ ms) h k e = absurd h
  lines-alike ((w ∷ fs) ∷ ls) ([] ∷ ms) h k e = absurd k
  lines-alike ((w ∷ fs) ∷ ls) ((v ∷ gs) ∷ ms) h k e =
      also (line-alike w v fs gs (head_of (erased_line may (w ∷ fs)) (erased_line may (v ∷ gs)) (map (erased_line may) ls) (map (erased_line may) ms) e))
      (lines-alike ls ms h.1 k.1 (tail_of (erased_line may (w ∷ fs)) (erased_line may (v ∷ gs)) (map (erased_line may) ls) (map (erased_line may) ms) e))

  -- texts of neat lines that are the same erased are alike
  pub texts-alike : (ls ms : List Line) → Neat ls → Neat ms → map (erased_line may) ls ≡ map (erased_line may) ms → Alike may (text_of ls) (text_of ms)
  texts-alike ls ms h k e =
      let a = lines-alike ls ms h k e in
      record { long = text-long ls ms a; lines = subst (λ (l : List Line). AllAlike (AlikeLine may) l (lines_of (text_of ms))) (sym (lines-back ls h)) (subst (AllAlike (AlikeLine may) ls) (sym (lines-back ms k)) a) }
