-- Four rows agree, each with each, exactly if the first two do, the last two do, and the unions of both do. Assumes nothing.
use mathlib.Core.Path.{◌≡◌, refl, sym, ◌∙◌, ap₂}
use mathlib.Core.Bool.{Bool, true, false, ◌&&◌, false≢true}
use mathlib.Core.List.{List, [], ◌∷◌}
use mathlib.Core.Option.{none, some}
use Rattle.text.specs.Text.{Bytes}
use Rattle.text.proofs.Basics.{and_left, and_right, same-eq}
use Rattle.algebra.specs.Valid.{mem}
use Rattle.scoping.specs.Sets.{all}
use Rattle.scoping.proofs.Sets.{eq-same, same-sym}
use Rattle.scoping.specs.bridge.Sets.{Sub}
use Rattle.counting.specs.Row.{Cell, compatible, or_cell, Row, merge, agree, agree_all}
use Rattle.scoping.proofs.Basics.{both_ways, all-cong, all-at, all_of}
use Rattle.counting.proofs.Only.{Cover, agree-wider}

-- ---- cells

compatible-flip : (a b : Cell) → compatible a b ≡ true → compatible b a ≡ true
unfolding compatible
compatible-flip none none h = refl
compatible-flip none (some b) h = refl
compatible-flip (some a) none h = refl
compatible-flip (some a) (some b) h = same-sym b a ∙ h

compatible-or-first : (x k z : Cell) → compatible (or_cell x k) z ≡ true → compatible x z ≡ true
unfolding compatible
compatible-or-first none k z h = refl
compatible-or-first (some a) k z h = h

compatible-or-second : (x k z : Cell) → compatible x k ≡ true → compatible (or_cell x k) z ≡ true → compatible k z ≡ true
unfolding compatible
compatible-or-second none k z e h = h
compatible-or-second (some a) none z e h = refl
compatible-or-second (some a) (some c) none e h = refl
compatible-or-second (some a) (some c) (some d) e h = eq-same c d (sym (same-eq a c e) ∙ same-eq a d h)

compatible-or : (x k z : Cell) → compatible x z ≡ true → compatible k z ≡ true → compatible (or_cell x k) z ≡ true
compatible-or none k z h e = e
compatible-or (some a) k z h e = h

-- ---- rows

compatible-at : (vs : List Bytes) (a b : Row) → agree vs a b ≡ true → (v : Bytes) → mem v vs ≡ true → compatible (a v) (b v) ≡ true
unfolding agree
compatible-at vs a b h = all-at (λ v. compatible (a v) (b v)) vs h

agree-from : (vs : List Bytes) (a b : Row) → ((v : Bytes) → mem v vs ≡ true → compatible (a v) (b v) ≡ true) → agree vs a b ≡ true
unfolding agree
agree-from vs a b h = all_of (λ v. compatible (a v) (b v)) vs h

pub agree-cong : (vs : List Bytes) (a b a' b' : Row) → ((v : Bytes) → mem v vs ≡ true → a v ≡ a' v) → ((v : Bytes) → mem v vs ≡ true → b v ≡ b' v) → agree vs a b ≡ agree vs a' b'
unfolding agree
agree-cong vs a b a' b' p q = all-cong _ _ vs (λ v m. ap₂ compatible (p v m) (q v m))

pub agree-flip : (vs : List Bytes) (a b : Row) → agree vs a b ≡ true → agree vs b a ≡ true
agree-flip vs a b h = agree-from vs b a (λ v m. compatible-flip (a v) (b v) (compatible-at vs a b h v m))

-- what agrees with a union of two agrees with both; and the other way round
agree-first : (vs : List Bytes) (a k z : Row) → agree vs (merge a k) z ≡ true → agree vs a z ≡ true
unfolding merge
agree-first vs a k z e = agree-from vs a z (λ v m. compatible-or-first (a v) (k v) (z v) (compatible-at vs (merge a k) z e v m))

agree-second : (vs : List Bytes) (a k z : Row) → agree vs a k ≡ true → agree vs (merge a k) z ≡ true → agree vs k z ≡ true
unfolding merge
agree-second vs a k z h e = agree-from vs k z (λ v m. compatible-or-second (a v) (k v) (z v) (compatible-at vs a k h v m) (compatible-at vs (merge a k) z e v m))

agree-both : (vs : List Bytes) (a k z : Row) → agree vs a z ≡ true → agree vs k z ≡ true → agree vs (merge a k) z ≡ true
unfolding merge
agree-both vs a k z h e = agree-from vs (merge a k) z (λ v m. compatible-or (a v) (k v) (z v) (compatible-at vs a z h v m) (compatible-at vs k z e v m))

-- the six tests of four rows, in the order of agree_all
six_tests : Bool → Bool → Bool → Bool → Bool → Bool → Bool
six_tests ak ab al kb kl bl = (ak && (ab && (al && true))) && ((kb && (kl && true)) && ((bl && true) && (true && true)))

six-tests-all : (ak ab al kb kl bl : Bool) → six_tests ak ab al kb kl bl ≡ true → (ak ≡ true) × (ab ≡ true) × (al ≡ true) × (kb ≡ true) × (kl ≡ true) × (bl ≡ true)
unfolding six_tests
six-tests-all true true true true true true h = (refl, refl, refl, refl, refl, refl)
six-tests-all true true true true true false h = absurd (false≢true h)
six-tests-all true true true true false bl h = absurd (false≢true h)
six-tests-all true true true false kl bl h = absurd (false≢true h)
six-tests-all true true false kb kl bl h = absurd (false≢true h)
six-tests-all true false al kb kl bl h = absurd (false≢true h)
six-tests-all false ab al kb kl bl h = absurd (false≢true h)

-- four rows agree as the tests of three joins say
pub agree-four : (vs : List Bytes) (a k b l : Row) → (agree vs a k && (agree vs b l && agree vs (merge a k) (merge b l))) ≡ agree_all vs (a ∷ k ∷ b ∷ l ∷ [])
unfolding agree_all all six_tests
agree-four vs a k b l = both_ways (agree vs a k && (agree vs b l && agree vs (merge a k) (merge b l))) (agree_all vs (a ∷ k ∷ b ∷ l ∷ [])) forth back
  where
    forth : (agree vs a k && (agree vs b l && agree vs (merge a k) (merge b l))) ≡ true → six_tests (agree vs a k) (agree vs a b) (agree vs a l) (agree vs k b) (agree vs k l) (agree vs b l) ≡ true
    forth h =
        let rest : (agree vs b l && agree vs (merge a k) (merge b l)) ≡ true = and_right (agree vs a k) (agree vs b l && agree vs (merge a k) (merge b l)) h in
        let ak : agree vs a k ≡ true = and_left (agree vs a k) (agree vs b l && agree vs (merge a k) (merge b l)) h in
        let bl : agree vs b l ≡ true = and_left (agree vs b l) (agree vs (merge a k) (merge b l)) rest in
        let turned : agree vs (merge b l) (merge a k) ≡ true = agree-flip vs (merge a k) (merge b l) (and_right (agree vs b l) (agree vs (merge a k) (merge b l)) rest) in
        let ob : agree vs (merge a k) b ≡ true = agree-flip vs b (merge a k) (agree-first vs b l (merge a k) turned) in
        let ol : agree vs (merge a k) l ≡ true = agree-flip vs l (merge a k) (agree-second vs b l (merge a k) bl turned) in
        λ i. six_tests (ak i) (agree-first vs a k b ob i) (agree-first vs a k l ol i) (agree-second vs a k b ak ob i) (agree-second vs a k l ak ol i) (bl i)

    back : six_tests (agree vs a k) (agree vs a b) (agree vs a l) (agree vs k b) (agree vs k l) (agree vs b l) ≡ true → (agree vs a k && (agree vs b l && agree vs (merge a k) (merge b l))) ≡ true
    back h =
        let s = six-tests-all (agree vs a k) (agree vs a b) (agree vs a l) (agree vs k b) (agree vs k l) (agree vs b l) h in
        let ob : agree vs (merge a k) b ≡ true = agree-both vs a k b s.1 s.3 in
        let ol : agree vs (merge a k) l ≡ true = agree-both vs a k l s.2 s.4 in
        λ i. s.0 i && (s.5 i && agree-flip vs (merge b l) (merge a k) (agree-both vs b l (merge a k) (agree-flip vs (merge a k) b ob) (agree-flip vs (merge a k) l ol)) i)

-- four rows agree over a longer list exactly if they do over one that leaves nothing to compare outside
pub four-wider : (us vs : List Bytes) (a k b l : Row) → Sub vs us → Cover vs a k → Cover vs a b → Cover vs a l → Cover vs k b → Cover vs k l → Cover vs b l → agree_all us (a ∷ k ∷ b ∷ l ∷ []) ≡ agree_all vs (a ∷ k ∷ b ∷ l ∷ [])
unfolding agree_all all six_tests
four-wider us vs a k b l s ak ab al kb kl bl = λ i. six_tests (agree-wider us vs a k s ak i) (agree-wider us vs a b s ab i) (agree-wider us vs a l s al i) (agree-wider us vs k b s kb i) (agree-wider us vs k l s kl i) (agree-wider us vs b l s bl i)

-- rows that are the same on vs agree alike
pub four-cong : (vs : List Bytes) (a k b l a' b' : Row) → ((v : Bytes) → mem v vs ≡ true → a v ≡ a' v) → ((v : Bytes) → mem v vs ≡ true → b v ≡ b' v) → agree_all vs (a ∷ k ∷ b ∷ l ∷ []) ≡ agree_all vs (a' ∷ k ∷ b' ∷ l ∷ [])
unfolding agree_all all six_tests
four-cong vs a k b l a' b' p q = λ i. six_tests (agree-cong vs a k a' k p (λ v m. refl) i) (agree-cong vs a b a' b' p q i) (agree-cong vs a l a' l p (λ v m. refl) i) (agree-cong vs k b k b' (λ v m. refl) q i) (agree vs k l) (agree-cong vs b l b' l q (λ v m. refl) i)
