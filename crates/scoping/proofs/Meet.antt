-- Where no name ends in "Label" and no join variable is listed twice: which new names of one side, and of two, are the same. Assumes nothing.
use mathlib.Core.Path.{◌≡◌, refl, sym, ap, ap₂, ◌∙◌}
use mathlib.Core.List.{List, [], ◌∷◌}
use mathlib.Core.Bool.{Bool, true, false, cond, true≢false}
use Prim.Native.Nat.{ℕ, ◌<◌}
use native.Mathlib.Omega.{arith}
use lib.ListN.{length, get_or}
use Rattle.text.specs.Text.{Bytes, same}
use Rattle.algebra.specs.Valid.{mem}
use Rattle.scoping.specs.bridge.Sets.{Once}
use Rattle.scoping.specs.Sets.{index_of}
use Rattle.scoping.specs.Label.{generated, prefix_j, prefix_l, prefix_r}
use Rattle.scoping.specs.bridge.Pushes.{all_pushes, new_name}
use Rattle.scoping.specs.bridge.Premises.{is_pair}
use Rattle.scoping.proofs.Sets.{eq-same, not_same}
use Rattle.scoping.proofs.Decimal.{generated-number, generated-prefix}
use Rattle.scoping.proofs.Closed.{Plain, target, new-name-target}
use Rattle.scoping.proofs.Index.{at-index, index_below, same_place, mem-at, index_at, pair-at, pair-index}

-- ---- one side: the new names are different where the names are

module _ (prefix : ℕ) (notJ : prefix ≡ prefix_j → ⊥) (vs js : List Bytes) (pv : Plain vs) (pj : Plain js) where
  target-apart : (w u : Bytes) → mem w vs ≡ true → mem u vs ≡ true → target prefix vs js w ≡ target prefix vs js u → w ≡ u
  unfolding target
  target-apart w u h k e = go (mem w js) refl (mem u js) refl e
    where
      go : (t : Bool) → mem w js ≡ t → (s : Bool) → mem u js ≡ s
          → cond t (generated prefix_j (index_of w js)) (generated prefix (index_of w vs)) ≡ cond s (generated prefix_j (index_of u js)) (generated prefix (index_of u vs))
          → w ≡ u
      go true a true b x = same_place w u js a b (generated-number prefix_j prefix_j (index_of w js) (index_of u js) x)
      go true a false b x = absurd (notJ (sym (generated-prefix prefix_j prefix (index_of w js) (index_of u vs) x)))
      go false a true b x = absurd (notJ (generated-prefix prefix prefix_j (index_of w vs) (index_of u js) x))
      go false a false b x = same_place w u vs h k (generated-number prefix prefix (index_of w vs) (index_of u vs) x)

  pub new-names-apart : (w u : Bytes) → mem w vs ≡ true → mem u vs ≡ true → new_name (all_pushes prefix vs js) w ≡ new_name (all_pushes prefix vs js) u → w ≡ u
  new-names-apart w u h k e = target-apart w u h k (sym (new-name-target prefix vs js pv pj w h) ∙ e ∙ new-name-target prefix vs js pv pj u k)

-- ---- two sides: one new name for the two columns of a join pair, and for no others

target-joined : (p : ℕ) (vs js : List Bytes) (i : ℕ) (w : Bytes) → Once js → i < length js → get_or js i [] ≡ w → target p vs js w ≡ generated prefix_j i
unfolding target
target-joined p vs js i w o l e =
    ap (λ (n : Bytes). target p vs js n) (sym e)
    ∙ ap (λ (b : Bool). cond b (generated prefix_j (index_of (get_or js i []) js)) (generated p (index_of (get_or js i []) vs))) (mem-at js i l)
    ∙ ap (generated prefix_j) (index_at js i o l)

module _ (vs js us ks : List Bytes) (w u : Bytes) where
  targets-pair : target prefix_l vs js w ≡ target prefix_r us ks u → is_pair js ks w u ≡ true
  unfolding target
  targets-pair e = go (mem w js) refl (mem u ks) refl e
    where
      no_way : (p q m n : ℕ) → generated p m ≡ generated q n → (p ≡ q → ⊥) → is_pair js ks w u ≡ true
      no_way p q m n x d = absurd (d (generated-prefix p q m n x))

      go : (t : Bool) → mem w js ≡ t → (s : Bool) → mem u ks ≡ s
          → cond t (generated prefix_j (index_of w js)) (generated prefix_l (index_of w vs)) ≡ cond s (generated prefix_j (index_of u ks)) (generated prefix_r (index_of u us))
          → is_pair js ks w u ≡ true
      go true a true b x =
          let e : index_of w js ≡ index_of u ks = generated-number prefix_j prefix_j (index_of w js) (index_of u ks) x in
          pair-at js ks w u (index_of w js) (index_below w js a) (omega (arith, index_below u ks b)) (at-index w js a) (ap (λ (n : ℕ). get_or ks n []) e ∙ at-index u ks b)
      go true a false b x = no_way prefix_j prefix_r (index_of w js) (index_of u us) x (λ d. omega arith)
      go false a true b x = no_way prefix_l prefix_j (index_of w vs) (index_of u ks) x (λ d. omega arith)
      go false a false b x = no_way prefix_l prefix_r (index_of w vs) (index_of u us) x (λ d. omega arith)

  pair-targets : Once js → Once ks → is_pair js ks w u ≡ true → target prefix_l vs js w ≡ target prefix_r us ks u
  pair-targets o o' h =
      let q = pair-index js ks w u h in
      target-joined prefix_l vs js q.0 w o q.1 q.3 ∙ sym (target-joined prefix_r us ks q.0 u o' q.2 q.4)

  targets-meet : Once js → Once ks → same (target prefix_l vs js w) (target prefix_r us ks u) ≡ is_pair js ks w u
  targets-meet o o' = go (is_pair js ks w u) refl
    where
      go : (t : Bool) → is_pair js ks w u ≡ t → same (target prefix_l vs js w) (target prefix_r us ks u) ≡ t
      go true e = eq-same (target prefix_l vs js w) (target prefix_r us ks u) (pair-targets o o' e)
      go false e = not_same (target prefix_l vs js w) (target prefix_r us ks u) (λ x. true≢false (sym (targets-pair x) ∙ e))

module _ (vs js us ks : List Bytes) (pv : Plain vs) (pj : Plain js) (pu : Plain us) (pk : Plain ks) (once : Once js) (once' : Once ks) where
  pub new-names-meet : (w u : Bytes) → mem w vs ≡ true → mem u us ≡ true
      → same (new_name (all_pushes prefix_l vs js) w) (new_name (all_pushes prefix_r us ks) u) ≡ is_pair js ks w u
  new-names-meet w u h k =
      ap₂ same (new-name-target prefix_l vs js pv pj w h) (new-name-target prefix_r us ks pu pk u k) ∙ targets-meet vs js us ks w u once once'
