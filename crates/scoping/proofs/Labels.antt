-- Laws of "Label": a name with "Label" behind it, and a name without it. Assumes nothing.
use mathlib.Core.Path.{◌≡◌, sym, ap, ◌∙◌}
use mathlib.Core.List.{List, [], ◌∷◌, ◌++◌}
use mathlib.Core.Bool.{Bool, true, false, cond, ◌&&◌, true≢false}
use mathlib.Core.Option.{some}
use Prim.Native.Nat.{ℕ, ◌-◌, ◌≤◌}
use native.Mathlib.Omega.{arith}
use lib.ListN.{length, drop, length-append}
use lib.Seq.{drop-append_seam}
use borrow.Author.Tests.{le-leb}
use Rattle.text.specs.Text.{Bytes, same}
use Rattle.scoping.specs.Label.{label, is_label, base, generated}
use Rattle.scoping.specs.bridge.Pushes.{Push, lookup}
use Rattle.scoping.proofs.Sets.{not_same}

-- a name with "Label" behind it ends in "Label"
pub label-ends : (b : Bytes) → is_label (b ++ label) ≡ true
unfolding is_label same
label-ends b =
    let e : length (b ++ label) - 5 ≡ length b = omega (arith, length-append b label) in
    let f : drop (length (b ++ label) - 5) (b ++ label) ≡ label = ap (λ (n : ℕ). drop n (b ++ label)) e ∙ drop-append_seam b label in
    ap (λ (t : Bool). t && same (drop (length (b ++ label) - 5) (b ++ label)) label) (le-leb 5 (length (b ++ label)) (omega (arith, length-append b label)))
    ∙ ap (λ (l : List ℕ). same l label) f

-- nothing is stripped from a name that does not
pub base-plain : (v : Bytes) → is_label v ≡ false → base v ≡ v
unfolding base
base-plain v h = simp h

pub not-with-label : (w b : Bytes) → is_label w ≡ false → same w (b ++ label) ≡ false
not-with-label w b h = not_same w (b ++ label) (λ e. true≢false (sym (label-ends b) ∙ ap is_label (sym e) ∙ h))

-- such a name is looked up among the bases only
pub lookup-plain : (w : Bytes) (p : Push) (ps : List Push) → is_label w ≡ false
    → lookup w (p ∷ ps) ≡ cond (same w p.base) (some (generated p.prefix p.number)) (lookup w ps)
unfolding lookup
lookup-plain w p ps h = simp (not-with-label w p.base h)
