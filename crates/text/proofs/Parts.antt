-- Parts of a text, one behind the other. Assumes nothing.
use Prim.Native.Nat.{ℕ, ◌+◌, ◌-◌, ◌≤◌, ◌<◌}
use mathlib.Core.Path.{◌≡◌, sym, ◌∙◌, ap}
use mathlib.Core.List.{[], ◌∷◌, ◌++◌}
use native.Mathlib.Omega.{arith}
use lib.ListN.{length, get_or, take, drop}
use lib.Seq.{take-add, drop-drop, drop-cons}
use Rattle.text.specs.Text.{Bytes, part}

-- two parts, one behind the other
pub part_join : (s : Bytes) (from at to : ℕ) → from ≤ at → at ≤ to → part from at s ++ part at to s ≡ part from to s
part_join s from at to h k =
    let e : from + (at - from) ≡ at = omega arith in
    let f : (at - from) + (to - at) ≡ to - from = omega arith in
    ap (λ (l : Bytes). part from at s ++ take (to - at) l) (ap (λ (n : ℕ). drop n s) (sym e) ∙ sym (drop-drop (at - from) from s))
    ∙ sym (take-add (at - from) (to - at) (drop from s))
    ∙ ap (λ (n : ℕ). take n (drop from s)) f

-- a line with its line end
pub part-line : (s : Bytes) (at e : ℕ) → at ≤ e → e < length s → get_or s e 0 ≡ 10 → part at e s ++ (10 ∷ []) ≡ part at (e + 1) s
part-line s at e h k q =
    let one : e + 1 - e ≡ 1 = omega arith in
    ap (λ (l : Bytes). part at e s ++ l)
    (ap (λ (x : ℕ). x ∷ []) (sym q) ∙ ap (take 1) (sym (drop-cons s e 0 k)) ∙ ap (λ (n : ℕ). take n (drop e s)) (sym one))
    ∙ part_join s at e (e + 1) h (omega arith)
