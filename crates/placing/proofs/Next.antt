-- The next field of a line. Assumes nothing.
use Prim.Native.Nat.{ℕ, ◌+◌, ◌-◌, ◌≤◌, ◌<◌}
use mathlib.Core.Path.{◌≡◌, sym, ap, ◌∙◌}
use native.Mathlib.Omega.{arith}
use lib.ListN.{length}
use Rattle.text.specs.Text.{Bytes, First}
use Rattle.text.specs.Field.{number_of}
use Rattle.text.specs.bridge.Code.{number_in, Number}
use Rattle.cursor.proofs.Laws.{left-none, left-next}
use Rattle.merging.specs.Request.{or_zero, position}
use Rattle.placing.specs.bridge.Fields.{FieldIs}
use Rattle.std.specs.Prelude.{Some, None}

pub field-none : (s : Bytes) (at end : ℕ) → end < at → at ≤ end + 1 → FieldIs s at end (record { to = at; next = at })
field-none s at end h k =
    let z : at - at ≡ 0 = omega arith in
    let n = left-none s at end h in
    record {
      low = omega arith;
      high = k;
      after = omega arith;
      last = k;
      more = λ i. absurd (omega arith);
      here = λ i. absurd (omega arith);
      is = rw (z, n);
      rest = rw n;
    }

pub field-here : (s : Bytes) (at end e : ℕ) → end < length s → at ≤ end → First 9 s at end e → FieldIs s at end (record { to = e; next = e + 1 })
field-here s at end e h k f =
    let low = f.low in
    let high = f.high in
    let n = left-next s at end e (omega arith) k f in
    record {
      low = low;
      high = omega arith;
      after = omega arith;
      last = omega arith;
      more = λ i. omega arith;
      here = λ i. n;
      is = rw n;
      rest = rw n;
    }

-- a field's position
module _ (f : Bytes) (r : Number) (e : number_in r ≡ number_of f) where
  pub position-is : (v : ℕ) → r ≡ Some v → v ≡ position f
  unfolding position
  position-is v h = ap or_zero (sym (ap number_in h) ∙ e)

  pub position-not : r ≡ None → 0 ≡ position f
  unfolding position
  position-not h = ap or_zero (sym (ap number_in h) ∙ e)
