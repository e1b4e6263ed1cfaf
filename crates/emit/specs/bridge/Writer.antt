-- What a writer did. Assumes nothing.
use Rattle.std.specs.Prelude.{List, ℕ, ◌≡◌}
use Rattle.emit.specs.bridge.Emit.{Em, em, puts}
use Rattle.emit.specs.declared.Writer.{Writer}

-- the same buffer, with these bytes put from the place on
pub record Wrote (w v : Writer) (bs : List ℕ) : Type 0 where
  pub same : v.out.ghost_name ≡ w.out.ghost_name
  pub puts : em v.at v.out.now ≡ puts bs (em w.at w.out.now)

-- where a writer stands, and the bytes of its buffer
abbrev pub state : Writer → Em
state w = em w.at w.out.now

-- the same buffer, and what this makes of the place and the bytes
pub record WroteBy (w v : Writer) (f : Em → Em) : Type 0 where
  pub same : v.out.ghost_name ≡ w.out.ghost_name
  pub is : state v ≡ f (state w)

-- the same buffer; of the bytes `all`, that were to be put, `rest` is left
pub record Left (w v : Writer) (all rest : List ℕ) : Type 0 where
  pub same : v.out.ghost_name ≡ w.out.ghost_name
  pub puts : puts rest (state v) ≡ puts all (state w)
