-- nemo's standardize_variables (queries.rs) with a map as the Rust has it. Assumes nothing.
use Rattle.std.specs.Prelude.{cond, List, [], ◌∷◌, ◌++◌, ℕ, suc}
use Rattle.std.proofs.Math.Option.{Option, none, some}
use Rattle.text.specs.Text.{Bytes, same}
use Rattle.text.specs.Field.{given}
use Rattle.scoping.specs.Label.{label, base, generated, prefix_j}

-- a HashMap from names to names: a list in which no key is twice
pub record Entry : Type 0 where
  pub key : Bytes
  pub value : Bytes

abbrev pub entry : Bytes → Bytes → Entry
entry k v = record { key = k; value = v }

-- HashMap::get
unfoldable pub get : Bytes → List Entry → Option Bytes
unfolding same
get w [] = none
get w (e ∷ m) = cond (same w e.key) (some e.value) (get w m)

-- HashMap::insert: a key that is there gets the new value
unfoldable pub insert : Bytes → Bytes → List Entry → List Entry
unfolding same
insert k v [] = entry k v ∷ []
insert k v (e ∷ m) = cond (same k e.key) (entry k v ∷ m) (e ∷ insert k v m)

-- the closure push: one "Label" stripped, a base that is there skipped, else the pair of keys inserted
unfoldable pub push : ℕ → ℕ → Bytes → List Entry → List Entry
unfolding base get insert generated
push prefix count v m =
    cond (given (get (base v) m)) m
    (insert (base v ++ label) (generated prefix count ++ label) (insert (base v) (generated prefix count) m))

-- its calls, the count growing with each, also where a name is skipped
unfoldable pub push_all : ℕ → ℕ → List Bytes → List Entry → List Entry
unfolding push
push_all prefix count [] m = m
push_all prefix count (v ∷ vs) m = push_all prefix (suc count) vs (push prefix count v m)

-- standardize_variables: join variables under j by list index, then the variables, in order, under the prefix
unfoldable pub standardize_variables : ℕ → List Bytes → List Bytes → List Entry
unfolding push_all
standardize_variables prefix vs js = push_all prefix 0 vs (push_all prefix_j 0 js [])

-- mapping.get(variable).unwrap_or(variable)
abbrev pub or_self : Option Bytes → Bytes → Bytes
or_self none w = w
or_self (some v) w = v

unfoldable pub renamed : List Entry → Bytes → Bytes
unfolding get
renamed m w = or_self (get w m) w
