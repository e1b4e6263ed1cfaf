-- Tests over lists, lists of names read as sets, and the variables among fields. Assumes nothing.
use Rattle.std.specs.Prelude.{ℕ, suc, ◌≡◌, Bool, true, false, cond, ◌&&◌, ◌||◌, List, [], ◌∷◌, ◌++◌}
use Rattle.text.specs.Text.{Bytes, same}
use Rattle.text.specs.Field.{is_var}
use Rattle.algebra.specs.Tree.{Triple, Aggregates, aend, agg, aggall}
use Rattle.algebra.specs.Valid.{mem}

-- every element passes
unfoldable pub all : {A : Type 0} → (A → Bool) → List A → Bool
all f [] = true
all f (x ∷ xs) = f x && all f xs

-- some element passes
unfoldable pub any : {A : Type 0} → (A → Bool) → List A → Bool
any f [] = false
any f (x ∷ xs) = f x || any f xs

-- the elements that pass
unfoldable pub keep : {A : Type 0} → (A → Bool) → List A → List A
keep f [] = []
keep f (x ∷ xs) = cond (f x) (x ∷ keep f xs) (keep f xs)

-- the lists of all elements, one after the other
unfoldable pub each : {A B : Type 0} → (A → List B) → List A → List B
each f [] = []
each f (x ∷ xs) = f x ++ each f xs

-- two lists are the same set
abbrev pub Alike : List Bytes → List Bytes → Type 0
Alike xs ys = (v : Bytes) → mem v xs ≡ mem v ys

-- the place of a name in a list: its first; behind all of them if it is not there
unfoldable pub index_of : Bytes → List Bytes → ℕ
unfolding same
index_of w [] = 0
index_of w (x ∷ xs) = cond (same w x) 0 (suc (index_of w xs))

-- the variables among fields that may be other terms
unfoldable pub variables_of : List Bytes → List Bytes
unfolding keep is_var
variables_of fs = keep is_var fs

-- the variables of `t` lines: subject, predicate, object
unfoldable pub triple_variables : List Triple → List Bytes
unfolding variables_of
triple_variables [] = []
triple_variables (t ∷ ts) = variables_of (t.subj ∷ t.pred ∷ t.obj ∷ []) ++ triple_variables ts

-- the variables that a group's aggregates set
unfoldable pub aggregate_variables : Aggregates → List Bytes
aggregate_variables aend = []
aggregate_variables (agg v n d e rs) = v ∷ aggregate_variables rs
aggregate_variables (aggall v d rs) = v ∷ aggregate_variables rs
