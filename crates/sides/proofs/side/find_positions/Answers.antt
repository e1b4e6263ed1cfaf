-- `sides::side/find_positions` meets its contract. Assumes nothing.
use native.Mathlib.Omega.{arith}
use mathlib.Core.Bool.{false}
use Rattle.scoping.specs.Premises.{inside}
use Rattle.columns.specs.bridge.Listed.{positions_in}
use Rattle.sides.proofs.Sides as S
use Rattle.sides.proofs.side.find_positions.Goals as goal

pub read_positions-requires : goal.read_positions-requires
read_positions-requires c =
    (let w = (c.find_columns-found.ensures.1 _ c.requires.0.lines).0 in let n = c.requires.0.narrow in omega arith, c.requires.1, c.requires.3, (c.requires.0.joins, c.requires.0.joins_listed))

pub returns-in_default : goal.returns-in_default
returns-in_default c =
    (c.read_positions.ensures.0, c.requires.2, λ x js ks t lj lk. S.none_found _ _ _ x js ks _ _ _ _ c.outside.ensures (S.first-false _ (inside x.columns (positions_in false ks)) (S.found-outside _ _ _ _ _ _ _ x.columns (c.read_positions.ensures.2 js lj) c.in_default.is (c.find_columns-found.ensures.1 x t).0)))

pub read_positions-requires-2 : goal.read_positions-requires-2
read_positions-requires-2 c =
    (let w = (c.find_columns-found.ensures.1 _ c.requires.0.lines).0 in let n = c.requires.0.narrow in omega arith, c.requires.2, c.read_positions.ensures.1, (c.requires.0.terms, c.requires.0.terms_listed))

pub returns-in_default-read_positions : goal.returns-in_default-read_positions
returns-in_default-read_positions c =
    (c.read_positions.ensures.0, c.read_positions-2.ensures.0, λ x js ks t lj lk. S.none_found _ _ _ x js ks _ _ _ _ c.outside-in_default-read_positions.ensures (S.neither (inside x.columns (positions_in c.args.second js)) _ (S.found-outside _ _ _ _ _ _ _ x.columns (c.read_positions-2.ensures.2 ks lk) c.in_default-read_positions.is (c.find_columns-found.ensures.1 x t).0)))

pub position_mask-requires : goal.position_mask-requires
position_mask-requires c =
    let k = S.kept-asked _ _ _ _ _ _ _ _ (S.found_all _ _ _ _ _ _ _ _ (c.read_positions.ensures.2 c.requires.0.joins c.requires.0.joins_listed) c.in-Some.is) c.requires.0.joins_listed in (k.0, c.read_positions.ensures.0, let w = (c.find_columns-found.ensures.1 _ c.requires.0.lines).0 in let n = c.requires.0.narrow in omega arith, k.1)

pub position_mask-requires-2 : goal.position_mask-requires-2
position_mask-requires-2 c =
    let k = S.kept-asked _ _ _ _ _ _ _ _ (S.found_all _ _ _ _ _ _ _ _ (c.read_positions-2.ensures.2 c.requires.0.terms c.requires.0.terms_listed) c.in-Some-read_positions.is) c.requires.0.terms_listed in (k.0, c.read_positions-2.ensures.0, let w = (c.find_columns-found.ensures.1 _ c.requires.0.lines).0 in let n = c.requires.0.narrow in omega arith, k.1)

pub returns : goal.returns
returns c =
    (c.read_positions.ensures.0, c.read_positions-2.ensures.0, λ x js ks t lj lk. S.all_found _ _ _ _ _ _ x js ks _ _ _ _ _ _ (S.found_all _ _ _ _ _ _ _ _ (c.read_positions.ensures.2 js lj) c.in-Some.is) (S.found_all _ _ _ _ _ _ _ _ (c.read_positions-2.ensures.2 ks lk) c.in-Some-read_positions.is) c.find_columns-found.ensures.0 (c.find_columns-found.ensures.1 x t) lj _ _ c.position_mask-2.ensures c.position_mask.ensures)
