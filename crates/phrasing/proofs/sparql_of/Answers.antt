-- `phrasing::sparql_of` meets its contract. Assumes nothing.
use borrow.Author.Rules.{rules}
use Rattle.std.proofs.lemmas.Result.{err_from_is_err_and}
use Rattle.phrasing.proofs.Call as K
use Rattle.phrasing.proofs.sparql_of.Goals as goal

pub returns-in_err-judge_in : goal.returns-in_err-judge_in
returns-in_err-judge_in c =
    let exit = err_from_is_err_and c.from_residual.result c.from_residual.ensures.1 in
    let p = c.requires.0 in
    rw (exit.1, exit.2) (K.unsaid _ _ p.0 p.1 _ c.judge_in.ensures _ _ c.in_err-judge_in.was)

pub write_measured-requires : goal.write_measured-requires
write_measured-requires c = let w = c.requires.1 in search rules

pub returns : goal.returns
returns c =
    let p = c.requires.0 in
    let w = c.write_measured in
    K.written_so _ _ p.0 p.1 _ c.judge_in.ensures _ _ c.in_ok-judge_in.was _ w.result (w.ensures _ (λ o r o' a. search rules))
