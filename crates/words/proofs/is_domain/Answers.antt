-- `words::is_domain` meets its contract. Assumes nothing.
use Rattle.words.proofs.Domains as D
use Rattle.words.proofs.is_domain.Goals as goal

pub returns-in-0 : goal.returns-in-0
returns-in-0 c = D.at-domain _ _ 0 _ c.in-0.is c.equal.ensures

pub returns-in-1 : goal.returns-in-1
returns-in-1 c = D.at-domain _ _ 1 _ c.in-1.is c.equal-in-1.ensures

pub returns-in-2 : goal.returns-in-2
returns-in-2 c = D.at-domain _ _ 2 _ c.in-2.is c.equal-in-2.ensures

pub returns-in-3 : goal.returns-in-3
returns-in-3 c = D.at-domain _ _ 3 _ c.in-3.is c.equal-in-3.ensures

pub returns-in-4 : goal.returns-in-4
returns-in-4 c = D.at-domain _ _ 4 _ c.in-4.is c.equal-in-4.ensures

pub returns-in-5 : goal.returns-in-5
returns-in-5 c = D.at-domain _ _ 5 _ c.in-5.is c.equal-in-5.ensures

pub returns-in-6 : goal.returns-in-6
returns-in-6 c = D.at-domain _ _ 6 _ c.in-6.is c.equal-in-6.ensures

pub returns-in-7 : goal.returns-in-7
returns-in-7 c = D.at-domain _ _ 7 _ c.in-7.is c.equal-in-7.ensures

pub returns-in-8 : goal.returns-in-8
returns-in-8 c = D.at-domain _ _ 8 _ c.in-8.is c.equal-in-8.ensures

pub returns-in-9 : goal.returns-in-9
returns-in-9 c = D.at-domain _ _ 9 _ c.in-9.is c.equal-in-9.ensures

pub returns-in-10 : goal.returns-in-10
returns-in-10 c = D.at-domain _ _ 10 _ c.in-10.is c.equal-in-10.ensures

pub returns-in-11 : goal.returns-in-11
returns-in-11 c = D.at-domain _ _ 11 _ c.in-11.is c.equal-in-11.ensures

pub returns-in-12 : goal.returns-in-12
returns-in-12 c = D.at-domain _ _ 12 _ c.in-12.is c.equal-in-12.ensures

pub returns-in-13 : goal.returns-in-13
returns-in-13 c = D.at-domain _ _ 13 _ c.in-13.is c.equal-in-13.ensures

pub returns-in-14 : goal.returns-in-14
returns-in-14 c = D.at-domain _ _ 14 _ c.in-14.is c.equal-in-14.ensures

pub returns-in_default : goal.returns-in_default
returns-in_default c =
    D.at-domain _ _ 15 _ (D.last-domain _ _ c.requires c.in_default.in_default-own.rest) c.equal-in_default.ensures
