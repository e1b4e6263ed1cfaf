-- `words::extra_at` meets its contract. Assumes nothing.
use Rattle.words.proofs.Domains as D
use Rattle.words.proofs.extra_at.Goals as goal

pub returns-in-0 : goal.returns-in-0
returns-in-0 c = D.at-extra _ 0 c.in-0.is

pub returns-in-1 : goal.returns-in-1
returns-in-1 c = D.at-extra _ 1 c.in-1.is

pub returns-in-2 : goal.returns-in-2
returns-in-2 c = D.at-extra _ 2 c.in-2.is

pub returns-in-3 : goal.returns-in-3
returns-in-3 c = D.at-extra _ 3 c.in-3.is

pub returns-in-4 : goal.returns-in-4
returns-in-4 c = D.at-extra _ 4 c.in-4.is

pub returns-in-5 : goal.returns-in-5
returns-in-5 c = D.at-extra _ 5 c.in-5.is

pub returns-in-6 : goal.returns-in-6
returns-in-6 c = D.at-extra _ 6 c.in-6.is

pub returns-in-7 : goal.returns-in-7
returns-in-7 c = D.at-extra _ 7 c.in-7.is

pub returns-in-8 : goal.returns-in-8
returns-in-8 c = D.at-extra _ 8 c.in-8.is

pub returns-in-9 : goal.returns-in-9
returns-in-9 c = D.at-extra _ 9 c.in-9.is

pub returns-in-10 : goal.returns-in-10
returns-in-10 c = D.at-extra _ 10 c.in-10.is

pub returns-in-11 : goal.returns-in-11
returns-in-11 c = D.at-extra _ 11 c.in-11.is

pub returns-in-12 : goal.returns-in-12
returns-in-12 c = D.at-extra _ 12 c.in-12.is

pub returns-in-13 : goal.returns-in-13
returns-in-13 c = D.at-extra _ 13 c.in-13.is

pub returns-in-14 : goal.returns-in-14
returns-in-14 c = D.at-extra _ 14 c.in-14.is

pub returns-in_default : goal.returns-in_default
returns-in_default c = D.at-extra _ 15 (D.last-domain _ _ c.requires c.in_default.in_default-own.rest)
