-- `spelling::say/sort_of` meets its contract. Assumes nothing.
use Rattle.spelling.proofs.Going as G
use mathlib.Core.Path.{refl}
use Rattle.text.specs.Text.{same}
use Rattle.text.specs.Word.{bytes}
use Rattle.words.specs.bridge.Key.{key_of}
use Rattle.words.proofs.ByKey.{small, tells}
use Rattle.spelling.specs.bridge.Saying.{shallow}
use Rattle.spelling.proofs.say.sort_of.Goals as goal

pub returns-in-116 : goal.returns-in-116
unfolding key_of tells small shallow same
returns-in-116 c = λ f k. G.sort-flat f _ k (bytes "t") refl refl c.in-116.is

pub returns-in-1668246643 : goal.returns-in-1668246643
unfolding key_of tells small shallow same
returns-in-1668246643 c = λ f k. G.sort-flat f _ k (bytes "cols") refl refl c.in-1668246643.is

pub returns-in-7499639 : goal.returns-in-7499639
unfolding key_of tells small shallow same
returns-in-7499639 c = λ f k. G.sort-flat f _ k (bytes "row") refl refl c.in-7499639.is

pub returns-in-6386531 : goal.returns-in-6386531
unfolding key_of tells small shallow same
returns-in-6386531 c = λ f k. G.sort-flat f _ k (bytes "asc") refl refl c.in-6386531.is

pub returns-in-1684370275 : goal.returns-in-1684370275
unfolding key_of tells small shallow same
returns-in-1684370275 c = λ f k. G.sort-flat f _ k (bytes "desc") refl refl c.in-1684370275.is

pub returns-in-6383463 : goal.returns-in-6383463
unfolding key_of tells small shallow same
returns-in-6383463 c = λ f k. G.sort-flat f _ k (bytes "agg") refl refl c.in-6383463.is

pub returns-in-107096743963756 : goal.returns-in-107096743963756
unfolding key_of tells small shallow same
returns-in-107096743963756 c = λ f k. G.sort-flat f _ k (bytes "aggall") refl refl c.in-107096743963756.is

pub returns-in-1952805485 : goal.returns-in-1952805485
unfolding key_of tells small shallow same
returns-in-1952805485 c = λ f k. G.sort-plain f _ k (bytes "term") refl refl refl c.in-1952805485.is

pub returns-in-422776761956 : goal.returns-in-422776761956
unfolding key_of tells small shallow same
returns-in-422776761956 c = λ f k. G.sort-plain f _ k (bytes "bound") refl refl refl c.in-422776761956.is

pub returns-in-111567839655027 : goal.returns-in-111567839655027
unfolding key_of tells small shallow same
returns-in-111567839655027 c = λ f k. G.sort-plain f _ k (bytes "exists") refl refl refl c.in-111567839655027.is

pub returns-in-28530 : goal.returns-in-28530
unfolding key_of tells small shallow same
returns-in-28530 c = λ f k. G.sort-plain f _ k (bytes "or") refl refl refl c.in-28530.is

pub returns-in-6385252 : goal.returns-in-6385252
unfolding key_of tells small shallow same
returns-in-6385252 c = λ f k. G.sort-plain f _ k (bytes "and") refl refl refl c.in-6385252.is

pub returns-in-25969 : goal.returns-in-25969
unfolding key_of tells small shallow same
returns-in-25969 c = λ f k. G.sort-plain f _ k (bytes "eq") refl refl refl c.in-25969.is

pub returns-in-1935764837 : goal.returns-in-1935764837
unfolding key_of tells small shallow same
returns-in-1935764837 c = λ f k. G.sort-plain f _ k (bytes "same") refl refl refl c.in-1935764837.is

pub returns-in-7237492 : goal.returns-in-7237492
unfolding key_of tells small shallow same
returns-in-7237492 c = λ f k. G.sort-plain f _ k (bytes "not") refl refl refl c.in-7237492.is

pub returns-in_default : goal.returns-in_default
unfolding key_of tells small shallow same
returns-in_default c =
    λ f k. let n = c.in_default.in_default-own.rest in G.sort-other f _ k n.0.0.0.0.0.0.0.0.0.0.0.0.0.0.1 n.0.0.0.0.0.0.0.0.0.0.0.0.0.1 n.0.0.0.0.0.0.0.0.0.0.0.0.1 n.0.0.0.0.0.0.0.0.0.0.0.1 n.0.0.0.0.0.0.0.0.0.0.1 n.0.0.0.0.0.0.0.0.0.1 n.0.0.0.0.0.0.0.0.1
