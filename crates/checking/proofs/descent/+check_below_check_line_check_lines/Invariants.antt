-- What falls, and what the loops keep. Assumes nothing.
use Prim.Native.Nat.{◌+◌, ◌*◌, ◌-◌, ◌≤◌}
use Rattle.algebra.specs.bridge.Machine.{want}
use Rattle.words.specs.bridge.Code.{sort_at}
use mathlib.Core.Path.{◌≡◌}
use mathlib.Core.Bool.{true}
use lib.ListN.{length}
use lib.Dec.{eqb}
use Rattle.std.specs.Prelude.{Ok}
use Rattle.scoping.specs.bridge.Walk.{child, tree}
use Rattle.scoping.specs.bridge.Spots.{spot_line}
use Rattle.names.specs.bridge.Names.{starts_of, sizes_of}
use Rattle.checking.specs.bridge.Run.{Ready, Ahead}
use Rattle.lines.specs.bridge.Spotted.{mark_at}
use Rattle.checking.specs.bridge.Walks.{book_at}
use Rattle.checking.proofs.WalksLaw as W
use Rattle.checking.proofs.DescentLaw as D
use Rattle.checking.proofs.GroupsLaw as G
use Rattle.checking.proofs.OneLaw as O
use Prim.Native.Nat.{◌<◌}
use Rattle.checking.proofs.descent.+check_below_check_line_check_lines.Given as goal

abbrev pub decreases-check_below : goal.decreases-check_below
decreases-check_below l = 8 * (16385 - l.t.place.cursor.at) + 5

abbrev pub decreases-check_line : goal.decreases-check_line
decreases-check_line l = 8 * (16385 - l.p.cursor.at) + 0

abbrev pub decreases-check_lines : goal.decreases-check_lines
decreases-check_lines l = 8 * (16385 - l.p.cursor.at) + 3

abbrev pub invariant-check_below-loop-code : goal.invariant-check_below-loop-code
invariant-check_below-loop-code l = Ready l.s l.q × (l.initial.q.cursor.at ≤ l.q.cursor.at) × (length l.spots ≡ length l.initial.spots) × (length l.nodes ≡ length l.initial.nodes)
    × G.Left l.s l.level l.t.first l.t.second l.t.row.flag l.mark l.t.row.below (starts_of l.initial.table) (sizes_of l.initial.table) l.initial.hints l.initial.spots l.words l.initial.nodes l.initial.q (starts_of l.table) (sizes_of l.table) l.hints l.spots l.nodes l.q l.code

abbrev pub decreases-check_below-loop-code : goal.decreases-check_below-loop-code
decreases-check_below-loop-code l = l.code

abbrev pub invariant-check_lines-loop-q : goal.invariant-check_lines-loop-q
invariant-check_lines-loop-q l = Ready l.s l.q × (l.initial.q.cursor.at ≤ l.q.cursor.at)
    × (l.whole ≡ true → D.Lines l.s (starts_of l.initial.table) (sizes_of l.initial.table) l.initial.hints l.initial.q (starts_of l.table) (sizes_of l.table) l.hints (want (sort_at l.w.sort) l.w.level l.w.width) l.initial.q.cursor.awaited l.q.cursor.awaited (Ok l.q))
    × (length l.spots ≡ length l.initial.spots) × (length l.nodes ≡ length l.initial.nodes)
    × (l.whole ≡ true → l.w.sort ≤ 6 → W.Left l.s (book_at (starts_of l.initial.table) (sizes_of l.initial.table) l.initial.spots l.words l.initial.nodes l.initial.q) l.initial.q (book_at (starts_of l.table) (sizes_of l.table) l.spots l.words l.nodes l.q) l.q (child spot_line (tree spot_line l.w.level) (eqb l.flag 1) (mark_at l.w.mark) (sort_at l.w.sort)) l.initial.q.cursor.awaited l.q.cursor.awaited)
    × (l.q.cursor.awaited ≤ l.initial.q.cursor.awaited) × (l.q.cursor.awaited < l.initial.q.cursor.awaited → Ahead l.s l.initial.q l.w.sort l.w.level l.q)
    × (l.initial.q.cursor.awaited ≡ 1 → O.Sole l.s (starts_of l.initial.table) (sizes_of l.initial.table) l.initial.hints (book_at (starts_of l.initial.table) (sizes_of l.initial.table) l.initial.spots l.words l.initial.nodes l.initial.q) l.initial.q l.w.sort l.w.level l.w.width (eqb l.flag 1) (mark_at l.w.mark) l.whole (starts_of l.table) (sizes_of l.table) l.hints (book_at (starts_of l.table) (sizes_of l.table) l.spots l.words l.nodes l.q) l.q l.q.cursor.awaited)

abbrev pub decreases-check_lines-loop-q : goal.decreases-check_lines-loop-q
decreases-check_lines-loop-q l = l.q.cursor.awaited
