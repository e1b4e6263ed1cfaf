-- docs/SPECIFICATION.md, "Worked cases": its ten, and some more, as one table of calls and their outcomes. Assumes nothing.
use Rattle.std.specs.Prelude.{List, [], ◌∷◌, ℕ}
use Prim.Native.String.{String}
use Rattle.text.specs.Word.{bytes}
use Rattle.answers.specs.Outcome.{Outcome, refused, written}
use Rattle.merging.specs.Merge.{merge_patterns_outcome, merge_queries_outcome}
use Rattle.merging.specs.Push.{push_constants_outcome}
use Rattle.merging.specs.Negate.{negate_outcome}
use Rattle.merging.specs.Without.{without_queries_outcome}

-- a call with its texts
pub data Call : Type 0 where
  merge_patterns merge_queries : String → String → String → String → String → Call
  push_constants : String → String → Call
  negate : String → Call
  without : String → String → String → Call

unfoldable pub outcome_of : Call → Outcome
unfolding merge_patterns_outcome merge_queries_outcome push_constants_outcome negate_outcome without_queries_outcome
outcome_of (merge_patterns a b c d e) = merge_patterns_outcome (bytes a) (bytes b) (bytes c) (bytes d) (bytes e)
outcome_of (merge_queries a b c d e) = merge_queries_outcome (bytes a) (bytes b) (bytes c) (bytes d) (bytes e)
outcome_of (push_constants a b) = push_constants_outcome (bytes a) (bytes b)
outcome_of (negate a) = negate_outcome (bytes a)
outcome_of (without a b c) = without_queries_outcome (bytes a) (bytes b) (bytes c)

pub record Case : Type 0 where
  pub call : Call
  pub gives : Outcome

abbrev pub gives : Call → String → Case
gives c s = record { call = c; gives = written (bytes s) }

abbrev pub refuses : Call → ℕ → Case
refuses c n = record { call = c; gives = refused n }

abbrev pub cases : List Case
cases =
    -- 1: relays and bays
    gives (merge_patterns "project\t?event\t?relay\nbgp\t1\nt\t?event\t<by>\t?relay\n" "project\t?r\t?bay\nbgp\t1\nt\t?r\t<in>\t?bay\n" "1\t0\n" "" "")
    "project\t?l0\t?j0\t?r1\njoin\nbgp\t1\nt\t?l0\t<by>\t?j0\nbgp\t1\nt\t?j0\t<in>\t?r1\n"
    -- 2: Label partners are linked too
    ∷ gives (merge_patterns "project\t?s\t?sLabel\nbgp\t0\n" "project\t?t\t?tLabel\nbgp\t0\n" "0\t0\n" "" "") "project\t?j0\t?j0Label\t?j0Label\njoin\nbgp\t0\nbgp\t0\n"
    -- 3: a left position twice, and a right one
    ∷ refuses (merge_patterns "project\t?a\nbgp\t0\n" "project\t?b\t?c\nbgp\t0\n" "0\t0\n0\t1\n" "" "") 10
    ∷ refuses (merge_patterns "project\t?a\t?b\nbgp\t0\n" "project\t?c\nbgp\t0\n" "0\t0\n1\t0\n" "" "") 10
    -- after 3, also where 3 is the other side's
    ∷ refuses (merge_patterns "project\t?a\nbgp\t0\n" "project\t?b\t?c\nbgp\t0\n" "0\t0\n0\t2\n" "" "") 3
    ∷ refuses (merge_patterns "project\t?a\nbgp\t0\n" "project\t?b\t?c\nbgp\t0\n" "0\t0\n0\t1\n" "" "2\t<k>\n") 3
    -- the same column at two positions is no position twice
    ∷ gives (merge_patterns "project\t?a\t?a\nbgp\t0\n" "project\t?b\t?c\nbgp\t0\n" "0\t0\n1\t1\n" "" "") "project\t?j0\t?j0\t?j1\njoin\nbgp\t0\nbgp\t0\n"
    -- 4: a position outside, in the join list and among the constants
    ∷ refuses (merge_patterns "project\t?a\t?b\nbgp\t0\n" "project\t?c\nbgp\t0\n" "2\t0\n" "" "") 3
    ∷ refuses (merge_patterns "project\t?a\nbgp\t0\n" "project\t?b\t?c\nbgp\t0\n" "" "" "2\t<k>\n") 3
    -- 5: a root that isn't project, before 3
    ∷ refuses (merge_patterns "distinct\nproject\t?a\nbgp\t0\n" "project\t?b\nbgp\t0\n" "7\t7\n" "" "") 4
    ∷ refuses (merge_patterns "project\t?a\nbgp\t0\n" "bgp\t0\n" "7\t7\n" "" "") 4
    -- 6: kinds that differ, before 4
    ∷ refuses (merge_queries "query\tselect\t-\t-\ndistinct\nproject\t?a\nbgp\t0\n" "query\task\t-\t-\nproject\t?b\nbgp\t0\n" "" "" "") 5
    -- 7: a push on two columns
    ∷ gives (push_constants "query\tselect\t-\t-\nproject\t?a\t?b\nbgp\t0\n" "0\t<k>\n") "query\tselect\t-\t-\nproject\t?v1\njoin\nbgp\t0\nvalues\t1\t1\ncols\t?v0\nrow\t<k>\n"
    -- 8: the v-mapping of `?xLabelLabel`, then `?x`
    ∷ gives (push_constants "query\tselect\t-\t-\nproject\t?xLabelLabel\t?x\nbgp\t0\n" "") "query\tselect\t-\t-\nproject\t?v0Label\t?v1\nbgp\t0\n"
    -- 9: `?Label` and no other
    ∷ gives (push_constants "query\task\t-\t-\nproject\t?Label\nbgp\t0\n" "") "query\task\t-\t-\nproject\t?v0Label\nbgp\t0\n"
    -- 10: no bytes for the left tree, for the right one, for both
    ∷ gives (merge_patterns "" "project\t?b\nbgp\t0\n" "" "" "") "project\t?r0\njoin\nbgp\t0\nbgp\t0\n"
    ∷ gives (merge_patterns "project\t?b\nbgp\t0\n" "" "" "" "") "project\t?l0\njoin\nbgp\t0\nbgp\t0\n"
    ∷ gives (merge_patterns "" "" "" "" "") "project\njoin\nbgp\t0\nbgp\t0\n"
    -- a position of an empty file is outside
    ∷ refuses (merge_patterns "" "project\t?b\nbgp\t0\n" "0\t0\n" "" "") 3
    -- a head line alone
    ∷ gives (merge_queries "query\tselect\t-\t-\n" "query\tselect\t-\t-\nproject\t?b\nbgp\t0\n" "" "" "") "query\tselect\t-\t-\nproject\t?r0\njoin\nbgp\t0\nbgp\t0\n"
    ∷ gives (push_constants "query\tselect\t-\t-\n" "") "query\tselect\t-\t-\nproject\nbgp\t0\n"
    ∷ gives (push_constants "query\tdescribe\t-\t-\n" "7\t<k>\n") "query\tdescribe\t-\t-\nproject\nbgp\t0\n"
    ∷ gives (negate "query\task\t-\t-\n") "query\task\t-\t-\nproject\nfilter\nbgp\t0\nnot\nexists\nbgp\t0\n"
    -- no head line, one that isn't ended, one of another form
    ∷ refuses (negate "") 1
    ∷ refuses (negate "query\task\t-\t-") 1
    ∷ refuses (negate "query\task\t-\n") 1
    ∷ refuses (negate "project\nbgp\t0\n") 1
    -- beyond the ten: constants by rising position, and a head line
    ∷ gives (merge_queries "query\task\t-\t<b>\nproject\t?a\t?b\t?c\nbgp\t0\n" "query\task\t-\t<b>\nproject\t?d\nbgp\t0\n" "1\t0\n" "2\t\"x\"\n0\t<k>\n" "")
    "query\task\t-\t<b>\nproject\t?j0\njoin\njoin\nbgp\t0\nvalues\t2\t1\ncols\t?l0\t?l2\nrow\t<k>\t\"x\"\nbgp\t0\n"
    -- lists by falling position on both sides: a Values each, the left side's first
    ∷ gives (merge_patterns "project\t?a\t?b\nbgp\t0\n" "project\t?c\t?d\nbgp\t0\n" "" "1\t<l>\n0\t<k>\n" "1\t<n>\n0\t<m>\n")
    "project\njoin\njoin\nbgp\t0\nvalues\t2\t1\ncols\t?l0\t?l1\nrow\t<k>\t<l>\njoin\nbgp\t0\nvalues\t2\t1\ncols\t?r0\t?r1\nrow\t<m>\t<n>\n"
    -- the same for a push
    ∷ gives (push_constants "query\tselect\t-\t-\nproject\t?a\t?b\t?c\nbgp\t0\n" "2\t<m>\n0\t<k>\n") "query\tselect\t-\t-\nproject\t?v1\njoin\nbgp\t0\nvalues\t2\t1\ncols\t?v0\t?v2\nrow\t<k>\t<m>\n"
    -- push copies what it can't take, and says 3 only where it can
    ∷ gives (push_constants "query\tconstruct\t-\t-\nproject\t?a\nbgp\t0\n" "7\t<k>\n") "query\tconstruct\t-\t-\nproject\t?a\nbgp\t0\n"
    ∷ gives (push_constants "query\tselect\t-\t-\ndistinct\nproject\t?a\nbgp\t0\n" "7\t<k>\n") "query\tselect\t-\t-\ndistinct\nproject\t?a\nbgp\t0\n"
    ∷ refuses (push_constants "query\task\t-\t-\nproject\t?a\nbgp\t0\n" "1\t<k>\n") 3
    -- negate goes down through distinct, and copies a describe
    ∷ gives (negate "query\tselect\t-\t-\ndistinct\nproject\t?a\nbgp\t0\n") "query\tselect\t-\t-\ndistinct\nproject\t?a\nfilter\nbgp\t0\nnot\nexists\nbgp\t0\n"
    ∷ gives (negate "query\tdescribe\t-\t-\nproject\t?a\nbgp\t0\n") "query\tdescribe\t-\t-\nproject\t?a\nbgp\t0\n"
    -- without: the left columns, join columns among them; hidden names of both sides stay apart
    ∷ gives (without "query\tselect\t-\t-\nproject\t?event\t?relay\nbgp\t1\nt\t?event\t<by>\t?relay\n" "query\tselect\t-\t-\nproject\t?r\nbgp\t1\nt\t?event\t<on>\t?r\n" "1\t0\n")
    "query\tselect\t-\t-\nproject\t?l0\t?j0\nminus\nbgp\t1\nt\t?l0\t<by>\t?j0\nbgp\t1\nt\t?r2\t<on>\t?j0\n"
    -- 5, then 4, then 11 for no pair, then 3, then 10; an empty file has no column to join
    ∷ refuses (without "query\task\t-\t-\nbgp\t0\n" "query\tselect\t-\t-\nproject\t?b\nbgp\t0\n" "") 5
    ∷ refuses (without "query\task\t-\t-\nproject\t?a\nbgp\t0\n" "query\task\t-\t-\nbgp\t0\n" "") 4
    ∷ refuses (without "query\task\t-\t-\nproject\t?a\nbgp\t0\n" "query\task\t-\t-\nproject\t?b\nbgp\t0\n" "") 11
    ∷ refuses (without "query\task\t-\t-\nproject\t?a\nbgp\t0\n" "query\task\t-\t-\nproject\t?b\nbgp\t0\n" "0\t1\n") 3
    ∷ refuses (without "query\task\t-\t-\nproject\t?a\nbgp\t0\n" "query\task\t-\t-\nproject\t?b\nbgp\t0\n" "0\t0\n0\t1\n") 3
    ∷ refuses (without "query\task\t-\t-\nproject\t?a\nbgp\t0\n" "query\task\t-\t-\nproject\t?b\t?c\nbgp\t0\n" "0\t0\n0\t1\n") 10
    ∷ refuses (without "query\task\t-\t-\n" "query\task\t-\t-\nproject\t?b\nbgp\t0\n" "0\t0\n") 3
    ∷ []
