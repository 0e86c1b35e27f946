-- The verdict on the valves of a sheet. Assumes nothing.
--     after ns k                     the node after place k of a ring: the next one, or the first after the last
--     ring_pipes pipe ns             the pipes from each node of a ring to the node after it, in the ring's order
--     is_stuck r n                   some node below n cannot be placed in order
--     found, found_nodes, found_pipes    what the verdict names: a ring where some node cannot be placed, else the order
--     judge_refusal s values a b c   why there is no verdict with a places for nodes, b for pipes and c marks, or none
--     verdict_answer s values a b c  the answer: the first refusal that fits, or what is found
--     Enough s x a b c          there is a value for each valve, and a place in both lists and a mark for each node
--     Listed s values r b c d e      what an answer r leaves of the list of nodes, b before and c after, and of pipes, d and e:
--                                    what is found, or what they held where there is no verdict
--     clears r                       whether an answer leaves the marks cleared: all but the first two refusals
use Rattle.std.specs.Prelude.{◌≡◌, ℕ, ◌+◌, ◌≤◌, Bool, true, false, cond, ◌&&◌, List, [], map, length, is_ok, Some, None, Ok, Err, MatchBool, Option, Result, nat_le, nat_lt, slice_index}
use Rattle.graph.specs.Walks.{Edges}
use Rattle.bounded.specs.Lists.{Replaced}
use Rattle.bounded.specs.declared.Bounded.{Bounded}
use Rattle.sheet.specs.Refusals.{unless}
use Rattle.sheet.specs.Tables.{Table}
use Rattle.sheet.specs.View.{View}
use Rattle.sheet.specs.declared.pipe.Pipe.{Pipe}
use Rattle.std.specs.List.{range_with_len}
use Rattle.std.specs.Option.{option_map}
use Rattle.judge.specs.Placing.{order}
use Rattle.judge.specs.Values.{first_unknown, opens}
use Rattle.judge.specs.Walking.{ring}
use Rattle.judge.specs.declared.refusal.VerdictRefusal.{VerdictRefusal}
use Rattle.judge.specs.declared.refusal.VerdictRefusal.TheVariants.{TooFewPlaces, TooFewValues, UnknownValve}
use Rattle.judge.specs.declared.verdict.Verdict.{Verdict}
use Rattle.judge.specs.declared.verdict.Verdict.TheVariants.{Order, Ring}

abbrev pub after : List ℕ → ℕ → ℕ
after ns k = slice_index ns (cond (nat_lt (k + 1) (length ns)) (k + 1) 0)

abbrev pub ring_pipe : Table → List ℕ → ℕ → Pipe
ring_pipe pipe ns k = record { from = slice_index ns k; to = after ns k; valve = pipe (slice_index ns k) (after ns k) }

abbrev pub ring_pipes : Table → List ℕ → List Pipe
ring_pipes pipe ns = map (ring_pipe pipe ns) (range_with_len 0 (length ns))

abbrev pub is_stuck : Edges → ℕ → Bool
is_stuck r n = nat_lt (length (order r n)) n

abbrev pub found : Edges → ℕ → Verdict
found r n = cond (is_stuck r n) Ring Order

abbrev pub found_nodes : Edges → ℕ → List ℕ
found_nodes r n = cond (is_stuck r n) (ring r n) (order r n)

abbrev pub found_pipes : Table → Edges → ℕ → List Pipe
found_pipes pipe r n = cond (is_stuck r n) (ring_pipes pipe (ring r n)) []

abbrev pub judge_refusal : View → List ℕ → ℕ → ℕ → ℕ → Option VerdictRefusal
judge_refusal s values a b c =
    unless (nat_le s.valves (length values)) TooFewValues
    (unless (nat_le s.nodes a && (nat_le s.nodes b && nat_le s.nodes c)) TooFewPlaces
    (option_map UnknownValve (first_unknown s.nodes s.pipe values)))

abbrev pub answered : Option VerdictRefusal → Verdict → Result Verdict VerdictRefusal
answered None v = Ok v
answered (Some e) v = Err e

abbrev pub verdict_answer : View → List ℕ → ℕ → ℕ → ℕ → Result Verdict VerdictRefusal
verdict_answer s values a b c = answered (judge_refusal s values a b c) (found (opens s.pipe values) s.nodes)

abbrev pub clears : Result Verdict VerdictRefusal → Bool
clears (Ok v) = true
clears (Err TooFewValues) = false
clears (Err TooFewPlaces) = false
clears (Err (UnknownValve v)) = true

pub record Enough (s : View) (x : List ℕ) (a b c : ℕ) : Type 0 where
  pub values : s.valves ≤ length x
  pub nodes : s.nodes ≤ a
  pub pipes : s.nodes ≤ b
  pub marks : s.nodes ≤ c

pub record Listed
    (s : View) (values : List ℕ) (r : Result Verdict VerdictRefusal) (b c : Bounded ℕ) (d e : Bounded Pipe) : Type 0 where
  pub nodes : MatchBool (is_ok r) (Replaced (found_nodes (opens s.pipe values) s.nodes) b c) (c ≡ b)
  pub pipes : MatchBool (is_ok r) (Replaced (found_pipes s.pipe (opens s.pipe values) s.nodes) d e) (e ≡ d)
