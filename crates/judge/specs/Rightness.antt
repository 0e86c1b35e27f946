-- What makes a verdict right, in the words of the sheet. Assumes nothing.
--     Along pipe values ns ps         ps are open pipes that lead from each node of ns to the next, and from the last to the first
--     Right n pipe values v ns ps     a ring is named exactly when the open pipes hold one, by its nodes and its pipes; else
--                                     the order is one, with no pipes; and every drawn valve has a known position
--     Unknown n pipe values v         v is the valve of a drawn pipe and has no known position, and every pipe at a pair
--                                     before that one has a valve with a known position
--     RightAnswer s values r ns ps    an answer of the judge is right
--     IndependenceLaw                 the answer, and what it names, depend on the nodes, the pipes drawn and the values of the
--                                     valves alone: not on the sheet's number, phase, arcs or eliminated nodes, nor on bytes
--                                     past the valves, nor on how much more than enough was lent
use Rattle.std.specs.Prelude.{◌≡◌, ℕ, ◌+◌, ◌-◌, ◌<◌, ◌≤◌, true, false, ◌⊎◌, ◌↔◌, List, [], length, Ok, Err, Result, slice_index, slice_index_or}
use Rattle.graph.specs.Orders.{IsOrder, IsRing}
use Rattle.graph.specs.Walks as graph
use Rattle.sheet.specs.Tables.{Table}
use Rattle.sheet.specs.View.{View, view}
use Rattle.sheet.specs.declared.pipe.Pipe.{Pipe}
use Rattle.sheet.specs.declared.place.Sheet.{Sheet}
use Rattle.judge.specs.Values.{is_known, is_open, opens, value}
use Rattle.judge.specs.Verdict.{Enough, found_nodes, found_pipes, verdict_answer}
use Rattle.judge.specs.declared.refusal.VerdictRefusal.{VerdictRefusal}
use Rattle.judge.specs.declared.refusal.VerdictRefusal.TheVariants.{TooFewPlaces, TooFewValues, UnknownValve}
use Rattle.judge.specs.declared.verdict.Verdict.{Verdict}
use Rattle.judge.specs.declared.verdict.Verdict.TheVariants.{Order, Ring}

abbrev pub no_pipe : Pipe
no_pipe = record { from = 0; to = 0; valve = 0 }

pub record Along (pipe : Table) (values : List ℕ) (ns : List ℕ) (ps : List Pipe) : Type 0 where
  pub size : length ps ≡ length ns
  pub starts : (k : ℕ) → k < length ns → (slice_index_or ps k no_pipe).from ≡ slice_index ns k
  pub leads : (k : ℕ) → k + 1 < length ns → (slice_index_or ps k no_pipe).to ≡ slice_index ns (k + 1)
  pub back : 0 < length ns → (slice_index_or ps (length ns - 1) no_pipe).to ≡ slice_index ns 0
  pub drawn : (k : ℕ) → k < length ns
      → (slice_index_or ps k no_pipe).valve ≡ pipe (slice_index_or ps k no_pipe).from (slice_index_or ps k no_pipe).to
  pub flows : (k : ℕ) → k < length ns
      → (0 < (slice_index_or ps k no_pipe).valve) × (is_open (value values (slice_index_or ps k no_pipe).valve) ≡ true)

pub record Right (n : ℕ) (pipe : Table) (values : List ℕ) (v : Verdict) (ns : List ℕ) (ps : List Pipe) : Type 0 where
  pub exact : (v ≡ Ring) ↔ graph.Ring (graph.Edge (opens pipe values))
  pub ring : v ≡ Ring → IsRing (opens pipe values) ns × Along pipe values ns ps
  pub order : v ≡ Order → IsOrder n (opens pipe values) ns × (ps ≡ [])
  pub known : (u w : ℕ) → 0 < pipe u w → is_known (value values (pipe u w)) ≡ true

pub record Unknown (n : ℕ) (pipe : Table) (values : List ℕ) (v : ℕ) : Type 0 where
  pub from : ℕ
  pub to : ℕ
  pub from_below : from < n
  pub to_below : to < n
  pub drawn : (pipe from to ≡ v) × (0 < v)
  pub unknown : is_known (value values v) ≡ false
  pub first : (u w : ℕ) → (u < from) ⊎ ((u ≡ from) × (w < to)) → 0 < pipe u w
      → is_known (value values (pipe u w)) ≡ true

abbrev pub RightAnswer : View → List ℕ → Result Verdict VerdictRefusal → List ℕ → List Pipe → Type 0
RightAnswer s values (Ok v) ns ps = Right s.nodes s.pipe values v ns ps
RightAnswer s values (Err TooFewValues) ns ps = length values < s.valves
RightAnswer s values (Err TooFewPlaces) ns ps = s.valves ≤ length values
RightAnswer s values (Err (UnknownValve v)) ns ps = Unknown s.nodes s.pipe values v

-- two sheets with the same nodes, valves and pipes, and values that agree on the valves
pub record Alike (s t : Sheet) (x y : List ℕ) : Type 0 where
  pub nodes : s.nodes ≡ t.nodes
  pub valves : s.valves ≡ t.valves
  pub pipes : (u w : ℕ) → (view s).pipe u w ≡ (view t).pipe u w
  pub values : (k : ℕ) → k < s.valves → slice_index x k ≡ slice_index y k

pub record SameFindings (s t : Sheet) (x y : List ℕ) (a b c d e f : ℕ) : Type 0 where
  pub answers : verdict_answer (view s) x a b c ≡ verdict_answer (view t) y d e f
  pub nodes : found_nodes (opens (view s).pipe x) s.nodes ≡ found_nodes (opens (view t).pipe y) t.nodes
  pub pipes : found_pipes (view s).pipe (opens (view s).pipe x) s.nodes
      ≡ found_pipes (view t).pipe (opens (view t).pipe y) t.nodes

abbrev pub IndependenceLaw : Type 0
IndependenceLaw =
    (s t : Sheet) (x y : List ℕ) (a b c d e f : ℕ) → Alike s t x y → Enough (view s) x a b c → Enough (view t) y d e f
    → SameFindings s t x y a b c d e f
