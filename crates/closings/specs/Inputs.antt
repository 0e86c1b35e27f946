-- What a closing is given: r nodes by position, the arcs between them, and the first free variable. Assumes nothing.
--     Input            nodes, arcs in ascending order of their pairs, and the first free variable
--     input x          the input that lies in memory
--     arc_at x a       arc a
--     arc_count x      how many arcs there are
--     Lawful x         arcs join different nodes, ascend by their pairs, and stand on different variables below the first
--                      free one, which are positive
--     Ready x          a lawful input of at most 64 nodes whose variables leave room in 31 bits
--     Chosen x σ i j   an arc whose variable is true leads from i to j
use Rattle.std.specs.Prelude.{◌≡◌, ℕ, ◌<◌, ◌≤◌, true, List, length, take}
use Rattle.cnf.specs.Satisfaction.{Values}
use Rattle.closings.specs.Arcs.{Apart, Ascending, Ends, Variables, arc_in}
use Rattle.closings.specs.declared.arc.Arc.{Arc}
use Rattle.closings.specs.declared.remaining.Remaining.{Remaining}

pub record Input : Type 0 where
  pub nodes : ℕ
  pub arcs : List Arc
  pub first : ℕ

abbrev pub input : Remaining → Input
input x = record { nodes = x.nodes; arcs = take x.count x.arcs; first = x.first }

abbrev pub arc_at : Input → ℕ → Arc
arc_at x a = arc_in x.arcs a

abbrev pub arc_count : Input → ℕ
arc_count x = length x.arcs

pub record Lawful (x : Input) : Type 0 where
  pub positive : 1 ≤ x.first
  pub ends : Ends x.nodes x.arcs (arc_count x)
  pub variables : Variables x.first x.arcs (arc_count x)
  pub apart : Apart x.arcs (arc_count x)
  pub ascends : Ascending x.nodes x.arcs (arc_count x)

pub record Ready (x : Input) : Type 0 where
  pub lawful : Lawful x
  pub few : x.nodes ≤ 64
  pub low : x.first ≤ 1073741823

pub record Chosen (x : Input) (σ : Values) (i j : ℕ) : Type 0 where
  pub arc : ℕ
  pub is_arc : arc < arc_count x
  pub leaves : (arc_at x arc).from ≡ i
  pub enters : (arc_at x arc).to ≡ j
  pub chosen : σ (arc_at x arc).variable ≡ true
