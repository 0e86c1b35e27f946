-- What the clauses of start and eliminations mean for every setting of the variables. Assumes nothing.
--     on σ t              the graph of those entries of t whose variable is true: the open pipes, the true arcs
--     Fresh s             what every drawn sheet satisfies: pipes join different nodes below n, there is no arc yet, and
--                         the next free variable is the first above the valves
--     Named s ends u w    the variable of the arc from u to w is one that was given, and it was given to that pair
--     Follows s ends σ ρ  the value of each variable that was given is "the rank of its tail is below that of its head"
--     Encodes s cs        the clauses cs speak of the arcs and pipes of the sheet s: each variable that was given belongs
--                         to a pair of nodes, and each arc stands on a variable of its pair; for every rank that rises
--                         along the open pipes, values that follow it meet all the clauses; and whoever meets the
--                         clauses and has a ring of open pipes has a ring of true arcs
--     without_nodes s vs  the sheet after the eliminations of vs, one after the other
--     clauses_of s vs     the clauses that these eliminations write
--     EncodingLaw         after start, and after any eliminations, the clauses written so far encode the sheet
use Rattle.std.specs.Prelude.{◌≡◌, ℕ, ◌+◌, ◌<◌, ◌&&◌, List, [], ◌∷◌, ◌++◌, nat_lt}
use Rattle.cnf.specs.Clauses.{Clause}
use Rattle.cnf.specs.Satisfaction.{Sat, Values}
use Rattle.graph.specs.Ranks.{Rises}
use Rattle.graph.specs.Walks.{Edge, Edges, Ring}
use Rattle.sheet.specs.Eliminating.{eliminated, elimination_clauses}
use Rattle.sheet.specs.Starting.{start_clauses, started}
use Rattle.sheet.specs.Tables.{Joins, Table}
use Rattle.sheet.specs.View.{View}

abbrev pub on : Values → Table → Edges
on σ t u w = nat_lt 0 (t u w) && σ (t u w)

pub record Fresh (s : View) : Type 0 where
  pub pipes : Joins s.nodes s.pipe
  pub no_arcs : (u w : ℕ) → s.arc u w ≡ 0
  pub next : s.next ≡ s.valves + 1

pub record Named (s : View) (ends : ℕ → ℕ × ℕ) (u w : ℕ) : Type 0 where
  pub above : s.valves < s.arc u w
  pub below : s.arc u w < s.next
  pub tail : (ends (s.arc u w)).0 ≡ u
  pub head : (ends (s.arc u w)).1 ≡ w

abbrev pub Follows : View → (ℕ → ℕ × ℕ) → Values → (ℕ → ℕ) → Type 0
Follows s ends σ ρ =
    (x : ℕ) → s.valves < x → x < s.next → σ x ≡ nat_lt (ρ (ends x).0) (ρ (ends x).1)

pub record Encodes (s : View) (cs : List Clause) : Type 0 where
  pub ends : ℕ → ℕ × ℕ
  pub some : s.valves < s.next
  pub joins : Joins s.nodes s.arc
  pub named : (u w : ℕ) → 0 < s.arc u w → Named s ends u w
  pub fits : (σ : Values) (ρ : ℕ → ℕ) → Rises ρ (Edge (on σ s.pipe)) → Follows s ends σ ρ → Sat σ cs
  pub rings : (σ : Values) → Sat σ cs → Ring (Edge (on σ s.pipe)) → Ring (Edge (on σ s.arc))

abbrev pub without_nodes : View → List ℕ → View
without_nodes s [] = s
without_nodes s (v ∷ vs) = without_nodes (eliminated s v) vs

abbrev pub clauses_of : View → List ℕ → List Clause
clauses_of s [] = []
clauses_of s (v ∷ vs) = elimination_clauses s v ++ clauses_of (eliminated s v) vs

pub record EncodingLaw : Type 0 where
  pub start : (s : View) → Fresh s → Encodes (started s) (start_clauses s)
  pub eliminate : (s : View) (cs : List Clause) (v : ℕ) → Encodes s cs → Encodes (eliminated s v) (cs ++ elimination_clauses s v)
  pub all
      : (s : View) (vs : List ℕ) → Fresh s
      → Encodes (without_nodes (started s) vs) (start_clauses s ++ clauses_of (started s) vs)
