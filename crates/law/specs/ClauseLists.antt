-- Which clauses start and elimination write, in which order, and on which variables. Assumes nothing.
--     for_each xs f         what f gives for each of xs, one behind the other
--     those n p             the numbers below n that pass p, ascending
--     StartLists s         start writes −p e for each drawn pair, ascending; e is V + 1 in the first clause, one more in
--                           each that follows, and the variable of the pair's arc; the next free variable follows the last
--     EliminationLists s v   elimination of v writes, for each u with an arc into v, ascending, and each w with an arc from
--                           v, ascending: −(u,v) −(v,u) where u is w, else −(u,v) −(v,w) (u,w)
--     GivenInTurn k l     arcs keep their variables from k to l; the new ones are on the variables from the next free one
--                           of k up to that of l, each used once, and rise with the pairs
--     AboveValves v cs     every literal stands on a variable above v
--     EliminationRight s v   the elimination of v writes this list, gives variables in turn, and writes nothing on a valve
--     ClauseLaw            all this holds of every sheet
use Rattle.std.specs.Prelude.{◌≡◌, ℕ, ◌+◌, ◌<◌, ◌≤◌, Bool, cond, ◌⊎◌, List, [], ◌∷◌, length, pos, filter, ◌==◌, nat_lt, slice_index_or}
use Rattle.cnf.specs.Clauses.{Clause, minus, variable}
use Rattle.law.specs.Encoding.{Fresh}
use Rattle.sheet.specs.Eliminating.{bridged, elimination_clauses}
use Rattle.sheet.specs.Implications.{Arcs}
use Rattle.sheet.specs.Starting.{start_clauses, started}
use Rattle.sheet.specs.Tables.{Above}
use Rattle.sheet.specs.View.{View, arcs_of}
use Rattle.std.specs.List.{range_with_len, flat_map, AllByRecursion}

abbrev pub for_each : {X Y : Type 0} → List X → (X → List Y) → List Y
for_each xs f = flat_map f xs

abbrev pub those : ℕ → (ℕ → Bool) → List ℕ
those n p = filter p (range_with_len 0 n)

-- −p e for the pipe from u to w
abbrev pub pipe_clause : View → ℕ → ℕ → Clause
pipe_clause s u w = minus (s.pipe u w) ∷ (pos ((started s).arc u w) ∷ [])

pub record StartLists (s : View) : Type 0 where
  pub lists
      : start_clauses s ≡
      for_each (range_with_len 0 s.nodes) (λ u.
      for_each (those s.nodes (λ w. nat_lt 0 (s.pipe u w))) (λ w. pipe_clause s u w ∷ []))
  pub in_turn : (k : ℕ) → k < length (start_clauses s) → slice_index_or (slice_index_or (start_clauses s) k []) 1 (pos 0) ≡ pos (s.valves + 1 + k)
  pub next : (started s).next ≡ s.valves + 1 + length (start_clauses s)

-- −(u,v) −(v,u) where u is w, else −(u,v) −(v,w) (u,w)
abbrev pub bridge_clause : View → ℕ → ℕ → ℕ → Clause
bridge_clause s v u w =
    cond (u == w) (minus (s.arc u v) ∷ (minus (s.arc v u) ∷ []))
    (minus (s.arc u v) ∷ (minus (s.arc v w) ∷ (pos ((bridged s v).arc u w) ∷ [])))

abbrev pub EliminationLists : View → ℕ → Type 0
EliminationLists s v =
    elimination_clauses s v ≡
    for_each (those s.nodes (λ u. nat_lt 0 (s.arc u v))) (λ u.
    for_each (those s.nodes (λ w. nat_lt 0 (s.arc v w))) (λ w. bridge_clause s v u w ∷ []))

-- one pair of nodes comes before another
abbrev pub Earlier : ℕ × ℕ → ℕ × ℕ → Type 0
Earlier p q = (p.0 < q.0) ⊎ ((p.0 ≡ q.0) × (p.1 < q.1))

pub record GivenInTurn (k l : Arcs) : Type 0 where
  pub keeps : (u w : ℕ) → 0 < k.arc u w → l.arc u w ≡ k.arc u w
  pub new : (u w : ℕ) → k.arc u w ≡ 0 → 0 < l.arc u w → (k.next ≤ l.arc u w) × (l.arc u w < l.next)
  pub no_gap : (x : ℕ) → k.next ≤ x → x < l.next → (p : ℕ × ℕ) × (k.arc p.0 p.1 ≡ 0) × (l.arc p.0 p.1 ≡ x)
  pub rise
      : (p q : ℕ × ℕ) → k.arc p.0 p.1 ≡ 0 → k.arc q.0 q.1 ≡ 0 → 0 < l.arc p.0 p.1
      → 0 < l.arc q.0 q.1 → Earlier p q → l.arc p.0 p.1 < l.arc q.0 q.1

abbrev pub AboveValves : ℕ → List Clause → Type 0
AboveValves v cs = AllByRecursion (AllByRecursion (λ z. v < variable z)) cs

pub record EliminationRight (s : View) (v : ℕ) : Type 0 where
  pub lists : EliminationLists s v
  pub given : GivenInTurn (arcs_of s) (bridged s v)
  pub no_valve : AboveValves s.valves (elimination_clauses s v)

pub record ClauseLaw : Type 0 where
  pub start : (s : View) → Fresh s → StartLists s × GivenInTurn (arcs_of s) (arcs_of (started s))
  pub elimination : (s : View) (v : ℕ) → Above s.valves s.arc → s.valves < s.next → EliminationRight s v
