-- Which clauses start and elimination write, in which order, and on which variables.
use Rattle.std.proofs.Common.{◌≡◌, ℕ, zero, suc, ◌+◌, ◌<◌, Bool, true, false, cond, ◌&&◌, eqb, ltb, List, [], ◌∷◌, length, get_or, ℤ, pos, sym, refl, ap, ◌∙◌, subst, inl, inr, arith}
use mathlib.Core.Path.{fun_ext}
use Rattle.cnf.specs.Clauses.{Clause, minus, variable}
use Rattle.law.proofs.GivenInTurn.{Free, arc_at, planned_in_turn, planned_numbered}
use Rattle.law.proofs.ImplicationRows.{and_true, for_each_kept, for_each_like, implications_listed, implications_mapped, kept_none, one}
use Rattle.law.proofs.ImplicationRows.{pairs_pass}
use Rattle.law.specs.ClauseLists.{AboveValves, ClauseLaw, EliminationLists, StartLists, bridge_clause, for_each, pipe_clause, those}
use Rattle.law.specs.Encoding.{Fresh}
use Rattle.sheet.proofs.Pairs.{pairs_with_all, planned_gives}
use Rattle.sheet.specs.Eliminating.{bridged, elimination_clauses, way_through}
use Rattle.sheet.specs.Implications.{are_there, has_premises, implication, pairs_with}
use Rattle.sheet.specs.Starting.{start_clauses, started, valve_of}
use Rattle.sheet.specs.Tables.{Above}
use Rattle.sheet.specs.View.{View, arcs_of}
use Rattle.std.proofs.lemmas.List.FromFn.{get_or-range_with_len}
use Rattle.cnf.proofs.Every.{all_at, all_map, all_weaker}
use Rattle.std.proofs.lemmas.List.{get_or-map, length-map}
use Rattle.std.proofs.lemmas.Bool.{and_parts, cases_Bool, cases_lt, cond_both, eqb-false, eqb-true, ltb-true, ne_eqb}
use Rattle.std.specs.List.{range_with_len, AllByRecursion}

variable_minus : (v : ℕ) → variable (minus v) ≡ v
variable_minus zero = refl
variable_minus (suc v) = refl

module _ (s : View) (v : ℕ) where
  implies_bridge
      : (u w : ℕ) → one (implication (way_through s.arc v u w) (bridged s v).arc (u, w)) ≡ one (bridge_clause s v u w)
  implies_bridge u w =
      elim (cases_Bool (eqb u w)) [
        | inl e ↦ rw e (ap (λ x. one (minus (s.arc u v) ∷ (minus (s.arc v x) ∷ []))) (sym (eqb-true u w e)))
        | inr e ↦ rw e
      ]

  -- with no arc from u to v, none is written for u
  bridges_from
      : (u : ℕ)
      → for_each (those s.nodes (λ w. are_there (way_through s.arc v u w)))
      (λ w. one (implication (way_through s.arc v u w) (bridged s v).arc (u, w)))
      ≡ cond (ltb 0 (s.arc u v)) (for_each (those s.nodes (λ w. ltb 0 (s.arc v w))) (λ w. one (bridge_clause s v u w))) []
  bridges_from u =
      let f : ℕ → List Clause = λ w. one (implication (way_through s.arc v u w) (bridged s v).arc (u, w)) in
      let from : ℕ → Bool = λ w. ltb 0 (s.arc v w) in
      elim (ltb 0 (s.arc u v))
      as (λ b.
      for_each (those s.nodes (λ w. b && (from w && true))) f
      ≡ cond b (for_each (those s.nodes from) (λ w. one (bridge_clause s v u w))) []) [
        | true ↦
            for_each_like (λ w. from w && true) from f (λ w. one (bridge_clause s v u w)) (λ w. and_true (from w)) (λ w _. implies_bridge u w)
            (range_with_len 0 s.nodes)
        | false ↦ ap (λ l. for_each l f) (kept_none (range_with_len 0 s.nodes))
      ]

  elimination_listed : EliminationLists s v
  elimination_listed =
      implications_listed (way_through s.arc v) s.nodes (arcs_of s)
      ∙ ap (for_each (range_with_len 0 s.nodes)) (fun_ext bridges_from)
      ∙ for_each_kept (λ u. ltb 0 (s.arc u v)) (λ u. for_each (those s.nodes (λ w. ltb 0 (s.arc v w))) (λ w. one (bridge_clause s v u w)))
      (range_with_len 0 s.nodes)

  -- the planned arcs are above the valves, as those before them
  bridges_above
      : Above s.valves s.arc → s.valves < s.next → Above s.valves (bridged s v).arc
  bridges_above above some u w h =
      let plan = planned_in_turn (way_through s.arc v) s.nodes (arcs_of s) (omega arith) in
      elim (cases_lt 0 (s.arc u w)) [
        | inl a ↦ omega (arith, plan.keeps u w a, above u w a)
        | inr z ↦ omega (arith, (plan.new u w (omega arith) h).0)
      ]

  bridge_above_valves
      : Above s.valves s.arc → s.valves < s.next → (p : ℕ × ℕ) → has_premises (way_through s.arc v) p ≡ true
      → ((p.0 ≡ p.1 → ⊥) → 0 < (bridged s v).arc p.0 p.1)
      → AllByRecursion (λ z. s.valves < variable z) (implication (way_through s.arc v p.0 p.1) (bridged s v).arc p)
  bridge_above_valves above some p pass there =
      let a = and_parts (ltb 0 (s.arc p.0 v)) (ltb 0 (s.arc v p.1) && true) pass in
      let b = and_parts (ltb 0 (s.arc v p.1)) true a.1 in
      let into = above p.0 v (ltb-true 0 (s.arc p.0 v) a.0) in
      let from = above v p.1 (ltb-true 0 (s.arc v p.1) b.0) in
      let P : Clause → Type 0 = AllByRecursion (λ z. s.valves < variable z) in
      let last : P (cond (eqb p.0 p.1) [] (pos ((bridged s v).arc p.0 p.1) ∷ [])) =
      cond_both (eqb p.0 p.1) [] (pos ((bridged s v).arc p.0 p.1) ∷ []) P (λ _. tt) (λ e.
      (bridges_above above some p.0 p.1 (there (eqb-false p.0 p.1 e)), tt)) in
      (rw (variable_minus (s.arc p.0 v)) into, (rw (variable_minus (s.arc v p.1)) from, last))

  elimination_above_valves
      : Above s.valves s.arc → s.valves < s.next → AboveValves s.valves (elimination_clauses s v)
  elimination_above_valves above some =
      let ps = way_through s.arc v in
      let f : ℕ × ℕ → Clause = λ p. implication (ps p.0 p.1) (bridged s v).arc p in
      let P : Clause → Type 0 = AllByRecursion (λ z. s.valves < variable z) in
      let there = planned_gives ps s.nodes (arcs_of s) (omega arith) in
      subst (AllByRecursion P) (sym (implications_mapped ps s.nodes (arcs_of s)))
      (all_map P f (pairs_with ps s.nodes) (pairs_with_all ps s.nodes (λ p. P (f p)) (λ u w a b e.
      bridge_above_valves above some (u, w) e (there u w a b e))))

-- the second literal of a clause of start
second : (z : ℤ) (x : ℕ) (b : Bool) → b ≡ false → get_or (z ∷ cond b [] (pos x ∷ [])) 1 (pos 0) ≡ pos x
second z x b e = rw e

-- a fresh sheet: each drawn pair gets a variable of its own
module _ (s : View) (fresh : Fresh s) where
  drawn_differ : (u w : ℕ) → ltb 0 (s.pipe u w) ≡ true → eqb u w ≡ false
  drawn_differ u w e = ne_eqb u w (fresh.pipes u w (ltb-true 0 (s.pipe u w) e)).2

  start_listed
      : start_clauses s ≡
      for_each (range_with_len 0 s.nodes) (λ u.
      for_each (those s.nodes (λ w. ltb 0 (s.pipe u w))) (λ w.
      one (pipe_clause s u w)))
  start_listed =
      implications_listed (valve_of s.pipe) s.nodes (arcs_of s)
      ∙ ap (for_each (range_with_len 0 s.nodes)) (fun_ext (λ u.
      for_each_like (λ w. ltb 0 (s.pipe u w) && true) (λ w. ltb 0 (s.pipe u w))
      (λ w. one (implication (valve_of s.pipe u w) (started s).arc (u, w)))
      (λ w. one (pipe_clause s u w))
      (λ w. and_true (ltb 0 (s.pipe u w)))
      (λ w e. rw (drawn_differ u w e))
      (range_with_len 0 s.nodes)))

  drawn_free : AllByRecursion (Free (arcs_of s)) (pairs_with (valve_of s.pipe) s.nodes)
  drawn_free =
      all_weaker (λ p. has_premises (valve_of s.pipe) p ≡ true) (Free (arcs_of s))
      (λ p h. (
        eqb-false p.0 p.1 (drawn_differ p.0 p.1 (and_parts (ltb 0 (s.pipe p.0 p.1)) true h).0),
        fresh.no_arcs p.0 p.1,
      ))
      (pairs_with (valve_of s.pipe) s.nodes) (pairs_pass (valve_of s.pipe) s.nodes)

  start_lists : StartLists s
  start_lists =
      let ps = valve_of s.pipe in
      let l = pairs_with ps s.nodes in
      let f : ℕ × ℕ → Clause = λ p. implication (ps p.0 p.1) (started s).arc p in
      let same = implications_mapped ps s.nodes (arcs_of s) in
      let long : length (start_clauses s) ≡ length l = ap length same ∙ length-map l f in
      let numbered = planned_numbered ps s.nodes (arcs_of s) (omega (arith, fresh.next)) drawn_free in
      record {
        lists = start_listed;
        in_turn = λ k h.
            let short : k < length l = omega arith in
            let p = get_or l k (0, 0) in
            let differ = ne_eqb p.0 p.1 (all_at (Free (arcs_of s)) l k (0, 0) short drawn_free).0 in
            let a = get_or-map (arc_at (arcs_of (started s))) l k (0, 0) 0 short in
            let b = ap (λ xs. get_or xs k 0) numbered.arcs in
            let c = get_or-range_with_len s.next (length l) k 0 short in
            let x : (started s).arc p.0 p.1 ≡ s.valves + 1 + k = omega (arith, a, b, c, fresh.next) in
            ap (λ cs. get_or (get_or cs k []) 1 (pos 0)) same
            ∙ ap (λ c. get_or c 1 (pos 0)) (get_or-map f l k (0, 0) [] short)
            ∙ second (minus (s.pipe p.0 p.1)) ((started s).arc p.0 p.1) (eqb p.0 p.1) differ
            ∙ ap pos x;
        next = omega (arith, numbered.next, fresh.next);
      }

pub clause_law : ClauseLaw
clause_law =
    record {
      start = λ s fresh. (
        start_lists s fresh,
        planned_in_turn (valve_of s.pipe) s.nodes (arcs_of s) (omega (arith, fresh.next)),
      );
      elimination = λ s v above some.
          record {
            lists = elimination_listed s v;
            given = planned_in_turn (way_through s.arc v) s.nodes (arcs_of s) (omega arith);
            no_valve = elimination_above_valves s v above some;
          };
    }
