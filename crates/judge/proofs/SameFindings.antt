-- A verdict depends on the nodes, the pipes drawn and the values of the valves alone.
use Rattle.std.proofs.Common.{◌≡◌, ℕ, ◌-◌, ◌*◌, ◌<◌, ◌≤◌, Bool, cond, not, ◌&&◌, ltb, List, get_or, Some, None, sym, refl, ap, ◌∙◌, inl, inr, arith}
use Rattle.graph.proofs.Counts.{least_same}
use Rattle.sheet.specs.Tables.{Table, Upto}
use Rattle.sheet.specs.View.{view}
use Rattle.sheet.specs.declared.place.Sheet.{Sheet}
use Rattle.std.proofs.lemmas.Bool.{and_from, cases_lt, le-leb, le-ltb}
use Rattle.std.specs.Option.{option_map}
use Rattle.judge.specs.Rightness.{IndependenceLaw}
use Rattle.judge.specs.Values.{first_unknown, first_unknown_pair, is_known, is_open, opens, pair_valve, value}
use Rattle.judge.specs.Verdict.{Enough, answered, found, found_nodes, found_pipes, verdict_answer}
use Rattle.judge.specs.declared.refusal.VerdictRefusal.TheVariants.{UnknownValve}

-- values that agree on the valves up to top
module _ (top : ℕ) (x y : List ℕ) (same : (k : ℕ) → k < top → get_or x k 0 ≡ get_or y k 0) where
  value_same : (v : ℕ) → 0 < v → v ≤ top → value x v ≡ value y v
  value_same v l h = same (v - 1) (omega arith)

  -- a test of a drawn valve's byte answers the same
  tested_same : (p : ℕ → Bool) (v : ℕ) → v ≤ top → (ltb 0 v && p (value x v)) ≡ (ltb 0 v && p (value y v))
  tested_same p v h =
      elim (cases_lt 0 v) [
        | inl l ↦ ap (λ b. ltb 0 v && p b) (value_same v l h)
        | inr g ↦ let t = le-ltb 0 v g in rw t refl
      ]

  module _ (pipe : Table) (upto : Upto top pipe) where
    opens_same : opens pipe x ≡ opens pipe y
    opens_same = λ i u w. tested_same is_open (pipe u w) (upto u w) i

    unknown_pair_same : (n : ℕ) → first_unknown_pair n pipe x ≡ first_unknown_pair n pipe y
    unknown_pair_same n = least_same (n * n) _ _ (λ i h. tested_same (λ b. not (is_known b)) (pair_valve n pipe i) (upto _ _))

    unknown_same : (n : ℕ) → first_unknown n pipe x ≡ first_unknown n pipe y
    unknown_same n =
        ap (λ i. cond (ltb i (n * n)) (Some (pair_valve n pipe i)) None) (unknown_pair_same n)

-- with enough lent, only an unknown valve is refused
answer_is
    : (s : Sheet) (x : List ℕ) (a b c : ℕ) → Enough (view s) x a b c
    → verdict_answer (view s) x a b c
    ≡ answered (option_map UnknownValve (first_unknown s.nodes (view s).pipe x)) (found (opens (view s).pipe x) s.nodes)
answer_is s x a b c l =
    let v = le-leb _ _ l.values in
    let p = and_from _ _ (le-leb _ _ l.nodes) (and_from _ _ (le-leb _ _ l.pipes) (le-leb _ _ l.marks)) in
    rw (v, p) refl

pub independence_law : IndependenceLaw
independence_law s t x y a b c d e f alike l m =
    let pipe : (view s).pipe ≡ (view t).pipe = λ i u w. alike.pipes u w i in
    let edges : opens (view s).pipe x ≡ opens (view t).pipe y =
    opens_same s.valves x y alike.values (view s).pipe s.pipes_upto ∙ ap (λ (p : Table). opens p y) pipe in
    let unknown : first_unknown s.nodes (view s).pipe x ≡ first_unknown t.nodes (view t).pipe y =
    unknown_same s.valves x y alike.values (view s).pipe s.pipes_upto s.nodes
    ∙ ap (λ n. first_unknown n (view s).pipe y) alike.nodes
    ∙ ap (λ (p : Table). first_unknown t.nodes p y) pipe in
    record {
      answers = answer_is s x a b c l
          ∙ (λ i. answered (option_map UnknownValve (unknown i)) (found (edges i) (alike.nodes i)))
          ∙ sym (answer_is t y d e f m);
      nodes = λ i. found_nodes (edges i) (alike.nodes i);
      pipes = λ i. found_pipes (pipe i) (edges i) (alike.nodes i);
    }
