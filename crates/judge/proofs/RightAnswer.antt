-- Every answer of the judge is right.
use Rattle.std.proofs.Common.{◌≡◌, ℕ, ◌+◌, ◌-◌, ◌*◌, ◌/◌, ◌%◌, ◌<◌, ◌≤◌, true, false, ltb, ◌⊎◌, List, length, get_or, is_ok, Some, None, Ok, Err, Option, Result, sym, refl, ap, ◌∙◌, subst, inl, inr, add-mul, arith}
use Rattle.graph.specs.Orders.{IsRing}
use Rattle.graph.specs.Walks.{Inside}
use Rattle.graph.proofs.Counts.{least_none, least_passes}
use Rattle.graph.proofs.Orders.{order_law}
use Rattle.sheet.specs.Tables.{Joins, Table}
use Rattle.sheet.specs.View.{View}
use Rattle.sheet.specs.declared.pipe.Pipe.{Pipe}
use Rattle.std.proofs.lemmas.Nat.{div-add-mod', div_below, div-mul-add, mod_below, mod-mul-add, mul-add-lt, mul-le}
use Rattle.std.proofs.lemmas.List.FromFn.{get_or-map-range_with_len, length-map-range_with_len}
use Rattle.std.proofs.lemmas.Bool.{and_parts, cases_lt, le-ltb, lt-ltb, ltb-false, ltb-true}
use Rattle.std.proofs.lemmas.Bool.Decides.{nat_tests}
use Rattle.std.specs.Option.{option_map}
use Rattle.judge.specs.Placing.{order}
use Rattle.judge.specs.Rightness.{Along, Right, RightAnswer, Unknown, no_pipe}
use Rattle.judge.specs.Values.{first_unknown, first_unknown_pair, is_known, is_open, is_unknown, opens, pair_valve, value}
use Rattle.judge.specs.Verdict.{after, answered, found, found_nodes, found_pipes, is_stuck, ring_pipe, ring_pipes}
use Rattle.judge.specs.Walking.{ring}
use Rattle.judge.specs.declared.refusal.VerdictRefusal.{VerdictRefusal}
use Rattle.judge.specs.declared.refusal.VerdictRefusal.TheVariants.{UnknownValve}
use Rattle.judge.specs.declared.verdict.Verdict.{Verdict}
use Rattle.judge.proofs.First.{told, untold}
use Rattle.judge.proofs.OrderLaw.{order_right}
use Rattle.judge.proofs.RingLaw.{ring_right}

-- a pair before the pair of number i has a smaller number
earlier_pair
    : (n i u w : ℕ) → w < n → (u < i / n) ⊎ ((u ≡ i / n) × (w < i % n)) → u * n + w < i
earlier_pair n i u w h b =
    let d = div-add-mod' i n in
    elim b [
      | inl l ↦ let m = mul-le (u + 1) n (i / n) n (omega arith) (omega arith) in let a = add-mul u 1 n in omega arith
      | inr l ↦ let m = ap (λ x. x * n) l.0 in omega (arith, l.1)
    ]

module _ (n : ℕ) (pipe : Table) (values : List ℕ) (joins : Joins n pipe) where
  open_parts : (u w : ℕ) → opens pipe values u w ≡ true → (0 < pipe u w) × (is_open (value values (pipe u w)) ≡ true)
  open_parts u w e = let p = and_parts _ _ e in (ltb-true 0 (pipe u w) p.0, p.1)

  opens_inside : Inside n (opens pipe values)
  opens_inside u w e = let j = joins u w (open_parts u w e).0 in (j.0, j.1)

  -- the pair (u, w) is pair u * n + w
  pair_is : (u w : ℕ) → w < n → pair_valve n pipe (u * n + w) ≡ pipe u w
  pair_is u w h = rw (div-mul-add u n w h, mod-mul-add u n w h)

  -- a valve at a pair before the first unknown one is known
  known_before : (u w : ℕ) → 0 < pipe u w → u * n + w < first_unknown_pair n pipe values → is_known (value values (pipe u w)) ≡ true
  known_before u w l h =
      let f = least_none (n * n) (u * n + w) (λ i. is_unknown values (pair_valve n pipe i)) h in
      let g : is_unknown values (pipe u w) ≡ false = ap (is_unknown values) (sym (pair_is u w (joins u w l).1)) ∙ f in
      grind (arith, nat_tests, l, g)

  known_all : first_unknown n pipe values ≡ None → (u w : ℕ) → 0 < pipe u w → is_known (value values (pipe u w)) ≡ true
  known_all e u w l =
      let j = joins u w l in
      let f = untold (ltb (first_unknown_pair n pipe values) (n * n)) _ (sym e) in
      known_before u w l (omega (arith, ltb-false _ _ f, mul-add-lt u n w n j.0 j.1))

  unknown_right : (v : ℕ) → first_unknown n pipe values ≡ Some v → Unknown n pipe values v
  unknown_right v e =
      let t = told (ltb (first_unknown_pair n pipe values) (n * n)) _ v (sym e) in
      let l : first_unknown_pair n pipe values < n * n = ltb-true _ _ t.0 in
      let z : 0 < n = elim (cases_lt 0 n) [ inl a ↦ a | inr b ↦ let q : n ≡ 0 = omega arith in absurd (omega (arith, rw q at l)) ] in
      let p = least_passes (n * n) (λ i. is_unknown values (pair_valve n pipe i)) l in
      let q = and_parts _ _ (ap (is_unknown values) t.1 ∙ p) in
      let row = div_below (first_unknown_pair n pipe values) n n z l in
      let column = mod_below (first_unknown_pair n pipe values) n z in
      record {
        from = first_unknown_pair n pipe values / n;
        to = first_unknown_pair n pipe values % n;
        from_below = row;
        to_below = column;
        drawn = (sym t.1, ltb-true 0 v q.0);
        unknown = grind (arith, q.1);
        first = λ u w b h. known_before u w h (earlier_pair n _ u w (joins u w h).1 b);
      }

  -- the pipes listed for a ring are those between its nodes
  module _ (ns : List ℕ) (o : IsRing (opens pipe values) ns) where
    pipe_at : (k : ℕ) → k < length ns → get_or (ring_pipes pipe ns) k no_pipe ≡ ring_pipe pipe ns k
    pipe_at k h = get_or-map-range_with_len (ring_pipe pipe ns) 0 (length ns) k k no_pipe h (omega arith)

    after_next : (k : ℕ) → k + 1 < length ns → after ns k ≡ get_or ns (k + 1) 0
    after_next k h = rw (lt-ltb (k + 1) (length ns) h)

    after_last : (k : ℕ) → length ns ≤ k + 1 → after ns k ≡ get_or ns 0 0
    after_last k h = rw (le-ltb (k + 1) (length ns) h)

    step_open : (k : ℕ) → k < length ns → opens pipe values (get_or ns k 0) (after ns k) ≡ true
    step_open k h =
        elim (cases_lt (k + 1) (length ns)) [
          | inl l ↦ rw (after_next k l) (o.steps k l)
          | inr g ↦
              let e : k ≡ length ns - 1 = omega arith in
              rw (after_last k g) (subst (λ i. opens pipe values (get_or ns i 0) (get_or ns 0 0) ≡ true) (sym e) o.back)
        ]

    pipes_along : Along pipe values ns (ring_pipes pipe ns)
    pipes_along =
        record {
          size = length-map-range_with_len (ring_pipe pipe ns) 0 (length ns);
          starts = λ k h. ap (λ (p : Pipe). p.from) (pipe_at k h);
          leads = λ k h. ap (λ (p : Pipe). p.to) (pipe_at k (omega arith)) ∙ after_next k h;
          back = λ h. ap (λ (p : Pipe). p.to) (pipe_at (length ns - 1) (omega arith)) ∙ after_last (length ns - 1) (omega arith);
          drawn = λ k h. let e = pipe_at k h in rw e refl;
          flows = λ k h. let e = pipe_at k h in rw e (open_parts _ _ (step_open k h));
        }

    -- and each of them is drawn
    pub step_drawn : (k : ℕ) → k < length ns → 0 < pipe (get_or ns k 0) (after ns k)
    step_drawn k h = (open_parts _ _ (step_open k h)).0

  -- what is found is right
  found_right
      : first_unknown n pipe values ≡ None
      → Right n pipe values (found (opens pipe values) n) (found_nodes (opens pipe values) n) (found_pipes pipe (opens pipe values) n)
  found_right e =
      let r = opens pipe values in
      elim (cases_lt (length (order (opens pipe values) n)) n) [
        | inl l ↦
            let t : is_stuck (opens pipe values) n ≡ true = lt-ltb _ _ l in
            let o = ring_right n (opens pipe values) l in
            rw t (record {
              exact = (λ _. order_law.1 _ _ o, λ _. refl);
              ring = λ _. (o, pipes_along (ring (opens pipe values) n) o);
              order = λ h. absurd (grind (arith, h));
              known = known_all e;
            })
        | inr g ↦
            let t : is_stuck (opens pipe values) n ≡ false = le-ltb _ _ g in
            let o = order_right n (opens pipe values) g in
            rw t (record {
              exact = (λ h. absurd (grind (arith, h)), λ h. absurd (order_law.0 n _ _ opens_inside o h));
              ring = λ h. absurd (grind (arith, h));
              order = λ _. (o, refl);
              known = known_all e;
            })
      ]

answered_ok
    : (o : Option ℕ) (v f : Verdict) → ◌≡◌ {A = Result Verdict VerdictRefusal} (Ok v) (answered (option_map UnknownValve o) f) → (o ≡ None) × (v ≡ f)
answered_ok None v f e = (refl, cc)
answered_ok (Some x) v f e = absurd (grind (arith, e))

answered_err
    : (o : Option ℕ) (x : VerdictRefusal) (f : Verdict) → Err x ≡ answered (option_map UnknownValve o) f
    → (v : ℕ) × (o ≡ Some v) × (x ≡ UnknownValve v)
answered_err None x f e = absurd (grind (arith, e))
answered_err (Some v) x f e = (v, refl, cc)

-- an answer on marked nodes is right, with the lists that it leaves
pub answer_right
    : (s : View) (values : List ℕ) → Joins s.nodes s.pipe → (r : Result Verdict VerdictRefusal) (ns : List ℕ) (ps : List Pipe)
    → r ≡ answered (option_map UnknownValve (first_unknown s.nodes s.pipe values)) (found (opens s.pipe values) s.nodes)
    → (is_ok r ≡ true → ns ≡ found_nodes (opens s.pipe values) s.nodes)
    → (is_ok r ≡ true → ps ≡ found_pipes s.pipe (opens s.pipe values) s.nodes) → RightAnswer s values r ns ps
answer_right s values j (Ok v) ns ps e a b =
    let o = answered_ok _ _ _ e in
    let x = a refl in
    let y = b refl in rw (x, y, o.1) (found_right s.nodes s.pipe values j o.0)
answer_right s values j (Err x) ns ps e a b =
    let o = answered_err _ _ _ e in rw o.2 (unknown_right s.nodes s.pipe values j o.0 o.1)
