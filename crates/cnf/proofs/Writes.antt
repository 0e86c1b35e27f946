-- Laws of many clauses at once: what passes for none of them, what they cost together, and a sink after them.
use Rattle.std.proofs.Common.{sum_by, ◌≡◌, ℕ, zero, suc, ◌+◌, ◌-◌, ◌<◌, ◌≤◌, Bool, true, false, cond, ◌||◌, eqb, ltb, ◌⊎◌, List, [], ◌∷◌, ◌++◌, length, get_or, take, Some, None, Ok, Err, is_ok, Option, Result, sym, refl, ap, ◌∙◌, arith}
use Rattle.std.specs.List.{list_any}
use Rattle.std.specs.Result.{result_err}
use Rattle.std.proofs.lemmas.List.{take_more, length-take-le}
use Rattle.std.proofs.lemmas.List.Sums.{sum_by-cons, sum_by-take-le, sum_by_push}
use Rattle.std.proofs.lemmas.Bool.{or_parts, or_from}
use Rattle.std.proofs.lemmas.Bool.Decides.{nat_tests}
use Rattle.cnf.specs.Clauses.{Clause, has_bad_literal, bad_length}
use Rattle.cnf.specs.States.{State, added, add_refusal}
use Rattle.cnf.specs.declared.refusal.SinkRefusal.{SinkRefusal}
use Rattle.cnf.specs.declared.refusal.SinkRefusal.TheVariants.{Length, Literal, Room}
use Rattle.cnf.specs.Writing.{write_refusal, written}

-- what passes for none does not pass for the k-th
pub none_at : {X : Type 0} (p : X → Bool) (xs : List X) (k : ℕ) (d : X) → k < length xs → list_any p xs ≡ false → p (get_or xs k d) ≡ false
none_at p [] k d l h = absurd (omega arith)
none_at p (x ∷ xs) zero d l h = (or_parts _ _ h).0
none_at p (x ∷ xs) (suc k) d l h = none_at p xs k d (omega arith) (or_parts _ _ h).1

pub bad_length_true : (longest : ℕ) (c : Clause) (m : ℕ) → m ≡ length c → (m ≡ 0) ⊎ ((m ≡ 0 → ⊥) × (longest < m)) → bad_length longest c ≡ true
bad_length_true longest c m e h = grind (arith, nat_tests)

pub bad_length_false : (longest : ℕ) (c : Clause) (m : ℕ) → m ≡ length c → (m ≡ 0 → ⊥) → m ≤ longest → bad_length longest c ≡ false
bad_length_false longest c m e h k = grind (arith, nat_tests)

pub good_length : (longest : ℕ) (c : Clause) → bad_length longest c ≡ false → length c ≤ longest
good_length longest c h = grind (arith, nat_tests)

pub wider : (m n : ℕ) (cs : List Clause) → m ≤ n → list_any (bad_length m) cs ≡ false → list_any (bad_length n) cs ≡ false
wider m n [] h e = refl
wider m n (c ∷ cs) h e =
    let p = or_parts (bad_length m c) _ e in
    let q : bad_length n c ≡ false = grind (arith, nat_tests) in
    or_from _ _ q (wider m n cs h p.1)

pub fits_at : (n : ℕ) (cs : List Clause) (k : ℕ) → list_any (bad_length n) cs ≡ false → length (get_or cs k []) ≤ n
fits_at n [] k h = omega arith
fits_at n (c ∷ cs) zero h = good_length n c (or_parts _ _ h).0
fits_at n (c ∷ cs) (suc k) h = fits_at n cs k (or_parts _ _ h).1

-- an answer without a refusal accepts
pub no_err_ok : {A E : Type 0} (r : Result A E) → result_err r ≡ None → is_ok r ≡ true
no_err_ok (Ok x) h = refl
no_err_ok (Err e) h = absurd (grind (arith, h))

-- a sink after many clauses
pub written_push : (s : State) (cs : List Clause) (c : Clause) → written s (cs ++ (c ∷ [])) ≡ added (written s cs) c
written_push s [] c = refl
written_push s (b ∷ cs) c = written_push (added s b) cs c

pub written_more : (s : State) (cs : List Clause) (k : ℕ) → k < length cs → added (written s (take k cs)) (get_or cs k []) ≡ written s (take (k + 1) cs)
written_more s cs k h = sym (ap (written s) (take_more cs k [] h) ∙ written_push s (take k cs) (get_or cs k []))

written_top : (s : State) (cs : List Clause) → (written s cs).top ≡ s.top
written_top s [] = refl
written_top s (c ∷ cs) = written_top (added s c) cs

written_longest : (s : State) (cs : List Clause) → (written s cs).longest ≡ s.longest
written_longest s [] = refl
written_longest s (c ∷ cs) = written_longest (added s c) cs

written_cost : (s : State) (cs : List Clause) → (written s cs).cost ≡ s.cost
written_cost s [] = refl
written_cost s (c ∷ cs) = written_cost (added s c) cs

written_entries : (s : State) (cs : List Clause) → (written s cs).entries ≡ s.entries - length cs
written_entries s [] = omega arith
written_entries s (c ∷ cs) = omega (arith, written_entries (added s c) cs)

written_units : (s : State) (cs : List Clause) → (written s cs).units ≡ s.units - sum_by s.cost cs
written_units s [] = omega arith
written_units s (c ∷ cs) = omega (arith, sum_by-cons s.cost c cs, written_units (added s c) cs)

-- what holds of clauses that are not refused
pub record Taken (s : State) (cs : List Clause) : Type 0 where
  pub sized : list_any (bad_length s.longest) cs ≡ false
  pub clean : list_any (has_bad_literal s.top) cs ≡ false
  pub few : length cs ≤ s.entries
  pub cheap : sum_by s.cost cs ≤ s.units

taken_by : (a b : Bool) (n e t u : ℕ) → ◌≡◌ {A = Option SinkRefusal} (cond a (Some Length) (cond b (Some Literal) (cond (ltb e n || ltb u t) (Some Room) None))) None → (a ≡ false) × (b ≡ false) × (n ≤ e) × (t ≤ u)
taken_by true b n e t u h = absurd (grind (arith, h))
taken_by false true n e t u h = absurd (grind (arith, h))
taken_by false false n e t u h = (refl, refl, grind (arith, nat_tests), grind (arith, nat_tests))

pub taken : (s : State) (cs : List Clause) → write_refusal s cs ≡ None → Taken s cs
taken s cs h = let p = taken_by _ _ (length cs) s.entries (sum_by s.cost cs) s.units h in record { sized = p.0; clean = p.1; few = p.2; cheap = p.3 }

refusal_none : (a b : Bool) (e u t : ℕ) → a ≡ false → b ≡ false → 0 < e → t ≤ u → ◌≡◌ {A = Option SinkRefusal} (cond a (Some Length) (cond b (Some Literal) (cond (eqb e 0 || ltb u t) (Some Room) None))) None
refusal_none a b e u t p q h k = grind (arith, nat_tests)

pub step_taken : (s : State) (cs : List Clause) (k : ℕ) → k < length cs → write_refusal s cs ≡ None → add_refusal (written s (take k cs)) (get_or cs k []) ≡ None
step_taken s cs k l h =
    let t = taken s cs h in
    let f = written s (take k cs) in
    let c = get_or cs k [] in
    let n : length (take k cs) ≡ k = length-take-le k cs (omega arith) in
    let costs : (written s (take k cs)).cost (get_or cs k []) ≡ s.cost (get_or cs k []) = ap (λ (m : Clause → ℕ). m (get_or cs k [])) (written_cost s (take k cs)) in
    let e : 0 < (written s (take k cs)).entries = omega (arith, written_entries s (take k cs), t.few) in
    let u : (written s (take k cs)).cost (get_or cs k []) ≤ (written s (take k cs)).units = omega (arith, written_units s (take k cs), costs, ap (sum_by s.cost) (take_more cs k [] l), sum_by_push s.cost (take k cs) (get_or cs k []), sum_by-take-le s.cost cs (k + 1), t.cheap) in
    refusal_none _ _ _ _ _
    (ap (λ m. bad_length m c) (written_longest s (take k cs)) ∙ none_at (bad_length s.longest) cs k [] l t.sized)
    (ap (λ m. has_bad_literal m c) (written_top s (take k cs)) ∙ none_at (has_bad_literal s.top) cs k [] l t.clean)
    e
    u
