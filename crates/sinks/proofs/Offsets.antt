-- Laws of an offset: a clause whose variables are moved up is taken below, and is read back as it was.
use Rattle.std.proofs.Common.{◌≡◌, ℕ, zero, suc, ◌+◌, ◌-◌, ◌<◌, ◌≤◌, Bool, true, false, cond, ◌||◌, eqb, ltb, [], ◌∷◌, map, length, get_or, ℤ, pos, negsuc, nat_abs, None, refl, ap, ◌∙◌, arith}
use Rattle.cnf.specs.Clauses.{Clause, bad_literal, has_bad_literal}
use Rattle.cnf.specs.States.{form_refusal, lowered, raised}
use Rattle.sinks.proofs.Forms.{form_from, form_parts}
use Rattle.std.proofs.lemmas.Bool.{lt-ltb, or_from, or_parts}
use Rattle.std.proofs.lemmas.Bool.Decides.{nat_tests}
use Rattle.std.proofs.lemmas.List.{length-map}

variable_raised : (d : ℕ) (z : ℤ) → nat_abs (raised d z) ≡ nat_abs z + d
variable_raised d (pos n) = refl
variable_raised d (negsuc n) = omega arith

lowered_raised : (d : ℕ) (z : ℤ) → 0 < nat_abs z → lowered d (raised d z) ≡ z
lowered_raised d (pos n) h =
    let t : ltb d (n + d) ≡ true = lt-ltb d (n + d) (omega arith) in
    let e : n + d - d ≡ n = omega arith in
    ap (λ (b : Bool). cond b (pos (n + d - d)) (pos (n + d))) t ∙ ap pos e
lowered_raised d (negsuc n) h =
    let t : ltb d (suc (n + d)) ≡ true = lt-ltb d (suc (n + d)) (omega arith) in
    let e : n + d - d ≡ n = omega arith in
    ap (λ (b : Bool). cond b (negsuc (n + d - d)) (negsuc (n + d))) t ∙ ap negsuc e

pub good_bounds : (top : ℕ) (z : ℤ) → bad_literal top z ≡ false → (0 < nat_abs z) × (nat_abs z ≤ top)
good_bounds top z h = (grind (arith, nat_tests), grind (arith, nat_tests))

pub good_at
    : (top : ℕ) (c : Clause) (i : ℕ) → i < length c → has_bad_literal top c ≡ false → bad_literal top (get_or c i (pos 0)) ≡ false
good_at top [] i l h = absurd (omega arith)
good_at top (z ∷ zs) zero l h = (or_parts _ _ h).0
good_at top (z ∷ zs) (suc i) l h = good_at top zs i (omega arith) (or_parts _ _ h).1

good_raised : (top d : ℕ) (z : ℤ) → bad_literal (top - d) z ≡ false → bad_literal top (raised d z) ≡ false
good_raised top d z h =
    let f = good_bounds (top - d) z h in
    let e = variable_raised d z in
    grind (arith, nat_tests)

all_good_raised : (top d : ℕ) (c : Clause) → has_bad_literal (top - d) c ≡ false → has_bad_literal top (map (raised d) c) ≡ false
all_good_raised top d [] h = refl
all_good_raised top d (z ∷ zs) h =
    let p = or_parts (bad_literal (top - d) z) _ h in
    or_from _ _ (good_raised top d z p.0) (all_good_raised top d zs p.1)

pub all_lowered_raised : (top d : ℕ) (c : Clause) → has_bad_literal top c ≡ false → map (lowered d) (map (raised d) c) ≡ c
all_lowered_raised top d [] h = refl
all_lowered_raised top d (z ∷ zs) h =
    let p = or_parts (bad_literal top z) _ h in
    λ i. lowered_raised d z (good_bounds top z p.0).0 i ∷ all_lowered_raised top d zs p.1 i

pub offset_form
    : (d top longest : ℕ) (c : Clause) → form_refusal (top - d) longest c ≡ None
    → form_refusal top longest (map (raised d) c) ≡ None
offset_form d top longest c h =
    let p = form_parts (top - d) longest c h in
    form_from top longest (map (raised d) c) (ap (λ n. eqb n 0 || ltb longest n) (length-map c (raised d)) ∙ p.0)
    (all_good_raised top d c p.1)

-- a literal of such a clause can be raised
pub raised_within
    : (top d : ℕ) (c : Clause) (i : ℕ) → has_bad_literal (top - d) c ≡ false → i < length c
    → nat_abs (get_or c i (pos 0)) + d ≤ top
raised_within top d c i h l =
    let f = good_bounds (top - d) (get_or c i (pos 0)) (good_at (top - d) c i l h) in
    omega (arith, f.0, f.1)
