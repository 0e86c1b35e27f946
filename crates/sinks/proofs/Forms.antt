-- What the form of a clause says, and that a clause of a good form can be refused only for room.
use Rattle.std.proofs.Common.{◌≡◌, ℕ, Bool, true, false, cond, ◌||◌, eqb, ltb, Some, None, Option, refl, ap, ◌∙◌, arith}
use Rattle.cnf.specs.Clauses.{Clause, bad_length, has_bad_literal}
use Rattle.cnf.specs.States.{State, add_refusal, form_refusal}
use Rattle.sinks.specs.Layers.{priced}
use Rattle.cnf.specs.declared.refusal.SinkRefusal.{SinkRefusal}
use Rattle.cnf.specs.declared.refusal.SinkRefusal.TheVariants.{Length, Literal, Room}

form_parts_by
    : (a b : Bool) → ◌≡◌ {A = Option SinkRefusal} (cond a (Some Length) (cond b (Some Literal) None)) None
    → (a ≡ false) × (b ≡ false)
form_parts_by true b h = absurd (grind (arith, h))
form_parts_by false true h = absurd (grind (arith, h))
form_parts_by false false h = (refl, refl)

pub form_parts
    : (top longest : ℕ) (c : Clause) → form_refusal top longest c ≡ None
    → (bad_length longest c ≡ false) × (has_bad_literal top c ≡ false)
form_parts top longest c h = form_parts_by _ _ h

pub form_from
    : (top longest : ℕ) (c : Clause) → bad_length longest c ≡ false → has_bad_literal top c ≡ false
    → form_refusal top longest c ≡ None
form_from top longest c p q =
    ap (λ (x : Bool). cond x (Some Length) (cond (has_bad_literal top c) (Some Literal) None)) p
    ∙ ap (λ (x : Bool). cond x (Some Literal) None) q

abbrev pub room_refusal : State → ℕ → Option SinkRefusal
room_refusal s n = cond (eqb s.entries 0 || ltb s.units n) (Some Room) None

pub refused_for_room
    : (s : State) (c : Clause) → form_refusal s.top s.longest c ≡ None → add_refusal s c ≡ room_refusal s (s.cost c)
refused_for_room s c h =
    let p = form_parts s.top s.longest c h in
    ap (λ (x : Bool). cond x (Some Length) (cond (has_bad_literal s.top c) (Some Literal) (room_refusal s (s.cost c)))) p.0
    ∙ ap (λ (x : Bool). cond x (Some Literal) (room_refusal s (s.cost c))) p.1

pub priced_taken
    : (top longest : ℕ) (cost : Clause → ℕ) (stored : Clause → Clause) (c : Clause) → form_refusal top longest c ≡ None
    → priced top longest cost stored c ≡ cost (stored c)
priced_taken top longest cost stored c h =
    let p = form_parts top longest c h in
    ap (λ (x : Bool). cond x 0 (cond (has_bad_literal top c) 0 (cost (stored c)))) p.0
    ∙ ap (λ (x : Bool). cond x 0 (cost (stored c))) p.1
