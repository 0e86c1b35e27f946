-- Laws of layers: how their clauses are read, and that a clause which one takes is taken below as it is stored there, at the same
-- cost and with the same answer, and is read back unchanged.
use Rattle.std.specs.List.{slice_get}
use Rattle.std.proofs.Common.{◌≡◌, ℕ, zero, suc, ◌-◌, ◌<◌, ◌≤◌, Bool, true, false, cond, List, [], ◌∷◌, ◌++◌, map, length, get_or, drop, Some, None, Option, unwrap_or, sym, refl, ap, ◌∙◌, arith}
use Rattle.std.proofs.Math.ListN.{get_or-map}
use Rattle.std.proofs.lemmas.Bool.{false≢true}
use Rattle.std.proofs.lemmas.Option.{slice_get-map, slice_get_past}
use Rattle.cnf.proofs.Copies.{length_or_zero}
use Rattle.cnf.specs.Clauses.{Clause}
use Rattle.cnf.specs.States.{Layer, State, add_refusal, added, form_refusal, guard, lowered, offset, read_as, stored_as}
use Rattle.cnf.specs.declared.refusal.SinkRefusal.{SinkRefusal}
use Rattle.sinks.specs.Layers.{layer_longest, layer_top, layered, read_by, read_literal, reads_all, shown, stored_by}
use Rattle.sinks.proofs.Forms.{form_parts, priced_taken, refused_for_room, room_refusal}
use Rattle.sinks.proofs.Guards.{guard_form, length_without_last, nth_without_last, without_last_push}
use Rattle.sinks.proofs.Offsets.{all_lowered_raised, offset_form}
use Rattle.std.proofs.lemmas.Iterator.Adapters.{option_map_id}
use Rattle.std.proofs.lemmas.List.{length-map, map_push}
use Rattle.std.specs.Option.{option_map}

-- a layer on top of others
stored_over : (l : Layer) (ls : List Layer) (c : Clause) → stored_as ls (stored_by l c) ≡ stored_as (l ∷ ls) c
stored_over (guard g) ls c = refl
stored_over (offset d) ls c = refl

read_over : (l : Layer) (ls : List Layer) (c : Clause) → read_by l (read_as ls c) ≡ read_as (l ∷ ls) c
read_over (guard g) ls c = refl
read_over (offset d) ls c = refl

pub all_read_over : (l : Layer) (ls : List Layer) (cs : List Clause) → map (read_by l) (map (read_as ls) cs) ≡ map (read_as (l ∷ ls)) cs
all_read_over l ls [] = refl
all_read_over l ls (c ∷ cs) = λ i. read_over l ls c i ∷ all_read_over l ls cs i

nothing_read : (l : Layer) → read_by l [] ≡ []
nothing_read (guard g) = refl
nothing_read (offset d) = refl

-- the clause at a place
read_at : (l : Layer) (cs : List Clause) (k : ℕ) → get_or (map (read_by l) cs) k [] ≡ read_by l (get_or cs k [])
read_at l cs k = ap (get_or (map (read_by l) cs) k) (sym (nothing_read l)) ∙ get_or-map (read_by l) cs k []

-- how many literals it has, and each of them
length_read : (l : Layer) (c : Clause) → length (read_by l c) ≡ shown l (length c)
length_read (guard g) c = length_without_last c
length_read (offset d) c = length-map c (lowered d)

pub lengths_read
    : (l : Layer) (cs : List Clause) (k : ℕ) → option_map length (slice_get (map (read_by l) cs) k) ≡ option_map (shown l) (option_map length (slice_get cs k))
lengths_read l [] k = refl
lengths_read l (c ∷ cs) zero = ap Some (length_read l c)
lengths_read l (c ∷ cs) (suc k) = lengths_read l cs k

nth_read : (l : Layer) (c : Clause) (j : ℕ) → j < length (read_by l c) → slice_get (read_by l c) j ≡ option_map (read_literal l) (slice_get c j)
nth_read (guard g) c j h = nth_without_last c j (omega (arith, length_without_last c, h)) ∙ sym (option_map_id (slice_get c j))
nth_read (offset d) c j h = slice_get-map (lowered d) c j

pub literal_read
    : (l : Layer) (cs : List Clause) (k j : ℕ) → j < length (get_or (map (read_by l) cs) k [])
    → slice_get (get_or (map (read_by l) cs) k []) j ≡ option_map (read_literal l) (slice_get (get_or cs k []) j)
literal_read l cs k j h =
    let e = read_at l cs k in
    ap (λ c. slice_get c j) e ∙ nth_read l (get_or cs k []) j (omega (arith, ap length e, h))

-- a literal of a layer that reads all of them
pub literal_in_place
    : (l : Layer) (cs : List Clause) (k j : ℕ) → reads_all l ≡ true
    → slice_get (get_or (map (read_by l) cs) k []) j ≡ option_map (read_literal l) (slice_get (get_or cs k []) j)
literal_in_place (guard g) cs k j h = absurd (false≢true h)
literal_in_place (offset d) cs k j h =
    ap (λ c. slice_get c j) (read_at (offset d) cs k) ∙ slice_get-map (lowered d) (get_or cs k []) j

-- a clause that a layer takes is taken below, and is read back unchanged
pub taken_below
    : (l : Layer) (top longest : ℕ) (c : Clause) → form_refusal (layer_top l top) (layer_longest l top longest) c ≡ None
    → form_refusal top longest (stored_by l c) ≡ None
taken_below (guard g) top longest c h = guard_form g top longest c h
taken_below (offset d) top longest c h = offset_form d top longest c h

read_back
    : (l : Layer) (top longest : ℕ) (c : Clause) → form_refusal (layer_top l top) (layer_longest l top longest) c ≡ None
    → read_by l (stored_by l c) ≡ c
read_back (guard g) top longest c h = without_last_push c g
read_back (offset d) top longest c h = all_lowered_raised (top - d) d c (form_parts (top - d) longest c h).1

module _ (l : Layer) (s : State) (c : Clause) (fine : form_refusal (layer_top l s.top) (layer_longest l s.top s.longest) c ≡ None) where
  pub layer_cost : (layered l s).cost c ≡ s.cost (stored_by l c)
  layer_cost = priced_taken (layer_top l s.top) (layer_longest l s.top s.longest) s.cost (stored_by l) c fine

  pub layer_answer : (r : Option SinkRefusal) → r ≡ add_refusal s (stored_by l c) → r ≡ add_refusal (layered l s) c
  layer_answer r e =
      e
      ∙ refused_for_room s (stored_by l c) (taken_below l s.top s.longest c fine)
      ∙ ap (room_refusal s) (sym layer_cost)
      ∙ sym (refused_for_room (layered l s) c fine)

  layer_added : layered l (added s (stored_by l c)) ≡ added (layered l s) c
  layer_added = λ i. record {
    top = layer_top l s.top;
    longest = layer_longest l s.top s.longest;
    cost = (layered l s).cost;
    entries = s.entries - 1;
    units = s.units - sym layer_cost i;
    spare = drop (sym layer_cost i) s.spare;
    spare_pairs = drop 1 s.spare_pairs;
    layers = l ∷ s.layers;
    bottom = s.bottom ++ (stored_over l s.layers c i ∷ []);
  }

  pub layer_after
      : (r : Bool) (t : State) → t ≡ cond r (added s (stored_by l c)) s
      → layered l t ≡ cond r (added (layered l s) c) (layered l s)
  layer_after true t e = ap (layered l) e ∙ layer_added
  layer_after false t e = ap (layered l) e

  pub layer_appended
      : (r : Bool) (cs ds : List Clause) → ds ≡ cond r (cs ++ (stored_by l c ∷ [])) cs
      → map (read_by l) ds ≡ cond r (map (read_by l) cs ++ (c ∷ [])) (map (read_by l) cs)
  layer_appended true cs ds e =
      ap (map (read_by l)) e
      ∙ map_push (read_by l) cs (stored_by l c)
      ∙ ap (λ d. map (read_by l) cs ++ (d ∷ [])) (read_back l s.top s.longest c fine)
  layer_appended false cs ds e = ap (map (read_by l)) e

-- a literal that is asked for, by how many the clause at its place is told to have
pub literal_told
    : (l : Layer) (cs : List Clause) (k j : ℕ) → j < unwrap_or (option_map length (slice_get (map (read_by l) cs) k)) 0
    → slice_get (get_or (map (read_by l) cs) k []) j ≡ option_map (read_literal l) (slice_get (get_or cs k []) j)
literal_told l cs k j h = literal_read l cs k j (omega (arith, length_or_zero (map (read_by l) cs) k, h))

pub literal_untold
    : (cs : List Clause) (k j : ℕ) → unwrap_or (option_map length (slice_get cs k)) 0 ≤ j → slice_get (get_or cs k []) j ≡ None
literal_untold cs k j h = slice_get_past (get_or cs k []) j (omega (arith, length_or_zero cs k, h))

-- and by how many the clause below is told to have
shown_of : (l : Layer) (cs : List Clause) (k : ℕ) → length (get_or (map (read_by l) cs) k []) ≡ shown l (unwrap_or (option_map length (slice_get cs k)) 0)
shown_of l cs k = ap length (read_at l cs k) ∙ length_read l (get_or cs k []) ∙ ap (shown l) (sym (length_or_zero cs k))

pub literal_shown
    : (l : Layer) (cs : List Clause) (k j : ℕ) → j < shown l (unwrap_or (option_map length (slice_get cs k)) 0)
    → slice_get (get_or (map (read_by l) cs) k []) j ≡ option_map (read_literal l) (slice_get (get_or cs k []) j)
literal_shown l cs k j h = literal_read l cs k j (omega (arith, shown_of l cs k, h))

pub literal_hidden
    : (l : Layer) (cs : List Clause) (k j : ℕ) → shown l (unwrap_or (option_map length (slice_get cs k)) 0) ≤ j
    → slice_get (get_or (map (read_by l) cs) k []) j ≡ None
literal_hidden l cs k j h = slice_get_past (get_or (map (read_by l) cs) k []) j (omega (arith, shown_of l cs k, h))
