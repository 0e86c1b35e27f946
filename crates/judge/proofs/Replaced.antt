-- A list after `push` and after `replace`, where the places suffice.
use Rattle.std.proofs.Common.{◌≡◌, ◌+◌, ◌<◌, Bool, true, cond, ltb, List, [], ◌∷◌, ◌++◌, length, get_or, drop, set, sym, refl, ap, ◌∙◌, arith}
use Rattle.bounded.specs.Lists.{Replaced, entries, room}
use Rattle.bounded.specs.declared.Bounded.{Bounded}
use Rattle.std.proofs.lemmas.List.{append_assoc, drop_more, length-append, length-drop, length_push, set_at}
use Rattle.std.proofs.lemmas.Bool.{lt-ltb}

-- one entry more, in place of the old ones
push_room
    : {T : Type 0} (new : List T) (x : T) (old : List T) → length new < length old
    → set (new ++ drop (length new) old) (length new) x ≡ (new ++ x ∷ []) ++ drop (length (new ++ x ∷ [])) old
push_room new x old l =
    let d = drop_more old (length new) x l in
    let n : length (new ++ x ∷ []) ≡ length new + 1 = length_push new x in
    rw (d, set_at new (get_or old (length new) x) (drop (length new + 1) old) x (length new) refl, n)
    (sym (append_assoc new (x ∷ []) (drop (length new + 1) old)))

module _ {T : Type 0} (new : List T) (b c : Bounded T) (r : Replaced new b c) (l : length new < length (room b)) where
  pub push_fits : ltb (length (entries c)) (length (room c)) ≡ true
  push_fits =
      let long : length (room c) ≡ length (room b) =
      ap length r.room_is ∙ length-append new (drop (length new) (room b)) ∙ omega (arith, length-drop (length new) (room b), l) in
      lt-ltb _ _ (omega (arith, long, l, ap length r.entries_are))

  pub push_replaced
      : (x : T) (ok : Bool) (d : Bounded T) → ok ≡ ltb (length (entries c)) (length (room c))
      → entries d ≡ cond ok (entries c ++ x ∷ []) (entries c)
      → room d ≡ cond ok (set (room c) (length (entries c)) x) (room c) → d.places.ghost_name ≡ c.places.ghost_name
      → Replaced (new ++ x ∷ []) b d
  push_replaced x ok d test e m g =
      let t = test ∙ push_fits in
      record {
        entries_are = rw t at e ∙ ap (λ xs. xs ++ x ∷ []) r.entries_are;
        room_is = rw t at m ∙ (λ i. set (r.room_is i) (length (r.entries_are i)) x) ∙ push_room new x (room b) l;
        lent = g ∙ r.lent;
      }
