-- Literals copied one by one to the front of a buffer.
use Rattle.std.specs.List.{slice_get}
use Rattle.std.proofs.Common.{◌≡◌, ℕ, ◌+◌, ◌-◌, ◌<◌, ◌≤◌, List, [], ◌∷◌, ◌++◌, length, map, get_or, take, drop, set, unwrap_or, sym, ap, ◌∙◌, arith}
use Rattle.std.proofs.lemmas.Option.{slice_get-get_or, slice_get-map, unwrap_or-slice_get}
use Rattle.std.proofs.Math.ListN.{get_or-map}
use Rattle.std.proofs.lemmas.List.{append-nil, append_assoc, drop_all, drop_more, get_or-drop, length-drop, length-take-le, set_at, take_more}
use Rattle.std.specs.Option.{option_map}

-- the length of an entry of a list of lists, or 0, is the length of what stands there
pub length_or_zero : {X : Type 0} (xs : List (List X)) (k : ℕ) → unwrap_or (option_map length (slice_get xs k)) 0 ≡ length (get_or xs k [])
length_or_zero xs k =
    ap (λ o. unwrap_or o 0) (sym (slice_get-map length xs k)) ∙ unwrap_or-slice_get (map length xs) k 0 ∙ get_or-map length xs k []

-- one literal more
pub copied_more
    : {X : Type 0} (c out now : List X) (from i : ℕ) (x : X) → i < length c - from → i < length out
    → now ≡ take i (drop from c) ++ drop i out → x ≡ get_or c (from + i) x
    → set now i x ≡ take (i + 1) (drop from c) ++ drop (i + 1) out
copied_more c out now from i x l k e is =
    let d = length-drop from c in
    let t = length-take-le i (drop from c) (omega arith) in
    let m : get_or (drop from c) i x ≡ x = get_or-drop from c i x ∙ sym is in
    ap (λ ys. set ys i x) (e ∙ ap (λ ys. take i (drop from c) ++ ys) (drop_more out i x k))
    ∙ set_at (take i (drop from c)) (get_or out i x) (drop (i + 1) out) x i t
    ∙ sym (append_assoc (take i (drop from c)) (x ∷ []) (drop (i + 1) out))
    ∙ ap (λ ys. ys ++ drop (i + 1) out) (sym (take_more (drop from c) i x (omega arith) ∙ ap (λ y. take i (drop from c) ++ (y ∷ [])) m))

pub value_at : {X : Type 0} (xs : List X) (j : ℕ) (d e : X) → j < length xs → unwrap_or (slice_get xs j) d ≡ get_or xs j e
value_at xs j d e h = ap (λ o. unwrap_or o d) (slice_get-get_or xs j e h)

-- what is left of the places for n literals, when they are copied, is none
pub copied_front
    : {X : Type 0} (c out now : List X) (from i n : ℕ) → i ≡ length (take n out)
    → now ≡ take i (drop from c) ++ drop i (take n out)
    → n ≤ length out → now ≡ take n (drop from c)
copied_front c out now from i n e h l =
    let k = length-take-le n out l in
    let m : i ≡ n = omega arith in
    h ∙ ap (λ xs. take i (drop from c) ++ xs) (drop_all i (take n out) (omega arith)) ∙ append-nil _ ∙ ap (λ i. take i (drop from c)) m
