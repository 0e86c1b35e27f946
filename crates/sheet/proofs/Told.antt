-- The clauses at a list of pairs, told one by one, and the literals of an implication.
use Rattle.std.specs.List.{slice_get}
use Rattle.std.proofs.Common.{◌≡◌, ℕ, suc, ◌+◌, ◌<◌, List, [], ◌∷◌, ◌++◌, map, length, get_or, pos, Some, sym, refl, ap, ◌∙◌, arith}
use Rattle.cnf.specs.Clauses.{Clause, minus}
use Rattle.std.proofs.lemmas.List.{get_or-map, length-map}
use Rattle.std.proofs.lemmas.Bool.{ne_eqb}
use Rattle.sheet.specs.Implications.{Premises, implication}
use Rattle.sheet.specs.Tables.{Table, entry}

abbrev pub clause_at : Premises → Table → ℕ × ℕ → Clause
clause_at ps t p = implication (ps p.0 p.1) t p

pub clause_told : {X : Type 0} (f : X → Clause) (xs : List X) (k : ℕ) (x : X) → k < length xs → x ≡ get_or xs k x → get_or (map f xs) k [] ≡ f x
clause_told f xs k x h e = get_or-map f xs k x [] h ∙ ap f (sym e)

-- a number of a table that is there
pub entry_there : (x : ℕ) → 0 < x → entry x ≡ Some x
entry_there x h = rw (ne_eqb x 0 (λ e. omega arith)) refl

-- behind another list
nth_behind : {X : Type 0} (xs ys : List X) (j : ℕ) → slice_get (xs ++ ys) (length xs + j) ≡ slice_get ys j
nth_behind [] ys j = ap (slice_get ys) (omega arith)
nth_behind (x ∷ xs) ys j =
    let e : suc (length xs) + j ≡ suc (length xs + j) = omega arith in ap (slice_get (x ∷ (xs ++ ys))) e ∙ nth_behind xs ys j

module _ (vs : List ℕ) (t : Table) (u w : ℕ) where
  -- behind the premises of a pair of two nodes comes the arc
  pub arc_told : (j : ℕ) → (u ≡ w → ⊥) → j ≡ length vs → Some (pos (t u w)) ≡ slice_get (implication vs t (u, w)) j
  arc_told j d e =
      rw (ne_eqb u w d)
      (let h = length-map vs minus in
      let i : j ≡ length (map minus vs) + 0 = omega arith in
      sym (ap (slice_get (map minus vs ++ (pos (t u w) ∷ []))) i ∙ nth_behind (map minus vs) (pos (t u w) ∷ []) 0))
