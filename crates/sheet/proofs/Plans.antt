-- Plans: one pair more, and the clause at a pair.
use Rattle.std.proofs.Common.{◌≡◌, ℕ, Bool, ◌+◌, ◌*◌, ◌<◌, ◌≤◌, true, false, cond, List, [], ◌∷◌, ◌++◌, map, length, filter, sym, refl, ap, ◌∙◌, arith}
use Rattle.std.proofs.lemmas.Nat.{div-mul-add, mod-mul-add, mul-le}
use Rattle.std.proofs.lemmas.List.FromFn.{filter_of_map_range_with_len_more}
use Rattle.std.proofs.lemmas.List.{append-nil}
use Rattle.std.specs.List.{range_with_len}
use Rattle.bounded.specs.Lists.{entries, room}
use Rattle.bounded.specs.declared.Bounded.{Bounded}
use Rattle.sheet.specs.Plans.{arcs_in}
use Rattle.sheet.specs.declared.arcs.Arcs as memory
use Rattle.sheet.specs.Implications.{Arcs, Premises, has_premises, implication, implications, pair_at, pairs_with, planned}
use Rattle.sheet.specs.Implications.{with_arc, with_arcs}

pub few_pairs : (n : ℕ) → n ≤ 64 → n * n ≤ 4096
few_pairs n h = mul-le n n 64 64 h h

-- the pairs that are done once the first i pairs below n have been looked at
abbrev pub done : Premises → ℕ → ℕ → List (ℕ × ℕ)
done ps n i = filter (has_premises ps) (map (pair_at n) (range_with_len 0 i))

pub with_arcs_push : (k : Arcs) (ps : List (ℕ × ℕ)) (p : ℕ × ℕ) → with_arcs k (ps ++ (p ∷ [])) ≡ with_arc (with_arcs k ps) p
with_arcs_push k [] p = refl
with_arcs_push k (q ∷ ps) p = with_arcs_push (with_arc k q) ps p

-- p is the next pair
module _ (ps : Premises) (n i : ℕ) (p : ℕ × ℕ) (here : pair_at n i ≡ p) where
  done_more : (b : Bool) → has_premises ps p ≡ b → done ps n (i + 1) ≡ done ps n i ++ cond b (pair_at n i ∷ []) []
  done_more b h =
      filter_of_map_range_with_len_more (has_premises ps) (pair_at n) 0 i i (omega arith)
      ∙ ap (λ b. done ps n i ++ cond b (pair_at n i ∷ []) []) (ap (has_premises ps) here ∙ h)

  -- a pair without its premises is passed over
  pub done_past : has_premises ps p ≡ false → done ps n i ≡ done ps n (i + 1)
  done_past h = sym (done_more false h ∙ append-nil (done ps n i))

  -- one with its premises is noted
  pub done_noted : has_premises ps p ≡ true → done ps n i ++ (p ∷ []) ≡ done ps n (i + 1)
  done_noted h = ap (λ q. done ps n i ++ (q ∷ [])) (sym here) ∙ sym (done_more true h)

  pub arcs_noted
      : (k : Arcs) → has_premises ps p ≡ true → with_arc (with_arcs k (done ps n i)) p ≡ with_arcs k (done ps n (i + 1))
  arcs_noted k h = sym (with_arcs_push k (done ps n i) p) ∙ ap (with_arcs k) (done_noted h)

-- the pairs below n, row by row
pub pair_there : (n u w : ℕ) → w < n → pair_at n (u * n + w) ≡ (u, w)
pair_there n u w h = λ i. (div-mul-add u n w h i, mod-mul-add u n w h i)

-- once i pairs have been looked at, those with their premises are listed behind none, and have their arcs
pub record Looked (ps : Premises) (n : ℕ) (before : memory.Arcs) (places i : ℕ) (arcs : memory.Arcs) (pairs : Bounded (ℕ × ℕ)) : Type 0 where
  pub listed : entries pairs ≡ done ps n i
  pub given : arcs_in arcs ≡ with_arcs (arcs_in before) (done ps n i)
  pub few : length (entries pairs) ≤ i
  pub next : arcs.next ≤ before.next + i
  pub room : length (room pairs) ≡ places

pub done_all : (ps : Premises) (n i : ℕ) → i ≡ n * n → done ps n i ≡ pairs_with ps n
unfolding pairs_with
done_all ps n i e = ap (done ps n) e

pub planned_is : (ps : Premises) (n : ℕ) (k : Arcs) → with_arcs k (pairs_with ps n) ≡ planned ps n k
unfolding planned
planned_is ps n k = refl

-- a plan that was made for the premises tells their implications
pub implications_are
    : (ps : Premises) (n : ℕ) (k : Arcs) (qs : List (ℕ × ℕ)) (l : Arcs) → qs ≡ pairs_with ps n → l ≡ planned ps n k
    → map (λ p. implication (ps p.0 p.1) l.arc p) qs ≡ implications ps n k
unfolding implications
implications_are ps n k qs l e f = λ i. map (λ p. implication (ps p.0 p.1) (f i).arc p) (e i)
