-- Marks of which the first n are made zero, and the rest are left.
use Rattle.std.proofs.Common.{◌≡◌, ℕ, ◌-◌, ◌≤◌, List, ◌++◌, length, get_or, take, drop, replicate, ap, ◌∙◌, arith}
use Rattle.std.proofs.lemmas.List.{get_or_append_left, get_or-append_right, get_or-drop, get_or-replicate, length-replicate, length-take-le}
use Rattle.judge.specs.Marks.{Cleared}

pub cleared_front
    : (n : ℕ) (before front : List ℕ) → n ≤ length before → front ≡ replicate (length (take n before)) 0
    → Cleared n before (front ++ drop n before)
cleared_front n before front l e =
    let t = length-take-le n before l in
    let size : length front ≡ n = ap length e ∙ length-replicate (length (take n before)) 0 ∙ t in
    record {
      front = λ k h. get_or_append_left front (drop n before) 0 k (omega arith)
          ∙ ap (λ xs. get_or xs k 0) e ∙ get_or-replicate (length (take n before)) k 0 0 (omega arith);
      past = λ k h. get_or-append_right front (drop n before) n k 0 size h ∙ get_or-drop n before (k - n) 0
          ∙ ap (λ i. get_or before i 0) (omega arith);
    }
