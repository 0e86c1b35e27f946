-- Mark bytes. Assumes nothing.
--     unmarked marks u           the node u has no mark
--     Cleared n before after     the first n bytes are zero, and those past them as before
use Rattle.std.specs.Prelude.{◌≡◌, ℕ, ◌<◌, ◌≤◌, Bool, List, ◌==◌, slice_index}

abbrev pub unmarked : List ℕ → ℕ → Bool
unmarked marks u = slice_index marks u == 0

pub record Cleared (n : ℕ) (before after : List ℕ) : Type 0 where
  pub front : (k : ℕ) → k < n → slice_index after k ≡ 0
  pub past : (k : ℕ) → n ≤ k → slice_index after k ≡ slice_index before k
