-- The pipes of a ring, listed one by one.
use Rattle.std.proofs.Common.{◌≡◌, ℕ, ◌+◌, ◌-◌, ◌<◌, false, List, [], ◌∷◌, ◌++◌, map, drop, length, get_or, Option, Some, None, ap, ◌∙◌, inl, inr, refl, arith, Iter}
use Rattle.std.proofs.iter.Yields.{fronts}
use Rattle.std.proofs.lemmas.Bool.{cases_lt, le-ltb, lt-ltb}
use Rattle.std.proofs.lemmas.Iterator.{YieldsList, YieldsList-from_slice, YieldsList-from_zip, zips}
use Rattle.std.proofs.lemmas.Iterator.Adapters.{YieldsList-from_skip}
use Rattle.std.proofs.lemmas.Iterator.Consumers.{YieldsList-from_chain, YieldsList-turn}
use Rattle.std.proofs.lemmas.List.{get_or_default, get_or-drop, length-append, length-drop}
use Rattle.std.proofs.lemmas.Slice.Zip.{get_or-zip, length-zip}
use Rattle.std.proofs.Math.ListN.{get_or-append}
use Rattle.std.proofs.Math.Seq.{get_or-append_right}
use Rattle.std.specs.Iterator.{Yields}
use Rattle.std.specs.Iterator.Adapters.{chain_first, chain_first_done, chain_second, chain_second_done, chain_steps, skip_count, skip_source, skip_steps, zip_first, zip_second}
use Rattle.std.specs.List.{zip}
use Rattle.std.specs.Slice.Iter.{iter_rest}
use Rattle.std.specs.declared.iter.Chain.{Chain}
use Rattle.std.specs.declared.iter.Skip.{Skip}
use Rattle.std.specs.declared.iter.Zip.{Zip}
use Rattle.std.specs.Option.{IsSome}
use denote.Ref.{Bor}
use Rattle.bounded.specs.Lists.{Replaced}
use Rattle.bounded.specs.declared.Bounded.{Bounded}
use Rattle.sheet.specs.Tables.{Table, entry}
use Rattle.sheet.specs.declared.pipe.Pipe.{Pipe}
use Rattle.std.proofs.lemmas.List.FromFn.{map-range_with_len_more}
use Rattle.std.proofs.lemmas.Bool.Decides.{nat_tests}
use Rattle.std.specs.List.{range_with_len}
use Rattle.judge.specs.Verdict.{after, ring_pipe}

pub ring_pipe_is
    : (pipe : Table) (ns : List ℕ) (k from to valve : ℕ) → from ≡ get_or ns k 0 → to ≡ after ns k
    → Some valve ≡ entry (pipe from to) → record { from = from; to = to; valve = valve } ≡ ring_pipe pipe ns k
ring_pipe_is pipe ns k from to valve f t v = let e : valve ≡ pipe from to = grind (arith, nat_tests, v) in cc

-- the pipe that is drawn between the nodes that a turn reads
pub drawn_entry : (pipe : Table) (u w a b : ℕ) (o : Option ℕ) → 0 < pipe a b → u ≡ a → w ≡ b → o ≡ entry (pipe u w) → IsSome o
drawn_entry pipe u w a b None d e f h = let n : pipe u w ≡ pipe a b = cc in absurd (grind (arith, nat_tests, d, n, h))
drawn_entry pipe u w a b (Some v) d e f h = refl

-- the pipes of a ring's first nodes, and the pipe of one node more
pub pipes_more
    : (f : ℕ → Pipe) (k : ℕ) (p : Pipe) (b c : Bounded Pipe) → p ≡ f k → Replaced (map f (range_with_len 0 k) ++ p ∷ []) b c
    → Replaced (map f (range_with_len 0 (k + 1))) b c
pipes_more f k p b c e r =
    let m = map-range_with_len_more f 0 k k (omega arith) in rw (m, ← e) r

-- a ring's nodes beside those from its second on with the whole ring after them, as a loop reads them two by two
module _ (ns : List ℕ) (s : Zip (Iter ℕ) (Chain (Skip (Iter ℕ)) (Iter ℕ)))
    (nodes : iter_rest (zip_first s) ≡ ns) (others : iter_rest (skip_source (chain_first (zip_second s))) ≡ ns)
    (one : skip_count (chain_first (zip_second s)) ≡ 1) (again : iter_rest (chain_second (zip_second s)) ≡ ns)
    (more : chain_first_done (zip_second s) ≡ false) (most : chain_second_done (zip_second s) ≡ false) where
  abbrev nexts : List ℕ
  nexts = drop 1 ns ++ ns

  nexts_length : length nexts ≡ length ns - 1 + length ns
  nexts_length = omega (arith, length-append (drop 1 ns) ns, length-drop 1 ns)

  pairs : YieldsList (zips fronts (chain_steps (skip_steps fronts) fronts)) (λ p. (p.0.now, p.1.now)) s (zip ns nexts)
  pairs =
      YieldsList-from_zip (YieldsList-from_slice ns nodes)
      (YieldsList-from_chain (YieldsList-from_skip 1 (YieldsList-from_slice ns others) one) (YieldsList-from_slice ns again) more most)

  pairs_length : length (zip ns nexts) ≡ length ns
  pairs_length = omega (arith, length-zip ns nexts, nexts_length)

  next_is : (k : ℕ) → k < length ns → get_or nexts k 0 ≡ after ns k
  next_is k l =
      elim (cases_lt (k + 1) (length ns)) [
        | inl h ↦
            let i : 1 + k ≡ k + 1 = omega arith in
            rw (lt-ltb _ _ h)
            (get_or-append (drop 1 ns) ns 0 k (omega (arith, h, length-drop 1 ns)) ∙ get_or-drop 1 ns k 0 ∙ ap (λ i. get_or ns i 0) i)
        | inr h ↦
            let i : k - length (drop 1 ns) ≡ 0 = omega (arith, l, h, length-drop 1 ns) in
            rw (le-ltb _ _ h)
            (get_or-append_right (drop 1 ns) ns k 0 (omega (arith, l, h, length-drop 1 ns)) ∙ ap (λ i. get_or ns i 0) i)
      ]

  module _ (xs : List (Bor ℕ × Bor ℕ)) (t u : Zip (Iter ℕ) (Chain (Skip (Iter ℕ)) (Iter ℕ))) (r : Option (Bor ℕ × Bor ℕ))
      (y : Yields (zips fronts (chain_steps (skip_steps fronts) fronts)) s xs t)
      (h : zips fronts (chain_steps (skip_steps fronts) fronts) t r u) where
    pub pair_turn
        : (x : Bor ℕ × Bor ℕ) → r ≡ Some x
        → (length xs < length ns) × (x.0.now ≡ get_or ns (length xs) 0) × (x.1.now ≡ after ns (length xs))
    pair_turn x e =
        let turn = YieldsList-turn pairs xs t y r u x e h in
        let l : length xs < length ns = omega (arith, turn.0, pairs_length) in
        let m : length xs < length nexts = omega (arith, l, nexts_length) in
        let at = turn.1 ∙ get_or-zip ns nexts (length xs) _ l m in (
          l,
          ap (λ p. p.0) at ∙ get_or_default ns (length xs) _ 0 l,
          ap (λ p. p.1) at ∙ get_or_default nexts (length xs) _ 0 m ∙ next_is (length xs) l,
        )
