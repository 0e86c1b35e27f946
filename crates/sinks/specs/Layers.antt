-- What a layer over a sink means, from what the sink below means. Assumes nothing.
--     stored_by l c, read_by l c     a clause as a layer stores it below; a clause below as a layer reads it
--     reads_all l                    a layer reads every literal of a clause, each in its place
--     shown l n                      how many literals a layer reads of a clause of n
--     read_literal l z               a literal below as a layer reads it
--     guard_longest g top longest    the most literals that a guard takes: one less than below, or none where its literal is bad
--     layer_top l top, layer_longest l top longest    the largest variable and the most literals that a layer takes over a sink
--                                    with these limits
--     priced top longest cost stored c    what a clause costs below as it is stored there, or 0 where it is refused here
--     layered l s                    a layer over a sink: itself on the layers below, with the same bottom
--     guarded g s, shifted d s       a guard with literal g; an offset by d
use Rattle.std.specs.Prelude.{ℕ, ◌-◌, Bool, true, false, cond, [], ◌∷◌, ℤ}
use Rattle.cnf.specs.Clauses.{Clause, bad_length, bad_literal, has_bad_literal}
use Rattle.cnf.specs.States.{Layer, State, guard, lowered, offset, read_as, stored_as}

abbrev pub stored_by : Layer → Clause → Clause
stored_by l c = stored_as (l ∷ []) c

abbrev pub read_by : Layer → Clause → Clause
read_by l c = read_as (l ∷ []) c

abbrev pub reads_all : Layer → Bool
reads_all (guard g) = false
reads_all (offset d) = true

abbrev pub shown : Layer → ℕ → ℕ
shown (guard g) n = n - 1
shown (offset d) n = n

abbrev pub read_literal : Layer → ℤ → ℤ
read_literal (guard g) z = z
read_literal (offset d) z = lowered d z

abbrev pub guard_longest : ℤ → ℕ → ℕ → ℕ
guard_longest g top longest = cond (bad_literal top g) 0 (longest - 1)

abbrev pub layer_top : Layer → ℕ → ℕ
layer_top (guard g) top = top
layer_top (offset d) top = top - d

abbrev pub layer_longest : Layer → ℕ → ℕ → ℕ
layer_longest (guard g) top longest = guard_longest g top longest
layer_longest (offset d) top longest = longest

abbrev pub priced : ℕ → ℕ → (Clause → ℕ) → (Clause → Clause) → Clause → ℕ
priced top longest cost stored c = cond (bad_length longest c) 0 (cond (has_bad_literal top c) 0 (cost (stored c)))

abbrev pub layered : Layer → State → State
layered l s = record {
  top = layer_top l s.top;
  longest = layer_longest l s.top s.longest;
  cost = priced (layer_top l s.top) (layer_longest l s.top s.longest) s.cost (stored_by l);
  entries = s.entries;
  units = s.units;
  spare = s.spare;
  spare_pairs = s.spare_pairs;
  layers = l ∷ s.layers;
  bottom = s.bottom;
}

abbrev pub guarded : ℤ → State → State
guarded g = layered (guard g)

abbrev pub shifted : ℕ → State → State
shifted d = layered (offset d)
