-- A sheet with nothing drawn keeps all that a sheet keeps.
use Rattle.std.proofs.Common.{◌≡◌, ℕ, zero, suc, ◌+◌, ◌*◌, ◌^◌, ◌<◌, ◌≤◌, Bool, true, false, cond, not, ◌&&◌, T, ltb, List, get_or, replicate, sym, refl, subst, arith}
use Rattle.graph.specs.Counts.{count}
use Rattle.sheet.proofs.Counts.{count_most}
use Rattle.sheet.specs.Phases.{is_fresh}
use Rattle.sheet.specs.View.{View, blank_view}
use Rattle.sheet.specs.declared.phase.Phase.{Phase}
use Rattle.sheet.specs.Tables.{Above, Apart, Below, Joins, Staying, Table, Upto, blank, table}

zeros : (n i : ℕ) → ◌≡◌ {A = ℕ} (get_or (replicate n 0) i 0) 0
zeros zero i = refl
zeros (suc n) zero = refl
zeros (suc n) (suc i) = zeros n i

pub blank_out : (n u : ℕ) → get_or (replicate n false) u false ≡ false
blank_out zero u = refl
blank_out (suc n) zero = refl
blank_out (suc n) (suc u) = blank_out n u

pub blank_table : table (replicate 4096 0) ≡ blank
blank_table = λ i u w. go u w (ltb u 64 && ltb w 64) i
  where
    go : (u w : ℕ) (b : Bool) → ◌≡◌ {A = ℕ} (cond b (get_or (replicate 4096 0) (u * 64 + w) 0) 0) 0
    go u w true = zeros 4096 (u * 64 + w)
    go u w false = refl

-- what the type of a sheet asks of its fields
abbrev pub Keeps : Phase → ℕ → ℕ → ℕ → Table → Table → List Bool → Type 0
Keeps f n v next pipe arc out = record {
  nodes_few : (1 ≤ n) × (n ≤ 64);
  valves_few : (1 ≤ v) × (v ≤ 60000);
  next_above : (v < next) × (next < 2 ^ 31);
  pipes_join : Joins n pipe;
  pipes_upto : Upto v pipe;
  arcs_join : Joins n arc;
  arcs_stay : Staying out arc;
  arcs_above : Above v arc;
  arcs_below : Below next arc;
  arcs_apart : Apart arc;
  fresh_next : T (is_fresh f) → next ≡ v + 1;
  fresh_arcs : (u w : ℕ) → T (is_fresh f) → arc u w ≡ 0;
  fresh_stays : (u : ℕ) → T (is_fresh f) → (T (get_or out u false) → ⊥);
  next_few : next + 4096 * count 64 (λ u. not (get_or out u false)) ≤ 326241;
}

blank_keeps
    : (f : Phase) (n v : ℕ) → (1 ≤ n) × (n ≤ 64) → (1 ≤ v) × (v ≤ 60000)
    → Keeps f n v (v + 1) blank blank (replicate 64 false)
blank_keeps f n v a b =
    let few = count_most 64 (λ u. not (get_or (replicate 64 false) u false)) in
    record {
      nodes_few = a;
      valves_few = b;
      next_above = (omega arith, omega (arith, b.1));
      pipes_join = λ u w h. absurd (omega arith);
      pipes_upto = λ u w. omega arith;
      arcs_join = λ u w h. absurd (omega arith);
      arcs_stay = λ u w h. absurd (omega arith);
      arcs_above = λ u w h. absurd (omega arith);
      arcs_below = λ u w. omega arith;
      arcs_apart = λ p q h. absurd (omega (arith, h.0));
      fresh_next = λ _. refl;
      fresh_arcs = λ u w _. refl;
      fresh_stays = λ u _ h. absurd (subst T (blank_out 64 u) h);
      next_few = omega (arith, b.1, few);
    }

-- a sheet both of whose tables are blank, and its view
module _ (f : Phase) (n v : ℕ) (pipe arc : Table) (e : pipe ≡ blank) (d : arc ≡ blank) where
  pub new_keeps : (1 ≤ n) × (n ≤ 64) → (1 ≤ v) × (v ≤ 60000) → Keeps f n v (v + 1) pipe arc (replicate 64 false)
  new_keeps a b =
      subst (λ (t : Table). Keeps f n v (v + 1) t arc (replicate 64 false)) (sym e)
      (subst (λ (t : Table). Keeps f n v (v + 1) blank t (replicate 64 false)) (sym d) (blank_keeps f n v a b))

  pub new_view
      : (number : ℕ)
      → ◌≡◌ {A = View}
      record {
        number = number;
        phase = f;
        nodes = n;
        valves = v;
        pipe = pipe;
        arc = arc;
        out = λ u. get_or (replicate 64 false) u false;
        next = v + 1;
      }
      (blank_view number f n v)
  new_view number = λ i.
      record {
        number = number;
        phase = f;
        nodes = n;
        valves = v;
        pipe = e i;
        arc = d i;
        out = λ u. blank_out 64 u i;
        next = v + 1;
      }
