-- A sheet as its callers see it. Assumes nothing.
--     View       number and phase; how many nodes and valves; pipes by their valves and arcs by their variables, 0 for
--                none; which nodes are out; the next free variable
--     view s     the view of a sheet in memory
--     blank_view m f n v    the view of a sheet with nothing drawn, of number m, in the phase f, with n nodes and v valves
--     unmade     the view of a place where no sheet has been made
--     new        the view of a new sheet, with nothing drawn
--     with_pipes s t    the sheet with the pipes t
--     arcs_of s  its arcs and its next free variable
--     with_arcs_of s f k out    the sheet in the phase f, with the arcs and the next free variable k, and the eliminated nodes out
use Rattle.std.specs.Prelude.{ℕ, ◌+◌, Bool, false, slice_index_or}
use Rattle.sheet.specs.Implications.{Arcs}
use Rattle.sheet.specs.Tables.{Table, blank, table}
use Rattle.sheet.specs.declared.phase.Phase.{Phase}
use Rattle.sheet.specs.declared.phase.Phase.TheVariants.{Drawing, Unmade}
use Rattle.sheet.specs.declared.place.Sheet.{Sheet}

pub record View : Type 0 where
  pub number : ℕ
  pub phase : Phase
  pub nodes : ℕ
  pub valves : ℕ
  pub pipe : Table
  pub arc : Table
  pub out : ℕ → Bool
  pub next : ℕ

abbrev pub view : Sheet → View
view s = record {
  number = s.number;
  phase = s.phase;
  nodes = s.nodes;
  valves = s.valves;
  pipe = table s.pipes.numbers;
  arc = table s.arcs.variables.numbers;
  out = λ u. slice_index_or s.out u false;
  next = s.arcs.next;
}

abbrev pub blank_view : ℕ → Phase → ℕ → ℕ → View
blank_view number f nodes valves = record {
  number = number;
  phase = f;
  nodes = nodes;
  valves = valves;
  pipe = blank;
  arc = blank;
  out = λ _. false;
  next = valves + 1;
}

abbrev pub unmade : View
unmade = blank_view 0 Unmade 1 1

abbrev pub new : ℕ → ℕ → ℕ → View
new number nodes valves = blank_view number Drawing nodes valves

abbrev pub with_pipes : View → Table → View
with_pipes s t = record {
  number = s.number;
  phase = s.phase;
  nodes = s.nodes;
  valves = s.valves;
  pipe = t;
  arc = s.arc;
  out = s.out;
  next = s.next;
}

abbrev pub arcs_of : View → Arcs
arcs_of s = record { arc = s.arc; next = s.next }

abbrev pub with_arcs_of : View → Phase → Arcs → (ℕ → Bool) → View
with_arcs_of s f k out = record {
  number = s.number;
  phase = f;
  nodes = s.nodes;
  valves = s.valves;
  pipe = s.pipe;
  arc = k.arc;
  out = out;
  next = k.next;
}
