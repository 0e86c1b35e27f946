-- Draw. Assumes nothing.
--     draw_refusal s m p       why the pipe p is not drawn on the sheet s with a token of number m, or none where it is:
--                              the first of the causes that fits, in the order of their numbers
--     drawn s p                the sheet with one pipe more
--     draw_step s m p          what draw leaves: one pipe more, or the sheet as it was
use Rattle.std.specs.Prelude.{ℕ, cond, not, ◌&&◌, is_some, None, Option, ◌==◌, nat_le, nat_lt}
use Rattle.sheet.specs.Phases.{is_drawing}
use Rattle.sheet.specs.Refusals.{unless}
use Rattle.sheet.specs.Tables.{put}
use Rattle.sheet.specs.View.{View, with_pipes}
use Rattle.sheet.specs.declared.pipe.Pipe.{Pipe}
use Rattle.sheet.specs.declared.refusal.SheetRefusal.{SheetRefusal}
use Rattle.sheet.specs.declared.refusal.SheetRefusal.TheVariants.{WrongToken, NoSuchNode, SelfLoop, NoSuchValve, PairTaken}

abbrev pub draw_refusal : View → ℕ → Pipe → Option SheetRefusal
draw_refusal s m p =
    unless (m == s.number && is_drawing s.phase) WrongToken
    (unless (nat_lt p.from s.nodes && nat_lt p.to s.nodes) NoSuchNode
    (unless (not (p.from == p.to)) SelfLoop
    (unless (nat_le 1 p.valve && nat_le p.valve s.valves) NoSuchValve
    (unless (s.pipe p.from p.to == 0) PairTaken
    None))))

abbrev pub drawn : View → Pipe → View
drawn s p = with_pipes s (put s.pipe p.from p.to p.valve)

abbrev pub draw_step : View → ℕ → Pipe → View
draw_step s m p = cond (is_some (draw_refusal s m p)) s (drawn s p)
