-- The forms that wait, as the program for people shows them: the request's own example and one of each other form.
use Rattle.std.specs.Prelude.{◌≡◌}
use Rattle.letters.specs.Text.{bytes}
use Rattle.junior.specs.Configuration.{Event, Not, And, Or}
use Rattle.junior.specs.Program.{Stop, Atom, Await, When, Until, Control}
use Rattle.player.specs.Waiting.{waits_line}

pub record Examples : Type 0 where
  pub await_shown : waits_line 4 (Await (And (Event 0) (Not (Event 5)))) 5 ≡ bytes "waits at node 4 in Jr.Await((0 and (not 5))) for event 5\n"
  pub when_shown : waits_line 0 (When (Or (Event 3) (Event 4)) Stop (Atom 1)) 3 ≡ bytes "waits at node 0 in Jr.When((3 or 4), ..) for event 3\n"
  pub until_shown : waits_line 12 (Until (Event 8) Stop (Atom 1)) 8 ≡ bytes "waits at node 12 in Jr.Until(8, ..) for event 8\n"
  pub control_shown : waits_line 4095 (Control 255 Stop) 255 ≡ bytes "waits at node 4095 in Jr.Control(255, ..) for event 255\n"
