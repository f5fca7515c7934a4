-- What stopped before request L2, and the figures by that rule (01, "Loading figures"). Nothing but L2's sentence "every table accepted before is
-- still accepted" is about them. The forms that came later stop and weigh as their request says.
use Rattle.std.specs.Prelude.{ℕ, ◌+◌, ◌*◌, max, Bool, true, false, ◌&&◌, ◌||◌}
use Rattle.junior.specs.Program.{Program, Nothing, Stop, Atom, Seq, Par, Loop, Repeat, Generate, Await, When, Until}
use Rattle.junior.specs.Program.{Control, Local, Freezable, If}
use Rattle.junior.specs.Values.{most, surely}
use Rattle.junior.specs.Figures.{times, per, every}

-- "Stop and Loop do; Nothing, Atom, Generate, Await don't; Seq and Par if either child does; When and Until if both do; Control and Local as their
-- body; Repeat if its count is at least 1 and its body stops."
unfoldable pub stopped_before : Program → Bool
stopped_before Nothing = false
stopped_before Stop = true
stopped_before (Atom a) = false
stopped_before (Seq p q) = stopped_before p || stopped_before q
stopped_before (Par p q) = stopped_before p || stopped_before q
stopped_before (Loop p) = true
stopped_before (Repeat n p) = surely n && stopped_before p
stopped_before (Generate s) = false
stopped_before (Await c) = false
stopped_before (When c p q) = stopped_before p && stopped_before q
stopped_before (Until c p q) = stopped_before p && stopped_before q
stopped_before (Control s p) = stopped_before p
stopped_before (Local s p) = stopped_before p
stopped_before (Freezable s p) = false
stopped_before (If v p q) = stopped_before p && stopped_before q

-- "leaf k; Seq, Par, Until k plus both; When k plus the larger; Control, Local k plus body; Loop k plus twice body; Repeat k plus m times body, m
-- being the count, or at most 2 if the body stops"
unfoldable pub figure_before : (Program → ℕ) → Program → ℕ
figure_before k Nothing = k Nothing
figure_before k Stop = k Stop
figure_before k (Atom a) = k (Atom a)
figure_before k (Seq p q) = k (Seq p q) + (figure_before k p + figure_before k q)
figure_before k (Par p q) = k (Par p q) + (figure_before k p + figure_before k q)
figure_before k (Loop p) = k (Loop p) + 2 * figure_before k p
figure_before k (Repeat n p) = k (Repeat n p) + times (most n) (stopped_before p) * figure_before k p
figure_before k (Generate s) = k (Generate s)
figure_before k (Await c) = k (Await c)
figure_before k (When c p q) = k (When c p q) + max (figure_before k p) (figure_before k q)
figure_before k (Until c p q) = k (Until c p q) + (figure_before k p + figure_before k q)
figure_before k (Control s p) = k (Control s p) + figure_before k p
figure_before k (Local s p) = k (Local s p) + figure_before k p
figure_before k (Freezable s p) = k (Freezable s p) + figure_before k p
figure_before k (If v p q) = k (If v p q) + max (figure_before k p) (figure_before k q)

abbrev pub G_before : Program → ℕ
G_before p = figure_before (per 7) p

abbrev pub A_before : Program → ℕ
A_before p = figure_before (per 2) p

abbrev pub W_before : Program → ℕ
W_before p = figure_before every p
