-- A fresh term: its program, that it is held if the program stops, that it is at rest, and how it reads.
use mathlib.Core.Bool.{◌&&◌, ◌||◌}
use mathlib.Core.Path.{◌≡◌, refl, ap, ap₂}
use Rattle.junior.specs.declared.Flag.TheVariants.{SUSP}
use Rattle.junior.specs.Configuration.{early_true}
use Rattle.junior.specs.Program.{Program, Nothing, Stop, Atom, Seq, Par, Loop, Repeat, Generate, Await, When}
use Rattle.junior.specs.Program.{Until, Control, Local, Freezable, If}
use Rattle.junior.specs.Term.{prog, fresh}
use Rattle.junior.specs.Figures.{only_if, stops}
use Rattle.junior.specs.AtRest.{AtRest}
use Rattle.junior.specs.Inside.{held}
use Rattle.junior.specs.Printed.{Abstract, tr, reads}

record Fresh (p : Program) : Type 0 where
  program_is : prog (fresh p) ≡ p
  held_so : held (fresh p) ≡ stops p
  rests : AtRest (fresh p)
  reads_so : reads (fresh p) ≡ tr p

by_form : (p : Program) → Fresh p
unfolding prog fresh held stops AtRest reads tr
by_form Nothing = record { program_is = refl; held_so = refl; rests = tt; reads_so = refl }
by_form Stop = record { program_is = refl; held_so = refl; rests = tt; reads_so = refl }
by_form (Atom a) = record { program_is = refl; held_so = refl; rests = tt; reads_so = refl }
by_form (Seq p q) =
    let f = by_form p in
    record {
      program_is = ap (λ x. Seq x q) f.program_is;
      held_so = ap (λ x. x || stops q) f.held_so;
      rests = f.rests;
      reads_so = ap (λ t. Abstract.Seq t (tr q)) f.reads_so;
    }
by_form (Par p q) =
    let f = by_form p in
    let g = by_form q in
    record {
      program_is = ap₂ Par f.program_is g.program_is;
      held_so = ap₂ ◌||◌ f.held_so g.held_so;
      rests = (tt, tt, tt, f.rests, g.rests);
      reads_so = ap₂ (Abstract.Par SUSP SUSP) f.reads_so g.reads_so;
    }
by_form (Loop p) = record { program_is = refl; held_so = refl; rests = tt; reads_so = refl }
by_form (Repeat n p) = record { program_is = refl; held_so = refl; rests = tt; reads_so = refl }
by_form (Generate s) = record { program_is = refl; held_so = refl; rests = tt; reads_so = refl }
by_form (Await c) = record { program_is = refl; held_so = refl; rests = tt; reads_so = refl }
by_form (When c p q) = record { program_is = refl; held_so = refl; rests = tt; reads_so = refl }
by_form (Until c p q) =
    let f = by_form p in
    record {
      program_is = ap (λ x. Until c x q) f.program_is;
      held_so = ap (λ x. x && only_if (early_true c) (stops q)) f.held_so;
      rests = f.rests;
      reads_so = ap (λ t. Abstract.Until c t (tr q)) f.reads_so;
    }
by_form (Control s p) =
    let f = by_form p in
    record { program_is = ap (Control s) f.program_is; held_so = f.held_so; rests = f.rests; reads_so = ap (Abstract.Control s) f.reads_so }
by_form (Local s p) =
    let f = by_form p in
    record {
      program_is = ap (Local s) f.program_is;
      held_so = f.held_so;
      rests = (refl, f.rests);
      reads_so = ap (Abstract.Local- s) f.reads_so;
    }
by_form (Freezable s p) =
    let f = by_form p in
    record { program_is = ap (Freezable s) f.program_is; held_so = refl; rests = f.rests; reads_so = ap (Abstract.Freezable s) f.reads_so }
by_form (If v p q) = record { program_is = refl; held_so = refl; rests = tt; reads_so = refl }

pub prog_fresh : (p : Program) → prog (fresh p) ≡ p
prog_fresh p = (by_form p).program_is

pub held_fresh : (p : Program) → held (fresh p) ≡ stops p
held_fresh p = (by_form p).held_so

pub fresh_at_rest : (p : Program) → AtRest (fresh p)
fresh_at_rest p = (by_form p).rests

pub reads_fresh : (p : Program) → reads (fresh p) ≡ tr p
reads_fresh p = (by_form p).reads_so
