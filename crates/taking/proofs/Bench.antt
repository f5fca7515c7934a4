-- The examples of takings hold: what each leaves is worked out from its bytes.
use Prim.Native.Nat.{ℕ}
use mathlib.Core.Path.{◌≡◌, refl, ap, sym, ◌∙◌}
use mathlib.Core.List.{List, [], ◌∷◌, map}
use Rattle.events.specs.Events.{lowest}
use Rattle.junior.specs.Configuration.{early_true, early_false}
use Rattle.junior.specs.Program.{size, kind}
use Rattle.junior.specs.Figures.{stops, figure}
use Rattle.junior.specs.Parked.{All, no_more, next}
use Rattle.table.specs.Good.{is_laid_out, children, argument_limit, good_node, parts, good_but_height, height_at_most, good_configuration}
use Rattle.table.specs.Spells.{form, configuration_of, program_of}
use Rattle.table.specs.Part.{part_table}
use Rattle.table.specs.Verdict.{numbered_by, length_good, counts_good, distances_good}
use Rattle.table.specs.Verdict.{preorder, first_such, light, program_verdict, nodes_verdict, records_verdict, verdict_of}
use Rattle.state.specs.Resting.{zero_node, zero_nodes, phase_rests, flags_rest, count_rests, rests}
use Rattle.store.specs.Store.{is_body, piece_good, pieces_good, store_good, without, newest_from, newest}
use Rattle.taking.specs.Taking.{taking_number, taking_index, take_outcome}
use Rattle.taking.specs.Bench.{Line, Answers, phases, takings, refusals, Bench}
use Rattle.taking.proofs.OneTaking.{Outcome, worked_out_by, worked_out, is_worked_out, worked_out_took}

-- an outcome with its number and index
record Seen : Type 0 where
  outcome : Outcome
  number : ℕ
  index : ℕ

claimed : Line → Seen
claimed x =
    record {
      outcome = record { answer = x.answer; store = x.store_after; table = x.table_after; state = x.state_after };
      number = x.number;
      index = x.index;
    }

computed : Line → Seen
computed x =
    let o = worked_out x.table x.store x.event x.table_room x.state_room in
    record { outcome = o; number = numbered_by taking_number o.answer; index = numbered_by taking_index o.answer }

answers_so : (x : Line) → computed x ≡ claimed x → Answers x
unfolding claimed computed
answers_so x e =
    let is = sym (ap (λ z. z.outcome) e) in
    record {
      took = worked_out_took x.table x.store x.event x.table_room x.state_room _ is;
      only = λ {s} {a} {b} {q} h.
          let o : Outcome = record { answer = q; store = s; table = a; state = b } in
          let same = is_worked_out x.table x.store x.event x.table_room x.state_room o h ∙ sym is in
          (ap (λ z. z.answer) same, ap (λ z. z.store) same, ap (λ z. z.table) same, ap (λ z. z.state) same);
      number_is = ap (λ z. numbered_by taking_number z.answer) is ∙ ap (λ z. z.number) e;
      index_is = ap (λ z. numbered_by taking_index z.answer) is ∙ ap (λ z. z.index) e;
    }

all_so : (l : List Line) → map computed l ≡ map claimed l → All Answers l
all_so [] e = no_more
all_so (x ∷ l) e =
    let this : computed x ≡ claimed x = cc in
    let those : map computed l ≡ map claimed l = cc in
    next (answers_so x this) (all_so l those)

pub bench : Bench
unfolding claimed computed lowest size kind stops early_true early_false figure is_laid_out children argument_limit good_node parts good_but_height height_at_most
    good_configuration form configuration_of program_of part_table length_good counts_good distances_good preorder first_such light
    program_verdict nodes_verdict records_verdict verdict_of zero_node zero_nodes phase_rests flags_rest count_rests rests is_body piece_good pieces_good
    store_good without newest_from newest take_outcome phases worked_out_by
bench = (all_so takings refl, all_so refusals refl)
