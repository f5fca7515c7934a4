-- The examples hold: the offsets and the tables by computation.
use Prim.Native.Nat.{ℕ, zero, suc, ◌*◌, ◌+◌, ◌≤◌, ◌<◌}
use mathlib.Core.Bool.{Bool, true, false, false≢true}
use mathlib.Core.Path.{◌≡◌, refl, ap, sym, ◌∙◌}
use mathlib.Core.List.{List, [], ◌∷◌}
use native.Mathlib.Omega.{arith}
use lib.ListN.{length, length-replicate}
use Rattle.std.specs.Prelude.{Ok, Err}
use Rattle.events.specs.Events.{lowest}
use Rattle.junior.specs.Figures.{stops, figure}
use Rattle.letters.specs.Decimal.{decimal}
use Rattle.letters.specs.Text.{bytes}
use Rattle.junior.specs.Configuration.{Event, Not, And, early_true, early_false}
use Rattle.junior.specs.Program.{Program, Nothing, Stop, Atom, Seq, Par, Loop, Repeat, Generate, Await, When, Local, Freezable, If, size}
use Rattle.junior.specs.Program.{kind}
use Rattle.junior.specs.Values.{asked}
use Rattle.table.specs.declared.TableRefusal.{TableRefusal}
use Rattle.table.specs.declared.TableRefusal.TheVariants.{BadLength, BadCounts, EndlessLoop}
use Rattle.table.specs.Good.{is_laid_out, children, argument_limit, good_node, parts, good_but_height, height_at_most}
use Rattle.table.specs.Good.{good_configuration}
use Rattle.table.specs.Spells.{weight, configuration_of, form, program_of, tree_of}
use Rattle.table.specs.Verdict.{length_good, counts_good, distances_good, preorder, first_such, light}
use Rattle.table.specs.Verdict.{program_verdict, nodes_verdict, records_verdict, verdict_of, number_of}
use Rattle.text.specs.declared.ReadRefusal.TheVariants as answered
use Rattle.text.specs.declared.PrintRefusal.TheVariants as told
use Rattle.form.specs.Form.{says_event, Says, whole, says_nothing, says_atom, says_seq, last_of_seq}
use Rattle.form.specs.Form.{more_of_seq}
use Rattle.form.specs.Form.{says_par, last_of_par, says_generate, says_await}
use Rattle.form.specs.Spelling.{spell_test, spell}
use Rattle.form.specs.InForm.{InForm}
use Rattle.form.specs.Made.{named_in, named, tests, nodes_from, test_records, tests_of, trailer, table_of, needed}
use Rattle.letters.specs.Text.{beginning}
use Rattle.text.specs.Answers.{Reads, Prints, Fits}
use Rattle.text.specs.Examples.{All, none, more, blank, controls, shared, await_1023, freezable_1, asked_15, if_3, examples_list}
use Rattle.form.specs.Inside.Machine.{Next, dead, on, run, reach}
use Rattle.form.specs.Inside.ReadTo.{start}
use Rattle.form.proofs.Spelled.{says_spell}
use Rattle.form.proofs.FailsHere.{stops as stops_there, fails as fails_there}
use Rattle.form.proofs.RoundTrip.{made_too_large}

-- nothing is still to come
abbrev read_whole : Next → Bool
read_whole dead = false
read_whole (on []) = true
read_whole (on (s ∷ σ)) = false

fails_here : (w room : List ℕ) → read_whole (run start w) ≡ false → Reads w room room (Err (answered.Fails (reach start w)))
fails_here w room h =
    Reads.fails (reach start w) (fails_there w _ (stops_there w start) (λ e. false≢true (sym h ∙ ap read_whole e)))

-- F9
controls_size : (n : ℕ) → size (controls n) ≡ suc n
unfolding controls size
controls_size zero = refl
controls_size (suc n) = omega (arith, controls_size n)

controls_tests : (n : ℕ) → tests (controls n) ≡ 0
unfolding controls tests
controls_tests zero = refl
controls_tests (suc n) = controls_tests n

controls_form : (n : ℕ) → InForm (controls n)
unfolding controls
controls_form zero = tt
controls_form (suc n) = (omega arith, controls_form n)

too_large : (n : ℕ) → 4096 ≤ n → n ≤ 5460 → (room : List ℕ) → 6 * n + 16 ≤ length room
    → Reads (spell (controls n)) room room (Err (answered.Table BadCounts))
too_large n a b room l =
    let p = controls n in
    let f = controls_form n in
    let e = made_too_large p f (omega (arith, controls_size n, controls_tests n)) (omega (arith, controls_size n)) in
    Reads.refused p (says_spell p f)
    (omega (arith, controls_size n, controls_tests n), omega (arith, controls_size n, controls_tests n))
    e

module _ {p : Program} {w : List ℕ} (d : Says (whole p) w) (room : List ℕ) where
  refuses : Fits (needed p) room → (why : TableRefusal) → verdict_of (table_of p) ≡ Err why → Reads w room room (Err (answered.Table why))
  refuses f why e = Reads.refused p d f e

  short : length room < needed p → Reads w room room (Err answered.NoRoom)
  short l = Reads.no_room p d (λ f. omega arith)

  reads : Fits (needed p) room → number_of (verdict_of (table_of p)) ≡ 0 → Reads w room (beginning (table_of p) room) (Ok (needed p))
  reads f e = Reads.read p d f e

-- P, its Seq with three parts
says_p : Says (whole (Par (Seq (Await (Event 0)) (Seq (Atom 7) (Generate 1))) (Await (Event 1))))
    (bytes "Jr.Par(Jr.Seq(Jr.Await(0), Jr.Atom(7), Jr.Generate(1)), Jr.Await(1))")
unfolding decimal
says_p =
    says_par
    (says_seq
    (says_await (says_event {s = 0} (omega arith)))
    (more_of_seq (says_atom {a = 7} (omega arith)) (last_of_seq (says_generate {s = 1} (omega arith)))))
    (last_of_par (says_await (says_event {s = 1} (omega arith))))

module _ (t room : List ℕ) where
  prints : number_of (verdict_of t) ≡ 0 → length (spell (tree_of t)) ≤ length room
      → Prints t room (beginning (spell (tree_of t)) room) (Ok (length (spell (tree_of t))))
  prints e l = Prints.printed e l

  no_paper : number_of (verdict_of t) ≡ 0 → length room < length (spell (tree_of t)) → Prints t room room (Err told.NoRoom)
  no_paper e l = Prints.no_room e l

  not_printed : (why : TableRefusal) → verdict_of t ≡ Err why → Prints t room room (Err (told.Table why))
  not_printed why e = Prints.refused e

pub examples : All examples_list
unfolding run reach decimal spell spell_test table_of trailer nodes_from tests_of test_records named named_in tests size kind weight
    verdict_of records_verdict nodes_verdict program_verdict light length_good counts_good distances_good good_configuration
    good_but_height height_at_most parts good_node is_laid_out children argument_limit lowest configuration_of form program_of preorder
    first_such stops early_true early_false figure number_of
examples =
    more (fails_here _ [] refl)
    (more (fails_here _ [] refl)
    (more (fails_here _ [] refl)
    (more (fails_here _ [] refl)
    (more (too_large 4096 (omega arith) (omega arith) (blank 24592) (omega (arith, length-replicate {A = ℕ} 24592 255)))
    (more (refuses (says_spell (Loop (Await (Event 0))) (tt, omega arith)) (blank 26) (omega arith, omega arith) (EndlessLoop 0) refl)
    (more (short says_nothing (blank 15) (omega arith))
    (more (fails_here _ (blank 15) refl)
    (more (fails_here _ [] refl)
    (more (fails_here _ [] refl)
    (more (fails_here _ [] refl)
    (more (reads (says_spell (Local 7 Nothing) (omega arith, tt)) (blank 22) (omega arith, omega arith) refl)
    (more (prints shared (blank 32) refl (omega arith))
    (more (reads (says_spell (Par (Await (Event 0)) (Await (Event 0))) (tt, omega arith, omega arith)) (blank 36) (omega arith, omega arith) refl)
    (more (reads says_nothing (blank 16) (omega arith, omega arith) refl)
    (more (reads (says_spell (Await (Event 3)) (omega arith)) (blank 20) (omega arith, omega arith) refl)
    (more (reads (says_spell (Await (Not (Event 3))) (omega arith)) (blank 24) (omega arith, omega arith) refl)
    (more (reads (says_spell (When (And (Event 1) (Not (Event 2))) Nothing Stop) ((omega arith, omega arith), tt, tt)) (blank 44)
    (omega arith, omega arith) refl)
    (more (reads (says_spell (Await (Event 1023)) (omega arith)) (blank 20) (omega arith, omega arith) refl)
    (more (prints await_1023 (blank 14) refl (omega arith))
    (more (fails_here _ [] refl)
    (more (reads (says_spell (Freezable 1 Stop) (omega arith, tt)) (blank 22) (omega arith, omega arith) refl)
    (more (prints freezable_1 (blank 26) refl (omega arith))
    (more (fails_here _ [] refl)
    (more (fails_here _ [] refl)
    (more (reads (says_spell (Repeat (asked 15 255) Stop) ((omega arith, omega arith), tt)) (blank 22) (omega arith, omega arith) refl)
    (more (prints asked_15 (blank 32) refl (omega arith))
    (more (reads (says_spell (If 3 (Atom 1) (Atom 2)) (omega arith, omega arith, omega arith)) (blank 28) (omega arith, omega arith) refl)
    (more (prints if_3 (blank 32) refl (omega arith))
    (more (reads says_p (blank 60) (omega arith, omega arith) refl)
    (more (no_paper shared (blank 31) refl (omega arith))
    (more (not_printed [] (blank 1) BadLength refl)
    none)))))))))))))))))))))))))))))))
