-- Reading what was printed of an accepted table gives the same program and the same figures, unless the copies of shared
-- configurations bring 2 or 22 (02, L3).
use Prim.Native.Nat.{ℕ, ◌≤◌, ◌<◌}
use mathlib.Core.Bool.{true, and-false}
use mathlib.Core.Path.{◌≡◌, sym, ap, ◌∙◌}
use mathlib.Core.List.{List}
use native.Mathlib.Omega.{arith}
use lib.Dec.{leb}
use borrow.Author.Tests.{le-leb, lt-leb}
use Rattle.junior.specs.Program.{Program, size}
use Rattle.std.specs.Prelude.{Err}
use Rattle.table.specs.declared.TableRefusal.TheVariants.{BadCounts}
use Rattle.table.specs.Records.{nodes}
use Rattle.table.specs.Spells.{tree_of}
use Rattle.table.specs.Verdict.{counts_good, program_verdict, verdict_of, number_of}
use Rattle.table.specs.Inside.{ConfigurationsGood, NodesGood, Loaded}
use Rattle.table.proofs.Grown.{spells_tree}
use Rattle.table.proofs.OneTree.{one_tree}
use Rattle.table.proofs.Tree.{size_pos}
use Rattle.table.proofs.Loaded.{whole_placed, all_nodes}
use Rattle.table.proofs.Accepted.{by_program, accepted}
use Rattle.form.specs.Made.{tests, table_of, needed}
use Rattle.form.specs.InForm.{InForm}
use Rattle.form.proofs.MadeBytes.{made_nodes, made_configurations, made_length_good}
use Rattle.form.proofs.MadeBytes.{made_counts_good, made_distances_good}
use Rattle.form.proofs.MadeSpells.{made_spells}
use Rattle.form.proofs.MadeGood.{made_nodes_good}
use Rattle.form.proofs.MadeHeights.{LowTests, made_good}
use Rattle.form.proofs.AcceptedForm.{Formed, accepted_form}

-- the table that is made from any program in form
module _ (p : Program) (f : InForm p) where
  all_nodes_good : NodesGood (table_of p)
  all_nodes_good i l = made_nodes_good p f i (omega (arith, made_nodes p))

  module _ (low : LowTests p) where
    all_configurations_good : ConfigurationsGood (table_of p)
    all_configurations_good j l = made_good p f low j (omega (arith, made_configurations p))

    pub made_tree : tree_of (table_of p) ≡ p
    made_tree =
        let some : 0 < nodes (table_of p) = omega (arith, made_nodes p, size_pos p) in
        one_tree (table_of p) 0 _ p (spells_tree (table_of p) all_configurations_good some all_nodes_good) (made_spells p f)

    -- it is judged by the program alone
    pub made_verdict : needed p ≤ 32778 → size p ≤ 4096 → tests p ≤ 2048 → verdict_of (table_of p) ≡ program_verdict p
    made_verdict n s m =
        let few : counts_good (table_of p) ≡ true =
        rw (made_counts_good p f, le-leb (size p) 4096 s, le-leb (tests p) 2048 m) in
        by_program (table_of p) (made_length_good p n) few (made_distances_good p) all_configurations_good all_nodes_good
        ∙ ap program_verdict made_tree

  -- 2 where it has too many nodes or tests
  pub made_too_large : needed p ≤ 32778 → 4096 < size p → verdict_of (table_of p) ≡ Err BadCounts
  unfolding verdict_of
  made_too_large n s = rw (made_length_good p n, made_counts_good p f, lt-leb (size p) 4096 s)

  pub made_too_many : needed p ≤ 32778 → 2048 < tests p → verdict_of (table_of p) ≡ Err BadCounts
  unfolding verdict_of
  made_too_many n m =
      rw (made_length_good p n, made_counts_good p f, lt-leb (tests p) 2048 m, and-false (leb (size p) 4096))

module _ (t : List ℕ) (a : number_of (verdict_of t) ≡ 0) where
  loaded : Loaded t
  loaded = (accepted t a).loaded

  formed : Formed (tree_of t)
  formed = accepted_form loaded

  pub round_trip : needed (tree_of t) ≤ 32778 → tests (tree_of t) ≤ 2048
      → (verdict_of (table_of (tree_of t)) ≡ verdict_of t) × (tree_of (table_of (tree_of t)) ≡ tree_of t)
  round_trip n m =
      let s = all_nodes (whole_placed loaded) in
      let few = loaded.framed.n_most in
      let v = made_verdict (tree_of t) formed.in_form formed.low n (omega arith) m in
      (v ∙ sym (accepted t a).verdict_is, made_tree (tree_of t) formed.in_form formed.low)

  pub round_trip_refused : needed (tree_of t) ≤ 32778 → 2048 < tests (tree_of t) → verdict_of (table_of (tree_of t)) ≡ Err BadCounts
  round_trip_refused n m = made_too_many (tree_of t) formed.in_form n m
