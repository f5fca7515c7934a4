-- The trailer of the table that is made from a program reads back, so 1 and 3 are past, and 2 by the numbers of nodes and tests alone.
use Prim.Native.Nat.{ℕ, ◌+◌, ◌-◌, ◌*◌, ◌≤◌}
use mathlib.Core.Bool.{true, ◌&&◌, and-true}
use mathlib.Core.Path.{◌≡◌, refl}
use mathlib.Core.List.{List, [], ◌++◌}
use native.Mathlib.Omega.{arith}
use lib.ListN.{length}
use lib.Dec.{leb}
use borrow.Author.Tests.{le-leb, eq-eqb}
use Rattle.events.specs.Members.{places}
use Rattle.junior.specs.Program.{Program}
use Rattle.junior.specs.Program.{size}
use Rattle.table.specs.Records.{word, nodes, configurations, events, back_to_nodes, back_to_configurations}
use Rattle.table.specs.Verdict.{length_good, counts_good, distances_good}
use Rattle.table.proofs.Framing.{length_is}
use Rattle.table.proofs.Tree.{size_pos}
use Rattle.form.specs.Made.{big, tests, named, nodes_from, tests_of, trailer, table_of, needed}
use Rattle.form.specs.InForm.{InForm}
use Rattle.form.proofs.MadeLength.{nodes_length, tests_length, table_length}
use Rattle.form.proofs.MadeNamed.{named_least, named_most}
use Rattle.form.proofs.BytesAt.{Has, has_all, front, behind, word_there}

module _ (p : Program) where
  -- where the three parts of the table stand
  pub nodes_there : Has (table_of p) 0 (nodes_from 0 p)
  unfolding table_of
  nodes_there = front (nodes_from 0 p) (tests_of p ++ trailer p) (has_all (table_of p))

  behind_nodes_lem : Has (table_of p) (6 * size p) (tests_of p ++ trailer p)
  unfolding table_of
  behind_nodes_lem = behind (nodes_from 0 p) (tests_of p ++ trailer p) (omega (arith, nodes_length 0 p)) (has_all (table_of p))

  pub tests_there : Has (table_of p) (6 * size p) (tests_of p)
  tests_there = front (tests_of p) (trailer p) behind_nodes_lem

  trailer_there : Has (table_of p) (6 * size p + 4 * tests p) (trailer p)
  trailer_there = behind (tests_of p) (trailer p) (omega (arith, tests_length p)) behind_nodes_lem

  -- a number of the trailer
  reads_back : (u v : List ℕ) (n m : ℕ) → trailer p ≡ u ++ (big n ++ v) → 6 * size p + 4 * tests p + length u ≡ m
      → word (table_of p) m ≡ n
  reads_back u v n m e f = word_there n (behind u (big n ++ v) f (rw e at trailer_there))

  from_end : (k : ℕ) → k ≤ 10 → 6 * size p + 4 * tests p + (10 - k) ≡ length (table_of p) - k
  from_end k h = omega (arith, table_length p)

  pub made_nodes : nodes (table_of p) ≡ size p
  unfolding trailer
  made_nodes = reads_back [] _ (size p) _ refl (from_end 10 (omega arith))

  pub made_configurations : configurations (table_of p) ≡ tests p
  unfolding trailer
  made_configurations = reads_back (big (size p)) _ (tests p) _ refl (from_end 8 (omega arith))

  pub made_events : events (table_of p) ≡ named p
  unfolding trailer
  made_events = reads_back (big (size p) ++ big (tests p)) _ (named p) _ refl (from_end 6 (omega arith))

  pub made_back_to_nodes : back_to_nodes (table_of p) ≡ 6 * size p + 4 * tests p
  unfolding trailer
  made_back_to_nodes =
      reads_back (big (size p) ++ (big (tests p) ++ big (named p))) _ (6 * size p + 4 * tests p) _ refl (from_end 4 (omega arith))

  pub made_back_to_configurations : back_to_configurations (table_of p) ≡ 4 * tests p
  unfolding trailer
  made_back_to_configurations =
      reads_back
      (big (size p) ++ (big (tests p) ++ (big (named p) ++ big (6 * size p + 4 * tests p))))
      []
      (4 * tests p)
      _
      refl
      (from_end 2 (omega arith))

  pub made_length_good : needed p ≤ 32778 → length_good (table_of p) ≡ true
  made_length_good l = length_is (table_of p) (omega (arith, table_length p, size_pos p)) (omega (arith, table_length p))

  pub made_distances_good : distances_good (table_of p) ≡ true
  unfolding distances_good
  made_distances_good =
      rw (
        made_nodes,
        made_configurations,
        eq-eqb _ _ made_back_to_nodes,
        eq-eqb _ _ made_back_to_configurations,
        eq-eqb _ _ (table_length p),
      )

  -- 2 is past exactly if nodes and tests are few enough
  pub made_counts_good : InForm p → counts_good (table_of p) ≡ (leb (size p) 4096 && leb (tests p) 2048)
  unfolding counts_good
  made_counts_good f =
      rw (
        made_nodes,
        made_configurations,
        made_events,
        le-leb 1 (size p) (size_pos p),
        le-leb 1 (named p) (named_least p),
        le-leb (named p) places (named_most p f),
        and-true (leb (tests p) 2048),
      )
