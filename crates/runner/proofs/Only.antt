-- A node with an only child: the rest of its state is the child's.
use Prim.Native.Nat.{ℕ, ◌+◌, ◌-◌, ◌*◌, ◌≤◌, ◌<◌}
use mathlib.Core.Path.{◌≡◌}
use mathlib.Core.List.{List}
use lib.ListN.{length}
use borrow.Rule.Slice.PartMut.{mid_of}
use Rattle.events.specs.Members.{places, marks}
use Rattle.junior.specs.declared.Flag.{Flag}
use Rattle.junior.specs.Term.{Term}
use Rattle.junior.specs.Trace.{Place}
use Rattle.junior.specs.Inside.{Going}
use Rattle.state.specs.StateBytes.{Own}
use Rattle.state.proofs.Frames.{Frame}
use Rattle.steps.specs.Running.{Rooms, Ready, Ran, Live, Runs, Any}
use Rattle.steps.proofs.Children.{falling, only_cut, asks, child_ran, next_index}

module _ {own : Own} {f : Term → Term} (o : Frame own 0 0 f) {skip : ℕ} {table : List ℕ} {i : ℕ} {state words : List ℕ} {rooms : Rooms} {tally : List ℕ}
    {x : Term}
    (h : Ready skip table i state words rooms tally (f x)) (low : skip ≤ 4)
    {words₁ : List ℕ} (wide : 64 * length words₁ ≡ places) (goes : Going (marks words₁) x) where
  -- what run_child asks for the child, and that it ran
  pub only_asks : {k : ℕ} (rank : ℕ) → falling table i rank ≡ k
      → (falling table (i + 1) 3 < k) × Live 0 Any table (i + 1) (mid_of 4 (length state - 4) state) words₁ rooms tally
  only_asks rank falls = asks o h (only_cut h o) low rank falls (next_index i) wide goes

  pub only_ran : {s words' : List ℕ} {rooms' : Rooms} {tally' : List ℕ} {α : Flag}
      → Runs 0 Any table (i + 1) (mid_of 4 (length state - 4) state) words₁ rooms tally s words' rooms' tally' α
      → (Q : Place)
      → Q.node ≡ i + 1
      → Ran Q x words₁ rooms tally s words' rooms' tally' α
  only_ran run Q at = child_ran o h (only_cut h o) low (next_index i) wide goes run Q at
