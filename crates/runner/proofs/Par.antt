-- A Par: rules 8, 10 and 11.
use Prim.Native.Nat.{ℕ, ◌+◌, ◌*◌, ◌/◌, ◌%◌, ◌≤◌, ◌<◌}
use mathlib.Core.Path.{◌≡◌, refl, ap, sym, subst, ◌∙◌}
use mathlib.Core.Logic.{◌≢◌}
use mathlib.Core.List.{List}
use native.Mathlib.Omega.{arith}
use lib.ListN.{length, get_or}
use Rattle.events.specs.Members.{marks}
use Rattle.junior.specs.declared.Flag.{Flag}
use Rattle.junior.specs.declared.Flag.TheVariants.{SUSP, STOP, TERM}
use Rattle.junior.specs.Flags.{γ, δ₁, δ₂}
use Rattle.junior.specs.Program.{Program, Par, size, kind}
use Rattle.junior.specs.Term.{Term, par, prog, leave}
use Rattle.junior.specs.Trace.{Place, Act, first, second}
use Rattle.junior.specs.Rules.{left_first, Rewrites, joined, r8, r10, r11}
use Rattle.junior.specs.Figures.{LoopsStop}
use Rattle.junior.specs.Inside.{Going, Suspended, pot}
use Rattle.junior.proofs.Little.{STOP≢SUSP, TERM≢SUSP}
use Rattle.junior.proofs.Grows.{grows}
use Rattle.junior.proofs.Going.{going_more}
use Rattle.table.specs.Records.{size_at}
use Rattle.table.specs.Spells.{Spells}
use Rattle.table.specs.Inside.{Placed}
use Rattle.table.proofs.Tree.{size_pos, written}
use Rattle.table.proofs.Loaded.{in_table}
use Rattle.state.specs.Kinds.{par_kind}
use Rattle.state.specs.StateBytes.{code, head, below, state_bytes}
use Rattle.state.proofs.Parts.{first_of, with_first, rest_of, with_rest, len_bytes, own_flags}
use Rattle.state.proofs.Shape.{Shape, is_done, is_par, shape_by}
use Rattle.steps.specs.Running.{Rooms, values_in, env_of, Ready, Leaves, SameLengths, Ran, Live, Runs, Any, Kind, LeftSuspended}
use Rattle.steps.specs.Running.{RightSuspended, par_end}
use Rattle.steps.proofs.FlagNumbers.{code_same, code_below}
use Rattle.steps.proofs.Children.{asks_for, at_node, falling, first_at, second_at, byte_is}
use Rattle.steps.proofs.Done.{later, same_lengths, lengths_then, few, ran_flag, ran_long, HasRoom, room_for, room_after, leaves_then}
use Rattle.runner.proofs.Joined.{Two, flags_at_lem, second_at as two_at, stood_ended, first_part, put_first, ends, second_part_lem, put_second}
use Rattle.runner.proofs.Joined.{end_asks}
use Rattle.runner.proofs.Joined.{Branch, branch_stood, branch_ran, par_ended}

-- a Par, and which of its branches run
pub data Branches : Flag → Flag → Type 0 where
  both : Branches SUSP SUSP
  only_first : (β : Flag) → β ≢ SUSP → Branches SUSP β
  only_second : (α : Flag) → α ≢ SUSP → Branches α SUSP

pub data APar : Term → Type 0 where
  a_par : {α β : Flag} (t u : Term) → Branches α β → APar (par α β t u)

branches : (α β : Flag) → Suspended α β → Branches α β
branches SUSP SUSP s = both
branches SUSP STOP s = only_first STOP STOP≢SUSP
branches SUSP TERM s = only_first TERM TERM≢SUSP
branches STOP SUSP s = only_second STOP STOP≢SUSP
branches STOP STOP s = absurd s
branches STOP TERM s = absurd s
branches TERM SUSP s = only_second TERM TERM≢SUSP
branches TERM STOP s = absurd s
branches TERM TERM s = absurd s

pub par_by : {table : List ℕ} {i : ℕ} {state words : List ℕ} {rooms : Rooms} {tally : List ℕ} {t : Term} → Kind par_kind t
    → Ready 0 table i state words rooms tally t
    → APar t
unfolding Going
par_by {words = words} {t = t} w h = go (shape_by t w.0 refl) w.1 h.going
  where
    go : {t : Term} {ph : ℕ} → Shape t par_kind ph → ph ≢ 3 → Going (marks words) t → APar t
    go (is_par α β t u) a g = a_par t u (branches α β g.0)
    go (is_done p k) a g = absurd (a refl)

-- the first branch runs, the second's flag being β; the second runs, the first's being α
pub data First (β : Flag) : Term → Type 0 where
  first_runs : (t u : Term) → First β (par SUSP β t u)

pub data Second (α : Flag) : Term → Type 0 where
  second_runs : (t u : Term) → Second α (par α SUSP t u)

abbrev pub Left : Term → Type 0
Left t = (β : Flag) × (β ≢ SUSP) × First β t

abbrev pub Right : Term → Type 0
Right t = (α : Flag) × (α ≢ SUSP) × Second α t

-- by the flags byte
both_of : {t : Term} → APar t → (head t).flags ≡ 0 → First SUSP t
both_of (a_par t u both) e = first_runs t u
both_of (a_par t u (only_first β n)) e = absurd (n (code_same β SUSP (omega arith)))
both_of (a_par t u (only_second α n)) e = absurd (n (code_same α SUSP (omega arith)))

left_of : {t : Term} → APar t → (head t).flags % 4 ≡ 0 → (head t).flags ≢ 0 → Left t
left_of (a_par t u both) e z = absurd (z refl)
left_of (a_par t u (only_first β n)) e z = (β, n, first_runs t u)
left_of (a_par t u (only_second α n)) e z = absurd (n (code_same α SUSP (omega (arith, code_below α))))

right_of : {t : Term} → APar t → (head t).flags % 4 ≢ 0 → Right t
right_of (a_par t u both) e = absurd (e refl)
right_of (a_par t u (only_first β n)) e = absurd (e (omega arith))
right_of (a_par t u (only_second α n)) e = (α, n, second_runs t u)

module _ {table : List ℕ} {i : ℕ} {state words : List ℕ} {rooms : Rooms} {tally : List ℕ} {t : Term}
    (h : Ready 0 table i state words rooms tally t) where
  pub left_by : LeftSuspended t → Left t
  left_by (w, e, z) = left_of (par_by w h) e z

  pub right_by : RightSuspended t → Right t
  right_by (w, e) = right_of (par_by w h) e

  -- which function runs a Par
  flags_are : own_flags state ≡ (head t).flags
  flags_are = byte_is h 1 (omega arith)

  pub both_by : Kind par_kind t → own_flags state ≡ 0 → First SUSP t
  both_by w e = both_of (par_by w h) (sym flags_are ∙ e)

-- the children in the table
module _ {table : List ℕ} {i : ℕ} {p q : Program} (h : Placed table i (Par p q)) where
  next_in_table : 6 * (i + 1) + 5 < length table
  unfolding size
  next_in_table = in_table h 1 (omega (arith, size_pos p))

  module _ {n : ℕ} (m : n ≡ size_at table (i + 1)) where
    first_size : n ≡ size p
    unfolding Spells
    first_size = m ∙ written table (i + 1) p h.spelled.2

    first_placed : Placed table (i + 1) p
    unfolding Spells size
    first_placed =
        record { loaded = h.loaded; spelled = h.spelled.2; inside = omega (arith, h.inside) }

    second_placed : Placed table (i + 1 + n) q
    unfolding Spells size
    second_placed =
        record { loaded = h.loaded; spelled = rw m h.spelled.3; inside = omega (arith, h.inside, first_size) }

module _ {table : List ℕ} {i : ℕ} {state words : List ℕ} {rooms : Rooms} {tally : List ℕ} where
  -- the first child's size can be read
  pub par_reads : {t : Term} → APar t → Ready 0 table i state words rooms tally t → 6 * (i + 1) + 5 < length table
  unfolding prog
  par_reads (a_par t u b) h = next_in_table h.placed

  -- the flag of a branch that doesn't run, from the flags byte
  pub left_flag : {t : Term} → Left t → Ready 0 table i state words rooms tally t → own_flags state / 4 < 3
  left_flag (β, k, first_runs t u) h = omega (arith, byte_is h 1 (omega arith), code_below β)

  pub right_flag : {t : Term} → Right t → Ready 0 table i state words rooms tally t → own_flags state % 4 < 3
  right_flag (α, k, second_runs t u) h = omega (arith, byte_is h 1 (omega arith), code_below α)

  second_is : {β : Flag} {t u : Term} → Ready 0 table i state words rooms tally (par SUSP β t u) → (g : Flag)
      → code g ≡ own_flags state / 4
      → g ≡ β
  second_is {β} h g e = code_same g β (omega (arith, byte_is h 1 (omega arith)))

  first_is : {α : Flag} {t u : Term} → Ready 0 table i state words rooms tally (par α SUSP t u) → (f : Flag)
      → code f ≡ own_flags state % 4
      → f ≡ α
  first_is {α} h f e = code_same f α (omega (arith, byte_is h 1 (omega arith), code_below α))

-- a Par whose branches have answered α and β, when par_end has joined them
par_ran : {P : Place} {t : Term} {words : List ℕ} {rooms : Rooms} {tally words' : List ℕ} {rooms' : Rooms} {tally' : List ℕ} {l : List Act} (α β : Flag)
    (t' u' : Term)
    → Rewrites (left_first (values_in tally)) P t (env_of words tally) (joined α β t' u' (env_of words' tally') l)
    → Leaves l rooms tally rooms' tally'
    → SameLengths words tally words' tally'
    → {state : List ℕ} {flags n : ℕ} {a b : List ℕ}
    → Two state flags n a b
    → Branch α t' a
    → Branch β u' b
    → {r : Flag} {end : List ℕ}
    → (r ≡ γ α β) × (end ≡ par_end α β (4 + 4 * n) state)
    → Ran P t words rooms tally end words' rooms' tally' r
par_ran {l = l} α β t' u' d w k {a = a} {b = b} o x y (q, e) =
    ran_flag (sym q)
    (record {
      to = leave (γ α β) (par (δ₁ α β) (δ₂ α β) t' u');
      acts = l;
      rewrites = d;
      bytes = e ∙ par_ended t' u' a b o α β x y;
      wrote = w;
      lengths = k;
    })

module _ {table : List ℕ} {i : ℕ} {state words : List ℕ} {rooms : Rooms} {tally : List ℕ} {n : ℕ} (m : n ≡ size_at table (i + 1)) where
  two : {α β : Flag} {t u : Term} → Ready 0 table i state words rooms tally (par α β t u)
      → Two state (code α + 4 * code β) n (state_bytes t) (state_bytes u)
  unfolding below prog
  two {t = t} h =
      record { state_is = h.bytes; first_long = len_bytes t ∙ ap (λ k. 4 * k) (sym (first_size h.placed m)) }

  -- the first branch is ready; so is the second, in the state as it is then
  first_ready : {β : Flag} {t u : Term} → Ready 0 table i state words rooms tally (par SUSP β t u)
      → Ready 0 table (i + 1) (first_of state n) words rooms tally t
  unfolding Going pot prog kind LoopsStop
  first_ready {t = t} h =
      record {
        placed = first_placed h.placed m;
        loops = h.loops.0;
        wide = h.wide;
        tallied = h.tallied;
        long = ap length (first_part (two h)) ∙ len_bytes t;
        bytes = first_part (two h);
        going = h.going.1;
        room = omega (arith, h.room);
        parking_room = omega (arith, h.parking_room);
      }

  module _ {α : Flag} {t u : Term} (h : Ready 0 table i state words rooms tally (par α SUSP t u)) {state₁ : List ℕ}
      {flags : ℕ} {a : List ℕ} (o : Two state₁ flags n a (state_bytes u)) {words₁ : List ℕ} {rooms₁ : Rooms} {tally₁ : List ℕ} where
    second_ready : SameLengths words tally words₁ tally₁ → Going (marks words₁) u
        → HasRoom rooms₁ tally₁ u
        → Ready 0 table (i + 1 + n) (rest_of state₁ n) words₁ rooms₁ tally₁ u
    unfolding prog LoopsStop
    second_ready k g r =
        record {
          placed = second_placed h.placed m;
          loops = h.loops.1;
          wide = rw k.of_words h.wide;
          tallied = k.of_tally ∙ h.tallied;
          long = ap length (second_part_lem o) ∙ len_bytes u;
          bytes = second_part_lem o;
          going = g;
          room = r.in_row;
          parking_room = r.in_store;
        }

  -- the state can be cut behind the first child
  pub par_fits : {t : Term} → APar t → Ready 0 table i state words rooms tally t → 4 + 4 * n ≤ length state
  par_fits (a_par t u b) h = omega (arith, ends (two h))

  -- the first branch is run
  pub first_asks : {β : Flag} {t : Term} → First β t → Ready 0 table i state words rooms tally t → {k : ℕ} (rank : ℕ)
      → falling table i rank ≡ k
      → (falling table (i + 1) 3 < k) × Live 0 Any table (i + 1) (first_of state n) words rooms tally
  unfolding prog size
  first_asks (first_runs t u) h rank e = asks_for h rank e (first_ready h) (omega arith)

  module _ {s words' : List ℕ} {rooms' : Rooms} {tally' : List ℕ} {α : Flag}
      (run : Runs 0 Any table (i + 1) (first_of state n) words rooms tally s words' rooms' tally' α) where
    first_ran : {β : Flag} {t u : Term} → Ready 0 table i state words rooms tally (par SUSP β t u) → (P : Place) → P.node ≡ i
        → Ran (first P) t words rooms tally s words' rooms' tally' α
    first_ran {t = t} h P at = run t tt (first_ready h) (first P) (first_at at)

    first_back : {β : Flag} {t u : Term} → Ready 0 table i state words rooms tally (par SUSP β t u)
        → Two (with_first state n s) (0 + 4 * code β) n s (state_bytes u)
    unfolding prog
    first_back h =
        put_first (two h) s (ran_long (first_ran h (at_node i) refl) ∙ ap (λ k. 4 * k) (sym (first_size h.placed m)))

    -- rule 10
    pub left_end_asks : {t : Term} → Left t → Ready 0 table i state words rooms tally t
        → (4 < length (with_first state n s)) × (4 + 4 * n < length (with_first state n s))
    unfolding prog
    left_end_asks (β, k, first_runs t u) h =
        end_asks (first_back h) (omega (arith, size_pos (prog t), first_size h.placed m))
        (omega (arith, size_pos (prog u), len_bytes u))

    -- the flags are still those of a suspended branch and of one that isn't run, which is in phase 3 if it has ended
    pub left_keeps : {t : Term} → Left t → Ready 0 table i state words rooms tally t
        → (own_flags (with_first state n s) ≡ 4 * (own_flags state / 4))
        × (own_flags state / 4 ≡ 2 → get_or (with_first state n s) (4 + 4 * n) 0 ≡ 3)
    unfolding Going
    left_keeps (β, k, first_runs t u) h =
        let flags = byte_is h 1 (omega arith) in (
          omega (arith, flags, flags_at_lem (first_back h), code_below β),
          λ e.
              two_at (first_back h)
              ∙ stood_ended (marks words) β u (code_same β TERM (omega (arith, flags, code_below β))) h.going.2,
        )

    pub left_ran : {t : Term} → Left t → Ready 0 table i state words rooms tally t
        → (g : Flag)
        → code g ≡ own_flags state / 4
        → {r : Flag} {end : List ℕ}
        → (r ≡ γ α g) × (end ≡ par_end α g (4 + 4 * n) (with_first state n s))
        → (P : Place)
        → P.node ≡ i
        → Ran P t words rooms tally end words' rooms' tally' r
    unfolding Going
    left_ran (β, k, first_runs t u) h g e {r} {end} q P at =
        let d = first_ran h P at in
        let stood = branch_stood (marks words) β u k h.going.2 in
        par_ran α β d.to u (r10 k d.rewrites) d.wrote d.lengths (first_back h) (branch_ran d h.going.1) stood
        (subst (λ f. (r ≡ γ α f) × (end ≡ par_end α f (4 + 4 * n) (with_first state n s))) (second_is h g e) q)

    -- rule 8: the second branch then
    pub both_fits : {t : Term} → First SUSP t → Ready 0 table i state words rooms tally t
        → 4 + 4 * n ≤ length (with_first state n s)
    both_fits (first_runs t u) h = omega (arith, ends (first_back h))

    both_second : {t u : Term} → Ready 0 table i state words rooms tally (par SUSP SUSP t u)
        → Ready 0 table (i + 1 + n) (rest_of (with_first state n s) n) words' rooms' tally' u
    unfolding Going prog pot kind LoopsStop
    both_second {t} {u} h =
        let d = first_ran h (at_node i) refl in
        second_ready h (first_back h) d.lengths (going_more u (grows d.rewrites) h.going.2)
        (room_after h d u (λ k. omega (arith, few k d h.loops.0)))

    pub then_asks : {t : Term} → First SUSP t → Ready 0 table i state words rooms tally t → {k : ℕ} (rank : ℕ)
        → falling table i rank ≡ k
        → (falling table (i + 1 + n) 3 < k)
        × Live 0 Any table (i + 1 + n) (rest_of (with_first state n s) n) words' rooms' tally'
    unfolding prog size
    then_asks (first_runs t u) h rank e = asks_for h rank e (both_second h) (omega arith)

    module _ {s₂ words'' : List ℕ} {rooms'' : Rooms} {tally'' : List ℕ} {β : Flag}
        (then : Runs 0 Any table (i + 1 + n) (rest_of (with_first state n s) n) words' rooms' tally' s₂ words'' rooms'' tally'' β) where
      then_ran : {t u : Term} → Ready 0 table i state words rooms tally (par SUSP SUSP t u) → (P : Place) → P.node ≡ i
          → Ran (second P (prog t)) u words' rooms' tally' s₂ words'' rooms'' tally'' β
      unfolding prog
      then_ran {t} {u} h P at =
          then u tt (both_second h) (second P (prog t)) (second_at at (prog t) (first_size h.placed m))

      both_back : {t u : Term} → Ready 0 table i state words rooms tally (par SUSP SUSP t u)
          → Two (with_rest (with_first state n s) n s₂) 0 n s s₂
      both_back h = put_second (first_back h) s₂

      pub both_end_asks : {t : Term} → First SUSP t → Ready 0 table i state words rooms tally t
          → (4 < length (with_rest (with_first state n s) n s₂))
          × (4 + 4 * n < length (with_rest (with_first state n s) n s₂))
      unfolding prog
      both_end_asks (first_runs t u) h =
          end_asks (both_back h) (omega (arith, size_pos (prog t), first_size h.placed m))
          (omega (arith, size_pos (prog u), ran_long (then_ran h (at_node i) refl)))

      pub both_ran : {t : Term} → First SUSP t → Ready 0 table i state words rooms tally t
          → {r : Flag} {end : List ℕ}
          → (r ≡ γ α β) × (end ≡ par_end α β (4 + 4 * n) (with_rest (with_first state n s) n s₂))
          → (P : Place)
          → P.node ≡ i
          → Ran P t words rooms tally end words'' rooms'' tally'' r
      unfolding Going
      both_ran (first_runs t u) h q P at =
          let d = first_ran h P at in
          let e = then_ran h P at in
          let w = leaves_then h d.wrote e.wrote in
          par_ran α β d.to e.to (r8 d.rewrites (later d.lengths e.rewrites)) w
          (lengths_then d.lengths e.lengths) (both_back h) (branch_ran d h.going.1)
          (branch_ran e (both_second h).going) q

  -- rule 11: the second branch alone
  module _ {α : Flag} {t u : Term} (h : Ready 0 table i state words rooms tally (par α SUSP t u)) where
    right_ready : Ready 0 table (i + 1 + n) (rest_of state n) words rooms tally u
    unfolding Going pot prog kind
    right_ready = second_ready h (two h) (same_lengths words tally) h.going.2 (room_for h (λ k. omega arith))

  pub right_asks : {t : Term} → Right t → Ready 0 table i state words rooms tally t → {k : ℕ} (rank : ℕ)
      → falling table i rank ≡ k
      → (falling table (i + 1 + n) 3 < k) × Live 0 Any table (i + 1 + n) (rest_of state n) words rooms tally
  unfolding prog size
  right_asks (α, k, second_runs t u) h rank e = asks_for h rank e (right_ready h) (omega arith)

  module _ {s words' : List ℕ} {rooms' : Rooms} {tally' : List ℕ} {β : Flag}
      (run : Runs 0 Any table (i + 1 + n) (rest_of state n) words rooms tally s words' rooms' tally' β) where
    right_ran_at : {α : Flag} {t u : Term} → Ready 0 table i state words rooms tally (par α SUSP t u) → (P : Place) → P.node ≡ i
        → Ran (second P (prog t)) u words rooms tally s words' rooms' tally' β
    unfolding prog
    right_ran_at {t = t} {u = u} h P at =
        run u tt (right_ready h) (second P (prog t)) (second_at at (prog t) (first_size h.placed m))

    pub right_end_asks : {t : Term} → Right t → Ready 0 table i state words rooms tally t
        → (4 < length (with_rest state n s)) × (4 + 4 * n < length (with_rest state n s))
    unfolding prog
    right_end_asks (α, k, second_runs t u) h =
        end_asks (put_second (two h) s) (omega (arith, size_pos (prog t), first_size h.placed m))
        (omega (arith, size_pos (prog u), ran_long (right_ran_at h (at_node i) refl)))

    pub right_ran : {t : Term} → Right t → Ready 0 table i state words rooms tally t
        → (f : Flag)
        → code f ≡ own_flags state % 4
        → {r : Flag} {end : List ℕ}
        → (r ≡ γ f β) × (end ≡ par_end f β (4 + 4 * n) (with_rest state n s))
        → (P : Place)
        → P.node ≡ i
        → Ran P t words rooms tally end words' rooms' tally' r
    unfolding Going
    right_ran (α, k, second_runs t u) h f e {r} {end} q P at =
        let d = right_ran_at h P at in
        let stood = branch_stood (marks words) α t k h.going.1 in
        par_ran α β t d.to (r11 k d.rewrites) d.wrote d.lengths (put_second (two h) s) stood (branch_ran d h.going.2)
        (subst (λ g. (r ≡ γ g β) × (end ≡ par_end g β (4 + 4 * n) (with_rest state n s))) (first_is h f e) q)
