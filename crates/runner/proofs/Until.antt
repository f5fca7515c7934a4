-- An Until in its body, rules 29 and 30, and Until*, rules 31 to 34.
use Prim.Native.Nat.{ℕ, ◌+◌, ◌-◌, ◌*◌, ◌≤◌, ◌<◌}
use mathlib.Core.Bool.{true, false}
use mathlib.Core.Path.{◌≡◌, refl, ap, sym, ◌∙◌}
use mathlib.Core.Logic.{◌≢◌}
use mathlib.Core.List.{List, [], ◌∷◌, ◌++◌}
use native.Mathlib.Omega.{arith}
use lib.Dec.{ltb}
use lib.ListN.{length, drop, set, replicate, length-append, length-replicate}
use borrow.Rule.Slice.PartMut.{mid_of, put_mid}
use Rattle.junior.specs.declared.Flag.{Flag}
use Rattle.junior.specs.declared.Flag.TheVariants.{SUSP, STOP}
use Rattle.junior.specs.declared.Verdict.{Verdict}
use Rattle.junior.specs.declared.Verdict.TheVariants.{Sat, Unsat, Unknown}
use Rattle.junior.specs.Configuration.{Config, Env, sat, test}
use Rattle.junior.specs.Values.{Values}
use Rattle.junior.specs.Program.{Program, Until, size, kind}
use Rattle.junior.specs.Term.{Term, until0, until*, until2, prog, fresh}
use Rattle.junior.specs.Trace.{Place, decided, first, collect}
use Rattle.junior.specs.Rules.{left_first, Result, after, Rewrites, r29, r30, r31, r31_on, r32, r33, r34}
use Rattle.junior.specs.Figures.{LoopsStop}
use Rattle.junior.specs.Inside.{Going, pot}
use Rattle.junior.proofs.Fresh.{prog_fresh, fresh_at_rest}
use Rattle.junior.proofs.Kept.{kept}
use Rattle.junior.proofs.Going.{rest_going, stands}
use Rattle.junior.proofs.Figures.{pot_fresh}
use Rattle.table.specs.Records.{size_at}
use Rattle.table.specs.Spells.{Spells}
use Rattle.table.proofs.Tree.{size_pos, written}
use Rattle.table.proofs.Loaded.{in_table}
use Rattle.state.specs.Kinds.{until_kind}
use Rattle.state.specs.StateBytes.{zeros, below, state_bytes}
use Rattle.state.proofs.Parts.{len_bytes, fresh_zeros, own_of, part_is, put_is, own_phase}
use Rattle.state.proofs.Shape.{Shape, is_done, is_until0, is_until*, is_until2, shape_by}
use Rattle.state.proofs.Frames.{until_first}
use Rattle.steps.specs.Running.{Rooms, Ready, Ran, Live, Runs, Any, Kind, env_of, end_declared}
use Rattle.steps.specs.Kinds.{InSecond}
use Rattle.runner.proofs.Stages.{Starred}
use Rattle.steps.specs.Running.{HasTest, TestRead}
use Rattle.steps.proofs.Children.{at_node, falling, first_cut, asks, child_ran, next_index, first_at}
use Rattle.steps.proofs.Children.{phase_is}
use Rattle.steps.proofs.Children.{byte_is, own_and_below}
use Rattle.steps.proofs.Done.{later, same_lengths, ready_as, room_for, room_after, few, ran_flag, ran_alone, ran_by, ran_then}
use Rattle.steps.proofs.Done.{ran_long}
use Rattle.steps.proofs.Done.{back_long}
use Rattle.steps.proofs.Done.{phase_0_left, back_kept, ran_kept}
use Rattle.steps.proofs.LoadedNode.{until_test}

-- an Until in its body
pub data Until0 : Term → Type 0 where
  in_body : (c : Config) (x : Term) (q : Program) → Until0 (until0 c x q)

until0_of : {t : Term} {ph : ℕ} → Shape t until_kind ph → ph ≢ 3 → ph ≢ 1 → ph ≢ 2 → Until0 t
until0_of (is_until0 c x q) a b d = in_body c x q
until0_of (is_until* c x q) a b d = absurd (b refl)
until0_of (is_until2 c p x) a b d = absurd (d refl)
until0_of (is_done p e) a b d = absurd (a refl)

pub until0_by : {table : List ℕ} {i : ℕ} {state words : List ℕ} {rooms : Rooms} {tally : List ℕ} {t : Term} → Kind until_kind t
    → Ready 0 table i state words rooms tally t
    → own_phase state ≢ 1
    → own_phase state ≢ 2
    → Until0 t
until0_by {t = t} w h a b = until0_of (shape_by t w.0 refl) w.1 (λ e. a (phase_is h ∙ e)) (λ e. b (phase_is h ∙ e))

module _ {table : List ℕ} {i : ℕ} {state words : List ℕ} {rooms : Rooms} {tally : List ℕ} {n : ℕ} (m : n ≡ size_at table (i + 1)) where
  pub body_asks : {t : Term} → Until0 t → Ready 0 table i state words rooms tally t
      → {k : ℕ} (rank : ℕ) → falling table i rank ≡ k
      → (falling table (i + 1) 3 < k) × Live 0 Any table (i + 1) (mid_of 4 (4 + 4 * n - 4) state) words rooms tally
  unfolding Going
  body_asks (in_body c x q) h rank falls =
      asks (until_first c q) h (first_cut h (until_first c q) m) (omega arith) rank falls (next_index i) h.wide h.going

  module _ {s words' : List ℕ} {rooms' : Rooms} {tally' : List ℕ} {α : Flag}
      (run : Runs 0 Any table (i + 1) (mid_of 4 (4 + 4 * n - 4) state) words rooms tally s words' rooms' tally' α) where
    body_ran : (c : Config) (x : Term) (q : Program) → Ready 0 table i state words rooms tally (until0 c x q) → (P : Place) → P.node ≡ i
        → Ran (first P) x words rooms tally s words' rooms' tally' α
    unfolding Going
    body_ran c x q h P at =
        child_ran (until_first c q) h (first_cut h (until_first c q) m) (omega arith) (next_index i) h.wide h.going run (first P) (first_at at)

    -- it goes on, or has ended
    pub until_waits : {t : Term} → Until0 t → Ready 0 table i state words rooms tally t → α ≢ STOP → (P : Place) → P.node ≡ i
        → Ran P t words rooms tally (put_mid 4 (4 + 4 * n - 4) state s) words' rooms' tally' α
    until_waits (in_body c x q) h w P at =
        let g = body_ran c x q h P at in
        ran_kept (until_first c q) h (first_cut h (until_first c q) m) g g.lengths refl (phase_0_left α) (r29 g.rewrites w) refl

    -- it has stopped: the Until goes on as Until*
    star : (c : Config) (x : Term) (q : Program) (h : Ready 0 table i state words rooms tally (until0 c x q))
        → α ≡ STOP
        → {P : Place} (g : Ran P x words rooms tally s words' rooms' tally' STOP)
        → Ready 1 table i (put_mid 4 (4 + 4 * n - 4) state s) words' rooms' tally' (until* c g.to q)
    unfolding Going prog below pot kind LoopsStop
    star c x q h z g =
        let u = first_cut h (until_first c q) m in
        ready_as h (ap (λ y. Until c y q) (kept g.rewrites))
        (back_long (until_first c q) h u s (omega arith) (ran_long g)) g.lengths
        (ap (drop 1) (back_kept (until_first c q) h u s refl) ∙ ap (λ l. 0 ∷ 0 ∷ 0 ∷ (l ++ zeros q)) g.bytes)
        (stands g.rewrites h.going)
        (room_after h g (until* c g.to q) (λ k. simp (kept g.rewrites) (omega (arith, few k g h.loops.0))))

    pub star_asks : {t : Term} → Until0 t → Ready 0 table i state words rooms tally t → α ≡ STOP
        → Live 1 Starred table i (put_mid 4 (4 + 4 * n - 4) state s) words' rooms' tally'
    unfolding kind prog
    star_asks (in_body c x q) h z =
        let g = ran_flag z (body_ran c x q h (at_node i) refl) in
        (until* c g.to q, (refl, refl), star c x q h z g)

    pub until_stops : {t : Term} → Until0 t → Ready 0 table i state words rooms tally t → α ≡ STOP
        → {state'' words'' : List ℕ} {rooms'' : Rooms} {tally'' : List ℕ} {β : Flag}
        → Runs 1 Starred table i (put_mid 4 (4 + 4 * n - 4) state s) words' rooms' tally' state'' words'' rooms'' tally'' β
        → (P : Place)
        → P.node ≡ i
        → Ran P t words rooms tally state'' words'' rooms'' tally'' β
    unfolding kind prog
    until_stops (in_body c x q) h z then P at =
        let g = ran_flag z (body_ran c x q h P at) in
        let k = then (until* c g.to q) (refl, refl) (star c x q h z g) P at in
        ran_then h g k (r30 g.rewrites (later g.lengths k.rewrites))

-- Until*
pub data Star : Term → Type 0 where
  pending : (c : Config) (x : Term) (q : Program) → Star (until* c x q)

star_of : {t : Term} → Shape t until_kind 1 → Star t
star_of (is_until* c x q) = pending c x q

pub star_by : (t : Term) → Starred t → Star t
star_by t w = star_of (shape_by t w.0 w.1)

-- the handler begins: the test is in front of what it does
handler_begins : {value : Values} {P : Place} {c : Config} {x : Term} {q : Program} {E : Env} {r : Result}
    → sat c E
    → E.eoi ≡ false
    → Rewrites (left_first value) P (until2 c (prog x) (fresh q)) E r
    → Rewrites (left_first value) P (until* c x q) E (after (decided P c true E ∷ []) r)
handler_begins s e (r31_on d) = r31 s e d

module _ {table : List ℕ} {i : ℕ} {state words : List ℕ} {rooms : Rooms} {tally : List ℕ} where
  pub star_has : {t : Term} → Star t → Ready 1 table i state words rooms tally t → HasTest table i tally
  unfolding prog
  star_has (pending c x q) h = until_test h.tallied h.placed

  -- its bytes with the phase written anew
  star_bytes : (c : Config) (x : Term) (q : Program) → Ready 1 table i state words rooms tally (until* c x q)
      → (ph : ℕ) → set state 0 ph ≡ ph ∷ 0 ∷ 0 ∷ 0 ∷ (state_bytes x ++ zeros q)
  unfolding below
  star_bytes c x q h ph =
      let b = byte_is h in
      ap (λ l. set l 0 ph) (own_and_below h (omega arith)) ∙ rw (b 1 (omega arith), b 2 (omega arith), b 3 (omega arith))

  module _ {v : Verdict} (read : TestRead table i words tally v) where
    star_test : (c : Config) (x : Term) (q : Program) → Ready 1 table i state words rooms tally (until* c x q) → {w : Verdict} → v ≡ w
        → test c (env_of words tally) ≡ w
    unfolding prog Spells
    star_test c x q h e = sym (read c h.placed.spelled.1) ∙ e

    pub star_waits : {t : Term} → Star t → Ready 1 table i state words rooms tally t → v ≡ Unknown → (P : Place) → P.node ≡ i
        → Ran P t words rooms tally (set state 0 1) words rooms tally SUSP
    unfolding collect below
    star_waits (pending c x q) h e P at = ran_alone (r34 (star_test c x q h e)) refl (star_bytes c x q h 1)

    pub star_fails : {t : Term} → Star t → Ready 1 table i state words rooms tally t → v ≡ Unsat → (P : Place) → P.node ≡ i
        → Ran P t words rooms tally (set state 0 0) words rooms tally STOP
    unfolding collect below
    star_fails (pending c x q) h e P at = ran_alone (r33 (star_test c x q h e)) refl (star_bytes c x q h 0)

    -- its configuration is satisfied: the body is cleared
    module _ {n : ℕ} (m : n ≡ size_at table (i + 1)) {s : List ℕ}
        (clear : s ≡ replicate (length (mid_of 4 (4 + 4 * n - 4) state)) 0) where
      star_size : (c : Config) (x : Term) (q : Program) → Ready 1 table i state words rooms tally (until* c x q) → n ≡ size (prog x)
      unfolding prog Spells
      star_size c x q h = m ∙ written table (i + 1) (prog x) h.placed.spelled.2

      cleared : (c : Config) (x : Term) (q : Program) → Ready 1 table i state words rooms tally (until* c x q)
          → put_mid 4 (4 + 4 * n - 4) state s ≡ own_of state (zeros (prog x) ++ state_bytes (fresh q))
      unfolding below
      cleared c x q h =
          let e = star_size c x q h in
          let split = own_and_below h (omega arith) in
          let part = part_is state (own_of state []) (state_bytes x) (zeros q) split 4 (4 + 4 * n) refl (omega (arith, len_bytes x)) in
          let z : s ≡ zeros (prog x) = clear ∙ ap (λ l. replicate (length l) 0) part ∙ ap (λ k. replicate k 0) (len_bytes x) in
          put_is state (own_of state []) (state_bytes x) (zeros q) split 4 (4 + 4 * n) refl (omega (arith, len_bytes x)) s
          ∙ (ap (λ l. own_of state (l ++ zeros q)) z ∙ ap (λ l. own_of state (zeros (prog x) ++ l)) (sym (fresh_zeros q)))

      handler : (c : Config) (x : Term) (q : Program) → Ready 1 table i state words rooms tally (until* c x q)
          → Ready 1 table i (put_mid 4 (4 + 4 * n - 4) state s) words rooms tally (until2 c (prog x) (fresh q))
      unfolding Going prog below pot kind size
      handler c x q h =
          let e = cleared c x q h in
          let b = byte_is h in
          ready_as h (ap (Until c (prog x)) (prog_fresh q))
          (ap length e ∙ simp (length-append, length-replicate {A = ℕ}) (omega (arith, h.long, len_bytes (fresh q), ap size (prog_fresh q))))
          (same_lengths words tally)
          (ap (drop 1) e ∙ rw (b 1 (omega arith), b 2 (omega arith), b 3 (omega arith)))
          (rest_going _ (fresh q) (fresh_at_rest q))
          (room_for h (λ k. simp (prog_fresh q) (omega (arith, pot_fresh k q))))

      pub handler_live : {t : Term} → Star t → Ready 1 table i state words rooms tally t
          → Live 1 InSecond table i (put_mid 4 (4 + 4 * n - 4) state s) words rooms tally
      handler_live (pending c x q) h = (until2 c (prog x) (fresh q), refl, handler c x q h)

      pub handler_goes : {t : Term} → Star t → Ready 1 table i state words rooms tally t → v ≡ Sat → ltb 0 (end_declared tally) ≡ false
          → {state' words' : List ℕ} {rooms' : Rooms} {tally' : List ℕ} {α : Flag}
          → Runs 1 InSecond table i (put_mid 4 (4 + 4 * n - 4) state s) words rooms tally state' words' rooms' tally' α
          → (P : Place)
          → P.node ≡ i
          → Ran P t words rooms tally state' words' rooms' tally' α
      unfolding collect
      handler_goes (pending c x q) h e f run P at =
          let k = run (until2 c (prog x) (fresh q)) refl (handler c x q h) P at in
          ran_by k (handler_begins (star_test c x q h e) f k.rewrites) refl

      pub handler_later : {t : Term} → Star t → Ready 1 table i state words rooms tally t → v ≡ Sat → ltb 0 (end_declared tally) ≡ true
          → (P : Place)
          → P.node ≡ i
          → Ran P t words rooms tally (set (put_mid 4 (4 + 4 * n - 4) state s) 0 2) words rooms tally STOP
      unfolding collect below
      handler_later (pending c x q) h e f P at =
          let b = byte_is h in
          ran_alone (r32 (star_test c x q h e) f) refl
          (ap (λ l. set l 0 2) (cleared c x q h) ∙ rw (b 1 (omega arith), b 2 (omega arith), b 3 (omega arith)))

      pub handler_writes : {t : Term} → Star t → Ready 1 table i state words rooms tally t
          → 0 < length (put_mid 4 (4 + 4 * n - 4) state s)
      handler_writes (pending c x q) h = omega (arith, ap length (cleared c x q h))

  pub star_reads : {t : Term} → Star t → Ready 1 table i state words rooms tally t → 6 * (i + 1) + 5 < length table
  unfolding prog size
  star_reads (pending c x q) h = in_table h.placed 1 (omega (arith, size_pos (prog x)))

  pub star_fits : {t : Term} → Star t → Ready 1 table i state words rooms tally t → {n : ℕ} → n ≡ size_at table (i + 1)
      → 4 + 4 * n ≤ length state
  unfolding prog size Spells
  star_fits (pending c x q) h m = omega (arith, h.long, m ∙ written table (i + 1) (prog x) h.placed.spelled.2)
