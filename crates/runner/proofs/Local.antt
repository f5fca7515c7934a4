-- A Local, rules 35 to 39: its body runs with the event as the sign says, and outside the event is again as it was.
use Prim.Native.Nat.{ℕ, ◌+◌, ◌-◌, ◌*◌, ◌<◌}
use mathlib.Core.Bool.{Bool, true, false, cond, ◌&&◌, and-true, false≢true}
use mathlib.Core.Path.{◌≡◌, refl, ap, ap₂, sym, subst, ◌∙◌}
use mathlib.Core.Logic.{◌≢◌}
use mathlib.Core.List.{List, [], ◌∷◌, ◌++◌}
use native.Mathlib.Omega.{arith}
use lib.Dec.{eqb, ltb}
use lib.ListN.{length, set}
use borrow.Author.Tests.{lt-ltb}
use borrow.Rule.Slice.PartMut.{mid_of, put_mid}
use Rattle.events.specs.Events.{Events, put}
use Rattle.events.specs.Members.{places, marks}
use Rattle.junior.specs.declared.Flag.{Flag}
use Rattle.junior.specs.declared.Flag.TheVariants.{SUSP, STOP, TERM}
use Rattle.junior.specs.Term.{Term, local, prog, leave}
use Rattle.junior.specs.Trace.{Place, Act, Piece, inside, scope_answered, atom_of, piece_of}
use Rattle.junior.specs.Rules.{left_first, Rewrites, answers, sign, r35_39}
use Rattle.junior.specs.Inside.{Going}
use Rattle.junior.proofs.Little.{collect_last, put_at}
use Rattle.junior.proofs.Grows.{grows}
use Rattle.table.specs.Records.{argument_at}
use Rattle.table.specs.Spells.{Spells}
use Rattle.state.specs.Kinds.{local_kind}
use Rattle.state.specs.StateBytes.{in_phase}
use Rattle.state.proofs.Shape.{Shape, is_done, is_local, shape_by}
use Rattle.state.proofs.Frames.{local_body}
use Rattle.state.proofs.Parts.{own_phase}
use Rattle.steps.specs.Running.{Rooms, Ready, SameLengths, Ran, Live, Runs, Any, Kind, values_in, env_of, sign_after}
use Rattle.steps.proofs.LoadedNode.{local_placed}
use Rattle.steps.proofs.Children.{at_node, falling, only_cut, first_at, phase_is}
use Rattle.steps.proofs.Done.{own_left, ran_long, back_in, ran_phase}
use Rattle.runner.proofs.Only.{only_asks, only_ran}

pub data Locals : Term → Type 0 where
  locals : (b : Bool) (e : ℕ) (x : Term) → Locals (local b e x)

locals_of : {t : Term} {ph : ℕ} → Shape t local_kind ph → ph ≢ 3 → Locals t
locals_of (is_local b e x q) n = locals b e x
locals_of (is_done p e) n = absurd (n refl)

pub locals_by : (t : Term) → Kind local_kind t → Locals t
locals_by t w = locals_of (shape_by t w.0 refl) w.1

-- the sign from the phase, and the phase from the sign: a Local+ that suspends still has its event, for events only come
plus_is : (b : Bool) → eqb (cond b 1 0) 1 ≡ b
plus_is true = refl
plus_is false = refl

sign_left : (b : Bool) (α : Flag) (present : Bool) → (b ≡ true → present ≡ true)
    → own_left α (in_phase (cond (sign b α present) 1 0)) ≡ in_phase (sign_after α present)
sign_left false SUSP present k = refl
sign_left true SUSP true k = refl
sign_left true SUSP false k = absurd (false≢true (k refl))
sign_left b STOP present k = refl
sign_left b TERM present k = refl

-- the rule, by what the words mark inside and outside
scoped : {P : Place} {b : Bool} {e : ℕ} {x y : Term} {l : List Act} {α : Flag} (words words₁ tally words₂ words₃ tally' : List ℕ)
    → marks words₁ ≡ put e b (marks words)
    → marks words₃ ≡ put e (marks words e) (marks words₂)
    → Rewrites (left_first (values_in tally)) (inside e P) x (env_of words₁ tally) (answers α y (env_of words₂ tally') l)
    → Rewrites (left_first (values_in tally)) P (local b e x) (env_of words tally)
    (answers α (leave α (local (sign b α (marks words₂ e)) e y)) (env_of words₃ tally')
    (l ++ (scope_answered P.node α (marks words₂ e) ∷ [])))
scoped words words₁ tally words₂ words₃ tally' p q d = rw q (r35_39 (rw p at d))

-- words in which the code marked an event, or cleared its mark
pub record Marked (a : ℕ) (present : Bool) (words words' : List ℕ) : Type 0 where
  pub long : length words' ≡ length words
  pub now_marked : marks words' ≡ put a (present && ltb a (64 * length words)) (marks words)

still_wide : {a : ℕ} {present : Bool} {words words' : List ℕ} → Marked a present words words' → 64 * length words ≡ places
    → 64 * length words' ≡ places
still_wide m wide = ap (λ n. 64 * n) m.long ∙ wide

put_in : {a : ℕ} {present : Bool} {words words' : List ℕ} → Marked a present words words' → 64 * length words ≡ places
    → {e : ℕ} {b : Bool} → a ≡ e → e < places → present ≡ b → marks words' ≡ put e b (marks words)
put_in {words = words} m wide {e} same there k =
    let l = lt-ltb e (64 * length words) (omega arith) in m.now_marked ∙ rw (same, k, l, and-true)

module _ {table : List ℕ} {i : ℕ} {state words : List ℕ} {rooms : Rooms} {tally : List ℕ} {a : ℕ} (names : a ≡ argument_at table i) where
  event_is : (b : Bool) (e : ℕ) (x : Term) → Ready 0 table i state words rooms tally (local b e x) → a ≡ e
  unfolding prog Spells
  event_is b e x h = names ∙ h.placed.spelled.1

  module _ {words₁ : List ℕ} (m : Marked a (eqb (own_phase state) 1) words words₁) where
    inside_marks : (b : Bool) (e : ℕ) (x : Term) → Ready 0 table i state words rooms tally (local b e x) → marks words₁ ≡ put e b (marks words)
    unfolding prog
    inside_marks b e x h =
        put_in m h.wide (event_is b e x h) (local_placed h.placed) (ap (λ n. eqb n 1) (phase_is h) ∙ plus_is b)

    inside_goes : (b : Bool) (e : ℕ) (x : Term) → Ready 0 table i state words rooms tally (local b e x) → Going (marks words₁) x
    unfolding Going
    inside_goes b e x h = subst (λ (X : Events). Going X x) (sym (inside_marks b e x h)) h.going

    pub local_asks : {t : Term} → Locals t → Ready 0 table i state words rooms tally t → {k : ℕ} (rank : ℕ) → falling table i rank ≡ k
        → (falling table (i + 1) 3 < k) × Live 0 Any table (i + 1) (mid_of 4 (length state - 4) state) words₁ rooms tally
    local_asks (locals b e x) h rank falls =
        only_asks (local_body b e) h (omega arith) (still_wide m h.wide) (inside_goes b e x h) rank falls

    module _ {s words₂ : List ℕ} {rooms' : Rooms} {tally' : List ℕ} {α : Flag}
        (run : Runs 0 Any table (i + 1) (mid_of 4 (length state - 4) state) words₁ rooms tally s words₂ rooms' tally' α) where
      body_ran : (b : Bool) (e : ℕ) (x : Term) → Ready 0 table i state words rooms tally (local b e x) → (Q : Place) → Q.node ≡ i + 1
          → Ran Q x words₁ rooms tally s words₂ rooms' tally' α
      body_ran b e x h Q at = only_ran (local_body b e) h (omega arith) (still_wide m h.wide) (inside_goes b e x h) run Q at

      pub local_writes : {t : Term} → Locals t → Ready 0 table i state words rooms tally t → 0 < length (put_mid 4 (length state - 4) state s)
      local_writes (locals b e x) h =
          let o = local_body b e in
          back_in o h (only_cut h o) s (omega arith) (ran_long (body_ran b e x h (at_node (i + 1)) refl)) 0 (omega arith)

      pub local_ran : {t : Term} → Locals t → Ready 0 table i state words rooms tally t
          → {outside present : Bool} → outside ≡ marks words a → present ≡ marks words₂ a
          → {words₃ : List ℕ} → Marked a outside words₂ words₃
          → {ph : ℕ} → ph ≡ sign_after α present
          → (P : Place)
          → P.node ≡ i
          → Ran P t words rooms tally (set (put_mid 4 (length state - 4) state s) 0 ph) words₃ rooms' tally' α
      unfolding prog
      local_ran (locals b e x) h was found {words₃} m₃ after P at =
          let o = local_body b e in
          let g = body_ran b e x h (inside e P) (first_at at) in
          let same = event_is b e x h in
          let p = inside_marks b e x h in
          let q = put_in m₃ (ap (λ n. 64 * n) g.lengths.of_words ∙ still_wide m h.wide) same (local_placed h.placed) (was ∙ ap (marks words) same) in
          let on : b ≡ true → marks words₂ e ≡ true = λ z. grows g.rewrites e (ap (λ X. X e) p ∙ (put_at e b (marks words) ∙ z)) in
          let ph = after ∙ ap (sign_after α) (found ∙ ap (marks words₂) same) in
          let long : SameLengths words tally words₃ tally' =
          record { of_words = m₃.long ∙ (g.lengths.of_words ∙ m.long); of_tally = g.lengths.of_tally; of_values = g.lengths.of_values } in
          ran_phase o h (only_cut h o) g long (omega arith) refl (local_body (sign b α (marks words₂ e)) e)
          (sign_left b α (marks words₂ e) on ∙ ap in_phase (sym ph))
          (scoped words words₁ tally words₂ words₃ tally' p q g.rewrites)
          (ap₂ (λ (a : List ℕ) (b : List Piece). (a, b)) (collect_last atom_of g.acts (scope_answered P.node α (marks words₂ e)) refl)
          (collect_last piece_of g.acts (scope_answered P.node α (marks words₂ e)) refl))
