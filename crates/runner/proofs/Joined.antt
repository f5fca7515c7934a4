-- A Par's bytes: the parts that its branches are lent, and what par_end makes of them when both have answered.
use Prim.Native.Nat.{ℕ, suc, ◌+◌, ◌-◌, ◌*◌, ◌<◌}
use mathlib.Core.Bool.{cond}
use mathlib.Core.Path.{◌≡◌, refl, ap, ap₂, sym, subst, ◌∙◌}
use mathlib.Core.Logic.{◌≢◌}
use mathlib.Core.List.{List, [], ◌∷◌, ◌++◌, append-nil}
use native.Mathlib.Omega.{arith}
use lib.ListN.{length, get_or, set, replicate, length-append, length-set}
use lib.Seq.{set_at, get_or-append-add}
use Rattle.events.specs.Events.{Events}
use Rattle.events.specs.Members.{marks}
use Rattle.junior.specs.declared.Flag.{Flag}
use Rattle.junior.specs.declared.Flag.TheVariants.{SUSP, STOP, TERM}
use Rattle.junior.specs.Flags.{γ, δ₁, δ₂}
use Rattle.junior.specs.Program.{Program, size}
use Rattle.junior.specs.Term.{Term, done, par, prog, leave}
use Rattle.junior.specs.Trace.{Place}
use Rattle.junior.specs.AtRest.{Over}
use Rattle.junior.specs.Inside.{Going, Remains}
use Rattle.junior.proofs.Going.{stands}
use Rattle.table.proofs.Tree.{size_pos}
use Rattle.state.specs.StateBytes.{code, head, zeros, below, state_bytes}
use Rattle.state.proofs.Parts.{first_of, with_first, rest_of, with_rest, blank_two, part_is, put_is, own_phase, own_flags}
use Rattle.steps.specs.Running.{Rooms, Ran}
use Rattle.steps.specs.Running.{left, gone, ended, flag_is_term, par_end}
use Rattle.steps.proofs.Done.{left_leave}

-- a Par's bytes: its flags, those of its first branch, n nodes, and those of its second
pub record Two (state : List ℕ) (flags n : ℕ) (a b : List ℕ) : Type 0 where
  pub state_is : state ≡ 0 ∷ flags ∷ 0 ∷ 0 ∷ (a ++ b)
  pub first_long : length a ≡ 4 * n

module _ {state : List ℕ} {flags n : ℕ} {a b : List ℕ} (o : Two state flags n a b) where
  pub first_part : first_of state n ≡ a
  first_part = part_is state (0 ∷ flags ∷ 0 ∷ 0 ∷ []) a b o.state_is 4 (4 + 4 * n) refl (omega (arith, o.first_long))

  pub put_first : (s : List ℕ) → length s ≡ 4 * n → Two (with_first state n s) flags n s b
  put_first s l =
      record {
        state_is =
            put_is state (0 ∷ flags ∷ 0 ∷ 0 ∷ []) a b o.state_is 4 (4 + 4 * n) refl (omega (arith, o.first_long)) s;
        first_long = l;
      }

  pub ends : 4 + 4 * n + length b ≡ length state
  ends = omega (arith, simp length-append at (ap length o.state_is), o.first_long)

  pub second_part_lem : rest_of state n ≡ b
  second_part_lem =
      part_is state (0 ∷ flags ∷ 0 ∷ 0 ∷ a) b [] (rw append-nil o.state_is) (4 + 4 * n) (length state)
      (omega (arith, o.first_long)) ends

  pub put_second : (s : List ℕ) → Two (with_rest state n s) flags n a s
  put_second s =
      record {
        state_is =
            rw append-nil at
            (put_is state (0 ∷ flags ∷ 0 ∷ 0 ∷ a) b [] (rw append-nil o.state_is) (4 + 4 * n) (length state)
            (omega (arith, o.first_long)) ends s);
        first_long = o.first_long;
      }

  -- the flags, and the second branch's phase
  pub flags_at_lem : own_flags state ≡ flags
  flags_at_lem = ap own_flags o.state_is

  pub second_at : get_or state (4 + 4 * n) 0 ≡ own_phase b
  second_at =
      let there : length (0 ∷ flags ∷ 0 ∷ 0 ∷ a) + 0 ≡ 4 + 4 * n = omega (arith, o.first_long) in
      rw (o.state_is, ← there) (get_or-append-add (0 ∷ flags ∷ 0 ∷ 0 ∷ a) b 0 0)

-- par_end writes the first byte of each branch
pub end_asks : {state : List ℕ} {flags n : ℕ} {a b : List ℕ} → Two state flags n a b → 0 < n → 0 < length b
    → (4 < length state) × (4 + 4 * n < length state)
end_asks o k l = (omega (arith, ends o), omega (arith, ends o))

-- a branch that answered α, or stood with it, and its bytes: as its term says, the phase of one that has ended being open
abbrev pub Branch : Flag → Term → List ℕ → Type 0
Branch SUSP t a = a ≡ state_bytes t
Branch STOP t a = a ≡ state_bytes t
Branch TERM t a = (t ≡ done (prog t)) × ((ph : ℕ) × (a ≡ ph ∷ replicate (4 * size (prog t) - 1) 0))

over : (t : Term) → Over TERM t → t ≡ done (prog t)
unfolding prog
over t (p, e) = e ∙ ap done (sym (ap prog e))

-- a branch that stands with TERM is in phase 3
pub stood_ended : (X : Events) (α : Flag) (t : Term) → α ≡ TERM → Remains α X t → own_phase (state_bytes t) ≡ 3
stood_ended X α t e s = let (p, is) = subst (λ f. Remains f X t) e s in ap (λ x. (head x).phase) is

zeros_cons : (p : Program) → zeros p ≡ 0 ∷ replicate (4 * size p - 1) 0
zeros_cons p = let e : 4 * size p ≡ suc (4 * size p - 1) = omega (arith, size_pos p) in ap (λ k. replicate k 0) e

done_cons : (p : Program) → state_bytes (done p) ≡ 3 ∷ replicate (4 * size p - 1) 0
unfolding below
done_cons p = let e : 4 * size p - 1 ≡ suc (suc (suc (4 * size p - 4))) = omega (arith, size_pos p) in rw e

module _ (X : Events) where
  branch_left : (α : Flag) (t : Term) (a : List ℕ) → a ≡ left α t → Remains α X t → Branch α t a
  branch_left SUSP t a e s = e
  branch_left STOP t a e s = e
  branch_left TERM t a e s = (over t s, (0, e ∙ zeros_cons (prog t)))

  pub branch_stood : (α : Flag) (t : Term) → α ≢ SUSP → Remains α X t → Branch α t (state_bytes t)
  branch_stood SUSP t n s = absurd (n refl)
  branch_stood STOP t n s = refl
  branch_stood TERM t n s = (over t s, (3, ap state_bytes (over t s) ∙ done_cons (prog t)))

pub branch_ran : {P : Place} {t : Term} {words : List ℕ} {rooms : Rooms} {tally s words' : List ℕ} {rooms' : Rooms} {tally' : List ℕ} {α : Flag}
    (g : Ran P t words rooms tally s words' rooms' tally' α) → Going (marks words) t → Branch α g.to s
branch_ran {words' = words'} {α = α} g on = branch_left (marks words') α g.to _ g.bytes (stands g.rewrites on)

-- what par_end makes of a branch: phase 3 if it has ended, or 0 where the Par has
as_said : (α : Flag) (t : Term) (a : List ℕ) → Branch α t a → ended α 0 3 a ≡ state_bytes t
as_said SUSP t a e = e
as_said STOP t a e = e
as_said TERM t a (d, (ph, e)) = ap (λ l. set l 0 3) e ∙ (sym (done_cons (prog t)) ∙ ap state_bytes (sym d))

as_zeros : (t : Term) (a : List ℕ) → Branch TERM t a → ended TERM 0 0 a ≡ zeros (prog t)
as_zeros t a (d, (ph, e)) = ap (λ l. set l 0 0) e ∙ sym (zeros_cons (prog t))

module _ (flags x : ℕ) (t : Term) (a b : List ℕ) where
  first_ended : (α : Flag) → Branch α t a
      → ended α 4 x (0 ∷ flags ∷ 0 ∷ 0 ∷ (a ++ b)) ≡ 0 ∷ flags ∷ 0 ∷ 0 ∷ (ended α 0 x a ++ b)
  first_ended SUSP e = refl
  first_ended STOP e = refl
  first_ended TERM (d, (ph, e)) = rw e

  second_ended : (β : Flag) (n : ℕ) → length a ≡ 4 * n → Branch β t b
      → ended β (4 + 4 * n) x (0 ∷ flags ∷ 0 ∷ 0 ∷ (a ++ b)) ≡ 0 ∷ flags ∷ 0 ∷ 0 ∷ (a ++ ended β 0 x b)
  second_ended SUSP n l e = refl
  second_ended STOP n l e = refl
  second_ended TERM n l (d, (ph, e)) = rw e (set_at (0 ∷ flags ∷ 0 ∷ 0 ∷ a) ph _ x (4 + 4 * n) (omega arith))

ended_long : (α : Flag) (x : ℕ) (a : List ℕ) → length (ended α 0 x a) ≡ length a
ended_long SUSP x a = refl
ended_long STOP x a = refl
ended_long TERM x a = length-set a 0 x

-- the joined bytes
module _ (t u : Term) (a b : List ℕ) where
  on : (k : ℕ) (α β : Flag) → Branch α t a → Branch β u b
      → 0 ∷ k ∷ 0 ∷ 0 ∷ (ended α 0 3 a ++ ended β 0 3 b) ≡ 0 ∷ k ∷ 0 ∷ 0 ∷ (state_bytes t ++ state_bytes u)
  on k α β c d = ap₂ (λ x y. 0 ∷ k ∷ 0 ∷ 0 ∷ (x ++ y)) (as_said α t a c) (as_said β u b d)

  joined_bytes : (α β : Flag) → Branch α t a → Branch β u b
      → 0 ∷ cond (flag_is_term (γ α β)) 0 (code (δ₁ α β) + 4 * code (δ₂ α β)) ∷ 0 ∷ 0
      ∷ (ended α 0 (gone (γ α β)) a ++ ended β 0 (gone (γ α β)) b)
      ≡ left (γ α β) (par (δ₁ α β) (δ₂ α β) t u)
  unfolding below prog size
  joined_bytes SUSP SUSP c d = on _ SUSP SUSP c d
  joined_bytes SUSP STOP c d = on _ SUSP STOP c d
  joined_bytes SUSP TERM c d = on _ SUSP TERM c d
  joined_bytes STOP SUSP c d = on _ STOP SUSP c d
  joined_bytes STOP STOP c d = on _ STOP STOP c d
  joined_bytes STOP TERM c d = on _ STOP TERM c d
  joined_bytes TERM SUSP c d = on _ TERM SUSP c d
  joined_bytes TERM STOP c d = on _ TERM STOP c d
  joined_bytes TERM TERM c d =
      ap₂ (λ x y. 0 ∷ 0 ∷ 0 ∷ 0 ∷ (x ++ y)) (as_zeros t a c) (as_zeros u b d) ∙ blank_two (prog t) (prog u)

  pub par_ended : {state : List ℕ} {flags n : ℕ} → Two state flags n a b → (α β : Flag) → Branch α t a → Branch β u b
      → par_end α β (4 + 4 * n) state ≡ left (γ α β) (leave (γ α β) (par (δ₁ α β) (δ₂ α β) t u))
  par_ended {n = n} o α β c d =
      let k = cond (flag_is_term (γ α β)) 0 (code (δ₁ α β) + 4 * code (δ₂ α β)) in
      let x = gone (γ α β) in
      ap (λ s. ended β (4 + 4 * n) x (ended α 4 x (set s 1 k))) o.state_is
      ∙ (ap (ended β (4 + 4 * n) x) (first_ended k x t a b α c)
      ∙ (second_ended k x u (ended α 0 x a) b β n (ended_long α x a ∙ o.first_long) d
      ∙ (joined_bytes α β c d ∙ sym (left_leave (γ α β) (par (δ₁ α β) (δ₂ α β) t u)))))
