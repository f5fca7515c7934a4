-- The reading machine accepts what the form says.
use Prim.Native.Nat.{ℕ, ◌≤◌, ◌<◌}
use mathlib.Core.Path.{◌≡◌, refl, sym, ◌∙◌}
use mathlib.Core.List.{List, [], ◌∷◌, ◌++◌, append_assoc, append-nil}
use native.Mathlib.Omega.{arith}
use borrow.Author.Tests.{eq-eqb}
use Rattle.letters.specs.Decimal.{decimal}
use Rattle.junior.specs.Configuration.{Config}
use Rattle.junior.specs.Program.{Program}
use Rattle.form.specs.Form.{SaysTest, says_event, says_not, says_and, says_or, Piece, whole, later_seq}
use Rattle.form.specs.Form.{later_par, Says, says_nothing, says_stop, says_atom, says_seq, last_of_seq}
use Rattle.form.specs.Form.{more_of_seq, says_par, last_of_par, more_of_par, says_loop, says_repeat}
use Rattle.form.specs.Form.{says_generate, says_await, says_when, says_until, says_control, says_local, says_freezable, says_if}
use Rattle.form.specs.Form.{says_repeat_ext}
use Rattle.form.specs.Inside.Machine.{End, close, comma, space, end_byte, Number, event, plain, value, cap, limit, Stack}
use Rattle.form.specs.Inside.Machine.{byte, prog, parts, conf, inner, joint, num, tail, on, step, run}
use Rattle.letters.proofs.ReadsDecimal.{Reader, reads_decimal}
use Rattle.form.proofs.Steps.{digit, step_num, step_conf, step_inner, step_tail, step_end}

pub run_end : (n : Number) (v : ℕ) (e : End) (σ : Stack) (x : List ℕ) → run (tail n v e ∷ σ) (end_byte e ∷ x) ≡ run σ x
unfolding run
run_end n v e σ x = rw (step_end n v e σ)

-- a number's first digit makes it a tail, and the other digits keep it one
number_reader : (n : Number) (e : End) (σ τ : Stack)
    → ((d : ℕ) → d < 10 → step σ (digit d) ≡ on (tail n d e ∷ τ))
    → Reader (limit n) (run σ) (λ v. run (tail n v e ∷ τ))
unfolding run
number_reader n e σ τ f =
    record {
      first = λ d x h. rw (f d h);
      more = λ v d x g h l. rw (step_tail n v e τ d g h l);
    }

-- a number is read up to the byte behind it
pub run_num : (n : Number) (e : End) (σ : Stack) (x : List ℕ) (a : ℕ) → a ≤ limit n
    → run (num n e ∷ σ) (decimal a ++ (end_byte e ∷ x)) ≡ run σ x
run_num n e σ x a h =
    reads_decimal (number_reader n e (num n e ∷ σ) σ (step_num n e σ)) a h (end_byte e ∷ x) ∙ run_end n a e σ x

-- where a configuration's first part may stand, it is read as a configuration before a space
as_conf : {c : Config} {u : List ℕ} → SaysTest c u → (σ : Stack) (x : List ℕ)
    → run (inner ∷ σ) (u ++ x) ≡ run (conf space ∷ joint ∷ σ) (u ++ x)
unfolding run
as_conf (says_event {s} h) σ x =
    let r = number_reader event space (inner ∷ σ) (joint ∷ σ) (step_inner σ) in
    let q = number_reader event space (conf space ∷ joint ∷ σ) (joint ∷ σ) (step_conf space (joint ∷ σ)) in
    reads_decimal r s (omega arith) x ∙ sym (reads_decimal q s (omega arith) x)
as_conf (says_not d) σ x = refl
as_conf (says_and c d) σ x = refl
as_conf (says_or c d) σ x = refl

pub run_byte : (c : ℕ) (σ : Stack) (x : List ℕ) → run (byte c ∷ σ) (c ∷ x) ≡ run σ x
unfolding run
run_byte c σ x = simp (eq-eqb c c refl)

run_conf : {c : Config} {u : List ℕ} → SaysTest c u → (e : End) (σ : Stack) (x : List ℕ)
    → run (conf e ∷ σ) (u ++ (end_byte e ∷ x)) ≡ run σ x
unfolding run
run_conf (says_event {s} h) e σ x =
    let r = number_reader event e (conf e ∷ σ) σ (step_conf e σ) in
    reads_decimal r s (omega arith) (end_byte e ∷ x) ∙ run_end event s e σ x
run_conf (says_not d) e σ x = simp append_assoc (run_conf d close _ _ ∙ run_byte (end_byte e) σ x)
run_conf (says_and c d) e σ x =
    simp append_assoc (as_conf c _ _ ∙ (run_conf c space _ _ ∙ (run_conf d close _ _ ∙ run_byte (end_byte e) σ x)))
run_conf (says_or c d) e σ x =
    simp append_assoc (as_conf c _ _ ∙ (run_conf c space _ _ ∙ (run_conf d close _ _ ∙ run_byte (end_byte e) σ x)))

-- what must be on the stack for a piece
abbrev pub wants : Piece → Stack → Stack
wants (whole p) σ = prog ∷ σ
wants (later_seq p) σ = prog ∷ parts ∷ σ
wants (later_par p) σ = prog ∷ parts ∷ σ

pub runs : {s : Piece} {w : List ℕ} → Says s w → (σ : Stack) (x : List ℕ) → run (wants s σ) (w ++ x) ≡ run σ x
unfolding run
runs says_nothing σ x = refl
runs says_stop σ x = refl
runs (says_atom h) σ x = simp append_assoc (run_num plain close σ x _ h)
runs (says_seq d e) σ x = simp append_assoc (runs d _ _ ∙ runs e σ x)
runs (last_of_seq d) σ x = simp append_assoc (runs d _ _)
runs (more_of_seq d e) σ x = simp append_assoc (runs d _ _ ∙ runs e σ x)
runs (says_par d e) σ x = simp append_assoc (runs d _ _ ∙ runs e σ x)
runs (last_of_par d) σ x = simp append_assoc (runs d _ _)
runs (more_of_par d e) σ x = simp append_assoc (runs d _ _ ∙ runs e σ x)
runs (says_loop d) σ x = simp append_assoc (runs d _ _)
runs (says_repeat h d) σ x = simp append_assoc (run_num plain comma _ _ _ h ∙ runs d _ _)
runs (says_generate h) σ x = simp append_assoc (run_num event close σ x _ (omega arith))
runs (says_await c) σ x = simp append_assoc (run_conf c close _ _)
runs (says_when c d e) σ x = simp append_assoc (run_conf c comma _ _ ∙ (runs d _ _ ∙ runs e _ _))
runs (says_until c d e) σ x = simp append_assoc (run_conf c comma _ _ ∙ (runs d _ _ ∙ runs e _ _))
runs (says_control h d) σ x = simp append_assoc (run_num event comma _ _ _ (omega arith) ∙ runs d _ _)
runs (says_local h d) σ x = simp append_assoc (run_num event comma _ _ _ (omega arith) ∙ runs d _ _)
runs (says_freezable h d) σ x = simp append_assoc (run_num event comma _ _ _ (omega arith) ∙ runs d _ _)
runs (says_if h d e) σ x = simp append_assoc (run_num value comma _ _ _ h ∙ (runs d _ _ ∙ runs e _ _))
runs (says_repeat_ext h g d) σ x = simp append_assoc (run_num value comma _ _ _ h ∙ (run_num cap comma _ _ _ g ∙ runs d _ _))

pub accepts : {p : Program} {w : List ℕ} → Says (whole p) w → run (prog ∷ []) w ≡ on []
unfolding run
accepts {w = w} d = rw append-nil at (runs d [] [])
