-- What a term is, by its kind and its phase: at numbers, all other terms drop out.
use Prim.Native.Nat.{ℕ}
use mathlib.Core.Bool.{Bool, true, false, cond}
use mathlib.Core.Path.{◌≡◌, refl, subst}
use native.Mathlib.Omega.{arith}
use Rattle.junior.specs.declared.Flag.{Flag}
use Rattle.junior.specs.Configuration.{Config}
use Rattle.junior.specs.Program.{Program, kind}
use Rattle.junior.specs.Term.{Term, done, nothing, stop, atom, generate, await, seq0, seq2, par, loop0, loop1}
use Rattle.junior.specs.Term.{repeat0, repeat1, when0, when1, when2, until0, until*, until2, control, local, freezable0, freezable*, if0, if1, if2, prog}
use Rattle.junior.specs.Values.{exactly, asked}
use Rattle.state.specs.Kinds.{nothing_kind, stop_kind, atom_kind, seq_kind, par_kind, loop_kind}
use Rattle.state.specs.Kinds.{repeat_kind, generate_kind, await_kind, when_kind, until_kind, control_kind, local_kind, if_kind}
use Rattle.state.specs.Kinds.{freezable_kind, repeat_ext_kind}
use Rattle.state.specs.StateBytes.{head}

pub data Shape : Term → ℕ → ℕ → Type 0 where
  is_done : (p : Program) {k : ℕ} → kind p ≡ k → Shape (done p) k 3
  is_nothing : Shape nothing nothing_kind 0
  is_stop : Shape stop stop_kind 0
  is_atom : (a : ℕ) → Shape (atom a) atom_kind 0
  is_seq0 : (t : Term) (q : Program) → Shape (seq0 t q) seq_kind 0
  is_seq2 : (p : Program) (t : Term) → Shape (seq2 p t) seq_kind 2
  is_par : (α β : Flag) (t u : Term) → Shape (par α β t u) par_kind 0
  is_loop0 : (p : Program) → Shape (loop0 p) loop_kind 0
  is_loop1 : (t : Term) → Shape (loop1 t) loop_kind 1
  is_repeat0 : (n : ℕ) (p : Program) → Shape (repeat0 (exactly n) p) repeat_kind 0
  is_repeat1 : (n k : ℕ) (t : Term) → Shape (repeat1 (exactly n) k t) repeat_kind 1
  is_generate : (s : ℕ) → Shape (generate s) generate_kind 0
  is_await : (c : Config) → Shape (await c) await_kind 0
  is_when0 : (c : Config) (p q : Program) → Shape (when0 c p q) when_kind 0
  is_when1 : (c : Config) (t : Term) (q : Program) → Shape (when1 c t q) when_kind 1
  is_when2 : (c : Config) (p : Program) (t : Term) → Shape (when2 c p t) when_kind 2
  is_until0 : (c : Config) (t : Term) (q : Program) → Shape (until0 c t q) until_kind 0
  is_until* : (c : Config) (t : Term) (q : Program) → Shape (until* c t q) until_kind 1
  is_until2 : (c : Config) (p : Program) (t : Term) → Shape (until2 c p t) until_kind 2
  is_control : (s : ℕ) (t : Term) → Shape (control s t) control_kind 0
  is_local : (b : Bool) (s : ℕ) (t : Term) {ph : ℕ} → cond b 1 0 ≡ ph → Shape (local b s t) local_kind ph
  is_freezable0 : (s : ℕ) (t : Term) → Shape (freezable0 s t) freezable_kind 0
  is_freezable* : (s : ℕ) (t : Term) → Shape (freezable* s t) freezable_kind 1
  is_if0 : (v : ℕ) (p q : Program) → Shape (if0 v p q) if_kind 0
  is_if1 : (v : ℕ) (t : Term) (q : Program) → Shape (if1 v t q) if_kind 1
  is_if2 : (v : ℕ) (p : Program) (t : Term) → Shape (if2 v p t) if_kind 2
  is_ext0 : (v m : ℕ) (p : Program) → Shape (repeat0 (asked v m) p) repeat_ext_kind 0
  is_ext1 : (v m k : ℕ) (t : Term) → Shape (repeat1 (asked v m) k t) repeat_ext_kind 1

shape : (t : Term) → Shape t (kind (prog t)) (head t).phase
unfolding kind prog
shape (done p) = is_done p refl
shape nothing = is_nothing
shape stop = is_stop
shape (atom a) = is_atom a
shape (seq0 t q) = is_seq0 t q
shape (seq2 p t) = is_seq2 p t
shape (par α β t u) = is_par α β t u
shape (loop0 p) = is_loop0 p
shape (loop1 t) = is_loop1 t
shape (repeat0 (exactly n) p) = is_repeat0 n p
shape (repeat0 (asked v m) p) = is_ext0 v m p
shape (repeat1 (exactly n) k t) = is_repeat1 n k t
shape (repeat1 (asked v m) k t) = is_ext1 v m k t
shape (generate s) = is_generate s
shape (await c) = is_await c
shape (when0 c p q) = is_when0 c p q
shape (when1 c t q) = is_when1 c t q
shape (when2 c p t) = is_when2 c p t
shape (until0 c t q) = is_until0 c t q
shape (until* c t q) = is_until* c t q
shape (until2 c p t) = is_until2 c p t
shape (control s t) = is_control s t
shape (local b s t) = is_local b s t refl
shape (freezable0 s t) = is_freezable0 s t
shape (freezable* s t) = is_freezable* s t
shape (if0 v p q) = is_if0 v p q
shape (if1 v t q) = is_if1 v t q
shape (if2 v p t) = is_if2 v p t

pub shape_by : (t : Term) {k ph : ℕ} → kind (prog t) ≡ k → (head t).phase ≡ ph → Shape t k ph
shape_by t {ph = ph} e f = subst (λ (n : ℕ). Shape t n ph) e (subst (λ (n : ℕ). Shape t (kind (prog t)) n) f (shape t))

-- the phase of a Local is never 3
pub no_sign : (b : Bool) → ◌≡◌ {A = ℕ} (cond b 1 0) 3 → ⊥
no_sign true e = omega arith
no_sign false e = omega arith
