-- Nodes around one child: where the child stands in the table and in the bytes, and what of the node is the child's.
use Prim.Native.Nat.{ℕ, ◌+◌, ◌≤◌}
use mathlib.Core.Bool.{Bool, cond}
use mathlib.Core.Path.{◌≡◌, refl}
use mathlib.Core.List.{List, ◌++◌, append-nil}
use native.Mathlib.Omega.{arith}
use native.Mathlib.Nat.{add-zero}
use Rattle.junior.specs.Configuration.{Config}
use Rattle.junior.specs.Program.{Program, One, loop, repeat, control, local, freezable, Two, seq, when, until, if, size}
use Rattle.junior.specs.Values.{Times}
use Rattle.junior.specs.Term.{Term, seq0, seq2, loop1, repeat1, when1, when2, until0, until2, freezable0, if1, if2, prog}
use Rattle.junior.specs.Figures.{LoopsStop}
use Rattle.junior.specs.Inside.{pot}
use Rattle.table.specs.Spells.{Spells}
use Rattle.table.proofs.Parts.{of_one, of_two}
use Rattle.table.proofs.Tree.{spells_one, spells_two, second}
use Rattle.state.specs.StateBytes.{Own, head, in_phase, below, state_bytes}
use Rattle.state.proofs.Parts.{blank}

-- q is p's only part, its first or its second: so many nodes stand ahead of it, so many behind it
pub data Side : Program → Program → ℕ → ℕ → Type 0 where
  only_part : {p q : Program} → One p q → Side p q 0 0
  first_part : {p q r : Program} → Two p q r → Side p q 0 (size r)
  second_part_lem : {p q r : Program} → Two p r q → Side p q (size r) 0

-- a node f with its own bytes around one child, and no state ahead of the child or behind it
pub record Frame (own : Own) (ahead behind : ℕ) (f : Term → Term) : Type 0 where
  pub head_is : (x : Term) → head (f x) ≡ own
  pub below_is : (x : Term) → below (f x) ≡ blank ahead ++ (state_bytes x ++ blank behind)
  pub side : (x : Term) → Side (prog (f x)) (prog x) ahead behind
  pub loops : (x : Term) → LoopsStop (prog (f x)) → LoopsStop (prog x)
  pub pot_in : (k : Program → ℕ) (x : Term) → pot k x ≤ pot k (f x)

frame : {own : Own} {ahead behind : ℕ} {f : Term → Term}
    → ((x : Term) → head (f x) ≡ own)
    → ((x : Term) → below (f x) ≡ blank ahead ++ (state_bytes x ++ blank behind))
    → ((x : Term) → Side (prog (f x)) (prog x) ahead behind)
    → ((x : Term) → LoopsStop (prog (f x)) → LoopsStop (prog x))
    → ((k : Program → ℕ) (x : Term) → pot k x ≤ pot k (f x))
    → Frame own ahead behind f
frame a b c d e = record { head_is = a; below_is = b; side = c; loops = d; pot_in = e }

size_by : {p q : Program} {ahead behind : ℕ} → Side p q ahead behind → size p ≡ 1 + ahead + size q + behind
size_by (only_part f) = omega (arith, (of_one f).size_is)
size_by (first_part f) = omega (arith, (of_two f).size_is)
size_by (second_part_lem f) = omega (arith, (of_two f).size_is)

spells_by : (t : List ℕ) (i : ℕ) {p q : Program} {ahead behind : ℕ} → Side p q ahead behind → Spells t i p → Spells t (i + 1 + ahead) q
spells_by t i (only_part f) h = rw add-zero (spells_one t i f h)
spells_by t i (first_part f) h = rw add-zero (spells_two t i f h).0
spells_by t i (second_part_lem {q = q} {r = r} f) h = let (a, b) = spells_two t i f h in second t i r q a b

module _ {own : Own} {ahead behind : ℕ} {f : Term → Term} (o : Frame own ahead behind f) (x : Term) where
  pub size_in : size (prog (f x)) ≡ 1 + ahead + size (prog x) + behind
  size_in = size_by (o.side x)

  pub spells_in : (t : List ℕ) (i : ℕ) → Spells t i (prog (f x)) → Spells t (i + 1 + ahead) (prog x)
  spells_in t i = spells_by t i (o.side x)

pub seq_first : (q : Program) → Frame (in_phase 0) 0 (size q) (λ x. seq0 x q)
unfolding below prog LoopsStop pot
seq_first q = frame (λ x. refl) (λ x. refl) (λ x. first_part (seq (prog x) q)) (λ x h. h.0) (λ k x. omega arith)

pub seq_second : (p : Program) → Frame (in_phase 2) (size p) 0 (λ x. seq2 p x)
unfolding below prog LoopsStop pot
seq_second p = frame (λ x. refl) (λ x. simp append-nil) (λ x. second_part_lem (seq p (prog x))) (λ x h. h.1) (λ k x. omega arith)

pub loop_body : Frame (in_phase 1) 0 0 (λ x. loop1 x)
unfolding below prog LoopsStop pot
loop_body = frame (λ x. refl) (λ x. simp append-nil) (λ x. only_part (loop (prog x))) (λ x h. h.1) (λ k x. omega arith)

pub repeat_body : (n : Times) (k : ℕ) → Frame (record { phase = 1; flags = 0; count = k }) 0 0 (λ x. repeat1 n k x)
unfolding below prog LoopsStop pot
repeat_body n k = frame (λ x. refl) (λ x. simp append-nil) (λ x. only_part (repeat n (prog x))) (λ x h. h) (λ k x. omega arith)

pub when_first : (c : Config) (q : Program) → Frame (in_phase 1) 0 (size q) (λ x. when1 c x q)
unfolding below prog LoopsStop pot
when_first c q = frame (λ x. refl) (λ x. refl) (λ x. first_part (when c (prog x) q)) (λ x h. h.0) (λ k x. omega arith)

pub when_second : (c : Config) (p : Program) → Frame (in_phase 2) (size p) 0 (λ x. when2 c p x)
unfolding below prog LoopsStop pot
when_second c p = frame (λ x. refl) (λ x. simp append-nil) (λ x. second_part_lem (when c p (prog x))) (λ x h. h.1) (λ k x. omega arith)

pub until_first : (c : Config) (q : Program) → Frame (in_phase 0) 0 (size q) (λ x. until0 c x q)
unfolding below prog LoopsStop pot
until_first c q = frame (λ x. refl) (λ x. refl) (λ x. first_part (until c (prog x) q)) (λ x h. h.0) (λ k x. omega arith)

pub until_second : (c : Config) (p : Program) → Frame (in_phase 2) (size p) 0 (λ x. until2 c p x)
unfolding below prog LoopsStop pot
until_second c p = frame (λ x. refl) (λ x. simp append-nil) (λ x. second_part_lem (until c p (prog x))) (λ x h. h.1) (λ k x. omega arith)

pub if_first : (v : ℕ) (q : Program) → Frame (in_phase 1) 0 (size q) (λ x. if1 v x q)
unfolding below prog LoopsStop pot
if_first v q = frame (λ x. refl) (λ x. refl) (λ x. first_part (if v (prog x) q)) (λ x h. h.0) (λ k x. omega arith)

pub if_second : (v : ℕ) (p : Program) → Frame (in_phase 2) (size p) 0 (λ x. if2 v p x)
unfolding below prog LoopsStop pot
if_second v p = frame (λ x. refl) (λ x. simp append-nil) (λ x. second_part_lem (if v p (prog x))) (λ x h. h.1) (λ k x. omega arith)

pub control_body : (s : ℕ) → Frame (in_phase 0) 0 0 (λ x. Term.control s x)
unfolding below prog LoopsStop pot
control_body s = frame (λ x. refl) (λ x. simp append-nil) (λ x. only_part (control s (prog x))) (λ x h. h) (λ k x. omega arith)

pub local_body : (b : Bool) (s : ℕ) → Frame (in_phase (cond b 1 0)) 0 0 (λ x. Term.local b s x)
unfolding below prog LoopsStop pot
local_body b s = frame (λ x. refl) (λ x. simp append-nil) (λ x. only_part (local s (prog x))) (λ x h. h) (λ k x. omega arith)

pub freezable_body : (s : ℕ) → Frame (in_phase 0) 0 0 (λ x. freezable0 s x)
unfolding below prog LoopsStop pot
freezable_body s = frame (λ x. refl) (λ x. simp append-nil) (λ x. only_part (freezable s (prog x))) (λ x h. h) (λ k x. omega arith)
