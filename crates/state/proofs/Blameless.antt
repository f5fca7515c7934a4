-- In a state in whose bytes a term at rest stands no node is to blame.
use Prim.Native.Nat.{ℕ, ◌+◌, ◌-◌, ◌*◌, ◌≤◌, ◌<◌, min}
use mathlib.Core.Bool.{true, false, true≢false}
use mathlib.Core.Path.{◌≡◌, refl, sym, ap, ◌∙◌}
use mathlib.Core.List.{List, ◌++◌}
use native.Mathlib.Omega.{arith}
use lib.ListN.{length, take, drop, replicate, length-take, length-drop, length-replicate}
use lib.Seq.{take_at, drop_at, length-take-le}
use lib.Dec.{eqb}
use borrow.Author.Tests.{lt-ltb}
use Rattle.junior.specs.declared.Flag.{Flag}
use Rattle.junior.specs.declared.Flag.TheVariants.{SUSP, STOP, TERM}
use Rattle.junior.specs.Program.{Program, Nothing, Stop, Atom, Loop, Repeat, Generate, Await, When, If, size, kind}
use Rattle.junior.specs.Term.{Term, done, nothing, stop, atom, generate, await, seq0, seq2, par, loop0, loop1}
use Rattle.junior.specs.Term.{repeat0, repeat1, when0, when1, when2, until0, until*, until2, control, local, freezable0, freezable*, if0, if1, if2, prog}
use Rattle.junior.specs.Term.{fresh}
use Rattle.junior.specs.Values.{exactly, asked}
use Rattle.junior.specs.AtRest.{AtRest, Waiting, Over}
use Rattle.table.specs.Records.{nodes, size_at, second_child}
use Rattle.table.specs.Spells.{Spells, tree_of}
use Rattle.table.specs.Inside.{Loaded, Placed}
use Rattle.table.proofs.Tree.{size_pos, written, spells_two, second_is, second}
use Rattle.table.proofs.Loaded.{all_nodes}
use Rattle.table.proofs.Subtrees.{rooted}
use Rattle.state.specs.StateBytes.{Own, head, code, before, in_phase, zeros, below, state_bytes}
use Rattle.state.specs.Resting.{phase_at, first_zero, second_zero, below_zero, phase_rests, flags_rest, count_rests, rests, blamed}
use Rattle.state.proofs.Parts.{blank, len_bytes, fresh_zeros, own_phase}
use Rattle.state.proofs.Frames.{Side, only_part, first_part, second_part_lem, Frame, size_in, spells_in, seq_first, seq_second, loop_body}
use Rattle.state.proofs.Frames.{repeat_body, when_first, when_second, until_first, until_second, if_first, if_second}
use Rattle.state.proofs.Frames.{control_body, local_body, freezable_body}
use Rattle.state.proofs.Zeros.{Owns, zero_each}
use Rattle.state.proofs.Firsts.{Hold, hold_more, hold_join, first_at, first_lowest}
use Rattle.state.proofs.Fresh.{zero_rests}
use Rattle.state.proofs.NodeBytes.{bytes_at, both_parts, node_owns, bytes_zero, first_byte}

module _ (t s : List ℕ) (l : Loaded t) (long : 4 * nodes t ≤ length s) where
  -- of the n nodes from i on none is to blame
  abbrev Calm : ℕ → ℕ → Type 0
  Calm i n = Hold (rests t s) i (i + n)

  -- the bytes of two children told apart
  parts : (i m n : ℕ) (a b : List ℕ) → i + m + n ≤ nodes t → length a ≡ 4 * m → bytes_at s i (m + n) ≡ a ++ b
      → (bytes_at s i m ≡ a) × (bytes_at s (i + m) n ≡ b)
  parts i m n a b h e w =
      let c = sym (both_parts s i m n) ∙ w in
      let f : 4 * m ≤ length (drop (4 * i) s) = simp length-drop (omega arith) in
      let g = length-take-le (4 * m) (drop (4 * i) s) f in (
        sym (take_at (bytes_at s i m) (bytes_at s (i + m) n) (4 * m) g) ∙ (ap (take (4 * m)) c ∙ take_at a b (4 * m) e),
        sym (drop_at (bytes_at s i m) (bytes_at s (i + m) n) (4 * m) g) ∙ (ap (drop (4 * m)) c ∙ drop_at a b (4 * m) e),
      )

  blank_len : (n : ℕ) → length (blank n) ≡ 4 * n
  blank_len n = length-replicate (4 * n) 0

  -- nodes that have no byte but zeros, the nodes of a subtree or all of them but the first
  idle_from : (p : Program) (i j n : ℕ) → Spells t i p → i + size p ≤ nodes t → i ≤ j → j + n ≡ i + size p → bytes_at s j n ≡ blank n
      → Calm j n
  idle_from p i j n sp h g e b =
      let w = written t i p sp in
      let f : i + size_at t i ≡ j + n = omega arith in
      let z = zero_each s j n (bytes_zero s j n (omega arith) b) in
      rw f at (zero_rests s (rooted l) i (omega (arith, size_pos p)) j g (rw f z))

  idle : (p : Program) (i : ℕ) → Spells t i p → i + size p ≤ nodes t → bytes_at s i (size p) ≡ zeros p → Calm i (size p)
  idle p i sp h b = idle_from p i i (size p) sp h (omega arith) refl b

  -- so a fresh term's
  unbegun : (p : Program) (i : ℕ) → Spells t i p → i + size p ≤ nodes t → bytes_at s i (size p) ≡ state_bytes (fresh p) → Calm i (size p)
  unbegun p i sp h b = idle p i sp h (b ∙ fresh_zeros p)

  -- what a child that has no state comes to
  module _ {p q : Program} (i : ℕ) (sp : Spells t i p) where
    ahead_idle : {ahead behind : ℕ} → Side p q ahead behind → i + 1 + ahead ≤ nodes t → bytes_at s (i + 1) ahead ≡ blank ahead
        → (0 < ahead → first_zero t s i ≡ true) × Calm (i + 1) ahead
    ahead_idle (only_part f) h b = (λ z. absurd (omega arith), λ k c d. absurd (omega arith))
    ahead_idle (first_part f) h b = (λ z. absurd (omega arith), λ k c d. absurd (omega arith))
    ahead_idle (second_part_lem {r = r} f) h b =
        let a = (spells_two t i f sp).0 in
        (λ z. rw (written t (i + 1) r a) (bytes_zero s (i + 1) (size r) (omega arith) b), idle r (i + 1) a h b)

    behind_idle : {ahead behind : ℕ} → Side p q ahead behind → (j : ℕ) → j ≡ i + 1 + ahead + size q → j + behind ≤ nodes t
        → bytes_at s j behind ≡ blank behind
        → (0 < behind → second_zero t s i ≡ true) × Calm j behind
    behind_idle (only_part f) j e h b = (λ z. absurd (omega arith), λ k c d. absurd (omega arith))
    behind_idle (second_part_lem f) j e h b = (λ z. absurd (omega arith), λ k c d. absurd (omega arith))
    behind_idle (first_part {r = r} f) j e h b =
        let (a, c) = spells_two t i f sp in
        let z : second_child t i ≡ j = second_is t i q a ∙ omega arith in
        (λ y. rw (written t (second_child t i) r c, z) (bytes_zero s j (size r) (omega arith) b), idle r j (rw z at c) h b)

  -- a node around one child
  within : {own : Own} {ahead behind : ℕ} {f : Term → Term} → Frame own ahead behind f → (x : Term) (i : ℕ)
      → Spells t i (prog (f x))
      → i + size (prog (f x)) ≤ nodes t
      → bytes_at s i (size (prog (f x))) ≡ state_bytes (f x)
      → ((j : ℕ) → Spells t j (prog x) → j + size (prog x) ≤ nodes t → bytes_at s j (size (prog x)) ≡ state_bytes x → Calm j (size (prog x)))
      → (Owns s i own → (0 < ahead → first_zero t s i ≡ true) → (0 < behind → second_zero t s i ≡ true) → rests t s i ≡ true)
      → Calm i (size (prog (f x)))
  within {own} {ahead} {behind} {f} o x i sp h b inner node =
      let n = size (prog x) in
      let m : size (prog (f x)) ≡ 1 + (ahead + (n + behind)) = omega (arith, size_in o x) in
      let w : bytes_at s i (1 + (ahead + (n + behind))) ≡ before own (blank ahead ++ (state_bytes x ++ blank behind)) =
      rw m at b ∙ rw (o.head_is x, o.below_is x) in
      let (owns, below) = node_owns s i (ahead + (n + behind)) (omega arith) own _ w in
      let (front, more) = parts (i + 1) ahead (n + behind) _ _ (omega arith) (blank_len ahead) below in
      let (there, back) = parts (i + 1 + ahead) n behind _ _ (omega arith) (len_bytes x) more in
      let (z₁, c₁) = ahead_idle i sp (o.side x) (omega arith) front in
      let (z₂, c₂) = behind_idle i sp (o.side x) (i + 1 + ahead + n) refl (omega arith) back in
      let c = inner (i + 1 + ahead) (spells_in o x t i sp) (omega arith) there in
      let R = rests t s in
      let e : i + size (prog (f x)) ≡ i + 1 + ahead + n + behind = omega arith in
      rw e (hold_more R i _ (node owns z₁ z₂) (hold_join R (i + 1) _ _ c₁ (hold_join R (i + 1 + ahead) _ _ c c₂)))

  -- a TERM flag stands over phase 3
  over_3 : (x : Term) (i : ℕ) → bytes_at s i (size (prog x)) ≡ state_bytes x → Over TERM x → eqb (phase_at s i) 3 ≡ true
  over_3 x i b (p, e) =
      let f : own_phase (state_bytes x) ≡ 3 = ap (λ y. (head y).phase) e in
      let g : phase_at s i ≡ 3 = sym (first_byte s i (size (prog x)) (size_pos (prog x))) ∙ (ap own_phase b ∙ f) in
      simp g

  par_flags : (α β : Flag) (u v : Term) (i : ℕ) → Waiting α β → Over α u → Over β v → Spells t (i + 1) (prog u)
      → bytes_at s (i + 1) (size (prog u)) ≡ state_bytes u
      → bytes_at s (i + 1 + size (prog u)) (size (prog v)) ≡ state_bytes v
      → flags_rest t s i (code α + 4 * code β) ≡ true
  unfolding flags_rest
  par_flags SUSP SUSP u v i w o o' sp x y = refl
  par_flags SUSP STOP u v i w o o' sp x y = absurd w
  par_flags SUSP TERM u v i w o o' sp x y =
      rw (second_is t i (prog u) sp, over_3 v (i + 1 + size (prog u)) y o')
  par_flags STOP β u v i w o o' sp x y = absurd w
  par_flags TERM SUSP u v i w o o' sp x y = rw (over_3 u (i + 1) x o)
  par_flags TERM STOP u v i w o o' sp x y = absurd w
  par_flags TERM TERM u v i w o o' sp x y = absurd w

  calm : (x : Term) (i : ℕ) → Spells t i (prog x) → i + size (prog x) ≤ nodes t → bytes_at s i (size (prog x)) ≡ state_bytes x
      → AtRest x
      → Calm i (size (prog x))
  unfolding fresh Spells size kind prog below AtRest rests phase_rests count_rests
  calm (done p) i sp h b a =
      let m : size p ≡ 1 + (size p - 1) = omega (arith, size_pos p) in
      let n : 4 * size p - 4 ≡ 4 * (size p - 1) = omega arith in
      let c : bytes_at s i (1 + (size p - 1)) ≡ before (in_phase 3) (blank (size p - 1)) =
      ap (bytes_at s i) (sym m) ∙ (b ∙ ap (λ k. before (in_phase 3) (replicate k 0)) n) in
      let (o, z) = node_owns s i (size p - 1) (omega (arith, size_pos p)) (in_phase 3) (blank (size p - 1)) c in
      let e : below_zero t s i ≡ true = rw (written t i p sp) (bytes_zero s (i + 1) (size p - 1) (omega (arith, size_pos p)) z) in
      let g : i + 1 + (size p - 1) ≡ i + size p = omega arith in
      hold_more (rests t s) i _ (simp (o.0, o.1, o.2, e)) (rw g at (idle_from p i (i + 1) (size p - 1) sp h (omega arith) g z))
  calm nothing i sp h b a = unbegun Nothing i sp h b
  calm stop i sp h b a = unbegun Stop i sp h b
  calm (atom n) i sp h b a = unbegun (Atom n) i sp h b
  calm (generate e) i sp h b a = unbegun (Generate e) i sp h b
  calm (await c) i sp h b a = unbegun (Await c) i sp h b
  calm (loop0 p) i sp h b a = unbegun (Loop p) i sp h b
  calm (repeat0 n p) i sp h b a = unbegun (Repeat n p) i sp h b
  calm (when0 c p q) i sp h b a = unbegun (When c p q) i sp h b
  calm (if0 v p q) i sp h b a = unbegun (If v p q) i sp h b
  calm (seq0 u q) i sp h b a =
      within (seq_first q) u i sp h b (λ j k m c. calm u j k m c a) (λ o z₁ z₂. simp (sp.0.0, o.0, o.1, o.2, z₂ (size_pos q)))
  calm (seq2 p u) i sp h b a =
      within (seq_second p) u i sp h b (λ j k m c. calm u j k m c a) (λ o z₁ z₂. simp (sp.0.0, o.0, o.1, o.2, z₁ (size_pos p)))
  calm (loop1 u) i sp h b a =
      within loop_body u i sp h b (λ j k m c. calm u j k m c a) (λ o z₁ z₂. simp (sp.0.0, o.0, o.1, o.2))
  calm (repeat1 (exactly n) k u) i sp h b a =
      let l = lt-ltb k n a.0 in
      within (repeat_body (exactly n) k) u i sp h b (λ j k m c. calm u j k m c a.1) (λ o z₁ z₂. simp (sp.0.0, o.0, o.1, o.2, sp.1, l))
  calm (repeat1 (asked v n) k u) i sp h b a =
      let l = lt-ltb k n a.0 in
      within (repeat_body (asked v n) k) u i sp h b (λ j k m c. calm u j k m c a.1) (λ o z₁ z₂. simp (sp.0.0, o.0, o.1, o.2, sp.1.1, l))
  calm (when1 c u q) i sp h b a =
      within (when_first c q) u i sp h b (λ j k m c. calm u j k m c a) (λ o z₁ z₂. simp (sp.0.0, o.0, o.1, o.2, z₂ (size_pos q)))
  calm (when2 c p u) i sp h b a =
      within (when_second c p) u i sp h b (λ j k m c. calm u j k m c a) (λ o z₁ z₂. simp (sp.0.0, o.0, o.1, o.2, z₁ (size_pos p)))
  calm (if1 v u q) i sp h b a =
      within (if_first v q) u i sp h b (λ j k m c. calm u j k m c a) (λ o z₁ z₂. simp (sp.0.0, o.0, o.1, o.2, z₂ (size_pos q)))
  calm (if2 v p u) i sp h b a =
      within (if_second v p) u i sp h b (λ j k m c. calm u j k m c a) (λ o z₁ z₂. simp (sp.0.0, o.0, o.1, o.2, z₁ (size_pos p)))
  calm (until0 c u q) i sp h b a =
      within (until_first c q) u i sp h b (λ j k m c. calm u j k m c a) (λ o z₁ z₂. simp (sp.0.0, o.0, o.1, o.2, z₂ (size_pos q)))
  calm (until* c u q) i sp h b a = absurd a
  calm (until2 c p u) i sp h b a =
      within (until_second c p) u i sp h b (λ j k m c. calm u j k m c a) (λ o z₁ z₂. simp (sp.0.0, o.0, o.1, o.2, z₁ (size_pos p)))
  calm (control e u) i sp h b a =
      within (control_body e) u i sp h b (λ j k m c. calm u j k m c a) (λ o z₁ z₂. simp (sp.0.0, o.0, o.1, o.2))
  calm (local true e u) i sp h b a = absurd (true≢false a.0)
  calm (local false e u) i sp h b a =
      within (local_body false e) u i sp h b (λ j k m c. calm u j k m c a.1) (λ o z₁ z₂. simp (sp.0.0, o.0, o.1, o.2))
  calm (freezable0 e u) i sp h b a =
      within (freezable_body e) u i sp h b (λ j k m c. calm u j k m c a) (λ o z₁ z₂. simp (sp.0.0, o.0, o.1, o.2))
  calm (freezable* e u) i sp h b a = absurd a
  calm (par α β u v) i sp h b a =
      let m = size (prog u) in
      let n = size (prog v) in
      let e : 1 + m + n ≡ 1 + (m + n) = omega arith in
      let (o, c) = node_owns s i (m + n) (omega arith) (head (par α β u v)) (state_bytes u ++ state_bytes v) (rw e at b) in
      let (x, y) = parts (i + 1) m n (state_bytes u) (state_bytes v) (omega arith) (len_bytes u) c in
      let f = par_flags α β u v i a.0 a.1 a.2 sp.2 x y in
      let first = calm u (i + 1) sp.2 (omega arith) x a.3 in
      let later = calm v (i + 1 + m) (second t i (prog u) (prog v) sp.2 sp.3) (omega arith) y a.4 in
      let g : i + (1 + m + n) ≡ i + 1 + m + n = omega arith in
      rw g (hold_more (rests t s) i _ (simp (sp.0.0, o.0, o.1, o.2, f)) (hold_join (rests t s) (i + 1) _ _ first later))

pub resting : (t s : List ℕ) → Placed t 0 (tree_of t) → (x : Term) → prog x ≡ tree_of t → take (4 * nodes t) s ≡ state_bytes x → AtRest x
    → blamed t s ≡ nodes t
resting t s p x e b a =
    let n : size (prog x) ≡ nodes t = ap size e ∙ all_nodes p in
    let w : min (4 * nodes t) (length s) ≡ 4 * size (prog x) = sym (length-take (4 * nodes t) s) ∙ (ap (λ l. length l) b ∙ len_bytes x) in
    let long : 4 * nodes t ≤ length s = omega arith in
    let c = calm t s p.loaded long x 0 (rw e p.spelled) (omega arith) (rw n b) a in
    let R = rests t s in
    let all = first_at R 0 (nodes t) (nodes t) (omega arith) (omega arith) (λ k g h. c k g (omega arith)) (λ l. absurd (omega arith)) in
    sym (first_lowest R (nodes t) (nodes t) all)
