-- A state's bytes, node by node: a node's own four, then those of the nodes below it.
use Prim.Native.Nat.{ℕ, zero, suc, ◌+◌, ◌*◌, ◌/◌, ◌%◌, ◌≤◌, ◌<◌}
use mathlib.Core.Bool.{true}
use mathlib.Core.Path.{◌≡◌, refl, sym, ap, ap₂, ◌∙◌}
use mathlib.Core.List.{List, ◌∷◌, ◌++◌}
use native.Mathlib.Nat.{div-add-mod'}
use native.Mathlib.Omega.{arith}
use lib.ListN.{length, get_or, take, drop, length-drop}
use lib.Seq.{get_or-take, get_or-drop, drop-drop, take-add}
use Rattle.table.specs.Records.{byte}
use Rattle.table.proofs.Laid.{both}
use Rattle.state.specs.StateBytes.{Own, before, in_phase}
use Rattle.state.specs.Resting.{phase_at, count_at, zero_node, zero_nodes}
use Rattle.state.proofs.Parts.{blank, blank_below, own_of, own_below}
use Rattle.state.proofs.Zeros.{Owns, zero_owns}

-- the bytes of the n nodes from node i on
abbrev pub bytes_at : List ℕ → ℕ → ℕ → List ℕ
bytes_at s i n = take (4 * n) (drop (4 * i) s)

-- node i is in the state
abbrev pub Within : List ℕ → ℕ → Type 0
Within s i = 4 * i + 4 ≤ length s

own_bytes : (s : List ℕ) (i n : ℕ) → Within s i
    → bytes_at s i (1 + n)
    ≡ byte s (4 * i) ∷ byte s (4 * i + 1) ∷ byte s (4 * i + 2) ∷ byte s (4 * i + 2 + 1) ∷ bytes_at s (i + 1) n
own_bytes s i n w =
    let l : 4 ≤ length (drop (4 * i) s) = simp length-drop (omega arith) in
    let e : 4 * (1 + n) ≡ suc (suc (suc (suc (4 * n)))) = omega arith in
    ap₂ take e (own_below (drop (4 * i) s) l) ∙ as_state
  where
    as_state : own_of (drop (4 * i) s) (take (4 * n) (drop 4 (drop (4 * i) s)))
        ≡ byte s (4 * i) ∷ byte s (4 * i + 1) ∷ byte s (4 * i + 2) ∷ byte s (4 * i + 2 + 1) ∷ bytes_at s (i + 1) n
    as_state =
        let a : 4 * i + 0 ≡ 4 * i = omega arith in
        let b : 4 * i + 3 ≡ 4 * i + 2 + 1 = omega arith in
        let c : 4 * i + 4 ≡ 4 * (i + 1) = omega arith in
        rw (get_or-drop (4 * i) s 0 0, get_or-drop (4 * i) s 1 0, get_or-drop (4 * i) s 2 0, get_or-drop (4 * i) s 3 0, drop-drop 4 (4 * i) s, a, b, c)

pub both_parts : (s : List ℕ) (i m n : ℕ) → bytes_at s i (m + n) ≡ bytes_at s i m ++ bytes_at s (i + m) n
both_parts s i m n =
    let e : 4 * (m + n) ≡ 4 * m + 4 * n = omega arith in
    let f : 4 * i + 4 * m ≡ 4 * (i + m) = omega arith in
    rw (e, take-add (4 * m) (4 * n) (drop (4 * i) s), drop-drop (4 * m) (4 * i) s, f)

-- a node's own bytes in front of those behind it
pub node_bytes_lem : (s : List ℕ) → ((i : ℕ) → byte s i < 256) → (i n : ℕ) → Within s i → (o : Own) → Owns s i o
    → bytes_at s i (1 + n) ≡ before o (bytes_at s (i + 1) n)
node_bytes_lem s small i n w o (e, f, g) =
    let y = small (4 * i + 2 + 1) in
    let high : byte s (4 * i + 2) ≡ o.count / 256 = omega arith in
    let low : byte s (4 * i + 2 + 1) ≡ o.count % 256 = omega arith in
    own_bytes s i n w ∙ rw (← e, ← f, ← high, ← low)

-- and what stands there told from them
pub node_owns : (s : List ℕ) (i n : ℕ) → Within s i → (o : Own) (l : List ℕ) → bytes_at s i (1 + n) ≡ before o l
    → Owns s i o × (bytes_at s (i + 1) n ≡ l)
node_owns s i n w o l e =
    let f = sym (own_bytes s i n w) ∙ e in
    let high : byte s (4 * i + 2) ≡ o.count / 256 = ap (λ x. get_or x 2 0) f in
    let low : byte s (4 * i + 2 + 1) ≡ o.count % 256 = ap (λ x. get_or x 3 0) f in
    let count : count_at s i ≡ o.count = rw (high, low) (div-add-mod' o.count 256) in
    ((ap (λ x. get_or x 0 0) f, ap (λ x. get_or x 1 0) f, count), ap (λ x. drop 4 x) f)

-- nodes that have no byte but zeros
pub zero_bytes : (s : List ℕ) → ((i : ℕ) → byte s i < 256) → (i n : ℕ) → 4 * (i + n) ≤ length s → zero_nodes s i n ≡ true
    → bytes_at s i n ≡ blank n
unfolding zero_nodes zero_node
zero_bytes s small i zero h e = refl
zero_bytes s small i (suc n) h e =
    let (own, rest) = both {a = zero_node s i} e in
    let k : suc n ≡ 1 + n = omega arith in
    let b = zero_bytes s small (i + 1) n (omega arith) rest in
    rw k (node_bytes_lem s small i n (omega arith) (in_phase 0) (zero_owns s i own) ∙ (ap (λ l. before (in_phase 0) l) b ∙ blank_below n))

pub bytes_zero : (s : List ℕ) (i n : ℕ) → 4 * (i + n) ≤ length s → bytes_at s i n ≡ blank n → zero_nodes s i n ≡ true
unfolding zero_nodes zero_node
bytes_zero s i zero h e = refl
bytes_zero s i (suc n) h e =
    let k : suc n ≡ 1 + n = omega arith in
    let f : bytes_at s i (1 + n) ≡ before (in_phase 0) (blank n) = rw (← k) (e ∙ rw k (sym (blank_below n))) in
    let (own, rest) = node_owns s i n (omega arith) (in_phase 0) (blank n) f in
    rw (own.0, own.1, own.2) (bytes_zero s (i + 1) n (omega arith) rest)

-- the phase of a node is the first of its bytes
pub first_byte : (s : List ℕ) (i n : ℕ) → 1 ≤ n → get_or (bytes_at s i n) 0 0 ≡ phase_at s i
first_byte s i n h =
    let k : 0 < 4 * n = omega arith in
    let z : 4 * i + 0 ≡ 4 * i = omega arith in
    get_or-take (4 * n) (drop (4 * i) s) 0 0 k ∙ (get_or-drop (4 * i) s 0 0 ∙ ap (byte s) z)
