-- A state is judged by the records of its nodes alone, wherever they stand: so the part of a table at a node is judged as that node's records
-- are in place, `part_rests`, `part_blamed`.
use Prim.Native.Nat.{ℕ, zero, suc, ◌+◌, ◌*◌, ◌<◌}
use mathlib.Core.Bool.{Bool, true, false, cond, not, ◌&&◌, ◌||◌}
use mathlib.Core.Path.{◌≡◌, refl, ap, ap₂, sym, ◌∙◌}
use mathlib.Core.List.{List}
use native.Mathlib.Omega.{arith}
use lib.Dec.{eqb}
use lib.ListN.{drop}
use borrow.Author.Tests.{eqb-true}
use Rattle.events.specs.Events.{Events, lowest}
use Rattle.table.specs.Records.{byte, word, nodes, kind_at, argument_at, size_at, second_child}
use Rattle.table.specs.Good.{children}
use Rattle.table.specs.Inside.{Loaded, Rooted}
use Rattle.table.specs.Part.{part_table}
use Rattle.table.proofs.Subtrees.{body, pair}
use Rattle.table.proofs.PartBytes.{in_place, part}
use Rattle.table.proofs.PartGood.{part_rooted}
use Rattle.state.specs.Resting.{phase_at, flags_at, first_zero, second_zero, repeats, phase_rests, flags_rest, count_rests}
use Rattle.state.specs.Resting.{rests, blamed}
use Rattle.state.proofs.Little.{either_true}

-- u begins with a subtree of n records, and v with the same
pub record Alike (u v : List ℕ) (n : ℕ) : Type 0 where
  pub rooted : Rooted u n
  pub same : (k : ℕ) → k < 6 * n → byte u k ≡ byte v k

-- the phases at rest, by which kind it is and by which subtrees are zero
abbrev phase_by : Bool → Bool → Bool → Bool → ℕ → Bool → Bool → Bool
phase_by seq repeats branches until ph F S =
    cond seq ((eqb ph 0 && S) || (eqb ph 2 && F))
    (cond repeats ((eqb ph 0 && F) || eqb ph 1)
    (cond branches ((eqb ph 0 && (F && S)) || ((eqb ph 1 && S) || (eqb ph 2 && F)))
    (cond until ((eqb ph 0 && S) || (eqb ph 2 && F)) (eqb ph 0))))

same_by : (a b c d : Bool) (ph : ℕ) {F F' S S' : Bool} → (a ≡ true → (F ≡ F') × (S ≡ S')) → (b ≡ true → F ≡ F')
    → (c ≡ true → (F ≡ F') × (S ≡ S')) → (d ≡ true → (F ≡ F') × (S ≡ S')) → phase_by a b c d ph F S ≡ phase_by a b c d ph F' S'
same_by true b c d ph α β γ δ = rw ((α refl).0, (α refl).1)
same_by false true c d ph α β γ δ = rw (β refl)
same_by false false true d ph α β γ δ = rw ((γ refl).0, (γ refl).1)
same_by false false false true ph α β γ δ = rw ((δ refl).0, (δ refl).1)
same_by false false false false ph α β γ δ = refl

module _ {u v : List ℕ} {n : ℕ} (a : Alike u v n) where
  same_word : (k : ℕ) → k + 1 < 6 * n → word u k ≡ word v k
  same_word k h = ap₂ (λ x y. x * 256 + y) (a.same k (omega arith)) (a.same (k + 1) h)

  same_size : (i : ℕ) → i < n → size_at u i ≡ size_at v i
  same_size i h = same_word (6 * i + 4) (omega arith)

  module _ (s : List ℕ) (i : ℕ) (h : i < n) where
    same_kind : kind_at u i ≡ kind_at v i
    same_kind = a.same (6 * i) (omega arith)

    same_argument : argument_at u i ≡ argument_at v i
    same_argument = same_word (6 * i + 2) (omega arith)

    -- of a kind with one child, with two
    first_same : i + 1 < n → first_zero u s i ≡ first_zero v s i
    first_same m = rw (same_size (i + 1) m)

    of_one : (k : ℕ) → children k ≡ 1 → eqb (kind_at u i) k ≡ true → first_zero u s i ≡ first_zero v s i
    of_one k e f = first_same (body a.rooted i h (ap children (eqb-true _ _ f) ∙ e)).first_in

    second_same : children (kind_at u i) ≡ 2 → second_child u i ≡ second_child v i
    second_same e = ap (λ x. i + 1 + x) (same_size (i + 1) (pair a.rooted i h e).first_in)

    of_two : (k : ℕ) → children k ≡ 2 → eqb (kind_at u i) k ≡ true
        → (first_zero u s i ≡ first_zero v s i) × (second_zero u s i ≡ second_zero v s i)
    of_two k e f =
        let two = ap children (eqb-true _ _ f) ∙ e in
        let p = pair a.rooted i h two in
        (first_same p.first_in, rw (← second_same two, same_size (second_child u i) p.second_in))

    same_phases : (ph : ℕ) → phase_rests u s i (kind_at u i) ph ≡ phase_rests v s i (kind_at u i) ph
    unfolding phase_rests children
    same_phases ph =
        let k = kind_at u i in
        same_by (eqb k 3) (eqb k 5 || repeats k) (eqb k 9 || eqb k 14) (eqb k 10) ph
        (of_two 3 refl)
        (λ e. either_true _ _ e (of_one 5 refl) (λ e. either_true _ _ e (of_one 6 refl) (of_one 15 refl)))
        (λ e. either_true _ _ e (of_two 9 refl) (of_two 14 refl))
        (of_two 10 refl)

    same_flags : (fl : ℕ) → cond (eqb (kind_at u i) 4) (flags_rest u s i fl) (eqb fl 0) ≡ cond (eqb (kind_at u i) 4) (flags_rest v s i fl) (eqb fl 0)
    unfolding flags_rest children
    same_flags fl = go (eqb (kind_at u i) 4) (λ e. second_same (rw (eqb-true (kind_at u i) 4 e)))
      where
        go : (b : Bool) → (b ≡ true → second_child u i ≡ second_child v i) → cond b (flags_rest u s i fl) (eqb fl 0) ≡ cond b (flags_rest v s i fl) (eqb fl 0)
        go true f = rw (f refl)
        go false f = refl

    pub same_rests : rests u s i ≡ rests v s i
    unfolding rests count_rests
    same_rests =
        rw (same_phases (phase_at s i), same_flags (flags_at s i), same_kind, same_argument, same_size i h)

-- two tests that agree below n have one lowest
same_lowest : (n : ℕ) (X Y : Events) → ((k : ℕ) → k < n → X k ≡ Y k) → lowest n X ≡ lowest n Y
unfolding lowest
same_lowest zero X Y e = refl
same_lowest (suc n) X Y e =
    rw (e 0 (omega arith), same_lowest n (λ k. X (suc k)) (λ k. Y (suc k)) (λ k h. e (suc k) (omega arith)))

module _ {t : List ℕ} (l : Loaded t) (j : ℕ) (h : j < nodes t) where
  pub part_alike : Alike (drop (6 * j) t) (part_table t j) (size_at t j)
  part_alike =
      record {
        rooted = part_rooted l j h;
        same = λ k g. (in_place l j h).byte_is k g ∙ sym ((part l j h).front.byte_is k g);
      }

  pub part_rests : (s : List ℕ) (i : ℕ) → i < size_at t j → rests (drop (6 * j) t) s i ≡ rests (part_table t j) s i
  part_rests s i g = same_rests part_alike s i g

  pub part_blamed : (s : List ℕ) → lowest (size_at t j) (λ i. not (rests (drop (6 * j) t) s i)) ≡ blamed (part_table t j) s
  part_blamed s =
      rw (part l j h).nodes_are
      (same_lowest (size_at t j) (λ i. not (rests (drop (6 * j) t) s i)) (λ i. not (rests (part_table t j) s i))
      (λ i g. ap not (part_rests s i g)))
