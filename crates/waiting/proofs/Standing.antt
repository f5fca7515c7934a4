-- A term that stands at a node of the whole state: its own bytes, and its children.
use Prim.Native.Nat.{ℕ, suc, ◌+◌, ◌*◌, ◌<◌}
use mathlib.Core.Path.{◌≡◌, refl, ap, sym, ◌∙◌}
use mathlib.Core.List.{List, [], ◌++◌, append_assoc, append-nil}
use native.Mathlib.Omega.{arith}
use native.Mathlib.Nat.{add-zero}
use lib.ListN.{length, get_or, take, drop, length-append, length-drop}
use lib.Seq.{drop-drop, drop_at, take_at, get_or-drop}
use Rattle.junior.specs.Program.{Program, One, Two, size, kind}
use Rattle.junior.specs.Term.{Term, prog}
use Rattle.table.specs.Records.{nodes, configurations, events, kind_at, second_child}
use Rattle.table.specs.Inside.{Framed}
use Rattle.table.proofs.Parts.{of_one, of_two}
use Rattle.table.proofs.Tree.{spells_one, spells_two, second_is, size_pos}
use Rattle.table.proofs.OneTree.{one_tree}
use Rattle.table.proofs.Loaded.{own_node, kind_parts}
use Rattle.state.specs.StateBytes.{head, below, state_bytes}
use Rattle.state.proofs.Parts.{len_bytes}
use Rattle.state.proofs.OneTerm.{one_term}
use Rattle.waiting.specs.Down.{StandsAt}

module _ {t s : List ℕ} {i : ℕ} {x : Term} (h : StandsAt t s i x) where
  -- its own four bytes are in the state
  pub own_bytes : 4 * i + 3 < length s
  own_bytes =
      let all = length-append (state_bytes x) h.rest ∙ ap (λ n. n + length h.rest) (len_bytes x) in
      let l = sym (length-drop {A = ℕ} (4 * i) s) ∙ (ap length h.bytes ∙ all) in
      omega (arith, size_pos (prog x))

  -- so is its record in the table, with six bytes and more behind it
  pub own_record : (6 * i + 11 < length t) × (i < 4096)
  own_record =
      let frame = h.placed.loaded.framed in
      let inside = own_node h.placed in
      (omega (arith, frame.long), omega (arith, frame.n_most))

  pub is_framed : Framed t (nodes t) (configurations t) (events t)
  is_framed = h.placed.loaded.framed

  byte_is : (k : ℕ) → get_or s (4 * i + k) 0 ≡ get_or (state_bytes x ++ h.rest) k 0
  byte_is k = sym (get_or-drop (4 * i) s k 0) ∙ ap (λ l. get_or l k 0) h.bytes

  pub phase_is : get_or s (4 * i) 0 ≡ (head x).phase
  phase_is = ap (λ n. get_or s n 0) (sym (add-zero (4 * i))) ∙ byte_is 0

  pub flags_are : get_or s (4 * i + 1) 0 ≡ (head x).flags
  flags_are = byte_is 1

  pub kind_is : kind_at t i ≡ kind (prog x)
  kind_is = kind_parts h.placed

  -- all that stands n nodes below it
  beyond : (front : List ℕ) (n : ℕ) (y : Term) (back : List ℕ) → length front ≡ 4 * n → below x ≡ front ++ (state_bytes y ++ back)
      → drop (4 * (i + 1 + n)) s ≡ state_bytes y ++ (back ++ h.rest)
  beyond front n y back l e =
      let far : 4 * (i + 1 + n) ≡ 4 * i + (4 + 4 * n) = omega arith in
      ap (λ k. drop k s) far
      ∙ (sym (drop-drop (4 + 4 * n) (4 * i) s)
      ∙ (ap (drop (4 + 4 * n)) h.bytes
      ∙ (sym (drop-drop (4 * n) 4 (state_bytes x ++ h.rest))
      ∙ (ap (λ b. drop (4 * n) (b ++ h.rest)) e
      ∙ (ap (drop (4 * n)) (append_assoc front (state_bytes y ++ back) h.rest)
      ∙ (drop_at front ((state_bytes y ++ back) ++ h.rest) (4 * n) l ∙ append_assoc (state_bytes y) back h.rest))))))

  -- its only child, its first and its second
  module _ (y : Term) where
    pub only_child : One (prog x) (prog y) → below x ≡ state_bytes y → StandsAt t s (i + 1) y
    only_child f e = record {
      placed = record {
        loaded = h.placed.loaded;
        spelled = spells_one t i f h.placed.spelled;
        inside = omega (arith, (of_one f).size_is, h.placed.inside);
      };
      rest = [] ++ h.rest;
      bytes = rw add-zero at (beyond [] 0 y [] refl (e ∙ sym (append-nil (state_bytes y))));
    }

    pub first_child : {r : Program} → Two (prog x) (prog y) r → (back : List ℕ) → below x ≡ state_bytes y ++ back → StandsAt t s (i + 1) y
    first_child f back e = record {
      placed = record {
        loaded = h.placed.loaded;
        spelled = (spells_two t i f h.placed.spelled).0;
        inside = omega (arith, (of_two f).size_is, h.placed.inside);
      };
      rest = back ++ h.rest;
      bytes = rw add-zero at (beyond [] 0 y back refl e);
    }

    pub second_child_lem : {q : Program} → Two (prog x) q (prog y) → (front : List ℕ) → length front ≡ 4 * size q → below x ≡ front ++ state_bytes y
        → StandsAt t s (second_child t i) y
    second_child_lem {q} f front l e =
        let (one, two) = spells_two t i f h.placed.spelled in
        let at = second_is t i q one in
        record {
          placed = record {
            loaded = h.placed.loaded;
            spelled = two;
            inside = omega (arith, (of_two f).size_is, h.placed.inside);
          };
          rest = [] ++ h.rest;
          bytes = rw at (beyond front (size q) y [] l (e ∙ ap (λ b. front ++ b) (sym (append-nil (state_bytes y)))));
        }

    pub second_index : {q : Program} → Two (prog x) q (prog y) → suc i + size q ≡ second_child t i
    second_index {q} f = omega (arith, second_is t i q (spells_two t i f h.placed.spelled).0)

-- what stands at node 0 is one term
pub one_standing : {t s : List ℕ} (x y : Term) → StandsAt t s 0 x → StandsAt t s 0 y → x ≡ y
one_standing {t} {s} x y h k =
    let same = one_tree t 0 (prog x) (prog y) h.placed.spelled k.placed.spelled in
    let long = len_bytes x in
    let long' = len_bytes y ∙ ap (λ p. 4 * size p) (sym same) in
    one_term x y same
    (sym (take_at (state_bytes x) h.rest (4 * size (prog x)) long)
    ∙ (ap (take (4 * size (prog x))) (sym h.bytes ∙ k.bytes) ∙ take_at (state_bytes y) k.rest (4 * size (prog x)) long'))
