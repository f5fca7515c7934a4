-- Good records spell a tree: `spells_tree`.
use Prim.Native.Nat.{ℕ, zero, suc, ◌+◌, ◌≤◌, ◌<◌}
use mathlib.Core.Bool.{true, ◌||◌}
use lib.Dec.{eqb, ltb}
use mathlib.Core.Path.{◌≡◌, refl, sym, ◌∙◌}
use mathlib.Core.List.{List}
use native.Mathlib.Omega.{arith}
use borrow.Author.Tests.{leb-true, ltb-true}
use Rattle.junior.specs.Program.{Program, kind, argument, Leaf, nothing, stop, atom, generate, await, One, loop, repeat}
use Rattle.junior.specs.Program.{control, local, freezable, Two, seq, par, when, until, if, size}
use Rattle.junior.proofs.Parts.{parts_none, parts_one, parts_two}
use Rattle.table.specs.Records.{nodes, configurations, kind_at, zero_at, argument_at, size_at, second_child}
use Rattle.table.specs.Records.{configuration_at}
use Rattle.table.specs.Good.{known, children, argument_limit, good_node}
use Rattle.table.specs.Spells.{Configured, configuration_of, Argues, Spells, form, program_of, tested, tree_of}
use Rattle.table.specs.Inside.{ConfigurationsGood, NodesGood}
use Rattle.table.specs.Inside.Weighing.{tree_at}
use Rattle.table.proofs.Spelled.{configured}
use Rattle.table.proofs.Laid.{both, Laid, none, one, two, laid}
use Rattle.table.proofs.Parts.{of_none, of_one, of_two}

-- what a good record says
pub record Fine (t : List ℕ) (i k : ℕ) : Type 0 where
  pub known_kind : known k ≡ true
  pub argument_below : argument_at t i < argument_limit t k
  pub laid_out : Laid (size_at t) (nodes t) i (children k)
  pub root : (ltb 0 i || eqb (size_at t i) (nodes t)) ≡ true

pub fine : (t : List ℕ) (i k : ℕ) → kind_at t i ≡ k → good_node t i ≡ true → Fine t i k
unfolding good_node
fine t i k e g =
    let h = both g in
    let z = both {a = eqb (zero_at t i) 0} h.1 in
    let a = both z.1 in
    let l = both {b = ltb 0 i || eqb (size_at t i) (nodes t)} a.1 in
    rw
    (← e)
    (record {
      known_kind = h.0;
      argument_below = ltb-true _ _ a.0;
      laid_out = laid _ _ _ _ l.0;
      root = l.1;
    })

-- p stands at node i, within the table
pub record Grown (t : List ℕ) (i : ℕ) (p : Program) : Type 0 where
  pub spells : Spells t i p
  pub sized : size_at t i ≡ size p
  pub ends : i + size p ≤ nodes t

-- the form F of a kind with so many children, over p, or over p and q
data Shape (p q F : Program) : ℕ → Type 0 where
  leaf_form : Leaf F → Shape p q F 0
  one_form : One F p → Shape p q F 1
  two_form : Two F p q → Shape p q F 2

record Formed (t : List ℕ) (i : ℕ) (p q : Program) (k : ℕ) (F : Program) : Type 0 where
  of_kind : kind F ≡ k
  shape : Shape p q F (children k)
  argued : argument_at t i < argument_limit t k → Argues t i (argument F)

module _ (t : List ℕ)
    (spelled : (j : ℕ) → j < configurations t
    → Configured t (configuration_at t j) (configuration_of t 16 (configuration_at t j)))
  where
    formed : (i : ℕ) (p q : Program) (k : ℕ) → k ≤ 15
        → Formed t i p q k (form k (argument_at t i) (configuration_of t 16 (tested t i)) p q)
    unfolding form kind children argument_limit
    formed i p q zero h = record { of_kind = refl; shape = leaf_form nothing; argued = λ h. tt }
    formed i p q (suc zero) h = record { of_kind = refl; shape = leaf_form stop; argued = λ h. tt }
    formed i p q (suc (suc zero)) h = record { of_kind = refl; shape = leaf_form (atom _); argued = λ h. refl }
    formed i p q (suc (suc (suc zero))) h = record { of_kind = refl; shape = two_form (seq p q); argued = λ h. tt }
    formed i p q (suc (suc (suc (suc zero)))) h = record { of_kind = refl; shape = two_form (par p q); argued = λ h. tt }
    formed i p q (suc (suc (suc (suc (suc zero))))) h = record { of_kind = refl; shape = one_form (loop p); argued = λ h. tt }
    formed i p q (suc (suc (suc (suc (suc (suc zero)))))) h = record { of_kind = refl; shape = one_form (repeat _ p); argued = λ h. refl }
    formed i p q (suc (suc (suc (suc (suc (suc (suc zero))))))) h = record { of_kind = refl; shape = leaf_form (generate _); argued = λ h. refl }
    formed i p q (suc (suc (suc (suc (suc (suc (suc (suc zero)))))))) h = record { of_kind = refl; shape = leaf_form (await _); argued = spelled _ }
    formed i p q (suc (suc (suc (suc (suc (suc (suc (suc (suc zero))))))))) h = record { of_kind = refl; shape = two_form (when _ p q); argued = spelled _ }
    formed i p q (suc (suc (suc (suc (suc (suc (suc (suc (suc (suc zero)))))))))) h =
        record { of_kind = refl; shape = two_form (until _ p q); argued = spelled _ }
    formed i p q (suc (suc (suc (suc (suc (suc (suc (suc (suc (suc (suc zero))))))))))) h =
        record { of_kind = refl; shape = one_form (control _ p); argued = λ h. refl }
    formed i p q (suc (suc (suc (suc (suc (suc (suc (suc (suc (suc (suc (suc zero)))))))))))) h =
        record { of_kind = refl; shape = one_form (local _ p); argued = λ h. refl }
    formed i p q (suc (suc (suc (suc (suc (suc (suc (suc (suc (suc (suc (suc (suc zero))))))))))))) h =
        record { of_kind = refl; shape = one_form (freezable _ p); argued = λ h. refl }
    formed i p q (suc (suc (suc (suc (suc (suc (suc (suc (suc (suc (suc (suc (suc (suc zero)))))))))))))) h =
        record { of_kind = refl; shape = two_form (if _ p q); argued = λ h. refl }
    formed i p q (suc (suc (suc (suc (suc (suc (suc (suc (suc (suc (suc (suc (suc (suc (suc zero))))))))))))))) h =
        record { of_kind = refl; shape = one_form (repeat _ p); argued = λ h. (refl, refl) }
    formed i p q (suc (suc (suc (suc (suc (suc (suc (suc (suc (suc (suc (suc (suc (suc (suc (suc k)))))))))))))))) h = absurd (omega arith)

    grown_at : (f i : ℕ) → ((j : ℕ) → i < j → j < nodes t → Grown t j (program_of t f j)) → i < nodes t → (k : ℕ)
        → kind_at t i ≡ k → Fine t i k → Grown t i (program_of t (suc f) i)
    unfolding program_of Spells
    grown_at f i below l k e g =
        let o = formed i (program_of t f (i + 1)) (program_of t f (second_child t i)) k (leb-true k 15 g.known_kind) in
        rw e (go (e ∙ sym o.of_kind) (o.argued g.argument_below) o.shape g.laid_out)
      where
        go : {c : ℕ} {F : Program} → kind_at t i ≡ kind F → Argues t i (argument F)
            → Shape (program_of t f (i + 1)) (program_of t f (second_child t i)) F c → Laid (size_at t) (nodes t) i c → Grown t i F
        go {F = F} e a (leaf_form v) (none s) =
            let z : size_at t i ≡ size F = s ∙ sym (of_none v).size_is in
            record { spells = rw (parts_none v) ((e, z), a); sized = z; ends = omega arith }
        go {F = F} e a (one_form v) (one h s) =
            let o = below (i + 1) (omega arith) h in
            let z : size_at t i ≡ size F = omega (arith, (of_one v).size_is, o.sized) in
            record { spells = rw (parts_one v) ((e, z), a, o.spells); sized = z; ends = omega (arith, o.ends, o.sized) }
        go {F = F} e a (two_form v) (two h h' s) =
            let o = below (i + 1) (omega arith) h in
            let o' = below (second_child t i) (omega arith) h' in
            let z : size_at t i ≡ size F = omega (arith, (of_two v).size_is, o.sized, o'.sized) in
            record {
              spells = rw (parts_two v) ((e, z), a, o.spells, o'.spells);
              sized = z;
              ends = omega (arith, o'.ends, o'.sized);
            }

    grown : (b : ℕ) → ((i : ℕ) → b ≤ i → i < nodes t → good_node t i ≡ true) → (f i : ℕ) → nodes t ≤ f + i → b ≤ i
        → i < nodes t → Grown t i (program_of t f i)
    grown b good zero i h g l = absurd (omega arith)
    grown b good (suc f) i h g l =
        grown_at
        f
        i
        (λ j m n. grown b good f j (omega arith) (omega arith) n)
        l
        (kind_at t i)
        refl
        (fine t i (kind_at t i) refl (good i g l))

-- at each node from b on stands a program, if all records from there on are good
pub spells_from : (t : List ℕ) → ConfigurationsGood t → (b : ℕ)
    → ((i : ℕ) → b ≤ i → i < nodes t → good_node t i ≡ true) → (i : ℕ) → b ≤ i → i < nodes t → Grown t i (tree_at t i)
spells_from t c b good i g l = grown t (configured t c) b good (nodes t) i (omega arith) g l

pub spells_tree : (t : List ℕ) → ConfigurationsGood t → 0 < nodes t
    → NodesGood t → Spells t 0 (tree_of t)
spells_tree t c n good = (spells_from t c 0 (λ i g l. good i l) 0 (omega arith) n).spells
