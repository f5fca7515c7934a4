-- The part of a table at a node spells what stands at that node: `part_tree`; and is judged by it: `part_verdict`.
use Prim.Native.Nat.{ℕ, ◌+◌, ◌%◌, ◌≤◌, ◌<◌}
use mathlib.Core.Path.{◌≡◌, refl, ap, ◌∙◌}
use mathlib.Core.List.{List}
use native.Mathlib.Omega.{arith}
use borrow.Author.Tests.{le-leb, eq-eqb}
use Rattle.events.specs.Members.{places}
use Rattle.junior.specs.Configuration.{Config, Event, Not, And, Or}
use Rattle.junior.specs.Program.{Program, Argument, no_argument, number, event, configuration, value, capped, argument, kind}
use Rattle.junior.specs.Program.{Parts, no_part, one_part, two_parts, parts, size_of, size}
use Rattle.junior.proofs.Parts.{some_nodes}
use Rattle.table.specs.Records.{nodes, configurations, events, kind_at, argument_at, size_at, configuration_at}
use Rattle.table.specs.Records.{part_kind, part_event, first_part_at, second_part}
use Rattle.table.specs.Good as good
use Rattle.table.specs.Spells.{Configured, Argues, Heads, SpellsParts, Spells, tree_of}
use Rattle.table.specs.Verdict.{counts_good, distances_good, program_verdict, verdict_of}
use Rattle.table.specs.Inside.{Loaded}
use Rattle.table.specs.Inside.Weighing.{tree_at}
use Rattle.table.proofs.Laid.{one_inside, two_inside, size_of as writtenSize, fine}
use Rattle.table.proofs.OwnBytes.{first_at, second_at}
use Rattle.table.proofs.Spelled.{own_good_lem}
use Rattle.table.proofs.Parts.{by_kind, limit_of}
use Rattle.table.proofs.OneTree.{one_tree}
use Rattle.table.proofs.Tree.{written_parts}
use Rattle.table.proofs.Framing.{length_is}
use Rattle.table.proofs.Loaded.{fine_node, node_placed, size_stands}
use Rattle.table.proofs.Subtrees.{rooted, starts}
use Rattle.table.proofs.Accepted.{by_program}
use Rattle.table.proofs.PartBytes.{Part}
use Rattle.table.proofs.PartGood.{same_kind, same_argument, same_size, inside, inner_ends, same_kind_byte, same_event_byte, same_part_size}
use Rattle.table.proofs.PartGood.{part_nodes_good, part_configurations_good, part_loaded}

module _ {t u : List ℕ} {j : ℕ} (p : Part t u j) where
  l : Loaded t
  l = p.front.loaded

  -- configuration k is the same one
  module _ (k : ℕ) (h : k < configurations t) where
    same_part_kind : part_kind u (configuration_at u k) ≡ part_kind t (configuration_at t k)
    same_part_kind = ap (λ x. x % 16) (same_kind_byte p k h)

    same_part_event : part_event u (configuration_at u k) ≡ part_event t (configuration_at t k)
    same_part_event = rw (same_kind_byte p k h, same_event_byte p k h)

  abbrev Same : Config → Type 0
  Same d = (k : ℕ) → k < configurations t → Configured t (configuration_at t k) d → Configured u (configuration_at u k) d

  -- what its parts are
  same_first : (d : Config) → Same d → (k : ℕ) → k + 1 < configurations t → Configured t (first_part_at (configuration_at t k)) d
      → Configured u (first_part_at (configuration_at u k)) d
  same_first d same k f c = rw (first_at u _ k refl) (same (k + 1) f (rw (first_at t _ k refl) at c))

  same_second : (d : Config) → Same d → (k : ℕ) → k + 1 < configurations t → k + 1 + writtenSize t (k + 1) < configurations t
      → Configured t (second_part t (configuration_at t k)) d → Configured u (second_part u (configuration_at u k)) d
  same_second d same k f g c =
      rw
      (second_at u _ k refl, same_part_size p (k + 1) f)
      (same (k + 1 + writtenSize t (k + 1)) g (rw (second_at t _ k refl) at c))

  same_configuration : (d : Config) → Same d
  unfolding Configured good.parts
  same_configuration (Event s) k h (e, z, v) = (same_part_kind k h ∙ e, same_part_size p k h ∙ z, same_part_event k h ∙ v)
  same_configuration (Not d) k h (e, z, c) =
      let f = one_inside (fine t k 1 e (own_good_lem t l.configurations_good k h).0).laid_out in
      (same_part_kind k h ∙ e, same_part_size p k h ∙ z, same_first d (same_configuration d) k f c)
  same_configuration (And d d') k h (e, z, c, c') =
      let (f, g) = two_inside (fine t k 2 e (own_good_lem t l.configurations_good k h).0).laid_out in
      (same_part_kind k h ∙ e, same_part_size p k h ∙ z, same_first d (same_configuration d) k f c, same_second d' (same_configuration d') k f g c')
  same_configuration (Or d d') k h (e, z, c, c') =
      let (f, g) = two_inside (fine t k 3 e (own_good_lem t l.configurations_good k h).0).laid_out in
      (same_part_kind k h ∙ e, same_part_size p k h ∙ z, same_first d (same_configuration d) k f c, same_second d' (same_configuration d') k f g c')

  -- so node i has the same argument, and spells what the node that it was made of spells
  module _ (i : ℕ) (h : i < size_at t j) where
    same_argued : (q : Program) → kind_at t (j + i) ≡ kind q → (a : Argument) → argument q ≡ a → Argues t (j + i) a → Argues u i a
    same_argued q k no_argument e g = tt
    same_argued q k (number n) e g = same_argument p.front i h ∙ g
    same_argued q k (event s) e g = same_argument p.front i h ∙ g
    same_argued q k (configuration c) e g =
        let below = (fine_node l (j + i) (inside p.front i h)).argument_below in
        let limit = (by_kind q).limit_is t ∙ ap (limit_of t) e in
        rw (same_argument p.front i h) (same_configuration c (argument_at t (j + i)) (rw (k, limit) at below) g)
    same_argued q k (value v) e g = same_argument p.front i h ∙ g
    same_argued q k (capped v cap) e g = rw (same_argument p.front i h) g

    same_own : (q : Program) → Heads t (j + i) q → Argues t (j + i) (argument q) → Heads u i q × Argues u i (argument q)
    same_own q (k, z) a =
        ((same_kind p.front i h ∙ k, same_size p.front i h ∙ z), same_argued q k (argument q) refl a)

  same_parts : (i : ℕ) {q : Program} (v : Parts q) → i + size_of v ≤ size_at t j → SpellsParts t (j + i) v → SpellsParts u i v
  same_parts i {q} (no_part f) h (k, a) = same_own i (omega arith) q k a
  same_parts i {q} (one_part f v) h (k, a, g) =
      let (k', a') = same_own i (omega arith) q k a in
      let next : j + i + 1 ≡ j + (i + 1) = omega arith in
      (k', a', same_parts (i + 1) v (omega arith) (rw next at g))
  same_parts i {q} (two_parts f v w) h (k, a, g, g') =
      let (k', a') = same_own i (omega arith) q k a in
      let next : j + i + 1 ≡ j + (i + 1) = omega arith in
      let second : j + (i + 1) + size_at t (j + (i + 1)) ≡ j + (i + 1 + size_at t (j + (i + 1))) = omega arith in
      let first_long = written_parts t (j + (i + 1)) v (rw next at g) in
      let z = same_size p.front (i + 1) (omega (arith, some_nodes v)) in (
        k',
        a',
        same_parts (i + 1) v (omega arith) (rw next at g),
        rw z (same_parts (i + 1 + size_at t (j + (i + 1))) w (omega arith) (rw (next, second) at g')),
      )

  pub same_program : (i : ℕ) (q : Program) → i + size q ≤ size_at t j → Spells t (j + i) q → Spells u i q
  unfolding Spells size
  same_program i q h g = same_parts i (parts q) h g

  pub part_tree_at : (i : ℕ) → i < size_at t j → tree_at u i ≡ tree_at t (j + i)
  part_tree_at i h =
      let there = node_placed l (j + i) (inside p.front i h) in
      let here = node_placed (part_loaded p) i (rw p.nodes_are h) in
      one_tree u i (tree_at u i) (tree_at t (j + i)) here.spelled
      (same_program i (tree_at t (j + i)) (omega (arith, inner_ends p.front i h, size_stands there)) there.spelled)

  pub part_tree : tree_of u ≡ tree_at t j
  part_tree =
      let first : j + 0 ≡ j = omega arith in
      rw first at (part_tree_at 0 (starts (rooted l) j p.front.node))

  pub part_verdict : verdict_of u ≡ program_verdict (tree_at t j)
  unfolding counts_good distances_good
  part_verdict =
      let o = (part_loaded p).framed in
      let n = p.nodes_are in
      let m = p.configurations_are in
      by_program u
      (length_is u (omega (arith, o.long, o.n_least)) (omega (arith, o.long, o.n_most, o.m_most)))
      (rw (
        le-leb 1 (nodes u) o.n_least,
        le-leb (nodes u) 4096 o.n_most,
        le-leb (configurations u) 2048 o.m_most,
        le-leb 1 (events u) o.v_least,
        le-leb (events u) places o.v_most,
      ))
      (rw (
        n,
        m,
        eq-eqb _ _ p.back_is,
        eq-eqb _ _ p.back_too,
        eq-eqb _ _ p.long,
      ))
      (part_configurations_good p)
      (part_nodes_good p)
      ∙ ap program_verdict part_tree
