-- Tables of today read as they did: a table accepted under the limits before L10 is accepted now, with the same tree and the same figures.
use Prim.Native.Nat.{ℕ, zero, suc, ◌+◌, ◌≤◌, ◌<◌}
use mathlib.Core.Bool.{Bool, true}
use mathlib.Core.Path.{◌≡◌, refl, ap, ◌∙◌}
use mathlib.Core.List.{List}
use native.Mathlib.Omega.{arith}
use lib.Dec.{leb}
use borrow.Author.Tests.{lt-ltb, le-leb, leb-true}
use Rattle.events.specs.Members.{places}
use Rattle.junior.specs.Configuration.{Config, Event, Not, And, Or}
use Rattle.junior.specs.Program.{Program, Argument, no_argument, number, event, configuration, value, capped, argument}
use Rattle.junior.specs.Program.{Parts, no_part, one_part, two_parts, parts}
use Rattle.table.specs.Records.{byte, nodes, configurations, events, configuration_at, kind_byte, part_kind, part_event}
use Rattle.table.specs.Good.{parts as part_count, good_but_height, good_parts, height_at_most, good_configuration}
use Rattle.table.specs.Spells.{Configured, Argues, SpellsParts, Spells, tree_of}
use Rattle.table.specs.Verdict.{accepted_with, counts_good, program_verdict, verdict_of}
use Rattle.table.specs.Inside.{ConfigurationsGood}
use Rattle.table.proofs.Accepted.{by_program}
use Rattle.table.proofs.Grown.{spells_tree}
use Rattle.table.proofs.Heights.{height_good}
use Rattle.table.proofs.Laid.{both, size_of, Laid, none, one, two, fine}
use Rattle.table.proofs.OneTree.{one_tree}
use Rattle.kernel.specs.TablesBefore.{good_but_height_before, height_before, ConfiguredBefore, ArguesBefore, SpellsBefore, AcceptedBefore}

-- a kind byte of before is the kind, and its event byte the event
module _ (t : List ℕ) (c : ℕ) (l : byte t c ≤ 3) where
  same_kind : part_kind t c ≡ byte t c
  same_kind = omega arith

  same_event : part_event t c ≡ byte t (c + 1)
  same_event = omega arith

module _ (t : List ℕ) where
  -- a record that was good but for its height is so now
  record Good (j : ℕ) : Type 0 where
    kind : byte t (configuration_at t j) ≤ 3
    now : good_but_height t j ≡ true

  still_good : (j : ℕ) → good_but_height_before t j ≡ true → Good j
  unfolding good_but_height_before good_but_height
  still_good j g =
      let c = configuration_at t j in
      let l = leb-true (byte t c) 3 (both {a = leb (byte t c) 3} g).0 in
      let small : kind_byte t c < 64 = omega arith in
      record { kind = l; now = rw (lt-ltb (kind_byte t c) 64 small, same_kind t c l, same_event t c l) g }

  -- heights are what they were, where all records were good
  module _ (all : (j : ℕ) → j < configurations t → good_but_height_before t j ≡ true) where
    of_parts : {j : ℕ} (p : ℕ) {a b a' b' : Bool} → Laid (size_of t) (configurations t) j p
        → (j + 1 < configurations t → a ≡ a') → (j + 1 + size_of t (j + 1) < configurations t → b ≡ b')
        → good_parts p a b ≡ good_parts p a' b'
    of_parts zero (none s) f g = refl
    of_parts (suc zero) (one l s) f g = f l
    of_parts (suc (suc p)) (two l m s) f g = rw (f l, g m)

    same_height : (h j : ℕ) → j < configurations t → height_at_most t h j ≡ height_before t h j
    unfolding height_at_most height_before
    same_height zero j l = refl
    same_height (suc h) j l =
        let c = configuration_at t j in
        let g = still_good j (all j l) in
        let k = same_kind t c g.kind in
        let laid = (fine t j (byte t c) k g.now).laid_out in
        rw (all j l) (height_good t h j (part_count (byte t c)) g.now (ap part_count k)
        ∙ of_parts (part_count (byte t c)) laid (same_height h (j + 1)) (same_height h (j + 1 + size_of t (j + 1))))

  -- what bytes spelled they spell
  still_configured : (d : Config) (c : ℕ) → ConfiguredBefore t c d → Configured t c d
  unfolding ConfiguredBefore Configured
  still_configured (Event s) c (k, w, e) = (omega arith, w, omega arith)
  still_configured (Not d) c (k, w, x) = (omega arith, w, still_configured d _ x)
  still_configured (And d e) c (k, w, x, y) = (omega arith, w, still_configured d _ x, still_configured e _ y)
  still_configured (Or d e) c (k, w, x, y) = (omega arith, w, still_configured d _ x, still_configured e _ y)

  still_argues : (i : ℕ) (a : Argument) → ArguesBefore t i a → Argues t i a
  still_argues i no_argument x = tt
  still_argues i (number n) x = x
  still_argues i (event s) x = x
  still_argues i (configuration c) x = still_configured c _ x
  still_argues i (value v) x = absurd x
  still_argues i (capped v cap) x = absurd x

  still_spells : {p : Program} (v : Parts p) (i : ℕ) → SpellsBefore t i v → SpellsParts t i v
  still_spells {p} (no_part f) i ((h, few), x) = (h, still_argues i (argument p) x)
  still_spells {p} (one_part f q) i ((h, few), x, y) = (h, still_argues i (argument p) x, still_spells q _ y)
  still_spells {p} (two_parts f q r) i ((h, few), x, y, z) = (h, still_argues i (argument p) x, still_spells q _ y, still_spells r _ z)

pub read_as_before : (t : List ℕ) {p : Program} {g a w : ℕ} → AcceptedBefore t p g a w
    → (verdict_of t ≡ accepted_with g a w 0) × (tree_of t ≡ p)
unfolding good_configuration counts_good Spells
read_as_before t {p} b =
    let (n_least, n_most) = b.n_range in
    let (v_least, v_most) = b.v_range in
    let own : (j : ℕ) → j < configurations t → good_but_height_before t j ≡ true = λ j l. (b.configurations_good j l).0 in
    let good : ConfigurationsGood t =
    λ j l. rw ((still_good t j (own j l)).now, same_height t own 16 j l) (b.configurations_good j l).1 in
    let counts : counts_good t ≡ true =
    rw (
      le-leb 1 (nodes t) n_least,
      le-leb (nodes t) 4096 n_most,
      le-leb (configurations t) 2048 b.m_range,
      le-leb 1 (events t) v_least,
      le-leb (events t) places (omega arith),
    ) in
    let tree : tree_of t ≡ p = one_tree t 0 (tree_of t) p (spells_tree t good n_least b.nodes_good) (still_spells t (parts p) 0 b.spelled) in
    let verdict = by_program t b.good_length counts b.good_distances good b.nodes_good in
    (verdict ∙ (ap program_verdict tree ∙ b.figures), tree)
