-- The records of a part of a program at their place in a table, and those of its own parts.
use Prim.Native.Nat.{ℕ, ◌+◌, ◌*◌, ◌/◌, ◌%◌, ◌<◌}
use mathlib.Core.Path.{◌≡◌, refl}
use mathlib.Core.List.{List, [], ◌∷◌, ◌++◌}
use native.Mathlib.Omega.{arith}
use native.Mathlib.Nat.{add-zero}
use Rattle.events.specs.Members.{places}
use Rattle.junior.specs.Configuration.{Config}
use Rattle.junior.specs.Program.{Program, Argument, no_argument, number, event, configuration, value, capped, argument, kind}
use Rattle.junior.specs.Program.{Leaf, One, Two, Parts, no_part, one_part, two_parts, size_of, size}
use Rattle.table.specs.Records.{byte, kind_at, zero_at, argument_at, size_at, configuration_at, kind_byte, part_kind, part_event, part_size}
use Rattle.table.specs.Spells.{weight}
use Rattle.form.specs.Made.{big, tests_parts, as_number, behind as after, node, nodes_from_parts, test_records}
use Rattle.form.specs.Made.{records_with, tests_of_parts}
use Rattle.form.proofs.MadeLength.{nodes_long, test_length, tests_long}
use Rattle.form.proofs.BytesAt.{Has, front, behind, word_there}

-- a node's record and others behind it
abbrev pub node_record : ℕ → ℕ → ℕ → List ℕ → List ℕ
node_record k a s w = k ∷ 0 ∷ (big a ++ (big s ++ w))

pub record Node (t : List ℕ) (i k a s : ℕ) : Type 0 where
  pub kind_is : kind_at t i ≡ k
  pub zero_is : zero_at t i ≡ 0
  pub argument_is : argument_at t i ≡ a
  pub size_is : size_at t i ≡ s

pub node_there : {t : List ℕ} (i k a s : ℕ) {w : List ℕ} → Has t (6 * i) (node_record k a s w) → Node t i k a s
node_there {t} i k a s {w} h =
    record {
      kind_is = rw (add-zero (6 * i)) at (h.at 0 (omega arith));
      zero_is = h.at 1 (omega arith);
      argument_is = word_there a (behind (k ∷ 0 ∷ []) (big a ++ (big s ++ w)) refl h);
      size_is = word_there s (behind (k ∷ 0 ∷ big a) (big s ++ w) refl h);
    }

-- a configuration's record and others behind it
abbrev pub test_record : ℕ → ℕ → ℕ → List ℕ → List ℕ
test_record k e s w = k ∷ e ∷ (big s ++ w)

pub record Test (t : List ℕ) (c k e s : ℕ) : Type 0 where
  pub kind_byte_is : kind_byte t c ≡ k
  pub event_byte_is : byte t (c + 1) ≡ e
  pub size_is : part_size t c ≡ s

pub test_there : {t : List ℕ} {c : ℕ} (k e s : ℕ) {w : List ℕ} → Has t c (test_record k e s w) → Test t c k e s
test_there {t} {c} k e s {w} h =
    record {
      kind_byte_is = rw (add-zero c) at (h.at 0 (omega arith));
      event_byte_is = h.at 1 (omega arith);
      size_is = word_there s (behind (k ∷ e ∷ []) (big s ++ w) refl h);
    }

-- a kind below 16 is its byte
pub kind_is : {t : List ℕ} {c k e s : ℕ} → Test t c k e s → k < 16 → part_kind t c ≡ k
kind_is o l = let k = o.kind_byte_is in omega arith

-- the kind byte of event s
pub event_kind : (s : ℕ) {t : List ℕ} {c e n : ℕ} → Test t c (16 * (s / 256)) e n → part_kind t c ≡ 0
event_kind s o = let k = o.kind_byte_is in omega arith

module _ (s : ℕ) {t : List ℕ} {c n : ℕ} (o : Test t c (16 * (s / 256)) (s % 256) n) (l : s < places) where
  pub few_sixteens : kind_byte t c < 64
  few_sixteens = let k = o.kind_byte_is in omega arith

  pub event_is : part_event t c ≡ s
  event_is =
      let k = o.kind_byte_is in
      let e = o.event_byte_is in
      let sixteens : kind_byte t c / 16 ≡ s / 256 = omega arith in
      omega arith

-- what stands behind a configuration's own record
pub test_behind : {t : List ℕ} {c b : ℕ} (k e s : ℕ) {w : List ℕ} → c + 4 ≡ b → Has t c (test_record k e s w) → Has t b w
test_behind k e s {w} z h = behind (k ∷ e ∷ big s) w z h

-- the records of p stand at node i, its configurations from number j on
pub record RecordsAt (t : List ℕ) (i j : ℕ) {p : Program} (v : Parts p) : Type 0 where
  pub nodes_there : Has t (6 * i) (nodes_from_parts j v)
  pub tests_there : Has t (configuration_at t j) (tests_of_parts v)

-- the configuration of a test, and what comes behind it
module _ {t : List ℕ} (j : ℕ) (c : Config) (w : List ℕ) (h : Has t (configuration_at t j) (test_records c ++ w)) where
  pub tested_there : Has t (configuration_at t j) (test_records c)
  tested_there = front (test_records c) w h

  pub behind_tested : Has t (configuration_at t (j + weight c)) w
  behind_tested = behind (test_records c) w (omega (arith, test_length c)) h

-- an argument's configurations, if it has any, and what comes behind them
pub behind_argument : {t : List ℕ} (j : ℕ) (a : Argument) (w : List ℕ) → Has t (configuration_at t j) (records_with a w)
    → Has t (configuration_at t (after j a)) w
behind_argument j no_argument w h = h
behind_argument j (number n) w h = h
behind_argument j (event s) w h = h
behind_argument j (configuration c) w h = behind_tested j c w h
behind_argument j (value v) w h = h
behind_argument j (capped v cap) w h = h

-- configuration j with two parts
pub record BothTests (t : List ℕ) (j k : ℕ) (d e : Config) : Type 0 where
  pub own : Test t (configuration_at t j) k 0 (1 + weight d + weight e)
  pub first : Has t (configuration_at t (j + 1)) (test_records d)
  pub second : Has t (configuration_at t (j + 1 + weight d)) (test_records e)

pub both_tests : {t : List ℕ} (j k : ℕ) (d e : Config)
    → Has t (configuration_at t j) (test_record k 0 (1 + weight d + weight e) (test_records d ++ test_records e)) → BothTests t j k d e
both_tests {t} j k d e h =
    let b : Has t (configuration_at t (j + 1)) (test_records d ++ test_records e) =
    test_behind k 0 (1 + weight d + weight e) (omega arith) h in
    record {
      own = test_there k 0 (1 + weight d + weight e) h;
      first = tested_there (j + 1) d (test_records e) b;
      second = behind_tested (j + 1) d (test_records e) b;
    }

-- node i of a program with no part, with one, and with two
abbrev Own : List ℕ → ℕ → ℕ → Program → Type 0
Own t i j p = Node t i (kind p) (as_number j (argument p)) (size p)

pub record OnePart (t : List ℕ) (i j : ℕ) (p : Program) {q : Program} (v : Parts q) : Type 0 where
  pub own : Own t i j p
  pub part : RecordsAt t (i + 1) (after j (argument p)) v

pub record TwoParts (t : List ℕ) (i j : ℕ) (p : Program) {q r : Program} (v : Parts q) (w : Parts r) : Type 0 where
  pub own : Own t i j p
  pub first : RecordsAt t (i + 1) (after j (argument p)) v
  pub second : RecordsAt t (i + 1 + size_of v) (after j (argument p) + tests_parts v) w

module _ {t : List ℕ} (i j : ℕ) (p : Program) (w : List ℕ) (n : Has t (6 * i) (node p (as_number j (argument p)) ++ w)) where
  own_there : Own t i j p
  own_there = node_there i (kind p) (as_number j (argument p)) (size p) n

  behind_own : Has t (6 * (i + 1)) w
  behind_own = behind (node p (as_number j (argument p))) w (omega arith) n

module _ {t : List ℕ} (i j : ℕ) {p : Program} where
  pub no_parts : {f : Leaf p} → RecordsAt t i j (no_part f) → Own t i j p
  no_parts s = own_there i j p [] s.nodes_there

  pub one_of : {q : Program} {f : One p q} (v : Parts q) → RecordsAt t i j (one_part f v) → OnePart t i j p v
  one_of v s =
      let x : List ℕ = nodes_from_parts (after j (argument p)) v in
      record {
        own = own_there i j p x s.nodes_there;
        part =
            record {
              nodes_there = behind_own i j p x s.nodes_there;
              tests_there = behind_argument j (argument p) (tests_of_parts v) s.tests_there;
            };
      }

  pub two_of : {q r : Program} {f : Two p q r} (v : Parts q) (w : Parts r) → RecordsAt t i j (two_parts f v w) → TwoParts t i j p v w
  two_of v w s =
      let next = after j (argument p) in
      let x : List ℕ = nodes_from_parts next v in
      let y : List ℕ = nodes_from_parts (next + tests_parts v) w in
      let n = behind_own i j p (x ++ y) s.nodes_there in
      let h = behind_argument j (argument p) (tests_of_parts v ++ tests_of_parts w) s.tests_there in
      record {
        own = own_there i j p (x ++ y) s.nodes_there;
        first = record { nodes_there = front x y n; tests_there = front (tests_of_parts v) (tests_of_parts w) h };
        second =
            record {
              nodes_there = behind x y (omega (arith, nodes_long next v)) n;
              tests_there = behind (tests_of_parts v) (tests_of_parts w) (omega (arith, tests_long v)) h;
            };
      }
