-- The part of a table at a node, byte by byte: `part`; and the records of that part where they stand: `in_place`.
use Prim.Native.Nat.{ℕ, ◌+◌, ◌*◌, ◌/◌, ◌%◌, ◌<◌}
use mathlib.Core.Path.{◌≡◌, refl, ap, ap₂, sym, ◌∙◌}
use mathlib.Core.List.{List, ◌++◌}
use native.Mathlib.Nat.{div-add-mod'}
use native.Mathlib.Omega.{arith}
use lib.ListN.{length, take, drop, length-append, length-drop, get_or-append}
use lib.Seq.{length-take-le, get_or-append-add, get_or-take, get_or-drop}
use Rattle.table.specs.Records.{byte, word, nodes, configurations, events, back_to_nodes, back_to_configurations, size_at}
use Rattle.table.specs.Bytes.{trailer}
use Rattle.table.specs.Inside.{Loaded}
use Rattle.table.specs.Part.{part_table, part_length}
use Rattle.table.proofs.Subtrees.{rooted, ends}

-- u begins with the records of node j of t, which is loaded, and of all below it
pub record Front (t u : List ℕ) (j : ℕ) : Type 0 where
  pub loaded : Loaded t
  pub node : j < nodes t
  pub byte_is : (k : ℕ) → k < 6 * size_at t j → byte u k ≡ byte t (6 * j + k)

-- and has all configurations and the same V
pub record Part (t u : List ℕ) (j : ℕ) : Type 0 where
  pub front : Front t u j
  pub configuration_byte : (k : ℕ) → k < 4 * configurations t → byte u (6 * size_at t j + k) ≡ byte t (6 * nodes t + k)
  pub long : length u ≡ part_length t j
  pub nodes_are : nodes u ≡ size_at t j
  pub configurations_are : configurations u ≡ configurations t
  pub events_are : events u ≡ events t
  pub back_is : back_to_nodes u ≡ 6 * size_at t j + 4 * configurations t
  pub back_too : back_to_configurations u ≡ 4 * configurations t

-- what stands at byte k of the second of three lists, and of the third
module _ (a b c : List ℕ) {x y : ℕ} (la : length a ≡ x) (lb : length b ≡ y) where
  in_first : (k : ℕ) → k < x → byte (a ++ (b ++ c)) k ≡ byte a k
  in_first k h = get_or-append a (b ++ c) 0 k (omega arith)

  in_second : (k : ℕ) → k < y → byte (a ++ (b ++ c)) (x + k) ≡ byte b k
  in_second k h = rw (← la) (get_or-append-add a (b ++ c) k 0 ∙ get_or-append b c 0 k (omega arith))

  in_third : (k : ℕ) → byte (a ++ (b ++ c)) (x + y + k) ≡ byte c k
  in_third k =
      let e : x + y + k ≡ length a + (length b + k) = omega arith in
      rw e (get_or-append-add a (b ++ c) (length b + k) 0 ∙ get_or-append-add b c k 0)

  all_long : length (a ++ (b ++ c)) ≡ x + y + length c
  all_long = simp length-append (omega arith)

  -- a number of the third
  number_there : (k n at : ℕ) → byte c k ≡ n / 256 → byte c (k + 1) ≡ n % 256 → x + y + k ≡ at → word (a ++ (b ++ c)) at ≡ n
  number_there k n at f g e =
      let next : x + y + (k + 1) ≡ at + 1 = omega arith in
      ap₂
      (λ p q. p * 256 + q)
      (ap (byte (a ++ (b ++ c))) (sym e) ∙ (in_third k ∙ f))
      (ap (byte (a ++ (b ++ c))) (sym next) ∙ (in_third (k + 1) ∙ g))
      ∙ div-add-mod' n 256

module _ {t : List ℕ} (l : Loaded t) (j : ℕ) (h : j < nodes t) where
  pub in_place : Front t (drop (6 * j) t) j
  in_place = record { loaded = l; node = h; byte_is = λ k g. get_or-drop (6 * j) t k 0 }

  pub part : Part t (part_table t j) j
  unfolding part_table
  part =
      let n = size_at t j in
      let m = configurations t in
      let within = ends (rooted l) j h in
      let all = l.framed.long in
      let a = take (6 * n) (drop (6 * j) t) in
      let b = take (4 * m) (drop (6 * nodes t) t) in
      let c = trailer n m (events t) (6 * n + 4 * m) (4 * m) in
      let la : length a ≡ 6 * n = length-take-le (6 * n) (drop (6 * j) t) (simp length-drop (omega arith)) in
      let lb : length b ≡ 4 * m = length-take-le (4 * m) (drop (6 * nodes t) t) (simp length-drop (omega arith)) in
      let long = all_long a b c la lb in
      record {
        front = record {
          loaded = l;
          node = h;
          byte_is = λ k g. in_first a b c la lb k g ∙ (get_or-take (6 * n) (drop (6 * j) t) k 0 g ∙ get_or-drop (6 * j) t k 0);
        };
        configuration_byte = λ k g.
            in_second a b c la lb k g ∙ (get_or-take (4 * m) (drop (6 * nodes t) t) k 0 g ∙ get_or-drop (6 * nodes t) t k 0);
        long = long;
        nodes_are = number_there a b c la lb 0 n _ refl refl (omega arith);
        configurations_are = number_there a b c la lb 2 m _ refl refl (omega arith);
        events_are = number_there a b c la lb 4 (events t) _ refl refl (omega arith);
        back_is = number_there a b c la lb 6 (6 * n + 4 * m) _ refl refl (omega arith);
        back_too = number_there a b c la lb 8 (4 * m) _ refl refl (omega arith);
      }
