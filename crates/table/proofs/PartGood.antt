-- The part of a loaded table at a node is past refusals 1 to 5 itself: `part_loaded`; and its records are so laid out where they stand:
-- `part_rooted`.
use Prim.Native.Nat.{ℕ, zero, suc, ◌+◌, ◌*◌, ◌%◌, ◌≤◌, ◌<◌}
use mathlib.Core.Bool.{true, false, cond, ◌||◌, false≢true}
use mathlib.Core.Path.{◌≡◌, refl, ap, ap₂, sym, ◌∙◌}
use mathlib.Core.List.{List}
use native.Mathlib.Omega.{arith}
use lib.Dec.{eqb, leb, ltb}
use lib.ListN.{drop, length-drop}
use borrow.Author.Tests.{lt-ltb, eq-eqb}
use Rattle.table.specs.Records.{byte, word, nodes, configurations, events, kind_at, zero_at, argument_at, size_at}
use Rattle.table.specs.Records.{configuration_at, kind_byte, part_event}
use Rattle.table.specs.Good.{is_laid_out, known, children, argument_limit, good_node, parts, good_but_height, good_parts, height_at_most}
use Rattle.table.specs.Good.{good_configuration}
use Rattle.table.specs.Inside.{Loaded, Rooted, ConfigurationsGood, NodesGood}
use Rattle.table.proofs.Laid.{both, Laid, none, one, two, size_of, kind_of, fine}
use Rattle.table.proofs.Heights.{height_good}
use Rattle.table.proofs.Spelled.{own_good_lem}
use Rattle.table.proofs.Judged.{limit_by}
use Rattle.table.proofs.Subtrees.{rooted, known_at, laid_there, starts, ends, nested}
use Rattle.table.proofs.PartBytes.{Front, in_place, Part}

-- a record laid out among those that end at n is so among those that end at e, if all its subtree is there
inner : {written : ℕ → ℕ} {n e i c : ℕ} → ((k : ℕ) → k < n → 1 ≤ written k) → i + written i ≤ e → Laid written n i c → Laid written e i c
inner some h (none s) = none s
inner {i = i} some h (one f s) = let a = some (i + 1) f in one (omega arith) s
inner {written} {i = i} some h (two f g s) =
    let a = some (i + 1) f in
    let b = some (i + 1 + written (i + 1)) g in
    two (omega arith) (omega arith) s

-- and so is its copy, j records before it
copied : (written written' : ℕ → ℕ) (j n i : ℕ) {c : ℕ} → ((k : ℕ) → k < n → written' k ≡ written (j + k)) → i < n
    → Laid written (j + n) (j + i) c → is_laid_out written' n i c ≡ true
unfolding is_laid_out
copied written written' j n i same h (none s) = rw (same i h) (eq-eqb _ _ s)
copied written written' j n i same h (one f s) =
    let next : j + (i + 1) ≡ j + i + 1 = omega arith in
    rw (lt-ltb (i + 1) n (omega arith), same i h, same (i + 1) (omega arith), next) (eq-eqb _ _ s)
copied written written' j n i same h (two f g s) =
    let next : j + (i + 1) ≡ j + i + 1 = omega arith in
    let second : j + (i + 1 + written (j + i + 1)) ≡ j + i + 1 + written (j + i + 1) = omega arith in
    rw (
      lt-ltb (i + 1) n (omega arith),
      same i h,
      same (i + 1) (omega arith),
      next,
      lt-ltb (i + 1 + written (j + i + 1)) n (omega arith),
      same (i + 1 + written (j + i + 1)) (omega arith),
      second,
    )
    (eq-eqb _ _ s)

module _ {t u : List ℕ} {j : ℕ} (p : Front t u j) (i : ℕ) (h : i < size_at t j) where
  here : (b x y : ℕ) → b < 6 → x ≡ 6 * i + b → y ≡ 6 * (j + i) + b → byte u x ≡ byte t y
  here b x y g e f =
      let z : 6 * j + x ≡ y = omega arith in
      p.byte_is x (omega arith) ∙ ap (byte t) z

  number_here : (b : ℕ) → b < 5 → word u (6 * i + b) ≡ word t (6 * (j + i) + b)
  number_here b g =
      ap₂
      (λ x y. x * 256 + y)
      (here b (6 * i + b) (6 * (j + i) + b) (omega arith) refl refl)
      (here (b + 1) (6 * i + b + 1) (6 * (j + i) + b + 1) (omega arith) (omega arith) (omega arith))

  pub same_kind : kind_at u i ≡ kind_at t (j + i)
  same_kind = here 0 (6 * i) (6 * (j + i)) (omega arith) (omega arith) (omega arith)

  same_zero : zero_at u i ≡ zero_at t (j + i)
  same_zero = here 1 (6 * i + 1) (6 * (j + i) + 1) (omega arith) refl refl

  pub same_argument : argument_at u i ≡ argument_at t (j + i)
  same_argument = number_here 2 (omega arith)

  pub same_size : size_at u i ≡ size_at t (j + i)
  same_size = number_here 4 (omega arith)

  pub inside : j + i < nodes t
  inside = omega (arith, ends (rooted p.loaded) j p.node)

  pub inner_ends : j + i + size_at t (j + i) ≤ j + size_at t j
  inner_ends = nested (rooted p.loaded) j p.node (j + i) (omega arith) (omega arith)

module _ {t u : List ℕ} {j : ℕ} (p : Front t u j) (i : ℕ) (h : i < size_at t j) where
  laid_here : is_laid_out (size_at u) (size_at t j) i (children (kind_at t (j + i))) ≡ true
  laid_here =
      copied (size_at t) (size_at u) j (size_at t j) i (same_size p) h
      (inner (starts (rooted p.loaded)) (inner_ends p i h) (laid_there (rooted p.loaded) (j + i) (inside p i h)))

-- the records of a part where they stand
pub part_rooted : {t : List ℕ} → Loaded t → (j : ℕ) → j < nodes t → Rooted (drop (6 * j) t) (size_at t j)
part_rooted {t} l j h =
    let p = in_place l j h in
    let some = starts (rooted l) j h in
    let first : j + 0 ≡ j = omega arith in
    record {
      long = simp length-drop (omega (arith, ends (rooted l) j h, l.framed.long));
      whole = rw first at (same_size p 0 (omega arith));
      fits = λ i g. rw (same_kind p i g, known_at (rooted l) (j + i) (inside p i g)) (laid_here p i g);
    }

-- no configuration is of no height
no_height : (t : List ℕ) (c : ℕ) → height_at_most t 0 c ≡ false
unfolding height_at_most
no_height t c = refl

-- a part of a loaded table
module _ {t u : List ℕ} {j : ℕ} (p : Part t u j) where
  l : Loaded t
  l = p.front.loaded

  same_limit : (k : ℕ) → argument_limit u k ≡ argument_limit t k
  unfolding argument_limit
  same_limit k = limit_by u k (sym p.configurations_are) (sym p.events_are)

  root : (i : ℕ) → i < size_at t j → (ltb 0 i || eqb (size_at u i) (nodes u)) ≡ true
  root zero h =
      let first : j + 0 ≡ j = omega arith in
      rw (eq-eqb (size_at u 0) (nodes u) (rw first at (same_size p.front 0 h) ∙ sym p.nodes_are))
  root (suc i) h = rw (lt-ltb 0 (suc i) (omega arith))

  pub part_nodes_good : NodesGood u
  unfolding good_node
  part_nodes_good i h =
      let f = p.front in
      let g : i < size_at t j = omega (arith, p.nodes_are) in
      let good = l.nodes_good (j + i) (inside f i g) in
      let (known_so, more) = both {a = known (kind_at t (j + i))} good in
      let (zero_so, more') = both {a = eqb (zero_at t (j + i)) 0} more in
      let (below, rest) = both {a = ltb (argument_at t (j + i)) (argument_limit t (kind_at t (j + i)))} more' in
      rw (
        same_kind f i g,
        same_zero f i g,
        same_argument f i g,
        same_limit (kind_at t (j + i)),
        known_so,
        zero_so,
        below,
        root i g,
        p.nodes_are,
        laid_here f i g,
      )

  module _ (c : ℕ) (h : c < configurations t) where
    there : (b x y : ℕ) → b < 4 → x ≡ configuration_at u c + b → y ≡ configuration_at t c + b → byte u x ≡ byte t y
    there b x y g e f =
        let z : x ≡ 6 * size_at t j + (4 * c + b) = omega (arith, p.nodes_are) in
        let z' : 6 * nodes t + (4 * c + b) ≡ y = omega arith in
        ap (byte u) z ∙ (p.configuration_byte (4 * c + b) (omega arith) ∙ ap (byte t) z')

    pub same_kind_byte : kind_byte u (configuration_at u c) ≡ kind_byte t (configuration_at t c)
    same_kind_byte = there 0 (configuration_at u c) (configuration_at t c) (omega arith) (omega arith) (omega arith)

    pub same_event_byte : byte u (configuration_at u c + 1) ≡ byte t (configuration_at t c + 1)
    same_event_byte = there 1 (configuration_at u c + 1) (configuration_at t c + 1) (omega arith) refl refl

    pub same_part_size : size_of u c ≡ size_of t c
    same_part_size =
        ap₂
        (λ x y. x * 256 + y)
        (there 2 (configuration_at u c + 2) (configuration_at t c + 2) (omega arith) refl refl)
        (there 3 (configuration_at u c + 2 + 1) (configuration_at t c + 2 + 1) (omega arith) (omega arith) (omega arith))

  good_but_its_height : (c : ℕ) → c < configurations t → good_but_height u c ≡ true
  unfolding good_but_height
  good_but_its_height c h =
      let whole : 0 + configurations t ≡ configurations t = omega arith in
      let here : 0 + c ≡ c = omega arith in
      let good = (own_good_lem t l.configurations_good c h).0 in
      let (kind_known, more) = both {a = ltb (kind_byte t (configuration_at t c)) 64} good in
      let (kind_low, more') = both {a = leb (kind_of t c) 3} more in
      let (event_low, rest) = both {a = ltb (part_event t (configuration_at t c)) (cond (eqb (kind_of t c) 0) (events t) 1)} more' in
      let laid_in_t : Laid (size_of t) (0 + configurations t) (0 + c) (parts (kind_of t c)) =
      rw (whole, here) (fine t c (kind_of t c) refl good).laid_out in
      let laid_so = copied (size_of t) (size_of u) 0 (configurations t) c same h laid_in_t in
      rw (
        same_kind_byte c h,
        same_event_byte c h,
        p.events_are,
        p.configurations_are,
        kind_known,
        kind_low,
        event_low,
        laid_so,
      )
    where
      same : (k : ℕ) → k < configurations t → size_of u k ≡ size_of t (0 + k)
      same k g = let e : 0 + k ≡ k = omega arith in rw e (same_part_size k g)

  low : (h c : ℕ) → c < configurations t → height_at_most t h c ≡ true → height_at_most u h c ≡ true
  low zero c l e = absurd (false≢true (sym (no_height t c) ∙ e))
  low (suc h) c g e =
      let good = (own_good_lem t l.configurations_good c g).0 in
      let same = ap (λ k. parts (k % 16)) (same_kind_byte c g) in
      height_good u h c (parts (kind_of t c)) (good_but_its_height c g) same
      ∙ go (low h) (fine t c (kind_of t c) refl good).laid_out (sym (height_good t h c _ good refl) ∙ e)
    where
      go : {n : ℕ} → ((c : ℕ) → c < configurations t → height_at_most t h c ≡ true → height_at_most u h c ≡ true)
          → Laid (size_of t) (configurations t) c n
          → good_parts n (height_at_most t h (c + 1)) (height_at_most t h (c + 1 + size_of t (c + 1))) ≡ true
          → good_parts n (height_at_most u h (c + 1)) (height_at_most u h (c + 1 + size_of u (c + 1))) ≡ true
      go lower (none s) e = refl
      go lower (one f s) e = lower (c + 1) f e
      go lower (two f f' s) e =
          let (a, b) = both {a = height_at_most t h (c + 1)} e in
          rw (same_part_size (c + 1) f, lower (c + 1) f a) (lower (c + 1 + size_of t (c + 1)) f' b)

  pub part_configurations_good : ConfigurationsGood u
  unfolding good_configuration
  part_configurations_good c h =
      let g = rw p.configurations_are at h in
      rw (good_but_its_height c g) (low 16 c g (own_good_lem t l.configurations_good c g).1)

  pub part_loaded : Loaded u
  part_loaded =
      let f = l.framed in
      let n = p.nodes_are in
      let m = p.configurations_are in
      let v = p.events_are in
      let within = ends (rooted l) j p.front.node in
      let some = starts (rooted l) j p.front.node in
      record {
        framed = record {
          long = omega (arith, p.long);
          n_is = refl;
          m_is = refl;
          v_is = refl;
          n_least = omega arith;
          n_most = omega (arith, f.n_most);
          m_most = omega (arith, f.m_most);
          v_least = omega (arith, f.v_least);
          v_most = rw v f.v_most;
        };
        configurations_good = part_configurations_good;
        nodes_good = part_nodes_good;
      }
