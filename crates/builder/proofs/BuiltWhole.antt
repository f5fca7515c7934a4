-- Building the table of a whole text.
use Prim.Native.Nat.{ℕ, zero, suc, ◌+◌, ◌-◌, ◌*◌, ◌%◌, ◌≤◌, ◌<◌}
use mathlib.Core.Bool.{Bool, true, false, ◌||◌, false≢true}
use mathlib.Core.Path.{◌≡◌, refl, sym, ap, subst, ◌∙◌}
use mathlib.Core.List.{List, [], ◌∷◌, ◌++◌, append-nil}
use native.Mathlib.Nat.{add-zero}
use native.Mathlib.Omega.{arith}
use lib.Dec.{eqb, ltb}
use borrow.Author.Tests.{ltb-false, eqb-false}
use lib.ListN.{length, take, drop, length-append, length-drop, take-append-drop}
use lib.Seq.{sets, length-take-le, take_all, take_at, drop-cons, drop-length, get_or-drop}
use Rattle.junior.specs.Program.{Program, size}
use Rattle.table.specs.Records.{byte}
use Rattle.table.proofs.Little.{below_or}
use Rattle.builder.specs.declared.build.Front.{Front}
use Rattle.form.specs.Form.{Says, whole}
use Rattle.form.specs.Made.{big, tests, nodes_from, tests_of, trailer, table_of}
use Rattle.form.proofs.MadeLength.{nodes_length, tests_length}
use Rattle.builder.specs.Building.{SoFar, acting, Idle, place, relevel, levels, placed, Region, Holds, Room, CanPlace}
use Rattle.builder.specs.Building.{Places, Stacked}
use Rattle.builder.specs.Building.{LevelReady, Levels, Measured}
use Rattle.builder.proofs.PlacedByConfigurations.{made, small_mod}
use Rattle.builder.proofs.PlacedByPrograms.{piece_placed}
use Rattle.builder.proofs.PlacedGrows.{room_at}
use Rattle.builder.proofs.BracketDepth.{depth_at}
use Rattle.builder.proofs.PlacedByFunctions.{place_none}
use Rattle.builder.proofs.LevelBytes.{level_other}
use Rattle.builder.proofs.TableRegions.{sets_right, sets_all}
use Rattle.form.proofs.MadeNamed.{named_most}
use Rattle.form.proofs.SaysInForm.{says_in_form}

-- a whole program, with nothing behind it
whole_placed :
    {p : Program} {text : List ℕ}
    → Says (whole p) text
    → size p ≤ 65535
    → tests p ≤ 65535
    → placed (tests p) text ≡ made (nodes_from 0 p) (tests_of p) 0
unfolding placed
whole_placed {p} {text} d a b =
    let h : (placed (tests p) []).left ≡ 0 + tests p = omega arith in
    let e : placed (tests p) (text ++ []) ≡ made (nodes_from 0 p ++ []) (tests_of p ++ []) 0 = piece_placed (tests p) d [] 0 a (omega arith) h in
    rw (append-nil text, append-nil (nodes_from 0 p), append-nil (tests_of p)) at e

no_bytes : (l : List ℕ) → length l ≡ 0 → l ≡ []
no_bytes [] e = refl
no_bytes (x ∷ l) e = absurd (omega arith)

-- where the loop stands at byte i
pub record Under (text : List ℕ) (n m : ℕ) (t lv : List ℕ) (f : Front) (d i : ℕ) : Type 0 where
  pub within : i ≤ length text
  pub holds : Holds n m t f (placed m (drop i text))
  pub stacked : Stacked lv d (levels (drop i text))
  pub long : length lv ≡ 8192
  pub room_is : length t ≡ 6 * n + 4 * m + 10

empty_region : (t : List ℕ) (a : ℕ) → a ≤ length t → Region t a a []
empty_region t a h =
    record { before = take a t; behind = drop a t; parts = sym (take-append-drop a t); begins = length-take-le a t h; ends = add-zero a }

-- bytes that do nothing: none yet; one more
pub idle_none : (text : List ℕ) (i : ℕ) → Idle text i i
idle_none text i = record { rising = omega arith; none = λ k h l. absurd (omega arith) }

pub idle_more : {text : List ℕ} {i j : ℕ} → Idle text i j → 0 < i → acting (byte text (i - 1)) ≡ false → Idle text (i - 1) j
idle_more {text} {i} e h f = record { rising = omega (arith, e.rising); none = λ k l m. below_or k i (λ b. here k l b) (λ b. e.none k b m) }
  where
    here : (k : ℕ) → i - 1 ≤ k → k < i → acting (byte text k) ≡ false
    here k l b = let same : k ≡ i - 1 = omega arith in rw same f

-- a byte that does not act stands behind the comma, and is no `J`
acts_not : (b : ℕ) → acting b ≡ false → (45 ≤ b) × (b ≡ 74 → ⊥)
unfolding acting
acts_not b e = go (ltb b 45) refl (eqb b 74) refl e
  where
    go : (x : Bool) → ltb b 45 ≡ x → (y : Bool) → eqb b 74 ≡ y → x || y ≡ false → (45 ≤ b) × (b ≡ 74 → ⊥)
    go true p y q h = absurd (false≢true (sym h))
    go false p true q h = absurd (false≢true (sym h))
    go false p false q h = (ltb-false b 45 p, eqb-false b 74 q)

module _ {text : List ℕ} {n m v room : ℕ} {p : Program} (g : Measured text n m v room p) where
  -- before the first step
  pub under_starts :
      (t lv : List ℕ) (f : Front)
      → length t ≡ room
      → length lv ≡ 8192
      → f ≡ record { node = 6 * n; middle = 6 * n; part = 6 * n + 4 * m; end = 6 * n + 4 * m; left = m }
      → Under text n m t lv f 8192 (length text)
  unfolding placed levels
  under_starts t lv f e l is =
      let none : drop (length text) text ≡ [] = drop-length text in
      rw is
      (record {
        within = omega arith;
        holds =
            rw none
            (record {
              middle_is = refl;
              end_is = refl;
              nodes_there = empty_region t (6 * n) (omega arith);
              tests_there = empty_region t (6 * n + 4 * m) (omega arith);
              counted = refl;
              left_is = refl;
              small = omega arith;
            });
        stacked = rw none (record { within = omega arith; there = ap (λ x. drop x lv) (sym l) ∙ drop-length lv });
        long = l;
        room_is = omega arith;
      })

  all_placed : placed m text ≡ made (nodes_from 0 p) (tests_of p) 0
  all_placed =
      rw g.m_is (whole_placed g.says (omega arith) (omega arith))

  all_room : Room n m (placed m text)
  all_room =
      let c = nodes_length 0 p in
      let d = tests_length p in
      rw all_placed (record { for_nodes = omega arith; for_tests = omega arith })

  module _ {t lv : List ℕ} {f : Front} {d k : ℕ} (u : Under text n m t lv f d k) (some : 0 < k) where
    next : drop (k - 1) text ≡ byte text (k - 1) ∷ drop k text
    next =
        let e : suc (k - 1) ≡ k = omega arith in
        drop-cons text (k - 1) 0 (omega arith) ∙ ap (λ x. byte text (k - 1) ∷ drop x text) e

    rest : take (length text - k) (drop k text) ≡ drop k text
    rest = take_all (length text - k) (drop k text) (simp length-drop (omega arith))

    level_is : byte lv d ≡ byte (levels (drop k text)) 0
    level_is = sym (ap (λ x. byte x 0) (sym u.stacked.there) ∙ (get_or-drop d lv 0 0 ∙ ap (byte lv) (add-zero d)))

    -- what this byte places
    abbrev placing : SoFar → SoFar
    placing = place (byte text (k - 1)) (byte lv d) (take (length text - k) (drop k text))

    placing_is : placing (placed m (drop k text)) ≡ placed m (drop (k - 1) text)
    unfolding placed
    placing_is = rw (rest, level_is, next)

    pub place_ready : CanPlace placing t f
    place_ready =
        (n, m, placed m (drop k text), u.holds, subst (λ (x : SoFar). Room n m x) (sym placing_is) (room_at n m (k - 1) text all_room))

    -- and what it does to the levels
    abbrev leveling : List ℕ → List ℕ
    leveling = relevel (byte text (k - 1)) (take (length text - k) (drop k text))

    leveling_is : leveling (levels (drop k text)) ≡ levels (drop (k - 1) text)
    unfolding levels
    leveling_is = rw (rest, next)

    level_room : length (leveling (levels (drop k text))) ≤ length lv
    level_room =
        let e = depth_at g.says (k - 1) in
        rw leveling_is (omega arith)

    pub level_ready : LevelReady leveling lv d
    level_ready = (levels (drop k text), u.stacked, level_room)

    pub under_on :
        {t' lv' : List ℕ} {f' : Front} {d' : ℕ}
        → Places placing t f t' f'
        → Levels leveling lv d lv' d'
        → length lv' ≡ length lv
        → length t' ≡ length t
        → Under text n m t' lv' f' d' (k - 1)
    under_on {t'} {lv'} {f'} {d'} a b l o =
        record {
          within = omega arith;
          holds =
              subst (λ (x : SoFar). Holds n m t' f' x) placing_is
              (a n m (placed m (drop k text)) u.holds (subst (λ (x : SoFar). Room n m x) (sym placing_is) (room_at n m (k - 1) text all_room)));
          stacked = subst (λ (x : List ℕ). Stacked lv' d' x) leveling_is (b (levels (drop k text)) u.stacked level_room);
          long = l ∙ u.long;
          room_is = o ∙ u.room_is;
        }

    -- a byte that does not act leaves all as it was
    under_same : acting (byte text (k - 1)) ≡ false → Under text n m t lv f d (k - 1)
    under_same e =
        let (a, b) = acts_not (byte text (k - 1)) e in
        let same : (s : SoFar) → placing s ≡ s =
        λ s. place_none (byte text (k - 1)) _ _ s (λ z. omega arith) (λ z. omega arith) (λ z. omega arith) b in
        under_on (λ n m s h r. subst (λ (x : SoFar). Holds n m t f x) (sym (same s)) h)
        (level_other (byte text (k - 1)) _ lv d (λ z. omega arith) (λ z. omega arith) (λ z. omega arith) (λ z. omega arith)) refl refl

  -- nor do several change anything
  pub under_back : {t lv : List ℕ} {f : Front} {d r k : ℕ} → Under text n m t lv f d k → Idle text r k → Under text n m t lv f d r
  under_back {t} {lv} {f} {d} {r} {k} u e = go (k - r) k u e.rising (omega (arith, e.rising)) e.none
    where
      go : (j i : ℕ) → Under text n m t lv f d i → r ≤ i → i ≡ r + j → ((a : ℕ) → r ≤ a → a < i → acting (byte text a) ≡ false)
          → Under text n m t lv f d r
      go zero i u l e h = let same : i ≡ r = omega arith in subst (λ (x : ℕ). Under text n m t lv f d x) same u
      go (suc j) i u l e h =
          go j (i - 1) (under_same u (omega arith) (h (i - 1) (omega arith) (omega arith))) (omega arith) (omega arith)
          (λ a b c. h a b (omega arith))

  -- behind the last step
  module _ {t lv : List ℕ} {f : Front} {d : ℕ} (u : Under text n m t lv f d 0) where
    held : Holds n m t f (made (nodes_from 0 p) (tests_of p) 0)
    held = subst (λ (x : SoFar). Holds n m t f x) all_placed u.holds

    nodes_first : t ≡ nodes_from 0 p ++ held.nodes_there.behind
    nodes_first =
        let c = nodes_length 0 p in
        let e = held.nodes_there.ends in
        let b = held.nodes_there.begins in
        let none : held.nodes_there.before ≡ [] = no_bytes held.nodes_there.before (omega arith) in
        held.nodes_there.parts ∙ ap (λ x. x ++ (nodes_from 0 p ++ held.nodes_there.behind)) none

    -- its records, and what stands behind them
    records : t ≡ nodes_from 0 p ++ (tests_of p ++ held.tests_there.behind)
    records =
        let c = nodes_length 0 p in
        let o = tests_length p in
        let e = held.tests_there.ends in
        let b = held.tests_there.begins in
        let same : held.tests_there.before ≡ nodes_from 0 p =
        sym (take_at held.tests_there.before (tests_of p ++ held.tests_there.behind) (6 * n) (omega arith))
        ∙ (ap (take (6 * n)) (sym held.tests_there.parts)
        ∙ (ap (take (6 * n)) nodes_first ∙ take_at (nodes_from 0 p) held.nodes_there.behind (6 * n) (omega arith))) in
        held.tests_there.parts ∙ ap (λ x. x ++ (tests_of p ++ held.tests_there.behind)) same

    pub table_built :
        (t' : List ℕ)
        → t'
        ≡ sets t (6 * n + 4 * m) (big (n % 65536) ++ (big (m % 65536) ++ (big (v % 65536) ++ (big ((6 * n + 4 * m) % 65536) ++ big (4 * m % 65536)))))
        → t' ≡ table_of p
    unfolding table_of trailer
    table_built t' e =
        let a = g.n_is in
        let b = g.m_is in
        let c = g.v_is in
        let k = named_most p (says_in_form g.says) in
        let w : List ℕ = big n ++ (big m ++ (big v ++ (big (6 * n + 4 * m) ++ big (4 * m)))) in
        let x : List ℕ = held.tests_there.behind in
        let h = nodes_length 0 p in
        let o = tests_length p in
        let l : length x ≡ 10 =
        let y = ap length records ∙ (length-append (nodes_from 0 p) (tests_of p ++ x) ∙ ap (λ z. length (nodes_from 0 p) + z) (length-append (tests_of p) x)) in
        let z = u.room_is in
        omega arith in
        let at : 6 * n + 4 * m ≡ length (nodes_from 0 p) + (length (tests_of p) + 0) = omega arith in
        let put : sets t (6 * n + 4 * m) w ≡ nodes_from 0 p ++ (tests_of p ++ w) =
        ap (λ y. sets y (6 * n + 4 * m) w) records
        ∙ (ap (λ y. sets (nodes_from 0 p ++ (tests_of p ++ x)) y w) at
        ∙ (sets_right w (nodes_from 0 p) (tests_of p ++ x) (length (tests_of p) + 0)
        ∙ ap (λ y. nodes_from 0 p ++ y) (sets_right w (tests_of p) x 0 ∙ ap (λ y. tests_of p ++ y) (sets_all w x (sym l))))) in
        rw (
          small_mod n 65536 (omega arith),
          small_mod m 65536 (omega arith),
          small_mod v 65536 (omega arith),
          small_mod (6 * n + 4 * m) 65536 (omega arith),
          small_mod (4 * m) 65536 (omega arith),
        ) at e
        ∙ (put ∙ rw (a, b, c))
