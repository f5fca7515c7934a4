-- The table's bytes hold what is placed, one record after another.
use Prim.Native.Nat.{ℕ, ◌+◌, ◌-◌, ◌*◌, ◌≤◌, ◌<◌}
use mathlib.Core.Path.{◌≡◌, sym, ap, subst}
use mathlib.Core.List.{List, ◌++◌}
use native.Mathlib.Omega.{arith}
use lib.ListN.{length, take, drop}
use lib.Seq.{sets, length-sets}
use Rattle.builder.specs.declared.build.Front.{Front}
use Rattle.builder.specs.Building.{SoFar, node_bytes, test_bytes, with_node, with_test, Region, Holds, Room}
use Rattle.builder.specs.Building.{CanPlace, Places}
use Rattle.builder.proofs.PlacedByConfigurations.{made}
use Rattle.builder.proofs.TableRegions.{put_front, put_before, put_behind, put_inside, region_start, region_end}
use Rattle.builder.proofs.TableRegions.{region_is, part_back}
use Rattle.builder.proofs.TableRegions.{sets_all}
use Rattle.builder.proofs.PlacedGrows.{Grows, room_before}

-- what is placed, seen as a part of the slice
module _ {n m : ℕ} {t : List ℕ} {f : Front} {s : SoFar} (h : Holds n m t f s) where
  pub nodes_start : f.node ≤ f.middle
  nodes_start = rw h.middle_is (region_start h.nodes_there)

  pub nodes_end : f.middle ≤ length t
  nodes_end = rw h.middle_is (region_end h.nodes_there)

  pub nodes_part : take (f.middle - f.node) (drop f.node t) ≡ s.nodes
  nodes_part = rw h.middle_is (region_is h.nodes_there)

  pub tests_end : f.end ≤ length t
  tests_end = rw h.end_is (region_end h.tests_there)

  pub tests_part : take (f.end - f.part) (drop f.part t) ≡ s.tests
  tests_part = rw h.end_is (region_is h.tests_there)

-- a node in front
module _ {n m : ℕ} {t : List ℕ} {f : Front} {s : SoFar} (h : Holds n m t f s) (k a z : ℕ) (r : Room n m (with_node k a z s)) where
  pub node_room : 6 ≤ f.node
  node_room = omega arith

  pub node_fits : f.node - 6 + 5 < length t
  node_fits =
      let d = region_end h.nodes_there in
      omega arith

  pub node_placed :
      (f' : Front)
      → f' ≡ record { node = f.node - 6; middle = f.middle; part = f.part; end = f.end; left = f.left }
      → (t' : List ℕ)
      → t' ≡ sets t (f.node - 6) (node_bytes k a z)
      → Holds n m t' f' (with_node k a z s)
  node_placed f' is t' w =
      rw (is, w)
      (record {
        middle_is = h.middle_is;
        end_is = h.end_is;
        nodes_there = put_front h.nodes_there (node_bytes k a z) (f.node - 6) (omega arith);
        tests_there = put_before h.tests_there (node_bytes k a z) (f.node - 6) (omega arith);
        counted = h.counted;
        left_is = h.left_is;
        small = rw (length-sets t (f.node - 6) (node_bytes k a z)) h.small;
      })

-- a configuration in front
module _ {n m : ℕ} {t : List ℕ} {f : Front} {s : SoFar} (h : Holds n m t f s) (k a z : ℕ) (r : Room n m (with_test k a z s)) where
  pub test_room : 4 ≤ f.part - 6 * n
  test_room = omega arith

  pub test_left : 1 ≤ f.left
  test_left = omega arith

  pub test_fits : f.part - 4 + 3 < length t
  test_fits =
      let d = region_end h.tests_there in
      omega arith

  pub test_placed :
      (f' : Front)
      → f' ≡ record { node = f.node; middle = f.middle; part = f.part - 4; end = f.end; left = f.left - 1 }
      → (t' : List ℕ)
      → t' ≡ sets t (f.part - 4) (test_bytes k a z)
      → Holds n m t' f' (with_test k a z s)
  test_placed f' is t' w =
      rw (is, w)
      (record {
        middle_is = h.middle_is;
        end_is = h.end_is;
        nodes_there = put_behind h.nodes_there (test_bytes k a z) (f.part - 4) (omega arith);
        tests_there = put_front h.tests_there (test_bytes k a z) (f.part - 4) (omega arith);
        counted = omega arith;
        left_is = ap (λ x. x - 1) h.left_is;
        small = rw (length-sets t (f.part - 4) (test_bytes k a z)) h.small;
      })

-- the nodes' bytes anew
pub nodes_anew :
    {n m : ℕ} {t : List ℕ} {f : Front} {s : SoFar}
    → Holds n m t f s
    → (w : List ℕ)
    → length w ≡ length s.nodes
    → Holds n m (take f.node t ++ (w ++ drop (f.middle - f.node) (drop f.node t))) f (made w s.tests s.left)
nodes_anew {n} {m} {t} {f} {s} h w l =
    let c = h.counted in
    let a = nodes_start h in
    let b = nodes_end h in
    let i = h.middle_is in
    let e = part_back t w f.node f.middle a b (omega arith) in
    let inside : Region (sets t f.node w) f.node (6 * n) (sets s.nodes 0 w) = put_inside h.nodes_there w f.node 0 (omega arith) (omega arith) in
    rw e
    (record {
      middle_is = i;
      end_is = h.end_is;
      nodes_there = rw (sets_all w s.nodes l) at inside;
      tests_there = put_before h.tests_there w f.node (omega arith);
      counted = c;
      left_is = h.left_is;
      small = rw (length-sets t f.node w) h.small;
    })

-- they are no more than the table's
pub nodes_small :
    {n m : ℕ} {t : List ℕ} {f : Front} {s : SoFar}
    → Holds n m t f s
    → length (take (f.middle - f.node) (drop f.node t)) ≤ 32778
nodes_small {f = f} h =
    let b = region_end h.nodes_there in
    rw (nodes_part h) (omega arith)

-- nothing is placed
pub places_none : {F : SoFar → SoFar} {t : List ℕ} {f : Front} → ((s : SoFar) → F s ≡ s) → Places F t f t f
places_none {t = t} {f = f} e n m s h r = subst (λ (x : SoFar). Holds n m t f x) (sym (e s)) h

-- another way to say what is placed
pub ready_in :
    {F G : SoFar → SoFar} {t : List ℕ} {f : Front}
    → ((n m : ℕ) (s : SoFar) → Holds n m t f s → F s ≡ G s)
    → CanPlace G t f
    → CanPlace F t f
ready_in e (n, m, s, h, r) = (n, m, s, h, subst (λ (x : SoFar). Room n m x) (sym (e n m s h)) r)

pub places_in :
    {F G : SoFar → SoFar} {t : List ℕ} {f : Front} {t' : List ℕ} {f' : Front}
    → ((n m : ℕ) (s : SoFar) → Holds n m t f s → F s ≡ G s)
    → Places F t f t' f'
    → Places G t f t' f'
places_in {t' = t'} {f' = f'} e p n m s h r =
    subst (λ (x : SoFar). Holds n m t' f' x) (e n m s h) (p n m s h (subst (λ (x : SoFar). Room n m x) (sym (e n m s h)) r))

-- one after the other
module _ {F G : SoFar → SoFar} (grows : (s : SoFar) → Grows s (G s)) {t : List ℕ} {f : Front} where
  pub ready_first : CanPlace (λ s. G (F s)) t f → CanPlace F t f
  ready_first (n, m, s, h, r) = (n, m, s, h, room_before (grows (F s)) r)

  pub ready_second : {t' : List ℕ} {f' : Front} → CanPlace (λ s. G (F s)) t f → Places F t f t' f' → CanPlace G t' f'
  ready_second (n, m, s, h, r) p = (n, m, F s, p n m s h (room_before (grows (F s)) r), r)

  pub places_then :
      {t' : List ℕ} {f' : Front} {t'' : List ℕ} {f'' : Front} → Places F t f t' f' → Places G t' f' t'' f'' → Places (λ s. G (F s)) t f t'' f''
  places_then p q n m s h r = q n m (F s) (p n m s h (room_before (grows (F s)) r)) r
