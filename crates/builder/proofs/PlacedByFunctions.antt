-- What each function of the builder places, by the records that it reads.
use Prim.Native.Nat.{ℕ, ◌+◌, ◌-◌, ◌*◌, ◌/◌, ◌%◌, ◌≤◌, ◌<◌}
use mathlib.Core.Bool.{Bool, true, false, cond, ◌&&◌, ◌||◌, false≢true}
use mathlib.Core.Path.{◌≡◌, refl, sym, ap, subst, ◌∙◌}
use mathlib.Core.List.{List, ◌++◌}
use lib.Dec.{eqb}
use borrow.Author.Tests.{eq-eqb, ne_eqb, lt-ltb, le-ltb}
use lib.ListN.{length, take, drop}
use lib.Seq.{sets}
use Rattle.table.specs.Records.{byte, word}
use Rattle.builder.specs.declared.build.Front.{Front}
use Rattle.form.specs.Made.{big}
use Rattle.form.specs.Inside.Machine.{is_digit_byte}
use Rattle.form.specs.Inside.Rows.{row_at, word_row, form_row, form_count, code_at, name_end, inside, named, form_in}
use Rattle.form.proofs.ComputedTests.{both}
use Rattle.form.proofs.Rows.{code_first, code_behind}
use Rattle.builder.specs.Building.{SoFar, with_node, with_test, number, joined_size, joint, pair}
use Rattle.builder.specs.Building.{negation, event}
use Rattle.builder.specs.Building.{blank, opening, labelled, row, branches, choice, await, opens_part, own_size, capped_number, capped}
use Rattle.builder.specs.Building.{asking, single, behind_j}
use Rattle.builder.specs.Building.{form, name}
use Rattle.builder.specs.Building.{comma, place, Holds, Room, CanPlace, Places}
use Rattle.builder.proofs.PlacedGrows.{room_before, length_spread, grows_row_joint, branches_length, grows_choice}
use Rattle.builder.proofs.PlacedGrows.{grows_await}
use Rattle.builder.proofs.TableHolds.{nodes_part, tests_part, nodes_anew}

-- an event, or none
module _ (w : List ℕ) (b : ℕ) (is : b ≡ byte w 0) (s : SoFar) where
  pub event_here : (e : ℕ) → is_digit_byte b ≡ true → e ≡ number 0 w → with_test (16 * (e / 256 % 16)) e 1 s ≡ event w s
  unfolding event
  event_here e h n = rw (n, ← is, h)

  pub event_none : is_digit_byte b ≡ false → event w s ≡ s
  unfolding event
  event_none h = rw (← is, h)

-- records whose size is read off those in front
module _ {n m : ℕ} {t : List ℕ} {f : Front} {s : SoFar} (h : Holds n m t f s) (z : ℕ) where
  abbrev nodes_of : List ℕ
  nodes_of = take (f.middle - f.node) (drop f.node t)

  abbrev own_tests : List ℕ
  own_tests = take (f.end - f.part) (drop f.part t)

  pub joint_here : z ≡ joined_size 6 4 nodes_of → with_node 255 0 z s ≡ joint s
  unfolding joint
  joint_here e = rw (e, nodes_part h)

  pub pair_here : (k : ℕ) → z ≡ joined_size 4 2 own_tests → with_test k 0 z s ≡ pair k s
  unfolding pair
  pair_here k e = rw (e, tests_part h)

  pub negation_here : z ≡ word own_tests 2 → with_test 1 0 (1 + z) s ≡ negation s
  unfolding negation
  negation_here e = rw (e, tests_part h)

  pub capped_here : (k a : ℕ) (w : List ℕ) → z ≡ 1 + word nodes_of 4 → a ≡ capped_number w → with_node k a z s ≡ capped k w s
  unfolding capped
  capped_here k a w e g = rw (e, g, nodes_part h)

  pub single_here : (k a : ℕ) {b : Bool} (w : List ℕ) → b ≡ opens_part k → z ≡ cond b (1 + word nodes_of 4) 1 → a ≡ number 0 w
      → with_node k a z s ≡ single k w s
  unfolding single own_size
  single_here k a w p e g = rw (e, p, g, nodes_part h)

-- an Await: its event, then its node
module _ (k : ℕ) (w : List ℕ) {t : List ℕ} {f : Front} where
  pub await_first : CanPlace (await k w) t f → CanPlace (event w) t f
  await_first (n, m, s, h, r) = (n, m, s, h, room_before (grows_await k w s) r)

  pub await_second :
      {t' : List ℕ} {f' : Front}
      → CanPlace (await k w) t f
      → Places (event w) t f t' f'
      → CanPlace (with_node k f'.left 1) t' f'
  unfolding await
  await_second (n, m, s, h, r) p =
      let g = p n m s h (room_before (grows_await k w s) r) in
      (n, m, event w s, g, rw g.left_is r)

  pub await_done :
      {t' : List ℕ} {f' : Front} {t'' : List ℕ} {f'' : Front}
      → Places (event w) t f t' f'
      → Places (with_node k f'.left 1) t' f' t'' f''
      → Places (await k w) t f t'' f''
  unfolding await
  await_done {t'' = t''} {f'' = f''} p q n m s h r =
      let g = p n m s h (room_before (grows_await k w s) r) in
      let e = g.left_is in
      subst (λ (x : ℕ). Holds n m t'' f'' (with_node k x 1 (event w s))) e
      (q n m (event w s) g (subst (λ (x : ℕ). Room n m (with_node k x 1 (event w s))) (sym e) r))

-- a row: its node, then the labels
module _ (k : ℕ) {t : List ℕ} {f : Front} where
  pub row_first : CanPlace (row k) t f → CanPlace joint t f
  row_first (n, m, s, h, r) = (n, m, s, h, room_before (grows_row_joint k s) r)

  pub row_held :
      {t' : List ℕ} {f' : Front} (r : CanPlace (row k) t f) → Places joint t f t' f' → Holds r.0 r.1 t' f' (joint r.2)
  row_held (n, m, s, h, r) p = p n m s h (room_before (grows_row_joint k s) r)

  pub row_done :
      {t' : List ℕ} {f' : Front} (w : List ℕ)
      → Places joint t f t' f'
      → w ≡ labelled k (take (f'.middle - f'.node) (drop f'.node t'))
      → Places (row k) t f (take f'.node t' ++ (w ++ drop (f'.middle - f'.node) (drop f'.node t'))) f'
  unfolding row joint
  row_done w p e n m s h r =
      let g = p n m s h (room_before (grows_row_joint k s) r) in
      let i = e ∙ ap (labelled k) (nodes_part g) in
      rw (← i) (nodes_anew g w (ap length i ∙ length_spread (length (joint s).nodes) k 0 (joint s).nodes))

-- the labels and the argument of a node in front
pub branches_done :
    (k a : ℕ) {t : List ℕ} {f : Front} (w : List ℕ)
    → w ≡ sets (labelled k (take (f.middle - f.node) (drop f.node t))) 2 (big (a % 65536))
    → Places (branches k a) t f (take f.node t ++ (w ++ drop (f.middle - f.node) (drop f.node t))) f
unfolding branches
branches_done k a w e n m s h r =
    let i : w ≡ (branches k a s).nodes = rw (nodes_part h) at e in
    rw (← i) (nodes_anew h w (ap length i ∙ branches_length k a s))

-- a choice: its event, then the labels and the argument
module _ (k : ℕ) (y : List ℕ) {t : List ℕ} {f : Front} where
  pub choice_first : CanPlace (choice k y) t f → CanPlace (event y) t f
  choice_first (n, m, s, h, r) = (n, m, s, h, room_before (grows_choice k y s) r)

  pub choice_second :
      {t' : List ℕ} {f' : Front} → CanPlace (choice k y) t f → Places (event y) t f t' f' → CanPlace (branches k f'.left) t' f'
  unfolding choice
  choice_second (n, m, s, h, r) p =
      let g = p n m s h (room_before (grows_choice k y s) r) in
      (n, m, event y s, g, rw g.left_is r)

  pub choice_done :
      {t' : List ℕ} {f' : Front} {t'' : List ℕ} {f'' : Front}
      → Places (event y) t f t' f'
      → Places (branches k f'.left) t' f' t'' f''
      → Places (choice k y) t f t'' f''
  unfolding choice
  choice_done {t'' = t''} {f'' = f''} p q n m s h r =
      let g = p n m s h (room_before (grows_choice k y s) r) in
      let e = g.left_is in
      subst (λ (x : ℕ). Holds n m t'' f'' (branches k x (event y s))) e
      (q n m (event y s) g (subst (λ (x : ℕ). Room n m (branches k x (event y s))) (sym e) r))

-- a value's number
module _ (behind k : ℕ) (w : List ℕ) (s : SoFar) where
  pub asking_capped : behind ≡ 141 → capped k w s ≡ asking behind k w s
  unfolding asking
  asking_capped e = rw (eq-eqb behind 141 e)

  pub asking_branches : (a : ℕ) → (behind ≡ 141 → ⊥) → a ≡ number 0 w → branches k a s ≡ asking behind k w s
  unfolding asking
  asking_branches a e n = rw (ne_eqb behind 141 e, n)

-- `(`
module _ (level : ℕ) (w : List ℕ) (s : SoFar) where
  pub opening_pair : 1 < level → pair level (event w s) ≡ opening level w s
  unfolding opening
  opening_pair h = rw (lt-ltb 1 level h)

  pub opening_not : level ≤ 1 → named (word_row 1) w ≡ true → negation s ≡ opening level w s
  unfolding opening
  opening_not h e = rw (le-ltb 1 level h, e)

  pub opening_none : level ≤ 1 → named (word_row 1) w ≡ false → opening level w s ≡ s
  unfolding opening
  opening_none h e = rw (le-ltb 1 level h, e)

-- `,`
module _ (level : ℕ) (w : List ℕ) (s : SoFar) where
  pub comma_joint : eqb level 1 && eqb (byte w 1) 74 ≡ true → joint s ≡ comma level w s
  unfolding comma
  comma_joint e =
      let h = both {a = eqb level 1} {b = eqb (byte w 1) 74} e in
      rw (h.0, h.1)

  pub comma_none : eqb level 1 && eqb (byte w 1) 74 ≡ false → comma level w s ≡ s
  unfolding comma
  comma_none e = go (eqb level 1) (eqb (byte w 1) 74) e
    where
      go : (x y : Bool) → x && y ≡ false → cond x (cond y (joint s) s) s ≡ s
      go true true h = absurd (false≢true (sym h))
      go true false h = refl
      go false y h = refl

-- a blank
module _ (level : ℕ) (w : List ℕ) (s : SoFar) where
  pub blank_cap : level ≡ 1 → blank level w s ≡ s
  unfolding blank
  blank_cap e = rw e

  pub blank_event : (level ≡ 1 → ⊥) → event w s ≡ blank level w s
  unfolding blank
  blank_event e = rw (ne_eqb level 1 e)

-- the form of a kind, by the codes in its brackets, which begin at place n of the table of names
module _ (k n : ℕ) (is : n ≡ name_end (form_row k)) (w : List ℕ) (s : SoFar) where
  there : (j : ℕ) → code_at (n + j) ≡ inside k j
  there = code_behind k is

  first_there : code_at n ≡ inside k 0
  first_there = code_first k is

  pub form_row_lem : code_at (n + 4) ≡ 133 → row k s ≡ form k w s
  unfolding form
  form_row_lem e = rw (eq-eqb (inside k 4) 133 (sym (there 4) ∙ e))

  module _ (o : code_at (n + 4) ≡ 133 → ⊥) where
    no_row : eqb (inside k 4) 133 ≡ false
    no_row = ne_eqb (inside k 4) 133 (λ e. o (there 4 ∙ e))

    pub form_choice : code_at n ≡ 134 → code_at (n + 1) ≡ 44 → choice k w s ≡ form k w s
    unfolding form
    form_choice e f = rw (no_row, eq-eqb (inside k 0) 134 (sym first_there ∙ e), eq-eqb (inside k 1) 44 (sym (there 1) ∙ f))

    pub form_await : code_at n ≡ 134 → (code_at (n + 1) ≡ 44 → ⊥) → await k w s ≡ form k w s
    unfolding form
    form_await e f = rw (no_row, eq-eqb (inside k 0) 134 (sym first_there ∙ e), ne_eqb (inside k 1) 44 (λ z. f (there 1 ∙ z)))

    module _ (q : code_at n ≡ 134 → ⊥) where
      no_test : eqb (inside k 0) 134 ≡ false
      no_test = ne_eqb (inside k 0) 134 (λ z. q (first_there ∙ z))

      pub form_asking : code_at n ≡ 140 → (x : ℕ) → x ≡ code_at (n + 3) → asking x k w s ≡ form k w s
      unfolding form
      form_asking e x f = rw (f, there 3, no_row, no_test, eq-eqb (inside k 0) 140 (sym first_there ∙ e))

      pub form_single : (code_at n ≡ 140 → ⊥) → single k w s ≡ form k w s
      unfolding form
      form_single e = rw (no_row, no_test, ne_eqb (inside k 0) 140 (λ z. e (first_there ∙ z)))

  pub part_is : {b : Bool} → b ≡ (eqb (code_at n) 128 || eqb (code_at (n + 3)) 128) → b ≡ opens_part k
  unfolding opens_part
  part_is e = e ∙ rw (first_there, there 3)

-- `J`
module _ (w : List ℕ) (s : SoFar) where
  pub name_here : (k n : ℕ) (y : List ℕ) → k ≡ form_in (drop 2 w) → k < form_count → n ≡ name_end (form_row k)
      → y ≡ drop (2 + (n - row_at (form_row k))) w → form k y s ≡ name w s
  unfolding name behind_j
  name_here k n y f l e h = rw (h, e, ← f, lt-ltb k form_count l)

  pub name_none : form_in (drop 2 w) ≡ form_count → name w s ≡ s
  unfolding name
  name_none e = rw e

-- a byte
module _ (b level : ℕ) (w : List ℕ) (s : SoFar) where
  pub place_blank : b ≡ 32 → blank level w s ≡ place b level w s
  unfolding place
  place_blank e = rw e

  pub place_opens : b ≡ 40 → opening level w s ≡ place b level w s
  unfolding place
  place_opens e = rw e

  pub place_separates : b ≡ 44 → comma level w s ≡ place b level w s
  unfolding place
  place_separates e = rw e

  pub place_names : b ≡ 74 → name w s ≡ place b level w s
  unfolding place
  place_names e = rw e

  pub place_none : (b ≡ 32 → ⊥) → (b ≡ 40 → ⊥) → (b ≡ 44 → ⊥) → (b ≡ 74 → ⊥) → place b level w s ≡ s
  unfolding place
  place_none e f g h = rw (ne_eqb b 32 e, ne_eqb b 40 f, ne_eqb b 44 g, ne_eqb b 74 h)
