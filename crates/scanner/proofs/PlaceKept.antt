-- What each turn keeps of the place where the reader is: what that means; at a byte that is read as it is, here or in another row of the
-- table of names.
use Rattle.std.specs.Prelude.{Option, None, Some}
use Prim.Native.Nat.{ℕ, suc, ◌+◌, ◌-◌, ◌%◌, ◌<◌, ◌≤◌}
use mathlib.Core.Bool.{Bool, true, false, cond, ◌&&◌, false≢true}
use mathlib.Core.Path.{◌≡◌, refl, sym, subst, ◌∙◌}
use mathlib.Core.List.{List, [], ◌∷◌}
use native.Mathlib.Omega.{arith}
use lib.Dec.{eqb, ltb, leb}
use lib.ListN.{get_or}
use borrow.Author.Tests.{eqb-true, eqb-false, eq-eqb, ne_eqb, lt-ltb, le-ltb, lt-leb, leb-false}
use Rattle.form.specs.Inside.Rows.{code_at, row_at, form_row, form_count, codes, same, in_name, first_name, place_from}
use Rattle.form.proofs.ComputedTests.{both}
use Rattle.form.proofs.NamesRead.{codes_more, name_code, name_letter, name_from, edge, agree_at, Found, found, read_other}
use Rattle.scanner.specs.declared.rules.Turn.{Turn}
use Rattle.scanner.specs.declared.rules.Turn.TheVariants.{On, Opens, Into, Out}
use Rattle.scanner.specs.declared.levels.Level.{Level}
use Rattle.scanner.specs.Rules.{place_behind_j, behind_bracket}
use Rattle.scanner.specs.Levels.{rest_of}
use Rattle.scanner.specs.Turns.{other_turn, literal_turn}
use Rattle.scanner.specs.Places.{is_bracket, heads, fits, is_plain, Follows, Numbered}
use Rattle.scanner.proofs.NamesChecked.{close_out, name_heads}
use Rattle.scanner.proofs.SymbolSteps.{other_dead}

-- from place p to place q, on the same level
pub record Goes (p b q : ℕ) (n : Option ℕ) : Type 0 where
  pub not_open : b ≡ 40 → ⊥
  pub not_close : b ≡ 41 → ⊥
  pub in_head : heads (codes p) ≡ true → (b ≡ 32 → ⊥) × (heads (codes q) ≡ true)
  pub in_body : (k : Level) (c : ℕ) → fits k c (codes p) ≡ true → fits k (cond (eqb b 32) (suc c) c) (codes q) ≡ true
  pub following : (t : List ℕ) (i : ℕ) → get_or t i 0 ≡ b → Follows t i p → Follows t (suc i) q
  pub numbering : Numbered q n

-- a configuration may come
pub record Tests (p : ℕ) : Type 0 where
  pub no_head : heads (codes p) ≡ true → ⊥
  pub in_body : (k : Level) (c : ℕ) → fits k c (codes p) ≡ true
      → (is_bracket k ≡ true) × (same (codes (rest_of k c)) (codes (suc p)) ≡ true)
  pub following : (t : List ℕ) (i : ℕ) → Follows t i p → get_or t (i - 1) 0 < 97
  pub is_symbol : 128 ≤ code_at p

-- a bracket may close
pub record Closes (p : ℕ) : Type 0 where
  pub no_head : heads (codes p) ≡ true → ⊥
  pub in_body : (k : Level) (c : ℕ) → fits k c (codes p) ≡ true → is_bracket k ≡ true

pub data Sits (p b : ℕ) : Option Turn → Type 0 where
  sits_dead : Sits p b None
  sits_on : {q : ℕ} {n : Option ℕ} → Goes p b q n → Sits p b (Some (On q n))
  sits_opens :
      {q : ℕ} → b ≡ 40 → code_at q ≡ 40 → heads (codes p) ≡ true → ((t : List ℕ) (i : ℕ) → Follows t i p → Follows t i q)
      → Sits p b (Some (Opens (suc q)))
  sits_program : b ≡ 74 → code_at p ≡ 128 → Sits p b (Some (Into place_behind_j))
  sits_test : b ≡ 40 → Tests p → Sits p b (Some (Into behind_bracket))
  sits_out : b ≡ 41 → Closes p → Sits p b (Some Out)

pub one_back : (i : ℕ) → suc i - 1 ≡ i
one_back i = omega arith

pub two_back : (i : ℕ) → suc i - 2 ≡ i - 1
two_back i = omega arith

-- behind a byte that was read as it is
pub follows_byte : (p b : ℕ) → b ≡ code_at p → (code_at p ≡ 0 → ⊥) → (t : List ℕ) (i : ℕ) → get_or t i 0 ≡ b → Follows t i p
    → Follows t (suc i) (suc p)
follows_byte p b e z t i g f =
    record {
      one = λ h. rw (one_back i, one_back p) (g ∙ e);
      two = λ h.
          rw (two_back i, two_back p)
          (f.one (both {a = is_plain (code_at (suc p - 1))} {b = is_plain (code_at (p - 1))} (rw (two_back p) at h)).1);
      first = λ h. absurd (z (rw (one_back p) at h));
    }

not_plain : (x : ℕ) → 128 ≤ x → is_plain x ≡ true → ⊥
not_plain x h e = false≢true (sym (le-ltb x 128 h) ∙ (both {a = leb 1 x} {b = ltb x 128} e).1)

-- behind a symbol
pub follows_symbol : (q : ℕ) → 128 ≤ code_at (q - 1) → (t : List ℕ) (i : ℕ) → Follows t i q
follows_symbol q h t i =
    record {
      one = λ e. absurd (not_plain (code_at (q - 1)) h e);
      two = λ e. absurd (not_plain (code_at (q - 1)) h (both {a = is_plain (code_at (q - 1))} e).0);
      first = λ e. absurd (omega arith);
    }

-- behind the first byte of a rule
pub follows_first : (q b : ℕ) → b ≡ code_at q → (code_at q ≡ 0 → ⊥) → code_at (q - 1) ≡ 0 → (t : List ℕ) (i : ℕ) → get_or t i 0 ≡ b
    → Follows t (suc i) (suc q)
follows_first q b e z o t i g =
    record {
      one = λ h. rw (one_back i, one_back q) (g ∙ e);
      two = λ h.
          absurd (false≢true (rw o at (both {a = is_plain (code_at (suc q - 1))} {b = is_plain (code_at (q - 1))} (rw (two_back q) at h)).1));
      first = λ h. absurd (z (rw (one_back q) at h));
    }

heads_byte : (x : ℕ) (l : List ℕ) → x < 128 → (x ≡ 40 → ⊥) → (x ≡ 41 → ⊥) → heads (x ∷ l) ≡ true
    → (x ≡ 32 → ⊥) × (heads l ≡ true)
unfolding heads
heads_byte x l h e f g =
    go (eqb x 32) refl (simp (ne_eqb x 40 e, lt-leb 128 x h, ne_eqb x 41 f) at g)
  where
    go : (s : Bool) → eqb x 32 ≡ s → cond s false (heads l) ≡ true → (x ≡ 32 → ⊥) × (heads l ≡ true)
    go true q k = absurd (false≢true k)
    go false q k = (eqb-false x 32 q, k)

fits_byte : (x : ℕ) (l : List ℕ) (k : Level) (c : ℕ) → x < 128 → (x ≡ 40 → ⊥) → (x ≡ 41 → ⊥) → fits k c (x ∷ l) ≡ true
    → fits k (cond (eqb x 32) (suc c) c) l ≡ true
unfolding fits
fits_byte x l k c h e f g =
    go (eqb x 32) (simp (lt-ltb x 128 h, ne_eqb x 40 e, ne_eqb x 41 f) at g)
  where
    go : (s : Bool) → cond s (fits k (suc c) l) (fits k c l) ≡ true → fits k (cond s (suc c) c) l ≡ true
    go true q = q
    go false q = q

goes_byte : (p b : ℕ) → b ≡ code_at p → (code_at p ≡ 0 → ⊥) → code_at p < 128 → (b ≡ 40 → ⊥) → (b ≡ 41 → ⊥) → Goes p b (suc p) None
goes_byte p b e z h f g =
    record {
      not_open = f;
      not_close = g;
      in_head = λ k. rw e (heads_byte (code_at p) (codes (suc p)) h (λ o. f (e ∙ o)) (λ o. g (e ∙ o)) (rw (codes_more p z) at k));
      in_body = λ k c o. rw e (fits_byte (code_at p) (codes (suc p)) k c h (λ y. f (e ∙ y)) (λ y. g (e ∙ y)) (rw (codes_more p z) at o));
      following = follows_byte p b e z;
      numbering = tt;
    }

closes_byte : (p : ℕ) → code_at p ≡ 41 → Closes p
unfolding heads fits
closes_byte p e =
    let m = codes_more p (λ z. omega arith) in
    record { no_head = λ k. false≢true (rw (m, e) at k); in_body = λ k c o. rw (m, e) at o }

-- the byte that stands there
sits_own : (p b : ℕ) → b ≡ code_at p → (code_at p ≡ 0 → ⊥) → code_at p < 128 → Sits p b (literal_turn p b)
unfolding literal_turn heads
sits_own p b e z h = rw (ne_eqb (code_at p) 0 z, eq-eqb b (code_at p) e) (go (eqb b 40) refl (eqb b 41) refl)
  where
    go : (t : Bool) → eqb b 40 ≡ t → (u : Bool) → eqb b 41 ≡ u → Sits p b (cond t (Some (Opens (suc p))) (cond u (Some Out) (Some (On (suc p) None))))
    go true f u g =
        let y = sym e ∙ eqb-true b 40 f in
        sits_opens (eqb-true b 40 f) y (rw (codes_more p z, y) refl) (λ t i o. o)
    go false f true g = sits_out (eqb-true b 41 g) (closes_byte p (sym e ∙ eqb-true b 41 g))
    go false f false g = sits_on (goes_byte p b e z h (eqb-false b 40 f) (eqb-false b 41 g))

own_turn : (q b : ℕ) → b ≡ code_at q → (code_at q ≡ 0 → ⊥) → (b ≡ 41 → ⊥) → literal_turn q b ≡ cond (eqb b 40) (Some (Opens (suc q))) (Some (On (suc q) None))
unfolding literal_turn
own_turn q b e z n = rw (ne_eqb (code_at q) 0 z, eq-eqb b (code_at q) e, ne_eqb b 41 n)

other_turn_is : (p b : ℕ) → (code_at p ≡ 0 → ⊥) → (b ≡ code_at p → ⊥) → literal_turn p b ≡ other_turn p b
unfolding literal_turn
other_turn_is p b z n = rw (ne_eqb (code_at p) 0 z, ne_eqb b (code_at p) n)

-- before a name's bracket nothing of a bracket fits
pub heads_fits : (l : List ℕ) (k : Level) (c : ℕ) → heads l ≡ true → fits k c l ≡ true → ⊥
unfolding heads fits
heads_fits [] k c h f = false≢true h
heads_fits (x ∷ l) k c h f =
    go (eqb x 40) refl (leb 128 x) refl (eqb x 32) refl (eqb x 41) refl h (λ g. heads_fits l k c g)
  where
    go : (r : Bool) → eqb x 40 ≡ r → (s : Bool) → leb 128 x ≡ s → (t : Bool) → eqb x 32 ≡ t → (u : Bool) → eqb x 41 ≡ u
        → cond r true (cond s (eqb x 129) (cond t false (cond u false (heads l)))) ≡ true
        → (heads l ≡ true → fits k c l ≡ true → ⊥) → ⊥
    go true e s a t b u d g n = let z = eqb-true x 40 e in false≢true (rw z at f)
    go false e true a t b u d g n = let z = eqb-true x 129 g in false≢true (rw z at f)
    go false e false a true b u d g n = false≢true g
    go false e false a false b true d g n = false≢true g
    go false e false a false b false d g n =
        let y = leb-false 128 x a in
        n g (simp (lt-ltb x 128 (omega arith), ne_eqb x 40 (eqb-false x 40 e), ne_eqb x 41 (eqb-false x 41 d), ne_eqb x 32 (eqb-false x 32 b)) at f)

-- a place that the reader may be at as well: in a name, with the same text before it
pub record As (p h : ℕ) : Type 0 where
  pub heads_here : heads (codes p) ≡ true
  pub heads_there : heads (codes h) ≡ true
  pub letter_there : code_at h < 128
  pub following : (t : List ℕ) (i : ℕ) → Follows t i p → Follows t i h

pub sits_as : {p h b : ℕ} {r : Option Turn} → As p h → Sits h b r → Sits p b r
sits_as {p} {h} {b} a sits_dead = sits_dead
sits_as {p} {h} {b} a (sits_on g) =
    sits_on (record {
      not_open = g.not_open;
      not_close = g.not_close;
      in_head = λ k. g.in_head a.heads_there;
      in_body = λ k c o. absurd (heads_fits (codes p) k c a.heads_here o);
      following = λ t i e f. g.following t i e (a.following t i f);
      numbering = g.numbering;
    })
sits_as {p} {h} {b} a (sits_opens e f k m) = sits_opens e f a.heads_here (λ t i o. m t i (a.following t i o))
sits_as {p} {h} {b} a (sits_program e f) = absurd (omega arith)
sits_as {p} {h} {b} a (sits_test e u) = absurd (u.no_head a.heads_there)
sits_as {p} {h} {b} a (sits_out e u) = absurd (u.no_head a.heads_there)

-- the same letters before two places
module _ (p b q : ℕ) (l : first_name ≤ p) (o : Found (form_row 0) form_count p b q) where
  abbrev k : ℕ
  k = p % 20

  one_alike : code_at (q - 1) ≡ code_at (p - 1)
  one_alike = go (eqb k 0) refl
    where
      go : (s : Bool) → eqb k 0 ≡ s → code_at (q - 1) ≡ code_at (p - 1)
      go true e =
          let z = eqb-true k 0 e in
          let f = o.from in
          let g = o.place_is in
          edge (q - 1) (omega arith) ∙ sym (edge (p - 1) (omega arith))
      go false e =
          let z = eqb-false k 0 e in
          let x : p - k + (k - 1) ≡ p - 1 = omega arith in
          let y : row_at o.row + (k - 1) ≡ q - 1 = omega arith in
          sym (rw (x, y) at (agree_at k (p - k) (row_at o.row) (k - 1) o.alike (omega arith)))

  two_alike : (k ≡ 0 → ⊥) → code_at (q - 2) ≡ code_at (p - 2)
  two_alike n = go (eqb k 1) refl
    where
      go : (s : Bool) → eqb k 1 ≡ s → code_at (q - 2) ≡ code_at (p - 2)
      go true e =
          let z = eqb-true k 1 e in
          let f = o.from in
          let g = o.place_is in
          edge (q - 2) (omega arith) ∙ sym (edge (p - 2) (omega arith))
      go false e =
          let z = eqb-false k 1 e in
          let x : p - k + (k - 2) ≡ p - 2 = omega arith in
          let y : row_at o.row + (k - 2) ≡ q - 2 = omega arith in
          sym (rw (x, y) at (agree_at k (p - k) (row_at o.row) (k - 2) o.alike (omega arith)))

  first_none : k ≡ 0 → code_at (p - 1) ≡ 0
  first_none e = edge (p - 1) (omega arith)

  follows_alike : (t : List ℕ) (i : ℕ) → Follows t i p → Follows t i q
  follows_alike t i f =
      record {
        one = λ h. rw one_alike (f.one (rw one_alike at h));
        two = λ h. go (eqb k 0) refl h;
        first = λ h. f.first (sym one_alike ∙ h);
      }
    where
      go : (s : Bool) → eqb k 0 ≡ s → is_plain (code_at (q - 1)) && is_plain (code_at (q - 2)) ≡ true → get_or t (i - 2) 0 ≡ code_at (q - 2)
      go true e h =
          let z = first_none (eqb-true k 0 e) in
          absurd (false≢true (rw (one_alike, z) at h))
      go false e h =
          let y = two_alike (eqb-false k 0 e) in
          rw y (f.two (rw (one_alike, y) at h))

-- in another row that begins with the same letters
sits_other : (p b : ℕ) → in_name p ≡ true → (b ≡ code_at p → ⊥) → Sits p b (other_turn p b)
unfolding other_turn
sits_other p b h n = rw (le-ltb p first_name l) (go (eqb q 0) refl)
  where
    l : first_name ≤ p
    l = name_from p h

    q : ℕ
    q = place_from form_count (form_row 0) p b

    go : (s : Bool) → eqb q 0 ≡ s → Sits p b (cond s None (cond (eqb b 40) (Some (Opens (suc q))) (Some (On (suc q) None))))
    go true e = sits_dead
    go false e =
        let o = found form_count (form_row 0) p b (eqb-false q 0 e) in
        let r = read_other p b q h o in
        let c = r.code_is in
        let m = name_letter q r.within_name in
        let a : As p q = record {
          heads_here = name_heads p h;
          heads_there = name_heads q r.within_name;
          letter_there = m;
          following = follows_alike p b q l o;
        } in
        sits_as a (subst (λ (x : Option Turn). Sits q b x) (own_turn q b (sym c) (name_code q r.within_name) (λ z. close_out q (c ∙ z) r.within_name))
        (sits_own q b (sym c) (name_code q r.within_name) m))

pub sits_literal : (p b : ℕ) → (code_at p ≡ 0 → ⊥) → code_at p < 128 → Sits p b (literal_turn p b)
sits_literal p b z h = go (eqb b (code_at p)) refl (in_name p) refl
  where
    go : (s : Bool) → eqb b (code_at p) ≡ s → (t : Bool) → in_name p ≡ t → Sits p b (literal_turn p b)
    go true e t f = sits_own p b (eqb-true b (code_at p) e) z h
    go false e true f =
        let n = eqb-false b (code_at p) e in
        subst (λ (x : Option Turn). Sits p b x) (sym (other_turn_is p b z n)) (sits_other p b f n)
    go false e false f =
        let n = eqb-false b (code_at p) e in
        subst (λ (x : Option Turn). Sits p b x) (sym (other_turn_is p b z n ∙ other_dead p b f z n)) sits_dead
