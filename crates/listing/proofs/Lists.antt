-- Lists of numbers, with a comma behind each and with commas between.
use mathlib.Core.Path.{◌≡◌, refl, sym, ap, ◌∙◌}
use mathlib.Core.List.{List, [], ◌∷◌, ◌++◌, map, map-append, append_assoc}
use Prim.Native.Nat.{ℕ, ◌+◌, ◌-◌, ◌<◌}
use native.Mathlib.Omega.{arith}
use native.Mathlib.Numerals.{add-one}
use lib.ListN.{length, get_or, set, take, length-append, length-set}
use lib.Seq.{sets, set-set, take-suc}
use Rattle.letters.specs.Decimal.{decimal}
use Rattle.letters.specs.Text.{comma, led, joined}
use Rattle.letters.proofs.Rooms.{sets_append}
use Rattle.listing.specs.Output.{listed}
use Rattle.letters.specs.Writing.{Writes}
use Rattle.letters.specs.declared.Writer.{Writer}
use Rattle.listing.specs.Inside.{items}
use Rattle.letters.proofs.Writes.{writes_then}

pub items_append : (l m : List ℕ) → items (l ++ m) ≡ items l ++ items m
unfolding items
items_append [] m = refl
items_append (n ∷ l) m = rw (items_append l m) (sym (append_assoc (decimal n) (comma ∷ items l) (items m)))

-- one more number of a list
pub writes_item : {a b c : Writer} (l : List ℕ) (i : ℕ) → i < length l → Writes a b (items (take i l))
    → Writes b c (decimal (get_or l i 0) ++ (comma ∷ [])) → Writes a c (items (take (i + 1) l))
unfolding items
writes_item l i h p q = rw (add-one i, take-suc l i 0 h, items_append (take i l) (get_or l i 0 ∷ [])) (writes_then p q)

-- one more event of a word
pub writes_event : {a b c : Writer} (base : ℕ) (l : List ℕ) (n : ℕ) → Writes a b (items (map (λ k. base + k) l))
    → Writes b c (decimal (base + n) ++ (comma ∷ [])) → Writes a c (items (map (λ k. base + k) (l ++ (n ∷ []))))
unfolding items
writes_event base l n p q =
    rw (map-append (λ k. base + k) l (n ∷ []), items_append (map (λ k. base + k) l) ((base + n) ∷ [])) (writes_then p q)

items_led : (l : List ℕ) → comma ∷ items l ≡ led comma (map decimal l) ++ (comma ∷ [])
unfolding items led
items_led [] = refl
items_led (n ∷ l) =
    ap (λ (w : List ℕ). comma ∷ w)
    (ap (λ (w : List ℕ). decimal n ++ w) (items_led l) ∙ sym (append_assoc (decimal n) (led comma (map decimal l)) (comma ∷ [])))

-- the comma behind the last is all that is too much
pub items_listed : (n : ℕ) (l : List ℕ) → items (n ∷ l) ≡ listed (n ∷ l) ++ (comma ∷ [])
unfolding items listed joined
items_listed n l =
    ap (λ (w : List ℕ). decimal n ++ w) (items_led l) ∙ sym (append_assoc (decimal n) (led comma (map decimal l)) (comma ∷ []))

module _ {start old : Writer} (last : ℕ) where
  -- no number: a dash, and the byte behind the list
  pub dash_ends : {mid new : Writer} (l : List ℕ) → Writes start old (items l) → start.at ≡ old.at → Writes old mid (45 ∷ []) → Writes mid new (last ∷ [])
      → Writes start new (listed l ++ (last ∷ []))
  unfolding items listed
  dash_ends [] p e q r = writes_then p (writes_then q r)
  dash_ends (n ∷ l) p e q r = absurd (omega (arith, p.puts.next, length-append (decimal n) (comma ∷ items l)))

  -- some: that byte in place of the last comma
  pub comma_ends : (l : List ℕ) → Writes start old (items l) → (start.at ≡ old.at → ⊥)
      → Writes start (record { room = record { ref_ptr = old.room.ref_ptr; ghost_name = old.room.ghost_name; now = set old.room.now (old.at - 1) last }; at = old.at })
      (listed l ++ (last ∷ []))
  unfolding items
  comma_ends [] p e = absurd (e (omega (arith, p.puts.next)))
  comma_ends (n ∷ l) p e =
      let w = listed (n ∷ l) in
      let long : length (items (n ∷ l)) ≡ length w + 1 = ap length (items_listed n l) ∙ length-append w (comma ∷ []) in
      let place : old.at - 1 ≡ start.at + length w = omega (arith, p.puts.next) in
      let puts = p.puts in
      record {
        same_room = p.same_room;
        long = simp length-set p.long;
        puts = record {
          next = simp length-append (omega (arith, puts.next));
          room =
              rw (place, puts.room, items_listed n l, sets_append start.room.now start.at w (comma ∷ []), sets_append start.room.now start.at w (last ∷ []))
              (set-set (sets start.room.now start.at w) (start.at + length w) comma last);
        };
      }
