-- Printing a configuration by its parts: where they stand, that they are smaller, that their texts fit, and the whole text.
use Prim.Native.Nat.{ℕ, ◌+◌, ◌≤◌, ◌<◌}
use mathlib.Core.Path.{◌≡◌, refl, sym, ap, ◌∙◌}
use mathlib.Core.List.{List, ◌++◌}
use native.Mathlib.Omega.{arith}
use lib.ListN.{length}
use Rattle.letters.specs.Decimal.{decimal}
use Rattle.letters.specs.Text.{bytes}
use Rattle.junior.specs.Configuration.{Config, Event, Not, And, Or}
use Rattle.table.specs.Records.{part_kind, part_event, part_size, second_part}
use Rattle.table.specs.Spells.{Configured, weight}
use Rattle.table.proofs.ByParts.{written, some_record}
use Rattle.form.specs.Spelling.{spell_test}
use Rattle.letters.specs.Rooms.{Puts}
use Rattle.printer.specs.Printing.{Fits, joint, Testable, ShowsTest}
use Rattle.letters.proofs.Puts.{puts_then}
use Rattle.printer.proofs.FitsInParts.{fits_first, fits_on}

-- what was read is no m, so what stands there is none
pub unlike : {x y m : ℕ} → x ≡ y → (x ≡ m → ⊥) → y ≡ m → ⊥
unlike e other f = other (e ∙ f)

-- its own record lies within the table
pub test_inside : {t : List ℕ} {c at : ℕ} → Testable t c at → c + 4 ≤ length t
test_inside h = omega (arith, h.inside, some_record h.test)

-- a lone event
pub event_spelled : (t : List ℕ) (c : ℕ) → part_kind t c ≡ 0 → (d : Config) → Configured t c d
    → spell_test d ≡ decimal (part_event t c)
unfolding Configured spell_test
event_spelled t c k (Event s) h = ap decimal (sym h.2)
event_spelled t c k (Not d) h = absurd (omega (arith, h.0))
event_spelled t c k (And d e) h = absurd (omega (arith, h.0))
event_spelled t c k (Or d e) h = absurd (omega (arith, h.0))

pub event_fits : {t : List ℕ} {c at n : ℕ} → part_kind t c ≡ 0 → n ≡ part_event t c → Testable t c at → Fits at (decimal n)
event_fits {t} {c} k e h = rw e (rw (event_spelled t c k h.test h.there) at h.fits)

pub puts_event : {t : List ℕ} {c n : ℕ} → part_kind t c ≡ 0 → n ≡ part_event t c → {a b : List ℕ} {at r : ℕ}
    → Puts a b at (decimal n) r → ShowsTest t c a b at r
puts_event {t} {c} k e p = record { puts = λ d h. rw (event_spelled t c k d h, ← e) p }

-- a configuration of one part, and of two
record Negated (t : List ℕ) (c : ℕ) (d : Config) : Type 0 where
  part : Config
  there : Configured t (c + 4) part
  weighs : weight d ≡ 1 + weight part
  text_is : spell_test d ≡ bytes "(not " ++ (spell_test part ++ bytes ")")

record Joined (t : List ℕ) (c : ℕ) (d : Config) : Type 0 where
  first : Config
  second : Config
  there : Configured t (c + 4) first
  behind : Configured t (second_part t c) second
  weighs : weight d ≡ 1 + weight first + weight second
  text_is : spell_test d ≡ bytes "(" ++ (spell_test first ++ (joint (part_kind t c) ++ (spell_test second ++ bytes ")")))

negated : (t : List ℕ) (c : ℕ) → part_kind t c ≡ 1 → (d : Config) → Configured t c d → Negated t c d
unfolding Configured weight spell_test
negated t c k (Event s) h = absurd (omega (arith, h.0))
negated t c k (Not d) h = record { part = d; there = h.2; weighs = refl; text_is = refl }
negated t c k (And d e) h = absurd (omega (arith, h.0))
negated t c k (Or d e) h = absurd (omega (arith, h.0))

joined : (t : List ℕ) (c : ℕ) → (part_kind t c ≡ 0 → ⊥) → (part_kind t c ≡ 1 → ⊥) → (d : Config) → Configured t c d → Joined t c d
unfolding Configured weight spell_test joint
joined t c k l (Event s) h = absurd (k h.0)
joined t c k l (Not d) h = absurd (l h.0)
joined t c k l (And d e) h =
    record { first = d; second = e; there = h.2; behind = h.3; weighs = refl; text_is = rw h.0 }
joined t c k l (Or d e) h =
    record { first = d; second = e; there = h.2; behind = h.3; weighs = refl; text_is = rw h.0 }

module _ {t : List ℕ} {c : ℕ} (k : part_kind t c ≡ 1) where
  module _ {at : ℕ} (h : Testable t c at) where
    n : Negated t c h.test
    n = negated t c k h.test h.there

    all_fits : Fits at (bytes "(not " ++ (spell_test n.part ++ bytes ")"))
    all_fits = rw n.text_is at h.fits

    pub not_fits : Fits at (bytes "(not ")
    not_fits = fits_first (bytes "(not ") (spell_test n.part ++ bytes ")") all_fits

    pub not_less : part_size t (c + 4) < part_size t c
    not_less = omega (arith, written t (c + 4) n.part n.there, written t c h.test h.there, n.weighs)

    module _ {a b : List ℕ} {x : ℕ} (p : Puts a b at (bytes "(not ") x) where
      part_fits : Fits x (spell_test n.part ++ bytes ")")
      part_fits = fits_on (bytes "(not ") (spell_test n.part ++ bytes ")") all_fits p

      pub not_part : Testable t (c + 4) x
      not_part =
          record {
            test = n.part;
            there = n.there;
            inside = omega (arith, h.inside, n.weighs);
            fits = fits_first (spell_test n.part) (bytes ")") part_fits;
          }

      pub not_closes : {e : List ℕ} {y : ℕ} → ShowsTest t (c + 4) b e x y → Fits y (bytes ")")
      not_closes q = fits_on (spell_test n.part) (bytes ")") part_fits (q.puts n.part n.there)

  pub puts_not : {a b e z : List ℕ} {at x y r : ℕ} → Puts a b at (bytes "(not ") x → ShowsTest t (c + 4) b e x y
      → Puts e z y (bytes ")") r → ShowsTest t c a z at r
  puts_not p q s =
      record {
        puts = λ d h.
            let m = negated t c k d h in
            rw m.text_is (puts_then p (puts_then (q.puts m.part m.there) s));
      }

module _ {t : List ℕ} {c : ℕ} (k : part_kind t c ≡ 0 → ⊥) (l : part_kind t c ≡ 1 → ⊥) where
  module _ {at : ℕ} (h : Testable t c at) where
    j : Joined t c h.test
    j = joined t c k l h.test h.there

    abbrev second_text : List ℕ
    second_text = spell_test j.second ++ bytes ")"

    abbrev first_text : List ℕ
    first_text = spell_test j.first ++ (joint (part_kind t c) ++ second_text)

    open_fits : Fits at (bytes "(" ++ first_text)
    open_fits = rw j.text_is at h.fits

    pub joined_fits : Fits at (bytes "(")
    joined_fits = fits_first (bytes "(") first_text open_fits

    pub first_less : part_size t (c + 4) < part_size t c
    first_less = omega (arith, written t (c + 4) j.first j.there, written t c h.test h.there, j.weighs)

    pub second_less : part_size t (second_part t c) < part_size t c
    second_less =
        omega (arith, written t (second_part t c) j.second j.behind, written t c h.test h.there, j.weighs)

    module _ {a b : List ℕ} {x : ℕ} (p : Puts a b at (bytes "(") x) where
      first_fits : Fits x first_text
      first_fits = fits_on (bytes "(") first_text open_fits p

      pub first_part : Testable t (c + 4) x
      first_part =
          record {
            test = j.first;
            there = j.there;
            inside = omega (arith, h.inside, j.weighs);
            fits = fits_first (spell_test j.first) (joint (part_kind t c) ++ second_text) first_fits;
          }

      module _ {e : List ℕ} {y : ℕ} (q : ShowsTest t (c + 4) b e x y) where
        between_fits : Fits y (joint (part_kind t c) ++ second_text)
        between_fits =
            fits_on (spell_test j.first) (joint (part_kind t c) ++ second_text) first_fits (q.puts j.first j.there)

        pub joint_fits : Fits y (joint (part_kind t c))
        joint_fits = fits_first (joint (part_kind t c)) second_text between_fits

        module _ {f : List ℕ} {z : ℕ} (s : Puts e f y (joint (part_kind t c)) z) where
          second_fits : Fits z second_text
          second_fits = fits_on (joint (part_kind t c)) second_text between_fits s

          pub second_part_lem : Testable t (second_part t c) z
          second_part_lem =
              record {
                test = j.second;
                there = j.behind;
                inside = omega (arith, h.inside, j.weighs, written t (c + 4) j.first j.there);
                fits = fits_first (spell_test j.second) (bytes ")") second_fits;
              }

          pub joined_closes : {g : List ℕ} {w : ℕ} → ShowsTest t (second_part t c) f g z w → Fits w (bytes ")")
          joined_closes u = fits_on (spell_test j.second) (bytes ")") second_fits (u.puts j.second j.behind)

  pub puts_joined : {a b e f g i : List ℕ} {at x y z w r : ℕ} → Puts a b at (bytes "(") x → ShowsTest t (c + 4) b e x y
      → Puts e f y (joint (part_kind t c)) z → ShowsTest t (second_part t c) f g z w → Puts g i w (bytes ")") r
      → ShowsTest t c a i at r
  puts_joined p q s u v =
      record {
        puts = λ d h.
            let m = joined t c k l d h in
            rw m.text_is
            (puts_then p (puts_then (q.puts m.first m.there) (puts_then s (puts_then (u.puts m.second m.behind) v))));
      }
