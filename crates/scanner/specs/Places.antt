-- Where the reader is in a text and in the rules, and what its ring of frames holds.
use Rattle.std.specs.Prelude.{ℕ, zero, suc, ◌-◌, ◌%◌, ◌<◌, ◌≤◌, Bool, true, false, cond, ◌&&◌, ◌||◌, ◌≡◌, List, [], ◌∷◌, eqb, ltb, leb, get_or, Option, None, Some}
use Rattle.scanner.specs.declared.levels.Frame.{Frame}
use Rattle.scanner.specs.declared.levels.Level.{Level}
use Rattle.scanner.specs.declared.levels.Level.TheVariants.{Top, Several, Branches, Test, One}
use Rattle.scanner.specs.declared.scan.Place.{Place}
use Rattle.form.specs.Inside.Rows.{code_at, codes, same}
use Rattle.form.specs.Inside.Machine.{Stack}
use Rattle.scanner.specs.Levels.{found, around, level_at, rest_of, outer_at, rest_at, Under}

abbrev pub is_top : Level → Bool
is_top Top = true
is_top Several = false
is_top Branches = false
is_top Test = false
is_top One = false

abbrev pub is_bracket : Level → Bool
is_bracket Top = false
is_bracket Several = true
is_bracket Branches = true
is_bracket Test = true
is_bracket One = true

abbrev pub is_several : Level → Bool
is_several Top = false
is_several Several = true
is_several Branches = false
is_several Test = false
is_several One = false

abbrev pub is_test : Level → Bool
is_test Top = false
is_test Several = false
is_test Branches = false
is_test Test = true
is_test One = false

-- before the bracket of a form
unfoldable pub heads : List ℕ → Bool
heads [] = false
heads (x ∷ l) =
    cond (eqb x 40) true
    (cond (leb 128 x) (eqb x 129) (cond (eqb x 32) false (cond (eqb x 41) false (heads l))))

-- within a bracket of this level, c spaces behind it: each bracket to come in it leaves the rest that `rest_of` tells
unfoldable pub fits : Level → ℕ → List ℕ → Bool
unfolding codes rest_of same
fits k c [] = is_top k
fits k c (x ∷ l) =
    cond (ltb x 128)
    (cond (eqb x 32) (fits k (suc c) l) (cond (eqb x 40) false (cond (eqb x 41) (is_bracket k) (fits k c l))))
    (cond (eqb x 128) (same (codes (rest_of k c)) l && fits k c l)
    (cond (eqb x 134) (is_bracket k && (same (codes (rest_of k c)) l && fits k c l))
    (cond (eqb x 136) ((is_test k && eqb c 0) && (same (codes (rest_of k c)) l && fits k c l))
    (cond (eqb x 133) (is_several k) (cond (eqb x 129) false (cond (ltb x 138) (is_test k) (fits k c l)))))))

-- a byte to be read as it is
abbrev pub is_plain : ℕ → Bool
is_plain x = leb 1 x && ltb x 128

-- the text before place i is what stands in the rules before place p, as far as that tells
pub record Follows (t : List ℕ) (i p : ℕ) : Type 0 where
  pub one : is_plain (code_at (p - 1)) ≡ true → get_or t (i - 1) 0 ≡ code_at (p - 1)
  pub two : is_plain (code_at (p - 1)) && is_plain (code_at (p - 2)) ≡ true → get_or t (i - 2) 0 ≡ code_at (p - 2)
  pub first : code_at (p - 1) ≡ 0 → get_or t (i - 1) 0 < 97

-- a name or a bracket of the text that the reader is in
pub data IsIn (t : List ℕ) (i p o : ℕ) : Type 0 where
  within_name : heads (codes p) ≡ true → 0 < o → around t i ≡ around t o → IsIn t i p o
  in_bracket : (c : ℕ) → around t i ≡ found o c → fits (level_at t o) c (codes p) ≡ true → IsIn t i p o

abbrev pub is_end : ℕ → Bool
is_end x = eqb x 41 || (eqb x 44 || eqb x 32)

-- in no number, or in one of this value so far whose end byte is at p
abbrev pub Numbered : ℕ → Option ℕ → Type 0
Numbered p None = Unit {0}
Numbered p (Some v) = (is_end (code_at p) ≡ true) × (128 ≤ code_at (p - 1)) × (v ≤ 65535)

-- two places with the same rest of a rule, the first behind a symbol
abbrev pub Resumes : ℕ → ℕ → Type 0
Resumes p q = (codes p ≡ codes q) × (128 ≤ code_at (p - 1))

-- the frame of a level that is left at place p, its bracket being o
abbrev pub frame : ℕ → ℕ → Frame
frame o p = record { bracket = o; rest = p }

abbrev pub no_frame : Frame
no_frame = frame 0 0

-- the ring's last l frames are those of the levels round o, d being the next one's number
abbrev pub RingHolds : List ℕ → ℕ → ℕ → ℕ → List Frame → Type 0
RingHolds t o d zero ring = Unit {0}
RingHolds t o zero (suc l) ring = ⊥
RingHolds t o (suc d) (suc l) ring =
    ((get_or ring (d % 4096) no_frame).bracket ≡ outer_at t o)
    × Resumes (get_or ring (d % 4096) no_frame).rest (rest_at t o)
    × RingHolds t (outer_at t o) d l ring

-- how many frames the ring holds with one more
abbrev pub room_of : ℕ → ℕ
room_of l = cond (ltb l 4096) (suc l) l

-- on the same level, at place q with the number n and the bracket o
abbrev pub moved : Place → ℕ → Option ℕ → ℕ → Place
moved at q n o = record { pc = q; number = n; bracket = o; depth = at.depth; live = at.live }

-- into a rule at place q, its bracket being o
abbrev pub entered : Place → ℕ → ℕ → Place
entered at q o = record { pc = q; number = None; bracket = o; depth = suc at.depth; live = room_of at.live }

-- out of a bracket, with l frames in the ring: to the level round it, as the text tells it or the ring
unfoldable pub leaving : List ℕ → Place → ℕ → List Frame → Place
unfolding outer_at rest_at
leaving t at zero ring =
    record { pc = rest_at t at.bracket; number = None; bracket = outer_at t at.bracket; depth = at.depth; live = 0 }
leaving t at (suc l) ring =
    record {
      pc = (get_or ring ((at.depth - 1) % 4096) no_frame).rest;
      number = None;
      bracket = (get_or ring ((at.depth - 1) % 4096) no_frame).bracket;
      depth = at.depth - 1;
      live = l;
    }

-- a ring that holds frames has been written to
abbrev pub Ringed : Place → Type 0
Ringed at = 0 < at.live → 0 < at.depth

-- the reader stands before byte i, and σ is to come of the levels round its own
pub record Lies (t : List ℕ) (i : ℕ) (at : Place) (ring : List Frame) (σ : Stack) : Type 0 where
  pub before : at.bracket ≤ i
  pub deep : at.depth ≤ i
  pub few : at.live ≤ 4096
  pub numbered : Numbered at.pc at.number
  pub under : Under t at.bracket σ
  pub placed : IsIn t i at.pc at.bracket
  pub follows : Follows t i at.pc
  pub kept : RingHolds t at.bracket at.depth at.live ring
