-- A child has run: the rooms that it wrote into, and what the node has done by it.
use Prim.Native.Nat.{ℕ, ◌+◌, ◌-◌, ◌*◌, ◌/◌, ◌%◌, ◌^◌, ◌≤◌, ◌<◌}
use mathlib.Core.Path.{◌≡◌, refl, ap, sym, subst, ◌∙◌, fun_ext}
use mathlib.Core.Logic.{◌≢◌}
use mathlib.Core.List.{List, [], ◌++◌, append_assoc}
use native.Mathlib.Omega.{arith}
use lib.ListN.{length, take, drop, set, length-append, length-drop, length-replicate, take-append-drop}
use lib.Seq.{get_or-set_other, take_at, drop-append-add, drop-drop, length-take-le}
use borrow.Rule.Slice.PartMut.{put_mid}
use Rattle.events.specs.Members.{marks}
use Rattle.junior.specs.declared.Flag.{Flag}
use Rattle.junior.specs.declared.Flag.TheVariants.{SUSP, STOP, TERM}
use Rattle.junior.specs.Program.{Program, size}
use Rattle.junior.specs.Term.{Term, prog, leave}
use Rattle.junior.specs.Trace.{Place, Piece, Act, atom_of, piece_of, collect, atoms, parks}
use Rattle.junior.specs.Configuration.{Env}
use Rattle.junior.specs.Rules.{left_first, Result, Rewrites, answers}
use Rattle.junior.specs.Figures.{LoopsStop, per, parking}
use Rattle.junior.specs.Inside.{Going, pot, rest}
use Rattle.junior.proofs.Little.{collect-++}
use Rattle.junior.proofs.Kept.{kept}
use Rattle.junior.proofs.Figures.{cost, spends, cost-A}
use Rattle.junior.proofs.Parks.{cost-F}
use Rattle.state.specs.StateBytes.{Own, before, in_phase, zeros}
use Rattle.state.specs.Pieces.{pieces_bytes}
use Rattle.state.proofs.Parts.{blank, blank_below, blank_both, len_bytes}
use Rattle.state.proofs.Pieces.{pieces_long, pieces-++}
use Rattle.state.proofs.Frames.{Frame, size_in}
use Rattle.steps.specs.Running.{Rooms, Bytes, Ready, Wrote, Leaves, SameLengths, Ran, left, values_in, env_of, atoms_done, bytes_parked, phase_after}
use Rattle.steps.proofs.Children.{Cut, byte_is, own_in, put_back}

-- nothing went into a row
wrote_none : (row : List ℕ) (at : ℕ) → Wrote [] row at row at
wrote_none row at =
    let e : at + 0 ≡ at = omega arith in record { done_is = sym e; row_is = rw e (sym (take-append-drop at row)) }

module _ {xs row : List ℕ} {at : ℕ} {row' : List ℕ} {at' : ℕ} (w : Wrote xs row at row' at') where
  wrote_long : at + length xs ≤ length row → length row' ≡ length row
  wrote_long l =
      ap length w.row_is
      ∙ simp (length-append, length-take-le at row (omega arith), length-drop) (omega arith)

  -- these, and then others
  wrote_then : {ys row'' : List ℕ} {at'' : ℕ} → at ≤ length row
      → Wrote ys row' at' row'' at''
      → Wrote (xs ++ ys) row at row'' at''
  wrote_then {ys} l v =
      let front = take at row ++ xs in
      let back = drop (at + length xs) row in
      let d : length front ≡ at' = simp (length-append, length-take-le at row l) (sym w.done_is) in
      let r : row' ≡ front ++ back = w.row_is ∙ sym (append_assoc (take at row) xs back) in
      let n : at + length xs + length ys ≡ at + length (xs ++ ys) = simp length-append (omega arith) in
      let z : drop (at' + length ys) (front ++ back) ≡ drop (at + length (xs ++ ys)) row =
      rw (← d, drop-append-add front back, drop-drop, n) in
      record {
        done_is = v.done_is ∙ (ap (λ m. m + length ys) w.done_is ∙ n);
        row_is = v.row_is ∙ rw (r, take_at front back at' d, z) (simp append_assoc);
      }

wrote_as : {xs ys row : List ℕ} {at : ℕ} {row' : List ℕ} {at' : ℕ} → ys ≡ xs
    → Wrote xs row at row' at'
    → Wrote ys row at row' at'
wrote_as {row = row} {at} {row'} {at'} e w = subst (λ (l : List ℕ). Wrote l row at row' at') (sym e) w

-- what acts leave in the rooms: the atoms done and the pieces parked are what counts
abbrev pub did : List Act → List ℕ × List Piece
did l = (atoms l, parks l)

pub leaves_as : {l m : List Act} {rooms : Rooms} {tally : List ℕ} {rooms' : Rooms} {tally' : List ℕ} → did m ≡ did l
    → Leaves l rooms tally rooms' tally'
    → Leaves m rooms tally rooms' tally'
leaves_as e w =
    record {
      atoms_in = wrote_as (ap (λ (d : List ℕ × List Piece). d.0) e) w.atoms_in;
      pieces_in = wrote_as (ap (λ (d : List ℕ × List Piece). pieces_bytes d.1) e) w.pieces_in;
    }

-- nothing is left, if the counts are as they were
pub row_stays : (rooms : Rooms) (tally tally' : List ℕ) → atoms_done tally' ≡ atoms_done tally
    → Wrote [] rooms.row (atoms_done tally) rooms.row (atoms_done tally')
row_stays rooms tally tally' e = rw e (wrote_none rooms.row (atoms_done tally))

pub store_stays : (rooms : Rooms) (tally tally' : List ℕ) → bytes_parked tally' ≡ bytes_parked tally
    → Wrote [] rooms.store (bytes_parked tally) rooms.store (bytes_parked tally')
store_stays rooms tally tally' e = rw e (wrote_none rooms.store (bytes_parked tally))

pub leaves_none : (rooms : Rooms) (tally tally' : List ℕ) → atoms_done tally' ≡ atoms_done tally → bytes_parked tally' ≡ bytes_parked tally
    → Leaves [] rooms tally rooms tally'
unfolding collect pieces_bytes
leaves_none rooms tally tally' a b =
    record { atoms_in = row_stays rooms tally tally' a; pieces_in = store_stays rooms tally tally' b }

-- first some acts, then others
pub leaves_then : {skip : ℕ} {table : List ℕ} {i : ℕ} {state words : List ℕ} {rooms : Rooms} {tally : List ℕ} {t : Term}
    → Ready skip table i state words rooms tally t
    → {l m : List Act} {rooms₁ : Rooms} {tally₁ : List ℕ} {rooms' : Rooms} {tally' : List ℕ}
    → Leaves l rooms tally rooms₁ tally₁
    → Leaves m rooms₁ tally₁ rooms' tally'
    → Leaves (l ++ m) rooms tally rooms' tally'
leaves_then h {l} {m} v w =
    record {
      atoms_in = wrote_as (collect-++ atom_of l m) (wrote_then v.atoms_in (omega (arith, h.room)) w.atoms_in);
      pieces_in =
          wrote_as (ap pieces_bytes (collect-++ piece_of l m) ∙ pieces-++ (parks l) (parks m))
          (wrote_then v.pieces_in (omega (arith, h.parking_room)) w.pieces_in);
    }

pub ran_flag : {P : Place} {t : Term} {words : List ℕ} {rooms : Rooms} {tally state' words' : List ℕ} {rooms' : Rooms} {tally' : List ℕ} {α β : Flag}
    → α ≡ β
    → Ran P t words rooms tally state' words' rooms' tally' α
    → Ran P t words rooms tally state' words' rooms' tally' β
ran_flag {P} {t} {words} {rooms} {tally} {state'} {words'} {rooms'} {tally'} e g =
    subst (λ (α : Flag). Ran P t words rooms tally state' words' rooms' tally' α) e g

-- what a run does weighs no more than the node's pot, by any weights
pub few : (k : Program → ℕ) {P : Place} {t : Term} {words : List ℕ} {rooms : Rooms} {tally state' words' : List ℕ} {rooms' : Rooms} {tally' : List ℕ} {α : Flag}
    (g : Ran P t words rooms tally state' words' rooms' tally' α) → LoopsStop (prog t)
    → rest α (pot k g.to) + cost k g.acts ≤ pot k t
few k g l = spends k g.rewrites l

-- there is room in both for all that t can do
pub record HasRoom (rooms : Rooms) (tally : List ℕ) (t : Term) : Type 0 where
  pub in_row : atoms_done tally + pot (per 2) t ≤ length rooms.row
  pub in_store : bytes_parked tally + pot parking t ≤ length rooms.store

-- so there is for what weighs no more
pub room_for : {skip : ℕ} {table : List ℕ} {i : ℕ} {state words : List ℕ} {rooms : Rooms} {tally : List ℕ} {t : Term}
    → Ready skip table i state words rooms tally t
    → {t' : Term} → ((k : Program → ℕ) → pot k t' ≤ pot k t)
    → HasRoom rooms tally t'
room_for h e = record { in_row = omega (arith, h.room, e (per 2)); in_store = omega (arith, h.parking_room, e parking) }

-- room is left for a node t' that goes on after a part of t ran
pub room_after : {skip : ℕ} {table : List ℕ} {i : ℕ} {state words : List ℕ} {rooms : Rooms} {tally : List ℕ} {t : Term}
    {P : Place} {x : Term} {words₁ s words' : List ℕ} {rooms' : Rooms} {tally' : List ℕ} {α : Flag}
    → Ready skip table i state words rooms tally t
    → (g : Ran P x words₁ rooms tally s words' rooms' tally' α) (t' : Term)
    → ((k : Program → ℕ) → cost k g.acts + pot k t' ≤ pot k t)
    → HasRoom rooms' tally' t'
room_after h g t' e =
    let a = cost-A g.acts in
    let b = e (per 2) in
    let p = cost-F g.acts ∙ sym (pieces_long (parks g.acts)) in
    let q = e parking in
    let l = wrote_long g.wrote.atoms_in (omega (arith, h.room)) in
    let m = wrote_long g.wrote.pieces_in (omega (arith, h.parking_room)) in
    record {
      in_row = omega (arith, h.room, g.wrote.atoms_in.done_is);
      in_store = omega (arith, h.parking_room, g.wrote.pieces_in.done_is);
    }

-- lengths that stay
pub same_lengths : (words tally : List ℕ) → SameLengths words tally words tally
same_lengths words tally = record { of_words = refl; of_tally = refl; of_values = refl }

pub lengths_then : {words tally words' tally' words'' tally'' : List ℕ}
    → SameLengths words tally words' tally'
    → SameLengths words' tally' words'' tally''
    → SameLengths words tally words'' tally''
lengths_then k l =
    record {
      of_words = l.of_words ∙ k.of_words;
      of_tally = l.of_tally ∙ k.of_tally;
      of_values = l.of_values ∙ k.of_values;
    }

-- a number of the tally before the values is written anew
pub values_apart : (tally : List ℕ) (k x : ℕ) → k < 4 → values_in (set tally k x) ≡ values_in tally
values_apart tally k x l =
    fun_ext (λ v. ap (λ n. n / 2 ^ (8 * (v % 8)) % 256) (get_or-set_other tally k (4 + v / 8) x 0 (λ e. omega arith)))

-- what runs later runs with the same values
pub later : {words tally words₁ tally₁ : List ℕ} {P : Place} {t : Term} {E : Env} {r : Result}
    → SameLengths words tally words₁ tally₁
    → Rewrites (left_first (values_in tally₁)) P t E r
    → Rewrites (left_first (values_in tally)) P t E r
later {P = P} {t} {E} {r} k d = subst (λ value. Rewrites (left_first value) P t E r) k.of_values d

-- the node, as t' then
pub ready_as : {skip skip' : ℕ} {table : List ℕ} {i : ℕ} {state words : List ℕ} {rooms : Rooms} {tally state' words' : List ℕ} {rooms' : Rooms}
    {tally' : List ℕ}
    {t t' : Term}
    → Ready skip table i state words rooms tally t
    → prog t' ≡ prog t
    → length state' ≡ length state
    → SameLengths words tally words' tally'
    → Bytes skip' state' t'
    → Going (marks words') t'
    → HasRoom rooms' tally' t'
    → Ready skip' table i state' words' rooms' tally' t'
ready_as h e l k b g r =
    record {
      placed = rw e h.placed;
      loops = rw e h.loops;
      wide = rw k.of_words h.wide;
      tallied = k.of_tally ∙ h.tallied;
      long = rw e (l ∙ h.long);
      bytes = b;
      going = g;
      room = r.in_row;
      parking_room = r.in_store;
    }

-- the own bytes that a node leaves
abbrev pub own_left : Flag → Own → Own
own_left SUSP o = o
own_left STOP o = o
own_left TERM o = in_phase 0

pub left_leave : (α : Flag) (t : Term) → left α (leave α t) ≡ left α t
unfolding leave prog
left_leave SUSP t = refl
left_leave STOP t = refl
left_leave TERM t = refl

-- a node whose part is left leaves
pub left_around : {own : Own} {ahead behind : ℕ} {f : Term → Term} (o : Frame own ahead behind f) (α : Flag) (x : Term)
    → left α (f x) ≡ before (own_left α own) (blank ahead ++ (left α x ++ blank behind))
left_around o SUSP x = rw (o.head_is x, o.below_is x)
left_around o STOP x = rw (o.head_is x, o.below_is x)
left_around {ahead = ahead} {behind = behind} o TERM x =
    let e : 1 + ahead + size (prog x) + behind ≡ 1 + (ahead + (size (prog x) + behind)) = omega arith in
    simp (blank_both, blank_below, size_in o x) (ap blank e)

module _ {words : List ℕ} {rooms : Rooms} {tally : List ℕ} {P : Place} {t : Term} where
  -- a node that runs no part
  pub ran_alone : {α : Flag} {to : Term} {l : List Act} {state' : List ℕ}
      → Rewrites (left_first (values_in tally)) P t (env_of words tally) (answers α to (env_of words tally) l)
      → did l ≡ did []
      → state' ≡ left α to
      → Ran P t words rooms tally state' words rooms tally α
  ran_alone {to = to} {l = l} d e b =
      record {
        to = to;
        acts = l;
        rewrites = d;
        bytes = b;
        wrote = leaves_as e (leaves_none rooms tally tally refl refl);
        lengths = same_lengths words tally;
      }

  -- a node that leaves what another left, and did the same atoms
  pub ran_by : {Q : Place} {u : Term} {state' words' : List ℕ} {rooms' : Rooms} {tally' : List ℕ} {α : Flag} {l : List Act}
      → (k : Ran Q u words rooms tally state' words' rooms' tally' α)
      → Rewrites (left_first (values_in tally)) P t (env_of words tally) (answers α k.to (env_of words' tally') l)
      → did l ≡ did k.acts
      → Ran P t words rooms tally state' words' rooms' tally' α
  ran_by {l = l} k d e =
      record {
        to = k.to;
        acts = l;
        rewrites = d;
        bytes = k.bytes;
        wrote = leaves_as e k.wrote;
        lengths = k.lengths;
      }

  -- a node of which first a part ran, then the node as u
  pub ran_then : {skip : ℕ} {table : List ℕ} {i : ℕ} {state : List ℕ} → Ready skip table i state words rooms tally t
      → {Q R : Place} {x u : Term} {s words₁ : List ℕ} {rooms₁ : Rooms} {tally₁ state' words' : List ℕ} {rooms' : Rooms} {tally' : List ℕ} {β α : Flag}
      → (g : Ran Q x words rooms tally s words₁ rooms₁ tally₁ β)
      → (k : Ran R u words₁ rooms₁ tally₁ state' words' rooms' tally' α)
      → Rewrites (left_first (values_in tally)) P t (env_of words tally) (answers α k.to (env_of words' tally') (g.acts ++ k.acts))
      → Ran P t words rooms tally state' words' rooms' tally' α
  ran_then h g k d =
      record {
        to = k.to;
        acts = g.acts ++ k.acts;
        rewrites = d;
        bytes = k.bytes;
        wrote = leaves_then h g.wrote k.wrote;
        lengths = lengths_then g.lengths k.lengths;
      }

  -- a node f whose part ran
  pub ran_around : {own : Own} {ahead behind : ℕ} {f : Term → Term} (o : Frame own ahead behind f)
      {Q : Place} {x : Term} {words₁ s words₂ words' : List ℕ} {rooms' : Rooms} {tally' : List ℕ} {α : Flag} {l : List Act} {state' : List ℕ}
      → (g : Ran Q x words₁ rooms tally s words₂ rooms' tally' α)
      → SameLengths words tally words' tally'
      → Rewrites (left_first (values_in tally)) P t (env_of words tally) (answers α (leave α (f g.to)) (env_of words' tally') l)
      → did l ≡ did g.acts
      → state' ≡ before (own_left α own) (blank ahead ++ (s ++ blank behind))
      → Ran P t words rooms tally state' words' rooms' tally' α
  ran_around {own} {ahead} {behind} {f} o {α = α} {l = l} g k d e b =
      record {
        to = leave α (f g.to);
        acts = l;
        rewrites = d;
        bytes =
            b
            ∙ (ap (λ s. before (own_left α own) (blank ahead ++ (s ++ blank behind))) g.bytes
            ∙ (sym (left_around o α g.to) ∙ sym (left_leave α (f g.to))));
        wrote = leaves_as e g.wrote;
        lengths = k;
      }

len_left : (α : Flag) (t : Term) → length (left α t) ≡ 4 * size (prog t)
len_left SUSP t = len_bytes t
len_left STOP t = len_bytes t
len_left TERM t = length-replicate (4 * size (prog t)) 0

-- a run leaves as many bytes as there were, and a node that ended leaves zeros
module _ {P : Place} {t : Term} {words : List ℕ} {rooms : Rooms} {tally state' words' : List ℕ} {rooms' : Rooms} {tally' : List ℕ} where
  pub ran_long : {α : Flag} → Ran P t words rooms tally state' words' rooms' tally' α → length state' ≡ 4 * size (prog t)
  ran_long {α} g = ap length g.bytes ∙ (len_left α g.to ∙ ap (λ p. 4 * size p) (kept g.rewrites))

  pub ran_zeros : Ran P t words rooms tally state' words' rooms' tally' TERM → state' ≡ zeros (prog t)
  ran_zeros g = g.bytes ∙ ap zeros (kept g.rewrites)

-- the part is back: the node's own bytes are as they were, or its phase is written anew
module _ {own : Own} {ahead behind : ℕ} {f : Term → Term} (o : Frame own ahead behind f) {skip : ℕ} {table : List ℕ}
    {i : ℕ} {state words : List ℕ} {rooms : Rooms} {tally : List ℕ} {x : Term} (h : Ready skip table i state words rooms tally (f x)) {a e : ℕ}
    (u : Cut ahead x a e) (s : List ℕ) where
  pub back_long : skip ≤ 4 → length s ≡ 4 * size (prog x) → length (put_mid a (e - a) state s) ≡ length state
  back_long z n =
      ap length (put_back o h u z s)
      ∙ simp (length-append, length-replicate {A = ℕ}) (omega (arith, h.long, size_in o x))

  -- the node's own bytes are still there
  pub back_in : skip ≤ 4 → length s ≡ 4 * size (prog x) → (k : ℕ) → k < 4 → k < length (put_mid a (e - a) state s)
  back_in z n k l = omega (arith, back_long z n, own_in h k l)

  pub back_kept : skip ≡ 0 → put_mid a (e - a) state s ≡ before own (blank ahead ++ (s ++ blank behind))
  back_kept z =
      let b = byte_is h in
      put_back o h u (omega arith) s
      ∙ rw (b 0 (omega arith), b 1 (omega arith), b 2 (omega arith), b 3 (omega arith), o.head_is x)

  pub back_phase : skip ≤ 1 → {ph : ℕ} → own ≡ in_phase ph → (ph' : ℕ)
      → set (put_mid a (e - a) state s) 0 ph' ≡ before (in_phase ph') (blank ahead ++ (s ++ blank behind))
  back_phase z w ph' =
      let b = byte_is h in
      ap (λ l. set l 0 ph') (put_back o h u (omega arith) s)
      ∙ rw (b 1 (omega arith), b 2 (omega arith), b 3 (omega arith), o.head_is x, w)

-- the flag isn't TERM: the node's own bytes stay
pub own_stays : (α : Flag) {o : Own} → α ≢ TERM → own_left α o ≡ o
own_stays SUSP n = refl
own_stays STOP n = refl
own_stays TERM n = absurd (n refl)

pub phase_left : (α : Flag) (ph : ℕ) → own_left α (in_phase ph) ≡ in_phase (phase_after α ph)
phase_left SUSP ph = refl
phase_left STOP ph = refl
phase_left TERM ph = refl

-- in phase 0 a node's own bytes stay, whatever it answers
pub phase_0_left : (α : Flag) → own_left α (in_phase 0) ≡ in_phase 0
phase_0_left SUSP = refl
phase_0_left STOP = refl
phase_0_left TERM = refl

-- a node f whose part ran: its own bytes stay, or it is f' by a phase written anew
module _ {own : Own} {ahead behind : ℕ} {f : Term → Term} (o : Frame own ahead behind f) {skip : ℕ} {table : List ℕ}
    {i : ℕ} {state words : List ℕ} {rooms : Rooms} {tally : List ℕ} {x : Term} (h : Ready skip table i state words rooms tally (f x)) {a e : ℕ}
    (u : Cut ahead x a e) {Q : Place} {words₁ s words₂ : List ℕ} {rooms' : Rooms} {tally' : List ℕ} {α : Flag}
    (g : Ran Q x words₁ rooms tally s words₂ rooms' tally' α) {P : Place} {t : Term} {words' : List ℕ} {l : List Act}
    (k : SameLengths words tally words' tally') where
  pub ran_kept : skip ≡ 0 → own_left α own ≡ own
      → Rewrites (left_first (values_in tally)) P t (env_of words tally) (answers α (leave α (f g.to)) (env_of words' tally') l)
      → did l ≡ did g.acts
      → Ran P t words rooms tally (put_mid a (e - a) state s) words' rooms' tally' α
  ran_kept z w d q =
      ran_around o g k d q (back_kept o h u s z ∙ ap (λ y. before y (blank ahead ++ (s ++ blank behind))) (sym w))

  pub ran_phase : skip ≤ 1 → {ph : ℕ} → own ≡ in_phase ph
      → {own' : Own} {f' : Term → Term} → Frame own' ahead behind f' → {ph' : ℕ} → own_left α own' ≡ in_phase ph'
      → Rewrites (left_first (values_in tally)) P t (env_of words tally) (answers α (leave α (f' g.to)) (env_of words' tally') l)
      → did l ≡ did g.acts
      → Ran P t words rooms tally (set (put_mid a (e - a) state s) 0 ph') words' rooms' tally' α
  ran_phase z v o' {ph'} w d q =
      ran_around o' g k d q (back_phase o h u s z v ph' ∙ ap (λ y. before y (blank ahead ++ (s ++ blank behind))) (sym w))
