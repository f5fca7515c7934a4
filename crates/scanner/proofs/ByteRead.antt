-- Reading a byte: the turn that the rules give is the machine's step, and the reader lies where it should behind it.
use Rattle.std.specs.Prelude.{Option, None, Some}
use Prim.Native.Nat.{ℕ, zero, suc, ◌%◌, ◌<◌, ◌≤◌}
use mathlib.Core.Path.{◌≡◌, refl, sym, ◌∙◌, ap, subst}
use mathlib.Core.List.{List, ◌++◌}
use native.Mathlib.Omega.{arith}
use lib.ListN.{length, get_or, set}
use Rattle.std.specs.Option.{ForSome}
use Rattle.scanner.specs.declared.rules.Turn.{Turn}
use Rattle.scanner.specs.declared.rules.Turn.TheVariants.{On, Opens, Into, Out}
use Rattle.scanner.specs.declared.levels.Frame.{Frame}
use Rattle.scanner.specs.declared.scan.Place.{Place}
use Rattle.form.specs.Inside.Machine.{Stack, on, step}
use Rattle.form.specs.Inside.Rows.{long}
use Rattle.scanner.specs.Rules.{place_behind_j, behind_bracket, held}
use Rattle.scanner.specs.Turns.{turn_of, after}
use Rattle.scanner.specs.Places.{frame, Numbered, RingHolds, moved, entered, leaving, Lies}
use Rattle.form.proofs.NamesRead.{in_names}
use Rattle.scanner.specs.Scanning.{opened_at, Taken}
use Rattle.scanner.proofs.TurnSteps.{turn_steps}
use Rattle.scanner.proofs.PlaceKept.{Sits, sits_on, sits_opens, sits_program, sits_test, sits_out}
use Rattle.scanner.proofs.PlaceKeptByTurns.{sits}
use Rattle.scanner.proofs.LevelKept.{lies_on, lies_opens}
use Rattle.scanner.proofs.LevelEntered.{lies_program, lies_test}
use Rattle.scanner.proofs.LevelLeft.{lies_out, at_end}

leaving_number : (t : List ℕ) (at : Place) (l : ℕ) (ring : List Frame) → (leaving t at l ring).number ≡ None
unfolding leaving
leaving_number t at zero ring = refl
leaving_number t at (suc l) ring = refl

opened_name : (b i : ℕ) → b ≡ 74 → opened_at b i ≡ suc i
unfolding opened_at
opened_name b i e = rw e

opened_test : (b i : ℕ) → b ≡ 40 → opened_at b i ≡ i
unfolding opened_at
opened_test b i e = rw e

module _ (t : List ℕ) (i : ℕ) (at : Place) (ring : List Frame) where
  abbrev now_at : Stack → Stack
  now_at σ = held at.pc at.number ++ σ

  -- the machine's step is the turn r
  stepped : (σ : Stack) (r : Option Turn) → Lies t i at ring σ → r ≡ turn_of at.pc at.number (get_or t i 0)
      → step (now_at σ) (get_or t i 0) ≡ after at.pc r σ
  stepped σ r s e =
      turn_steps at.pc at.number (get_or t i 0) σ s.numbered (at_end t i at ring σ s)
      ∙ ap (λ (x : Option Turn). after at.pc x σ) (sym e)

  seated : (σ : Stack) (r : Option Turn) → Lies t i at ring σ → r ≡ turn_of at.pc at.number (get_or t i 0)
      → Sits at.pc (get_or t i 0) r
  seated σ r s e =
      subst (λ (x : Option Turn). Sits at.pc (get_or t i 0) x) (sym e) (sits at.pc at.number (get_or t i 0) s.numbered)

  pub taken_dead : None ≡ turn_of at.pc at.number (get_or t i 0) → Taken t i at ring ring None
  taken_dead e σ s = stepped σ None s e

  pub taken_on : (q : ℕ) (n : Option ℕ) → Some (On q n) ≡ turn_of at.pc at.number (get_or t i 0)
      → Taken t i at ring ring (Some (moved at q n at.bracket))
  taken_on q n e σ s = go (seated σ (Some (On q n)) s e)
    where
      go : Sits at.pc (get_or t i 0) (Some (On q n))
          → (τ : Stack) × Lies t (suc i) (moved at q n at.bracket) ring τ × (step (now_at σ) (get_or t i 0) ≡ on (held q n ++ τ))
      go (sits_on g) = (σ, lies_on t i at ring σ s q n g, stepped σ (Some (On q n)) s e)

  pub taken_opens : (q : ℕ) → Some (Opens q) ≡ turn_of at.pc at.number (get_or t i 0)
      → Taken t i at ring ring (Some (moved at q None i))
  taken_opens q e σ s = go (seated σ (Some (Opens q)) s e) (stepped σ (Some (Opens q)) s e)
    where
      go : {r : ℕ} → Sits at.pc (get_or t i 0) (Some (Opens r)) → step (now_at σ) (get_or t i 0) ≡ after at.pc (Some (Opens r)) σ
          → (τ : Stack) × Lies t (suc i) (moved at r None i) ring τ × (step (now_at σ) (get_or t i 0) ≡ on (held r None ++ τ))
      go (sits_opens b c k f) w = (σ, lies_opens t i at ring σ s b c k (f t i), w)

  pub taken_out : (Some Out) ≡ turn_of at.pc at.number (get_or t i 0)
      → Taken t i at ring ring (Some (leaving t at at.live ring))
  taken_out e σ s = go (seated σ (Some Out) s e)
    where
      to : Place
      to = leaving t at at.live ring

      go : Sits at.pc (get_or t i 0) (Some Out)
          → (τ : Stack) × Lies t (suc i) to ring τ × (step (now_at σ) (get_or t i 0) ≡ on (held to.pc to.number ++ τ))
      go (sits_out b k) =
          let l = lies_out t i at ring σ s b k in
          let n = leaving_number t at at.live ring in
          (l.0, l.1, stepped σ (Some Out) s e ∙ (ap on l.2 ∙ ap (λ (m : Option ℕ). on (held to.pc m ++ l.0)) (sym n)))

  abbrev ring_then : List Frame
  ring_then = set ring (at.depth % 4096) (frame at.bracket (suc at.pc))

  pub taken_into : (q : ℕ) → length ring ≡ 4096 → Some (Into q) ≡ turn_of at.pc at.number (get_or t i 0)
      → Taken t i at ring ring_then (Some (entered at q (opened_at (get_or t i 0) i)))
  taken_into q g e σ s = go (seated σ (Some (Into q)) s e) (stepped σ (Some (Into q)) s e)
    where
      ρ : Stack
      ρ = held (suc at.pc) None ++ σ

      go : {r : ℕ} → Sits at.pc (get_or t i 0) (Some (Into r)) → step (now_at σ) (get_or t i 0) ≡ after at.pc (Some (Into r)) σ
          → (τ : Stack) × Lies t (suc i) (entered at r (opened_at (get_or t i 0) i)) ring_then τ
          × (step (now_at σ) (get_or t i 0) ≡ on (held r None ++ τ))
      go (sits_program b c) w = (
        ρ,
        subst (λ (o : ℕ). Lies t (suc i) (entered at place_behind_j o) ring_then ρ) (sym (opened_name (get_or t i 0) i b))
            (lies_program t i at ring σ s g b c),
        w,
      )
      go (sits_test b k) w = (
        ρ,
        subst (λ (o : ℕ). Lies t (suc i) (entered at behind_bracket o) ring_then ρ) (sym (opened_test (get_or t i 0) i b))
            (lies_test t i at ring σ s g b k),
        w,
      )

  pub taken_entered : (q o : ℕ) (next : Place) (ring' : List Frame) → length ring ≡ 4096
      → Some (Into q) ≡ turn_of at.pc at.number (get_or t i 0) → o ≡ opened_at (get_or t i 0) i → next ≡ entered at q o
      → ring' ≡ ring_then → Taken t i at ring ring' (Some next)
  taken_entered q o next ring' g e f k l = rw (k, f, l) (taken_into q g e)

  pub taken_left : (next : Place) → (Some Out) ≡ turn_of at.pc at.number (get_or t i 0)
      → next ≡ leaving t at at.live ring → Taken t i at ring ring (Some next)
  taken_left next e f = rw f (taken_out e)

  -- a row is entered only from a place of the table
  pub into_in_names : (σ : Stack) (q : ℕ) → Lies t i at ring σ → Some (Into q) ≡ turn_of at.pc at.number (get_or t i 0) → at.pc < long
  into_in_names σ q s e = go (seated σ (Some (Into q)) s e)
    where
      go : {r : ℕ} → Sits at.pc (get_or t i 0) (Some (Into r)) → at.pc < long
      go (sits_program b c) = in_names at.pc (λ z. omega arith)
      go (sits_test b k) = in_names at.pc (λ z. omega arith)

pub number_low : (p : ℕ) (n : Option ℕ) → Numbered p n → ForSome n (λ v. v ≤ 65535)
number_low p n m x e = (rw e at m).2

pub ringed : (t : List ℕ) (o d l : ℕ) (ring : List Frame) → RingHolds t o d l ring → 0 < l → 0 < d
ringed t o d zero ring k h = absurd (omega arith)
ringed t o zero (suc l) ring k h = absurd k
ringed t o (suc d) (suc l) ring k h = omega arith
