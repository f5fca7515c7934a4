-- Rules 35 to 39: where its body's pass agrees with the body in every set of events, a Local's pass agrees with the Local.
use Prim.Native.Nat.{ℕ}
use mathlib.Core.Bool.{Bool, true, false, cond, ◌||◌, or-false, false≢true}
use mathlib.Core.Path.{◌≡◌, refl, ap, sym, ◌∙◌, subst, fun_ext}
use mathlib.Core.List.{List, [], ◌∷◌, ◌++◌}
use mathlib.Core.Option.{none}
use lib.Dec.{eqb}
use Rattle.events.specs.Events.{Events, none as no_event, put}
use Rattle.junior.specs.declared.Flag.{Flag}
use Rattle.junior.specs.declared.Flag.TheVariants.{SUSP, STOP, TERM}
use Rattle.junior.specs.Configuration.{Env, with_event}
use Rattle.junior.specs.Values.{Values}
use Rattle.junior.specs.Term.{Term, done, local, prog, leave}
use Rattle.junior.specs.Trace.{Place, inside, Act, scope_answered, atom_of, piece_of, collect}
use Rattle.junior.specs.Rules.{Result, sign, left_scope}
use Rattle.junior.specs.Course.{◌⊆◌}
use Rattle.junior.specs.Order.{often, decides}
use Rattle.junior.specs.Parked.{together}
use Rattle.junior.proofs.Little.{neither, collect_last, put_at}
use Rattle.junior.proofs.Settle.{Out, out, branch, hidden, scoped, settle}
use Rattle.junior.proofs.Fits.{decides-++, Alike, Fits, Within, fits_as, at_or_else, put_else, put_within}
use Rattle.junior.proofs.Fits.{fits_hidden}
use Rattle.junior.proofs.Meets.{Meets, Agrees}

-- whether the event of a Local with this sign, F being what comes of its body, is present in the end
abbrev in_the_end : Bool → ℕ → (Events → Out) → Events → Bool
in_the_end b s F X = b || (F (put s false X)).gens s

-- so its body generates it only if it is
closed_scope : (b : Bool) (s : ℕ) (F : Events → Out) (X : Events)
    → (F (put s (in_the_end b s F X) X)).gens s ≡ true
    → in_the_end b s F X ≡ true
closed_scope b s F X = go (in_the_end b s F X) refl
  where
    go : (v : Bool) → in_the_end b s F X ≡ v → (F (put s v X)).gens s ≡ true → v ≡ true
    go true e h = refl
    go false e h = absurd (false≢true (sym (neither b ((F (put s false X)).gens s) e).1 ∙ h))

not_so : (b : Bool) → (b ≡ true → false ≡ true) → b ≡ false
not_so true h = absurd (false≢true (h refl))
not_so false h = refl

pub put_none : (s : ℕ) → put s false no_event ≡ no_event
unfolding put
put_none s = fun_ext (λ n. go (eqb n s))
  where
    go : (q : Bool) → cond q false false ≡ false
    go true = refl
    go false = refl

-- the trace's note of a Local's answer is no atom, no piece and no test
pub alike_noted : (l : List Act) (n : ℕ) (α : Flag) (b : Bool) → Alike l (l ++ (scope_answered n α b ∷ []))
unfolding collect decides
alike_noted l n α b = record {
  atoms_alike = λ a. ap (often a) (sym (collect_last atom_of l (scope_answered n α b) refl));
  pieces_alike = λ v. ap (together v) (sym (collect_last piece_of l (scope_answered n α b) refl));
  tests_alike = λ m v. sym (decides-++ m v l (scope_answered n α b ∷ []) ∙ or-false (decides m v l));
}

left_scoped : (value : Values) (P : Place) (X : Events) (s : ℕ) (v b now : Bool) (α : Flag) (t : Term)
    → (α ≡ SUSP → in_the_end (sign b SUSP now) s (settle value (inside s P) t) X ≡ v)
    → hidden s (branch α t (settle value (inside s P) t (put s v X)))
    ≡ branch α (leave α (local (sign b α now) s t)) (settle value P (leave α (local (sign b α now) s t)) X)
unfolding hidden settle scoped leave
left_scoped value P X s v b now SUSP t h = ap (λ x. hidden s (settle value (inside s P) t (put s x X))) (sym (h refl))
left_scoped value P X s v b now STOP t h = λ i. out STOP (local false s t) (put_none s i) (λ a. 0) (λ v. 0) (λ n b. false) none
left_scoped value P X s v b now TERM t h = λ i. out TERM (done (prog (local false s t))) (put_none s i) (λ a. 0) (λ v. 0) (λ n b. false) none

-- a Local of s at P with sign b, F being what comes of its body, which the body's pass, with answer r, agrees with
module _ (value : Values) (X : Events) (P : Place) (E : Env) (b : Bool) (s : ℕ) (F : Events → Out) (r : Result)
    (grown : put s b E.now ⊆ r.env.now)
    (agrees : (Y : Events) → Agrees value (inside s P) Y (with_event s b E) r (F Y))
    (held : E.now ⊆ X)
    (within : Within (put s (E.now s) r.env.now) X (scoped b s F X)) where
  -- with the event as it is in the end
  abbrev finished : Events
  finished = put s (in_the_end b s F X) X

  elsewhere : (n : ℕ) → eqb n s ≡ false → finished n ≡ X n
  elsewhere n e = put_else s n (in_the_end b s F X) X e

  -- the body in the set in which it ends
  inside_within : Within r.env.now finished (F finished)
  unfolding scoped hidden
  inside_within n =
      at_or_else (λ n. r.env.now n ≡ true → (F finished).gens n ≡ true → finished n ≡ true) s n
      (λ y g. put_at s (in_the_end b s F X) X ∙ closed_scope b s F X g)
      (λ e y g. elsewhere n e ∙ within n (put_else s n (E.now s) r.env.now e ∙ y) (put_else s n false (F finished).gens e ∙ g))

  inside_meets : Meets value (inside s P) finished r (F finished)
  inside_meets = (agrees finished).run (put_within s b (in_the_end b s F X) (λ h. rw h) held) inside_within

  outside : put s (E.now s) r.env.now ⊆ X
  outside n =
      at_or_else (λ n. put s (E.now s) r.env.now n ≡ true → X n ≡ true) s n
      (λ h. held s (sym (put_at s (E.now s) r.env.now) ∙ h))
      (λ e h. sym (elsewhere n e) ∙ inside_meets.below n (sym (put_else s n (E.now s) r.env.now e) ∙ h))

  -- where the pass didn't raise the event, the body without it goes as the pass did
  unraised : r.env.now s ≡ false → b ≡ false
  unraised q = not_so b (λ h. sym q ∙ grown s (put_at s b E.now ∙ h))

  without_within : r.env.now s ≡ false → Within r.env.now (put s false X) (F (put s false X))
  without_within q n =
      at_or_else (λ n. r.env.now n ≡ true → (F (put s false X)).gens n ≡ true → put s false X n ≡ true) s n
      (λ y g. absurd (false≢true (sym q ∙ y)))
      (λ e y g. put_else s n false X e ∙ (sym (elsewhere n e) ∙ inside_meets.below n y))

  without_meets : r.env.now s ≡ false → Meets value (inside s P) (put s false X) r (F (put s false X))
  without_meets q = (agrees (put s false X)).run (put_within s b false (λ h. sym (unraised q) ∙ h) held) (without_within q)

  -- so a suspended Local's new sign says no more and no less about its event in the end
  same_sign : r.flag ≡ SUSP
      → in_the_end (sign b SUSP (r.env.now s)) s (settle value (inside s P) r.to) X ≡ in_the_end b s F X
  same_sign f = go (r.env.now s) refl
    where
      signed : (b : Bool) → sign b SUSP true ≡ true
      signed true = refl
      signed false = refl

      go : (now : Bool) → r.env.now s ≡ now
          → in_the_end (sign b SUSP now) s (settle value (inside s P) r.to) X ≡ in_the_end b s F X
      go true q = rw (signed b) (sym (sym (put_at s (in_the_end b s F X) X) ∙ inside_meets.below s q))
      go false q =
          let e = (without_meets q).fits.events s in
          let k = rw (f, put_at s false X) at e in
          rw (unraised q) (sym k)

  pub local_meets : Meets value P X (left_scope P b s E r) (scoped b s F X)
  unfolding scoped
  local_meets =
      let v = in_the_end b s F X in
      let same = left_scoped value P X s v b (r.env.now s) r.flag r.to same_sign in
      let f = fits_as (alike_noted r.acts P.node r.flag (r.env.now s)) (fits_hidden s v inside_meets.fits) in
      record { below = outside; fits = subst (λ o. Fits X (left_scope P b s E r).acts (scoped b s F X) o) same f }
