-- What waits when the end is declared comes, in the pass after it, to exactly the term that `settle` says of it; and the test that `settle` says
-- waits is the one that the way down finds.
use Prim.Native.Nat.{ℕ, ◌+◌}
use mathlib.Core.Bool.{Bool, true, false, cond, ◌||◌, or-false, false≢true}
use mathlib.Core.Path.{◌≡◌, refl, ap, ap₂, sym, ◌∙◌, subst, fun_ext}
use native.Mathlib.Omega.{arith}
use mathlib.Core.Logic.{◌≢◌}
use mathlib.Core.List.{List, [], ◌∷◌, ◌++◌}
use mathlib.Core.Option.{Option, none}
use Rattle.events.specs.Events.{Events, none as no_event, put}
use Rattle.junior.specs.declared.Flag.{Flag}
use Rattle.junior.specs.declared.Flag.TheVariants.{SUSP, STOP, TERM}
use Rattle.junior.specs.declared.Verdict.TheVariants.{Unknown}
use Rattle.junior.specs.Flags.{γ}
use Rattle.junior.specs.Configuration.{Config, Event, Env, handed_in, verdict, eval, test}
use Rattle.junior.specs.Program.{Program, Freezable}
use Rattle.junior.specs.Values.{Values}
use Rattle.junior.specs.Term.{Term, done, seq0, seq2, loop1, repeat1, when1, when2, until0, until2, control, local, freezable0, if1, if2, prog}
use Rattle.junior.specs.Term.{fresh, leave}
use Rattle.junior.specs.Trace.{Place, first, second, inside, Piece, Act, decided, scope_answered, collect}
use Rattle.junior.specs.Rules.{Allowed, Result, answers, joined, freezes, Rewrites, r1, r1_on, r2, r3, r4, r4_on, r5, r8, r9, r10, r11, r12}
use Rattle.junior.specs.Rules.{r13, r4_loop, r5_loop, r14, r15, r4_repeat, r5_repeat, r16, r17, r17_on, r18, r19, r19_on, r20, r21, r22, r23}
use Rattle.junior.specs.Rules.{r24, r25, r26, r27, r28, r29, r30, r31, r31_on, r32, r33, r34, r35_39, r40, r41, r42, r43, r44, r45, if_true}
use Rattle.junior.specs.Rules.{if_true_on, if_false, if_false_on}
use Rattle.junior.specs.Waited.{Wait}
use Rattle.junior.specs.Order.{decides}
use Rattle.junior.specs.Parked.{together}
use Rattle.junior.proofs.Little.{STOP≢SUSP, TERM≢SUSP, TERM≢STOP}
use Rattle.junior.proofs.Verdicts.{lasts, as_it_is, known_at_end, known_present, present, absent}
use Rattle.junior.proofs.Grows.{end_kept, unchanged}
use Rattle.junior.proofs.End.{Blocked, idles}
use Rattle.junior.proofs.WayDown.{branch_that_waits, second_waits, waiting_in}
use Rattle.junior.proofs.WayFound.{or_else_none}
use Rattle.junior.proofs.Settle.{Out, idle, out, plus, bind, says, tested, reads, own_wait, handled, once_stopped, frozen, once_frozen}
use Rattle.junior.proofs.Settle.{at_last, join, hidden, scoped, starts, settle, steered}
use Rattle.junior.proofs.Fits.{decides-++, weigh, weigh-++, Alike, alike_same, alike_swapped, alike_nil}
use Rattle.junior.proofs.Meets.{branch_idle}
use Rattle.junior.proofs.LocalMeets.{put_none, alike_noted}

-- an outcome in which tests are decided, pieces parked and nothing else is done, w being the test that waited for it, if one did
abbrev pub closing : Option Wait → Flag → Term → List Act → Out
closing w α t l = out α t no_event (λ a. 0) (λ v. weigh v l) (λ n b. decides n b l) w

same_acts : (α : Flag) (t : Term) (w : Option Wait) {x y : (Piece → ℕ) → ℕ} {f g : ℕ → Bool → Bool}
    → ((v : Piece → ℕ) → x v ≡ y v)
    → ((n : ℕ) (b : Bool) → f n b ≡ g n b)
    → out α t no_event (λ a. 0) x f w ≡ out α t no_event (λ a. 0) y g w
same_acts α t w k h = ap₂ (λ x f. out α t no_event (λ a. 0) x f w) (fun_ext k) (fun_ext (λ n. fun_ext (h n)))

-- a node f around a part that waits
end_under : (f : Term → Term) (h : Flag → Term → Out) (r : Result) (v : Option Wait) {o : Out}
    → h SUSP r.to ≡ idle SUSP (f r.to)
    → r.flag ≡ STOP
    → o ≡ closing v SUSP r.to r.acts
    → bind o h ≡ closing v SUSP (leave r.flag (f r.to)) r.acts
unfolding leave bind
end_under f h r v {o} e s w =
    let no_piece : ((x : Piece → ℕ) → weigh x r.acts + 0 ≡ weigh x r.acts) = λ x. omega arith in
    let none_more = same_acts SUSP (f r.to) v no_piece (λ n b. or-false (decides n b r.acts)) in
    rw (s, w) (ap (plus (closing v SUSP r.to r.acts)) e ∙ rw (or_else_none v) none_more)

-- a test that was unknown before the end
end_read : (P : Place) (c : Config) (E : Env) (b : Bool) (o p : Out) (w : Option Wait) (t u : Term)
    → reads c E.now ≡ Unknown
    → test c E ≡ verdict true b
    → tested P (reads c E.now) o p w (eval c E.now) t u ≡ closing w SUSP (cond b t u) (decided P c b E ∷ [])
unfolding says decides collect together
end_read P c E b o p w t u z v = rw (z, lasts c E E.now {b = b} v (as_it_is E))

-- an Until whose body waits: the body stops at the end, and the test is read there
end_until : (P : Place) (c : Config) (E : Env) (b : Bool) (q : Program) (k : Out) (l : List Act) (x : Option Wait)
    {F : Env} {t : Term} {o : Out}
    → F ≡ E
    → test c F ≡ verdict true b
    → o ≡ closing x SUSP t l
    → bind o (once_stopped P c q k (own_wait P c E.now) (eval c E.now) (reads c E.now))
    ≡ closing x SUSP (cond b (until2 c (prog t) (fresh q)) (until0 c t q)) (l ++ (decided P c b F ∷ []))
unfolding handled bind says decides collect together
end_until P c E b q k l x {F} {t} e v w =
    let value = lasts c E E.now {b = b} (subst (λ F. test c F ≡ verdict true b) e v) (as_it_is E) in
    let u = cond b (until2 c (prog t) (fresh q)) (until0 c t q) in
    let m : List Act = decided P c b F ∷ [] in
    rw (w, value, or_else_none x) (same_acts SUSP u x (λ v. omega (arith, weigh-++ v l m)) (λ n y. sym (decides-++ n y l m)))

-- a Freezable whose body waits: the body stops at the end, and is parked there if the event is present
end_frozen : (P : Place) (s : ℕ) (E : Env) (b : Bool) (l : List Act) (x : Option Wait) {F : Env} {t : Term} {o : Out}
    → F ≡ E
    → test (Event s) F ≡ verdict true b
    → o ≡ closing x SUSP t l
    → bind o (once_frozen P s (E.now s) (own_wait P (Event s) E.now))
    ≡ closing x SUSP (cond b (done (Freezable s (prog t))) (freezable0 s t)) (l ++ cond b (freezes P s t F) (decided P (Event s) false F ∷ []))
unfolding frozen bind says decides collect together eval
end_frozen P s E b l x {F} {t} e v w =
    let value : E.now s ≡ b = lasts (Event s) E E.now {b = b} (subst (λ F. test (Event s) F ≡ verdict true b) e v) (as_it_is E) in
    rw (w, value) (go b)
  where
    go : (b : Bool) → plus (closing x SUSP t l) (frozen P s b none SUSP t)
        ≡ closing x SUSP (cond b (done (Freezable s (prog t))) (freezable0 s t)) (l ++ cond b (freezes P s t F) (decided P (Event s) false F ∷ []))
    go true =
        let m = freezes P s t F in
        rw (or_else_none x) (same_acts SUSP _ x (λ v. omega (arith, weigh-++ v l m)) (λ n y. sym (decides-++ n y l m)))
    go false =
        let m : List Act = decided P (Event s) false F ∷ [] in
        rw (or_else_none x) (same_acts SUSP _ x (λ v. omega (arith, weigh-++ v l m)) (λ n y. sym (decides-++ n y l m)))

-- the branches of a Par that wait, α or β being SUSP, or have answered
end_both : (α β : Flag) (r s : Result) (v w : Option Wait) {o p : Out} {m : List Act}
    → r.flag ≡ at_last α
    → s.flag ≡ at_last β
    → γ α β ≡ SUSP
    → Alike (r.acts ++ s.acts) m
    → o ≡ closing v α r.to r.acts
    → p ≡ closing w β s.to s.acts
    → join o p ≡ closing (branch_that_waits α v w) SUSP (joined r.flag s.flag r.to s.to s.env m).to m
unfolding join leave
end_both α β r s v w {m = m} a b g k e f =
    rw (a, b, e, f)
    (go α β g
    ∙ same_acts SUSP _ _
    (λ x. sym (weigh-++ x r.acts s.acts) ∙ k.pieces_alike x)
    (λ n x. sym (decides-++ n x r.acts s.acts) ∙ k.tests_alike n x))
  where
    go : (α β : Flag) → γ α β ≡ SUSP
        → join (closing v α r.to r.acts) (closing w β s.to s.acts)
        ≡ out SUSP (joined (at_last α) (at_last β) r.to s.to s.env m).to no_event (λ a. 0)
        (λ x. weigh x r.acts + weigh x s.acts) (λ n b. decides n b r.acts || decides n b s.acts) (branch_that_waits α v w)
    go SUSP SUSP g = refl
    go SUSP STOP g = refl
    go SUSP TERM g = refl
    go STOP SUSP g = refl
    go STOP STOP g = absurd (STOP≢SUSP g)
    go STOP TERM g = absurd (STOP≢SUSP g)
    go TERM SUSP g = refl
    go TERM STOP g = absurd (STOP≢SUSP g)
    go TERM TERM g = absurd (TERM≢SUSP g)

pub at_last_same : (α : Flag) → α ≢ SUSP → α ≡ at_last α
at_last_same SUSP h = absurd (h refl)
at_last_same STOP h = refl
at_last_same TERM h = refl

-- a Local that waits keeps its event as it was
end_scoped : (value : Values) (P : Place) (X : Events) (b : Bool) (s : ℕ) (t u : Term) (w : Option Wait) (l : List Act) (n : ℕ) (α : Flag) (v : Bool)
    → settle value (inside s P) t (put s b X) ≡ closing w SUSP u l
    → settle value P (local b s t) X ≡ closing w SUSP (local false s u) (l ++ (scope_answered n α v ∷ []))
unfolding settle scoped hidden leave
end_scoped value P X b s t u w l n α v e =
    ap (λ v. hidden s (settle value (inside s P) t (put s v X))) (kept_out b e)
    ∙ (ap (hidden s) e
    ∙ (ap (λ g. out SUSP (local false s u) g (λ a. 0) (λ x. weigh x l) (λ n b. decides n b l) w) (put_none s)
    ∙ same_acts SUSP (local false s u) w (alike_noted l n α v).pieces_alike (alike_noted l n α v).tests_alike))
  where
    kept_out : (b : Bool) → settle value (inside s P) t (put s b X) ≡ closing w SUSP u l
        → (b || (settle value (inside s P) t (put s false X)).gens s) ≡ b
    kept_out true e = refl
    kept_out false e = ap (λ o. o.gens s) e

-- t at P, which waits in E, comes to what the pass after the end did, r
abbrev pub EndsAs : Values → Place → Term → Env → Result → Type 0
EndsAs value P t E r = settle value P t E.now ≡ closing (waiting_in P.node t E.now) SUSP r.to r.acts

pub ends_as : {free : Allowed} {P : Place} {t : Term} {E : Env} {r : Result}
    → Rewrites free P t E r
    → E.eoi ≡ true
    → Blocked E.now t
    → EndsAs free.value P t E r
unfolding Blocked settle starts handled steered frozen says leave decides collect together waiting_in
ends_as r1 e b = absurd b
ends_as r1_on e b = absurd b
ends_as r2 e b = absurd b
ends_as r3 e b = absurd b
ends_as (r4 d d') e b = absurd (TERM≢STOP (idles d e b).stops)
ends_as (r4_on {p = p} {r = r} d) e b = end_under (seq2 p) _ r _ refl (idles d e b).stops (ends_as d e b)
ends_as (r5 {q = q} {r = r} d h) e b = end_under (λ x. seq0 x q) _ r _ refl (idles d e b).stops (ends_as d e b)
ends_as {free} (r8 {P = P} {t = t} {u = u} {r = r} {s = s} d d') e b =
    let i = idles d e (b.1 refl) in
    let same = unchanged d i.no_event in
    let b' = subst (λ F. Blocked F.now u) (sym same) (b.2 refl) in
    let j = subst (λ F. EndsAs free.value (second P (prog t)) u F s) same (ends_as d' (end_kept d ∙ e) b') in
    end_both SUSP SUSP r s _ _ i.stops (idles d' (end_kept d ∙ e) b').stops refl alike_same (ends_as d e (b.1 refl)) j
ends_as {free} (r9 {P = P} {t = t} {r = r} {s = s} f d' d) e b =
    let i = idles d' e (b.2 refl) in
    let same = unchanged d' i.no_event in
    let b' = subst (λ F. Blocked F.now t) (sym same) (b.1 refl) in
    let j = subst (λ F. EndsAs free.value (first P) t F r) same (ends_as d (end_kept d' ∙ e) b') in
    let k = alike_swapped r.acts s.acts in
    end_both SUSP SUSP r s _ _ (idles d (end_kept d' ∙ e) b').stops i.stops refl k j (ends_as d' e (b.2 refl))
ends_as {free} (r10 {P = P} {E = E} {β = β} {t = t} {u = u} {r = r} h d) e b =
    let j = branch_idle β u (settle free.value (second P (prog t)) u E.now) h in
    let w = b.1 refl in
    end_both SUSP β r (answers β u E []) _ _ (idles d e w).stops (at_last_same β h) b.0 (alike_nil r.acts) (ends_as d e w) j
ends_as {free} (r11 {P = P} {E = E} {α = α} {t = t} {r = r} h d) e b =
    let j = branch_idle α t (settle free.value (first P) t E.now) h in
    let w = b.2 refl in
    let u = (joined α r.flag t r.to r.env r.acts).to in
    end_both α SUSP (answers α t E []) r none _ (at_last_same α h) (idles d e w).stops b.0 alike_same j (ends_as d e w)
    ∙ ap (λ x. closing x SUSP u r.acts) (second_waits α none _ h ∙ sym (second_waits α _ _ h))
ends_as (r12 d h) e b = absurd b
ends_as (r13 f d d') e b = absurd b
ends_as (r4_loop d d') e b = absurd (TERM≢STOP (idles d e b).stops)
ends_as (r5_loop {r = r} d h) e b = end_under loop1 _ r _ refl (idles d e b).stops (ends_as d e b)
ends_as (r14 h) e b = absurd b
ends_as (r15 h d) e b = absurd b
ends_as (r4_repeat d d') e b = absurd (TERM≢STOP (idles d e b).stops)
ends_as (r5_repeat {n = n} {k = k} {r = r} d h) e b = end_under (repeat1 n k) _ r _ refl (idles d e b).stops (ends_as d e b)
ends_as r16 e b = absurd b
ends_as (r17 v h d) e b = absurd (false≢true (sym h ∙ e))
ends_as (r17_on {c = c} {q = q} {r = r} d) e b =
    end_under (λ x. when1 c x q) _ r _ refl (idles d e b).stops (ends_as d e b)
ends_as (r18 {P = P} {E = E} {c = c} v h) e b = end_read P c E true _ _ _ _ _ b v
ends_as (r19 v h d) e b = absurd (false≢true (sym h ∙ e))
ends_as (r19_on {c = c} {p = p} {r = r} d) e b = end_under (when2 c p) _ r _ refl (idles d e b).stops (ends_as d e b)
ends_as (r20 {P = P} {E = E} {c = c} v h) e b = end_read P c E false _ _ _ _ _ b v
ends_as (r21 {E = E} {c = c} v) e b = absurd (known_at_end c E e v)
ends_as (r22 v h) e b = absurd (false≢true (sym h ∙ e))
ends_as (r23 {P = P} {E = E} {c = c} v h) e b = end_read P c E true _ _ _ _ _ b v
ends_as (r24 {P = P} {E = E} {c = c} v) e b = end_read P c E false _ _ _ _ _ b v
ends_as (r25 {E = E} {c = c} v) e b = absurd (known_at_end c E e v)
ends_as (r26 {P = P} {E = E} {s = s} {r = r} v d) e b =
    let here = present s E v in
    let w = end_under (control s) _ r _ refl (idles d e (b here)).stops (ends_as d e (b here)) in
    rw here (ap (says P true) w)
ends_as (r27 {E = E} {s = s} v) e b = rw (absent s E v)
ends_as (r28 {E = E} {s = s} v) e b = absurd (known_at_end (Event s) E e v)
ends_as (r29 d h) e b = absurd (h (idles d e b).stops)
ends_as (r30 d (r31 v h d')) e b = absurd (false≢true (sym h ∙ (end_kept d ∙ e)))
ends_as (r30 {P = P} {E = E} {c = c} {l = l} d (r32 v h)) e b =
    end_until P c E true _ _ l _ (unchanged d (idles d e b).no_event) v (ends_as d e b)
ends_as (r30 {P = P} {E = E} {c = c} {l = l} d (r33 v)) e b =
    end_until P c E false _ _ l _ (unchanged d (idles d e b).no_event) v (ends_as d e b)
ends_as (r30 {E' = E'} {c = c} d (r34 v)) e b = absurd (known_at_end c E' (end_kept d ∙ e) v)
ends_as (r31 v h d) e b = absurd (false≢true (sym h ∙ e))
ends_as (r31_on {c = c} {p = p} {r = r} d) e b = end_under (until2 c p) _ r _ refl (idles d e b).stops (ends_as d e b)
ends_as (r32 {P = P} {E = E} {c = c} v h) e b = end_read P c E true _ _ _ _ _ b v
ends_as (r33 {P = P} {E = E} {c = c} v) e b = end_read P c E false _ _ _ _ _ b v
ends_as (r34 {E = E} {c = c} v) e b = absurd (known_at_end c E e v)
ends_as {free} (r35_39 {P = P} {E = E} {b = b'} {s = s} {t = t} {r = r} d) e b =
    rw (idles d e b).stops (end_scoped free.value P E.now b' s t r.to _ r.acts _ _ _ (ends_as d e b))
ends_as (r40 d h) e b = absurd (h (idles d e b).stops)
ends_as (r41 d (r42 v h)) e b = absurd (false≢true (sym h ∙ (end_kept d ∙ e)))
ends_as (r41 {P = P} {E = E} {s = s} {l = l} d (r43 v h)) e b =
    end_frozen P s E true l _ (unchanged d (idles d e b).no_event) v (ends_as d e b)
ends_as (r41 {P = P} {E = E} {s = s} {l = l} d (r44 v)) e b =
    end_frozen P s E false l _ (unchanged d (idles d e b).no_event) v (ends_as d e b)
ends_as (r41 {E' = E'} {s = s} d (r45 v)) e b = absurd (known_at_end (Event s) E' (end_kept d ∙ e) v)
ends_as (r42 v h) e b = absurd (false≢true (sym h ∙ e))
ends_as (r43 {E = E} {s = s} v h) e b = absurd (known_present s (handed_in E.now) (present s E v) b)
ends_as (r44 {E = E} {s = s} v) e b = rw (absent s E v)
ends_as (r45 {E = E} {s = s} v) e b = absurd (known_at_end (Event s) E e v)
ends_as (if_true h d) e b = absurd b
ends_as (if_true_on {v = v} {q = q} {r = r} d) e b = end_under (λ x. if1 v x q) _ r _ refl (idles d e b).stops (ends_as d e b)
ends_as (if_false h d) e b = absurd b
ends_as (if_false_on {v = v} {p = p} {r = r} d) e b = end_under (if2 v p) _ r _ refl (idles d e b).stops (ends_as d e b)
