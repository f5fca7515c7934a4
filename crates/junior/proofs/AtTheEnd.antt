-- The test that an instant names is decided once the end is declared, and then still lacks the event that is named for it: of those that it
-- mentions, that one is the lowest that its finished events lack.
use Prim.Native.Nat.{ℕ, suc}
use mathlib.Core.Bool.{Bool, true, false, false≢true}
use mathlib.Core.Path.{◌≡◌, refl, ap, sym, subst, ◌∙◌}
use mathlib.Core.List.{List, [], ◌∷◌, ◌++◌, append_assoc, append-nil}
use mathlib.Core.Option.{Option, none, some}
use native.Mathlib.Omega.{arith}
use Rattle.events.specs.Events.{Events}
use Rattle.junior.specs.Configuration.{Config, Event, Env, eval}
use Rattle.junior.specs.Term.{Term}
use Rattle.junior.specs.Trace.{Place, Act, decided, scope_answered}
use Rattle.junior.specs.Rules.{Allowed, Result, Rewrites, r1, r1_on, r2, r3, r4, r4_on, r5, r8, r9, r10, r11, r12, r13, r4_loop, r5_loop, r14}
use Rattle.junior.specs.Rules.{r15, r4_repeat, r5_repeat, r16, r17, r17_on, r18, r19, r19_on, r20, r21, r22, r23, r24, r25, r26, r27, r28, r29}
use Rattle.junior.specs.Rules.{r30, r31, r31_on, r32, r33, r34, r35_39, r40, r41, r42, r43, r44, r45, if_true, if_true_on, if_false}
use Rattle.junior.specs.Rules.{if_false_on}
use Rattle.junior.specs.Instant.{Instant, r47, r48, r49}
use Rattle.junior.specs.Decided.{last_answers, by_scope, finished}
use Rattle.junior.specs.Waited.{lacks, Wait, waits_for, first_wait, before_the_end, waited}
use Rattle.junior.specs.L1.{LacksAtTheEnd}
use Rattle.junior.proofs.Little.{STOP≢SUSP, TERM≢STOP}
use Rattle.junior.proofs.Verdicts.{known_at_end, lasts, as_it_is, present}
use Rattle.junior.proofs.Grows.{end_kept, unchanged, reported}
use Rattle.junior.proofs.End.{ended, Blocked, blocked, idles}
use Rattle.junior.proofs.Scopes.{status_own}
use Rattle.junior.proofs.Ahead.{Around, around_root, further, around_body, Ahead, ahead_inside}
use Rattle.junior.proofs.Ahead.{earlier as ahead_earlier}
use Rattle.junior.proofs.Lacking.{named}
use Rattle.junior.proofs.WayDown.{second_waits, waiting_in}
use Rattle.junior.proofs.WayFound.{control_waits, way_down}

behind : {F : Events} {w : Wait} {l : List Act} (m : List Act) → LacksAtTheEnd F w l → LacksAtTheEnd F w (m ++ l)
behind m x =
    record {
      earlier = m ++ x.earlier;
      later = x.later;
      place = x.place;
      test = x.test;
      value = x.value;
      read_in = x.read_in;
      decides = ap (λ l. m ++ l) x.decides ∙ sym (append_assoc m x.earlier (_ ∷ x.later));
      node_is = x.node_is;
      event_is = x.event_is;
    }

regrouped : {F : Events} {w : Wait} (l m k : List Act) → LacksAtTheEnd F w (l ++ (m ++ k))
    → LacksAtTheEnd F w ((l ++ m) ++ k)
regrouped l m k x = rw (append_assoc l m k) x

waits_so : {w : Wait} (i : ℕ) (o : Option ℕ) → waits_for i o ≡ some w → (w.node ≡ i) × (o ≡ some w.event)
waits_so i none h = let z : ◌≡◌ {A = ℕ} 0 1 = cc in absurd (omega arith)
waits_so {w} i (some e) h =
    let same : e ≡ w.event = cc in
    (cc, ap some same)

module _ (F : Events) (w : Wait) where
  -- a test that is decided at the end is read in its finished events
  decides : {P : Place} {c : Config} {b : Bool} {E : Env} (k : List Act) → E.eoi ≡ true
      → Ahead E (finished F (last_answers k) P)
      → waits_for P.node (lacks c E.now) ≡ some w
      → LacksAtTheEnd F w (decided P c b E ∷ k)
  decides {P} {c} {b} {E} k e a h =
      let (n, l) = waits_so P.node (lacks c E.now) h in
      record {
        earlier = [];
        later = k;
        place = P;
        test = c;
        value = b;
        read_in = E;
        decides = refl;
        node_is = n;
        event_is = named c _ w.event (ap (lacks c) (a.same e).1 ∙ l);
      }

  -- the pass after the end was declared, from a term that waits
  ends_lacking : {free : Allowed} {P : Place} {t : Term} {E : Env} {r : Result} (k : List Act) → Rewrites free P t E r
      → Around P
      → E.eoi ≡ true
      → Blocked E.now t
      → Ahead r.env (finished F (last_answers k) P)
      → waiting_in P.node t E.now ≡ some w
      → LacksAtTheEnd F w (r.acts ++ k)
  unfolding Blocked waiting_in last_answers eval
  ends_lacking k r1 c e b a h = absurd b
  ends_lacking k r1_on c e b a h = absurd b
  ends_lacking k r2 c e b a h = absurd b
  ends_lacking k r3 c e b a h = absurd b
  ends_lacking k (r4 d d') c e b a h = absurd (TERM≢STOP (idles d e b).stops)
  ends_lacking k (r4_on d) c e b a h = ends_lacking k d (further (omega arith) c) e b a h
  ends_lacking k (r5 d n) c e b a h = ends_lacking k d (further (omega arith) c) e b a h
  ends_lacking k (r8 {r = r} {s = s} d d') c e b a h =
      let a' = ahead_earlier F k d' (further (omega arith) c) a in
      regrouped r.acts s.acts k (ends_lacking (s.acts ++ k) d (further (omega arith) c) e (b.1 refl) a' h)
  ends_lacking k (r9 {P = P} {t = t} {r = r} {s = s} x d' d) c e b a h =
      let same = sym (unchanged d' (idles d' e (b.2 refl)).no_event) in
      let b' = subst (λ G. Blocked G.now t) same (b.1 refl) in
      let h' = subst (λ G. waiting_in (suc P.node) t G.now ≡ some w) same h in
      regrouped s.acts r.acts k (behind s.acts (ends_lacking k d (further (omega arith) c) (end_kept d' ∙ e) b' a h'))
  ends_lacking k (r10 n d) c e b a h = ends_lacking k d (further (omega arith) c) e (b.1 refl) a h
  ends_lacking k (r11 {α = α} n d) c e b a h =
      ends_lacking k d (further (omega arith) c) e (b.2 refl) a (sym (second_waits α _ _ n) ∙ h)
  ends_lacking k (r12 d n) c e b a h = absurd b
  ends_lacking k (r13 f d d') c e b a h = absurd b
  ends_lacking k (r4_loop d d') c e b a h = absurd (TERM≢STOP (idles d e b).stops)
  ends_lacking k (r5_loop d n) c e b a h = ends_lacking k d (further (omega arith) c) e b a h
  ends_lacking k (r14 n) c e b a h = absurd b
  ends_lacking k (r15 n d) c e b a h = absurd b
  ends_lacking k (r4_repeat d d') c e b a h = absurd (TERM≢STOP (idles d e b).stops)
  ends_lacking k (r5_repeat d n) c e b a h = ends_lacking k d (further (omega arith) c) e b a h
  ends_lacking k r16 c e b a h = absurd b
  ends_lacking k (r17 v n d) c e b a h = absurd (false≢true (sym n ∙ e))
  ends_lacking k (r17_on d) c e b a h = ends_lacking k d (further (omega arith) c) e b a h
  ends_lacking k (r18 v n) c e b a h = decides k e a h
  ends_lacking k (r19 v n d) c e b a h = absurd (false≢true (sym n ∙ e))
  ends_lacking k (r19_on d) c e b a h = ends_lacking k d (further (omega arith) c) e b a h
  ends_lacking k (r20 v n) c e b a h = decides k e a h
  ends_lacking k (r21 {E = E} {c = x} v) c e b a h = absurd (known_at_end x E e v)
  ends_lacking k (r22 v n) c e b a h = absurd (false≢true (sym n ∙ e))
  ends_lacking k (r23 v n) c e b a h = decides k e a h
  ends_lacking k (r24 v) c e b a h = decides k e a h
  ends_lacking k (r25 {E = E} {c = x} v) c e b a h = absurd (known_at_end x E e v)
  ends_lacking k (r26 {E = E} {s = s} v d) c e b a h =
      let on = present s E v in
      behind (_ ∷ []) (ends_lacking k d (further (omega arith) c) e (b on) a (rw on at h))
  ends_lacking k (r27 {P = P} {E = E} {s = s} {t = t} v) c e b a h =
      let off : E.now s ≡ false = lasts (Event s) E E.now v (as_it_is E) in
      decides k e a (sym (control_waits P.node s t E (λ x. false≢true (sym off ∙ x))) ∙ h)
  ends_lacking k (r28 {E = E} {s = s} v) c e b a h = absurd (known_at_end (Event s) E e v)
  ends_lacking k (r29 d n) c e b a h = absurd (n (idles d e b).stops)
  ends_lacking k (r30 {l = l} {r = r} d d') c e b a h =
      regrouped l r.acts k (ends_lacking (r.acts ++ k) d (further (omega arith) c) e b (ahead_earlier F k d' c a) h)
  ends_lacking k (r31 v n d) c e b a h = absurd (false≢true (sym n ∙ e))
  ends_lacking k (r31_on d) c e b a h = ends_lacking k d (further (omega arith) c) e b a h
  ends_lacking k (r32 v n) c e b a h = decides k e a h
  ends_lacking k (r33 v) c e b a h = decides k e a h
  ends_lacking k (r34 {E = E} {c = x} v) c e b a h = absurd (known_at_end x E e v)
  ends_lacking k (r35_39 {P = P} {E = E} {s = s} {r = r} d) c e b a h =
      let m : List Act = scope_answered P.node r.flag (r.env.now s) ∷ [] in
      let own = status_own r.flag P.node (r.env.now s) (last_answers k) (ended d e) in
      let a' = ahead_inside F r.flag r.env s (E.now s) _ c (λ x. ended d e) (λ x. own ∙ x) a in
      regrouped r.acts m k (ends_lacking (m ++ k) d (around_body s c) e b a' h)
  ends_lacking k (r40 d n) c e b a h = absurd (n (idles d e b).stops)
  ends_lacking k (r41 {l = l} {r = r} d d') c e b a h =
      regrouped l r.acts k (ends_lacking (r.acts ++ k) d (further (omega arith) c) e b (ahead_earlier F k d' c a) h)
  ends_lacking k (r42 v n) c e b a h = absurd (false≢true (sym n ∙ e))
  ends_lacking k (r43 v n) c e b a h = decides (_ ∷ k) e a h
  ends_lacking k (r44 v) c e b a h = decides k e a h
  ends_lacking k (r45 {E = E} {s = s} v) c e b a h = absurd (known_at_end (Event s) E e v)
  ends_lacking k (if_true n d) c e b a h = absurd b
  ends_lacking k (if_true_on d) c e b a h = ends_lacking k d (further (omega arith) c) e b a h
  ends_lacking k (if_false n d) c e b a h = absurd b
  ends_lacking k (if_false_on d) c e b a h = ends_lacking k d (further (omega arith) c) e b a h

last_pass_lacks : {free : Allowed} {t : Term} {E : Env} {n : ℕ} {r : Result} (w : Wait) → Instant free t E n r
    → E.eoi ≡ true
    → E.move ≡ false
    → Blocked E.now t
    → waiting_in 0 t E.now ≡ some w
    → LacksAtTheEnd r.env.now w r.acts
last_pass_lacks w (r47 {r = r} d h) e m b x =
    let still = ap (λ G. G.move) (unchanged d (idles d e b).no_event) ∙ m in
    let a : Ahead r.env r.env.now = record { more = λ s e. e; same = λ e. (still, refl) } in
    rw (append-nil r.acts) at (ends_lacking r.env.now w [] d around_root e b a x)
last_pass_lacks w (r48 d h m' i) e m b x = absurd (STOP≢SUSP (sym (idles d e b).stops ∙ h))
last_pass_lacks w (r49 d h m' i) e m b x = absurd (STOP≢SUSP (sym (idles d e b).stops ∙ h))

pub lacks_at_the_end : {free : Allowed} {t : Term} {E : Env} {n : ℕ} {r : Result} (i : Instant free t E n r) (w : Wait)
    → waited i ≡ some w
    → LacksAtTheEnd r.env.now w r.acts
unfolding before_the_end first_wait
lacks_at_the_end (r47 d h) w x = let z : ◌≡◌ {A = ℕ} 0 1 = cc in absurd (omega arith)
lacks_at_the_end (r48 {r = r} d h m i) w x =
    behind r.acts (last_pass_lacks w i refl m (blocked d h m) (sym (way_down d h m) ∙ x))
lacks_at_the_end (r49 {r = r} d h m i) w x = behind r.acts (lacks_at_the_end i w x)

-- so the event named is absent where no Local around the test names it, in the reported set, and it wasn't handed in
pub absent_outside : {free : Allowed} {t : Term} {E : Env} {n : ℕ} {r : Result} (i : Instant free t E n r) {w : Wait}
    (x : LacksAtTheEnd r.env.now w r.acts)
    → x.place.scope w.event ≡ none
    → (r.env.now w.event ≡ false) × (E.now w.event ≡ false)
absent_outside {E = E} {r = r} i {w} x h =
    let off : r.env.now w.event ≡ false = ap (by_scope _ _) (sym h) ∙ x.event_is.absent in
    (off, go (E.now w.event) refl off)
  where
    go : (b : Bool) → E.now w.event ≡ b → r.env.now w.event ≡ false → b ≡ false
    go true e f = absurd (false≢true (sym f ∙ reported i w.event e))
    go false e f = refl

-- else it is absent in the nearest Local that names it, when that one's body last answered
pub absent_inside : {F : Events} {w : Wait} {l : List Act} (x : LacksAtTheEnd F w l) (n : ℕ)
    → x.place.scope w.event ≡ some n
    → last_answers x.later n ≡ false
absent_inside x n h = ap (by_scope _ _) (sym h) ∙ x.event_is.absent
