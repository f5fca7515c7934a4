-- The printed rules have one result, and tell every test that they read: two steps of one term, in environments that have both
-- or neither declared the end, with the same values, go one way up to a test among their deeds that they find two ways.
use Prim.Native.Nat.{ℕ, suc}
use native.Mathlib.Omega.{arith}
use mathlib.Core.Bool.{Bool, true, false, cond, ◌||◌, false≢true}
use mathlib.Core.Path.{◌≡◌, refl, sym, ap, ap₂, ◌∙◌, subst, subst⁻¹, fun_ext}
use mathlib.Core.Logic.{◌≢◌, ◌⊎◌, inl, inr}
use mathlib.Core.List.{List, [], ◌∷◌, ◌++◌}
use lib.Dec.{eqb}
use borrow.Author.Tests.{eqb-true, eq-eqb}
use Rattle.events.specs.Events.{put}
use Rattle.junior.specs.declared.Flag.{Flag}
use Rattle.junior.specs.declared.Flag.TheVariants.{SUSP, STOP, TERM}
use Rattle.junior.specs.declared.Verdict.{Verdict}
use Rattle.junior.specs.declared.Verdict.TheVariants.{Sat, Unsat, Unknown}
use Rattle.junior.specs.Flags.{γ, δ₁, δ₂}
use Rattle.junior.specs.Configuration.{Config, Event, Env, verdict, test}
use Rattle.junior.specs.Values.{Values}
use Rattle.junior.specs.Term.{Term}
use Rattle.junior.specs.Trace.{Act, did_atom, did_generate, did_park, decided, waits, scope_answered, collect, atoms, parks}
use Rattle.junior.specs.Rules.{left_first, Result}
use Rattle.junior.specs.Instant.{Instant}
use Rattle.junior.specs.Printed.{World, world, seen, with_event, generated, declared_end, unmoved, associated, with_frozen}
use Rattle.junior.specs.Printed.{reads, deeds, actions, froze, Freezable, Freezable*}
use Rattle.junior.specs.Printed.{Abstract, Seq, Par, Loop, Repeat, Until, Until*, Control, Local-, Local+, leaves, Deed, finds}
use Rattle.junior.specs.Printed.{◌⊢◌∣◌—[◌doing◌]→◌∣◌, ◌⊢◌∣◌—[◌doing◌]—◌passes→◌∣◌, rule1, rule2, rule3, rule4, rule5}
use Rattle.junior.specs.Printed.{rule8, rule10, rule11, rule12, rule13, rule14, rule15, rule16, rule17, rule18}
use Rattle.junior.specs.Printed.{rule19, rule20, rule21, rule22, rule23, rule24, rule25, rule26, rule27, rule28}
use Rattle.junior.specs.Printed.{rule29, rule30, rule31, rule32, rule33, rule34, rule35, rule36, rule37, rule38}
use Rattle.junior.specs.Printed.{rule39, rule40, rule41, rule42, rule43, rule44, rule45, if_true, if_false, repeat_ext, rule47, rule48, rule49}
use Rattle.junior.proofs.AsPrinted.{instant_as_printed}
use Rattle.junior.proofs.Little.{STOP≢SUSP, TERM≢SUSP, put_at}
use Rattle.junior.proofs.Verdicts.{test_event}

-- the same deeds up to a test, which is found two ways
pub data Forks : List Deed → List Deed → Type 0 where
  here : {c : Config} {v w : Verdict} {l k : List Deed} → v ≢ w → Forks (finds c v ∷ l) (finds c w ∷ k)
  later : {x : Deed} {l k : List Deed} → Forks l k → Forks (x ∷ l) (x ∷ k)

forks_left : {l k : List Deed} (m : List Deed) → Forks l k → Forks (l ++ m) k
forks_left m (here n) = here n
forks_left m (later f) = later (forks_left m f)

forks_right : {l k : List Deed} (m : List Deed) → Forks l k → Forks l (k ++ m)
forks_right m (here n) = here n
forks_right m (later f) = later (forks_right m f)

forks_after : (l : List Deed) {m n : List Deed} → Forks m n → Forks (l ++ m) (l ++ n)
forks_after [] f = f
forks_after (x ∷ l) f = later (forks_after l f)

-- E' and F' differ in nothing in which E and F don't
pub record Alike (E F E' F' : World) : Type 0 where
  pub now : (s : ℕ) → E.now s ≡ F.now s → E'.now s ≡ F'.now s
  pub eoi : E.eoi ≡ F.eoi → E'.eoi ≡ F'.eoi
  pub move : E.move ≡ F.move → E'.move ≡ F'.move
  pub frozen : E.frozen ≡ F.frozen → E'.frozen ≡ F'.frozen

alike_then : {E F E' F' E'' F'' : World} → Alike E F E' F' → Alike E' F' E'' F'' → Alike E F E'' F''
alike_then a b = record {
  now = λ s h. b.now s (a.now s h);
  eoi = λ h. b.eoi (a.eoi h);
  move = λ h. b.move (a.move h);
  frozen = λ h. b.frozen (a.frozen h);
}

alike_same : {E F E' F' : World} → Alike E F E' F' → E ≡ F → E' ≡ F'
alike_same {E' = E'} {F' = F'} a h =
    let x : E'.now ≡ F'.now = fun_ext (λ s. a.now s (ap (λ E. E.now s) h)) in
    let y : E'.eoi ≡ F'.eoi = a.eoi (ap (λ E. E.eoi) h) in
    let z : E'.move ≡ F'.move = a.move (ap (λ E. E.move) h) in
    let w : E'.frozen ≡ F'.frozen = a.frozen (ap (λ E. E.frozen) h) in
    λ i. record { now = x i; eoi = y i; move = z i; frozen = w i }

-- what a step gives, its environment aside
pub record Outcome : Type 0 where
  pub flag : Flag
  pub deeds : List Deed
  pub to : Abstract

abbrev pub out : Flag → List Deed → Abstract → Outcome
out α l t = record { flag = α; deeds = l; to = t }

-- from E to E' with r, from F to F' with s: the same, or by a test that E and F find two ways
pub data Compared (E F : World) (r : Outcome) (E' : World) (s : Outcome) (F' : World) : Type 0 where
  one_way : r ≡ s → Alike E F E' F' → Compared E F r E' s F'
  two_ways : Forks r.deeds s.deeds → E ≢ F → Compared E F r E' s F'

-- by a rule without premises on other steps
still : {E F : World} {r : Outcome} → Compared E F r E r F
still = one_way refl (record { now = λ s h. h; eoi = λ h. h; move = λ h. h; frozen = λ h. h })

-- by one rule around one step, behind the deeds m
part : {E F E' F' : World} {r s : Outcome} (m : List Deed) (flag : Outcome → Flag) (to : Outcome → Abstract)
    → Compared E F r E' s F'
    → Compared E F (out (flag r) (m ++ r.deeds) (to r)) E' (out (flag s) (m ++ s.deeds) (to s)) F'
part m flag to (one_way x a) = one_way (ap (λ r. out (flag r) (m ++ r.deeds) (to r)) x) a
part m flag to (two_ways f n) = two_ways (forks_after m f) n

-- by one rule around two steps, the second from where the first led
two_parts : {E F E' F' E'' F'' : World} {r s r' s' : Outcome} (flag : Outcome → Outcome → Flag)
    (to : Outcome → Outcome → Abstract)
    → E.eoi ≡ F.eoi
    → Compared E F r E' s F'
    → (r ≡ s → E'.eoi ≡ F'.eoi → Compared E' F' r' E'' s' F'')
    → Compared E F (out (flag r r') (r.deeds ++ r'.deeds) (to r r')) E'' (out (flag s s') (s.deeds ++ s'.deeds) (to s s')) F''
two_parts {E} {F} {E'} {F'} {E''} {F''} {r} {s} {r'} {s'} flag to e (one_way x a) next = go (next x (a.eoi e))
  where
    go : Compared E' F' r' E'' s' F''
        → Compared E F (out (flag r r') (r.deeds ++ r'.deeds) (to r r')) E'' (out (flag s s') (s.deeds ++ s'.deeds) (to s s')) F''
    go (one_way y b) =
        one_way (ap₂ (λ r s. out (flag r s) (r.deeds ++ s.deeds) (to r s)) x y) (alike_then a b)
    go (two_ways f n) =
        two_ways
        (subst (λ q. Forks (r.deeds ++ r'.deeds) (q.deeds ++ s'.deeds)) x (forks_after r.deeds f))
        (λ h. n (alike_same a h))
two_parts {r' = r'} {s' = s'} flag to e (two_ways f n) next = two_ways (forks_left r'.deeds (forks_right s'.deeds f)) n

-- by two rules that want two flags of the same step, the one with the flag α, or β, going on with m
goes_on : {E F E' F' E'' F'' : World} {r s : Outcome} {α β : Flag} {t u : Abstract} (m : List Deed) → Compared E F r E' s F'
    → r.flag ≢ s.flag
    → Compared E F (out α (r.deeds ++ m) t) E'' (out β s.deeds u) F''
goes_on m (one_way x a) n = absurd (n (ap (λ r. r.flag) x))
goes_on m (two_ways f n) h = two_ways (forks_left m f) n

comes_on : {E F E' F' E'' F'' : World} {r s : Outcome} {α β : Flag} {t u : Abstract} (m : List Deed) → Compared E F r E' s F'
    → r.flag ≢ s.flag
    → Compared E F (out α r.deeds t) E'' (out β (s.deeds ++ m) u) F''
comes_on m (one_way x a) n = absurd (n (ap (λ r. r.flag) x))
comes_on m (two_ways f n) h = two_ways (forks_right m f) n

-- by two rules that want two answers of the same test
abbrev rank : Verdict → ℕ
rank Sat = 0
rank Unsat = 1
rank Unknown = 2

forked : {E F E' F' : World} {c : Config} {v w : Verdict} {α β : Flag} {l k : List Deed} {t u : Abstract} → test c (seen E) ≡ v
    → test c (seen F) ≡ w
    → eqb (rank v) (rank w) ≡ false
    → Compared E F (out α (finds c v ∷ l) t) E' (out β (finds c w ∷ k) u) F'
forked {c = c} {v = v} {w = w} x y n = two_ways (here other) (λ h. other (sym x ∙ (ap (λ E. test c (seen E)) h ∙ y)))
  where
    other : v ≢ w
    other h = false≢true (sym n ∙ eq-eqb (rank v) (rank w) (ap rank h))

-- rules 42 to 45 read the configuration of their event
event_read : (s : ℕ) (E : World) (b e : Bool) → E.now s ≡ b → E.eoi ≡ e → test (Event s) (seen E) ≡ verdict (b || e) b
event_read s E b e h k = test_event s (seen E) ∙ ap₂ (λ b e. verdict (b || e) b) h k

-- by a rule before the end and one after it
before_after : {A : Type 0} {x y : Bool} → x ≡ y → x ≡ false → y ≡ true → A
before_after e h k = absurd (false≢true (sym h ∙ (e ∙ k)))

after_before : {A : Type 0} {x y : Bool} → x ≡ y → x ≡ true → y ≡ false → A
after_before e h k = absurd (false≢true (sym k ∙ (sym e ∙ h)))

-- a Local of s around a step, left as t or u
scoped : {E F G H : World} {r q : Outcome} {t u : Abstract} (s : ℕ) (b : Bool)
    → Compared (with_event s b E) (with_event s b F) r G q H
    → (r ≡ q → G.now s ≡ H.now s → t ≡ u)
    → Compared E F (out r.flag r.deeds t) (with_event s (E.now s) G) (out q.flag q.deeds u) (with_event s (F.now s) H)
unfolding put
scoped {E} {F} {G} {H} s b (one_way x a) f =
    let own = a.now s (put_at s b E.now ∙ sym (put_at s b F.now)) in
    one_way
    (ap₂ (λ r t. out r.flag r.deeds t) x (f x own))
    (record { now = λ n h. go n h (eqb n s) (eqb-true n s) (a.now n); eoi = a.eoi; move = a.move; frozen = a.frozen })
  where
    go : (n : ℕ) → E.now n ≡ F.now n → (q : Bool) → (q ≡ true → n ≡ s)
        → (cond q b (E.now n) ≡ cond q b (F.now n) → G.now n ≡ H.now n)
        → cond q (E.now s) (G.now n) ≡ cond q (F.now s) (H.now n)
    go n h true k f = ap E.now (sym (k refl)) ∙ (h ∙ ap F.now (k refl))
    go n h false k f = f h
scoped s b (two_ways f n) g = two_ways f (λ h. n (ap (with_event s b) h))

-- the flag of rules 38 and 39 isn't SUSP
ended : {α : Flag} → (α ≡ TERM) ⊎ (α ≡ STOP) → α ≢ SUSP
ended (inl x) h = TERM≢SUSP (sym x ∙ h)
ended (inr x) h = STOP≢SUSP (sym x ∙ h)

raised : (s : ℕ) (E F : World) → Alike E F (generated s E) (generated s F)
unfolding put
raised s E F = record { now = λ n h. ap (cond (eqb n s) true) h; eoi = λ h. h; move = λ h. refl; frozen = λ h. h }

-- t frozen beside what is frozen there already
parked : (s : ℕ) (t : Abstract) (E F : World)
    → Alike E F (with_frozen s (Par SUSP SUSP t (E.frozen s)) E) (with_frozen s (Par SUSP SUSP t (F.frozen s)) F)
parked s t E F = record {
  now = λ n h. h;
  eoi = λ h. h;
  move = λ h. h;
  frozen = λ h. ap (λ T. associated s (Par SUSP SUSP t (T s)) T) h;
}

pub told : {eval : Values} {α β : Flag} {E E' F F' : World} {l k : List Deed} {t t' u : Abstract}
    → eval ⊢ t ∣ E —[ α doing l ]→ t' ∣ E'
    → eval ⊢ t ∣ F —[ β doing k ]→ u ∣ F'
    → E.eoi ≡ F.eoi
    → Compared E F (out α l t') E' (out β k u) F'
told rule1 rule1 e = still
told rule2 rule2 e = still
told rule3 rule3 e = still
told (rule4 d f) (rule4 d' f') e =
    two_parts (λ r s. s.flag) (λ r s. s.to) e (told d d' e) (λ x y. told f f' y)
told (rule4 {l = l} d f) (rule5 d' h) e = goes_on l (told d d' e) (λ x. h (sym x))
told (rule5 d h) (rule4 {l = l} d' f) e = comes_on l (told d d' e) h
told (rule5 {u = u} d h) (rule5 d' h') e = part [] (λ r. r.flag) (λ r. Seq r.to u) (told d d' e)
told (rule8 d f) (rule8 d' f') e =
    two_parts
    (λ r s. γ r.flag s.flag)
    (λ r s. leaves (γ r.flag s.flag) (Par (δ₁ r.flag s.flag) (δ₂ r.flag s.flag) r.to s.to))
    e
    (told d d' e)
    (λ x y. told f f' y)
told (rule8 d f) (rule10 h d') e = absurd (h refl)
told (rule8 d f) (rule11 h d') e = absurd (h refl)
told (rule10 h d) (rule8 d' f) e = absurd (h refl)
told (rule10 {u = u} {β = β} h d) (rule10 h' d') e =
    part
    []
    (λ r. γ r.flag β)
    (λ r. leaves (γ r.flag β) (Par (δ₁ r.flag β) (δ₂ r.flag β) r.to u))
    (told d d' e)
told (rule10 h d) (rule11 h' d') e = absurd (h refl)
told (rule11 h d) (rule8 d' f) e = absurd (h refl)
told (rule11 h d) (rule10 h' d') e = absurd (h refl)
told (rule11 {t = t} {α = α} h d) (rule11 h' d') e =
    part
    []
    (λ r. γ α r.flag)
    (λ r. leaves (γ α r.flag) (Par (δ₁ α r.flag) (δ₂ α r.flag) t r.to))
    (told d d' e)
told (rule12 {t = t} d h) (rule12 d' h') e = part [] (λ r. r.flag) (λ r. Seq r.to (Loop t)) (told d d' e)
told (rule12 d h) (rule13 {l = l} d' f) e = comes_on l (told d d' e) h
told (rule13 {l = l} d f) (rule12 d' h) e = goes_on l (told d d' e) (λ x. h (sym x))
told (rule13 d f) (rule13 d' f') e =
    two_parts (λ r s. s.flag) (λ r s. s.to) e (told d d' e) (λ x y. told f f' y)
told (rule14 h) (rule14 h') e = still
told (rule14 h) (rule15 h' d) e = absurd (omega arith)
told (rule15 h d) (rule14 h') e = absurd (omega arith)
told (rule15 h d) (rule15 h' d') e = told d d' e
told (rule16 {E = E} {s = s}) (rule16 {E = F}) e = one_way refl (raised s E F)
told (rule17 {c = c} s h d) (rule17 s' h' d') e = part (finds c Sat ∷ []) (λ r. r.flag) (λ r. r.to) (told d d' e)
told (rule17 s h d) (rule18 s' h') e = before_after e h h'
told (rule17 s h d) (rule19 s' h' d') e = forked s s' refl
told (rule17 s h d) (rule20 s' h') e = forked s s' refl
told (rule17 s h d) (rule21 s') e = forked s s' refl
told (rule18 s h) (rule17 s' h' d') e = after_before e h h'
told (rule18 s h) (rule18 s' h') e = still
told (rule18 s h) (rule19 s' h' d') e = forked s s' refl
told (rule18 s h) (rule20 s' h') e = forked s s' refl
told (rule18 s h) (rule21 s') e = forked s s' refl
told (rule19 s h d) (rule17 s' h' d') e = forked s s' refl
told (rule19 s h d) (rule18 s' h') e = forked s s' refl
told (rule19 {c = c} s h d) (rule19 s' h' d') e = part (finds c Unsat ∷ []) (λ r. r.flag) (λ r. r.to) (told d d' e)
told (rule19 s h d) (rule20 s' h') e = before_after e h h'
told (rule19 s h d) (rule21 s') e = forked s s' refl
told (rule20 s h) (rule17 s' h' d') e = forked s s' refl
told (rule20 s h) (rule18 s' h') e = forked s s' refl
told (rule20 s h) (rule19 s' h' d') e = after_before e h h'
told (rule20 s h) (rule20 s' h') e = still
told (rule20 s h) (rule21 s') e = forked s s' refl
told (rule21 s) (rule17 s' h' d') e = forked s s' refl
told (rule21 s) (rule18 s' h') e = forked s s' refl
told (rule21 s) (rule19 s' h' d') e = forked s s' refl
told (rule21 s) (rule20 s' h') e = forked s s' refl
told (rule21 s) (rule21 s') e = still
told (rule22 s h) (rule22 s' h') e = still
told (rule22 s h) (rule23 s' h') e = before_after e h h'
told (rule22 s h) (rule24 s') e = forked s s' refl
told (rule22 s h) (rule25 s') e = forked s s' refl
told (rule23 s h) (rule22 s' h') e = after_before e h h'
told (rule23 s h) (rule23 s' h') e = still
told (rule23 s h) (rule24 s') e = forked s s' refl
told (rule23 s h) (rule25 s') e = forked s s' refl
told (rule24 s) (rule22 s' h') e = forked s s' refl
told (rule24 s) (rule23 s' h') e = forked s s' refl
told (rule24 s) (rule24 s') e = still
told (rule24 s) (rule25 s') e = forked s s' refl
told (rule25 s) (rule22 s' h') e = forked s s' refl
told (rule25 s) (rule23 s' h') e = forked s s' refl
told (rule25 s) (rule24 s') e = forked s s' refl
told (rule25 s) (rule25 s') e = still
told (rule26 {s = n} s d) (rule26 s' d') e = part (finds (Event n) Sat ∷ []) (λ r. r.flag) (λ r. leaves r.flag (Control n r.to)) (told d d' e)
told (rule26 s d) (rule27 s') e = forked s s' refl
told (rule26 s d) (rule28 s') e = forked s s' refl
told (rule27 s) (rule26 s' d') e = forked s s' refl
told (rule27 s) (rule27 s') e = still
told (rule27 s) (rule28 s') e = forked s s' refl
told (rule28 s) (rule26 s' d') e = forked s s' refl
told (rule28 s) (rule27 s') e = forked s s' refl
told (rule28 s) (rule28 s') e = still
told (rule29 {c = c} {u = u} d h) (rule29 d' h') e =
    part [] (λ r. r.flag) (λ r. leaves r.flag (Until c r.to u)) (told d d' e)
told (rule29 d h) (rule30 {l = l} d' f) e = comes_on l (told d d' e) h
told (rule30 {l = l} d f) (rule29 d' h) e = goes_on l (told d d' e) (λ x. h (sym x))
told {eval = eval} (rule30 {c = c} {u = u} d f) (rule30 {v = v} {E' = F} {E'' = G} {α = β} {l = l} d' f') e =
    two_parts (λ r s. s.flag) (λ r s. s.to) e (told d d' e) (λ x y.
    told f (subst⁻¹ (λ r. eval ⊢ Until* c r.to u ∣ F —[ β doing l ]→ v ∣ G) x f') y)
told (rule31 {c = c} s h d) (rule31 s' h' d') e = part (finds c Sat ∷ []) (λ r. r.flag) (λ r. r.to) (told d d' e)
told (rule31 s h d) (rule32 s' h') e = before_after e h h'
told (rule31 s h d) (rule33 s') e = forked s s' refl
told (rule31 s h d) (rule34 s') e = forked s s' refl
told (rule32 s h) (rule31 s' h' d') e = after_before e h h'
told (rule32 s h) (rule32 s' h') e = still
told (rule32 s h) (rule33 s') e = forked s s' refl
told (rule32 s h) (rule34 s') e = forked s s' refl
told (rule33 s) (rule31 s' h' d') e = forked s s' refl
told (rule33 s) (rule32 s' h') e = forked s s' refl
told (rule33 s) (rule33 s') e = still
told (rule33 s) (rule34 s') e = forked s s' refl
told (rule34 s) (rule31 s' h' d') e = forked s s' refl
told (rule34 s) (rule32 s' h') e = forked s s' refl
told (rule34 s) (rule33 s') e = forked s s' refl
told (rule34 s) (rule34 s') e = still
told (rule35 {s = s} d h) (rule35 d' h') e = scoped s false (told d d' e) (λ x y. ap (λ r. Local- s r.to) x)
told (rule35 {s = s} d h) (rule36 d' h') e = scoped s false (told d d' e) (λ x y. before_after y h h')
told (rule35 {s = s} d h) (rule38 d' n) e = scoped s false (told d d' e) (λ x y. absurd (ended n (sym (ap (λ r. r.flag) x))))
told (rule36 {s = s} d h) (rule35 d' h') e = scoped s false (told d d' e) (λ x y. after_before y h h')
told (rule36 {s = s} d h) (rule36 d' h') e = scoped s false (told d d' e) (λ x y. ap (λ r. Local+ s r.to) x)
told (rule36 {s = s} d h) (rule38 d' n) e = scoped s false (told d d' e) (λ x y. absurd (ended n (sym (ap (λ r. r.flag) x))))
told (rule37 {s = s} d) (rule37 d') e = scoped s true (told d d' e) (λ x y. ap (λ r. Local+ s r.to) x)
told (rule37 {s = s} d) (rule39 d' n) e = scoped s true (told d d' e) (λ x y. absurd (ended n (sym (ap (λ r. r.flag) x))))
told (rule38 {s = s} d n) (rule35 d' h) e = scoped s false (told d d' e) (λ x y. absurd (ended n (ap (λ r. r.flag) x)))
told (rule38 {s = s} d n) (rule36 d' h) e = scoped s false (told d d' e) (λ x y. absurd (ended n (ap (λ r. r.flag) x)))
told (rule38 {s = s} d n) (rule38 d' n') e =
    scoped s false (told d d' e) (λ x y. ap (λ r. leaves r.flag (Local- s r.to)) x)
told (rule39 {s = s} d n) (rule37 d') e = scoped s true (told d d' e) (λ x y. absurd (ended n (ap (λ r. r.flag) x)))
told (rule39 {s = s} d n) (rule39 d' n') e =
    scoped s true (told d d' e) (λ x y. ap (λ r. leaves r.flag (Local- s r.to)) x)
told (rule40 {s = s} d h) (rule40 d' h') e = part [] (λ r. r.flag) (λ r. leaves r.flag (Freezable s r.to)) (told d d' e)
told (rule40 d h) (rule41 {l = l} d' f) e = comes_on l (told d d' e) h
told (rule41 {l = l} d f) (rule40 d' h) e = goes_on l (told d d' e) (λ x. h (sym x))
told {eval = eval} (rule41 {s = s} d f) (rule41 {v = v} {E' = F} {E'' = G} {α = β} {l = l} d' f') e =
    two_parts (λ r s. s.flag) (λ r s. s.to) e (told d d' e) (λ x y.
    told f (subst⁻¹ (λ r. eval ⊢ Freezable* s r.to ∣ F —[ β doing l ]→ v ∣ G) x f') y)
told (rule42 {s = s} {t = t} {E = E} v h) (rule42 {E = F} v' h') e = one_way refl (parked s t E F)
told (rule42 v h) (rule43 v' h') e = before_after e h h'
told (rule42 v h) (rule44 v' h') e = before_after e h h'
told (rule42 {s = s} {E = E} v h) (rule45 {E = F} v' h') e = forked (event_read s E true false v h) (event_read s F false false v' h') refl
told (rule43 v h) (rule42 v' h') e = after_before e h h'
told (rule43 {s = s} {t = t} {E = E} v h) (rule43 {E = F} v' h') e = one_way refl (parked s t E F)
told (rule43 {s = s} {E = E} v h) (rule44 {E = F} v' h') e = forked (event_read s E true true v h) (event_read s F false true v' h') refl
told (rule43 v h) (rule45 v' h') e = after_before e h h'
told (rule44 v h) (rule42 v' h') e = after_before e h h'
told (rule44 {s = s} {E = E} v h) (rule43 {E = F} v' h') e = forked (event_read s E false true v h) (event_read s F true true v' h') refl
told (rule44 v h) (rule44 v' h') e = still
told (rule44 v h) (rule45 v' h') e = after_before e h h'
told (rule45 {s = s} {E = E} v h) (rule42 {E = F} v' h') e = forked (event_read s E false false v h) (event_read s F true false v' h') refl
told (rule45 v h) (rule43 v' h') e = before_after e h h'
told (rule45 v h) (rule44 v' h') e = before_after e h h'
told (rule45 v h) (rule45 v' h') e = still
told (if_true h d) (if_true h' d') e = told d d' e
told (if_true h d) (if_false h' d') e = absurd (false≢true (sym h' ∙ h))
told (if_false h d) (if_true h' d') e = absurd (false≢true (sym h ∙ h'))
told (if_false h d) (if_false h' d') e = told d d' e
told {eval = eval} (repeat_ext {t = t} h d) (repeat_ext {t' = u} {E = F} {E' = G} {α = β} {l = k} h' d') e =
    told d (subst⁻¹ (λ n. eval ⊢ Repeat n t ∣ F —[ β doing k ]→ u ∣ G) (sym h ∙ h') d') e

pub printed_once : {eval : Values} {t t' u : Abstract} {E E' F : World} {α β : Flag} {l k : List Deed}
    → eval ⊢ t ∣ E —[ α doing l ]→ t' ∣ E'
    → eval ⊢ t ∣ E —[ β doing k ]→ u ∣ F
    → (α ≡ β) × (l ≡ k) × (t' ≡ u) × (E' ≡ F)
printed_once {t' = t'} {u = u} {E = E} {E' = E'} {F = F} {α = α} {β = β} {l = l} {k = k} d d' = go (told d d' refl)
  where
    go : Compared E E (out α l t') E' (out β k u) F → (α ≡ β) × (l ≡ k) × (t' ≡ u) × (E' ≡ F)
    go (one_way x a) = (ap (λ r. r.flag) x, ap (λ r. r.deeds) x, ap (λ r. r.to) x, alike_same a refl)
    go (two_ways f n) = absurd (n refl)

-- what is an instant from u in F is one from t in E, these being the same
from : {eval : Values} {t u v : Abstract} {E F G : World} {α : Flag} {l : List Deed} {n : ℕ} → t ≡ u → E ≡ F
    → eval ⊢ u ∣ F —[ α doing l ]— n passes→ v ∣ G
    → eval ⊢ t ∣ E —[ α doing l ]— n passes→ v ∣ G
from {eval} {t} {v = v} {F = F} {G = G} {α = α} {l = l} {n = n} x y i =
    subst⁻¹ (λ E. eval ⊢ t ∣ E —[ α doing l ]— n passes→ v ∣ G) y (subst⁻¹ (λ t. eval ⊢ t ∣ F —[ α doing l ]— n passes→ v ∣ G) x i)

pub instant_printed_once : {eval : Values} {t t' u : Abstract} {E E' F : World} {α β : Flag} {l k : List Deed} {m n : ℕ}
    → eval ⊢ t ∣ E —[ α doing l ]— m passes→ t' ∣ E'
    → eval ⊢ t ∣ E —[ β doing k ]— n passes→ u ∣ F
    → (m ≡ n) × (α ≡ β) × (l ≡ k) × (t' ≡ u) × (E' ≡ F)
instant_printed_once (rule47 d h) (rule47 d' h') = let (f, q, r, s) = printed_once d d' in (refl, f, q, r, s)
instant_printed_once (rule47 d h) (rule48 d' o i) = absurd (h (printed_once d d').0)
instant_printed_once (rule47 d h) (rule49 d' o i) = absurd (h (printed_once d d').0)
instant_printed_once (rule48 d o i) (rule47 d' h) = absurd (h (sym (printed_once d d').0))
instant_printed_once (rule48 d o i) (rule48 d' o' i') =
    let (x, y, z, w) = printed_once d d' in
    let (p, f, q, r, s) = instant_printed_once i (from z (ap declared_end w) i') in
    (ap suc p, f, ap₂ ◌++◌ y q, r, s)
instant_printed_once (rule48 d o i) (rule49 d' o' i') =
    before_after (ap (λ E. E.move) (printed_once d d').3) o o'
instant_printed_once (rule49 d o i) (rule47 d' h) = absurd (h (sym (printed_once d d').0))
instant_printed_once (rule49 d o i) (rule48 d' o' i') =
    after_before (ap (λ E. E.move) (printed_once d d').3) o o'
instant_printed_once (rule49 d o i) (rule49 d' o' i') =
    let (x, y, z, w) = printed_once d d' in
    let (p, f, q, r, s) = instant_printed_once i (from z (ap unmoved w) i') in
    (ap suc p, f, ap₂ ◌++◌ y q, r, s)

-- so an instant by the printed rules, from what a term reads as, is the instant of that term, and freezes what that parks
pub printed_exactly : {eval : Values} {t : Term} {E : Env} {T : ℕ → Abstract} {F : World} {m n : ℕ} {r : Result} {β : Flag} {k : List Deed} {u : Abstract}
    → Instant (left_first eval) t E m r
    → eval ⊢ reads t ∣ world E T —[ β doing k ]— n passes→ u ∣ F
    → (m ≡ n) × (r.flag ≡ β) × (deeds r.acts ≡ k) × (reads r.to ≡ u) × (world r.env (froze (parks r.acts) T) ≡ F)
printed_exactly {T = T} i j = instant_printed_once (instant_as_printed i T) j

pub actions_deeds : (l : List Act) → actions (deeds l) ≡ atoms l
unfolding actions deeds collect
actions_deeds [] = refl
actions_deeds (did_atom a ∷ l) = ap (λ k. a ∷ k) (actions_deeds l)
actions_deeds (did_generate s ∷ l) = actions_deeds l
actions_deeds (did_park x ∷ l) = actions_deeds l
actions_deeds (decided P c b E ∷ l) = actions_deeds l
actions_deeds (waits P c E ∷ l) = actions_deeds l
actions_deeds (scope_answered n α b ∷ l) = actions_deeds l
