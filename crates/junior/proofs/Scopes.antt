-- Which Locals answer in a pass, by their nodes' numbers, and which are open: plus, so that their event is present to the end.
use Prim.Native.Nat.{ℕ, suc, ◌+◌, ◌≤◌, ◌<◌}
use mathlib.Core.Bool.{Bool, true, false, false≢true}
use mathlib.Core.Path.{◌≡◌, refl, sym, ap, ◌∙◌}
use mathlib.Core.Logic.{◌≢◌}
use mathlib.Core.List.{List, [], ◌∷◌, ◌++◌}
use native.Mathlib.Omega.{arith}
use borrow.Author.Tests.{ne_eqb}
use Rattle.events.specs.Events.{Events, put}
use Rattle.junior.specs.declared.Flag.{Flag}
use Rattle.junior.specs.declared.Flag.TheVariants.{SUSP, STOP, TERM}
use Rattle.junior.specs.Configuration.{Config, Env}
use Rattle.junior.specs.Program.{size}
use Rattle.junior.specs.Term.{Term, done, nothing, stop, atom, generate, await, seq0, seq2, par, loop0, loop1, repeat0, repeat1, when0, when1}
use Rattle.junior.specs.Term.{when2, until0, until*, until2, control, local, freezable0, freezable*, if0, if1, if2, prog, leave}
use Rattle.junior.specs.Trace.{Place, Act, did_atom, did_generate, did_park, decided, waits, scope_answered}
use Rattle.junior.specs.Rules.{Allowed, Result, sign, Rewrites, r1, r1_on, r2, r3, r4, r4_on, r5, r8, r9, r10, r11, r12, r13, r4_loop, r5_loop}
use Rattle.junior.specs.Rules.{r14, r15, r4_repeat, r5_repeat, r16, r17, r17_on, r18, r19, r19_on, r20, r21, r22, r23, r24, r25, r26, r27, r28}
use Rattle.junior.specs.Rules.{r29, r30, r31, r31_on, r32, r33, r34, r35_39, r40, r41, r42, r43, r44, r45, if_true, if_true_on, if_false}
use Rattle.junior.specs.Rules.{if_false_on}
use Rattle.junior.specs.AtRest.{AtRest}
use Rattle.junior.specs.Decided.{last_status, last_answers}
use Rattle.junior.specs.Flags.{γ, δ₁, δ₂}
use Rattle.junior.specs.Inside.{Remains}
use Rattle.junior.proofs.Little.{put_at}
use Rattle.junior.proofs.Going.{over_rest}
use Rattle.junior.proofs.Fresh.{prog_fresh}
use Rattle.junior.proofs.Kept.{prog_again, kept}

-- an answer of the Local at n, as a status
pub status_own : (α : Flag) (n : ℕ) (b : Bool) (σ : ℕ → Bool) → α ≢ SUSP → last_status α n b σ n ≡ b
status_own SUSP n b σ h = absurd (h refl)
status_own STOP n b σ h = put_at n b σ
status_own TERM n b σ h = put_at n b σ

pub status_elsewhere : (α : Flag) (n m : ℕ) (b : Bool) (σ : ℕ → Bool) → m ≢ n → last_status α n b σ m ≡ σ m
unfolding put
status_elsewhere SUSP n m b σ h = refl
status_elsewhere STOP n m b σ h = rw (ne_eqb m n h)
status_elsewhere TERM n m b σ h = rw (ne_eqb m n h)

-- only Locals at the nodes from i up to j answer in l
unfoldable pub Inside : ℕ → ℕ → List Act → Type 0
Inside i j [] = Unit {0}
Inside i j (did_atom a ∷ l) = Inside i j l
Inside i j (did_generate s ∷ l) = Inside i j l
Inside i j (did_park x ∷ l) = Inside i j l
Inside i j (decided P c b E ∷ l) = Inside i j l
Inside i j (waits P c E ∷ l) = Inside i j l
Inside i j (scope_answered n α b ∷ l) = ((i ≤ n) × (n < j)) × Inside i j l

pub record Between (i j : ℕ) (l : List Act) : Type 0 where
  pub inside : Inside i j l

widen : {i i' j j' : ℕ} {l : List Act} → (i ≤ i') × (j' ≤ j) → Between i' j' l → Between i j l
unfolding Inside
widen {i} {i'} {j} {j'} {l} h b = record { inside = go l b.inside }
  where
    go : (l : List Act) → Inside i' j' l → Inside i j l
    go [] b = tt
    go (did_atom a ∷ l) b = go l b
    go (did_generate s ∷ l) b = go l b
    go (did_park x ∷ l) b = go l b
    go (decided P c x E ∷ l) b = go l b
    go (waits P c E ∷ l) b = go l b
    go (scope_answered n α x ∷ l) b = ((omega arith, omega arith), go l b.1)

chain : {i j : ℕ} {l m : List Act} → Between i j l → Between i j m → Between i j (l ++ m)
unfolding Inside
chain {i} {j} {l} {m} a b = record { inside = go l a.inside }
  where
    go : (l : List Act) → Inside i j l → Inside i j (l ++ m)
    go [] a = b.inside
    go (did_atom n ∷ l) a = go l a
    go (did_generate s ∷ l) a = go l a
    go (did_park x ∷ l) a = go l a
    go (decided P c x E ∷ l) a = go l a
    go (waits P c E ∷ l) a = go l a
    go (scope_answered n α x ∷ l) a = (a.0, go l a.1)

-- the status of any other Local is what comes later
pub elsewhere : {i j : ℕ} {l : List Act} → Between i j l → (k : List Act) (n : ℕ) → (i ≤ n → n < j → ⊥)
    → last_answers (l ++ k) n ≡ last_answers k n
unfolding Inside last_answers
elsewhere {i} {j} {l} a k n o = go l a.inside
  where
    go : (l : List Act) → Inside i j l → last_answers (l ++ k) n ≡ last_answers k n
    go [] a = refl
    go (did_atom m ∷ l) a = go l a
    go (did_generate s ∷ l) a = go l a
    go (did_park x ∷ l) a = go l a
    go (decided P c x E ∷ l) a = go l a
    go (waits P c E ∷ l) a = go l a
    go (scope_answered m α x ∷ l) a =
        let apart : (n ≢ m) = λ e. o (omega arith) (omega arith) in
        status_elsewhere α m n x (last_answers (l ++ k)) apart ∙ go l a.1

tested : {i j : ℕ} {P : Place} {c : Config} {b : Bool} {E : Env} {l : List Act} → Between i j l
    → Between i j (decided P c b E ∷ l)
unfolding Inside
tested b = record { inside = b.inside }

pub between : {free : Allowed} {P : Place} {t : Term} {E : Env} {r : Result} → Rewrites free P t E r
    → Between P.node (P.node + size (prog t)) r.acts
unfolding size prog Inside
between r1 = record { inside = tt }
between r1_on = record { inside = tt }
between r2 = record { inside = tt }
between r3 = record { inside = tt }
between (r4 {q = q} d e) =
    chain (widen (omega arith) (between d)) (widen (omega (arith, ap size (prog_fresh q))) (between e))
between (r4_on d) = widen (omega arith) (between d)
between (r5 d h) = widen (omega arith) (between d)
between (r8 d e) = chain (widen (omega arith) (between d)) (widen (omega arith) (between e))
between (r9 f e d) = chain (widen (omega arith) (between e)) (widen (omega arith) (between d))
between (r10 h d) = widen (omega arith) (between d)
between (r11 h d) = widen (omega arith) (between d)
between (r12 {p = p} d h) = widen (omega (arith, ap size (prog_fresh p))) (between d)
between (r13 {p = p} f d e) = chain (widen (omega (arith, ap size (prog_fresh p))) (between d)) (between e)
between (r4_loop d e) = chain (widen (omega arith) (between d)) (between e)
between (r5_loop d h) = widen (omega arith) (between d)
between (r14 h) = record { inside = tt }
between (r15 {p = p} h d) = widen (omega (arith, ap size (prog_fresh p))) (between d)
between (r4_repeat {n = n} {k = k} {t = t} d e) =
    chain (widen (omega arith) (between d)) (widen (omega (arith, ap size (prog_again n k (prog t)))) (between e))
between (r5_repeat d h) = widen (omega arith) (between d)
between r16 = record { inside = tt }
between (r17 {p = p} s h d) = tested (widen (omega (arith, ap size (prog_fresh p))) (between d))
between (r17_on d) = widen (omega arith) (between d)
between (r18 s h) = record { inside = tt }
between (r19 {q = q} s h d) = tested (widen (omega (arith, ap size (prog_fresh q))) (between d))
between (r19_on d) = widen (omega arith) (between d)
between (r20 s h) = record { inside = tt }
between (r21 s) = record { inside = tt }
between (r22 s h) = record { inside = tt }
between (r23 s h) = record { inside = tt }
between (r24 s) = record { inside = tt }
between (r25 s) = record { inside = tt }
between (r26 h d) = tested (widen (omega arith) (between d))
between (r27 h) = record { inside = tt }
between (r28 h) = record { inside = tt }
between (r29 d h) = widen (omega arith) (between d)
between (r30 d e) = chain (widen (omega arith) (between d)) (widen (omega (arith, ap size (kept d))) (between e))
between (r31 {q = q} s h d) = tested (widen (omega (arith, ap size (prog_fresh q))) (between d))
between (r31_on d) = widen (omega arith) (between d)
between (r32 s h) = record { inside = tt }
between (r33 s) = record { inside = tt }
between (r34 s) = record { inside = tt }
between (r35_39 {P = P} {r = r} d) =
    chain (widen (omega arith) (between d)) (record { inside = ((omega arith, omega arith), tt) })
between (r40 d h) = widen (omega arith) (between d)
between (r41 d e) = chain (widen (omega arith) (between d)) (widen (omega (arith, ap size (kept d))) (between e))
between (r42 s h) = record { inside = tt }
between (r43 s h) = record { inside = tt }
between (r44 s) = record { inside = tt }
between (r45 s) = record { inside = tt }
between (if_true {p = p} h d) = widen (omega (arith, ap size (prog_fresh p))) (between d)
between (if_true_on d) = widen (omega arith) (between d)
between (if_false {q = q} h d) = widen (omega (arith, ap size (prog_fresh q))) (between d)
between (if_false_on d) = widen (omega arith) (between d)

-- in the state of node i, each Local plus has its event present by the statuses σ; an Until* and a Freezable* have left their bodies
unfoldable pub Open : Term → ℕ → (ℕ → Bool) → Type 0
Open (done p) i σ = Unit {0}
Open nothing i σ = Unit {0}
Open stop i σ = Unit {0}
Open (atom a) i σ = Unit {0}
Open (generate s) i σ = Unit {0}
Open (await c) i σ = Unit {0}
Open (seq0 t q) i σ = Open t (suc i) σ
Open (seq2 p t) i σ = Open t (suc i + size p) σ
Open (par α β t u) i σ = Open t (suc i) σ × Open u (suc i + size (prog t)) σ
Open (loop0 p) i σ = Unit {0}
Open (loop1 t) i σ = Open t (suc i) σ
Open (repeat0 n p) i σ = Unit {0}
Open (repeat1 n k t) i σ = Open t (suc i) σ
Open (when0 c p q) i σ = Unit {0}
Open (when1 c t q) i σ = Open t (suc i) σ
Open (when2 c p t) i σ = Open t (suc i + size p) σ
Open (until0 c t q) i σ = Open t (suc i) σ
Open (until* c t q) i σ = Unit {0}
Open (until2 c p t) i σ = Open t (suc i + size p) σ
Open (control s t) i σ = Open t (suc i) σ
Open (local b s t) i σ = (b ≡ true → σ i ≡ true) × Open t (suc i) σ
Open (freezable0 s t) i σ = Open t (suc i) σ
Open (freezable* s t) i σ = Unit {0}
Open (if0 v p q) i σ = Unit {0}
Open (if1 v t q) i σ = Open t (suc i) σ
Open (if2 v p t) i σ = Open t (suc i + size p) σ

pub rest_open : (t : Term) (i : ℕ) (σ : ℕ → Bool) → AtRest t → Open t i σ
unfolding AtRest Open
rest_open (done p) i σ a = tt
rest_open nothing i σ a = tt
rest_open stop i σ a = tt
rest_open (atom n) i σ a = tt
rest_open (generate s) i σ a = tt
rest_open (await c) i σ a = tt
rest_open (seq0 t q) i σ a = rest_open t _ σ a
rest_open (seq2 p t) i σ a = rest_open t _ σ a
rest_open (par α β t u) i σ a = (rest_open t _ σ a.3, rest_open u _ σ a.4)
rest_open (loop0 p) i σ a = tt
rest_open (loop1 t) i σ a = rest_open t _ σ a
rest_open (repeat0 n p) i σ a = tt
rest_open (repeat1 n k t) i σ a = rest_open t _ σ a.1
rest_open (when0 c p q) i σ a = tt
rest_open (when1 c t q) i σ a = rest_open t _ σ a
rest_open (when2 c p t) i σ a = rest_open t _ σ a
rest_open (until0 c t q) i σ a = rest_open t _ σ a
rest_open (until* c t q) i σ a = tt
rest_open (until2 c p t) i σ a = rest_open t _ σ a
rest_open (control s t) i σ a = rest_open t _ σ a
rest_open (local b s t) i σ a = (λ e. absurd (false≢true (sym a.0 ∙ e)), rest_open t _ σ a.1)
rest_open (freezable0 s t) i σ a = rest_open t _ σ a
rest_open (freezable* s t) i σ a = tt
rest_open (if0 v p q) i σ a = tt
rest_open (if1 v t q) i σ a = rest_open t _ σ a
rest_open (if2 v p t) i σ a = rest_open t _ σ a

-- σ and τ are the same from i up to j
pub record Agree (σ τ : ℕ → Bool) (i j : ℕ) : Type 0 where
  pub same : (n : ℕ) → i ≤ n → n < j → τ n ≡ σ n

narrow : {σ τ : ℕ → Bool} {i i' j j' : ℕ} → (i ≤ i') × (j' ≤ j) → Agree σ τ i j → Agree σ τ i' j'
narrow h a = record { same = λ n b c. a.same n (omega arith) (omega arith) }

-- a state has its Locals at the nodes from its own, as many as its program's size
open_same : {σ τ : ℕ → Bool} (t : Term) (i : ℕ) → Agree σ τ i (i + size (prog t)) → Open t i σ → Open t i τ
unfolding Open size prog
open_same (done p) i a o = tt
open_same nothing i a o = tt
open_same stop i a o = tt
open_same (atom n) i a o = tt
open_same (generate s) i a o = tt
open_same (await c) i a o = tt
open_same (seq0 t q) i a o = open_same t _ (narrow (omega arith) a) o
open_same (seq2 p t) i a o = open_same t _ (narrow (omega arith) a) o
open_same (par α β t u) i a o =
    (open_same t _ (narrow (omega arith) a) o.0, open_same u _ (narrow (omega arith) a) o.1)
open_same (loop0 p) i a o = tt
open_same (loop1 t) i a o = open_same t _ (narrow (omega arith) a) o
open_same (repeat0 n p) i a o = tt
open_same (repeat1 n k t) i a o = open_same t _ (narrow (omega arith) a) o
open_same (when0 c p q) i a o = tt
open_same (when1 c t q) i a o = open_same t _ (narrow (omega arith) a) o
open_same (when2 c p t) i a o = open_same t _ (narrow (omega arith) a) o
open_same (until0 c t q) i a o = open_same t _ (narrow (omega arith) a) o
open_same (until* c t q) i a o = tt
open_same (until2 c p t) i a o = open_same t _ (narrow (omega arith) a) o
open_same (control s t) i a o = open_same t _ (narrow (omega arith) a) o
open_same (local b s t) i a o =
    (λ e. a.same i (omega arith) (omega arith) ∙ o.0 e, open_same t _ (narrow (omega arith) a) o.1)
open_same (freezable0 s t) i a o = open_same t _ (narrow (omega arith) a) o
open_same (freezable* s t) i a o = tt
open_same (if0 v p q) i a o = tt
open_same (if1 v t q) i a o = open_same t _ (narrow (omega arith) a) o
open_same (if2 v p t) i a o = open_same t _ (narrow (omega arith) a) o

-- what Locals at other nodes answer doesn't matter
pub open_apart : {i j : ℕ} {l : List Act} (t : Term) (n : ℕ) (k : List Act) → Between i j l
    → ((m : ℕ) → n ≤ m → m < n + size (prog t) → i ≤ m → m < j → ⊥)
    → Open t n (last_answers k)
    → Open t n (last_answers (l ++ k))
open_apart t n k b h = open_same t n (record { same = λ m x y. elsewhere b k m (h m x y) })

-- a part of the node u is open as u is; one that answered TERM holds no Local
pub part_open : (r : Result) (u : Term) (i j : ℕ) (σ : ℕ → Bool) → Remains r.flag r.env.now r.to
    → (Open u i σ → Open r.to j σ)
    → Open (leave r.flag u) i σ
    → Open r.to j σ
unfolding leave
part_open r u i j σ g f = go r.flag g
  where
    go : (α : Flag) → Remains α r.env.now r.to → Open (leave α u) i σ → Open r.to j σ
    go SUSP g o = f o
    go STOP g o = f o
    go TERM g o = rest_open r.to j σ (over_rest r.to g)

pub branches_open : (α β : Flag) (X : Events) (t u : Term) (i : ℕ) (σ : ℕ → Bool) → Remains α X t → Remains β X u
    → Open (leave (γ α β) (par (δ₁ α β) (δ₂ α β) t u)) i σ
    → Open t (suc i) σ × Open u (suc i + size (prog t)) σ
unfolding leave Open
branches_open SUSP SUSP X t u i σ g h o = o
branches_open SUSP STOP X t u i σ g h o = o
branches_open SUSP TERM X t u i σ g h o = o
branches_open STOP SUSP X t u i σ g h o = o
branches_open STOP STOP X t u i σ g h o = o
branches_open STOP TERM X t u i σ g h o = o
branches_open TERM SUSP X t u i σ g h o = o
branches_open TERM STOP X t u i σ g h o = o
branches_open TERM TERM X t u i σ g h o = (rest_open t _ σ (over_rest t g), rest_open u _ σ (over_rest u h))

-- the body of a Local that answered, its event present or not (x): by the statuses from that answer on
pub body_open : (α : Flag) (X : Events) (b x : Bool) (s : ℕ) (t : Term) (i : ℕ) (σ : ℕ → Bool) → Remains α X t
    → Open (leave α (local (sign b α x) s t)) i σ
    → (x ≡ true → last_status α i x σ i ≡ true) × Open t (suc i) (last_status α i x σ)
unfolding leave Open
body_open SUSP X true x s t i σ g o = (λ e. o.0 refl, o.1)
body_open SUSP X false x s t i σ g o = o
body_open STOP X b x s t i σ g o = (λ e. put_at i x σ ∙ e, rest_open t _ _ g)
body_open TERM X b x s t i σ g o = (λ e. put_at i x σ ∙ e, rest_open t _ _ (over_rest t g))
