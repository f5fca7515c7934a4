-- One outcome is another with acts before it; the laws of that, one for each way in which outcomes are put together.
use Prim.Native.Nat.{ℕ, ◌+◌}
use mathlib.Core.Bool.{Bool, true, false, ◌||◌, or_assoc, or_comm}
use mathlib.Core.Path.{◌≡◌, refl, ap, ap₂, sym, ◌∙◌, subst}
use mathlib.Core.List.{List, [], ◌∷◌, ◌++◌, append-nil}
use native.Mathlib.Omega.{arith}
use lib.Dec.{eqb}
use borrow.Author.Tests.{eqb-true}
use Rattle.events.specs.Events.{Events, put}
use Rattle.junior.specs.declared.Flag.{Flag}
use Rattle.junior.specs.Term.{Term, leave, local}
use Rattle.junior.specs.Flags.{γ}
use Rattle.junior.specs.Configuration.{Config, Env}
use Rattle.junior.specs.Trace.{Place, Piece, Act, did_atom, did_generate, did_park, decided, waits, scope_answered, atom_of, piece_of, collect}
use Rattle.junior.specs.Trace.{atoms, parks}
use Rattle.junior.specs.Course.{◌⊆◌}
use Rattle.junior.specs.Order.{often, tells, decides}
use Rattle.junior.specs.Parked.{together}
use Rattle.junior.proofs.Little.{collect-++, put_at}
use Rattle.junior.proofs.WayDown.{branch_that_waits, or_else}
use Rattle.junior.proofs.Settle.{Out, bind, says, paired, join, hidden}

-- how often acts do an atom
abbrev pub times : ℕ → List Act → ℕ
times a l = often a (atoms l)

often-++ : (a : ℕ) (l k : List ℕ) → often a (l ++ k) ≡ often a l + often a k
unfolding often
often-++ a [] k = omega arith
often-++ a (n ∷ l) k = omega (arith, often-++ a l k)

pub times-++ : (a : ℕ) (l k : List Act) → times a (l ++ k) ≡ times a l + times a k
times-++ a l k = ap (often a) (collect-++ atom_of l k) ∙ often-++ a (atoms l) (atoms k)

-- what the pieces weigh together that acts park
abbrev pub weigh : (Piece → ℕ) → List Act → ℕ
weigh v l = together v (parks l)

together-++ : (v : Piece → ℕ) (l k : List Piece) → together v (l ++ k) ≡ together v l + together v k
unfolding together
together-++ v [] k = omega arith
together-++ v (x ∷ l) k = omega (arith, together-++ v l k)

pub weigh-++ : (v : Piece → ℕ) (l k : List Act) → weigh v (l ++ k) ≡ weigh v l + weigh v k
weigh-++ v l k = ap (together v) (collect-++ piece_of l k) ∙ together-++ v (parks l) (parks k)

pub decides-++ : (n : ℕ) (b : Bool) (l k : List Act) → decides n b (l ++ k) ≡ (decides n b l || decides n b k)
unfolding decides
decides-++ n b [] k = refl
decides-++ n b (did_atom a ∷ l) k = decides-++ n b l k
decides-++ n b (did_generate s ∷ l) k = decides-++ n b l k
decides-++ n b (did_park x ∷ l) k = decides-++ n b l k
decides-++ n b (decided P c v E ∷ l) k =
    ap (λ x. tells P v n b || x) (decides-++ n b l k)
    ∙ sym (or_assoc (tells P v n b) (decides n b l) (decides n b k))
decides-++ n b (waits P c E ∷ l) k = decides-++ n b l k
decides-++ n b (scope_answered m α v ∷ l) k = decides-++ n b l k

-- acts that do the same atoms, equally often, park the same pieces and decide the same tests
pub record Alike (l k : List Act) : Type 0 where
  pub atoms_alike : (a : ℕ) → times a l ≡ times a k
  pub pieces_alike : (v : Piece → ℕ) → weigh v l ≡ weigh v k
  pub tests_alike : (n : ℕ) (b : Bool) → decides n b l ≡ decides n b k

pub alike_same : {l : List Act} → Alike l l
alike_same = record { atoms_alike = λ a. refl; pieces_alike = λ v. refl; tests_alike = λ n b. refl }

pub alike_swapped : (l k : List Act) → Alike (l ++ k) (k ++ l)
alike_swapped l k = record {
  atoms_alike = λ a. omega (arith, times-++ a l k, times-++ a k l);
  pieces_alike = λ v. omega (arith, weigh-++ v l k, weigh-++ v k l);
  tests_alike = λ n b. decides-++ n b l k ∙ (or_comm (decides n b l) (decides n b k) ∙ sym (decides-++ n b k l));
}

pub alike_nil : (l : List Act) → Alike (l ++ []) l
alike_nil l = record {
  atoms_alike = λ a. ap (times a) (append-nil l);
  pieces_alike = λ v. ap (weigh v) (append-nil l);
  tests_alike = λ n b. ap (decides n b) (append-nil l);
}

-- o is what the acts l and then o' come to; of events in X nothing is said
pub record Fits (X : Events) (l : List Act) (o o' : Out) : Type 0 where
  pub flags : o.flag ≡ o'.flag
  pub terms : o.to ≡ o'.to
  pub events : (n : ℕ) → (X n || o.gens n) ≡ (X n || o'.gens n)
  pub counts : (a : ℕ) → o.hits a ≡ times a l + o'.hits a
  pub pieces : (v : Piece → ℕ) → o.parked v ≡ weigh v l + o'.parked v
  pub told : (n : ℕ) (b : Bool) → o.tests n b ≡ (decides n b l || o'.tests n b)
  pub waits : o.wait ≡ o'.wait

-- of the events Y, o generates only such as are in X
abbrev pub Within : Events → Events → Out → Type 0
Within Y X o = (n : ℕ) → Y n ≡ true → o.gens n ≡ true → X n ≡ true

pub fits_same : {X : Events} {l : List Act} {o : Out} → Alike [] l → Fits X l o o
unfolding often together collect decides
fits_same {o = o} h = record {
  flags = refl;
  terms = refl;
  events = λ n. refl;
  counts = λ a. omega (arith, h.atoms_alike a);
  pieces = λ v. omega (arith, h.pieces_alike v);
  told = λ n b. ap (λ x. x || o.tests n b) (h.tests_alike n b);
  waits = refl;
}

pub fits_as : {X : Events} {l k : List Act} {o o' : Out} → Alike l k → Fits X l o o' → Fits X k o o'
fits_as {o' = o'} h f = record {
  flags = f.flags;
  terms = f.terms;
  events = f.events;
  counts = λ a. omega (arith, h.atoms_alike a, f.counts a);
  pieces = λ v. omega (arith, h.pieces_alike v, f.pieces v);
  told = λ n b. f.told n b ∙ ap (λ x. x || o'.tests n b) (h.tests_alike n b);
  waits = f.waits;
}

pub fits_then : {X : Events} {l k : List Act} {o o' o'' : Out} → Fits X l o o' → Fits X k o' o'' → Fits X (l ++ k) o o''
fits_then {l = l} {k} {o'' = o''} f g = record {
  flags = f.flags ∙ g.flags;
  terms = f.terms ∙ g.terms;
  events = λ n. f.events n ∙ g.events n;
  counts = λ a. omega (arith, times-++ a l k, f.counts a, g.counts a);
  pieces = λ v. omega (arith, weigh-++ v l k, f.pieces v, g.pieces v);
  told = λ n b.
      f.told n b
      ∙ (ap (λ x. decides n b l || x) (g.told n b)
      ∙ (sym (or_assoc (decides n b l) (decides n b k) (o''.tests n b)) ∙ ap (λ x. x || o''.tests n b) (sym (decides-++ n b l k))));
  waits = f.waits ∙ g.waits;
}

-- x or more of it
both_more : (x a b c d : Bool) → (x || a) ≡ (x || b) → (x || c) ≡ (x || d) → (x || (a || c)) ≡ (x || (b || d))
both_more true a b c d h k = refl
both_more false a b c d h k = ap₂ ◌||◌ h k

or_again : (a b c : Bool) → (a || (b || c)) ≡ ((a || b) || (a || c))
or_again true b c = refl
or_again false b c = refl

or_swap : (a b c d : Bool) → ((a || b) || (c || d)) ≡ ((a || c) || (b || d))
or_swap true b c d = refl
or_swap false true true d = refl
or_swap false true false d = refl
or_swap false false c d = refl

-- what comes after is the same for both
pub fits_bind : {X : Events} {l : List Act} {o o' : Out} (h : Flag → Term → Out) → Fits X l o o' → Fits X l (bind o h) (bind o' h)
unfolding bind
fits_bind {X} {l} {o} {o'} h f = record {
  flags = λ i. (h (f.flags i) (f.terms i)).flag;
  terms = λ i. (h (f.flags i) (f.terms i)).to;
  events = λ n.
      both_more (X n) (o.gens n) (o'.gens n) _ _ (f.events n) (λ i. X n || (h (f.flags i) (f.terms i)).gens n);
  counts = λ a.
      let e : (h o.flag o.to).hits a ≡ (h o'.flag o'.to).hits a = λ i. (h (f.flags i) (f.terms i)).hits a in
      omega (arith, f.counts a);
  pieces = λ v.
      let e : (h o.flag o.to).parked v ≡ (h o'.flag o'.to).parked v = λ i. (h (f.flags i) (f.terms i)).parked v in
      omega (arith, f.pieces v);
  told = λ n b.
      (λ i. f.told n b i || (h (f.flags i) (f.terms i)).tests n b)
      ∙ or_assoc (decides n b l) (o'.tests n b) ((h o'.flag o'.to).tests n b);
  waits = λ i. or_else (f.waits i) (h (f.flags i) (f.terms i)).wait;
}

pub fits_join : {X : Events} {l k : List Act} {o o' p p' : Out} → Fits X l o o' → Fits X k p p' → Fits X (l ++ k) (join o p) (join o' p')
unfolding join
fits_join {X} {l} {k} {o} {o'} {p} {p'} f g = record {
  flags = λ i. γ (f.flags i) (g.flags i);
  terms = λ i. paired (f.flags i) (g.flags i) (f.terms i) (g.terms i);
  events = λ n. both_more (X n) (o.gens n) (o'.gens n) (p.gens n) (p'.gens n) (f.events n) (g.events n);
  counts = λ a. omega (arith, times-++ a l k, f.counts a, g.counts a);
  pieces = λ v. omega (arith, weigh-++ v l k, f.pieces v, g.pieces v);
  told = λ n b.
      (λ i. f.told n b i || g.told n b i)
      ∙ (or_swap (decides n b l) (o'.tests n b) (decides n b k) (p'.tests n b)
      ∙ ap (λ x. x || (o'.tests n b || p'.tests n b)) (sym (decides-++ n b l k)));
  waits = λ i. branch_that_waits (f.flags i) (f.waits i) (g.waits i);
}

-- a test decided in front, where what comes after no longer says so, and where it still does
pub fits_says : {X : Events} {l : List Act} {o o' : Out} {P : Place} {c : Config} {v : Bool} {E : Env}
    → Fits X l o o'
    → Fits X (decided P c v E ∷ l) (says P v o) o'
unfolding says decides collect
fits_says {l = l} {o' = o'} {P} {v = v} f = record {
  flags = f.flags;
  terms = f.terms;
  events = f.events;
  counts = f.counts;
  pieces = f.pieces;
  told = λ n b.
      let x = tells P v n b in
      ap (λ y. x || y) (f.told n b) ∙ sym (or_assoc x (decides n b l) (o'.tests n b));
  waits = f.waits;
}

pub fits_says_again : {X : Events} {l : List Act} {o o' : Out} {P : Place} {c : Config} {v : Bool} {E : Env}
    → Fits X l o o'
    → Fits X (decided P c v E ∷ l) (says P v o) (says P v o')
unfolding says decides collect
fits_says_again {l = l} {o' = o'} {P} {v = v} f = record {
  flags = f.flags;
  terms = f.terms;
  events = f.events;
  counts = f.counts;
  pieces = f.pieces;
  told = λ n b.
      let x = tells P v n b in
      ap (λ y. x || y) (f.told n b) ∙ or_again x (decides n b l) (o'.tests n b);
  waits = f.waits;
}

-- a set with s put in or out, at s and elsewhere
pub at_or_else : (P : ℕ → Type 0) (s n : ℕ) → P s → (eqb n s ≡ false → P n) → P n
at_or_else P s n h k = go (eqb n s) refl
  where
    go : (q : Bool) → eqb n s ≡ q → P n
    go true e = subst P (sym (eqb-true n s e)) h
    go false e = k e

pub put_else : (s n : ℕ) (b : Bool) (X : Events) → eqb n s ≡ false → put s b X n ≡ X n
unfolding put
put_else s n b X e = rw e

pub put_within : {X Y : Events} (s : ℕ) (b v : Bool) → (b ≡ true → v ≡ true) → X ⊆ Y → put s b X ⊆ put s v Y
put_within {X} {Y} s b v h k n =
    at_or_else (λ n. put s b X n ≡ true → put s v Y n ≡ true) s n
    (rw (put_at s b X, put_at s v Y) h)
    (λ e. rw (put_else s n b X e, put_else s n v Y e) (k n))

pub fits_hidden : {X : Events} {l : List Act} {o o' : Out} (s : ℕ) (v : Bool)
    → Fits (put s v X) l o o'
    → Fits X l (hidden s o) (hidden s o')
unfolding hidden
fits_hidden {X} {l} {o} {o'} s v f = record {
  flags = f.flags;
  terms = λ i. leave (f.flags i) (local false s (f.terms i));
  events = λ n.
      at_or_else (λ n. (X n || put s false o.gens n) ≡ (X n || put s false o'.gens n)) s n
      (rw (put_at s false o.gens, put_at s false o'.gens))
      (λ e. rw (put_else s n false o.gens e, put_else s n false o'.gens e) (
      subst (λ b. (b || o.gens n) ≡ (b || o'.gens n)) (put_else s n v X e) (f.events n)
      ));
  counts = f.counts;
  pieces = f.pieces;
  told = f.told;
  waits = f.waits;
}

pub within_fits : {X Y : Events} {l : List Act} {o o' : Out} → Fits X l o o' → Within Y X o → Within Y X o'
within_fits {X} {o = o} {o'} f w n y g = go (X n) (o.gens n) (o'.gens n) (f.events n) g (w n y)
  where
    go : (x a b : Bool) → (x || a) ≡ (x || b) → b ≡ true → (a ≡ true → x ≡ true) → x ≡ true
    go true a b e g h = refl
    go false a b e g h = h (e ∙ g)
