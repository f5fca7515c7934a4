-- Little laws about truth values, lists, numbers, flags and sets of events.
use Prim.Native.Nat.{ℕ}
use mathlib.Core.Bool.{Bool, true, false, cond, ◌||◌, false≢true}
use mathlib.Core.Path.{◌≡◌, refl, ap, sym, ◌∙◌, fun_ext}
use mathlib.Core.Logic.{◌≢◌}
use mathlib.Core.List.{List, [], ◌∷◌, ◌++◌, append_assoc}
use native.Mathlib.Omega.{arith}
use lib.Dec.{eqb}
use borrow.Author.Tests.{eqb-true, eq-eqb}
use Rattle.events.specs.Events.{Events, put}
use Rattle.junior.specs.declared.Flag.TheVariants.{SUSP, STOP, TERM}
use Rattle.junior.specs.Trace.{Act, collect}

pub STOP≢SUSP : STOP ≢ SUSP
STOP≢SUSP e = let z : ◌≡◌ {A = ℕ} 0 1 = cc in omega arith

pub TERM≢SUSP : TERM ≢ SUSP
TERM≢SUSP e = let z : ◌≡◌ {A = ℕ} 0 1 = cc in omega arith

pub TERM≢STOP : TERM ≢ STOP
TERM≢STOP e = let z : ◌≡◌ {A = ℕ} 0 1 = cc in omega arith

pub SUSP≢STOP : SUSP ≢ STOP
SUSP≢STOP e = STOP≢SUSP (sym e)

pub SUSP≢TERM : SUSP ≢ TERM
SUSP≢TERM e = TERM≢SUSP (sym e)

pub STOP≢TERM : STOP ≢ TERM
STOP≢TERM e = TERM≢STOP (sym e)

pub neither : (a b : Bool) → (a || b) ≡ false → (a ≡ false) × (b ≡ false)
neither true b h = absurd (false≢true (sym h))
neither false b h = (refl, h)

pub collect-++ : {A : Type 0} (f : Act → List A) (l k : List Act) → collect f (l ++ k) ≡ collect f l ++ collect f k
unfolding collect
collect-++ f [] k = refl
collect-++ f (x ∷ l) k = ap (λ m. f x ++ m) (collect-++ f l k) ∙ sym (append_assoc (f x) (collect f l) (collect f k))

pub collect_last : {A : Type 0} (f : Act → List A) (l : List Act) (x : Act) → f x ≡ [] → collect f (l ++ (x ∷ [])) ≡ collect f l
unfolding collect
collect_last f [] x h = rw h
collect_last f (y ∷ l) x h = ap (λ m. f y ++ m) (collect_last f l x h)

both_empty : {A : Type 0} (l k : List A) → l ++ k ≡ [] → (l ≡ []) × (k ≡ [])
both_empty [] k h = (refl, h)
both_empty (x ∷ l) k h = (cc, cc)

-- where two lists of acts together have none, each has none
pub collect_none : {A : Type 0} (f : Act → List A) (l k : List Act) → collect f (l ++ k) ≡ [] → (collect f l ≡ []) × (collect f k ≡ [])
collect_none f l k h = both_empty (collect f l) (collect f k) (sym (collect-++ f l k) ∙ h)

pub put_at : (s : ℕ) (b : Bool) (X : Events) → put s b X s ≡ b
unfolding put
put_at s b X = rw (eq-eqb s s refl)

-- an event put and put back
pub put_back : (s : ℕ) (b : Bool) (X : Events) → put s (X s) (put s b X) ≡ X
unfolding put
put_back s b X = fun_ext (λ n. go n (eqb n s) (eqb-true n s))
  where
    go : (n : ℕ) (q : Bool) → (q ≡ true → n ≡ s) → cond q (X s) (cond q b (X n)) ≡ X n
    go n true h = ap X (sym (h refl))
    go n false h = refl
