-- Refusals 1 to 4: the tests of 1 to 3 over N, M and V in hand, what a table has past each, and what is left of the verdict.
use Prim.Native.Nat.{ℕ, ◌+◌, ◌*◌, ◌≤◌, ◌<◌}
use mathlib.Core.Bool.{Bool, true, false, cond, not, ◌&&◌}
use mathlib.Core.Path.{◌≡◌, refl, sym, ap, subst, ◌∙◌}
use mathlib.Core.List.{List}
use native.Mathlib.Omega.{arith}
use lib.ListN.{length}
use lib.Dec.{eqb, leb}
use borrow.Author.Tests.{eqb-true, leb-true, le-leb, lt-ltb, le-ltb}
use Rattle.events.specs.Events.{lowest}
use Rattle.events.specs.Members.{places}
use Rattle.std.specs.Prelude.{Result, Ok, Err}
use Rattle.table.specs.declared.TableRefusal.{TableRefusal}
use Rattle.table.specs.declared.TableRefusal.TheVariants.{BadLength, BadCounts, BadDistances, BadConfiguration}
use Rattle.table.specs.declared.frame.Counts.{Counts}
use Rattle.table.specs.Records.{nodes, configurations, events, back_to_nodes, back_to_configurations}
use Rattle.table.specs.Good.{good_configuration}
use Rattle.table.specs.Verdict.{Verdict, length_good, counts_good, distances_good, nodes_verdict, records_verdict, verdict_of}
use Rattle.table.specs.Inside.{Framed, ConfigurationsGood}
use Rattle.table.proofs.Lowest.{lowest_bad}
use Rattle.table.specs.Inside.Framing.{counts_of, frame_of}
use Rattle.table.proofs.Laid.{both}

pub length_is : (t : List ℕ) → 16 ≤ length t → length t ≤ 32778 → length_good t ≡ true
unfolding length_good
length_is t h k = rw (le-leb 16 (length t) h, le-leb (length t) 32778 k)

pub counts : (t : List ℕ) (n m v : ℕ) → n ≡ nodes t → m ≡ configurations t → v ≡ events t
    → counts_good t ≡ ((leb 1 n && leb n 4096) && (leb m 2048 && (leb 1 v && leb v places)))
unfolding counts_good
counts t n m v e f g = rw (e, f, g)

pub distances : (t : List ℕ) (n m : ℕ) → n ≡ nodes t → m ≡ configurations t
    → distances_good t
    ≡ (eqb (back_to_nodes t) (6 * n + 4 * m) && (eqb (back_to_configurations t) (4 * m) && eqb (length t) (6 * n + 4 * m + 10)))
unfolding distances_good
distances t n m e f = rw (e, f)

-- a frame's verdict, given what the records' is
abbrev pub framed : Result Counts TableRefusal → Verdict → Verdict
framed (Err why) records = Err why
framed (Ok c) records = records

verdict_framed : (t : List ℕ) → verdict_of t ≡ framed (frame_of t) (records_verdict t)
unfolding verdict_of frame_of
verdict_framed t = go (length_good t) (counts_good t) (distances_good t)
  where
    good : Result Counts TableRefusal
    good = Ok (counts_of t)

    go : (l c d : Bool)
        → cond l (cond c (cond d (records_verdict t) (Err BadDistances)) (Err BadCounts)) (Err BadLength)
        ≡ framed (cond l (cond c (cond d good (Err BadDistances)) (Err BadCounts)) (Err BadLength)) (records_verdict t)
    go true true true = refl
    go true true false = refl
    go true false d = refl
    go false c d = refl

pub verdict_refused : (t : List ℕ) {why : TableRefusal} → frame_of t ≡ Err why → Err why ≡ verdict_of t
verdict_refused t e = sym (verdict_framed t ∙ ap (λ f. framed f (records_verdict t)) e)

pub verdict_records : (t : List ℕ) {c : Counts} → frame_of t ≡ Ok c → records_verdict t ≡ verdict_of t
verdict_records t e = sym (verdict_framed t ∙ ap (λ f. framed f (records_verdict t)) e)

refused : {A : Type 0} {why : TableRefusal} {c : Counts} → ◌≡◌ {A = Result Counts TableRefusal} (Err why) (Ok c) → A
refused e = let z : ◌≡◌ {A = ℕ} 0 1 = cc in absurd (omega arith)

framed_good : (t : List ℕ) → counts_good t ≡ true → distances_good t ≡ true → Framed t (nodes t) (configurations t) (events t)
unfolding counts_good distances_good
framed_good t g h =
    let all = both {a = leb 1 (nodes t) && leb (nodes t) 4096} g in
    let ns = both all.0 in
    let ms = both all.1 in
    let vs = both ms.1 in
    let backs = both {a = eqb (back_to_nodes t) (6 * nodes t + 4 * configurations t)} h in
    record {
      long = eqb-true _ _ (both {a = eqb (back_to_configurations t) (4 * configurations t)} backs.1).1;
      n_is = refl;
      m_is = refl;
      v_is = refl;
      n_least = leb-true _ _ ns.0;
      n_most = leb-true _ _ ns.1;
      m_most = leb-true _ _ ms.0;
      v_least = leb-true _ _ vs.0;
      v_most = leb-true _ _ vs.1;
    }

pub frame_counts : (t : List ℕ) (c : Counts) → frame_of t ≡ Ok c → Framed t c.n c.m c.v
unfolding frame_of
frame_counts t x e = go (length_good t) refl (counts_good t) refl (distances_good t) refl
  where
    go : (l : Bool) → length_good t ≡ l → (c : Bool) → counts_good t ≡ c → (d : Bool) → distances_good t ≡ d → Framed t x.n x.m x.v
    go true f true g true h =
        let counts_are : counts_of t ≡ x = cc in
        subst (λ (c : Counts). Framed t c.n c.m c.v) counts_are (framed_good t g h)
    go true f true g false h = refused (rw (f, g, h) at e)
    go true f false g d h = refused (rw (f, g) at e)
    go false f c g d h = refused (rw f at e)

pub records_bad : (t : List ℕ) (r : ℕ) → r ≡ lowest (configurations t) (λ j. not (good_configuration t j))
    → r < configurations t → Err (BadConfiguration r) ≡ records_verdict t
unfolding records_verdict
records_bad t r e l = rw (← e, lt-ltb r (configurations t) l)

pub records_good : (t : List ℕ) → ConfigurationsGood t → nodes_verdict t ≡ records_verdict t
unfolding records_verdict
records_good t g =
    let m = configurations t in
    let none = lowest_bad (good_configuration t) m m (omega arith) g (λ h. absurd (omega arith)) in
    rw (← none, le-ltb m m (omega arith))
