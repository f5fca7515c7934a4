-- What reading answers, by what its two passes and the check answer.
use Prim.Native.Nat.{ℕ, ◌+◌, ◌*◌, ◌≤◌, ◌<◌, min}
use mathlib.Core.Path.{◌≡◌, ap, subst, ◌∙◌}
use mathlib.Core.Logic.{◌⊎◌}
use mathlib.Core.List.{List, ◌++◌}
use native.Mathlib.Omega.{arith}
use lib.ListN.{length, drop}
use Rattle.std.specs.Prelude.{Result, Ok, Err}
use Rattle.table.specs.declared.TableRefusal.{TableRefusal}
use Rattle.table.specs.Verdict.{verdict_of, number_of}
use Rattle.text.specs.declared.ReadRefusal.TheVariants as answered
use Rattle.form.specs.declared.Sizes.{Sizes}
use Rattle.form.specs.Made.{table_of, needed}
use Rattle.text.specs.Answers.{Reads, fails, no_room, refused, read, Fits}
use Rattle.scanner.specs.Scanning.{Tells}
use Rattle.builder.specs.Building.{Buildable}
use Rattle.form.proofs.MadeLength.{table_length}

-- the first pass
module _ {text : List ℕ} {s : Result Sizes ℕ} (o : Tells text s) where
  pub scan_fails : {k : ℕ} (room : List ℕ) → s ≡ Err k → Reads text room room (Err (answered.Fails k))
  scan_fails {k} room e = fails k (subst (Tells text) e o)

  module _ {z : Sizes} (e : s ≡ Ok z) (long : ℕ) (l : long ≡ min (6 * z.nodes + 4 * z.tests + 10) 32779) (room : List ℕ) where
    pub no_place : (32778 < long) ⊎ (long ≤ 32778 × length room < long) → Reads text room room (Err answered.NoRoom)
    no_place h =
        let (p, d, a, b, c) = subst (Tells text) e o in
        no_room p d (λ f. omega arith)

    pub counted : long ≤ 32778 → Buildable text z long
    counted h =
        let (p, d, a, b, c) = subst (Tells text) e o in
        (p, record { says = d; n_is = a; m_is = b; v_is = c; long = omega arith; small = omega arith })

-- the second
module _ {text : List ℕ} {z : Sizes} {long : ℕ} (b : Buildable text z long) (room : List ℕ) (fits : long ≤ length room)
    (t : List ℕ) (made : t ≡ table_of b.0) where
  fitting : Fits (needed b.0) room
  fitting = let h = b.1 in (omega arith, h.small)

  pub table_refused : {why : TableRefusal} → verdict_of t ≡ Err why → Reads text room room (Err (answered.Table why))
  table_refused e = refused b.0 b.1.says fitting (rw made at e)

  pub table_read : (after : List ℕ) (k : ℕ) → number_of (verdict_of t) ≡ 0 → k ≡ length t
      → after ≡ t ++ drop (length t) room
      → Reads text room after (Ok k)
  table_read after k e l a =
      rw (a, made, l ∙ (ap length made ∙ table_length b.0)) (read b.0 b.1.says fitting (rw made at e))
