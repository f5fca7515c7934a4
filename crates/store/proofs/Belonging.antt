-- What an instant parks belongs to its table: each piece's node is the body of a Freezable of its event, and so on (specs/Stored.antt).
use Prim.Native.Nat.{ℕ, ◌<◌}
use mathlib.Core.Path.{◌≡◌, ◌∙◌}
use mathlib.Core.List.{List}
use native.Mathlib.Omega.{arith}
use borrow.Author.Tests.{eq-eqb}
use Rattle.junior.specs.Configuration.{Env}
use Rattle.junior.specs.Term.{Term, prog}
use Rattle.junior.specs.Trace.{Piece, parks}
use Rattle.junior.specs.Rules.{Allowed, Result}
use Rattle.junior.specs.Instant.{Instant}
use Rattle.junior.specs.AtRest.{AtRest}
use Rattle.junior.specs.Inside.{Going}
use Rattle.junior.specs.Parked.{Parked, All}
use Rattle.junior.proofs.Parks.{all_so, parks_pieces}
use Rattle.table.specs.Records.{nodes}
use Rattle.table.specs.Spells.{tree_of}
use Rattle.table.specs.Inside.{Loaded}
use Rattle.table.proofs.Tree.{size_pos}
use Rattle.table.proofs.Found.{BodyThere, parked_there, tested_runs}
use Rattle.store.specs.Stored.{Belongs}
use Rattle.store.proofs.Tests.{body_by_way}

belongs : (t : List ℕ) (x : Piece) → BodyThere t x → AtRest x.state → Belongs t x
belongs t x b a =
    let among : x.node < nodes t = omega (arith, b.inside, size_pos (prog x.state)) in
    record {
      body = body_by_way t x.event x.node b.behind among b.kind_there b.event_there ∙ eq-eqb _ _ (tested_runs t x.node b.runs);
      program = b.body;
      at_rest = a;
    }

pub parked_belong : {t : List ℕ} {l : List Piece} → Loaded t → All (Parked (tree_of t) 0) l → All (Belongs t) l
parked_belong {t} d a = all_so (λ x p. belongs t x (parked_there d p) p.at_rest) a

pub parks_belong : {t : List ℕ} {free : Allowed} {m : Term} {E : Env} {n : ℕ} {r : Result} → Loaded t → prog m ≡ tree_of t → Instant free m E n r
    → Going E.now m → All (Belongs t) (parks r.acts)
parks_belong d e i g = parked_belong d (rw e at (parks_pieces i g))
