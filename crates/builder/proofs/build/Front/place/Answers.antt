-- `place` meets its contract: each byte that acts, and the others.
use native.Mathlib.Omega.{arith}
use Rattle.builder.proofs.TableHolds.{ready_in, places_in, places_none}
use Rattle.builder.proofs.PlacedByFunctions.{place_blank, place_opens, place_separates, place_names, place_none}
use Rattle.builder.proofs.build.Front.place.Goals as goal

-- b' ' => self.place_blank(level, text, table),
pub place_blank-requires : goal.place_blank-requires
place_blank-requires c =
    ready_in (λ n m s h. place_blank c.args.b c.args.level c.args.text.now s c.in-32.is) c.requires

-- b'(' => self.place_opening(names, level, text, table),
pub place_opening-requires : goal.place_opening-requires
place_opening-requires c =
    (ready_in (λ n m s h. place_opens c.args.b c.args.level c.args.text.now s c.in-40.is) c.requires)

-- b',' => self.place_comma(level, text, table),
pub place_comma-requires : goal.place_comma-requires
place_comma-requires c =
    ready_in (λ n m s h. place_separates c.args.b c.args.level c.args.text.now s c.in-44.is) c.requires

-- b'J' => self.place_name(names, text, table),
pub place_name-requires : goal.place_name-requires
place_name-requires c =
    (ready_in (λ n m s h. place_names c.args.b c.args.level c.args.text.now s c.in-74.is) c.requires)

-- fn place
pub returns-in-32 : goal.returns-in-32
returns-in-32 c =
    places_in (λ n m s h. place_blank c.args.b c.args.level c.args.text.now s c.in-32.is) c.place_blank.ensures

pub returns-in-40 : goal.returns-in-40
returns-in-40 c =
    places_in (λ n m s h. place_opens c.args.b c.args.level c.args.text.now s c.in-40.is) c.place_opening.ensures

pub returns-in-44 : goal.returns-in-44
returns-in-44 c =
    places_in (λ n m s h. place_separates c.args.b c.args.level c.args.text.now s c.in-44.is) c.place_comma.ensures

pub returns-in-74 : goal.returns-in-74
returns-in-74 c =
    places_in (λ n m s h. place_names c.args.b c.args.level c.args.text.now s c.in-74.is) c.place_name.ensures

pub returns-in_default : goal.returns-in_default
returns-in_default c =
    places_none (λ s. place_none c.args.b c.args.level c.args.text.now s (omega arith) (omega arith) (omega arith) (omega arith))
