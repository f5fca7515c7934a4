-- `put_pair` meets its contract: the two stores are the two digits.
use native.Mathlib.Numerals.{add-one}
use Rattle.letters.proofs.number.put_pair.Goals as goal

-- fn put_pair
pub returns : goal.returns
returns c = rw (add-one c.args.at)
