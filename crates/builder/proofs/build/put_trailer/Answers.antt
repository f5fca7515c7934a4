-- `put_trailer` meets its contract: five numbers behind the records.
use native.Mathlib.Numerals.{towards_suc}
use Rattle.builder.proofs.build.put_trailer.Goals as goal

-- fn put_trailer
pub returns : goal.returns
returns c =
    rw (c.put_word-5.ensures, c.put_word-4.ensures, c.put_word-3.ensures, c.put_word-2.ensures, c.put_word.ensures) (simp towards_suc)
