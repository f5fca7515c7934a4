-- `read_pair` meets its contract.
use native.Mathlib.Omega.{arith}
use Rattle.calls.specs.Words.{PairRead}
use Rattle.calls.proofs.Words.{bytes_of}
use Rattle.calls.proofs.reading.read_pair.Goals as goal

-- let (first_word, second_word) = split_once(text, b' ')?;
pub returns-in_err-first_word : goal.returns-in_err-first_word
returns-in_err-first_word c = rw c.from_residual.ensures (PairRead.one_word (omega (arith, c.in_err-first_word.ensures.split)))

pub returns-in_err-n : goal.returns-in_err-n
returns-in_err-n c =
    let cut = c.in_ok-first_word.ensures.split in
    rw c.from_residual-in_err-n.ensures (PairRead.bad_first cut.0 (bytes_of cut.1 c.in_err-n.ensures))

pub returns-in_err-m : goal.returns-in_err-m
returns-in_err-m c =
    let cut = c.in_ok-first_word.ensures.split in
    rw c.from_residual-in_err-m.ensures
    (PairRead.bad_second cut.0 (bytes_of cut.1 c.in_ok-n.ensures.0) (bytes_of cut.2 c.in_err-m.ensures))

pub returns : goal.returns
returns c =
    let cut = c.in_ok-first_word.ensures.split in (
      PairRead.two_words cut.0 (bytes_of cut.1 c.in_ok-n.ensures.0) (bytes_of cut.2 c.in_ok-m.ensures.0),
      c.in_ok-n.ensures.1,
      c.in_ok-m.ensures.1,
    )
