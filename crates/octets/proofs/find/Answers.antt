-- `find` meets its contract: `memchr` answers the first place within the part, and the part begins at `from`.
use Rattle.std.proofs.Common.{ℕ, ◌-◌, ◌+◌, ◌≤◌, ◌≡◌, sym, ap, ◌∙◌, List, length, take, drop, length-drop, arith}
use Rattle.std.proofs.Math.Seq.{length-take-le}
use Rattle.std.proofs.lemmas.List.{drop-take}
use Rattle.octets.specs.Octets.{slice}
use Rattle.octets.proofs.Places.{place_is}
use Rattle.octets.proofs.find.Goals as goal

-- the part that the search is given
part_is : (s : List ℕ) (from to : ℕ) → from ≤ to → take (to - from) (drop from s) ≡ slice from to s
part_is s from to h =
    let e : from + (to - from) ≡ to = omega arith in
    sym (drop-take from (to - from) s) ∙ ap (λ n. drop from (take n s)) e

pub returns-in-Some : goal.returns-in-Some
returns-in-Some c =
    let A = c.args in
    let e = place_is A.byte _ _ c.memchr.ensures in
    let h : A.from ≤ A.to = omega arith in
    let l : length (drop A.from A.text.now) ≡ length A.text.now - A.from = length-drop A.from A.text.now in
    let n : length (take (A.to - A.from) (drop A.from A.text.now)) ≡ A.to - A.from = length-take-le _ _ (omega arith) in (
      ap (λ n. A.from + n) (sym (rw (part_is A.text.now A.from A.to h, c.in-Some.is) at e)),
      omega arith,
      omega (arith, c.in-Some.ensures.0.high),
    )

pub returns-in-None : goal.returns-in-None
returns-in-None c =
    let A = c.args in
    let e = place_is A.byte _ _ c.memchr.ensures in
    let h : A.from ≤ A.to = omega arith in
    let l : length (drop A.from A.text.now) ≡ length A.text.now - A.from = length-drop A.from A.text.now in
    let n : length (take (A.to - A.from) (drop A.from A.text.now)) ≡ A.to - A.from = length-take-le _ _ (omega arith) in
    omega (arith, rw (c.in-None.is, n, part_is A.text.now A.from A.to h) at e)
