-- A piece that is short of bytes, that has no body, or whose body says it.
use mathlib.Core.Path.{sym, ◌∙◌}
use native.Mathlib.Omega.{arith}
use Rattle.store.proofs.Tests.{body_is, piece_short, piece_no_body, piece_body}
use Rattle.store.proofs.good.Pieces.is_good.Goals as goal

-- return false;
pub returns-then-self-at-lt4 : goal.returns-then-self-at-lt4
returns-then-self-at-lt4 c =
    let A = c.args in
    sym (piece_short A.self.now.table.now A.self.now.store.now A.self.now.end A.at (omega arith))

-- return self.body_good(at + 4, j);
pub body_good-requires : goal.body_good-requires
body_good-requires c =
    ((body_is (sym c.is_body.ensures ∙ c.if-is_body.true)).among, omega arith)

-- return self.body_good(at + 4, j);
pub returns-then-is_body : goal.returns-then-is_body
returns-then-is_body c =
    let A = c.args in
    let e = c.word_at-j.ensures.0 in
    let b = rw (e, c.word_at.ensures.0) at (sym c.is_body.ensures ∙ c.if-is_body.true) in
    c.body_good.ensures ∙ rw e (sym (piece_body A.self.now.table.now A.self.now.store.now A.self.now.end A.at b))

-- false
pub returns : goal.returns
returns c =
    let A = c.args in
    let b = rw (c.word_at-j.ensures.0, c.word_at.ensures.0) at (sym c.is_body.ensures ∙ c.if-is_body.false) in
    sym (piece_no_body A.self.now.table.now A.self.now.store.now A.self.now.end A.at b)
