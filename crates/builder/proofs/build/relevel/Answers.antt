-- `relevel` meets its contract: each byte that changes a level, and the others.
use native.Mathlib.Omega.{arith}
use Rattle.builder.proofs.LevelBytes.{level_blank, level_opens, room_to_close, level_closes, level_comma, level_other}
use Rattle.builder.proofs.build.relevel.Goals as goal

-- let inner = depth - 1;
pub overflow_sub-inner : goal.overflow_sub-inner
overflow_sub-inner c =
    room_to_close c.args.b c.args.text.now c.args.levels.now c.args.depth c.requires.0 c.in-41.is
    c.requires.1 c.requires.2

-- levels[inner] = 0;
pub bounds-levels-inner : goal.bounds-levels-inner
bounds-levels-inner c =
    let o = room_to_close c.args.b c.args.text.now c.args.levels.now c.args.depth c.requires.0 c.in-41.is
    c.requires.1 c.requires.2 in
    omega arith

-- fn relevel
pub returns-in-32 : goal.returns-in-32
returns-in-32 c =
    level_blank c.args.b c.args.text.now c.args.levels.now c.args.depth _ c.in-32.is c.name_level.ensures

pub returns-in-40 : goal.returns-in-40
returns-in-40 c =
    level_opens c.args.b c.args.text.now c.args.levels.now c.args.depth c.outer.result c.in-40.is
    c.outer.ensures.0 c.outer.ensures.1

pub returns-in-41 : goal.returns-in-41
returns-in-41 c =
    level_closes c.args.b c.args.text.now c.args.levels.now c.args.depth c.in-41.is

pub returns-in-44 : goal.returns-in-44
returns-in-44 c =
    level_comma c.args.b c.args.text.now c.args.levels.now c.args.depth _ c.in-44.is c.store.ensures

pub returns-in_default : goal.returns-in_default
returns-in_default c =
    level_other c.args.b c.args.text.now c.args.levels.now c.args.depth (omega arith) (omega arith) (omega arith) (omega arith)
