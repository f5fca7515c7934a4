-- A child stands in its parent's bytes, and what of the parent's stays when the child is back; a Par's bytes when its branches are joined.
use Prim.Native.Nat.{ℕ, ◌+◌, ◌*◌, ◌≤◌, ◌<◌}
use mathlib.Core.Bool.{cond}
use mathlib.Core.Path.{◌≡◌, refl, ◌∙◌}
use mathlib.Core.List.{List, ◌++◌}
use native.Mathlib.Omega.{arith}
use lib.ListN.{length, get_or, take, drop, set, length-set, get_or-append}
use lib.Seq.{get_or-take, length-take-le}
use borrow.Rule.Slice.PartMut.{mid_of, put_mid}
use Rattle.junior.specs.declared.Flag.{Flag}
use Rattle.junior.specs.declared.Flag.TheVariants.{SUSP, STOP, TERM}
use Rattle.junior.specs.Flags.{γ, δ₁, δ₂}
use Rattle.state.specs.StateBytes.{code}
use Rattle.steps.specs.Running.{Rooms, Live, Any, flag_is_term, gone, ended, par_end}
use Rattle.steps.specs.Progress.{Holds, words_of, tally_of}
use Rattle.steps.specs.Flags.{par_end_at}
use Rattle.steps.specs.Lent.{lent, Around, Stands}
use Rattle.steps.proofs.Context.{put_byte, inner}
use Rattle.steps.specs.declared.progress.Progress.{Progress}

pub child_stands : {table : List ℕ} {i : ℕ} {state : List ℕ} {m : Progress} {rooms : Rooms} {before part behind : List ℕ} → Around state i before part behind
    → Holds table m → (a k : ℕ) {j : ℕ} → a ≤ length part → 4 * i + a ≡ 4 * j
    → Live 0 Any table j (mid_of a k part) (words_of m) rooms (tally_of m)
    → Stands 0 Any (lent table state m rooms) j (before ++ take a part) (mid_of a k part) (drop k (drop a part) ++ behind)
child_stands o n a k l e v = record { around = inner o a k l e; holds = n; live = v }

-- the bytes before a part stay when it is back
pub front_stays : (a k : ℕ) (l s : List ℕ) (j : ℕ) → j < a → a ≤ length l → get_or (put_mid a k l s) j 0 ≡ get_or l j 0
front_stays a k l s j b c =
    get_or-append (take a l) (s ++ drop k (drop a l)) 0 j (omega (arith, length-take-le a l c)) ∙ get_or-take a l j 0 b

-- a branch that has ended, and both joined
ended_long : (α : Flag) (k x : ℕ) (s : List ℕ) → length (ended α k x s) ≡ length s
ended_long SUSP k x s = refl
ended_long STOP k x s = refl
ended_long TERM k x s = length-set s k x

ended_around : {state : List ℕ} {i : ℕ} {before part behind : List ℕ} → Around state i before part behind → (α : Flag) (k x : ℕ)
    → k < length part → Around (ended α (4 * i + k) x state) i before (ended α k x part) behind
ended_around o SUSP k x l = o
ended_around o STOP k x l = o
ended_around o TERM k x l = put_byte o k x l

pub par_end_around : {state : List ℕ} {i : ℕ} {before part behind : List ℕ} → Around state i before part behind → (α β : Flag) (second : ℕ)
    → 4 < length part → second < length part
    → Around (par_end_at α β (4 * i) (4 * i + second) state) i before (par_end α β second part) behind
par_end_around {part = part} o α β second a b =
    let flags = cond (flag_is_term (γ α β)) 0 (code (δ₁ α β) + 4 * code (δ₂ α β)) in
    let phase = gone (γ α β) in
    let l = length-set part 1 flags in
    let both = ended_around (put_byte o 1 flags (omega arith)) α 4 phase (omega arith) in
    ended_around both β second phase (omega (arith, ended_long α 4 phase (set part 1 flags)))
