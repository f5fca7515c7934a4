-- What an instant has come to: what a write leaves of it, and an event put into its word.
use Prim.Native.Nat.{ℕ, zero, suc, ◌+◌, ◌*◌, ◌/◌, ◌%◌, ◌^◌, ◌<◌}
use mathlib.Core.Bool.{Bool}
use mathlib.Core.Path.{◌≡◌, refl, ap, ◌∙◌}
use mathlib.Core.List.{List}
use native.Mathlib.Omega.{arith}
use lib.ListN.{length, get_or, set, length-set}
use Rattle.events.specs.Events.{put}
use Rattle.events.specs.Members.{places}
use Rattle.events.proofs.Bits.{digits}
use Rattle.events.proofs.Words.{marks_put}
use Rattle.table.specs.Reading.{event_words}
use Rattle.steps.specs.Running.{values_in}
use Rattle.steps.specs.declared.progress.Progress.{Progress}
use Rattle.steps.specs.Progress.{words_of, tally_of, Holds, Kept, Put}

pub kept_same : (m : Progress) → Kept m m
kept_same m = record { long = refl; ended = refl; base = refl }

pub kept_then : {m m' m'' : Progress} → Kept m m' → Kept m' m'' → Kept m m''
kept_then k l = record { long = l.long ∙ k.long; ended = l.ended ∙ k.ended; base = l.base ∙ k.base }

-- what it must hold, it holds then
pub still : {table : List ℕ} {m m' : Progress} → Holds table m → Kept m m' → Holds table m'
still n k = record { long = k.long ∙ n.long; base = k.base ∙ n.base }

pub words_wide : {table : List ℕ} {m : Progress} → Holds table m → 64 * length (words_of m) ≡ places
words_wide n = ap (λ (k : ℕ). 64 * k) n.long

-- an event put into its word
pub puts : (m : Progress) (e : ℕ) → length (words_of m) ≡ event_words → e < places → (b : Bool) (w : ℕ)
    → digits w ≡ put (e % 64) b (digits (get_or (words_of m) (e / 64) 0))
    → Put e b m (record m { events = record m.events { words = set (words_of m) (e / 64) w } })
puts m e l there b w d =
    record {
      events = marks_put (words_of m) e b w (omega (arith, l)) (λ j. rw d);
      wide = length-set (words_of m) (e / 64) w;
      tally = refl;
      kept = record { long = length-set (words_of m) (e / 64) w; ended = refl; base = refl };
    }

-- a value of the box, read in its number
pub value_at : (m : Progress) (v : ℕ) → v < 16 → get_or m.values (v / 8) 0 / 2 ^ (8 * (v % 8)) % 256 ≡ values_in (tally_of m) v
value_at m v h = ap (λ n. n / 2 ^ (8 * (v % 8)) % 256) (go (v / 8) (omega arith))
  where
    go : (k : ℕ) → k < 2 → get_or m.values k 0 ≡ get_or (tally_of m) (4 + k) 0
    go zero l = refl
    go (suc zero) l = refl
    go (suc (suc k)) l = absurd (omega arith)
