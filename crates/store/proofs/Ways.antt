-- The way from the root down to a node: it meets every node above, and so tells whether one of them is a repetition of count or cap 0. It is free if
-- no node of the table is one.
use Prim.Native.Nat.{ℕ, ◌+◌, ◌≤◌, ◌<◌}
use mathlib.Core.Bool.{Bool, true, false, ◌&&◌, and-false, false≢true}
use mathlib.Core.Path.{◌≡◌, sym, ◌∙◌}
use mathlib.Core.List.{List}
use native.Mathlib.Omega.{arith}
use native.Mathlib.Decide.{ℕ_discrete, dec_lt}
use lib.Dec.{eqb}
use borrow.Author.Tests.{lt-ltb, le-ltb, eq-eqb, ne_eqb, eqb-true}
use Rattle.events.specs.Events.{lowest}
use Rattle.events.proofs.Events.{before_lowest, lowest_is}
use Rattle.table.specs.Records.{nodes, size_at, second_child}
use Rattle.table.specs.Part.{above, never_runs}
use Rattle.table.specs.Inside.{Loaded}
use Rattle.table.proofs.Laid.{Laid, none, one, two}
use Rattle.table.proofs.Loaded.{root_size}
use Rattle.table.proofs.Subtrees.{rooted, laid_there, nested}
use Rattle.store.specs.Inside.{Under, Next, all_run}

-- node k stands above node j and never runs
abbrev pub stops_at : List ℕ → ℕ → ℕ → Bool
stops_at t j k = above t j k && never_runs t k

-- none of the first i nodes does
abbrev pub Free : List ℕ → ℕ → ℕ → Type 0
Free t j i = (k : ℕ) → k < i → stops_at t j k ≡ false

module _ (t : List ℕ) (j : ℕ) where
  pub from_root : Loaded t → j < nodes t → Under t 0 j
  from_root l h = record { loaded = l; among = h; from = omega arith; ends = omega (arith, root_size l) }

  pub none_before : Free t j 0
  none_before k h = absurd (omega arith)

  -- all of the way is gone
  pub free_way : Free t j j → eqb (lowest j (stops_at t j)) j ≡ true
  free_way all = eq-eqb _ _ (sym (lowest_is j j (stops_at t j) (omega arith) all (λ h. absurd (omega arith))))

  module _ (i : ℕ) (u : Under t i j) where
    is_above : i < j → above t j i ≡ true
    is_above h = rw (lt-ltb _ _ h, lt-ltb _ _ u.ends)

    -- node i is in the way
    pub blocked : i < j → never_runs t i ≡ true → eqb (lowest j (stops_at t j)) j ≡ false
    blocked h never =
        ne_eqb (lowest j (stops_at t j)) j (λ e.
        false≢true (sym (before_lowest j (stops_at t j) i (omega arith)) ∙ rw (is_above h, never)))

    -- it isn't, and the way goes on
    pub onward : {r : ℕ} → never_runs t i ≡ false → Free t j i → Next t i j r → Free t j r
    onward {r} runs o n k h = go (dec_lt k i) (ℕ_discrete k i)
      where
        go : Dec (k < i) → Dec (k ≡ i) → stops_at t j k ≡ false
        go (yes l) d = o k l
        go (no m) (yes e) = rw (e, runs, and-false)
        go (no m) (no e) = rw (le-ltb _ _ (n.passed k (omega arith) h), and-false)

    pub to_first : i < j → j < second_child t i → Next t i j (i + 1)
    to_first h b =
        record {
          down = omega arith;
          under = record { loaded = u.loaded; among = u.among; from = omega arith; ends = b };
          passed = λ k a c. absurd (omega arith);
        }

    pub to_second : i < j → second_child t i ≤ j → Next t i j (second_child t i)
    to_second h b = go (laid_there (rooted u.loaded) i (omega (arith, u.among)))
      where
        go : {c : ℕ} → Laid (size_at t) (nodes t) i c → Next t i j (second_child t i)
        go (none s) = absurd (omega (arith, u.ends))
        go (one m s) = absurd (omega (arith, u.ends))
        go (two m m' s) =
            record {
              down = omega arith;
              under = record { loaded = u.loaded; among = u.among; from = b; ends = omega (arith, u.ends) };
              passed = λ k a c. let f = nested (rooted u.loaded) (i + 1) m k (omega arith) c in omega arith;
            }

-- none of the first i nodes never runs
abbrev pub Run : List ℕ → ℕ → Type 0
Run t i = (k : ℕ) → k < i → never_runs t k ≡ false

module _ (t : List ℕ) where
  pub run_more : (i : ℕ) → never_runs t i ≡ false → Run t i → Run t (i + 1)
  run_more i here o k h = go (ℕ_discrete k i)
    where
      go : Dec (k ≡ i) → never_runs t k ≡ false
      go (yes e) = rw e here
      go (no e) = o k (omega arith)

  pub all_seen : (n : ℕ) → n ≡ nodes t → Run t n → all_run t ≡ true
  unfolding all_run
  all_seen n e all = eq-eqb _ _ (sym (lowest_is (nodes t) (nodes t) (never_runs t) (omega arith) (rw e at all) (λ h. absurd (omega arith))))

  pub one_seen : (i : ℕ) → i < nodes t → never_runs t i ≡ true → all_run t ≡ false
  unfolding all_run
  one_seen i h never =
      ne_eqb (lowest (nodes t) (never_runs t)) (nodes t) (λ e.
      false≢true (sym (before_lowest (nodes t) (never_runs t) i (omega arith)) ∙ never))

  -- so each way is free
  pub all_free : all_run t ≡ true → (j : ℕ) → j < nodes t → eqb (lowest j (stops_at t j)) j ≡ true
  unfolding all_run
  all_free all j h =
      let e : lowest (nodes t) (never_runs t) ≡ nodes t = eqb-true _ _ all in
      free_way t j (λ k l. rw (before_lowest (nodes t) (never_runs t) k (omega arith), and-false))
