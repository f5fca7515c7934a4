-- What a function that calls itself is proved from, at the number t: its measure is exactly t, and it calls with a smaller one.
use Prim.Native.Nat.{ℕ, ◌<◌}
use mathlib.Core.List.{List}
use borrow.Fn.Kinds.{In, ParamKind}
use borrow.Fn.PlainCycle.{Measures, is, falls, and}

abbrev pub exactly : {n : ℕ} (ps : List (ParamKind n)) → Measures n ps ℕ → In n ps → ℕ → In n ps
exactly {n} ps μ Pre t = and n ps (is n ps μ t) Pre

abbrev pub smaller : {n : ℕ} (ps : List (ParamKind n)) → Measures n ps ℕ → In n ps → ℕ → In n ps
smaller {n} ps μ Pre t = and n ps (falls n ps ◌<◌ μ t) Pre
