-- What each symbol of the reading machine means of the text that it eats.
use Prim.Native.Nat.{ℕ, ◌≤◌}
use mathlib.Core.Bool.{true}
use mathlib.Core.Path.{◌≡◌, refl, ap, sym, ◌∙◌}
use mathlib.Core.List.{List, [], ◌∷◌, ◌++◌, append_assoc}
use lib.Dec.{eqb}
use borrow.Author.Tests.{eqb-true}
use Rattle.letters.specs.Decimal.{decimal}
use Rattle.letters.specs.Text.{bytes}
use Rattle.junior.specs.Configuration.{Config}
use Rattle.junior.specs.Program.{Program}
use Rattle.form.specs.Form.{SaysTest, Says, whole, later_seq, later_par}
use Rattle.form.specs.Inside.Rows.{home, letters}
use Rattle.form.specs.Inside.Machine.{end_byte, limit, Sym, Stack, lit, byte, prog, name}
use Rattle.form.specs.Inside.Machine.{parts, conf, inner, joint, num, tail}

-- a program is said with these letters in front
abbrev pub After : List ℕ → List ℕ → Type 0
After w u = (p : Program) × Says (whole p) (w ++ u)

-- a half-read name, number or configuration means that the whole is said
abbrev pub Means : Sym → List ℕ → Type 0
Means (byte c) u = u ≡ c ∷ []
Means prog u = After [] u
Means (name p) u = After (bytes "Jr." ++ letters (home p)) u
Means parts u =
    ((p : Program) (w : List ℕ) → Says (whole p) w → (q : Program) × Says (later_seq q) (w ++ u))
    × ((p : Program) (w : List ℕ) → Says (whole p) w → (q : Program) × Says (later_par q) (w ++ u))
Means (conf e) u = (c : Config) × (v : List ℕ) × SaysTest c v × (u ≡ v ++ (end_byte e ∷ []))
Means inner u = (c : Config) × SaysTest c (bytes "(" ++ u)
Means joint u =
    (c : Config) (w : List ℕ) → SaysTest c w → (d : Config) × SaysTest d (bytes "(" ++ (w ++ (bytes " " ++ u)))
Means (num n e) u = (a : ℕ) × (a ≤ limit n) × (u ≡ decimal a ++ (end_byte e ∷ []))
Means (tail n v e) u =
    v ≤ limit n → (a : ℕ) × (a ≤ limit n) × (decimal v ++ u ≡ decimal a ++ (end_byte e ∷ []))

-- the text is eaten by the symbols of a stack, one behind another
abbrev pub Reads : Stack → List ℕ → Type 0
Reads [] w = w ≡ []
Reads (s ∷ σ) w = (u : List ℕ) × (v : List ℕ) × (w ≡ u ++ v) × Means s u × Reads σ v

pub reads_lit : (x : List ℕ) (σ : Stack) (w : List ℕ) → Reads (lit x σ) w → (v : List ℕ) × (w ≡ x ++ v) × Reads σ v
reads_lit [] σ w r = (w, refl, r)
reads_lit (c ∷ x) σ w (u, v, e, m, r) = let k = reads_lit x σ v r in (k.0, e ∙ cc (m, k.1), k.2)

pub reads_split : (α σ : Stack) (w : List ℕ) → Reads (α ++ σ) w
    → (u : List ℕ) × (v : List ℕ) × (w ≡ u ++ v) × Reads α u × Reads σ v
reads_split [] σ w r = ([], w, refl, refl, r)
reads_split (s ∷ α) σ w (u, v, e, m, r) =
    let k = reads_split α σ v r in
    let z = ap (λ x. u ++ x) k.2 ∙ sym (append_assoc u k.0 k.1) in
    (u ++ k.0, k.1, e ∙ z, (u, k.0, refl, m, k.3), k.4)

-- the symbol s is read by the letters c ∷ x and the symbols α
pub taken : (s : Sym) (σ : Stack) (b c : ℕ) (x : List ℕ) (α : Stack) (w : List ℕ)
    → ((u : List ℕ) → Reads α u → Means s (c ∷ (x ++ u)))
    → eqb b c ≡ true → Reads (lit x (α ++ σ)) w → Reads (s ∷ σ) (b ∷ w)
taken s σ b c x α w f t r =
    let l = reads_lit x (α ++ σ) w r in
    let k = reads_split α σ l.0 l.2 in
    let e = ap (λ y. y ∷ w) (eqb-true b c t) in
    let z : w ≡ (x ++ k.0) ++ k.1 = l.1 ∙ (ap (λ y. x ++ y) k.2 ∙ sym (append_assoc x k.0 k.1)) in
    (c ∷ (x ++ k.0), k.1, e ∙ ap (λ y. c ∷ y) z, f k.0 k.3, k.4)
