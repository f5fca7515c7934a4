-- `code` meets its contract.
use borrow.Author.Rules.{rules}
use Prim.Native.Nat.{ℕ}
use mathlib.Core.Path.{◌≡◌, ap, ◌∙◌}
use mathlib.Core.List.{List}
use lib.ListN.{get_or}
use Rattle.form.specs.Inside.Rows.{code_at}
use Rattle.form.proofs.names.Names.code.Goals as goal

pub returns : goal.returns
unfolding code_at
returns c =
    let e : c.unwrap_or.result ≡ get_or c.args.self.now.bytes c.args.at 0 = search rules in
    e ∙ ap (λ (l : List ℕ). get_or l c.args.at 0) c.args.self.now.the_names
