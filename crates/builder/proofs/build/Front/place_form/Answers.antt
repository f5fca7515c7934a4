-- `place_form` meets its contract: the codes in the brackets tell what is placed.
use mathlib.Core.Path.{sym, ◌∙◌}
use Rattle.builder.proofs.TableHolds.{ready_in, places_in}
use Rattle.builder.proofs.PlacedByFunctions.{form_row_lem, form_choice, form_await, form_asking, form_single}
use Rattle.builder.proofs.build.Front.place_form.Goals as goal

-- self.place_row(kind, table);
pub place_row-requires : goal.place_row-requires
place_row-requires c =
    ready_in (λ m n s h. form_row_lem c.args.kind c.args.end c.requires.name_ends.0 c.args.text.now s
    (sym c.code.ensures ∙ c.if-code.true)) c.requires.can_place

pub returns-then-code : goal.returns-then-code
returns-then-code c =
    places_in (λ m n s h. form_row_lem c.args.kind c.args.end c.requires.name_ends.0 c.args.text.now s
    (sym c.code.ensures ∙ c.if-code.true)) c.place_row.ensures

-- self.place_choice(kind, text, table);
pub place_choice-requires : goal.place_choice-requires
place_choice-requires c =
    ready_in (λ m n s h. form_choice c.args.kind c.args.end c.requires.name_ends.0 c.args.text.now s
    (λ e. c.if-code.false (c.code.ensures ∙ e)) (sym c.code-else-code.ensures ∙ c.if-code-2.true) (sym c.code-then-code-2.ensures ∙ c.if-code-eq44.true)) c.requires.can_place

pub returns-then-code-eq44 : goal.returns-then-code-eq44
returns-then-code-eq44 c =
    places_in (λ m n s h. form_choice c.args.kind c.args.end c.requires.name_ends.0 c.args.text.now s
    (λ e. c.if-code.false (c.code.ensures ∙ e)) (sym c.code-else-code.ensures ∙ c.if-code-2.true) (sym c.code-then-code-2.ensures ∙ c.if-code-eq44.true)) c.place_choice.ensures

-- self.place_await(kind, text, table);
pub place_await-requires : goal.place_await-requires
place_await-requires c =
    ready_in (λ m n s h. form_await c.args.kind c.args.end c.requires.name_ends.0 c.args.text.now s
    (λ e. c.if-code.false (c.code.ensures ∙ e)) (sym c.code-else-code.ensures ∙ c.if-code-2.true) (λ e. c.if-code-eq44.false (c.code-then-code-2.ensures ∙ e))) c.requires.can_place

pub returns-else-code-eq44 : goal.returns-else-code-eq44
returns-else-code-eq44 c =
    places_in (λ m n s h. form_await c.args.kind c.args.end c.requires.name_ends.0 c.args.text.now s
    (λ e. c.if-code.false (c.code.ensures ∙ e)) (sym c.code-else-code.ensures ∙ c.if-code-2.true) (λ e. c.if-code-eq44.false (c.code-then-code-2.ensures ∙ e))) c.place_await.ensures

-- self.place_asking(names.code(end + 3), kind, text, table);
pub place_asking-requires : goal.place_asking-requires
place_asking-requires c =
    let code5 = c.code-then-code-3 in
    (ready_in (λ m n s h. form_asking c.args.kind c.args.end c.requires.name_ends.0 c.args.text.now s
    (λ e. c.if-code.false (c.code.ensures ∙ e)) (λ e. c.if-code-2.false (c.code-else-code.ensures ∙ e)) (sym c.code-else-code-2.ensures ∙ c.if-code-3.true) code5.result code5.ensures)
    c.requires.can_place)

pub returns-then-code-3 : goal.returns-then-code-3
returns-then-code-3 c =
    places_in (λ m n s h. form_asking c.args.kind c.args.end c.requires.name_ends.0 c.args.text.now s
    (λ e. c.if-code.false (c.code.ensures ∙ e)) (λ e. c.if-code-2.false (c.code-else-code.ensures ∙ e)) (sym c.code-else-code-2.ensures ∙ c.if-code-3.true) c.code-then-code-3.result c.code-then-code-3.ensures)
    c.place_asking.ensures

-- self.place_single(names, kind, end, text, table);
pub place_single-requires : goal.place_single-requires
place_single-requires c =
    let if4 = c.if-code-3 in
    record {
      name_ends = c.requires.name_ends;
      can_place = ready_in (λ m n s h. form_single c.args.kind c.args.end c.requires.name_ends.0 c.args.text.now s
          (λ e. c.if-code.false (c.code.ensures ∙ e)) (λ e. c.if-code-2.false (c.code-else-code.ensures ∙ e)) (λ e. if4.false (c.code-else-code-2.ensures ∙ e))) c.requires.can_place;
    }

pub returns-else-code-3 : goal.returns-else-code-3
returns-else-code-3 c =
    places_in (λ m n s h. form_single c.args.kind c.args.end c.requires.name_ends.0 c.args.text.now s
    (λ e. c.if-code.false (c.code.ensures ∙ e)) (λ e. c.if-code-2.false (c.code-else-code.ensures ∙ e)) (λ e. c.if-code-3.false (c.code-else-code-2.ensures ∙ e))) c.place_single.ensures
