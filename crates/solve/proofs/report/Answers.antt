-- `report` meets its contract: each answer of solve has its text, and the card of a yes lies in front of its room.
use mathlib.Core.Path.{◌≡◌, ap, ◌∙◌}
use mathlib.Core.List.{List, ◌++◌}
use native.Mathlib.Omega.{arith}
use Prim.Native.Nat.{ℕ}
use Rattle.games.specs.Words.{game, card_length}
use Rattle.tables.proofs.Bounds.{few_observations}
use Rattle.tables.proofs.Checks.{sized}
use Rattle.cards.specs.Card.{checked}
use Rattle.solver.specs.Solve.{says_yes}
use Rattle.text.proofs.Writing.{puts_then}
use Rattle.printout.specs.Lines.{yes_line, card_text}
use Rattle.solve.proofs.Answering.{puts_same, refused_text, no_text, yes_text, given, in_room, front_long, front_is, card_fits}
use Rattle.solve.proofs.report.Goals as goal

pub returns-in_default : goal.returns-in_default
returns-in_default c = (
  puts_same (refused_text c.args.table.now _ _ _ _ _ c.solve-answer.ensures.determined _ (c.in_default.is ∙ c.in-Err.is)) c.put_refusal.ensures.0,
  omega (arith, c.requires.1, c.put_refusal.ensures.1),
)

pub returns-in_default-verdict : goal.returns-in_default-verdict
returns-in_default-verdict c = (
  puts_same (no_text c.args.table.now _ _ _ _ _ c.solve-answer.ensures.determined _ (rw (c.in_default-verdict.is ∙ c.in-No.is) at c.in-Ok.is)) c.put_no.ensures.0,
  omega (arith, c.requires.1, c.put_no.ensures.1),
)

pub invariant_of-observations : goal.invariant_of-observations
invariant_of-observations c = record { sized = sized c.args.table.now (given c.args.table.now _ _ _ _ _ c.solve-answer.ensures.determined _ _ (rw c.in-Yes.is at c.in-Ok.is)).fine }

pub card_length-length-requires : goal.card_length-length-requires
card_length-length-requires c =
    let yes = given c.args.table.now _ _ _ _ _ c.solve-answer.ensures.determined _ _ (rw c.in-Yes.is at c.in-Ok.is) in
    card_fits c.in-Yes.cells (game c.args.table.now).observations c.observations.result _ c.observations.ensures
    (few_observations c.args.table.now (sized c.args.table.now yes.fine)) c.requires.0 yes.fits

pub slice_bounds-put_card-end : goal.slice_bounds-put_card-end
slice_bounds-put_card-end c =
    let long : c.card_length-length.result ≡ card_length c.in-Yes.cells (game c.args.table.now).observations = c.card_length-length.ensures ∙ ap (card_length c.in-Yes.cells) c.observations.ensures in
    in_room c.args.table.now _ _ _ _ _ c.solve-answer.ensures.determined _ _ (rw c.in-Yes.is at c.in-Ok.is) _ long c.solve-answer.auto.card

pub slice_bounds-put_card-end-2 : goal.slice_bounds-put_card-end-2
slice_bounds-put_card-end-2 c =
    let long : c.card_length-length.result ≡ card_length c.in-Yes.cells (game c.args.table.now).observations = c.card_length-length.ensures ∙ ap (card_length c.in-Yes.cells) c.observations.ensures in
    front_long c.args.table.now _ _ _ _ _ c.solve-answer.ensures.determined _ _ (rw c.in-Yes.is at c.in-Ok.is) _ long c.solve-answer.auto.card

pub invariant_of-put_card : goal.invariant_of-put_card
invariant_of-put_card c =
    let long : c.card_length-length.result ≡ card_length c.in-Yes.cells (game c.args.table.now).observations = c.card_length-length.ensures ∙ ap (card_length c.in-Yes.cells) c.observations.ensures in
    let is : c.solve-answer.result ≡ says_yes c.in-Yes.settled c.in-Yes.cells = rw c.in-Yes.is at c.in-Ok.is in
    record { checked = ap checked (front_is c.args.table.now _ _ _ _ _ c.solve-answer.ensures.determined _ _ is _ long) ∙ (c.solve-answer.ensures.promised.yes_card _ _ is).right }

pub returns : goal.returns
returns c =
    let long : c.card_length-length.result ≡ card_length c.in-Yes.cells (game c.args.table.now).observations = c.card_length-length.ensures ∙ ap (card_length c.in-Yes.cells) c.observations.ensures in
    let is : c.solve-answer.result ≡ says_yes c.in-Yes.settled c.in-Yes.cells = rw c.in-Yes.is at c.in-Ok.is in (
      puts_same
          (ap (λ (k : List ℕ). yes_line c.in-Yes.settled c.in-Yes.cells ++ card_text k) (front_is c.args.table.now _ _ _ _ _ c.solve-answer.ensures.determined _ _ is _ long) ∙ yes_text c.args.table.now _ _ _ _ _ c.solve-answer.ensures.determined _ _ is)
          (puts_then c.put_yes.ensures.0 c.put_card.ensures.0),
      omega (
        arith,
        c.requires,
        c.solve-answer.auto.card,
        in_room c.args.table.now _ _ _ _ _ c.solve-answer.ensures.determined _ _ is _ long c.solve-answer.auto.card,
        front_long c.args.table.now _ _ _ _ _ c.solve-answer.ensures.determined _ _ is _ long c.solve-answer.auto.card,
        c.put_card.ensures.1,
        c.put_yes.ensures.1,
      ),
    )
