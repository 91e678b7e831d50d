-- `trimmer::trim_into` meets its contract: 9 where the room is short, else what `write_trimmed` ensures.
use mathlib.Core.Path.{◌≡◌, sym, ap, ◌∙◌, subst}
use mathlib.Core.List.{List}
use Prim.Native.Nat.{ℕ, ◌≤◌}
use native.Mathlib.Omega.{arith}
use lib.ListN.{length}
use Rattle.games.specs.Format.{max_cells}
use Rattle.games.specs.Words.{card_length}
use Rattle.cards.specs.Card.{card_observations, automaton}
use Rattle.cards.proofs.Checked.{fitting}
use Rattle.trimming.specs.Trim.{trimmed}
use Rattle.trimming.proofs.Numbers.{kept_few}
use Rattle.trimmer.proofs.Writing.{trimmed_long}
use Rattle.trimmer.proofs.Answers.{room_short, room_filled}
use Rattle.trimmer.proofs.trim_into.Goals as goal

pub overflow_cast-kept : goal.overflow_cast-kept
overflow_cast-kept c =
    let words : List ℕ = c.args.card.words.now in
    let few : c.mark_reached-kept.result ≤ max_cells = let w = words in
    omega (arith, c.mark_reached-kept.ensures.many, kept_few (automaton w) (card_observations w), (fitting w c.args.card.checked).cells) in
    omega (arith, few)

pub card_length-need-requires : goal.card_length-need-requires
card_length-need-requires c =
    let words : List ℕ = c.args.card.words.now in
    let few : c.mark_reached-kept.result ≤ max_cells = let w = words in
    omega (arith, c.mark_reached-kept.ensures.many, kept_few (automaton w) (card_observations w), (fitting w c.args.card.checked).cells) in
    (omega (arith, few), omega (arith, c.observations.ensures, (fitting words c.args.card.checked).observations))

pub returns-then-out-need : goal.returns-then-out-need
returns-then-out-need c =
    rw c.at.ensures
    (let words : List ℕ = c.args.card.words.now in
    let need_is : c.card_length-need.result ≡ length (trimmed words) = c.card_length-need.ensures ∙ ap (card_length _) c.observations.ensures
    ∙ ap (λ (n : ℕ). card_length n (card_observations words)) c.mark_reached-kept.ensures.many
    ∙ sym (trimmed_long words) in
    room_short words c.args.out.now _ need_is c.if-out-need.true)

pub write_marked-requires : goal.write_marked-requires
write_marked-requires c =
    let words : List ℕ = c.args.card.words.now in
    let need_is : c.card_length-need.result ≡ length (trimmed words) = c.card_length-need.ensures ∙ ap (card_length _) c.observations.ensures
    ∙ ap (λ (n : ℕ). card_length n (card_observations words)) c.mark_reached-kept.ensures.many
    ∙ sym (trimmed_long words) in
    (c.mark_reached-kept.ensures, subst (λ (n : ℕ). n ≤ length c.args.out.now) need_is c.if-out-need.false)

pub returns : goal.returns
returns c =
    let words : List ℕ = c.args.card.words.now in
    let need_is : c.card_length-need.result ≡ length (trimmed words) = c.card_length-need.ensures ∙ ap (card_length _) c.observations.ensures
    ∙ ap (λ (n : ℕ). card_length n (card_observations words)) c.mark_reached-kept.ensures.many
    ∙ sym (trimmed_long words) in
    room_filled words c.args.out.now _ need_is c.if-out-need.false _ _ c.mark_reached-kept.ensures.many c.write_marked.ensures
