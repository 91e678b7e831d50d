-- What is printed for stations A, B and C and for an input that is too long (document 01), computed from the definitions.
-- Assumes nothing.
use mathlib.Core.Path.{◌≡◌, refl}
use Rattle.std.specs.Prelude.{Ok}
use mathlib.Core.List.{[], ◌++◌}
use Rattle.sets.specs.Bounded.{gather}
use Rattle.games.specs.Stations.{card_a, card_c}
use Rattle.cards.specs.Card.{automaton}
use Rattle.solver.specs.declared.Verdict.TheVariants.{Yes, No}
use Rattle.text.specs.Text.{bytes}
use Rattle.text.specs.Decimal.{last_digits, decimal}
use Rattle.printout.specs.Lines.{field, cell_text, cell_field, yes_line, first_line, cell_line, next_line, no_line, refused_line}
use Rattle.printout.specs.Lines.{front_text, part_text, card_text, answer_text}
use Rattle.games.specs.declared.Reason.TheVariants as reason
use Rattle.games.specs.Answers.{refused}

station_a : answer_text (Ok (Yes 2 2)) card_a
    ≡ bytes "yes 2 2\n" ++ bytes "first 0 0\n"
    ++ bytes "cell 0 1 0\n" ++ bytes "next 0 0 1\n"
    ++ bytes "cell 1 2 1\n" ++ bytes "next 1 0 0\n"
unfolding gather automaton last_digits decimal field cell_text cell_field yes_line first_line cell_line next_line front_text part_text card_text answer_text
station_a = refl

station_b : answer_text (Ok (No 2)) [] ≡ bytes "no 2\n"
unfolding last_digits decimal field no_line answer_text
station_b = refl

station_c : answer_text (Ok (Yes 2 2)) card_c
    ≡ bytes "yes 2 2\n" ++ bytes "first 0 0\n" ++ bytes "first 1 1\n"
    ++ bytes "cell 0 1 0\n" ++ bytes "next 0 0 -\n" ++ bytes "next 0 1 1\n"
    ++ bytes "cell 1 2 1\n" ++ bytes "next 1 0 0\n" ++ bytes "next 1 1 -\n"
unfolding gather automaton last_digits decimal field cell_text cell_field yes_line first_line cell_line next_line front_text part_text card_text answer_text
station_c = refl

long_input : answer_text (refused reason.BadLength 1025) [] ≡ bytes "refused 3 1025\n"
unfolding last_digits decimal field refused_line answer_text
long_input = refl
