-- `search::enabled_states` meets its contract. The loop's invariant: the mask has just the states below i that are not bad and in which the action is enabled.
use Rattle.games.specs.Words.{game}
use Rattle.search.specs.Stages.{EnabledStates}
use Rattle.search.proofs.enabled_states.Given as goal

abbrev pub invariant-loop-i : goal.invariant-loop-i
invariant-loop-i l = EnabledStates (game l.table.words.now) l.a.0 l.i l.mask
