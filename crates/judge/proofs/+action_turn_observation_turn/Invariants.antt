-- k falls by one at each pair of calls, from turn to closure to turn.
use Prim.Native.Nat.{◌+◌, ◌*◌}
use Rattle.judge.proofs.+action_turn_observation_turn.Given as goal

abbrev pub decreases-action_turn : goal.decreases-action_turn
decreases-action_turn l = 4 * l.k

abbrev pub decreases-action_turn-any : goal.decreases-action_turn-any
decreases-action_turn-any l = 4 * l.rest + 3

abbrev pub decreases-observation_turn : goal.decreases-observation_turn
decreases-observation_turn l = 4 * l.k + 2

abbrev pub decreases-observation_turn-all : goal.decreases-observation_turn-all
decreases-observation_turn-all l = 4 * l.k + 1
