-- The sizes of a machine that a card can hold.
-- Assumes nothing.
use Rattle.std.specs.Prelude.{◌≡◌, ℕ, ◌≤◌}
use Rattle.games.specs.Format.{max_actions, max_observations, max_cells}
use Rattle.form.specs.declared.Numeral.{Numeral}
use Rattle.kiss.specs.Text.{bits}

-- its inputs and outputs are written in so many bits that each number has a name; `Numeral` says how many numbers these can be
pub record Sized (a o m : ℕ) (inputs outputs : Numeral) : Type 0 where
  pub some_action : 1 ≤ a
  pub actions : a ≤ max_actions
  pub some_observation : 1 ≤ o
  pub observations : o ≤ max_observations
  pub some_cell : 1 ≤ m
  pub cells : m ≤ max_cells
  pub input_base : inputs.base ≡ 2
  pub output_base : outputs.base ≡ 2
  pub input : inputs.width ≡ bits o
  pub output : outputs.width ≡ bits a
  pub few_inputs : inputs.power ≤ 8
  pub few_outputs : outputs.power ≤ 8
  pub input_enough : o ≤ inputs.power
  pub output_enough : a ≤ outputs.power
