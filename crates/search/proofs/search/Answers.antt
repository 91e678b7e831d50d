-- `search::search` meets its contract: what the first family says, then what `settle` ensures.
use borrow.Author.Rules.{rules}
use mathlib.Core.Path.{◌≡◌, sym, ap, ◌∙◌}
use Prim.Native.Nat.{ℕ, ◌-◌, ◌^◌}
use native.Mathlib.Omega.{arith}
use lib.Pow.{ones_lt}
use Rattle.families.proofs.Lanes.{lane_there}
use Rattle.games.specs.Game.{Game, Accepted}
use Rattle.games.specs.Words.{game}
use Rattle.tables.proofs.Checks.{accepted}
use Rattle.tables.proofs.Bounds.{few_states}
use Rattle.search.proofs.Searching.{first_lost, first_settled, first_on}
use Rattle.search.proofs.search.Goals as goal

pub single-all-requires : goal.single-all-requires
single-all-requires c = omega (arith, c.states.ensures, few_states c.args.moves.accepted.table.words.now c.args.moves.accepted.table.sized)

pub returns-then-not-starts_in : goal.returns-then-not-starts_in
returns-then-not-starts_in c =
    let played : Game = game c.args.moves.accepted.table.words.now in
    let fine : Accepted played = accepted c.args.moves.accepted.table.words.now c.args.moves.accepted.checked in
    first_lost played fine _ c.first_family.ensures (sym c.starts_in.ensures ∙ c.if-not-starts_in.true)

pub has-requires : goal.has-requires
has-requires c =
    let played : Game = game c.args.moves.accepted.table.words.now in
    let sets_are : c.single-all.result ≡ 2 ^ played.states = c.single-all.ensures ∙ ap (λ (n : ℕ). 2 ^ n) c.states.ensures in
    let n = played.states in
    rw (sets_are, c.first_family.ensures.size) (lane_there n (2 ^ n - 1) (ones_lt n))

pub returns-then-has : goal.returns-then-has
returns-then-has c =
    let played : Game = game c.args.moves.accepted.table.words.now in
    let fine : Accepted played = accepted c.args.moves.accepted.table.words.now c.args.moves.accepted.checked in
    let sets_are : c.single-all.result ≡ 2 ^ played.states = c.single-all.ensures ∙ ap (λ (n : ℕ). 2 ^ n) c.states.ensures in
    first_settled played fine _ c.first_family.ensures
    (sym c.starts_in.ensures ∙ c.if-not-starts_in.false)
    (rw sets_are at (sym c.has.ensures ∙ c.if-has.true))

pub settle-requires : goal.settle-requires
settle-requires c =
    let played : Game = game c.args.moves.accepted.table.words.now in
    let fine : Accepted played = accepted c.args.moves.accepted.table.words.now c.args.moves.accepted.checked in
    let sets_are : c.single-all.result ≡ 2 ^ played.states = c.single-all.ensures ∙ ap (λ (n : ℕ). 2 ^ n) c.states.ensures in (
      first_on played fine _ c.first_family.ensures
          (sym c.starts_in.ensures ∙ c.if-not-starts_in.false)
          (rw sets_are at (sym c.has.ensures ∙ c.if-has.false)),
      search rules,
    )
