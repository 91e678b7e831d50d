use mathlib.Core.List.{List}
use mathlib.Core.Path.{◌≡◌, refl, sym, ap, ◌∙◌, subst}
use Prim.Native.Nat.{ℕ, ◌+◌, ◌<◌}
use native.Mathlib.Omega.{arith}
use Rattle.families.specs.Bits.{sets as sets_of}
use Rattle.families.proofs.Lanes.{lane_there}
use Rattle.games.specs.Format.{low_values, kind_first}
use Rattle.games.specs.Game.{Game}
use Rattle.games.specs.Verdict.{start_set}
use Rattle.games.specs.Automaton.{holding}
use Rattle.games.specs.Fields.{word}
use Rattle.games.specs.Words.{game, card_head}
use Rattle.games.proofs.Holding.{holding_small}
use Rattle.games.proofs.Starts.{start_below}
use Rattle.tables.proofs.Bounds.{few_observations, few_actions}
use Rattle.tables.proofs.Checks.{accepted}
use Rattle.games.specs.declared.Cell.{Cell}
use Rattle.index.specs.Index.{named}
use Rattle.index.proofs.Answer.{named_holding}
use Rattle.cards.proofs.Parts.{filled_none, filled_more, filled_end}
use Rattle.writing.proofs.Words.{sets_front, first_word, front_is}
use Rattle.writing.proofs.Settled.write_front.Goals as goal

pub loop-j-init : goal.loop-j-init
loop-j-init c =
    let e = ap (λ (n : ℕ). 1 + n) c.start_sets-j-end.ensures ∙ sets_front (game c.args.self.moves.accepted.table.words.now) in (
      filled_none c.start_sets-j-end.result (first_word (game c.args.self.moves.accepted.table.words.now) (sets_of c.args.self.cells.tops.now)) c.args.out.now (c.requires.2 ∙ sym e),
      refl,
      c.requires.0,
    )

pub holding-held-requires : goal.holding-held-requires
holding-held-requires c =
    let b = start_below (game c.args.self.moves.accepted.table.words.now) (accepted c.args.self.moves.accepted.table.words.now c.args.self.moves.accepted.checked) c.loop-j.j in (
      c.loop-j.invariant.2,
      rw (c.args.self.listed.wide, c.start_set.ensures) (lane_there (game c.args.self.moves.accepted.table.words.now).states (start_set (game c.args.self.moves.accepted.table.words.now) c.loop-j.j) b),
      rw (c.args.self.listed.all_sets, c.start_set.ensures) b,
    )

pub kind_naming-requires : goal.kind_naming-requires
kind_naming-requires c =
    let e = ap (λ (n : ℕ). 1 + n) c.start_sets-j-end.ensures ∙ sets_front (game c.args.self.moves.accepted.table.words.now) in
    let played : Game = game c.args.self.moves.accepted.table.words.now in
    let listed : List ℕ = sets_of c.args.self.cells.tops.now in
    let first_cell : c.unwrap_or-first.result.0 ≡ holding listed (start_set played c.loop-j.j) = ap (λ (x : Cell). x.0) c.unwrap_or-first.ensures ∙ ap named c.holding-held.ensures.0 ∙ named_holding listed c.start_set.result ∙ ap (holding listed) c.start_set.ensures in
    (subst (λ (x : ℕ). x < low_values) (sym first_cell) (holding_small _ _ c.args.self.cells.indexed.cells_few), omega (arith, e, few_observations c.args.self.moves.accepted.table.words.now c.args.self.moves.accepted.table.sized, c.loop-j-test.true))

pub loop-j-preserved : goal.loop-j-preserved
loop-j-preserved c =
    let played : Game = game c.args.self.moves.accepted.table.words.now in
    let listed : List ℕ = sets_of c.args.self.cells.tops.now in
    let first_cell : c.unwrap_or-first.result.0 ≡ holding listed (start_set played c.loop-j.j) = ap (λ (x : Cell). x.0) c.unwrap_or-first.ensures ∙ ap named c.holding-held.ensures.0 ∙ named_holding listed c.start_set.result ∙ ap (holding listed) c.start_set.ensures in (
      filled_more c.start_sets-j-end.result (first_word played listed) c.loop-j.j c.loop-j.out c.kind_naming.result (omega arith)
          (c.kind_naming.ensures ∙ ap (λ (n : ℕ). word kind_first n c.loop-j.j 0) first_cell) c.loop-j.invariant.0,
      c.holding-held.auto.work ∙ c.loop-j.invariant.1,
      c.holding-held.ensures.1,
    )

pub heading-requires : goal.heading-requires
heading-requires c = (
  omega (arith, c.args.self.cells.indexed.cells_few, c.requires.1),
  omega (arith, c.observations.ensures, few_observations c.args.self.moves.accepted.table.words.now c.args.self.moves.accepted.table.sized),
  omega (arith, c.actions.ensures, few_actions c.args.self.moves.accepted.table.words.now c.args.self.moves.accepted.table.sized),
)

pub returns : goal.returns
returns c =
    let g = game c.args.self.moves.accepted.table.words.now in
    let l = sets_of c.args.self.cells.tops.now in (
      filled_end c.start_sets-j-end.result (first_word g l) c.loop-j.j c.loop-j.out c.heading.result c.loop-j-test.false c.loop-j.auto.j-end c.loop-j.invariant.0
          ∙ front_is g l c.args.self.listed.are c.start_sets-j-end.result c.heading.result c.start_sets-j-end.ensures (c.heading.ensures ∙ ap (λ (n : ℕ). card_head n c.observations.result c.actions.result) c.requires.1 ∙ rw (c.observations.ensures, c.actions.ensures)),
      c.loop-j.invariant.2,
    )
