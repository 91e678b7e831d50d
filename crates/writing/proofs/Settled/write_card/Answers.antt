use mathlib.Core.List.{List, ◌++◌}
use mathlib.Core.Path.{◌≡◌, refl, ap, ◌∙◌}
use Prim.Native.Nat.{ℕ}
use native.Mathlib.Omega.{arith}
use lib.ListN.{drop}
use Rattle.families.specs.Bits.{sets as sets_of}
use Rattle.games.specs.Words.{game, front_length, part_length, card_length}
use Rattle.cards.specs.Card.{cell_place}
use Rattle.tables.proofs.Bounds.{few_observations}
use Rattle.tables.proofs.Checks.{accepted}
use Rattle.cards.proofs.Parts.{carded_none, carded_part, carded_more, fronted_room, carded_whole}
use Rattle.writing.proofs.Carding.{listed_words, set_words_length, front_words_length, card_is, noted_settled, noted_words}
use Rattle.writing.proofs.Settled.write_card.Goals as goal

pub loop-c-init : goal.loop-c-init
loop-c-init c =
    let g = game c.args.self.moves.accepted.table.words.now in
    let parts : ℕ → List ℕ = listed_words g (sets_of c.args.self.cells.tops.now) in
    let front_is : c.front_length-front.result ≡ front_length g.observations = c.front_length-front.ensures ∙ ap front_length c.observations-o.ensures in
    (carded_none g.observations c.args.count parts _ (fronted_room g.observations c.args.count parts _ c.front_length-front.result front_is (front_words_length g) c.args.card.now c.write_front.new.out c.write_front.ensures.0 c.requires.2), refl, c.write_front.ensures.1)

pub cell_place-at-requires : goal.cell_place-at-requires
cell_place-at-requires c = (omega (arith, c.observations-o.ensures, few_observations c.args.self.moves.accepted.table.words.now c.args.self.moves.accepted.table.sized), omega (arith, c.loop-c-test.true, c.requires.1, c.args.self.cells.indexed.cells_few))

pub write_cell-requires : goal.write_cell-requires
write_cell-requires c =
    let g = game c.args.self.moves.accepted.table.words.now in
    let parts : ℕ → List ℕ = listed_words g (sets_of c.args.self.cells.tops.now) in
    let part_is : c.part_length-part.result ≡ part_length g.observations = c.part_length-part.ensures ∙ ap part_length c.observations-o.ensures in
    let place_is : c.cell_place-at.result ≡ cell_place g.observations c.loop-c.c = c.cell_place-at.ensures ∙ ap (λ (o : ℕ). cell_place o c.loop-c.c) c.observations-o.ensures in
    (c.loop-c.invariant.2, noted_settled g (accepted c.args.self.moves.accepted.table.words.now c.args.self.moves.accepted.checked) c.args.self.cells.tops.now c.args.self.listed.are c.args.self.cells.base c.loop-c.work c.loop-c.invariant.2 c.args.count c.loop-c.c c.requires.1 c.loop-c-test.true, carded_part g.observations c.args.count parts _ c.loop-c.c c.loop-c.card c.loop-c.invariant.0 c.loop-c-test.true c.cell_place-at.result c.part_length-part.result place_is part_is)

pub loop-c-preserved : goal.loop-c-preserved
loop-c-preserved c =
    let g = game c.args.self.moves.accepted.table.words.now in
    let parts : ℕ → List ℕ = listed_words g (sets_of c.args.self.cells.tops.now) in
    let part_is : c.part_length-part.result ≡ part_length g.observations = c.part_length-part.ensures ∙ ap part_length c.observations-o.ensures in
    let place_is : c.cell_place-at.result ≡ cell_place g.observations c.loop-c.c = c.cell_place-at.ensures ∙ ap (λ (o : ℕ). cell_place o c.loop-c.c) c.observations-o.ensures in (
      carded_more g.observations c.args.count parts _ c.loop-c.c c.loop-c.card c.loop-c.invariant.0 c.loop-c-test.true c.cell_place-at.result c.part_length-part.result place_is part_is
          c.write_cell.new.out (c.write_cell.ensures.0 ∙ noted_words g (accepted c.args.self.moves.accepted.table.words.now c.args.self.moves.accepted.checked) c.args.self.cells.tops.now c.args.self.listed.are c.args.self.cells.base c.loop-c.work c.loop-c.invariant.2 c.args.count c.loop-c.c c.requires.1 c.loop-c-test.true) (set_words_length g _),
      c.write_cell.auto.work ∙ c.loop-c.invariant.1,
      c.write_cell.ensures.1,
    )

pub returns : goal.returns
returns c =
    let g = game c.args.self.moves.accepted.table.words.now in
    let parts : ℕ → List ℕ = listed_words g (sets_of c.args.self.cells.tops.now) in
    let front_is : c.front_length-front.result ≡ front_length g.observations = c.front_length-front.ensures ∙ ap front_length c.observations-o.ensures in
    carded_whole g.observations c.args.count parts _ c.front_length-front.result front_is (front_words_length g) c.args.card.now c.write_front.new.out c.write_front.ensures.0 c.requires.2 c.loop-c.c c.loop-c.card c.loop-c.invariant.0 c.loop-c-test.false
    ∙ ap (λ (d : List ℕ). d ++ drop (card_length c.args.count g.observations) c.args.card.now) (card_is g _ c.args.self.listed.are c.args.count c.requires.1)
