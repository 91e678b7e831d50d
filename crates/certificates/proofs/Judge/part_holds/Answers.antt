-- The set, the action, then the next words.
use Rattle.std.proofs.Common.{◌≡◌, true, sym, ◌∙◌}
use Rattle.games.specs.Words.{game}
use Rattle.pairs.proofs.Pairing.{paired, action_in}
use Rattle.certificates.specs.Certificate.{set_fits}
use Rattle.certificates.proofs.Certified.{fit_below}
use Rattle.certificates.proofs.Judged.{set_wrong, blocked_wrong, posts, own_right}
use Rattle.certificates.proofs.Judge.part_holds.Goals as goal

pub returns-then-not-set_fits : goal.returns-then-not-set_fits
returns-then-not-set_fits c = set_wrong _ _ _ _ c.cell_set-s.ensures (sym c.set_fits.ensures ∙ c.if-not-set_fits.true)

pub post-requires : goal.post-requires
post-requires c =
    let fit : set_fits (game c.args.self.pair.table.table.words.now) c.cell_set-s.result ≡ true = sym c.set_fits.ensures ∙ c.if-not-set_fits.false in
    (fit_below _ _ fit, action_in _ _ (paired _ _ c.args.self.pair.checked) _ _ c.requires c.cell_action.ensures)

pub nexts_hold-requires : goal.nexts_hold-requires
nexts_hold-requires c =
    let fit : set_fits (game c.args.self.pair.table.table.words.now) c.cell_set-s.result ≡ true = sym c.set_fits.ensures ∙ c.if-not-set_fits.false in
    (c.requires, posts _ _ _ _ c.cell_set-s.ensures fit _ c.cell_action.ensures _ (cc))

pub returns-in-None : goal.returns-in-None
returns-in-None c =
    let fit : set_fits (game c.args.self.pair.table.table.words.now) c.cell_set-s.result ≡ true = sym c.set_fits.ensures ∙ c.if-not-set_fits.false in
    blocked_wrong _ _ _ _ c.cell_set-s.ensures fit _ c.cell_action.ensures (cc)

pub returns-in-Some : goal.returns-in-Some
returns-in-Some c =
    let fit : set_fits (game c.args.self.pair.table.table.words.now) c.cell_set-s.result ≡ true = sym c.set_fits.ensures ∙ c.if-not-set_fits.false in
    own_right _ _ _ _ c.cell_set-s.ensures fit _ c.cell_action.ensures c.in-Some.u (cc) _ c.nexts_hold.ensures
