-- `tables::check_sets` meets its contract: before each turn each state so far is named by a word.
use mathlib.Core.Path.{◌≡◌, sym, ap, ◌∙◌}
use Prim.Native.Nat.{ℕ}
use native.Mathlib.Omega.{arith}
use borrow.Author.Rules.{rules}
use Rattle.sets.proofs.Bounded.{first_zero, first_skip}
use Rattle.games.specs.Answers.{refused}
use Rattle.tables.specs.Check.{unseen_in}
use Rattle.tables.proofs.Checks.{sets_empty, sets_unseen, sets_fine}
use Rattle.tables.proofs.check_sets.Goals as goal
use Rattle.games.specs.declared.Reason.TheVariants as reason

pub returns-then-start-eq0 : goal.returns-then-start-eq0
returns-then-start-eq0 c =
    rw c.at.ensures
    (ap (λ (p : ℕ). refused reason.NoStart p) c.place_of.ensures ∙ sym (sets_empty c.args.shown.now c.args.s.states c.args.start c.if-start-eq0.true))

pub loop-i-init : goal.loop-i-init
loop-i-init c = first_zero _

pub returns-then-is_unseen : goal.returns-then-is_unseen
returns-then-is_unseen c =
    rw c.at-then-is_unseen.ensures
    (sym (sets_unseen c.args.shown.now c.args.s.states c.args.start c.if-start-eq0.false c.loop-i.i (search rules) c.loop-i.invariant (sym c.is_unseen.ensures ∙ c.if-is_unseen.true)))

pub loop-i-preserved : goal.loop-i-preserved
loop-i-preserved c = first_skip c.loop-i.i (unseen_in c.args.shown.now) c.loop-i.invariant (sym c.is_unseen.ensures ∙ c.if-is_unseen.false)

pub returns : goal.returns
returns c =
    let e : c.loop-i.i ≡ c.args.s.states = omega arith in
    sym (sets_fine c.args.shown.now c.args.s.states c.args.start c.if-start-eq0.false (rw e at c.loop-i.invariant))
