-- `Narrow::word_at` meets its contract: the sum fits, since the mask is below 2 ^ `maxStates`.
use mathlib.Core.Path.{◌≡◌, sym, ap, ◌∙◌}
use Prim.Native.Nat.{◌≤◌}
use native.Mathlib.Omega.{arith}
use lib.Pow.{pow_mono}
use Rattle.games.specs.Format.{max_states}
use Rattle.games.specs.Places.{place_at}
use Rattle.games.specs.declared.Shape.{Shape}
use Rattle.games.proofs.Places.{place_within}
use Rattle.tables.specs.Fields.{fields_shape}
use Rattle.tables.specs.Layout.{head_word, bare_word}
use Rattle.tables.proofs.Layouts.{bare_small}
use Rattle.fields.proofs.Laws.{word_head, word_place, mask_low}
use Rattle.fields.proofs.Narrow.word_at.Goals as goal

pub returns-then-p-eq0 : goal.returns-then-p-eq0
returns-then-p-eq0 c = c.head_word.ensures ∙ ap head_word c.sizes-sizes.ensures ∙ sym (word_head c.args.self.bounded.fields c.args.p c.if-p-eq0.true)

pub overflow_add-result : goal.overflow_add-result
overflow_add-result c =
    let from_one : 1 ≤ c.args.p = omega arith in
    let bare : c.bare_word.result ≡ bare_word (place_at (fields_shape c.args.self.bounded.fields) c.args.p) = c.bare_word.ensures ∙ ap (λ (s : Shape). bare_word (place_at s c.args.p)) c.sizes-sizes.ensures in
    let there = place_within (fields_shape c.args.self.bounded.fields) c.args.p c.args.self.bounded.limited.some_state c.requires from_one in
    let low = mask_low c.args.self.bounded.fields c.args.self.masks c.args.p from_one c.requires in
    omega (arith, c.mask_at.ensures, bare, bare_small (fields_shape c.args.self.bounded.fields) c.args.self.bounded.limited (place_at (fields_shape c.args.self.bounded.fields) c.args.p) there, low, pow_mono {j = max_states} c.args.self.bounded.limited.most_states)

pub returns : goal.returns
returns c =
    let bare : c.bare_word.result ≡ bare_word (place_at (fields_shape c.args.self.bounded.fields) c.args.p) = c.bare_word.ensures ∙ ap (λ (s : Shape). bare_word (place_at s c.args.p)) c.sizes-sizes.ensures in
    rw (bare, c.mask_at.ensures) (sym (word_place c.args.self.bounded.fields c.args.p c.if-p-eq0.false))
