-- One more letter stands there.
use Rattle.std.proofs.Common.{ℕ, ◌<◌, ◌≡◌, List, ap, arith, length, slice_set, sym, ◌∙◌}
use Rattle.capnp_builders.specs.Blobs.{position, text_bytes}
use Rattle.capnp_callers.proofs.Letters.{row, row_length, row_next}
use Rattle.capnp_callers.proofs.texts.new_row_of_letters.Goals as goal

pub loop-text-preserved : goal.loop-text-preserved
loop-text-preserved c =
    let held = c.loop-text.invariant in
    let n = position c.loop-text.text in
    let as_long : length (text_bytes c.loop-text.text) ≡ c.args.count = ap length held.2 ∙ row_length n c.args.count c.args.letter held.1 in
    let inside : n < c.args.count = omega (arith, as_long, c.room.ensures, c.loop-text-test.true) in
    let after = c.push_ascii.ensures.position in
    let written = c.push_ascii.ensures.bytes ∙ ap (λ (b : List ℕ). slice_set b n c.args.letter) held.2 ∙ row_next n c.args.count c.args.letter inside in
    (c.push_ascii.ensures.there, omega (arith, after, inside), written ∙ sym (ap (λ (k : ℕ). row k c.args.count c.args.letter) after))
