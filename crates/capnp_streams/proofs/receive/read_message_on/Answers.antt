-- What was read of the message, and its length by that.
use Rattle.std.proofs.Common.{◌≡◌, ◌∙◌, ◌*◌, ◌+◌, Err, ap, arith, drop, length, sym, take}
use Rattle.std.proofs.lemmas.Result.{err_from_is_err_and}
use Rattle.capnp_wire.specs.Slot.{little_endian}
use Rattle.capnp_wire.specs.Stream.{segment_count}
use Rattle.capnp_streams.proofs.Outcomes.{cut_body, is_cut, same_count, still_eight, tabled, whole_read}
use Rattle.capnp_streams.proofs.Reading.{both_read}
use Rattle.capnp_streams.proofs.receive.read_message_on.Goals as goal

pub returns-in_err-read_on-2-clause-on : goal.returns-in_err-read_on-2-clause-on
returns-in_err-read_on-2-clause-on g c =
    let p = err_from_is_err_and c.from_residual-in_err-read_on-2.result c.from_residual-in_err-read_on-2.ensures.1 in
    let i = c.in_err-read_on-2.ensures in
    rw (p.1, p.2) (λ read memory. both_read _ _ _ _ _ _ c.in_ok-read_on.ensures.read (i.cut (is_cut _ i.memory read memory)))

pub returns-in_err-read_on-2-clause-why : goal.returns-in_err-read_on-2-clause-why
returns-in_err-read_on-2-clause-why g c =
    let a = c.args.message.now.items in
    let b = c.read_on.new.bytes.items in
    let x = c.read_on-2.new.bytes.items in
    let n = c.half_at.result + 1 in
    let first = c.in_ok-read_on.ensures.read in
    let eight : length a ≡ 8 = c.requires in
    let count : n ≡ segment_count a = ap (λ h. h + 1) (c.half_at.ensures ∙ ap (λ y. little_endian (take 4 y)) c.deref.ensures.value) in
    let half = c.get_header_bytes-header.ensures in
    let few = c.if-count-gt512.false in
    let table : c.part.result.now ≡ take (4 * n) (drop 4 b) = c.part.ensures ∙ ap (λ y. take (4 * n) (drop 4 y)) c.deref-2.ensures.value in
    let little = c.if-length-gt-MOST_BYTES.false in
    let p = err_from_is_err_and c.from_residual-in_err-read_on-2.result c.from_residual-in_err-read_on-2.ensures.1 in
    let i = c.in_err-read_on-2.ensures in
    rw (p.1, p.2) (λ read memory.
    let t = is_cut _ i.memory read memory in
    let on = i.cut t in
    let short = i.short t in
    let k = tabled b x on.read c.part.result.now n c.count_words.result (still_eight a b first.read eight first.behind) (same_count a b first.read n eight first.behind count)
    (omega (arith, few)) (c.in_ok-read_on.ensures.there ∙ half) table c.count_words.ensures.value on.behind in
    cut_body b x _ k (omega (arith, little, half)) (omega (arith, short, half)) ∙ ap Err (sym t))

pub returns-clause-whole : goal.returns-clause-whole
returns-clause-whole g c =
    let a = c.args.message.now.items in
    let b = c.read_on.new.bytes.items in
    let x = c.read_on-2.new.bytes.items in
    let n = c.half_at.result + 1 in
    let first = c.in_ok-read_on.ensures.read in
    let eight : length a ≡ 8 = c.requires in
    let count : n ≡ segment_count a = ap (λ h. h + 1) (c.half_at.ensures ∙ ap (λ y. little_endian (take 4 y)) c.deref.ensures.value) in
    let half = c.get_header_bytes-header.ensures in
    let few = c.if-count-gt512.false in
    let table : c.part.result.now ≡ take (4 * n) (drop 4 b) = c.part.ensures ∙ ap (λ y. take (4 * n) (drop 4 y)) c.deref-2.ensures.value in
    let little = c.if-length-gt-MOST_BYTES.false in
    let on = c.in_ok-read_on-2.ensures.read in
    let there = c.in_ok-read_on-2.ensures.there in
    let k = tabled b x on.read c.part.result.now n c.count_words.result (still_eight a b first.read eight first.behind) (same_count a b first.read n eight first.behind count)
    (omega (arith, few)) (c.in_ok-read_on.ensures.there ∙ half) table c.count_words.ensures.value on.behind in
    whole_read b x _ k (omega (arith, little, half)) (omega (arith, there, half))
