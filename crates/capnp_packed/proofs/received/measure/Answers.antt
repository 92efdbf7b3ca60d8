-- Each outcome, by what is known of the beginning of the stream.
use Rattle.std.proofs.Common.{Err, Ok, ap, sym, ◌∙◌, arith, rules}
use Rattle.capnp_wire.specs.Stream.{header_bytes}
use Rattle.capnp_packed.specs.Unpacking.{unpacked_bytes}
use Rattle.capnp_streams.specs.Facts.Lengths.{by_count, by_table, cut, large, many, there}
use Rattle.capnp_packed.proofs.Measured.{IsBeginning, bytes_known, count_known, known_there}
use Rattle.capnp_packed.proofs.received.measure.Goals as goal

pub returns-then-count-gt512-clause-refused : goal.returns-then-count-gt512-clause-refused
returns-then-count-gt512-clause-refused c =
    let u = c.unpack_into-known.ensures in
    let all = unpacked_bytes c.args.packed.now in
    let b : IsBeginning c.unpack_into-known.new.out all c.unpack_into-known.result = record { inside = search rules; room = u.length; whole = search rules; bytes = u.bytes } in
    let known = known_there _ all _ b in
    let some = c.if-known-lt8.false in
    let count = count_known _ all _ c.half_at.result b some c.half_at.ensures in
    let more = c.if-count-gt512.true in
    by_count all (omega (arith, known, some)) ∙ many all (omega (arith, more, count)) ∙ ap Err (sym c.from-then-count-gt512.ensures)

pub returns-then-length-gt-MOST_BYTES-clause-refused : goal.returns-then-length-gt-MOST_BYTES-clause-refused
returns-then-length-gt-MOST_BYTES-clause-refused c =
    let u = c.unpack_into-known.ensures in
    let all = unpacked_bytes c.args.packed.now in
    let b : IsBeginning c.unpack_into-known.new.out all c.unpack_into-known.result = record { inside = search rules; room = u.length; whole = search rules; bytes = u.bytes } in
    let known = known_there _ all _ b in
    let some = c.if-known-lt8.false in
    let count = count_known _ all _ c.half_at.result b some c.half_at.ensures in
    let few = c.if-count-gt512.false in
    let header = c.get_header_bytes-header.ensures in
    let same = ap header_bytes count in
    let table = c.if-known-header.false in
    let bytes = bytes_known _ all c.part.result.now _ _ c.count_words.result b count (omega (arith, header, table)) c.part.ensures c.count_words.ensures.value in
    let by = by_count all (omega (arith, known, some)) ∙ by_table all (omega (arith, few, count)) (omega (arith, header, same, table, known)) in
    let much = c.if-length-gt-MOST_BYTES.true in
    by ∙ large all (omega (arith, much, bytes, header)) ∙ ap Err (sym c.from-then-length-gt-MOST_BYTES.ensures)

pub returns-then-not-has_bytes-clause-refused : goal.returns-then-not-has_bytes-clause-refused
returns-then-not-has_bytes-clause-refused c =
    let u = c.unpack_into-known.ensures in
    let all = unpacked_bytes c.args.packed.now in
    let b : IsBeginning c.unpack_into-known.new.out all c.unpack_into-known.result = record { inside = search rules; room = u.length; whole = search rules; bytes = u.bytes } in
    let known = known_there _ all _ b in
    let some = c.if-known-lt8.false in
    let count = count_known _ all _ c.half_at.result b some c.half_at.ensures in
    let few = c.if-count-gt512.false in
    let header = c.get_header_bytes-header.ensures in
    let same = ap header_bytes count in
    let table = c.if-known-header.false in
    let bytes = bytes_known _ all c.part.result.now _ _ c.count_words.result b count (omega (arith, header, table)) c.part.ensures c.count_words.ensures.value in
    let by = by_count all (omega (arith, known, some)) ∙ by_table all (omega (arith, few, count)) (omega (arith, header, same, table, known)) in
    let little = c.if-length-gt-MOST_BYTES.false in
    let has = c.has_bytes.ensures in
    let no = c.if-not-has_bytes.true in
    by ∙ cut all (omega (arith, little, bytes, header)) (grind (arith, has, no, bytes, header)) ∙ ap Err (sym c.from-then-not-has_bytes.ensures)

pub returns-clause-length : goal.returns-clause-length
returns-clause-length c =
    let u = c.unpack_into-known.ensures in
    let all = unpacked_bytes c.args.packed.now in
    let b : IsBeginning c.unpack_into-known.new.out all c.unpack_into-known.result = record { inside = search rules; room = u.length; whole = search rules; bytes = u.bytes } in
    let known = known_there _ all _ b in
    let some = c.if-known-lt8.false in
    let count = count_known _ all _ c.half_at.result b some c.half_at.ensures in
    let few = c.if-count-gt512.false in
    let header = c.get_header_bytes-header.ensures in
    let same = ap header_bytes count in
    let table = c.if-known-header.false in
    let bytes = bytes_known _ all c.part.result.now _ _ c.count_words.result b count (omega (arith, header, table)) c.part.ensures c.count_words.ensures.value in
    let by = by_count all (omega (arith, known, some)) ∙ by_table all (omega (arith, few, count)) (omega (arith, header, same, table, known)) in
    let little = c.if-length-gt-MOST_BYTES.false in
    let has = c.has_bytes.ensures in
    let yes = c.if-not-has_bytes.false in
    by ∙ there all (omega (arith, little, bytes, header)) (grind (arith, has, yes, bytes, header)) ∙ ap Ok (omega (arith, bytes, header))
