-- A segment is there below the table's length; it starts behind the header and all words before it.
-- Where these exceed the stream, nothing is left to take.
use Rattle.std.proofs.Common.{◌≡◌, ◌*◌, ◌/◌, ◌<◌, ◌≤◌, List, ℕ, length, take, drop, Some, None, slice_get, subst, sym, ap, ◌∙◌, arith}
use Rattle.std.proofs.lemmas.List.{drop-drop, length-drop}
use Rattle.capnp_wire.specs.Slot.{little_endian}
use Rattle.capnp_wire.specs.Stream.{cut_segments, header_bytes, segment_count, table_of, total_words}
use Rattle.capnp_wire.proofs.Cut.{cut_at, cut_past, taken_past}
use Rattle.capnp_wire.proofs.parts.segments.get_stream_segment.Goals as goal

pub returns-then-index-table : goal.returns-then-index-table
returns-then-index-table c =
    let body : List ℕ = drop (header_bytes (segment_count c.args.stream.now)) c.args.stream.now in
    subst (λ t. None ≡ slice_get (cut_segments (length t / 4) t body) c.args.index) c.get_table-table.ensures (cut_past _ _ body _ c.if-index-table.true)

pub returns-then-words-stream : goal.returns-then-words-stream
returns-then-words-stream c =
    let table : List ℕ = table_of c.args.stream.now in
    let header : ℕ = header_bytes (segment_count c.args.stream.now) in
    let there : c.args.index < length table / 4 = subst (λ t. c.args.index < length t / 4) c.get_table-table.ensures c.if-index-table.false in
    let words : c.count_words-words.result ≡ total_words c.args.index table = subst (λ t. c.count_words-words.result ≡ total_words c.args.index t) c.get_table-table.ensures c.count_words-words.ensures.value in
    let past : length (drop header c.args.stream.now) ≤ 8 * total_words c.args.index table = omega (arith, length-drop header c.args.stream.now, words, c.if-words-stream.true) in
    ap Some (sym (taken_past (8 * little_endian (take 4 (drop (4 * c.args.index) table))) _ _ past)) ∙ sym (cut_at (length table / 4) table (drop header c.args.stream.now) c.args.index there)

pub returns : goal.returns
returns c =
    let table : List ℕ = table_of c.args.stream.now in
    let header : ℕ = header_bytes (segment_count c.args.stream.now) in
    let there : c.args.index < length table / 4 = subst (λ t. c.args.index < length t / 4) c.get_table-table.ensures c.if-index-table.false in
    rw (c.part.ensures, c.get_size.ensures.value, c.get_header_bytes-header.ensures, c.half_at.ensures, c.count_words-words.ensures.value, c.get_table-table.ensures)
    (ap (λ xs. Some (take (8 * little_endian (take 4 (drop (4 * c.args.index) table))) xs)) (sym (drop-drop (8 * total_words c.args.index table) header c.args.stream.now))
    ∙ sym (cut_at (length table / 4) table (drop header c.args.stream.now) c.args.index there))
