-- The length of a message by the beginning of its stream.
use Rattle.std.proofs.Common.{◌≡◌, ℕ, ◌*◌, ◌+◌, ◌/◌, ◌<◌, ◌≤◌, List, length, take, drop, ap, ◌∙◌, arith}
use Rattle.std.proofs.lemmas.List.{length-drop, length-take}
use Rattle.capnp_wire.specs.Slot.{little_endian}
use Rattle.capnp_wire.specs.Stream.{header_bytes, segment_count, table_of, total_words}
use Rattle.capnp_streams.specs.Facts.Lengths.{header_room, same_part}
use Rattle.capnp_streams.specs.Lengths.{message_bytes}

-- the beginning of a stream, as much as there is room for
pub record IsBeginning (begin all : List ℕ) (known : ℕ) : Type 0 where
  pub inside : known ≤ length begin
  pub room : length begin ≡ 2056
  pub whole : known < length begin → known ≡ length all
  pub bytes : take known begin ≡ take known all

-- ---- parts of it ----

pub known_there : (begin all : List ℕ) (known : ℕ) → IsBeginning begin all known → known ≤ length all
known_there begin all known b =
    let e = ap length b.bytes in let f = length-take known begin in let g = length-take known all in let i = b.inside in omega (arith, e, f, g, i)

pub count_known : (begin all : List ℕ) (known half : ℕ) → IsBeginning begin all known → 8 ≤ known → half ≡ little_endian (take 4 (drop 0 begin))
    → half + 1 ≡ segment_count all
count_known begin all known half b some h =
    ap (λ n. n + 1) (h ∙ ap little_endian (same_part known 0 4 begin all b.bytes (omega (arith, some))))

pub table_known : (begin all table : List ℕ) (known count : ℕ) → IsBeginning begin all known → count ≡ segment_count all → header_bytes count ≤ known
    → table ≡ take (4 * count) (drop 4 begin) → table ≡ table_of all
table_known begin all table known count b c some h =
    let r = header_room count in
    h ∙ same_part known 4 (4 * count) begin all b.bytes (omega (arith, r, some)) ∙ ap (λ n. take (4 * n) (drop 4 all)) c

pub bytes_known : (begin all table : List ℕ) (known count words : ℕ) → IsBeginning begin all known → count ≡ segment_count all → header_bytes count ≤ known
    → table ≡ take (4 * count) (drop 4 begin) → words ≡ total_words count table → header_bytes count + 8 * words ≡ message_bytes all
bytes_known begin all table known count words b c some h w =
    let r = header_room count in
    let there = known_there begin all known b in
    let t = table_known begin all table known count b c some h in
    let long : count ≡ length (table_of all) / 4 =
    let e = length-take (4 * segment_count all) (drop 4 all) in let f = length-drop 4 all in omega (arith, e, f, r, some, there, c) in
    ap (λ n. header_bytes count + 8 * n) (w ∙ ap (total_words count) t ∙ ap (λ n. total_words n (table_of all)) long)
    ∙ ap (λ n. header_bytes n + 8 * total_words (length (table_of all) / 4) (table_of all)) c
