-- The bytes of the first message of a stream are read as the stream is.
use Rattle.std.proofs.Common.{◌≡◌, ℕ, ◌*◌, ◌+◌, ◌/◌, ◌≤◌, Bool, true, false, cond, nat_lt, List, [], length, take, drop, Result, Ok, Err, refl, ap, sym, ◌∙◌, arith}
use Rattle.std.proofs.lemmas.Bool.Decides.{nat_tests}
use Rattle.std.proofs.lemmas.List.{length-take, take-append-drop}
use Rattle.capnp_device.specs.declared.error.ErrorKind.{ErrorKind}
use Rattle.capnp_device.specs.declared.error.ErrorKind.TheVariants.{Truncated, TooManySegments, TooLarge}
use Rattle.capnp_wire.specs.Laws.{MoreBytesChangeNothing}
use Rattle.capnp_wire.specs.Slot.{little_endian}
use Rattle.capnp_wire.specs.Stream.{cut_segments, header_bytes, message_tree_of, root_read, segment_count, segments_after_count, segments_after_table, segments_of, table_of, total_words}
use Rattle.capnp_packed.specs.Received.{received_message, message_taken}
use Rattle.capnp_streams.specs.Facts.Lengths.{header_room, part_inside}
use Rattle.capnp_streams.specs.Lengths.{length_by_count, length_by_table, message_bytes, message_length, most_bytes}
use Rattle.capnp_packed.specs.Unpacking.{unpacked_bytes}

-- ---- what is known where no test refuses ----

passed : {A : Type 0} (t : Bool) (kind : ErrorKind) (r : Result A ErrorKind) (n : A) → cond t (Err kind) r ≡ Ok n → (t ≡ false) × (r ≡ Ok n)
passed true kind r n h = absurd (grind (arith, h))
passed false kind r n h = (refl, h)

number_of : Result ℕ ErrorKind → ℕ
number_of (Ok n) = n
number_of (Err kind) = 0

record IsThere (all : List ℕ) (n : ℕ) : Type 0 where
  some : 8 ≤ length all
  few : segment_count all ≤ 512
  table : header_bytes (segment_count all) ≤ length all
  whole : n ≤ length all
  is : message_bytes all ≡ n

known : (all : List ℕ) (n : ℕ) → message_length all ≡ Ok n → IsThere all n
unfolding number_of
known all n h =
    let a = passed (nat_lt (length all) 8) Truncated (length_by_count all) n h in
    let b = passed (nat_lt 512 (segment_count all)) TooManySegments (cond (nat_lt (length all) (header_bytes (segment_count all))) (Err Truncated) (length_by_table all)) n a.1 in
    let c = passed (nat_lt (length all) (header_bytes (segment_count all))) Truncated (length_by_table all) n b.1 in
    let d = passed (nat_lt most_bytes (message_bytes all)) TooLarge (cond (nat_lt (length all) (message_bytes all)) (Err Truncated) (Ok (message_bytes all))) n c.1 in
    let e = passed (nat_lt (length all) (message_bytes all)) Truncated (Ok (message_bytes all)) n d.1 in
    let is : message_bytes all ≡ n = ap number_of e.1 in
    let a0 = a.0 in let b0 = b.0 in let c0 = c.0 in let e0 = e.0 in
    record {
      some = grind (arith, nat_tests, a0);
      few = grind (arith, nat_tests, b0);
      table = grind (arith, nat_tests, c0);
      whole = grind (arith, nat_tests, e0, is);
      is = is;
    }

-- ---- the message alone ----

not_cut : {A : Type 0} (t : Bool) (kind : ErrorKind) (r : Result A ErrorKind) → t ≡ false → cond t (Err kind) r ≡ r
not_cut t kind r h = ap (λ x. cond x (Err kind) r) h

pub message_alone : (all : List ℕ) (n : ℕ) → message_length all ≡ Ok n
    → segments_of (take n all) ≡ Ok (cut_segments (length (table_of all) / 4) (table_of all) (drop (header_bytes (segment_count all)) (take n all)))
message_alone all n h =
    let k = known all n h in
    let m = take n all in
    let count = segment_count all in
    let some = k.some in let few = k.few in let table = k.table in let whole = k.whole in let is = k.is in
    let room = header_room count in
    let lm = length-take n all in
    let half : little_endian (take 4 m) + 1 ≡ count = ap (λ x. little_endian x + 1) (part_inside n 0 4 all (omega (arith, room, is))) in
    let row : take (4 * count) (drop 4 m) ≡ table_of all = part_inside n 4 (4 * count) all (omega (arith, room, is)) in
    let t1 : nat_lt (length m) 4 ≡ false = grind (arith, nat_tests, lm, some, whole, room, is) in
    let t2 : nat_lt 512 count ≡ false = grind (arith, nat_tests, few) in
    let t3 : nat_lt (length m) (header_bytes count) ≡ false = grind (arith, nat_tests, lm, whole, is) in
    let t4 : nat_lt (length m) (header_bytes count + 8 * total_words (length (table_of all) / 4) (table_of all)) ≡ false = grind (arith, nat_tests, lm, whole, is) in
    not_cut (nat_lt (length m) 4) Truncated (segments_after_count (little_endian (take 4 m) + 1) m) t1
    ∙ ap (λ c. segments_after_count c m) half
    ∙ not_cut (nat_lt 512 count) TooManySegments (cond (nat_lt (length m) (header_bytes count)) (Err Truncated) (segments_after_table count (take (4 * count) (drop 4 m)) m)) t2
    ∙ not_cut (nat_lt (length m) (header_bytes count)) Truncated (segments_after_table count (take (4 * count) (drop 4 m)) m) t3
    ∙ ap (λ r. segments_after_table count r m) row
    ∙ not_cut (nat_lt (length m) (header_bytes count + 8 * total_words (length (table_of all) / 4) (table_of all))) Truncated
    (Ok (cut_segments (length (table_of all) / 4) (table_of all) (drop (header_bytes count) m))) t4

-- so it is read as the stream is
pub read_alike : MoreBytesChangeNothing → (all : List ℕ) (n : ℕ) → message_length all ≡ Ok n → message_tree_of (take n all) ≡ message_tree_of all
read_alike law all n h =
    let alone = ap root_read (message_alone all n h) in
    sym (law (take n all) (drop n all) (λ q. absurd (let bad = sym alone ∙ q in grind (arith, bad)))) ∙ ap message_tree_of (take-append-drop n all)

bytes_of : Result (List ℕ) ErrorKind → List ℕ
bytes_of (Ok bytes) = bytes
bytes_of (Err kind) = []

alike_by : MoreBytesChangeNothing → (all items : List ℕ) (r : Result ℕ ErrorKind) → message_length all ≡ r → message_taken all r ≡ Ok items
    → message_tree_of items ≡ message_tree_of all
unfolding bytes_of
alike_by law all items (Ok n) h t = ap message_tree_of (sym (ap bytes_of t)) ∙ read_alike law all n h
alike_by law all items (Err kind) h t = absurd (grind (arith, t))

pub received_alike : MoreBytesChangeNothing → (packed items : List ℕ) → received_message packed ≡ Ok items
    → message_tree_of items ≡ message_tree_of (unpacked_bytes packed)
received_alike law packed items r = alike_by law (unpacked_bytes packed) items (message_length (unpacked_bytes packed)) refl r
