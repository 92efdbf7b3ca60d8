-- The length of a message by the beginning of its stream, and each outcome of it.
use Rattle.std.proofs.Common.{◌≡◌, ℕ, ◌*◌, ◌+◌, ◌++◌, ◌/◌, ◌<◌, ◌≤◌, true, false, cond, nat_lt, List, length, take, drop, Result, Ok, Err, ap, sym, ◌∙◌, arith, rules}
use Rattle.std.proofs.lemmas.Bool.Decides.{nat_tests}
use Rattle.std.proofs.lemmas.List.{drop-append-le, length-drop, length-take, places, same_lists, take-append-le}
use Rattle.capnp_device.specs.declared.error.ErrorKind.{ErrorKind}
use Rattle.capnp_device.specs.declared.error.ErrorKind.TheVariants.{Truncated, TooManySegments, TooLarge}
use Rattle.capnp_wire.specs.Slot.{little_endian}
use Rattle.capnp_wire.specs.Stream.{header_bytes, segment_count, table_of, total_words}
use Rattle.capnp_streams.specs.Lengths.{length_by_count, length_by_table, message_bytes, message_length, most_bytes}

-- ---- parts of it ----

pub part_inside : (k i n : ℕ) (x : List ℕ) → i + n ≤ k → take n (drop i (take k x)) ≡ take n (drop i x)
part_inside k i n x h = same_lists _ _ (search (rules, places)) (λ j d q. grind (arith, places))

pub same_part : (k i n : ℕ) (x y : List ℕ) → take k x ≡ take k y → i + n ≤ k → take n (drop i x) ≡ take n (drop i y)
same_part k i n x y h q = sym (part_inside k i n x q) ∙ ap (λ z. take n (drop i z)) h ∙ part_inside k i n y q

pub header_room : (count : ℕ) → 4 + 4 * count ≤ header_bytes count
header_room count = omega arith

-- ---- what a table says ----

pub bytes_by_table : (all table : List ℕ) (count words : ℕ) → count ≡ segment_count all → header_bytes count ≤ length all
    → table ≡ take (4 * count) (drop 4 all) → words ≡ total_words count table → header_bytes count + 8 * words ≡ message_bytes all
bytes_by_table all table count words c some h w =
    let r = header_room count in
    let t : table ≡ table_of all = h ∙ ap (λ n. take (4 * n) (drop 4 all)) c in
    let long : count ≡ length (table_of all) / 4 =
    let e = length-take (4 * segment_count all) (drop 4 all) in let f = length-drop 4 all in omega (arith, e, f, r, some, c) in
    ap (λ n. header_bytes count + 8 * n) (w ∙ ap (total_words count) t ∙ ap (λ n. total_words n (table_of all)) long)
    ∙ ap (λ n. header_bytes n + 8 * total_words (length (table_of all) / 4) (table_of all)) c

-- ---- what more bytes leave as it is ----

pub count_stays : (begin more : List ℕ) → 4 ≤ length begin → segment_count (begin ++ more) ≡ segment_count begin
count_stays begin more some = ap (λ x. little_endian x + 1) (take-append-le 4 begin more some)

pub table_stays : (begin more : List ℕ) → header_bytes (segment_count begin) ≤ length begin → table_of (begin ++ more) ≡ table_of begin
table_stays begin more some =
    let count = segment_count begin in
    let r = header_room count in
    let few : 4 ≤ length begin = omega (arith, r, some) in
    let rest = length-drop 4 begin in
    ap (λ n. take (4 * n) (drop 4 (begin ++ more))) (count_stays begin more few)
    ∙ ap (take (4 * count)) (drop-append-le 4 begin more few)
    ∙ take-append-le (4 * count) (drop 4 begin) more (omega (arith, r, some, rest))

pub bytes_stay : (begin more : List ℕ) → header_bytes (segment_count begin) ≤ length begin → message_bytes (begin ++ more) ≡ message_bytes begin
bytes_stay begin more some =
    let r = header_room (segment_count begin) in
    ap (λ n. header_bytes n + 8 * total_words (length (table_of (begin ++ more)) / 4) (table_of (begin ++ more))) (count_stays begin more (omega (arith, r, some)))
    ∙ ap (λ t. header_bytes (segment_count begin) + 8 * total_words (length t / 4) t) (table_stays begin more some)

-- ---- each outcome ----

pub by_count : (all : List ℕ) → 8 ≤ length all → message_length all ≡ length_by_count all
by_count all some =
    let e : nat_lt (length all) 8 ≡ false = grind (arith, nat_tests, some) in
    ap (λ t. cond t (Err Truncated) (length_by_count all)) e

pub no_count : (all : List ℕ) → length all < 8 → message_length all ≡ Err Truncated
no_count all few =
    let e : nat_lt (length all) 8 ≡ true = grind (arith, nat_tests, few) in
    ap (λ t. cond t (Err Truncated) (length_by_count all)) e

after_count : List ℕ → Result ℕ ErrorKind
after_count all = cond (nat_lt (length all) (header_bytes (segment_count all))) (Err Truncated) (length_by_table all)

pub many : (all : List ℕ) → 512 < segment_count all → length_by_count all ≡ Err TooManySegments
unfolding after_count
many all h =
    let e : nat_lt 512 (segment_count all) ≡ true = grind (arith, nat_tests, h) in
    ap (λ t. cond t (Err TooManySegments) (after_count all)) e

pub no_table : (all : List ℕ) → segment_count all ≤ 512 → length all < header_bytes (segment_count all) → length_by_count all ≡ Err Truncated
unfolding after_count
no_table all h few =
    let e : nat_lt 512 (segment_count all) ≡ false = grind (arith, nat_tests, h) in
    let f : nat_lt (length all) (header_bytes (segment_count all)) ≡ true = grind (arith, nat_tests, few) in
    ap (λ t. cond t (Err TooManySegments) (after_count all)) e ∙ ap (λ t. cond t (Err Truncated) (length_by_table all)) f

pub by_table : (all : List ℕ) → segment_count all ≤ 512 → header_bytes (segment_count all) ≤ length all → length_by_count all ≡ length_by_table all
unfolding after_count
by_table all h some =
    let e : nat_lt 512 (segment_count all) ≡ false = grind (arith, nat_tests, h) in
    let f : nat_lt (length all) (header_bytes (segment_count all)) ≡ false = grind (arith, nat_tests, some) in
    ap (λ t. cond t (Err TooManySegments) (after_count all)) e ∙ ap (λ t. cond t (Err Truncated) (length_by_table all)) f

after_table : List ℕ → Result ℕ ErrorKind
after_table all = cond (nat_lt (length all) (message_bytes all)) (Err Truncated) (Ok (message_bytes all))

pub large : (all : List ℕ) → most_bytes < message_bytes all → length_by_table all ≡ Err TooLarge
unfolding after_table
large all h =
    let e : nat_lt most_bytes (message_bytes all) ≡ true = grind (arith, nat_tests, h) in
    ap (λ t. cond t (Err TooLarge) (after_table all)) e

pub cut : (all : List ℕ) → message_bytes all ≤ most_bytes → length all < message_bytes all → length_by_table all ≡ Err Truncated
unfolding after_table
cut all h few =
    let e : nat_lt most_bytes (message_bytes all) ≡ false = grind (arith, nat_tests, h) in
    let f : nat_lt (length all) (message_bytes all) ≡ true = grind (arith, nat_tests, few) in
    ap (λ t. cond t (Err TooLarge) (after_table all)) e ∙ ap (λ t. cond t (Err Truncated) (Ok (message_bytes all))) f

pub there : (all : List ℕ) → message_bytes all ≤ most_bytes → message_bytes all ≤ length all → length_by_table all ≡ Ok (message_bytes all)
unfolding after_table
there all h some =
    let e : nat_lt most_bytes (message_bytes all) ≡ false = grind (arith, nat_tests, h) in
    let f : nat_lt (length all) (message_bytes all) ≡ false = grind (arith, nat_tests, some) in
    ap (λ t. cond t (Err TooLarge) (after_table all)) e ∙ ap (λ t. cond t (Err Truncated) (Ok (message_bytes all))) f
