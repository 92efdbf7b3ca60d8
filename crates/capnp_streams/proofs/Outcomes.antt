-- The length of a message by what was read of it: its first 8 bytes, then its table, then all.
use Rattle.std.proofs.Common.{◌≡◌, ◌∙◌, ℕ, ◌*◌, ◌+◌, ◌++◌, ◌<◌, ◌≤◌, ◌≢◌, List, [], length, length-append, take, drop, Option, Ok, Err, ap, arith, refl, subst, sym}
use Rattle.std.specs.Io.KnownBytes.{IsAtEnd}
use Rattle.capnp_device.specs.declared.error.ErrorKind.{ErrorKind}
use Rattle.capnp_device.specs.declared.error.ErrorKind.TheVariants.{OutOfMemory, ReadFailed, Truncated, TooManySegments, TooLarge}
use Rattle.capnp_wire.specs.Stream.{header_bytes, segment_count, total_words}
use Rattle.capnp_streams.specs.Lengths.{message_bytes, message_length, most_bytes}
use Rattle.capnp_streams.specs.Facts.Lengths.{by_count, by_table, bytes_by_table, bytes_stay, count_stays, cut, large, many, no_count, no_table, there}
use Rattle.capnp_streams.specs.Received.{IsNotReceived, IsReadOn}
use Rattle.capnp_streams.proofs.Reading.{both_read}

pub few_read : (a : List ℕ) → length a < 8 → message_length a ≡ Err Truncated
few_read a few = no_count a few

pub many_read : (a : List ℕ) (count : ℕ) → length a ≡ 8 → count ≡ segment_count a → 512 < count → message_length a ≡ Err TooManySegments
many_read a count eight c more = by_count a (omega (arith, eight)) ∙ many a (omega (arith, c, more))

pub same_count : (a b r : List ℕ) (count : ℕ) → length a ≡ 8 → b ≡ a ++ r → count ≡ segment_count a → count ≡ segment_count b
same_count a b r count eight e c = c ∙ sym (count_stays a r (omega (arith, eight))) ∙ ap segment_count (sym e)

pub still_eight : (a b r : List ℕ) → length a ≡ 8 → b ≡ a ++ r → 8 ≤ length b
still_eight a b r eight e = let l = ap length e in let m = length-append a r in omega (arith, eight, l, m)

pub cut_header : (b : List ℕ) (count : ℕ) → 8 ≤ length b → count ≡ segment_count b → count ≤ 512 → length b < header_bytes count → message_length b ≡ Err Truncated
cut_header b count some c few short =
    let h = ap header_bytes c in
    by_count b some ∙ no_table b (omega (arith, c, few)) (omega (arith, h, short))

pub large_read : (b table : List ℕ) (count words : ℕ) → 8 ≤ length b → count ≡ segment_count b → count ≤ 512 → length b ≡ header_bytes count → table ≡ take (4 * count) (drop 4 b) →
    words ≡ total_words count table → most_bytes < header_bytes count + 8 * words → message_length b ≡ Err TooLarge
large_read b table count words some c few whole t w much =
    let h = ap header_bytes c in
    let n = bytes_by_table b table count words c (omega (arith, whole)) t w in
    by_count b some ∙ by_table b (omega (arith, c, few)) (omega (arith, h, whole)) ∙ large b (omega (arith, n, much))

-- what is known of a message whose table is there, and more
pub record IsTabled (b x : List ℕ) (size : ℕ) : Type 0 where
  pub some : 8 ≤ length x
  pub few : segment_count x ≤ 512
  pub table : header_bytes (segment_count x) ≤ length x
  pub is : message_bytes x ≡ size

pub tabled : (b x r table : List ℕ) (count words : ℕ) → 8 ≤ length b → count ≡ segment_count b → count ≤ 512 → length b ≡ header_bytes count → table ≡ take (4 * count) (drop 4 b) →
    words ≡ total_words count table → x ≡ b ++ r → IsTabled b x (header_bytes count + 8 * words)
tabled b x r table count words some c few whole t w e =
    let h = ap header_bytes c in
    let n = bytes_by_table b table count words c (omega (arith, whole)) t w in
    let l = ap length e in
    let m = length-append b r in
    let same = ap segment_count e ∙ count_stays b r (omega (arith, some)) in
    let head = ap header_bytes same in
    record {
      some = omega (arith, some, l, m);
      few = omega (arith, same, c, few);
      table = omega (arith, head, h, whole, l, m);
      is = ap message_bytes e ∙ bytes_stay b r (omega (arith, h, whole)) ∙ sym n;
    }

pub cut_body : (b x : List ℕ) (size : ℕ) → IsTabled b x size → size ≤ most_bytes → length x < size → message_length x ≡ Err Truncated
cut_body b x size k little short =
    let is = k.is in
    by_count x k.some ∙ by_table x k.few k.table ∙ cut x (omega (arith, is, little)) (omega (arith, is, short))

pub whole_read : (b x : List ℕ) (size : ℕ) → IsTabled b x size → size ≤ most_bytes → length x ≡ size → message_length x ≡ Ok (length x)
whole_read b x size k little all =
    let is = k.is in
    by_count x k.some ∙ by_table x k.few k.table ∙ there x (omega (arith, is, little)) (omega (arith, is, all)) ∙ ap Ok (is ∙ sym all)

-- a refusal that is not for a device or for memory is that of a message that is cut short
pub is_cut : (kind : ErrorKind) → (kind ≢ Truncated → kind ≢ ReadFailed → kind ≡ OutOfMemory) → kind ≢ ReadFailed → kind ≢ OutOfMemory → kind ≡ Truncated
is_cut Truncated h read memory = refl
is_cut kind h read memory = absurd (memory (h (λ e. cc) read))

pub not_received : (a b c : Option (List ℕ)) (begin all : List ℕ) (kind : ErrorKind) → IsReadOn a b [] begin → length begin ≡ 8 → IsReadOn b c begin all → message_length all ≡ Err kind →
    (kind ≡ Truncated → IsAtEnd c) → IsNotReceived a c kind
not_received a b c begin all kind h eight k why ended =
    let r = both_read a b c [] begin all h k in
    let l = ap length k.behind in
    let m = length-append begin k.read in
    let n = ap length r.behind in
    record {
      read = r.read;
      some = omega (arith, eight, l, m, n);
      consumed = r.consumed;
      why = subst (λ (x : List ℕ). message_length x ≡ Err kind) r.behind why;
      ended = ended;
    }
