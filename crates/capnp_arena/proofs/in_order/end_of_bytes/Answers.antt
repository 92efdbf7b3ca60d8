-- A whole number of words needs no padding; else the zeros seen behind the last byte are the padding up to the next word.
use Rattle.std.proofs.Common.{arith, ◌≡◌, ◌+◌, ◌-◌, ◌*◌, ◌/◌, ◌%◌, replicate, refl, sym, ap, ◌∙◌, take, drop}
use Rattle.capnp_wire.specs.Place.{bytes_at}
use Rattle.capnp_arena.proofs.LaidOut.{padded_there}
use Rattle.capnp_arena.proofs.in_order.end_of_bytes.Goals as goal

pub returns-then-over-eq0 : goal.returns-then-over-eq0
returns-then-over-eq0 c =
    let bytes = c.args.bytes.now in let a = c.args.start in let n = c.args.count in let words = n / 8 in
    let e : words ≡ (n + 7) / 8 = omega (arith, c.if-over-eq0.true) in
    let none : 8 * words - n ≡ 0 = omega (arith, c.if-over-eq0.true) in (
      ap (λ k. a + k) e,
      ap (bytes_at bytes a) {x = 8 * (a + words - a)} {y = 8 * words} (omega arith)
          ∙ padded_there bytes a n words e (omega (arith, e, c.requires.inside))
          (ap (λ k. take k (drop (8 * a + n) bytes)) none ∙ sym (ap (λ k. replicate k 0) none)),
    )

pub returns-then-has_zeros_behind : goal.returns-then-has_zeros_behind
returns-then-has_zeros_behind c =
    let bytes = c.args.bytes.now in let a = c.args.start in let n = c.args.count in let words = n / 8 + 1 in
    let e : words ≡ (n + 7) / 8 = omega (arith, c.if-over-eq0.false) in
    let left : 8 * words - n ≡ 8 - n % 8 = omega arith in (
      omega (arith, e),
      ap (bytes_at bytes a) {x = 8 * (a + n / 8 + 1 - a)} {y = 8 * words} (omega arith)
          ∙ padded_there bytes a n words e (omega (arith, e, c.requires.inside))
          (ap (λ k. take k (drop (8 * a + n) bytes)) left
          ∙ ap (λ j. take (8 - n % 8) (drop j bytes)) {x = 8 * a + n} {y = 8 * (a + n / 8) + n % 8} (omega arith)
          ∙ c.if-has_zeros_behind.ensures refl
          ∙ sym (ap (λ k. replicate k 0) left)),
    )

pub has_zeros_behind-requires-clause-inside : goal.has_zeros_behind-requires-clause-inside
has_zeros_behind-requires-clause-inside c = omega (arith, c.if-over-eq0.false, c.requires.inside)

pub has_zeros_behind-requires-clause-few : goal.has_zeros_behind-requires-clause-few
has_zeros_behind-requires-clause-few c = omega (arith, c.requires.few.0, c.requires.few.1)
