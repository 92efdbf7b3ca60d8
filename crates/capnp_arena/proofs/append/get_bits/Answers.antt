-- A byte lies past the last bit, wholly within the bits, or holds the last ones: then the remainder by a power of two is left.
use Rattle.std.proofs.Common.{rules, arith, ◌≡◌, ◌<◌, ◌^◌, ◌-◌, ◌*◌, ◌%◌, get_or, sym, ◌∙◌}
use Rattle.std.proofs.lemmas.Nat.{one_shl}
use Rattle.std.proofs.lemmas.List.{get_or_past}
use Rattle.capnp_wire.specs.Facts.BitBytes.{bits_past, bits_whole, bits_some}
use Rattle.capnp_arena.proofs.append.get_bits.Goals as goal

pub returns-then-k-count : goal.returns-then-k-count
returns-then-k-count c = bits_past _ _ _ c.if-k-count.true

pub returns-then-count-k-ge8 : goal.returns-then-count-k-ge8
returns-then-count-k-ge8 c =
    let b : c.if-k-bits.byte ≡ get_or c.args.bits.now c.args.k 0 = search (rules, get_or_past) in
    let f : get_or c.args.bits.now c.args.k 0 < 256 = omega (arith, c.type_inv.bits c.args.k) in
    let m : get_or c.args.bits.now c.args.k 0 ≡ get_or c.args.bits.now c.args.k 0 % 2 ^ 8 = omega arith in
    b ∙ m ∙ sym (bits_whole c.args.bits.now c.args.k c.args.count c.if-count-k-ge8.true)

pub returns-else-count-k-ge8 : goal.returns-else-count-k-ge8
returns-else-count-k-ge8 c =
    let b : c.if-k-bits.byte ≡ get_or c.args.bits.now c.args.k 0 = search (rules, get_or_past) in
    let s : (1 * 2 ^ (c.args.count - 8 * c.args.k)) % 2 ^ 8 ≡ 2 ^ (c.args.count - 8 * c.args.k) = one_shl (c.args.count - 8 * c.args.k) 8 (omega arith) in
    rw (b, s) (sym (bits_some c.args.bits.now c.args.k c.args.count (omega arith)))
