-- The number fits with its twos and with its tens, also ten thousand times.
use Rattle.std.proofs.Common.{arith, rules, ap, ◌∙◌, ◌≡◌, ◌*◌, ◌^◌, ◌<◌}
use Rattle.capnp_floats.specs.Naturals.{room}
use Rattle.capnp_floats.proofs.Finding.{product_positive, room_for, twos_fit}
use Rattle.capnp_floats.proofs.decimal.scaled.Goals as goal

pub double-requires : goal.double-requires
double-requires c = twos_fit _ c.args.number c.args.twos c.args.tens (search rules) c.requires

pub multiply_tens-requires : goal.multiply_tens-requires
multiply_tens-requires c =
    let r : 10000 * (c.args.number * 2 ^ c.args.twos * 10 ^ c.args.tens) < room = room_for _ c.requires in
    let e : c.double.new.self * 10 ^ c.args.tens ≡ c.args.number * 2 ^ c.args.twos * 10 ^ c.args.tens =
    ap (λ z. z * 10 ^ c.args.tens) (c.double.ensures ∙ ap (λ z. z * 2 ^ c.args.twos) c.new-natural.ensures) in
    omega arith

pub returns-clause-small : goal.returns-clause-small
returns-clause-small c =
    let r : 10000 * (c.args.number * 2 ^ c.args.twos * 10 ^ c.args.tens) < room = room_for _ c.requires in
    let e : c.multiply_tens.new.self ≡ c.args.number * 2 ^ c.args.twos * 10 ^ c.args.tens =
    c.multiply_tens.ensures ∙ ap (λ z. z * 10 ^ c.args.tens) (c.double.ensures ∙ ap (λ z. z * 2 ^ c.args.twos) c.new-natural.ensures) in
    omega arith

pub returns-clause-positive : goal.returns-clause-positive
returns-clause-positive c = λ h.
    let p : 0 < c.args.number * 2 ^ c.args.twos * 10 ^ c.args.tens = product_positive c.args.number c.args.twos c.args.tens h in
    let e : c.multiply_tens.new.self ≡ c.args.number * 2 ^ c.args.twos * 10 ^ c.args.tens =
    c.multiply_tens.ensures ∙ ap (λ z. z * 10 ^ c.args.tens) (c.double.ensures ∙ ap (λ z. z * 2 ^ c.args.twos) c.new-natural.ensures) in
    omega arith
