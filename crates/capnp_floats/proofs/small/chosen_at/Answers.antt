-- Quotient and remainder split the value by its parts, and bits of that place have this quotient as significand; the
-- remainder then says which of two neighbours is nearer.
use Rattle.std.proofs.Common.{sym, ap, subst, ◌∙◌, ◌≡◌, ◌+◌, ◌*◌, ◌/◌, ◌<◌}
use Rattle.std.proofs.lemmas.Nat.{div-add-mod', mod_below}
use Rattle.capnp_floats.proofs.Significands.{bits_parts, small_chosen}
use Rattle.capnp_floats.proofs.small.chosen_at.Goals as goal

pub returns : goal.returns
returns c =
    let split = c.in_ok-value.ensures in
    let div = c.in_ok-significand.ensures in
    let rem = c.in_ok-rest.ensures in
    let e : c.in_ok-significand.significand * c.in_ok-value.parts + c.in_ok-rest.rest ≡ c.in_ok-value.value =
    ap (λ z. z * c.in_ok-value.parts + c.in_ok-rest.rest) div.1 ∙ ap (λ z. c.in_ok-value.value / c.in_ok-value.parts * c.in_ok-value.parts + z) rem.1
    ∙ div-add-mod' c.in_ok-value.value c.in_ok-value.parts in
    let less : c.in_ok-rest.rest < c.in_ok-value.parts = subst (λ z. z < c.in_ok-value.parts) (sym rem.1) (mod_below c.in_ok-value.value c.in_ok-value.parts rem.0) in
    let p = bits_parts c.args.width c.args.place c.in_ok-significand.significand c.in_ok-bits.bits c.in_ok-bits.ensures.some.0 c.in_ok-bits.ensures.some.1 c.in_ok-bits.ensures.normal c.in_ok-bits.ensures.few in
    small_chosen c.args.width c.args.number c.args.tenths c.args.place c.in_ok-value.value c.in_ok-value.parts split.0 c.in_ok-significand.significand c.in_ok-rest.rest c.in_ok-bits.bits c.nearer_of.result
    split.1 split.2 e less c.in_ok-bits.ensures.some.0 p.0 p.1 c.nearer_of.ensures
