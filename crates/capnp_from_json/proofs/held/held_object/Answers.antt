use Rattle.std.proofs.Common.{◌<◌, length, arith, ap, sym, subst, ◌∙◌}
use Rattle.capnp_json_text.specs.Values.{first_item}
use Rattle.capnp_json_text.specs.declared.kinds.Bracket.TheVariants.{Curly}
use Rattle.capnp_from_json.specs.Looks.{IsWithin}
use Rattle.capnp_from_json.specs.Held.{bytes_left}
use Rattle.capnp_from_json.proofs.Shorter.{first_shorter}
use Rattle.capnp_from_json.proofs.held.held_object.Goals as goal

-- What stands behind the bracket is shorter than the object.
pub returns-in-Object-clause-shorter : goal.returns-in-Object-clause-shorter
returns-in-Object-clause-shorter c =
    let within : length c.in-Object.behind.now < length c.args.bytes.now = subst (λ l. IsWithin l c.args.bytes.now) c.in-Object.is c.in_ok-look_at.ensures.within in
    subst (λ o. bytes_left o < length c.args.bytes.now) (sym (c.first_item.ensures ∙ ap (first_item Curly) c.skip_blanks.ensures)) (omega (arith, first_shorter Curly c.in-Object.behind.now, within))
