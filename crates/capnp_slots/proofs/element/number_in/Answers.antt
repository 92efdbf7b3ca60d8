-- An element is given a value as a slot of its type.
use Rattle.std.proofs.Common.{◌≡◌, ap, ◌∙◌}
use Rattle.capnp_schema.specs.Entries.{lists_seen}
use Rattle.capnp_schema.specs.Facts.Layers.{seen_which}
use Rattle.capnp_schema.specs.Types.{seen_type, seen_variant}
use Rattle.capnp_slots.proofs.SetElements.{number_err, number_ok, same_ok}
use Rattle.capnp_slots.proofs.element.number_in.Goals as goal

pub returns-in_default : goal.returns-in_default
returns-in_default c =
    let v = c.which.result in
    let t : seen_variant v ≡ seen_type c.args.element = ap seen_variant c.which.ensures ∙ seen_which c.args.element in
    record {
      number = number_ok (lists_seen c.args.schemas.now) c.args.value v (seen_type c.args.element) t c.in_default.not-AnyPointer _ c.number_fits.ensures c.number_given.ensures;
      given = same_ok (lists_seen c.args.schemas.now) c.args.value v (seen_type c.args.element) t c.in_default.not-AnyPointer _;
      refused = number_err (lists_seen c.args.schemas.now) c.args.value v (seen_type c.args.element) t c.in_default.not-AnyPointer _ c.number_given.ensures;
    }
