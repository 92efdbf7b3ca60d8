-- An element takes a copy as a slot of its type.
use Rattle.std.proofs.Common.{◌≡◌, ap, ◌∙◌}
use Rattle.capnp_schema.specs.Entries.{lists_seen}
use Rattle.capnp_schema.specs.Facts.Layers.{seen_which}
use Rattle.capnp_schema.specs.Types.{seen_type, seen_variant}
use Rattle.capnp_slots.specs.Sources.{source_seen}
use Rattle.capnp_slots.proofs.SetElements.{into_err, into_ok}
use Rattle.capnp_slots.proofs.element.copies_into.Goals as goal

pub returns-in_default : goal.returns-in_default
returns-in_default c =
    let v = c.which.result in
    let t : seen_variant v ≡ seen_type c.args.element = ap seen_variant c.which.ensures ∙ seen_which c.args.element in
    record {
      takes = into_ok (lists_seen c.args.schemas.now) (source_seen c.args.source) c.requires.pointed c.requires.no_struct v (seen_type c.args.element) t c.in_default.not-AnyPointer _ c.copies_source.ensures;
      refused = into_err (lists_seen c.args.schemas.now) (source_seen c.args.source) c.requires.pointed c.requires.no_struct v (seen_type c.args.element) t c.in_default.not-AnyPointer _ c.copies_source.ensures;
    }
