-- A term that says all of its type by its member is that type, at any level.
use Rattle.std.proofs.Common.{◌≡◌, ◌∙◌, ap, refl, sym, Ok, Some}
use Rattle.capnp_schema.specs.Types.{seen_type}
use Rattle.capnp_records.specs.Part.{which_of}
use Rattle.capnp_request.specs.Steps.Seen.{record_seen}
use Rattle.capnp_request.specs.Steps.Bindings.{bounds}
use Rattle.capnp_request.specs.Steps.Done.{so_far}
use Rattle.capnp_request.specs.Steps.Nodes.{nodes_of}
use Rattle.capnp_request.specs.Reading.{type_levels}
use Rattle.capnp_request.specs.Types.{type_of}
use Rattle.capnp_request.proofs.TypesDone.{said_by_member}
use Rattle.capnp_request.proofs.types.slot_type.Goals as goal

pub returns-in-Some-type_said_by_member-clause-done : goal.returns-in-Some-type_said_by_member-clause-done
unfolding type_levels
returns-in-Some-type_said_by_member-clause-done c =
    let which : which_of (record_seen c.args.term) ≡ Some c.in-Some.member = sym c.type_member.ensures ∙ c.in-Some.is in
    ap (λ k. type_of (nodes_of c.args.context.nodes.now) c.args.context.strict (bounds c.args.inside.now) k (so_far c.args.entries.now c.args.seen.now)) (said_by_member 63 type_levels (record_seen c.args.term) c.in-Some.member (seen_type c.in-Some-type_said_by_member.said) refl which c.in-Some-type_said_by_member.ensures) ∙ ap (λ u. Ok (u, so_far c.args.entries.now c.args.seen.now)) (sym c.plain.ensures)
