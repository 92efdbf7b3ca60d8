-- The term's active member says all of the type.
use Rattle.std.proofs.Common.{◌≡◌, ◌∙◌, refl, sym, Some}
use Rattle.capnp_schema.specs.Types.{seen_type}
use Rattle.capnp_records.specs.Part.{which_of}
use Rattle.capnp_request.specs.Steps.Seen.{record_seen}
use Rattle.capnp_request.specs.Reading.{type_levels}
use Rattle.capnp_request.proofs.TypesDone.{said_by_member}
use Rattle.capnp_request.proofs.field_lists.plain_type.Goals as goal

pub returns-clause-said : goal.returns-clause-said
unfolding type_levels
returns-clause-said c =
    let which : which_of (record_seen c.in-Ok.term) ≡ Some c.in-Some.member = sym c.type_member.ensures ∙ c.in-Some.is in
    (record_seen c.in-Ok.term, c.in-Ok.ensures.read, said_by_member 63 type_levels (record_seen c.in-Ok.term) c.in-Some.member (seen_type c.in-Some-type_said_by_member.said) refl which c.in-Some-type_said_by_member.ensures)
