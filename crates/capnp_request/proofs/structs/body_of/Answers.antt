-- Each of the five parts is read at the field from which the struct's meaning takes it, as a number or a truth value.
use Rattle.std.proofs.Common.{ap, sym}
use Rattle.capnp_request.specs.Reading.{number_in, struct_said, truth_in}
use Rattle.capnp_request.proofs.structs.body_of.Goals as goal

pub returns-clause-parts : goal.returns-clause-parts
unfolding struct_said
returns-clause-parts c = record {
  data_words = ap number_in (sym c.u16_at.ensures);
  pointers = ap number_in (sym c.u16_at-2.ensures);
  group = ap truth_in (sym c.bool_at.ensures);
  discriminant_count = ap number_in (sym c.u16_at-3.ensures);
  discriminant_offset = ap number_in (sym c.u32_at.ensures);
}
