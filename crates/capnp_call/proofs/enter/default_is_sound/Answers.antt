-- The default of a field of an accepted set is of bytes.
use Rattle.std.proofs.Common.{ap, subst, ◌∙◌}
use Rattle.capnp_wire.specs.WellFormed.{IsWellFormed}
use Rattle.capnp_schema.specs.Defaults.{value_default_tree}
use Rattle.capnp_schema.specs.FieldLists.{index_of, field_schema, typed_of}
use Rattle.capnp_schema.specs.Ranges.{HasRanges, ValueFits}
use Rattle.capnp_schema.specs.Schema.{AnyPointerValue, ListValue, StructValue, default_of, Value as SchemaValue}
use Rattle.capnp_schema.specs.StructHandles.{IsStruct, set_of}
use Rattle.capnp_records.specs.Facts.FormedSets.{formed_words}
use Rattle.capnp_slots.specs.Fields.{field_brand, field_set}
use Rattle.capnp_call.proofs.enter.default_is_sound.Goals as goal

formed_default : (d : SchemaValue) → ValueFits d → IsWellFormed (value_default_tree d)
formed_default (StructValue words) fits = formed_words words fits
formed_default (ListValue words) fits = formed_words words fits
formed_default (AnyPointerValue words) fits = formed_words words fits
formed_default d fits = tt

pub returns-clause-formed : goal.returns-clause-formed
returns-clause-formed c =
    let f = c.args.field in
    let is : IsStruct (field_schema f) = subst IsStruct c.get_containing_struct.ensures.is c.get_containing_struct.ensures.stands in
    let ranges : HasRanges (field_set f) = subst HasRanges (c.get_set.ensures ∙ ap set_of c.get_containing_struct.ensures.is) c.numbers_fit.ensures in
    formed_default (default_of (typed_of f).field) (ranges.defaults (field_brand f) (index_of f) is.number f.inside)

pub returns-clause-fits : goal.returns-clause-fits
returns-clause-fits c =
    let f = c.args.field in
    let is : IsStruct (field_schema f) = subst IsStruct c.get_containing_struct.ensures.is c.get_containing_struct.ensures.stands in
    c.defaults_fit.ensures (field_set f) is.accepted (field_brand f) (index_of f) is.number f.inside
