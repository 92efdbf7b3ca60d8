use Rattle.std.proofs.Common.{ap, subst, sym, ◌∙◌}
use Rattle.capnp_schema.specs.FieldLists.{typed_of}
use Rattle.capnp_schema.specs.StructHandles.{set_of}
use Rattle.capnp_schema.specs.Types.{seen_variant}
use Rattle.capnp_json_fields.specs.Marks.{data_form}
use Rattle.capnp_from_json.specs.Errors.{IsErrorOf}
use Rattle.capnp_from_json.specs.LeafReads.{under}
use Rattle.capnp_json_messages.proofs.FieldReads.{leaf_refused, value_at}
use Rattle.capnp_json_messages.proofs.leaf.read_slot.Goals as goal

-- The leaf that is read is put into its slot, or its refusal is the text's.
pub returns-in-Err-clause-refused : goal.returns-in-Err-clause-refused
returns-in-Err-clause-refused c =
    leaf_refused c.args.field c.args.reading.strict c.args.reading c.args.levels c.args.bytes.now c.args.of c.in-Err.error c.requires.leaf
    (λ rules of_set floats levels part.
    subst (λ q. IsErrorOf (value_at c.args.reading levels c.args.bytes.now rules (under (seen_variant c.args.of) part q (data_form (typed_of c.args.field)))) c.in-Err.error) c.is_float.ensures
    (subst (λ d. IsErrorOf (value_at c.args.reading levels c.args.bytes.now rules (under (seen_variant c.args.of) part c.is_float.result d)) c.in-Err.error) c.data_form.ensures
    (c.in-Err.ensures.read rules (of_set ∙ sym (c.get_set-schemas.ensures ∙ ap set_of c.get_containing_struct.ensures.is)) floats levels part)))
