-- In no lists it is the field's value.
use Rattle.std.specs.Prelude.{IfErr, IfOk}
use Rattle.std.proofs.Common.{List, subst}
use Rattle.capnp_arena.specs.Message.{message_tree}
use Rattle.capnp_schema.specs.FieldLists.{field_schema, index_of, typed_of}
use Rattle.capnp_slots.specs.Fields.{field_set}
use Rattle.capnp_records.specs.Call.{Call}
use Rattle.capnp_value_texts.specs.Errors.{Read}
use Rattle.capnp_value_texts.specs.Values.{IsMadeOf, IsNotMadeOf}
use Rattle.capnp_value_texts.proofs.TextsMade.{no_depth}
use Rattle.capnp_value_texts.proofs.value.read_field.Goals as goal

pub returns-clause-made : goal.returns-clause-made
returns-clause-made c =
    subst (λ (q : Read (List Call)). IfOk c.read_element.result (λ m. IsMadeOf (field_schema c.args.field) q (message_tree m)))
    (no_depth (field_set c.args.field) (typed_of c.args.field) (index_of c.args.field) c.args.text.now) c.read_element.ensures.made

pub returns-clause-refused : goal.returns-clause-refused
returns-clause-refused c =
    subst (λ (q : Read (List Call)). IfErr c.read_element.result (IsNotMadeOf (field_schema c.args.field) q))
    (no_depth (field_set c.args.field) (typed_of c.args.field) (index_of c.args.field) c.args.text.now) c.read_element.ensures.refused
