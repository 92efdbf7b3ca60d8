-- Both numbers are of the field's type, and one that differs is put.
use Rattle.std.proofs.Common.{sym, ◌∙◌}
use Rattle.capnp_schema.specs.FieldLists.{field_schema, typed_of}
use Rattle.capnp_schema.specs.StructHandles.{set_of}
use Rattle.capnp_diffs.proofs.Slots.{alike, field_other, field_same}
use Rattle.capnp_diffs.proofs.Whole.{ok_map}
use Rattle.capnp_diffs.proofs.records.find_in_data_slot.Goals as goal

pub is_same_leaf-requires : goal.is_same_leaf-requires
is_same_leaf-requires c =
    alike (set_of (field_schema c.args.field)) (typed_of c.args.field).type c.in_ok-source.source c.in_ok-target.target c.requires.number c.in_ok-source.ensures.typed c.in_ok-target.ensures.typed

pub returns-then-is_same_leaf-clause-found : goal.returns-then-is_same_leaf-clause-found
returns-then-is_same_leaf-clause-found c =
    field_same c.args.field c.read_slot.ensures.field.0 c.read_slot.ensures.field.1.inside c.requires.number c.args.old c.args.new c.in_ok-source.source c.in_ok-target.target c.args.path.now c.args.out.now.items c.args.out.now.items
    c.in_ok-source.ensures.seen c.in_ok-target.ensures.seen (sym c.is_same_leaf.ensures ∙ c.if-is_same_leaf.true)

pub returns-clause-found : goal.returns-clause-found
returns-clause-found c =
    ok_map c.put_change.result
    (λ added. field_other c.args.field c.read_slot.ensures.field.0 c.read_slot.ensures.field.1.inside c.requires.number c.args.old c.args.new c.in_ok-source.source c.in_ok-target.target c.args.path.now c.args.out.now.items c.put_change.new.out.items
    c.in_ok-source.ensures.seen c.in_ok-target.ensures.seen (sym c.is_same_leaf.ensures ∙ c.if-is_same_leaf.false) c.get_index.result c.get_index.ensures c.in_ok-target.ensures.typed added)
    c.put_change.ensures.added
