-- The fields and nodes that their records stand for.
use Rattle.std.specs.Prelude.{ℕ, List, Bool, ◌==◌, cond, Ok, Option, Some, None}
use Rattle.capnp_device.specs.declared.error.ErrorKind.TheVariants.{UnknownKind}
use Rattle.capnp_schema.specs.Schema.{Annotation, Field, FieldKind, Group, Node, Slot, Value}
use Rattle.capnp_records.specs.Part.{which_of}
use Rattle.capnp_records.specs.Record.{Record}
use Rattle.capnp_sets.specs.Causes.{SetRead, refused_read, ◌<*>◌}
use Rattle.capnp_sets.specs.Parts.{name, number, meta_read_at, struct, structs, truth}
use Rattle.capnp_sets.specs.Values.{annotations, value_meant}

abbrev pub made_slot : ℕ → Value → FieldKind
made_slot offset default = Slot offset default

unfoldable pub slot_of : Record → SetRead FieldKind
slot_of r = Ok made_slot <*> number (meta_read_at 3 0 r) <*> struct value_meant (meta_read_at 3 1 r)

-- member 3 is a slot, member 4 the node of a group
unfoldable pub kind_by : Option ℕ → Record → SetRead FieldKind
kind_by None r = refused_read UnknownKind
kind_by (Some i) r = cond (i == 3) (struct slot_of (meta_read_at 2 3 r)) (cond (i == 4) (Ok Group <*> number (meta_read_at 2 4 r)) (refused_read UnknownKind))

abbrev pub made_field : ℕ → List ℕ → List Annotation → FieldKind → Field
made_field discriminant_value name annotations kind =
    record { name = name; discriminant_value = discriminant_value; annotations = annotations; kind = kind }

unfoldable pub field_of : Record → SetRead Field
field_of r = Ok made_field <*> number (meta_read_at 2 0 r) <*> name (meta_read_at 2 1 r) <*> annotations (meta_read_at 2 2 r) <*> kind_by (which_of r) r

abbrev pub made_node : ℕ → ℕ → ℕ → ℕ → Bool → ℕ → List ℕ → List Annotation → List Field → Node
made_node id data_words pointers count is_group offset name annotations fields =
    record { id = id; display_name = name; annotations = annotations; data_word_count = data_words; pointer_count = pointers; is_group = is_group; discriminant_count = count; discriminant_offset = offset; fields = fields }

unfoldable pub node_meant : Record → SetRead Node
node_meant r =
    Ok made_node <*> number (meta_read_at 1 0 r) <*> number (meta_read_at 1 1 r) <*> number (meta_read_at 1 2 r) <*> number (meta_read_at 1 3 r)
    <*> truth (meta_read_at 1 4 r) <*> number (meta_read_at 1 5 r) <*> name (meta_read_at 1 6 r)
    <*> annotations (meta_read_at 1 7 r) <*> structs 2 field_of (meta_read_at 1 8 r)
