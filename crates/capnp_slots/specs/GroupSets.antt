-- The set of a group: what its fields are copied from, and their copies one after another.
use Rattle.std.specs.Prelude.{suc, ◌≡◌, Option, Some, length}
use Rattle.capnp_device.specs.declared.error.ErrorKind.{ErrorKind}
use Rattle.capnp_wire.specs.Tree.{StructTree}
use Rattle.capnp_schema.specs.FieldLists.{typed_of}
use Rattle.capnp_schema.specs.declared.schema.fields.Field.{Field}
use Rattle.capnp_records.specs.Call.{Source}
use Rattle.capnp_records.specs.Given.{Given, Gives, Copies, CopiesGroup, Fails, given_group}
use Rattle.capnp_records.specs.Writes.TreeCopy.{TreeCopiesWithin}
use Rattle.capnp_slots.specs.Fields.{field_set, switched_to}

-- ---- a group's set ----

-- what is given to a field that is a group
abbrev pub given_to_group : Field → Source → Given
given_to_group f s = given_group (typed_of f).type s

-- A group was set to what is given: the union switched to it, the group cleared, and the source's fields copied up to the
-- first that is refused. What is no struct of the group's schema changes nothing.
abbrev pub IsGroupSet : Field → Given → StructTree → Option ErrorKind → StructTree → Type 0
IsGroupSet f (Gives v) s refused s' = ⊥
IsGroupSet f (Copies x past v) s refused s' = ⊥
IsGroupSet f (CopiesGroup l x b) s refused s' = TreeCopiesWithin (suc (length (field_set f).brands)) (field_set f) l x b (switched_to f s) refused s'
IsGroupSet f (Fails kind) s refused s' = (refused ≡ Some kind) × (s' ≡ s)
