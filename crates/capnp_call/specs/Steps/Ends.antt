-- What an operation does at the end of a path, at a struct or the struct of a group: steps of the code.
use Rattle.std.specs.Prelude.{ℕ, ◌≡◌}
use Rattle.capnp_wire.specs.Tree.{StructTree}
use Rattle.capnp_schema.specs.Schema.{Schemas}
use Rattle.capnp_schema.specs.Types.{StructType}
use Rattle.capnp_schema.specs.FieldLists.{index_of}
use Rattle.capnp_schema.specs.declared.schema.fields.Field.{Field}
use Rattle.capnp_records.specs.Call.{PathStep, Op, Reply}
use Rattle.capnp_records.specs.Step.{step_target}
use Rattle.capnp_records.specs.Writes.Stand.{seen_stand, step_index}
use Rattle.capnp_records.specs.Writes.TreeEnds.{TreeDoes, TreeDoesAt}
use Rattle.capnp_slots.specs.Fields.{field_brand, field_set}
use Rattle.capnp_call.specs.Ways.{target_in}
use Rattle.capnp_call.specs.Ends.{Whole, stand_of, whole_of}

-- an operation is done to a field, by whatever step it is named
abbrev pub FieldDoes : Field → Op → StructTree → Reply → StructTree → Type 0
FieldDoes f op old reply new =
    (w : Whole) (g : ℕ) (step : PathStep) → step_index (field_set f) (field_brand f) step ≡ index_of f →
    TreeDoes (field_set f) op (target_in (whole_of w) f old) (StructType (field_brand f) g) (stand_of w old) step reply (stand_of w new)

-- an operation is done to what a step names
abbrev pub NamedDoes : Schemas → ℕ → PathStep → Op → StructTree → Reply → StructTree → Type 0
NamedDoes set b step op old reply new =
    (w : Whole) (g : ℕ) → TreeDoesAt set op (step_target set (StructType b g) (seen_stand set (StructType b g) (stand_of w old)) step) (StructType b g) (stand_of w old) step reply (stand_of w new)
