-- Parts that are taken one after another: of a field's struct or list, a part of that.
use Rattle.std.specs.Prelude.{ℕ, List}
use Rattle.capnp_wire.specs.Tree.{StructTree}
use Rattle.capnp_schema.specs.declared.schema.fields.Field.{Field}
use Rattle.capnp_dynamic.specs.Built.{built_schema, built_struct}
use Rattle.capnp_dynamic.specs.Handed.{HandsElement, HandsField}
use Rattle.capnp_dynamic.specs.Names.{IsNamed}
use Rattle.capnp_dynamic.specs.declared.dynamic_list.build.Builder.{Builder as ListHandle}
use Rattle.capnp_dynamic.specs.declared.dynamic_struct.build.Builder.{Builder as StructHandle}
use Rattle.capnp_dynamic.specs.declared.dynamic_value.build.Builder.{Builder as BuiltValue}
use Rattle.capnp_dynamic.specs.declared.dynamic_value.build.Builder.TheVariants as built

-- a value is what the field of a name has in the struct that a field has of another one
pub record IsInPart (f : Field) (s : StructTree) (name : List ℕ) (v : BuiltValue) : Type 0 where
  pub part : StructHandle
  pub got : HandsField f s (built.Struct part)
  pub inner : (g : Field) → IsNamed (built_schema part) name g → HandsField g (built_struct part) v

-- a value is what the list that a field has of a struct has at an index
pub record IsInListOf (f : Field) (s : StructTree) (j : ℕ) (v : BuiltValue) : Type 0 where
  pub list : ListHandle
  pub got : HandsField f s (built.List list)
  pub element : HandsElement list j v
