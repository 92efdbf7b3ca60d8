-- A part of a part is of the field that the first was taken of.
use Rattle.std.proofs.Common.{ℕ, List, Result, Ok, Err, IfOk}
use Rattle.capnp_device.specs.declared.error.Error.{Error}
use Rattle.capnp_wire.specs.Tree.{StructTree}
use Rattle.capnp_schema.specs.declared.schema.fields.Field.{Field}
use Rattle.capnp_dynamic.specs.Built.{built_schema, built_struct}
use Rattle.capnp_dynamic.specs.Handed.{HandsElement, HandsField}
use Rattle.capnp_dynamic.specs.Names.{IsNamed}
use Rattle.capnp_dynamic.specs.declared.dynamic_list.build.Builder.{Builder as ListHandle}
use Rattle.capnp_dynamic.specs.declared.dynamic_struct.build.Builder.{Builder as StructHandle}
use Rattle.capnp_dynamic.specs.declared.dynamic_value.build.Builder.{Builder as BuiltValue}
use Rattle.capnp_dynamic.specs.declared.dynamic_value.build.Builder.TheVariants as built
use Rattle.capnp_callers.specs.Parts.{IsInListOf, IsInPart}

pub in_part : {A : Type 0} (value : A → BuiltValue) (f : Field) (s : StructTree) (name : List ℕ) (part : StructHandle) (r : Result A Error) → HandsField f s (built.Struct part) →
    ((g : Field) → IsNamed (built_schema part) name g → IfOk r (λ v. HandsField g (built_struct part) (value v))) → IfOk r (λ v. IsInPart f s name (value v))
in_part value f s name part (Ok v) got inner = record { part = part; got = got; inner = inner }
in_part value f s name part (Err e) got inner = tt

pub in_list : {A : Type 0} (value : A → BuiltValue) (f : Field) (s : StructTree) (j : ℕ) (list : ListHandle) (r : Result A Error) → HandsField f s (built.List list) →
    IfOk r (λ v. HandsElement list j (value v)) → IfOk r (λ v. IsInListOf f s j (value v))
in_list value f s j list (Ok v) got element = record { list = list; got = got; element = element }
in_list value f s j list (Err e) got element = tt
