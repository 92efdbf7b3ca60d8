-- What a read answers is reached.
use Rattle.std.proofs.Common.{◌≡◌, refl, ap, sym, ◌∙◌, Result, Ok, Err, IfOk}
use Rattle.capnp_device.specs.declared.error.Error.{Error}
use Rattle.capnp_schema.specs.Schema.{Schemas}
use Rattle.capnp_schema.specs.Types.{SchemaType}
use Rattle.capnp_dynamic_readers.specs.Seen.{answered_value, value_seen}
use Rattle.capnp_dynamic_readers.specs.Shown.{type_seen}
use Rattle.capnp_dynamic_readers.specs.Typed.{IsOf}
use Rattle.capnp_dynamic_readers.specs.declared.dynamic_value.Reader.{Reader as DynamicValue}
use Rattle.capnp_dynamic_readers.specs.declared.dynamic_value.Reader.TheVariants as dynamic
use Rattle.capnp_patch.specs.Gets.{Reached, reached_value, seen_read}

-- a value of a type has it
pub type_is : (set : Schemas) (t : SchemaType) (v : DynamicValue) → IsOf set t v → type_seen v ≡ t
type_is set t dynamic.Void h = h
type_is set t (dynamic.Bool b) h = h
type_is set t (dynamic.Int8 x) h = h
type_is set t (dynamic.Int16 x) h = h
type_is set t (dynamic.Int32 x) h = h
type_is set t (dynamic.Int64 x) h = h
type_is set t (dynamic.UInt8 x) h = h
type_is set t (dynamic.UInt16 x) h = h
type_is set t (dynamic.UInt32 x) h = h
type_is set t (dynamic.UInt64 x) h = h
type_is set t (dynamic.Enum e) h = h.2
type_is set t (dynamic.Text x) h = h
type_is set t (dynamic.«Data» x) h = h
type_is set t (dynamic.Struct s) h = h.2
type_is set t (dynamic.List l) h = h.1
type_is set t (dynamic.AnyPointer p) h = h

-- what a value stands for is no refusal
value_reached : (t : SchemaType) (v : DynamicValue) → reached_value t (value_seen v) ≡ Ok (record { type = t; value = value_seen v })
value_reached t dynamic.Void = refl
value_reached t (dynamic.Bool b) = refl
value_reached t (dynamic.Int8 x) = refl
value_reached t (dynamic.Int16 x) = refl
value_reached t (dynamic.Int32 x) = refl
value_reached t (dynamic.Int64 x) = refl
value_reached t (dynamic.UInt8 x) = refl
value_reached t (dynamic.UInt16 x) = refl
value_reached t (dynamic.UInt32 x) = refl
value_reached t (dynamic.UInt64 x) = refl
value_reached t (dynamic.Enum e) = refl
value_reached t (dynamic.Text x) = refl
value_reached t (dynamic.«Data» x) = refl
value_reached t (dynamic.Struct s) = refl
value_reached t (dynamic.List l) = refl
value_reached t (dynamic.AnyPointer p) = refl

abbrev of_type : DynamicValue → SchemaType → Reached
of_type v t = Ok (record { type = t; value = value_seen v })

pub read_reached : (set : Schemas) (t : SchemaType) (r : Result DynamicValue Error) → IfOk r (IsOf set t) → seen_read r ≡ reached_value t (answered_value r)
read_reached set t (Ok v) h = ap (of_type v) (type_is set t v h) ∙ sym (value_reached t v)
read_reached set t (Err e) h = refl
