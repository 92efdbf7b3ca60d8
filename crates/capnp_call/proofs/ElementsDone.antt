-- What is done to an element is what the words of writes on trees say of its list.
use Rattle.std.proofs.Common.{ℕ, ◌<◌, ◌≡◌, refl, true, cond, ap, sym, subst, ◌∙◌}
use Rattle.capnp_device.specs.declared.error.ErrorKind.{ErrorKind}
use Rattle.capnp_device.specs.declared.error.ErrorKind.TheVariants.{ExpectedAListOrBlob, InitnIsOnlyValidForListTextOrDataFields, ListAnyPointerNotSupported}
use Rattle.capnp_wire.specs.Facts.Room.{HasBit_there, HasNumber_there, HasPointer_there}
use Rattle.capnp_wire.specs.Elements.{reads_list}
use Rattle.capnp_wire.specs.Reading.{list_length}
use Rattle.capnp_wire.specs.Tree.{Tree}
use Rattle.capnp_wire.specs.declared.size.ElementSize.TheVariants.{Byte, TwoBytes, FourBytes, EightBytes}
use Rattle.capnp_base.specs.declared.introspect.«Type».{«Type» as TypeHandle}
use Rattle.capnp_base.specs.declared.introspect.TypeVariant.{TypeVariant}
use Rattle.capnp_base.specs.declared.introspect.TypeVariant.TheVariants as variant
use Rattle.capnp_base.specs.Types.{variant_of}
use Rattle.capnp_schema.specs.Facts.Layers.{seen_which}
use Rattle.capnp_schema.specs.Schema.{Schemas}
use Rattle.capnp_schema.specs.Types.{AnyPointerType, DataType, ListType, SchemaType, TextType, element_size, seen_type, seen_variant}
use Rattle.capnp_records.specs.Call.{Refused}
use Rattle.capnp_records.specs.Operation.{Initns}
use Rattle.capnp_records.specs.Record.{Value}
use Rattle.capnp_records.specs.Step.{StepTarget}
use Rattle.capnp_records.specs.Writes.ElementEnds.{HasElementThere}
use Rattle.capnp_slots.specs.ElementSets.{IsElementInitRefusal}
use Rattle.capnp_call.proofs.EndsDone.{roomless}
use Rattle.capnp_call.proofs.ListWalks.{filled_there, has_struct}
use Rattle.capnp_call.specs.Lists.{IsListStand}

-- ---- where an element is ----

room_by : (set : Schemas) (v : TypeVariant) (x : Tree) (i : ℕ) → IsListStand set (seen_variant v) x → i < list_length x → HasElementThere (seen_variant v) x i
room_by set v x i stands a = go v stands (stands.reads_it (filled_there x i a))
  where
    go : (v : TypeVariant) → IsListStand set (seen_variant v) x → reads_list (element_size (seen_variant v)) x ≡ true → HasElementThere (seen_variant v) x i
    go variant.Void s r = tt
    go variant.Bool s r = HasBit_there x i r a
    go variant.Int8 s r = HasNumber_there Byte 1 x i refl refl r s.formed a
    go variant.UInt8 s r = HasNumber_there Byte 1 x i refl refl r s.formed a
    go variant.Int16 s r = HasNumber_there TwoBytes 2 x i refl refl r s.formed a
    go variant.UInt16 s r = HasNumber_there TwoBytes 2 x i refl refl r s.formed a
    go variant.Int32 s r = HasNumber_there FourBytes 4 x i refl refl r s.formed a
    go variant.UInt32 s r = HasNumber_there FourBytes 4 x i refl refl r s.formed a
    go variant.Int64 s r = HasNumber_there EightBytes 8 x i refl refl r s.formed a
    go variant.UInt64 s r = HasNumber_there EightBytes 8 x i refl refl r s.formed a
    go (variant.Enum e) s r = HasNumber_there TwoBytes 2 x i refl refl r s.formed a
    go variant.Text s r = HasPointer_there x i r s.formed a
    go variant.«Data» s r = HasPointer_there x i r s.formed a
    go (variant.Struct z) s r = has_struct set _ _ x i s a
    go (variant.List t) s r = HasPointer_there x i r s.formed a
    go variant.AnyPointer s r = HasPointer_there x i r s.formed a

-- an element that is there can be written
pub room_at : (set : Schemas) (t : TypeHandle) (x : Tree) (i : ℕ) → IsListStand set (seen_type t) x → i < list_length x → HasElementThere (seen_type t) x i
room_at set t x i stands a =
    subst (λ (e : SchemaType). HasElementThere e x i) (seen_which t) (room_by set (variant_of t) x i (subst (λ (e : SchemaType). IsListStand set e x) (sym (seen_which t)) stands) a)

-- ---- init ----

pub element_init_refused : (set : Schemas) (x : StepTarget) (n : ℕ) (t : SchemaType) (old : Value) (kind : ErrorKind) → x.is_element ≡ true → IsElementInitRefusal set n t kind → Initns set x n t old (Refused kind) old
element_init_refused set x n TextType old kind at h = roomless x _ _ old kind h
element_init_refused set x n DataType old kind at h = roomless x _ _ old kind h
element_init_refused set x n (ListType e) old kind at h = roomless x _ _ old kind h
element_init_refused set x n AnyPointerType old kind at h = (ap Refused (h ∙ sym (ap (λ q. cond q ListAnyPointerNotSupported InitnIsOnlyValidForListTextOrDataFields) at)), refl)
element_init_refused set x n t old kind at h = (ap Refused (h ∙ sym (ap (λ q. cond q ExpectedAListOrBlob InitnIsOnlyValidForListTextOrDataFields) at)), refl)
