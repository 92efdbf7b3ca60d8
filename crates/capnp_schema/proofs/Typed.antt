-- Fields with their types, by index.
use Rattle.std.proofs.Common.{ℕ, zero, suc, List, [], ◌∷◌, length, map, min, slice_get, Option, Some, None, ◌≡◌, refl, arith}
use Rattle.capnp_base.specs.declared.introspect.«Type».{«Type» as TypeHandle}
use Rattle.capnp_schema.specs.Types.{seen_type}
use Rattle.capnp_schema.specs.Schema.{TypedField, typed_fields, seen_field}
use Rattle.capnp_schema.specs.declared.record.FieldRecord.{FieldRecord}

-- a field and its type, where both are there
abbrev pub typed_entry : Option FieldRecord → Option TypeHandle → Option TypedField
typed_entry None t = None
typed_entry (Some f) None = None
typed_entry (Some f) (Some t) = Some (record { field = seen_field f; type = seen_type t })

pub typed_entry_none : (f : Option FieldRecord) → None ≡ typed_entry f None
typed_entry_none None = refl
typed_entry_none (Some f) = refl

pub typed_entry_at : (fs : List FieldRecord) (ts : List TypeHandle) (i : ℕ) → slice_get (typed_fields (map seen_field fs) (map seen_type ts)) i ≡ typed_entry (slice_get fs i) (slice_get ts i)
typed_entry_at [] ts i = refl
typed_entry_at (f ∷ fs) [] i = typed_entry_none (slice_get (f ∷ fs) i)
typed_entry_at (f ∷ fs) (t ∷ ts) zero = refl
typed_entry_at (f ∷ fs) (t ∷ ts) (suc i) = typed_entry_at fs ts i

pub typed_length : (fs : List FieldRecord) (ts : List TypeHandle) → length (typed_fields (map seen_field fs) (map seen_type ts)) ≡ min (length fs) (length ts)
typed_length [] ts = omega (arith)
typed_length (f ∷ fs) [] = omega (arith)
typed_length (f ∷ fs) (t ∷ ts) = omega (arith, typed_length fs ts)
