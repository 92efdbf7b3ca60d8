-- The lines of notes, as a walk over the notes makes them.
use Rattle.std.proofs.Common.{slice_get, ◌≡◌, ℕ, zero, suc, List, [], ◌∷◌, Option, Some, None, map, refl, string_bytes}
use Rattle.capnp_schema.specs.Names.{name_at}
use Rattle.capnp_schema.specs.Schema.{seen_field}
use Rattle.capnp_schema.specs.declared.record.FieldRecord.{FieldRecord}

abbrev record_name : Option FieldRecord → List ℕ
record_name None = []
record_name (Some f) = string_bytes f.name

-- the name of a field is that of its record
pub seen_name : (fs : List FieldRecord) (i : ℕ) → name_at (map seen_field fs) i ≡ record_name (slice_get fs i)
seen_name [] i = refl
seen_name (f ∷ fs) zero = refl
seen_name (f ∷ fs) (suc i) = seen_name fs i
