-- Names of the fields that records stand for.
use Rattle.std.proofs.Common.{string_bytes, ◌≡◌, ℕ, zero, suc, List, [], ◌∷◌, Option, Some, None, length, refl, slice_get, map}
use Rattle.std.proofs.lemmas.List.{length-map}
use Rattle.capnp_schema.specs.Schema.{seen_field}
use Rattle.capnp_schema.specs.Names.{name_at}
use Rattle.capnp_schema.specs.declared.record.FieldRecord.{FieldRecord}

abbrev pub record_name : Option FieldRecord → List ℕ
record_name None = []
record_name (Some f) = string_bytes f.name

pub seen_name : (fs : List FieldRecord) (i : ℕ) → name_at (map seen_field fs) i ≡ record_name (slice_get fs i)
seen_name [] i = refl
seen_name (f ∷ fs) zero = refl
seen_name (f ∷ fs) (suc i) = seen_name fs i

pub seen_count : (fs : List FieldRecord) → length (map seen_field fs) ≡ length fs
seen_count fs = length-map fs seen_field
