-- What an older schema sees of a struct is the projection of what a newer one sees.
use Rattle.std.proofs.Common.{ℕ, ◌≡◌, refl, ap, ap₂, sym, subst, ◌∙◌}
use Rattle.capnp_wire.specs.Standing.{struct_levels, struct_of}
use Rattle.capnp_wire.specs.WellFormed.{IsWellFormedStruct}
use Rattle.capnp_wire.specs.declared.struct_reader.StructReader.{StructReader}
use Rattle.capnp_schema.specs.Schema.{Schemas}
use Rattle.capnp_schema.specs.StructHandles.{number_of, set_of}
use Rattle.capnp_schema.specs.declared.schema.structs.StructSchema.{StructSchema}
use Rattle.capnp_records.specs.Compatible.{projection_of}
use Rattle.capnp_records.specs.Reading.{struct_record}
use Rattle.capnp_records.specs.Record.{Left, Record}
use Rattle.capnp_dynamic_readers.specs.Handles.{reader_of, schema_of}
use Rattle.capnp_dynamic_readers.specs.Seen.{record_seen}
use Rattle.capnp_dynamic_readers.specs.declared.dynamic_struct.Reader.{Reader as StructHandle}
use Rattle.capnp_compatible.specs.Checked.{AreRead, IsSeen, IsReadUnder, Projects, ProjectsWhereRead}

-- a record by the set, the number of the brand and the sections
record_by : Schemas → ℕ → StructReader → Record
record_by set b r = struct_record set (Left (struct_levels r)) (struct_of r) b

seen_by : (s : StructHandle) (set : Schemas) (b : ℕ) (r : StructReader) → set_of (schema_of s) ≡ set → number_of (schema_of s) ≡ b → reader_of s ≡ r → record_seen s ≡ record_by set b r
unfolding record_by
seen_by s set b r e n h =
    ap₂ (λ (x : Schemas) (m : ℕ). struct_record x (Left (struct_levels (reader_of s))) (struct_of (reader_of s)) m) e n
    ∙ ap (λ (x : StructReader). struct_record set (Left (struct_levels x)) (struct_of x) b) h

projects_by : (older newer : StructSchema) (r : StructReader) → Projects older newer →
    record_by (set_of older) (number_of older) r ≡ projection_of (set_of older) (number_of older) (number_of newer) (record_by (set_of older) (number_of newer) r)
unfolding record_by
projects_by older newer r projects = projects (Left (struct_levels r)) (struct_of r)

pub projection_seen : (older newer : StructSchema) (s t : StructHandle) → Projects older newer → set_of newer ≡ set_of older → IsReadUnder s older → IsReadUnder t newer → reader_of s ≡ reader_of t →
    record_seen s ≡ projection_of (set_of older) (number_of older) (number_of newer) (record_seen t)
projection_seen older newer s t projects one under over same =
    seen_by s (set_of older) (number_of older) (reader_of t) under.0 under.1 same
    ∙ projects_by older newer (reader_of t) projects
    ∙ ap (projection_of (set_of older) (number_of older) (number_of newer)) (sym (seen_by t (set_of older) (number_of newer) (reader_of t) (over.0 ∙ one) over.1 refl))

-- a struct under the older schema that a reader was narrowed to
pub narrowed : (older newer : StructSchema) (s t : StructHandle) → Projects older newer → set_of newer ≡ set_of older → schema_of s ≡ older → IsReadUnder t newer → reader_of s ≡ reader_of t →
    record_seen s ≡ projection_of (set_of older) (number_of older) (number_of newer) (record_seen t)
narrowed older newer s t projects one is over same = projection_seen older newer s t projects one (ap set_of is, ap number_of is) over same

-- one under the newer schema that a reader was widened to
pub widened : (older newer : StructSchema) (s t : StructHandle) → Projects older newer → set_of newer ≡ set_of older → schema_of s ≡ newer → IsReadUnder t older → reader_of s ≡ reader_of t →
    projection_of (set_of older) (number_of older) (number_of newer) (record_seen s) ≡ record_seen t
widened older newer s t projects one is under same = sym (projection_seen older newer t s projects one under (ap set_of is, ap number_of is) (sym same))

-- ---- where lists became lists of structs ----

upgrade_by : (older newer : StructSchema) (r : StructReader) → ProjectsWhereRead older newer → IsWellFormedStruct (struct_of r) →
    AreRead older newer (record_by (set_of older) (number_of older) r) (record_by (set_of older) (number_of newer) r) → IsSeen older newer (record_by (set_of older) (number_of older) r) (record_by (set_of older) (number_of newer) r)
unfolding record_by
upgrade_by older newer r projects formed read = projects (Left (struct_levels r)) (struct_of r) formed read

pub upgrade_seen : (older newer : StructSchema) (s t : StructHandle) → ProjectsWhereRead older newer → set_of newer ≡ set_of older → IsReadUnder s older → IsReadUnder t newer → reader_of s ≡ reader_of t → IsWellFormedStruct (struct_of (reader_of t)) →
    AreRead older newer (record_seen s) (record_seen t) → IsSeen older newer (record_seen s) (record_seen t)
upgrade_seen older newer s t projects one under over same formed =
    let set = set_of older in
    let r = reader_of t in
    let a : record_seen s ≡ record_by set (number_of older) r = seen_by s set (number_of older) r under.0 under.1 same in
    let b : record_seen t ≡ record_by set (number_of newer) r = seen_by t set (number_of newer) r (over.0 ∙ one) over.1 refl in
    subst (λ (x : Record). AreRead older newer x (record_seen t) → IsSeen older newer x (record_seen t)) (sym a)
    (subst (λ (y : Record). AreRead older newer (record_by set (number_of older) r) y → IsSeen older newer (record_by set (number_of older) r) y) (sym b) (upgrade_by older newer r projects formed))

pub narrowed_upgrade : (older newer : StructSchema) (s t : StructHandle) → ProjectsWhereRead older newer → set_of newer ≡ set_of older → schema_of s ≡ older → IsReadUnder t newer → reader_of s ≡ reader_of t → IsWellFormedStruct (struct_of (reader_of t)) →
    AreRead older newer (record_seen s) (record_seen t) → IsSeen older newer (record_seen s) (record_seen t)
narrowed_upgrade older newer s t projects one is over same formed = upgrade_seen older newer s t projects one (ap set_of is, ap number_of is) over same formed

pub widened_upgrade : (older newer : StructSchema) (s t : StructHandle) → ProjectsWhereRead older newer → set_of newer ≡ set_of older → schema_of s ≡ newer → IsReadUnder t older → reader_of s ≡ reader_of t → IsWellFormedStruct (struct_of (reader_of t)) →
    AreRead older newer (record_seen t) (record_seen s) → IsSeen older newer (record_seen t) (record_seen s)
widened_upgrade older newer s t projects one is under same formed =
    upgrade_seen older newer t s projects one under (ap set_of is, ap number_of is) (sym same) (subst (λ (r : StructReader). IsWellFormedStruct (struct_of r)) (sym same) formed)
