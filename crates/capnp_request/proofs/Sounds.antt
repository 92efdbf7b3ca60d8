-- Faults of what is read of a request are those of reads, and so are the refusals.
use Rattle.std.proofs.Common.{ℕ, ◌-◌, ◌≡◌, ◌==◌, suc, arith, refl, rules, subst, Bool, true, false, cond, Ok, Err}
use Rattle.capnp_device.specs.declared.error.ErrorKind.{ErrorKind}
use Rattle.capnp_device.specs.declared.error.ErrorKind.TheVariants.{BadPointer, CapabilityPointer, TextNotTerminated, TooDeep, WrongElementSize, WrongPointerKind}
use Rattle.capnp_wire.specs.Standing.{struct_levels, struct_of}
use Rattle.capnp_wire.specs.Tree as tree
use Rattle.capnp_wire.specs.Tree.{StructTree}
use Rattle.capnp_request.specs.Steps.Seen.{record_seen}
use Rattle.capnp_request.specs.RequestSet.{request_set}
use Rattle.capnp_schema.specs.Schema.{FieldKind, Group, Schemas, Slot, default_of, field_at}
use Rattle.capnp_schema.specs.Types.{StructType}
use Rattle.capnp_records.specs.Facts.ReadFaults.{IsReadKind, RecordSound, Sound, part_sound, read_of_sound, value_of_sound}
use Rattle.capnp_records.specs.Part.{part_at}
use Rattle.capnp_records.specs.Reading.{of_read, record_of, struct_record, values_of}
use Rattle.capnp_records.specs.Record as value
use Rattle.capnp_records.specs.Record.{Left, Record, Value}
use Rattle.capnp_dynamic_readers.specs.Reads.{handed_out}
use Rattle.capnp_request.specs.declared.handles.RequestRecord.{RequestRecord}
use Rattle.capnp_request.specs.Parts.{request_read_at}
use Rattle.capnp_request.specs.Refusals.{IsUnstrict}

-- ---- records ----

-- a struct is read with a level left for it
record_sound : (set : Schemas) (n : ℕ) (s : StructTree) (b : ℕ) → RecordSound (struct_record set (Left n) s b)
record_sound set n s b =
    let one_fewer : suc n - 1 ≡ n = omega arith in
    let is_left : (suc n == 0) ≡ false = search rules in
    subst (λ m. RecordSound (struct_record set (Left m) s b)) one_fewer (go (suc n == 0) is_left (value_of_sound set (tree.Struct s.bytes s.pointers) (Left (suc n)) (StructType b 0)))
  where
    go : (q : Bool) → q ≡ false → Sound (of_read (λ (x : StructTree). value.Struct (record_of set (Left (suc n - 1)) x.bytes (values_of set s.pointers) b)) (cond q (Err TooDeep) (Ok s))) → RecordSound (struct_record set (Left (suc n - 1)) s b)
    go true e h = cc
    go false e h = h

pub seen_sound : (s : RequestRecord) → RecordSound (record_seen s)
unfolding record_seen
seen_sound s = record_sound request_set (struct_levels s.sections) (struct_of s.sections) s.brand

handed_out_sound : (k : FieldKind) (v : Value) → Sound v → Sound (handed_out k v)
handed_out_sound (Slot offset default) v s = s
handed_out_sound (Group node) (value.Group r) s = s
handed_out_sound (Group node) v s = s

pub read_at_sound : (b i : ℕ) (r : Record) → RecordSound r → Sound (request_read_at b i r)
unfolding request_read_at
read_at_sound b i r s =
    handed_out_sound (field_at request_set b i).field.kind _
    (read_of_sound request_set (default_of (field_at request_set b i).field) (field_at request_set b i).type (part_at r (field_at request_set b i).field i) (part_sound r s (field_at request_set b i).field i))

-- ---- refusals ----

pub of_reads : (kind : ErrorKind) → IsReadKind kind → IsUnstrict kind
of_reads BadPointer e = refl
of_reads WrongPointerKind e = refl
of_reads WrongElementSize e = refl
of_reads TextNotTerminated e = refl
of_reads TooDeep e = refl
of_reads CapabilityPointer e = refl
of_reads kind e = cc
