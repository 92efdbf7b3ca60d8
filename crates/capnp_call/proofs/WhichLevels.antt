-- The active member is the same whatever levels a reader has left, and of two structs with the same data.
use Rattle.std.proofs.Common.{ℕ, ◌≡◌, refl, Bool, true, false, ◌==◌, None, ap, sym, ◌∙◌}
use Rattle.capnp_wire.specs.Tree.{StructTree}
use Rattle.capnp_wire.specs.Standing.{struct_levels, struct_of}
use Rattle.capnp_schema.specs.Schema.{Schemas, fields_of, node_of}
use Rattle.capnp_schema.specs.StructHandles.{number_of, set_of}
use Rattle.capnp_schema.specs.declared.schema.structs.StructSchema.{StructSchema}
use Rattle.capnp_records.specs.Facts.Frame.{chosen_first}
use Rattle.capnp_records.specs.Part.{which_of}
use Rattle.capnp_records.specs.Reading.{active_among, discriminant, part_of, non_union_parts, reads, struct_record, values_of}
use Rattle.capnp_records.specs.Record.{Endless, Left, Levels, NoUnion, Parts}
use Rattle.capnp_dynamic_readers.specs.Facts.HasWhich.{which_counted}
use Rattle.capnp_dynamic_readers.specs.Handles.{reader_of, schema_of}
use Rattle.capnp_dynamic_readers.specs.Seen.{record_seen}
use Rattle.capnp_dynamic_readers.specs.declared.dynamic_struct.Reader.{Reader as StructHandle}

which_same : (set : Schemas) (l m : Levels) (x s : StructTree) (b : ℕ) → s.bytes ≡ x.bytes → which_of (struct_record set l x b) ≡ which_of (struct_record set m s b)
which_same set l m x s b h = go ((node_of set b).discriminant_count == 0) refl
  where
    none : (l : Levels) (y : StructTree) → ((node_of set b).discriminant_count == 0) ≡ true → which_of (struct_record set l y b) ≡ None
    none l y e = ap (λ u. which_of (Parts (non_union_parts (part_of set l y.bytes (values_of set y.pointers)) (fields_of set b)) u))
        (chosen_first ((node_of set b).discriminant_count == 0) NoUnion (active_among (part_of set l y.bytes (values_of set y.pointers)) (fields_of set b) 0 (discriminant (node_of set b) y.bytes)) e)

    go : (q : Bool) → ((node_of set b).discriminant_count == 0) ≡ q → which_of (struct_record set l x b) ≡ which_of (struct_record set m s b)
    go true e = none l x e ∙ sym (none m s e)
    go false e = sym (which_counted set l x b _ e refl) ∙ which_counted set m s b _ e (ap (discriminant (node_of set b)) (sym h))

-- a reader of a struct under a schema, with whatever levels
pub which_reads : (r : StructHandle) (schema : StructSchema) (x s : StructTree) → schema_of r ≡ schema → struct_of (reader_of r) ≡ x → s.bytes ≡ x.bytes → which_of (record_seen r) ≡ which_of (reads (set_of schema) s (number_of schema))
which_reads r schema x s e h same =
    which_same (set_of (schema_of r)) (Left (struct_levels (reader_of r))) Endless (struct_of (reader_of r)) s (number_of (schema_of r)) (same ∙ ap (λ (y : StructTree). y.bytes) (sym h))
    ∙ ap (λ (z : StructSchema). which_of (reads (set_of z) s (number_of z))) e
