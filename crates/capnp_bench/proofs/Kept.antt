-- What a write keeps: a struct stands at its place, with its schema's sections.
use Rattle.std.proofs.Common.{◌*◌, ◌≤◌, ◌≡◌, Bool, subst, sym}
use Rattle.capnp_arena.specs.Built.{IsBuilt, built_at}
use Rattle.capnp_arena.specs.declared.arena.Arena.{Arena}
use Rattle.capnp_arena.specs.declared.arena.Place.{Place}
use Rattle.capnp_schema.specs.FieldLists.{field_schema}
use Rattle.capnp_schema.specs.Footprint.{Spot}
use Rattle.capnp_schema.specs.StructHandles.{number_of, set_of}
use Rattle.capnp_schema.specs.declared.schema.fields.Field.{Field}
use Rattle.capnp_schema.specs.declared.schema.structs.StructSchema.{StructSchema}
use Rattle.capnp_records.specs.Writes.Slots.{Fits}
use Rattle.capnp_schema.specs.Plan.{brand_size}
use Rattle.capnp_slots.specs.Fields.{Keeps}
use Rattle.capnp_slots.specs.Groups.{IsGroupAt}
use Rattle.capnp_slots.specs.Standing.{IsStanding}
use Rattle.capnp_bench.specs.Steps.Room.{LiesIn}

pub kept_ready : (schema : StructSchema) (inside : Spot → Bool) (place : Place) (old new : Arena) → IsStanding schema old place → IsBuilt new place
    → Keeps inside (built_at old place) (built_at new place) → IsStanding schema new place
kept_ready schema inside place old new under planted kept = record {
  planted = planted;
  room = (
    subst (λ n. 8 * (brand_size (set_of schema) (number_of schema)).data_words ≤ n) (sym kept.writes.data_size) under.room.0,
    subst (λ n. (brand_size (set_of schema) (number_of schema)).pointers ≤ n) (sym kept.writes.pointer_count) under.room.1,
  );
}

-- a field of a schema lies in it, and one of a group in it too
pub own_lies : (schema : StructSchema) (f : Field) → field_schema f ≡ schema → LiesIn schema f
own_lies schema f e s fits = subst (λ (z : StructSchema). Fits (set_of z) (number_of z) s) (sym e) fits

pub group_lies : (schema : StructSchema) (g : Field) (group : StructSchema) (f : Field) → LiesIn schema g → IsGroupAt g group → field_schema f ≡ group → LiesIn schema f
group_lies schema g group f lies at e s fits = own_lies group f e s (at.room s (lies s fits))
