-- A struct that is started has its schema's sections, and a run keeps them.
use Rattle.std.proofs.Common.{ℕ, ◌*◌, ◌≤◌, ◌≡◌, ap, subst, sym, ◌∙◌}
use Rattle.capnp_wire.specs.Edits.{HasAtLeast, zero_struct}
use Rattle.capnp_wire.specs.Facts.Lengths.{HasAtLeast_zero_struct}
use Rattle.capnp_wire.specs.Place.{struct_tree}
use Rattle.capnp_wire.specs.declared.size.StructSize.{StructSize}
use Rattle.capnp_arena.specs.Facts.Laws.{struct_is, struct_planted}
use Rattle.capnp_arena.specs.Forest.{Forest, tree}
use Rattle.capnp_arena.specs.Segment.{segment}
use Rattle.capnp_arena.specs.Shape.{shape_at}
use Rattle.capnp_arena.specs.declared.arena.Arena.{Arena}
use Rattle.capnp_arena.specs.declared.arena.Place.{Place}
use Rattle.capnp_schema.specs.Plan.{brand_size}
use Rattle.capnp_schema.specs.Schema.{Schemas}
use Rattle.capnp_schema.specs.StructHandles.{number_of, set_of}
use Rattle.capnp_schema.specs.declared.schema.structs.StructSchema.{StructSchema}
use Rattle.capnp_records.specs.Writes.Slots.{Fits}
use Rattle.capnp_arena.specs.Built.{IsBuilt, built_at, place_words}
use Rattle.capnp_slots.specs.Groups.{KeepsSize}
use Rattle.capnp_slots.specs.Standing.{IsStanding}

pub standing_on : (schema : StructSchema) (p : Place) (a b : Arena) → IsStanding schema a p → IsBuilt b p → KeepsSize (built_at a p) (built_at b p) → IsStanding schema b p
standing_on schema p a b h planted k = record {
  planted = planted;
  room = (
    subst (λ n. 8 * (brand_size (set_of schema) (number_of schema)).data_words ≤ n) (sym k.writes.data_size) h.room.0,
    subst (λ n. (brand_size (set_of schema) (number_of schema)).pointers ≤ n) (sym k.writes.pointer_count) h.room.1,
  );
}

module _ (a : Arena) (p : Place) (forest : Forest (segment a) 0) (there : shape_at (segment a) 0 ≡ place_words p) where
  pub is_started : IsBuilt a p
  is_started = struct_planted (segment a) 0 p.start p.data_words p.pointers forest there

  pub started_fits : (set : Schemas) (b : ℕ) (size : StructSize) → size ≡ brand_size set b → tree (segment a) 0 ≡ struct_tree (zero_struct size) → Fits set b (built_at a p)
  started_fits set b size is made =
      subst (HasAtLeast (brand_size set b)) (sym (struct_is (segment a) 0 p.start p.data_words p.pointers (zero_struct size) forest there made ∙ ap zero_struct is)) (HasAtLeast_zero_struct (brand_size set b))
