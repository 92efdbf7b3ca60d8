-- A struct that stays at its place keeps its size.
use Rattle.std.proofs.Common.{ℕ, ◌*◌, ◌≤◌, ◌≡◌, sym, subst, ◌∙◌}
use Rattle.std.proofs.lemmas.Bool.{true≢false}
use Rattle.capnp_wire.specs.Place.{struct_tree}
use Rattle.capnp_wire.specs.WellFormed.{IsWellFormed}
use Rattle.capnp_arena.specs.Facts.Places.{data_of, pointers_of}
use Rattle.capnp_arena.specs.Segment.{segment}
use Rattle.capnp_arena.specs.declared.arena.Arena.{Arena}
use Rattle.capnp_arena.specs.declared.arena.Place.{Place}
use Rattle.capnp_schema.specs.Plan.{brand_size}
use Rattle.capnp_schema.specs.Schema.{Schemas}
use Rattle.capnp_schema.specs.StructHandles.{number_of, set_of}
use Rattle.capnp_schema.specs.declared.schema.structs.StructSchema.{StructSchema}
use Rattle.capnp_records.specs.Writes.Slots.{Fits}
use Rattle.capnp_arena.specs.Built.{IsBuilt, built_at}
use Rattle.capnp_slots.specs.Groups.{KeepsSize}
use Rattle.capnp_slots.specs.Standing.{IsStanding}

module _ (a b : Arena) (p : Place) (h : IsBuilt a p) (k : IsBuilt b p) where
  pub keeps_size : IsWellFormed (struct_tree (built_at b p)) → KeepsSize (built_at a p) (built_at b p)
  keeps_size formed = record {
    writes = record {
      agree = λ q inside. absurd (true≢false inside);
      data_size = data_of (segment b) p.start p.data_words p.pointers k ∙ sym (data_of (segment a) p.start p.data_words p.pointers h);
      pointer_count = pointers_of (segment b) p.start p.data_words p.pointers ∙ sym (pointers_of (segment a) p.start p.data_words p.pointers);
    };
    formed = λ _. formed;
  }

  fits_kept : (set : Schemas) (n : ℕ) → Fits set n (built_at a p) → Fits set n (built_at b p)
  fits_kept set n (x, y) = (
    subst (λ i. 8 * (brand_size set n).data_words ≤ i) (data_of (segment a) p.start p.data_words p.pointers h ∙ sym (data_of (segment b) p.start p.data_words p.pointers k)) x,
    subst (λ i. (brand_size set n).pointers ≤ i) (pointers_of (segment a) p.start p.data_words p.pointers ∙ sym (pointers_of (segment b) p.start p.data_words p.pointers)) y,
  )

pub standing_on : (schema : StructSchema) (a b : Arena) (p : Place) → IsStanding schema a p → IsBuilt b p → IsStanding schema b p
standing_on schema a b p h k = record { planted = k; room = fits_kept a b p h.planted k (set_of schema) (number_of schema) h.room }
