-- A struct that was entered under a schema has the schema's sections.
use Rattle.std.proofs.Common.{ℕ, ◌≡◌, ap, subst, sym, ◌∙◌}
use Rattle.capnp_arena.specs.Facts.Laws.{struct_is, struct_planted}
use Rattle.capnp_arena.specs.Forest.{Forest, tree}
use Rattle.capnp_arena.specs.Segment.{segment}
use Rattle.capnp_arena.specs.Shape.{StructIn, shape_at}
use Rattle.capnp_arena.specs.declared.arena.Arena.{Arena}
use Rattle.capnp_arena.specs.declared.arena.Place.{Place}
use Rattle.capnp_arena.specs.Built.{built_at}
use Rattle.capnp_wire.specs.Place.{struct_tree}
use Rattle.capnp_slots.specs.Standing.{IsStanding}
use Rattle.capnp_wire.specs.Edits.{extended_struct}
use Rattle.capnp_wire.specs.Facts.Lengths.{HasAtLeast_extended}
use Rattle.capnp_wire.specs.Tree.{StructTree}
use Rattle.capnp_wire.specs.declared.size.StructSize.{StructSize}
use Rattle.capnp_schema.specs.StructHandles.{number_of, set_of}
use Rattle.capnp_schema.specs.declared.schema.structs.StructSchema.{StructSchema}
use Rattle.capnp_records.specs.Writes.Slots.{Fits}
use Rattle.capnp_schema.specs.Plan.{brand_size}

pub entered_fits : (schema : StructSchema) (size : StructSize) (old new : StructTree) → size ≡ brand_size (set_of schema) (number_of schema) → new ≡ extended_struct size old → Fits (set_of schema) (number_of schema) new
entered_fits schema size old new same e =
    subst (Fits (set_of schema) (number_of schema)) (sym e)
    (subst (λ (z : StructSize). Fits (set_of schema) (number_of schema) (extended_struct z old)) (sym same) (HasAtLeast_extended (brand_size (set_of schema) (number_of schema)) old))

-- and stands at its place
pub entered_stands : (schema : StructSchema) (size : StructSize) (old : StructTree) (arena : Arena) (w : ℕ) (p : Place) → size ≡ brand_size (set_of schema) (number_of schema) → Forest (segment arena) w → shape_at (segment arena) w ≡ StructIn p.start p.data_words p.pointers →
    tree (segment arena) w ≡ struct_tree (extended_struct size old) → IsStanding schema arena p
entered_stands schema size old arena w p same f place e = record {
  planted = struct_planted (segment arena) w p.start p.data_words p.pointers f place;
  room = entered_fits schema size old (built_at arena p) same (struct_is (segment arena) w p.start p.data_words p.pointers (extended_struct size old) f place e);
}

pub entered_is : (schema : StructSchema) (size : StructSize) (old : StructTree) (arena : Arena) (w : ℕ) (p : Place) → size ≡ brand_size (set_of schema) (number_of schema) → Forest (segment arena) w → shape_at (segment arena) w ≡ StructIn p.start p.data_words p.pointers →
    tree (segment arena) w ≡ struct_tree (extended_struct size old) → built_at arena p ≡ extended_struct (brand_size (set_of schema) (number_of schema)) old
entered_is schema size old arena w p same f place e =
    struct_is (segment arena) w p.start p.data_words p.pointers (extended_struct size old) f place e ∙ ap (λ (z : StructSize). extended_struct z old) same
