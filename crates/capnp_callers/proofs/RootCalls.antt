-- A root that was got has its schema's sections, and calls in it leave a message.
use Rattle.std.proofs.Common.{ℕ, ◌≡◌, ◌<◌, List, ap, subst, sym, ◌∙◌}
use Rattle.capnp_wire.specs.Edits.{extended_struct}
use Rattle.capnp_wire.specs.Place.{struct_tree}
use Rattle.capnp_wire.specs.Tree.{StructTree}
use Rattle.capnp_wire.specs.declared.size.StructSize.{StructSize}
use Rattle.capnp_arena.specs.Facts.Forests.{points}
use Rattle.capnp_arena.specs.Facts.Shapes.{itself_inside}
use Rattle.capnp_arena.specs.Facts.Laws.{IsInStruct, in_struct, struct_is, struct_planted}
use Rattle.capnp_arena.specs.Forest.{Forest, PartChanges, Planted, tree}
use Rattle.capnp_arena.specs.Segment.{segment}
use Rattle.capnp_arena.specs.Shape.{shape_at, word_count}
use Rattle.capnp_arena.specs.declared.arena.Arena.{Arena}
use Rattle.capnp_arena.specs.declared.arena.Place.{Place}
use Rattle.capnp_schema.specs.Plan.{brand_size}
use Rattle.capnp_schema.specs.Schema.{Schemas}
use Rattle.capnp_records.specs.Facts.Extension.{fits_extended}
use Rattle.capnp_records.specs.Writes.Slots.{Fits}
use Rattle.capnp_arena.specs.Built.{IsBuilt, built_at, place_words}

pub root_inside : (bytes : List ℕ) → Forest bytes 0 → 0 < word_count bytes
root_inside bytes f = itself_inside bytes 0 (shape_at bytes 0) (points bytes 0 f)

module _ (a b : Arena) (p q : Place) (same : b ≡ a) (placed : q ≡ p) (forest : Forest (segment a) 0) (there : shape_at (segment a) 0 ≡ place_words p) where
  forest_here : Forest (segment b) 0
  forest_here = subst (λ (x : Arena). Forest (segment x) 0) (sym same) forest

  there_here : shape_at (segment b) 0 ≡ place_words q
  there_here = subst (λ (x : Arena). shape_at (segment x) 0 ≡ place_words q) (sym same) (there ∙ ap place_words (sym placed))

  pub is_got : IsBuilt b q
  is_got = struct_planted (segment b) 0 q.start q.data_words q.pointers forest_here there_here

  pub got_fits : (set : Schemas) (n : ℕ) (size : StructSize) (s : StructTree) → size ≡ brand_size set n → tree (segment a) 0 ≡ struct_tree (extended_struct size s) → Fits set n (built_at b q)
  got_fits set n size s is made =
      subst (Fits set n)
      (sym (struct_is (segment b) 0 q.start q.data_words q.pointers (extended_struct size s) forest_here there_here (ap (λ (x : Arena). tree (segment x) 0) same ∙ made) ∙ ap (λ (z : StructSize). extended_struct z s) is))
      (fits_extended set n s)

  pub left : {new : List ℕ} → Planted new (place_words q) → PartChanges (place_words q) (segment b) new → Forest new 0
  left {new} planted changes =
      let s : IsInStruct (segment b) new 0 q.start q.data_words q.pointers = in_struct (segment b) new 0 q.start q.data_words q.pointers forest_here there_here planted changes in
      s.forest
