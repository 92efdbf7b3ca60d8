-- The content becomes the source's struct fitted to the place.
-- When the source has no more pointers than the place, fitting drops none, so a sound fitted row means a sound source.
use Rattle.std.proofs.Common.{None, arith, ◌≡◌, ◌*◌, ◌<◌, ◌≤◌, ◌^◌, List, ℕ, length, sym, ap, subst, ◌∙◌}
use Rattle.std.proofs.lemmas.Result.{err_from_is_err_and}
use Rattle.capnp_wire.specs.Edits.{IsCopyRefusal, fitted_struct}
use Rattle.capnp_wire.specs.Facts.Structs.{length_fitted}
use Rattle.capnp_wire.specs.Steps.Filling.{with_encoded_element}
use Rattle.capnp_wire.specs.Found.{parts_tree}
use Rattle.capnp_wire.specs.Tree.{StructTree, tree_count}
use Rattle.capnp_wire.specs.WellFormed.{IsWellFormedStruct}
use Rattle.capnp_wire.specs.Words.{first_fault_of_all}
use Rattle.capnp_arena.specs.Steps.Copies.{fitted_row}
use Rattle.capnp_arena.specs.Forest.{Planted}
use Rattle.capnp_arena.specs.Shape.{StructIn, word_count}
use Rattle.capnp_arena.proofs.Replaced.{IsContent, content_made, fitted_count, fitted_held, fitted_refused, fitted_sound}
use Rattle.capnp_arena.proofs.arena.Arena.copy_content_from.Goals as goal
use Rattle.capnp_arena.proofs.arena.Arena.copy_content_from.Goals.{then-count_pointers-place+in_ok-find_fault, else-count_pointers-place}

content : (old new : List ℕ) (a d p : ℕ) (s r : StructTree) → s ≡ r → IsWellFormedStruct r → length old ≡ 8 * word_count old → Planted old (StructIn a d p) → word_count new < 2 ^ 29 → first_fault_of_all (fitted_row p s.pointers) ≡ None
    → new ≡ with_encoded_element (8 * a) (fitted_struct (8 * d) p s) old → IsContent old new a d p (fitted_struct (8 * d) p r)
content old new a d p s r q held whole planted few none e =
    let h : IsWellFormedStruct s = subst IsWellFormedStruct (sym q) held in
    subst (λ x. IsContent old new a d p (fitted_struct (8 * d) p x)) q (content_made old new a d p (fitted_struct (8 * d) p s) (length_fitted (8 * d) p s) (fitted_count p s.pointers) (fitted_held p s.pointers h.3) none whole planted.ends few e)

pub fill_content-requires-clause-held : goal.fill_content-requires-clause-held
fill_content-requires-clause-held c = subst IsWellFormedStruct (sym c.parts-parts.ensures) c.struct_is_well_formed.ensures

pub returns-in_err-fill_content-clause-cause : goal.returns-in_err-fill_content-clause-cause
returns-in_err-fill_content-clause-cause c =
    let p = err_from_is_err_and c.from_residual-in_err-fill_content.result c.from_residual-in_err-fill_content.ensures.1 in
    rw (p.1, p.2) (subst (λ (s : StructTree). IsCopyRefusal c.in_err-fill_content.field-0.0 (first_fault_of_all s.pointers)) c.parts-parts.ensures (fitted_refused c.args.place.pointers (parts_tree c.parts-parts.result).pointers _ c.in_err-fill_content.ensures.cause))

pub returns-clause-planted : goal.returns-clause-planted
returns-clause-planted c = (content _ _ _ _ _ (parts_tree c.parts-parts.result) _ c.parts-parts.ensures c.struct_is_well_formed.ensures c.args.self.now.whole c.requires.planted c.fill_content.new.self.few c.in_ok-fill_content.ensures.sound c.in_ok-fill_content.ensures.copy).planted

pub returns-clause-changes : goal.returns-clause-changes
returns-clause-changes c = (content _ _ _ _ _ (parts_tree c.parts-parts.result) _ c.parts-parts.ensures c.struct_is_well_formed.ensures c.args.self.now.whole c.requires.planted c.fill_content.new.self.few c.in_ok-fill_content.ensures.sound c.in_ok-fill_content.ensures.copy).changes

pub returns-clause-tree : goal.returns-clause-tree
returns-clause-tree c = (content _ _ _ _ _ (parts_tree c.parts-parts.result) _ c.parts-parts.ensures c.struct_is_well_formed.ensures c.args.self.now.whole c.requires.planted c.fill_content.new.self.few c.in_ok-fill_content.ensures.sound c.in_ok-fill_content.ensures.copy).struct

pub returns-clause-sound : goal.returns-clause-sound
returns-clause-sound c = elim c.if-count_pointers-place.branch [
  | then-count_pointers-place+in_ok-find_fault w ↦ w.in_ok-find_fault.ensures.sound
  | else-count_pointers-place w ↦
      let l : tree_count (parts_tree c.parts-parts.result).pointers ≤ c.args.place.pointers = omega (arith, w.if-count_pointers-place.false, c.count_pointers.ensures) in
      sym (ap (λ (s : StructTree). first_fault_of_all s.pointers) c.parts-parts.ensures) ∙ fitted_sound c.args.place.pointers (parts_tree c.parts-parts.result).pointers l c.in_ok-fill_content.ensures.sound
]
