-- On success the fitted bytes and pointers are the struct's.
-- On refusal only the place and the end have changed, so cutting back and the kept bytes restore all.
use Rattle.std.proofs.Common.{arith, ◌≡◌, ◌+◌, ◌*◌, length, ap, ◌∙◌}
use Rattle.capnp_wire.specs.Edits.{fitted_struct}
use Rattle.capnp_wire.specs.Facts.Filling.{element_put}
use Rattle.capnp_wire.specs.Facts.Structs.{length_fitted, tree_count_fitted}
use Rattle.capnp_wire.specs.Steps.Filling.{bytes_with, with_pointers}
use Rattle.capnp_wire.specs.Found.{parts_tree, pointer_trees}
use Rattle.capnp_wire.specs.Place.{bytes_at}
use Rattle.capnp_arena.specs.Steps.Copies.{Spares, fitted_row}
use Rattle.capnp_arena.proofs.Copying.{element_kept}
use Rattle.capnp_arena.proofs.Replaced.{put_back}
use Rattle.capnp_arena.proofs.arena.Arena.fill_content.Goals as goal

pub returns-in-Err-clause-refused : goal.returns-in-Err-clause-refused
returns-in-Err-clause-refused c =
    let n = length_fitted (8 * c.args.place.data_words) c.args.place.pointers (parts_tree c.args.parts) in
    let s : Spares c.args.place.start (c.args.place.data_words + c.args.place.pointers) c.args.self.now.bytes.items c.fill_fitted.new.arena.bytes.items =
    element_kept c.args.place.start c.args.place.data_words c.args.place.pointers (fitted_struct (8 * c.args.place.data_words) c.args.place.pointers (parts_tree c.args.parts)).bytes _ c.put_fitted.new.out.items _ n (omega (arith, n, c.requires.inside)) c.put_fitted.ensures.put c.fill_fitted.ensures.kept in
    let k : c.in_ok-kept.kept.items ≡ bytes_at c.args.self.now.bytes.items c.args.place.start (8 * (c.args.place.data_words + c.args.place.pointers)) = c.in_ok-kept.ensures.items ∙ c.get_part.ensures.part ∙ ap (λ b. bytes_at b c.args.place.start (8 * (c.args.place.data_words + c.args.place.pointers))) c.as_slice.ensures.value in
    put_back c.args.self.now.bytes.items c.fill_fitted.new.arena.bytes.items _ c.in_ok-kept.kept.items c.args.place.start (c.args.place.data_words + c.args.place.pointers) c.count_words-end.result c.count_words-end.ensures.whole (omega (arith, c.requires.inside, c.count_words-end.ensures.count)) s k
    (c.put_bytes.ensures.put ∙ ap (λ x. bytes_with (8 * c.args.place.start) x c.cut.new.self.bytes.items) c.as_slice-in-Err.ensures.value ∙ ap (bytes_with (8 * c.args.place.start) c.in_ok-kept.kept.items) c.cut.ensures)

pub returns-clause-copy : goal.returns-clause-copy
returns-clause-copy c =
    let n = length_fitted (8 * c.args.place.data_words) c.args.place.pointers (parts_tree c.args.parts) in
    let p = tree_count_fitted (8 * c.args.place.data_words) c.args.place.pointers (parts_tree c.args.parts) in
    element_put (8 * c.args.place.start) (fitted_struct (8 * c.args.place.data_words) c.args.place.pointers (parts_tree c.args.parts)) c.args.self.now.bytes.items c.put_fitted.new.out.items _ (omega (arith, n, p, c.requires.inside)) c.put_fitted.ensures.put
    (c.in_default.ensures.copy ∙ ap (λ k. with_pointers k (fitted_row c.args.place.pointers (pointer_trees c.args.parts.pointers)) c.put_fitted.new.out.items) {x = 8 * (c.args.place.start + c.args.place.data_words)} {y = 8 * c.args.place.start + length (fitted_struct (8 * c.args.place.data_words) c.args.place.pointers (parts_tree c.args.parts)).bytes} (omega (arith, n)))
