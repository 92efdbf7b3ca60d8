-- Elements without pointers lie one behind the other as data, so as many bytes as their data words have are their row.
use Rattle.std.proofs.Common.{arith, List, ℕ, ◌≡◌, ◌+◌, ◌*◌, sym, ap, subst, ◌∙◌}
use Rattle.capnp_wire.specs.Backing.{segments_in}
use Rattle.capnp_wire.specs.Found.{element_structs}
use Rattle.capnp_wire.specs.Place.{bytes_at, tree_below}
use Rattle.capnp_wire.specs.declared.parts.row.Elements.{Elements}
use Rattle.capnp_arena.specs.Steps.Copies.{ArePointerless}
use Rattle.capnp_arena.proofs.PlainRows.{plain_row}
use Rattle.capnp_arena.proofs.copy.get_pointerless_bytes.Goals as goal

no_more : (d p : ℕ) → p ≡ 0 → d ≡ d + p
no_more d p e = omega (arith, e)

pointerless_elements : (d p : ℕ) (es : Elements) (row : List ℕ) → p ≡ 0 → row ≡ bytes_at es.segment.now es.first (8 * (es.count * d)) → ArePointerless row (d + p) (element_structs d p es)
pointerless_elements d p es row e h =
    subst (λ z. ArePointerless z (d + p) (element_structs d p es)) (sym (h ∙ ap (λ k. bytes_at es.segment.now es.first (8 * (es.count * k))) (no_more d p e)))
    (plain_row (tree_below es.depth (segments_in es.is_stream es.bytes.now) es.segment.now) es.segment.now es.first d p es.count e)

pub returns-clause-pointerless : goal.returns-clause-pointerless
returns-clause-pointerless c = pointerless_elements c.args.size.data_words c.args.size.pointers c.args.elements c.bytes_from.result.now c.if-size-ne0.false c.bytes_from.ensures
