-- The entry's number counts the nodes made, so the struct made with it is the next one.
-- Node, brand and notes go behind those made, and each brand keeps its node.
use Rattle.std.proofs.Common.{◌≡◌, ◌∙◌, ap, length, map, inr, refl, string_bytes, sym, Ok}
use Rattle.std.proofs.lemmas.Result.{err_from_is_err_and}
use Rattle.capnp_schema.specs.Schema.{seen_brand, seen_enum, seen_node}
use Rattle.capnp_request.specs.Steps.Seen.{record_seen}
use Rattle.capnp_request.specs.Steps.Bindings.{bounds}
use Rattle.capnp_request.specs.Steps.Done.{between}
use Rattle.capnp_request.specs.Steps.Nodes.{nodes_of}
use Rattle.capnp_request.specs.Steps.ProgressSeen.{begun_of, made_of}
use Rattle.capnp_request.specs.Reading.{node_said}
use Rattle.capnp_request.specs.Steps.StructsSeen.{seen_struct}
use Rattle.capnp_request.proofs.BrandsMade.{brand_made}
use Rattle.capnp_request.proofs.Numbering.{map_more}
use Rattle.capnp_request.proofs.OrderMade.{same_made}
use Rattle.capnp_request.proofs.ProgressMade.{map_length, struct_added, struct_moved, struct_unmade}
use Rattle.capnp_request.proofs.StructsMade.{notes_more}
use Rattle.capnp_request.proofs.conversion.Progress.add_struct.Goals as goal

pub returns-in_err-made-clause-done : goal.returns-in_err-made-clause-done
returns-in_err-made-clause-done c = λ hs.
    let number : length (made_of c.args.self.now hs).nodes ≡ c.args.next.place.number = map_length seen_node c.args.self.now.made.nodes.items ∙ sym c.requires.number in
    let p = err_from_is_err_and c.from_residual.result c.from_residual.ensures.1 in
    rw (p.1, p.2) (λ is. struct_unmade (nodes_of c.args.context.nodes.now) c.args.context.strict (made_of c.args.self.now hs) c.args.next.place.id (bounds c.args.next.scopes.items) (begun_of c.args.self.now hs c.args.next) (between c.args.entries.now) _
    (struct_moved (nodes_of c.args.context.nodes.now) c.args.context.strict c.args.next.place.number (length (made_of c.args.self.now hs).nodes) c.args.next.place.id c.as_slice.result.now c.args.next.scopes.items (string_bytes c.args.next.name) (node_said (record_seen c.args.next.place.node)) (between c.args.entries.now) _ number c.as_slice.ensures.value (c.in_err-made.ensures.done is)))

pub returns-clause-done : goal.returns-clause-done
returns-clause-done c = λ hs.
    let number : length (made_of c.args.self.now hs).nodes ≡ c.args.next.place.number = map_length seen_node c.args.self.now.made.nodes.items ∙ sym c.requires.number in
    struct_added (nodes_of c.args.context.nodes.now) c.args.context.strict (made_of c.args.self.now hs) c.args.next.place.id (bounds c.args.next.scopes.items) (begun_of c.args.self.now hs c.args.next) (between c.args.entries.now) (seen_struct c.in_ok-made.made) (between c.struct_of.new.entries)
    (struct_moved (nodes_of c.args.context.nodes.now) c.args.context.strict c.args.next.place.number (length (made_of c.args.self.now hs).nodes) c.args.next.place.id c.as_slice.result.now c.args.next.scopes.items (string_bytes c.args.next.name) (node_said (record_seen c.args.next.place.node)) (between c.args.entries.now) _ number c.as_slice.ensures.value c.in_ok-made.ensures.done)
    ∙ ap (λ m. Ok (m, between c.struct_of.new.entries)) (same_made _ _ _ _ _ _ _ _ _ _
    (sym (map_more seen_node c.args.self.now.made.nodes.items _ _ _ c.in_ok-put_struct.ensures.nodes refl))
    (sym (map_more seen_brand c.args.self.now.made.brands.items _ _ _ c.in_ok-put_struct.ensures.brands refl))
    (ap (λ v. map seen_enum v.items) (sym c.in_ok-put_struct.ensures.enums))
    (sym (notes_more c.args.self.now.made.notes.items _ _ _ c.in_ok-put_struct.ensures.notes refl)))

pub returns-clause-structs : goal.returns-clause-structs
returns-clause-structs c = inr (_, c.in_ok-put_struct.ensures.nodes)

pub returns-clause-enums : goal.returns-clause-enums
returns-clause-enums c = c.in_ok-put_struct.ensures.enums

pub returns-clause-brands : goal.returns-clause-brands
returns-clause-brands c = brand_made c.args.self.now.made.nodes.items _ c.args.self.now.made.brands.items _ _ _ c.args.next.place.number c.requires.brands c.requires.number c.in_ok-made.ensures.brand c.in_ok-put_struct.ensures.nodes c.in_ok-put_struct.ensures.brands

pub returns-in_err-put_struct-clause-done : goal.returns-in_err-put_struct-clause-done
returns-in_err-put_struct-clause-done c = λ hs.
    let p = err_from_is_err_and c.from_residual-in_err-put_struct.result c.from_residual-in_err-put_struct.ensures.1 in
    rw (p.1, p.2) (λ is. absurd (is c.in_err-put_struct.ensures.kinds))
