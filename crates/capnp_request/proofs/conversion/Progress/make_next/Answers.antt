-- Whether an entry waits decides, and where none does, whether an enum waits.
-- One step of making all makes that one, is refused with it, or finds nothing left.
use Rattle.std.proofs.Common.{◌≡◌, ◌∙◌, ap, inl, length, refl, rules, slice_get, subst, sym, Some, None}
use Rattle.std.proofs.lemmas.Result.{err_from_is_err_and}
use Rattle.capnp_request.specs.Steps.Done.{between}
use Rattle.capnp_request.specs.Steps.EntriesSeen.{seen_entry}
use Rattle.capnp_request.specs.Steps.Nodes.{nodes_of}
use Rattle.capnp_request.specs.Steps.Numbers.{numbered_entries}
use Rattle.capnp_request.specs.Steps.ProgressSeen.{made_of}
use Rattle.capnp_request.specs.Steps.Sizes.{HasGrown}
use Rattle.capnp_request.specs.declared.conversion.Converted.{Converted}
use Rattle.capnp_request.proofs.OrderMade.{next_enum, next_enum_refused, next_made, next_none, next_refused, struct_refused}
use Rattle.capnp_request.proofs.ProgressMade.{held_since, next_enum_id, next_node, struct_so}
use Rattle.capnp_request.proofs.conversion.Progress.make_next.Goals as goal

pub returns-in_err-next-clause-refused : goal.returns-in_err-next-clause-refused
returns-in_err-next-clause-refused c = λ hs h.
    let count : c.len.result ≡ length c.args.self.now.made.nodes.items = search rules in
    let here : slice_get (numbered_entries c.args.entries.now).entries (length (made_of c.args.self.now hs).nodes) ≡ Some (seen_entry c.in-Some.entry.now) = next_node c.args.self.now hs c.len.result _ _ count (sym c.in-Some.ensures) in
    let p = err_from_is_err_and c.from_residual.result c.from_residual.ensures.1 in
    rw (p.1, p.2) (λ is again. next_refused (nodes_of c.args.context.nodes.now) c.args.context.strict (made_of c.args.self.now hs) (between c.args.entries.now) again _ here _ (struct_refused (nodes_of c.args.context.nodes.now) c.args.context.strict (made_of c.args.self.now hs) (between c.args.entries.now) _ _ (c.in_err-next.ensures.refused hs h is)))

pub returns-in_err-add_struct-clause-refused : goal.returns-in_err-add_struct-clause-refused
returns-in_err-add_struct-clause-refused c = λ hs h.
    let count : c.len.result ≡ length c.args.self.now.made.nodes.items = search rules in
    let here : slice_get (numbered_entries c.args.entries.now).entries (length (made_of c.args.self.now hs).nodes) ≡ Some (seen_entry c.in-Some.entry.now) = next_node c.args.self.now hs c.len.result _ _ count (sym c.in-Some.ensures) in
    let begun = c.in_ok-next.ensures.done hs h in
    let p = err_from_is_err_and c.from_residual-in_err-add_struct.result c.from_residual-in_err-add_struct.ensures.1 in
    rw (p.1, p.2) (λ is again. next_refused (nodes_of c.args.context.nodes.now) c.args.context.strict (made_of c.args.self.now hs) (between c.args.entries.now) again _ here _ (struct_so (nodes_of c.args.context.nodes.now) c.args.context.strict c.args.self.now c.begin.new.self hs begun.0 c.in_ok-next.next (seen_entry c.in-Some.entry.now) (between c.args.entries.now) begun.2 c.begin.ensures.same c.in_ok-next.ensures.id c.in_ok-next.ensures.scopes ∙ c.in_err-add_struct.ensures.done begun.0 is))

pub returns-in-Some-clause-done : goal.returns-in-Some-clause-done
returns-in-Some-clause-done c = λ hs h.
    let count : c.len.result ≡ length c.args.self.now.made.nodes.items = search rules in
    let here : slice_get (numbered_entries c.args.entries.now).entries (length (made_of c.args.self.now hs).nodes) ≡ Some (seen_entry c.in-Some.entry.now) = next_node c.args.self.now hs c.len.result _ _ count (sym c.in-Some.ensures) in
    let begun = c.in_ok-next.ensures.done hs h in
    (begun.0, held_since c.begin.new.self.names c.add_struct.new.self.names begun.0 c.add_struct.ensures.names begun.1, λ again. next_made (nodes_of c.args.context.nodes.now) c.args.context.strict (made_of c.args.self.now hs) (between c.args.entries.now) again _ here _ _ (struct_so (nodes_of c.args.context.nodes.now) c.args.context.strict c.args.self.now c.begin.new.self hs begun.0 c.in_ok-next.next (seen_entry c.in-Some.entry.now) (between c.args.entries.now) begun.2 c.begin.ensures.same c.in_ok-next.ensures.id c.in_ok-next.ensures.scopes ∙ c.in_ok-add_struct.ensures.done begun.0))

pub returns-in_err-add_enum-clause-refused : goal.returns-in_err-add_enum-clause-refused
returns-in_err-add_enum-clause-refused c = λ hs h.
    let count : c.len.result ≡ length c.args.self.now.made.nodes.items = search rules in
    let none : slice_get (numbered_entries c.args.entries.now).entries (length (made_of c.args.self.now hs).nodes) ≡ None = next_node c.args.self.now hs c.len.result _ _ count (search rules) in
    let count_enums : c.len-2.result ≡ length c.args.self.now.made.enums.items = search rules in
    let here : slice_get (numbered_entries c.args.entries.now).enums (length (made_of c.args.self.now hs).enums) ≡ Some c.in-Some-enum_id.id = next_enum_id c.args.self.now hs c.len-2.result _ _ count_enums (search rules) in
    let p = err_from_is_err_and c.from_residual-in_err-add_enum.result c.from_residual-in_err-add_enum.ensures.1 in
    rw (p.1, p.2) (λ is again. next_enum_refused (nodes_of c.args.context.nodes.now) c.args.context.strict (made_of c.args.self.now hs) (between c.args.entries.now) again none _ here _ (c.in_err-add_enum.ensures.done hs is))

pub returns-in-Some-enum_id-clause-done : goal.returns-in-Some-enum_id-clause-done
returns-in-Some-enum_id-clause-done c = λ hs h.
    let count : c.len.result ≡ length c.args.self.now.made.nodes.items = search rules in
    let none : slice_get (numbered_entries c.args.entries.now).entries (length (made_of c.args.self.now hs).nodes) ≡ None = next_node c.args.self.now hs c.len.result _ _ count (search rules) in
    let count_enums : c.len-2.result ≡ length c.args.self.now.made.enums.items = search rules in
    let here : slice_get (numbered_entries c.args.entries.now).enums (length (made_of c.args.self.now hs).enums) ≡ Some c.in-Some-enum_id.id = next_enum_id c.args.self.now hs c.len-2.result _ _ count_enums (search rules) in
    (hs, held_since c.args.self.now.names c.add_enum.new.self.names hs c.add_enum.ensures.names h, λ again. next_enum (nodes_of c.args.context.nodes.now) c.args.context.strict (made_of c.args.self.now hs) (between c.args.entries.now) again none _ here _ _ (c.in_ok-add_enum.ensures.done hs))

pub returns-clause-done : goal.returns-clause-done
returns-clause-done c = λ hs h.
    let count : c.len.result ≡ length c.args.self.now.made.nodes.items = search rules in
    let none : slice_get (numbered_entries c.args.entries.now).entries (length (made_of c.args.self.now hs).nodes) ≡ None = next_node c.args.self.now hs c.len.result _ _ count (search rules) in
    let count_enums : c.len-2.result ≡ length c.args.self.now.made.enums.items = search rules in
    (hs, h, λ again. next_none (nodes_of c.args.context.nodes.now) c.args.context.strict (made_of c.args.self.now hs) (between c.args.entries.now) again none (next_enum_id c.args.self.now hs c.len-2.result _ _ count_enums (search rules)))

pub returns-in-Some-clause-structs : goal.returns-in-Some-clause-structs
returns-in-Some-clause-structs c = subst (λ (x : Converted). HasGrown x.nodes.items c.add_struct.new.self.made.nodes.items) c.begin.ensures.same c.in_ok-add_struct.ensures.structs

pub returns-in-Some-clause-enums : goal.returns-in-Some-clause-enums
returns-in-Some-clause-enums c = inl (ap (λ v. v.items) c.in_ok-add_struct.ensures.enums ∙ ap (λ (x : Converted). x.enums.items) c.begin.ensures.same)

pub returns-in-Some-enum_id-clause-structs : goal.returns-in-Some-enum_id-clause-structs
returns-in-Some-enum_id-clause-structs c = inl (ap (λ v. v.items) c.add_enum.ensures.structs)

pub returns-in-Some-enum_id-clause-enums : goal.returns-in-Some-enum_id-clause-enums
returns-in-Some-enum_id-clause-enums c = c.in_ok-add_enum.ensures.enums

pub returns-clause-structs : goal.returns-clause-structs
returns-clause-structs c = inl refl

pub returns-clause-enums : goal.returns-clause-enums
returns-clause-enums c = inl refl
