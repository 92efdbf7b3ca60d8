-- A number, the names of new enums, the entry's name and its node come in this order.
-- Each refusal is the beginning's, and the holders after the name are handed on.
use Rattle.std.proofs.Common.{◌≡◌, ap, length, rules}
use Rattle.std.proofs.lemmas.Result.{err_from_is_err_and}
use Rattle.capnp_request.specs.Steps.Seen.{record_seen}
use Rattle.capnp_request.specs.Steps.EntriesSeen.{seen_entry, seen_place}
use Rattle.capnp_request.specs.Steps.NamesMade.{AreHolders, texts}
use Rattle.capnp_request.specs.Steps.Nodes.{nodes_of}
use Rattle.capnp_request.specs.Steps.Numbers.{numbered_entries}
use Rattle.capnp_request.specs.Steps.ProgressSeen.{made_of}
use Rattle.capnp_request.specs.Reading.{node_said}
use Rattle.capnp_request.proofs.OrderMade.{begin_done, begin_missing, begin_unnamed, begin_unnamed_enum, too_many}
use Rattle.capnp_request.proofs.ProgressMade.{few_nodes, held_since, many_nodes, named_since}
use Rattle.capnp_request.proofs.conversion.Progress.begin.Goals as goal

pub returns-in_err-number-clause-refused : goal.returns-in_err-number-clause-refused
returns-in_err-number-clause-refused c = λ hs h.
    let count : c.len.result ≡ length c.args.self.now.made.nodes.items = search rules in
    let p = err_from_is_err_and c.from_residual.result c.from_residual.ensures.1 in
    rw (p.1, p.2) (λ is. too_many (nodes_of c.args.context.nodes.now) (made_of c.args.self.now hs) (seen_entry c.args.entry.now) (numbered_entries c.args.entries.now).enums _ (many_nodes c.args.self.now hs _ count c.in_err-number.ensures.many) c.in_err-number.ensures.kind)

pub returns-in_err-name_enums-clause-refused : goal.returns-in_err-name_enums-clause-refused
returns-in_err-name_enums-clause-refused c = λ hs h.
    let count : c.len.result ≡ length c.args.self.now.made.nodes.items = search rules in
    let p = err_from_is_err_and c.from_residual-in_err-name_enums.result c.from_residual-in_err-name_enums.ensures.1 in
    rw (p.1, p.2) (λ is. begin_unnamed_enum (nodes_of c.args.context.nodes.now) (made_of c.args.self.now hs) (seen_entry c.args.entry.now) (numbered_entries c.args.entries.now).enums (few_nodes c.args.self.now hs _ count c.in_ok-number.ensures.few) _ (c.in_err-name_enums.ensures.said is))

pub returns-in_err-name-clause-refused : goal.returns-in_err-name-clause-refused
returns-in_err-name-clause-refused c = λ hs h.
    let held : AreHolders c.name_enums.new.self.names hs = held_since c.args.self.now.names c.name_enums.new.self.names hs c.name_enums.ensures.names h in
    let count : c.len.result ≡ length c.args.self.now.made.nodes.items = search rules in
    let p = err_from_is_err_and c.from_residual-in_err-name.result c.from_residual-in_err-name.ensures.1 in
    rw (p.1, p.2) (λ is. begin_unnamed (nodes_of c.args.context.nodes.now) (made_of c.args.self.now hs) (seen_entry c.args.entry.now) (numbered_entries c.args.entries.now).enums (few_nodes c.args.self.now hs _ count c.in_ok-number.ensures.few) _ c.in_ok-name_enums.ensures.said _ (named_since (nodes_of c.args.context.nodes.now) c.as_slice-structs.result.now c.as_slice-enums.result.now c.args.self.now c.name_enums.new.self hs (seen_entry c.args.entry.now) (seen_place c.args.entry.now.group) _ c.as_slice-structs.ensures.value (ap texts c.as_slice-enums.ensures.value) c.name_enums.ensures.same (c.in_err-name.ensures.refused hs held is)))

pub returns-in_err-node-clause-refused : goal.returns-in_err-node-clause-refused
returns-in_err-node-clause-refused c = λ hs h.
    let held : AreHolders c.name_enums.new.self.names hs = held_since c.args.self.now.names c.name_enums.new.self.names hs c.name_enums.ensures.names h in
    let count : c.len.result ≡ length c.args.self.now.made.nodes.items = search rules in
    let named = c.in_ok-name.ensures.done hs held in
    let p = err_from_is_err_and c.from_residual-in_err-node.result c.from_residual-in_err-node.ensures.1 in
    rw (p.1, p.2) (λ is. begin_missing (nodes_of c.args.context.nodes.now) (made_of c.args.self.now hs) (seen_entry c.args.entry.now) (numbered_entries c.args.entries.now).enums (few_nodes c.args.self.now hs _ count c.in_ok-number.ensures.few) _ c.in_ok-name_enums.ensures.said _ named.0 (named_since (nodes_of c.args.context.nodes.now) c.as_slice-structs.result.now c.as_slice-enums.result.now c.args.self.now c.name_enums.new.self hs (seen_entry c.args.entry.now) (seen_place c.args.entry.now.group) _ c.as_slice-structs.ensures.value (ap texts c.as_slice-enums.ensures.value) c.name_enums.ensures.same named.2) _ c.in_err-node.ensures.missing c.in_err-node.ensures.kinds)

pub returns-clause-done : goal.returns-clause-done
returns-clause-done c = λ hs h.
    let held : AreHolders c.name_enums.new.self.names hs = held_since c.args.self.now.names c.name_enums.new.self.names hs c.name_enums.ensures.names h in
    let count : c.len.result ≡ length c.args.self.now.made.nodes.items = search rules in
    let named = c.in_ok-name.ensures.done hs held in
    (named.0, named.1, begin_done (nodes_of c.args.context.nodes.now) (made_of c.args.self.now hs) (seen_entry c.args.entry.now) (numbered_entries c.args.entries.now).enums (few_nodes c.args.self.now hs _ count c.in_ok-number.ensures.few) _ c.in_ok-name_enums.ensures.said _ named.0 (named_since (nodes_of c.args.context.nodes.now) c.as_slice-structs.result.now c.as_slice-enums.result.now c.args.self.now c.name_enums.new.self hs (seen_entry c.args.entry.now) (seen_place c.args.entry.now.group) _ c.as_slice-structs.ensures.value (ap texts c.as_slice-enums.ensures.value) c.name_enums.ensures.same named.2) (node_said (record_seen c.in_ok-node.node)) c.in_ok-node.ensures.read)
