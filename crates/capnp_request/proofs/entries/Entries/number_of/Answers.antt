-- The binding is new, and its number counts the entries before it.
-- Nodes of the same id and bindings compare equal, so map and list agree on each binding.
use Rattle.std.proofs.Common.{◌≡◌, ◌∙◌, ap, rules, None, map, List, [], ◌∷◌, ◌++◌}
use Rattle.std.specs.HashMap.{get}
use Rattle.capnp_request.specs.Steps.Bindings.{bounds}
use Rattle.capnp_request.specs.Steps.EntriesSeen.{seen_entry}
use Rattle.capnp_request.specs.Work.{Entry, Whole}
use Rattle.capnp_request.specs.contracts.entries.BoundNodePartialEq.TheImpl as node_eq
use Rattle.capnp_request.specs.contracts.entries.BoundNodeEq.TheImpl.Laws.{laws-law}
use Rattle.capnp_request.proofs.BindingsCompared.{compared}
use Rattle.capnp_request.proofs.Numbering.{added_entry, few_more, map_more, number_added}
use Rattle.capnp_request.specs.Steps.Numbers.{AreNumbered}
use Rattle.capnp_request.proofs.entries.Entries.number_of.Goals as goal

pub returns-clause-numbers : goal.returns-clause-numbers
returns-clause-numbers c =
    let numbers : AreNumbered c.args.self.now = c.requires in
    let absent : get (node_eq.ghosts).eq c.args.self.now.by_binding c.args.bound ≡ None = search rules in
    let es : List Entry = map seen_entry c.args.self.now.structs.items in
    let new : Entry = record { node = c.args.bound.id; bound = bounds c.args.bound.scopes.items; place = Whole } in
    let more : map seen_entry c.push.new.self.items ≡ es ++ new ∷ [] = map_more seen_entry c.args.self.now.structs.items _ _ new c.in_ok-push.ensures.items (ap (λ b. record { node = c.args.bound.id; bound = b; place = Whole }) (c.in_ok-copied_scopes.ensures.read ∙ ap bounds c.as_slice-2.ensures.value)) in
    record {
      structs = λ q. number_added (node_eq.ghosts).eq laws-law c.args.self.now.by_binding c.insert.new.self c.args.bound _ absent c.in_ok-insert.ensures.updates q _ _ _
          (numbers.structs q) (added_entry q.id (bounds q.scopes.items) es new _ _ more c.in_ok-number.ensures.number) (compared c.args.bound q);
      enums = numbers.enums;
      few = few_more seen_entry c.args.self.now.structs.items _ _ _ c.in_ok-push.ensures.items c.in_ok-number.ensures.number c.in_ok-number.ensures.bound;
    }
