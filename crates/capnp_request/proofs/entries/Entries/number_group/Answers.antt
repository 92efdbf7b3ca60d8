-- A group stands behind the entries, but no search by bindings finds it, so the map agrees with the list as before.
use Rattle.std.proofs.Common.{◌≡◌, ◌∙◌, refl, sym, map, List, [], ◌∷◌, ◌++◌}
use Rattle.capnp_request.specs.Steps.Bindings.{bounds}
use Rattle.capnp_request.specs.Steps.EntriesSeen.{group_entry, seen_entry}
use Rattle.capnp_request.specs.Work.{Entry}
use Rattle.capnp_request.proofs.Numbering.{added_group, few_more, map_more}
use Rattle.capnp_request.specs.Steps.Numbers.{AreNumbered}
use Rattle.capnp_request.proofs.entries.Entries.number_group.Goals as goal

pub returns-clause-numbers : goal.returns-clause-numbers
returns-clause-numbers c =
    let numbers : AreNumbered c.args.self.now = c.requires in
    let es : List Entry = map seen_entry c.args.self.now.structs.items in
    let new : Entry = group_entry c.args.id (bounds c.args.scopes.items) c.args.place in
    let more : map seen_entry c.push.new.self.items ≡ es ++ new ∷ [] = map_more seen_entry c.args.self.now.structs.items _ _ new c.in_ok-push.ensures.items (refl) in
    record {
      structs = λ q. numbers.structs q ∙ sym (added_group q.id (bounds q.scopes.items) es _ _ _ _ _ more);
      enums = numbers.enums;
      few = few_more seen_entry c.args.self.now.structs.items _ _ _ c.in_ok-push.ensures.items c.in_ok-number.ensures.number c.in_ok-number.ensures.bound;
    }
