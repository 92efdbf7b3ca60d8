-- Entries of the code, as the definition sees them.
use Rattle.std.specs.Prelude.{ℕ, List, Option, Some, None}
use Rattle.capnp_request.specs.Steps.Bindings.{bounds}
use Rattle.capnp_request.specs.Work.{Bound, Entry, GroupOf, Place, Whole}
use Rattle.capnp_request.specs.declared.entries.Entry.{Entry as EntryRecord}
use Rattle.capnp_request.specs.declared.entries.GroupPlace.{GroupPlace}

abbrev pub seen_place : Option GroupPlace → Place
seen_place None = Whole
seen_place (Some p) = GroupOf p.parent p.field

abbrev pub seen_entry : EntryRecord → Entry
seen_entry e = record { node = e.id; bound = bounds e.scopes.items; place = seen_place e.group }

-- the group that a field names, with the bindings of its parent
abbrev pub group_entry : ℕ → List Bound → GroupPlace → Entry
group_entry id bound place = record { node = id; bound = bound; place = GroupOf place.parent place.field }
