-- The maps of the entries and enums that were named say the number of each, and there are at most 65,536 entries.
use Rattle.std.specs.Prelude.{ℕ, ◌≤◌, ◌≡◌, length, map, nat_eq}
use Rattle.std.specs.HashMap.{get}
use Rattle.capnp_request.specs.Steps.Bindings.{bounds}
use Rattle.capnp_request.specs.Steps.EntriesSeen.{seen_entry}
use Rattle.capnp_request.specs.Types.{entry_number, enum_position}
use Rattle.capnp_request.specs.Steps.Work.{Numbered}
use Rattle.capnp_request.specs.contracts.entries.BoundNodePartialEq.TheImpl as node_eq
use Rattle.capnp_request.specs.declared.entries.BoundNode.{BoundNode}
use Rattle.capnp_request.specs.declared.entries.Entries.{Entries}

abbrev pub numbered_entries : Entries → Numbered
numbered_entries e = record { entries = map seen_entry e.structs.items; enums = e.enums.items }

pub record AreNumbered (e : Entries) : Type 0 where
  pub structs : (b : BoundNode) → get (node_eq.ghosts).eq e.by_binding b ≡ entry_number b.id (bounds b.scopes.items) (map seen_entry e.structs.items) 0
  pub enums : (id : ℕ) → get nat_eq e.by_id id ≡ enum_position e.enums.items id 0
  pub few : length e.structs.items ≤ 65536
