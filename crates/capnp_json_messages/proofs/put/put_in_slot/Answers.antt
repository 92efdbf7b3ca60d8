use Rattle.std.proofs.Common.{ap, sym, ◌∙◌}
use Rattle.std.specs.Option.{option_map}
use Rattle.capnp_arena.specs.Built.{built_at}
use Rattle.capnp_slots.specs.Sources.{source_seen}
use Rattle.capnp_json_messages.proofs.LeafContents.{leaf_puts, null_puts}
use Rattle.capnp_json_messages.proofs.put.put_in_slot.Goals as goal

-- A null clears the slot; any other value is what the source's call leaves there.
pub returns-in_default-clause-puts : goal.returns-in_default-clause-puts
returns-in_default-clause-puts c =
    null_puts c.args.field (built_at c.args.arena.now c.args.place) (built_at c.clear.new.arena c.args.place) c.field_stands.ensures c.requires.slot c.requires.room c.args.leaf.now c.requires.typed
    (sym c.source_of.ensures ∙ ap (option_map source_seen) c.in_default.is) c.clear.ensures.cleared

pub returns-in-Ok-clause-puts : goal.returns-in-Ok-clause-puts
returns-in-Ok-clause-puts c =
    leaf_puts c.args.field (built_at c.args.arena.now c.args.place) (built_at c.set.new.arena c.args.place) c.field_stands.ensures c.requires.slot c.requires.room c.args.leaf.now c.requires.typed
    (source_seen c.in-Some.source) (sym c.source_of.ensures ∙ ap (option_map source_seen) c.in-Some.is) c.source_fits.ensures c.in-Ok.ensures.set.written
