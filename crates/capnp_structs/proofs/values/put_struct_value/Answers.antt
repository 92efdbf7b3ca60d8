-- The words of a struct value, read as a message, are a struct view, so what is put of the view is the stored text.
use Rattle.std.proofs.Common.{string_bytes}
use Rattle.capnp_schema.specs.Entries.{lists_seen}
use Rattle.capnp_schema.specs.Types.{seen_type}
use Rattle.capnp_structs.proofs.Appended.{on_ok}
use Rattle.capnp_structs.proofs.ValuesSaid.{struct_put, struct_stopped}
use Rattle.capnp_structs.proofs.Stopped.{in_error}
use Rattle.capnp_structs.proofs.values.put_struct_value.Goals as goal

pub returns-clause-put : goal.returns-clause-put
returns-clause-put c =
    on_ok c.put_read.result
    (struct_put c.args.numbers (lists_seen c.args.schemas.now) (seen_type c.args.of) c.args.words.now c.from_words.result (string_bytes c.args.out.now) (string_bytes c.put_read.new.out) c.from_words.ensures.tree c.from_words.ensures.levels)
    c.put_read.ensures.put

pub returns-clause-stopped : goal.returns-clause-stopped
returns-clause-stopped c =
    in_error c.put_read.result c.args.limit _ _ _ _ c.put_read.ensures.stopped
    (λ kind h. struct_stopped c.args.limit c.args.numbers (lists_seen c.args.schemas.now) (seen_type c.args.of) c.args.words.now c.from_words.result (string_bytes c.args.out.now) kind c.from_words.ensures.tree c.from_words.ensures.levels h)
