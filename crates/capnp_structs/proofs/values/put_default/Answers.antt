-- A default that is not told puts nothing; one that is puts its words and then the value.
use Rattle.std.proofs.Common.{◌∙◌, string_bytes, sym}
use Rattle.capnp_schema.specs.Entries.{lists_seen}
use Rattle.capnp_schema.specs.Schema.{seen_value}
use Rattle.capnp_schema.specs.Types.{seen_type}
use Rattle.capnp_structs.proofs.Appended.{on_ok}
use Rattle.capnp_structs.proofs.ValuesSaid.{told, told_stopped, untold}
use Rattle.capnp_structs.proofs.Stopped.{in_error}
use Rattle.capnp_structs.proofs.values.put_default.Goals as goal

pub returns-then-not-is_told-clause-put : goal.returns-then-not-is_told-clause-put
returns-then-not-is_told-clause-put c = untold c.args.floats (lists_seen c.args.schemas.now) (seen_type c.args.of) (seen_value c.args.default.now) (string_bytes c.args.out.now) (sym c.is_told.ensures ∙ c.if-not-is_told.true)

pub returns-clause-put : goal.returns-clause-put
returns-clause-put c =
    on_ok c.put_value.result
    (told c.args.floats (lists_seen c.args.schemas.now) (seen_type c.args.of) (seen_value c.args.default.now) (string_bytes c.args.out.now) (string_bytes c.push_str.new.self) (string_bytes c.put_value.new.out) (sym c.is_told.ensures ∙ c.if-not-is_told.false) c.in_ok-push_str.ensures.bytes)
    c.put_value.ensures.put

pub returns-clause-stopped : goal.returns-clause-stopped
returns-clause-stopped c =
    in_error c.put_value.result c.args.limit _ _ _ _ c.put_value.ensures.stopped
    (λ kind h. told_stopped c.args.limit c.args.floats (lists_seen c.args.schemas.now) (seen_type c.args.of) (seen_value c.args.default.now) (string_bytes c.args.out.now) (string_bytes c.push_str.new.self) kind
    (sym c.is_told.ensures ∙ c.if-not-is_told.false) c.in_ok-push_str.ensures.bytes h)
