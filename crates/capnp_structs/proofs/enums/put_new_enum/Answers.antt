-- An enum that was met puts nothing; one met for the first time puts its line.
use Rattle.std.proofs.Common.{rules, string_bytes}
use Rattle.std.specs.Bool.{nat_eq}
use Rattle.std.specs.HashSet.{contains}
use Rattle.capnp_schema.specs.Entries.{lists_seen}
use Rattle.capnp_structs.specs.Enums.{enum_line}
use Rattle.capnp_structs.proofs.Appended.{on_ok}
use Rattle.capnp_structs.proofs.EnumsPut.{first_met, met_before, unmet_stopped}
use Rattle.capnp_structs.proofs.Stopped.{in_error}
use Rattle.capnp_structs.proofs.enums.put_new_enum.Goals as goal

pub returns-then-not-branch-clause-put : goal.returns-then-not-branch-clause-put
returns-then-not-branch-clause-put c = met_before (contains nat_eq c.args.met.now c.args.number) (enum_line (lists_seen c.args.schemas.now) c.args.number) (string_bytes c.args.out.now) (search rules)

pub returns-clause-put : goal.returns-clause-put
returns-clause-put c =
    on_ok c.put_enum_line.result (first_met (contains nat_eq c.args.met.now c.args.number) (enum_line (lists_seen c.args.schemas.now) c.args.number) (string_bytes c.args.out.now) (string_bytes c.put_enum_line.new.out) (search rules)) c.put_enum_line.ensures.put

pub returns-clause-stopped : goal.returns-clause-stopped
returns-clause-stopped c =
    in_error c.put_enum_line.result c.args.limit _ _ _ _ c.put_enum_line.ensures.stopped
    (λ kind h. unmet_stopped c.args.limit (contains nat_eq c.args.met.now c.args.number) (enum_line (lists_seen c.args.schemas.now) c.args.number) _ (string_bytes c.args.out.now) kind (search rules) h)
