-- One more name.
use Rattle.std.proofs.Common.{ℕ, List, ◌+◌, drop, ◌<◌, ◌≤◌, ap, arith, length, string_bytes, subst}
use Rattle.capnp_schema.specs.Schema.{Schemas, Enumerant as Named}
use Rattle.capnp_structs.specs.Enums.{names_text}
use Rattle.capnp_schema.specs.Enums.{enum_in, enum_number, enum_set}
use Rattle.capnp_schema.specs.Enumerants.{enum_of_list}
use Rattle.capnp_schema.specs.declared.schema.enums.EnumSchema.{EnumSchema}
use Rattle.capnp_structs.proofs.EnumsPut.{first_name, name_refused, next_name, no_name_left}
use Rattle.capnp_structs.proofs.Stopped.{handed_on, stopped_left, stopped_loop}
use Rattle.capnp_structs.proofs.TextsThere.{names_there}
use Rattle.capnp_structs.proofs.enums.put_names.Goals as goal

pub loop-ordinal-init : goal.loop-ordinal-init
loop-ordinal-init c = λ new put. put

pub loop-ordinal-preserved : goal.loop-ordinal-preserved
loop-ordinal-preserved c =
    let same = c.in_ok-enumerants.ensures in
    next_name (enum_set c.args.schema) (enum_number c.args.schema) (enum_of_list c.in_ok-enumerants.enumerants) c.get.result (enum_in c.args.schema).enumerants c.loop-ordinal.ordinal (string_bytes c.args.out.now) _ (string_bytes c.loop-ordinal.out) _
    (subst (λ (s : EnumSchema). c.loop-ordinal.ordinal < length (enum_in s).enumerants) same (omega (arith, c.loop-ordinal-test.true, c.len-ordinal-end.ensures))) (ap enum_set same) (ap enum_number same) c.get.ensures
    c.loop-ordinal.invariant c.in_ok-put_name.ensures.put

pub returns-clause-put : goal.returns-clause-put
returns-clause-put c =
    no_name_left (enum_set c.args.schema) (enum_number c.args.schema) (enum_in c.args.schema).enumerants c.loop-ordinal.ordinal (string_bytes c.args.out.now) _ (string_bytes c.loop-ordinal.out)
    (subst (λ (s : EnumSchema). length (enum_in s).enumerants ≤ c.loop-ordinal.ordinal) c.in_ok-enumerants.ensures (omega (arith, c.loop-ordinal-test.false, c.len-ordinal-end.ensures))) c.loop-ordinal.invariant

pub returns-in_err-put_name-clause-stopped : goal.returns-in_err-put_name-clause-stopped
returns-in_err-put_name-clause-stopped c =
    let same = c.in_ok-enumerants.ensures in
    let set : Schemas = enum_set c.args.schema in
    let e : ℕ = enum_number c.args.schema in
    let xs : List Named = (enum_in c.args.schema).enumerants in
    let i : ℕ = c.loop-ordinal.ordinal in
    let start : List ℕ = string_bytes c.args.out.now in
    let text : List ℕ = string_bytes c.loop-ordinal.out in
    handed_on c.from_residual-in_err-put_name.result _ c.args.limit start _ c.from_residual-in_err-put_name.ensures.1
    (stopped_left c.args.limit start _ _ (names_text set e (i + 1) (drop (i + 1) xs)) text _
    (first_name set e (enum_of_list c.in_ok-enumerants.enumerants) c.get.result xs i start _ text
    (subst (λ (s : EnumSchema). i < length (enum_in s).enumerants) same (omega (arith, c.loop-ordinal-test.true, c.len-ordinal-end.ensures))) (ap enum_set same) (ap enum_number same) c.get.ensures c.loop-ordinal.invariant)
    (names_there set e (i + 1) (drop (i + 1) xs)) (name_refused set e (enum_of_list c.in_ok-enumerants.enumerants) c.get.result i (ap enum_set same) (ap enum_number same) c.get.ensures) c.in_err-put_name.ensures.stopped)

pub returns-in_err-check_length-clause-stopped : goal.returns-in_err-check_length-clause-stopped
returns-in_err-check_length-clause-stopped c =
    let same = c.in_ok-enumerants.ensures in
    let set : Schemas = enum_set c.args.schema in
    let e : ℕ = enum_number c.args.schema in
    let xs : List Named = (enum_in c.args.schema).enumerants in
    let i : ℕ = c.loop-ordinal.ordinal in
    let start : List ℕ = string_bytes c.args.out.now in
    let text : List ℕ = string_bytes c.loop-ordinal.out in
    handed_on c.from_residual-in_err-check_length.result _ c.args.limit start _ c.from_residual-in_err-check_length.ensures.1
    (stopped_loop c.args.limit start _ (names_text set e (i + 1) (drop (i + 1) xs)) (string_bytes c.put_name.new.out) _
    (next_name set e (enum_of_list c.in_ok-enumerants.enumerants) c.get.result xs i start _ text _
    (subst (λ (s : EnumSchema). i < length (enum_in s).enumerants) same (omega (arith, c.loop-ordinal-test.true, c.len-ordinal-end.ensures))) (ap enum_set same) (ap enum_number same) c.get.ensures c.loop-ordinal.invariant
    c.in_ok-put_name.ensures.put)
    (names_there set e (i + 1) (drop (i + 1) xs)) c.in_err-check_length.ensures.too_long)
