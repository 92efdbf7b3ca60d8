-- The search from this ordinal on finds what the search from the first does.
-- Another name passes it on, this name ends it, and past the last none is found.
use Rattle.std.proofs.Common.{List, ap, arith, bytes_eq, length, subst, sym, ℕ, ◌∙◌}
use Rattle.capnp_schema.specs.Enumerants.{IsEnumerantOf}
use Rattle.capnp_schema.specs.Enums.{enum_in}
use Rattle.capnp_schema.specs.Schema.{Enumerant}
use Rattle.capnp_schema.specs.declared.schema.enums.EnumSchema.{EnumSchema}
use Rattle.capnp_json_fields.specs.Names.{enumerant_name}
use Rattle.capnp_json_fields.proofs.Found.{enumerant_found, enumerant_other, from_first, past_last}
use Rattle.capnp_json_fields.proofs.names.find_enumerant.Goals as goal

pub loop-ordinal-init : goal.loop-ordinal-init
loop-ordinal-init c = from_first (λ (x : Enumerant). bytes_eq (enumerant_name x) c.args.name.now) (enum_in c.args.schema).enumerants

pub loop-ordinal-preserved : goal.loop-ordinal-preserved
loop-ordinal-preserved c =
    enumerant_other c.args.schema c.args.name.now c.loop-ordinal.ordinal c.get.result (subst (λ (s : EnumSchema). IsEnumerantOf s c.loop-ordinal.ordinal c.get.result) c.in-Ok.ensures c.get.ensures) c.eq.result
    (c.eq.ensures ∙ ap (λ (name : List ℕ). bytes_eq name c.args.name.now) c.json_enumerant_name.ensures) c.if-eq.false c.loop-ordinal.invariant

pub returns-then-eq : goal.returns-then-eq
returns-then-eq c =
    enumerant_found c.args.schema c.args.name.now c.loop-ordinal.ordinal c.get.result (subst (λ (s : EnumSchema). IsEnumerantOf s c.loop-ordinal.ordinal c.get.result) c.in-Ok.ensures c.get.ensures) c.eq.result
    (c.eq.ensures ∙ ap (λ (name : List ℕ). bytes_eq name c.args.name.now) c.json_enumerant_name.ensures) c.if-eq.true c.loop-ordinal.invariant

pub returns : goal.returns
returns c =
    sym (c.loop-ordinal.invariant
    ∙ past_last (λ (x : Enumerant). bytes_eq (enumerant_name x) c.args.name.now) (enum_in c.args.schema).enumerants c.loop-ordinal.ordinal
    (omega (arith, c.loop-ordinal-test.false, c.len-ordinal-end.ensures, ap (λ (s : EnumSchema). length (enum_in s).enumerants) c.in-Ok.ensures)))
