-- The innermost type decides: `UInt32` and `UInt64` are bases of floats, whatever the lists around them, and no other type is.
use Rattle.std.proofs.Common.{sym, ◌∙◌}
use Rattle.capnp_base.specs.Types.{base_of, list_depth}
use Rattle.capnp_json_fields.proofs.Bases.{narrow_base, neither_base, wide_base}
use Rattle.riftcalico_core.proofs.json_values.has_float_base.Goals as goal

pub returns-in-UInt32 : goal.returns-in-UInt32
returns-in-UInt32 c = narrow_base (list_depth c.args.of) (base_of c.args.of) (sym c.innermost.ensures ∙ c.in-UInt32.is)

pub returns-in-UInt64 : goal.returns-in-UInt64
returns-in-UInt64 c = wide_base (list_depth c.args.of) (base_of c.args.of) (sym c.innermost.ensures ∙ c.in-UInt64.is)

pub returns-in_default : goal.returns-in_default
returns-in_default c = neither_base (list_depth c.args.of) (base_of c.args.of) (λ h. c.in_default.not-UInt32 (c.innermost.ensures ∙ h)) (λ h. c.in_default.not-UInt64 (c.innermost.ensures ∙ h))
