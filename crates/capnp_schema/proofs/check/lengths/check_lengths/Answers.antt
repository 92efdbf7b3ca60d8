use Rattle.capnp_schema.proofs.check.lengths.check_lengths.Goals as goal

pub returns : goal.returns
returns c = record { brands = c.in_ok-check_brands.ensures; enums = c.in_ok-check_enums.ensures }
