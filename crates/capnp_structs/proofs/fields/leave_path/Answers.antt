-- The name that is cut off begins with a character.
use Rattle.std.proofs.Common.{rules, ◌∙◌, List, ℕ, codes, ◌++◌, ap, sym, string_bytes}
use Rattle.capnp_schema.specs.Schema.{Field}
use Rattle.capnp_structs.proofs.PathsCut.{may_cut}
use Rattle.capnp_structs.proofs.fields.leave_path.Goals as goal

pub truncate-requires : goal.truncate-requires
truncate-requires c = λ within.
    may_cut c.requires.0 c.as_str-name.result.now (string_bytes c.args.path.now)
    (c.requires.1 ∙ (ap (λ (f : Field). c.requires.0 ++ f.name ++ codes ".") (sym c.get_proto.ensures) ∙ ap (λ (n : List ℕ). c.requires.0 ++ n ++ codes ".") (sym c.as_str-name.ensures.value)))
    c.len.result (search rules) c.as_str-name.utf8
