-- The enumerant's name, or else its number, is the text that the enum gives for it.
use Rattle.std.proofs.Common.{ℕ, List, ◌++◌, ◌∙◌, ap, string_bytes, sym}
use Rattle.capnp_schema.specs.Entries.{lists_seen}
use Rattle.capnp_schema.specs.Types.{seen_type}
use Rattle.capnp_records.specs.Text.{enum_text}
use Rattle.capnp_dynamic_readers.specs.Facts.Appended.{bytes_put}
use Rattle.capnp_structs.proofs.enums.put_enumerant.Goals as goal

pub returns-in_ok-push_str-in-Some-clause-put : goal.returns-in_ok-push_str-in-Some-clause-put
returns-in_ok-push_str-in-Some-clause-put c =
    bytes_put (enum_text (lists_seen c.args.schemas.now) (seen_type c.args.of) c.args.number) (string_bytes c.args.out.now) (string_bytes c.push_str.new.self)
    (c.in_ok-push_str-in-Some.ensures.bytes ∙ ap (λ (xs : List ℕ). string_bytes c.args.out.now ++ xs) (sym c.in-Some.ensures))

pub returns-in_ok-write-in-None-clause-put : goal.returns-in_ok-write-in-None-clause-put
returns-in_ok-write-in-None-clause-put c =
    bytes_put (enum_text (lists_seen c.args.schemas.now) (seen_type c.args.of) c.args.number) (string_bytes c.args.out.now) (string_bytes c.write.new.self)
    (c.in_ok-write-in-None.ensures.bytes ∙ ap (λ (xs : List ℕ). string_bytes c.args.out.now ++ xs) (sym c.in-None.ensures))
