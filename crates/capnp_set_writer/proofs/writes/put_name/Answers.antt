use Rattle.std.proofs.lemmas.Str.{is_utf8-from_IsUtf8}
use Rattle.capnp_set_writer.proofs.writes.put_name.Goals as goal

pub returns-clause-name : goal.returns-clause-name
returns-clause-name c = record { utf8 = is_utf8-from_IsUtf8 _ c.utf8.name; bytes = rw c.as_bytes.ensures.value at c.put_text.ensures.bytes }
