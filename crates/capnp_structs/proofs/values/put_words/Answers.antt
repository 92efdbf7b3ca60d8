use Rattle.std.proofs.Common.{string_bytes}
use Rattle.capnp_dynamic_readers.specs.Facts.Appended.{bytes_put}
use Rattle.capnp_structs.specs.Values.{words_text}
use Rattle.capnp_structs.proofs.values.put_words.Goals as goal

pub returns-clause-put : goal.returns-clause-put
returns-clause-put c = bytes_put (words_text c.args.words.now) (string_bytes c.args.out.now) (string_bytes c.write.new.self) c.in_ok-write.ensures.bytes
