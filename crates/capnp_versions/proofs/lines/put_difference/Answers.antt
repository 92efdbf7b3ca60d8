-- What differs, and both sides.
use Rattle.std.proofs.Common.{[], ◌∷◌, codes, string_bytes}
use Rattle.capnp_schema.specs.Entries.{lists_seen}
use Rattle.capnp_versions.specs.Lines.{behind_word, difference_words, side_of}
use Rattle.capnp_versions.proofs.LinesPut.{line_put, side_here}
use Rattle.capnp_versions.proofs.lines.put_difference.Goals as goal

pub returns-clause-put : goal.returns-clause-put
returns-clause-put c =
    let set = lists_seen c.args.schemas.now in
    let d = c.args.difference in
    line_put (difference_words set d) (10 ∷ []) (behind_word (codes ": was ") (side_of set d.pair.older d.field)) (behind_word (codes "; is ") (side_of set d.pair.newer d.field)) (string_bytes c.args.text.now) (string_bytes c.put_words.new.text)
    (string_bytes c.put_side.new.text) (string_bytes c.put_side-2.new.text) (string_bytes c.push_str.new.self) c.in_ok-put_words.ensures.put
    (side_here (codes ": was ") _ set _ d.pair.older d.field _ _ c.struct_schema-older.ensures.set c.struct_schema-older.ensures.number c.in_ok-put_side.ensures.put)
    (side_here (codes "; is ") _ set _ d.pair.newer d.field _ _ c.struct_schema-newer.ensures.set c.struct_schema-newer.ensures.number c.in_ok-put_side-2.ensures.put) c.in_ok-push_str.ensures.bytes
