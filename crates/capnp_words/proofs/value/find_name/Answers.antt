-- The answer among the names left, with the most bytes shared so far, is that among all.
-- A name that is the word ends it; another is passed.
use Rattle.std.proofs.Common.{◌∙◌, sym, rules}
use Rattle.capnp_schema.specs.Enumerants.{enum_of_list}
use Rattle.capnp_schema.specs.Enums.{enum_number, enum_set}
use Rattle.capnp_words.proofs.EnumerantNames.{name_here, name_past}
use Rattle.capnp_words.proofs.value.find_name.Goals as goal

pub returns-then-is_word : goal.returns-then-is_word
returns-then-is_word c =
    let e = enum_of_list c.args.enumerants in
    sym (name_here (enum_set e) (enum_number e) c.loop-ordinal.ordinal c.loop-ordinal.longest c.args.word.now (search rules) (search rules)) ∙ c.loop-ordinal.invariant

pub loop-ordinal-preserved : goal.loop-ordinal-preserved
loop-ordinal-preserved c =
    let e = enum_of_list c.args.enumerants in
    let past = name_past (enum_set e) (enum_number e) c.loop-ordinal.ordinal c.loop-ordinal.longest c.args.word.now (search rules) (search rules) in
    search (rules, past)
