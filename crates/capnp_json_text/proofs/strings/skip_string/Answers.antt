-- Behind the string in the rest stands what is behind it in all bytes.
-- A fault or the quote answers this; each other character makes the rest shorter.
use Rattle.capnp_json_text.proofs.Nesting.{string_ends, string_fails, string_goes_on}
use Rattle.capnp_json_text.proofs.ShorterTokens.{character_shorter}
use Rattle.capnp_json_text.proofs.strings.skip_string.Goals as goal

pub returns-in-Err : goal.returns-in-Err
returns-in-Err c = string_fails c.characters.rest.now c.in-Err.fault.now c.args.bytes.now c.in-Err.ensures c.characters.invariant

pub returns-then-not-more : goal.returns-then-not-more
returns-then-not-more c = string_ends c.in-Ok.read.0 c.characters.rest.now c.in-Ok.read.1.now c.args.bytes.now c.if-not-more.true c.in-Ok.ensures c.characters.invariant

pub characters-smaller : goal.characters-smaller
characters-smaller c = character_shorter c.in-Ok.read.0 c.in-Ok.read.1.now c.characters.rest.now c.in-Ok.ensures

pub characters-preserved : goal.characters-preserved
characters-preserved c = string_goes_on c.in-Ok.read.0 c.characters.rest.now c.in-Ok.read.1.now c.args.bytes.now c.if-not-more.false c.in-Ok.ensures c.characters.invariant
