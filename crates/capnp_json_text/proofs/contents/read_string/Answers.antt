-- What is out so far and the content of the rest make the whole content.
-- A character goes on, the quote ends it, a fault ends it; the rest gets shorter.
use Rattle.std.proofs.Common.{sym, subst}
use Rattle.std.specs.Str.{IsUtf8}
use Rattle.capnp_json_text.specs.Contents.{string_content}
use Rattle.capnp_json_text.proofs.ContentSteps.{content_ends, content_fails, content_goes_on}
use Rattle.capnp_json_text.proofs.ContentUtf8.{content_utf8}
use Rattle.capnp_json_text.proofs.ShorterTokens.{character_shorter}
use Rattle.capnp_json_text.proofs.contents.read_string.Goals as goal

pub returns-in_default-clause-content : goal.returns-in_default-clause-content
returns-in_default-clause-content c =
    content_fails c.characters.out.items c.characters.rest.now c.in_default.field-0.now (string_content c.args.bytes.now) c.in_default.ensures c.characters.invariant

pub returns-in_default-clause-utf8 : goal.returns-in_default-clause-utf8
returns-in_default-clause-utf8 c u rest e = subst IsUtf8 (sym (returns-in_default-clause-content c)) (content_utf8 c.args.bytes.now rest u e)

pub returns-then-not-more-clause-content : goal.returns-then-not-more-clause-content
returns-then-not-more-clause-content c =
    content_ends c.in-Ok.more c.characters.out.items c.characters.rest.now c.in-Ok.behind.now (string_content c.args.bytes.now) c.if-not-more.true c.in-Ok.ensures c.characters.invariant

pub returns-then-not-more-clause-utf8 : goal.returns-then-not-more-clause-utf8
returns-then-not-more-clause-utf8 c u rest e = subst IsUtf8 (sym (returns-then-not-more-clause-content c)) (content_utf8 c.args.bytes.now rest u e)

pub characters-smaller : goal.characters-smaller
characters-smaller c = character_shorter c.in-Ok.more c.in-Ok.behind.now c.characters.rest.now c.in-Ok.ensures

pub characters-preserved : goal.characters-preserved
characters-preserved c =
    content_goes_on c.in-Ok.more c.characters.out.items c.append_content.new.out.items c.characters.rest.now c.in-Ok.behind.now (string_content c.args.bytes.now) c.if-not-more.false c.in-Ok.ensures
    c.in_ok-append_content.ensures.appended c.characters.invariant
