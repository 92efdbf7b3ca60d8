-- The id is new and its number counts the enums before it.
-- So list and map grow by the same enum, and any other id is found as before.
use Rattle.std.proofs.Common.{◌≡◌, arith, rules, None, nat_eq, length}
use Rattle.std.specs.Cmp.{nat_eq_equiv}
use Rattle.std.specs.HashMap.{get}
use Rattle.capnp_request.proofs.Numbering.{added_enum, number_added}
use Rattle.capnp_request.specs.Steps.Numbers.{AreNumbered}
use Rattle.capnp_request.proofs.entries.Entries.number_enum.Goals as goal

pub returns-clause-numbers : goal.returns-clause-numbers
returns-clause-numbers c =
    let numbers : AreNumbered c.args.self.now = c.requires.numbers in
    let absent : get nat_eq c.args.self.now.by_id c.args.id ≡ None = search rules in
    let count : c.len-number.result ≡ length c.args.self.now.enums.items = first_of (search rules, omega (arith, c.len-number.ensures, c.args.self.now.enums.ok.0)) in
    record {
      structs = numbers.structs;
      few = numbers.few;
      enums = λ q. number_added nat_eq nat_eq_equiv c.args.self.now.by_id c.insert.new.self c.args.id _ absent c.in_ok-insert.ensures.updates q _ _ _
          (numbers.enums q) (added_enum q c.args.self.now.enums.items c.args.id _ _ c.in_ok-push.ensures.items count) (search rules);
    }
