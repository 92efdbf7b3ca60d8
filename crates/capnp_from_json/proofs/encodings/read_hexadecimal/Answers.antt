use Rattle.std.proofs.Common.{◌≡◌, [], ◌∷◌, ◌++◌, refl, sym, ◌∙◌, arith, rules}
use Rattle.std.proofs.lemmas.Grind.{common_steps}
use Rattle.capnp_from_json.proofs.Encoded.{next_pair}
use Rattle.capnp_from_json.proofs.encodings.read_hexadecimal.Goals as goal

pub pairs-preserved : goal.pairs-preserved
pairs-preserved c =
    next_pair c.pairs.rest.now c.pairs.out.items c.push.new.self.items _ c.in-Some.byte _ (omega (arith, c.in-len2-up.len_at_least)) refl c.pairs.invariant
    (sym c.byte_of.ensures ∙ c.in-Some.is)
    (let p : c.pairs.out.items ++ c.in-Some.byte ∷ [] ≡ c.push.new.self.items = first_of (search rules, grind (arith, common_steps)) in p)
