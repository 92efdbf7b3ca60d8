-- The line feed that was read ends the line.
use Rattle.std.proofs.Common.{ℕ, List, [], ◌∷◌, ◌++◌, ◌≡◌, arith, inl, refl, rules, subst, take}
use Rattle.std.proofs.lemmas.List.{length-append}
use Rattle.std.specs.Io.KnownBytes.{Consumes}
use Rattle.capnp_device.proofs.Known.{consumes_both}
use Rattle.capnp_streams.proofs.texts.read_line.Goals as goal

pub returns-then-byte-eq10-clause-line : goal.returns-then-byte-eq10-clause-line
returns-then-byte-eq10-clause-line g c =
    let l = length-append c.bytes.line.items (10 ∷ []) in
    let one : take c.in-Ok.count c.read_some.new.buffer ≡ 10 ∷ [] = search rules in
    λ e. record {
      read = c.bytes.line.items ++ 10 ∷ [];
      some = omega (arith, l);
      consumed = consumes_both _ _ _ _ _ c.bytes.invariant.taken (subst (λ (xs : List ℕ). Consumes (g.S.Source.left c.bytes.source) (g.S.Source.left c.read_some.new.self) xs) one c.in-Ok.ensures.bytes.0);
      plain = c.bytes.invariant.plain;
      ended = inl refl;
    }
