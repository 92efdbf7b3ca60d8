-- The innermost type decides: an enum adds its number, and any other type names none.
use Rattle.std.proofs.Common.{List, ℕ, [], ◌∷◌, ◌++◌, ◌≡◌, ◌∙◌, append-nil, ap, rules, sym}
use Rattle.capnp_structs.proofs.TypesOfEnums.{enum_named, none_named}
use Rattle.capnp_structs.proofs.enums.add_enum.Goals as goal

pub returns-in_ok-push-clause-added : goal.returns-in_ok-push-clause-added
returns-in_ok-push-clause-added c =
    let put : c.push.new.self.items ≡ c.args.enums.now.items ++ (c.in-Enum.raw.number ∷ []) = search rules in
    put ∙ ap (λ (es : List ℕ). c.args.enums.now.items ++ es) (sym (enum_named c.args.of c.innermost.result c.in-Enum.raw c.innermost.ensures c.in-Enum.is))

pub returns-in_default-clause-added : goal.returns-in_default-clause-added
returns-in_default-clause-added c =
    sym (ap (λ (es : List ℕ). c.args.enums.now.items ++ es) (none_named c.args.of c.innermost.result c.innermost.ensures c.in_default.not-Enum) ∙ append-nil c.args.enums.now.items)
