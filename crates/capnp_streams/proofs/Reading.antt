-- Bytes that are read one after another.
use Rattle.std.proofs.Common.{◌≡◌, ◌∙◌, ℕ, List, [], ◌++◌, Option, Some, None, append_assoc, ap, refl, sym}
use Rattle.std.proofs.lemmas.List.{append-nil}
use Rattle.std.specs.Io.KnownBytes.{Consumes}
use Rattle.capnp_streams.specs.Received.{IsReadOn}

pub consumed_none : (a : Option (List ℕ)) → Consumes a a []
consumed_none None = tt {0}
consumed_none (Some a) = refl

pub consumed_both : (a b c : Option (List ℕ)) (xs ys : List ℕ) → Consumes a b xs → Consumes b c ys → Consumes a c (xs ++ ys)
consumed_both None b c xs ys h k = tt {0}
consumed_both (Some a) None c xs ys h k = absurd h
consumed_both (Some a) (Some b) None xs ys h k = absurd k
consumed_both (Some a) (Some b) (Some c) xs ys h k = h ∙ ap (λ rest. xs ++ rest) k ∙ sym (append_assoc xs ys c)

pub none_read : (a : Option (List ℕ)) (old : List ℕ) → IsReadOn a a old old
none_read a old = record { read = []; consumed = consumed_none a; behind = sym (append-nil old) }

pub some_read : (a b c : Option (List ℕ)) (old mid new more : List ℕ) → IsReadOn a b old mid → Consumes b c more → new ≡ mid ++ more → IsReadOn a c old new
some_read a b c old mid new more h k e = record {
  read = h.read ++ more;
  consumed = consumed_both a b c h.read more h.consumed k;
  behind = e ∙ ap (λ x. x ++ more) h.behind ∙ append_assoc old h.read more;
}

pub both_read : (a b c : Option (List ℕ)) (old mid new : List ℕ) → IsReadOn a b old mid → IsReadOn b c mid new → IsReadOn a c old new
both_read a b c old mid new h k = some_read a b c old mid new k.read h k.consumed k.behind
