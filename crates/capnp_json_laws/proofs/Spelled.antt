-- The bytes of a JSON, piece by piece.
use Rattle.std.proofs.Common.{◌≡◌, ℕ, List, [], ◌∷◌, ◌++◌, Ok, Err, refl, ap, sym, subst, ◌∙◌, append_assoc}
use Rattle.capnp_json.specs.Pieces.{Byte, FloatNumber, IsJson, IsNumberOf, IsSpelled, Out, Pieces, after, known_pieces, said}

-- two rows of bytes, one behind the other
pub record IsJoined (a b : Out) (bytes : List ℕ) : Type 0 where
  pub front : List ℕ
  pub back : List ℕ
  pub first : IsJson a front
  pub second : IsJson b back
  pub whole : bytes ≡ front ++ back

pub known_bytes : (bs bytes : List ℕ) → IsSpelled (known_pieces bs) bytes → bytes ≡ bs
unfolding IsSpelled
known_bytes [] bytes h = h
known_bytes (b ∷ bs) bytes h = h.2 ∙ ap (λ x. b ∷ x) (known_bytes bs h.0 h.1)

pub said_bytes : (bs bytes : List ℕ) → IsJson (said bs) bytes → bytes ≡ bs
said_bytes bs bytes h = known_bytes bs bytes h

spelled_joined : (ps qs : Pieces) (bytes : List ℕ) → IsSpelled (ps ++ qs) bytes → IsJoined (Ok ps) (Ok qs) bytes
unfolding IsSpelled
spelled_joined [] qs bytes h = record { front = []; back = bytes; first = refl; second = h; whole = refl }
spelled_joined (Byte b ∷ ps) qs bytes h =
    let r = spelled_joined ps qs h.0 h.1 in
    record { front = b ∷ r.front; back = r.back; first = (r.front, r.first, refl); second = r.second; whole = h.2 ∙ ap (λ x. b ∷ x) r.whole }
spelled_joined (FloatNumber w bits ∷ ps) qs bytes h =
    let r = spelled_joined ps qs h.1 h.3 in
    record { front = h.0 ++ r.front; back = r.back; first = (h.0, r.front, h.2, r.first, refl); second = r.second; whole = h.4 ∙ ap (λ x. h.0 ++ x) r.whole ∙ sym (append_assoc h.0 r.front r.back) }

pub after_joined : (a b : Out) (bytes : List ℕ) → IsJson (after a b) bytes → IsJoined a b bytes
after_joined (Err why) b bytes h = absurd h
after_joined (Ok a) (Err why) bytes h = absurd h
after_joined (Ok a) (Ok b) bytes h = spelled_joined a b bytes h

-- bytes that are said, and those behind them
pub record IsBehind (bs : List ℕ) (b : Out) (bytes : List ℕ) : Type 0 where
  pub back : List ℕ
  pub second : IsJson b back
  pub whole : bytes ≡ bs ++ back

pub said_joined : (bs : List ℕ) (b : Out) (bytes : List ℕ) → IsJson (after (said bs) b) bytes → IsBehind bs b bytes
said_joined bs b bytes h =
    let r = after_joined (said bs) b bytes h in
    record { back = r.back; second = r.second; whole = r.whole ∙ ap (λ x. x ++ r.back) (said_bytes bs r.front r.first) }

-- an item and what is left behind it
pub record IsItem (bs : List ℕ) (x b : Out) (bytes : List ℕ) : Type 0 where
  pub front : List ℕ
  pub back : List ℕ
  pub first : IsJson x front
  pub second : IsJson b back
  pub whole : bytes ≡ bs ++ (front ++ back)

pub item_joined : (bs : List ℕ) (x b : Out) (bytes : List ℕ) → IsJson (after (said bs) (after x b)) bytes → IsItem bs x b bytes
item_joined bs x b bytes h =
    let r = said_joined bs (after x b) bytes h in
    let s = after_joined x b r.back r.second in
    record { front = s.front; back = s.back; first = s.first; second = s.second; whole = r.whole ∙ ap (λ y. bs ++ y) s.whole }

-- one finite float
pub float_bytes : (w : _) (bits : ℕ) (bytes : List ℕ) → IsJson (Ok (FloatNumber w bits ∷ [])) bytes → IsNumberOf w bits bytes
unfolding IsSpelled
float_bytes w bits bytes h =
    let same : bytes ≡ h.0 = h.4 ∙ ap (λ x. h.0 ++ x) h.3 ∙ nothing_behind h.0 in
    subst (IsNumberOf w bits) (sym same) h.2
  where
    nothing_behind : (xs : List ℕ) → xs ++ [] ≡ xs
    nothing_behind [] = refl
    nothing_behind (x ∷ xs) = ap (λ y. x ∷ y) (nothing_behind xs)
