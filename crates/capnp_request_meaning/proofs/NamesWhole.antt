-- All types that are bound in an entry have names.
use Rattle.std.proofs.Common.{ℕ, ◌≡◌, ◌∙◌, ap, subst, sym, Bool, length}
use Rattle.capnp_schema.specs.Schema.{Node, Schemas}
use Rattle.capnp_request.specs.Terms.{RequestTerm}
use Rattle.capnp_request.specs.Work.{Entry}
use Rattle.capnp_request_meaning.specs.Laws.{BoundTypesHaveNames}
use Rattle.capnp_request_meaning.specs.Meaning.{AreAmongFirst, IsEntryName, IsNameOf, IsSetOf, Numbers, numbers_in}
use Rattle.capnp_request_meaning.specs.Plain.{AreNodesPlain}
use Rattle.capnp_request_meaning.specs.Written.{HasNamedTypes, IsNamed, IsWholeAt}
use Rattle.capnp_request_meaning.proofs.ListsFound.{same_some}
use Rattle.capnp_request_meaning.proofs.SetsMeant.{NodeAt, node_of_entry}

module _ (r : RequestTerm) (strict : Bool) (set : Schemas) (is : IsSetOf r strict set) (i : ℕ) (e : Entry) (n : Node) (a : IsWholeAt is.entries set i e n) where
  abbrev k : Numbers
  k = numbers_in r strict is.entries set

  abbrev at : NodeAt k is.entries e set.nodes i
  at = node_of_entry k is.entries set.nodes set.brands i e is.nodes a.there

  abbrev shown : IsNameOf k at.earlier at.before e at.is.node at.node.display_name
  shown = subst (λ p. IsEntryName k at.earlier at.before at.is.node e p at.node.display_name) a.whole at.is.name

  name_at : at.node.display_name ≡ n.display_name
  name_at = ap (λ (x : Node). x.display_name) (same_some (sym at.there ∙ a.node))

  abbrev named : IsNamed k set.nodes i e n.display_name
  named = record {
    earlier = at.earlier;
    before = at.before;
    count = at.behind;
    firsts = at.firsts;
    node = at.is.node;
    first = at.is.first;
    is = record { display = shown.display; enums = shown.enums; with_file = shown.with_file; said = shown.said; first_enums = shown.first_enums; have_names = shown.have_names; is = sym name_at ∙ shown.is; taken = shown.taken; free = shown.free };
  }

  types_named : AreNodesPlain r.nodes → HasNamedTypes k set.nodes i e n.display_name
  types_named are_plain = record { named = named; below = subst (λ l. AreAmongFirst l (length shown.enums) e.bound) at.behind (shown.have_names are_plain) }

pub names_whole : BoundTypesHaveNames
names_whole r strict set is are_plain i e n a = types_named r strict set is i e n a are_plain
