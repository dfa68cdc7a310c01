-- Why no two clients of a site share a name or an address.
use Rattle.std.proofs.Common.{◌≡◌, ◌≢◌, inl, inr, true, false, cond, None, Some, List, []}
use Rattle.std.proofs.Common.{◌∷◌, ◌++◌, refl, sym, ◌∙◌, subst, arith, true≢false}
use Rattle.std.proofs.lemmas.List.Elements.{Contains-append_left, Contains-append_right}
use Rattle.std.proofs.lemmas.List.Kept.{AllPairs-cons}
use Rattle.std.specs.Prelude.{bytes_eq, Contains, Bool}
use Rattle.std.specs.List.{list_any, All, AllPairs}
use Rattle.acct_model.specs.Faults.{first_fault_after}
use Rattle.acct_model.proofs.Faults.{first_none, second_none}
use Rattle.acct_model.proofs.Lists.{here, nowhere, front_or_behind, none_same, all_listed}
use Rattle.acct_model.proofs.Same.{Decides-bytes_eq}
use Rattle.acct_wire.specs.declared.client.Client.{Client}
use Rattle.acct_wire.specs.declared.client.ClientError.TheVariants.{TwiceNamed, TwiceAddressed}
use Rattle.acct_wire.specs.Clients.{has_name, has_address}
use Rattle.acct_wire.specs.ClientFaults.{client_fault}
use Rattle.acct_wire.specs.Laws.{ClientsDiffer}

abbrev Differ : Client → Client → Type 0
Differ one other = (one.name ≢ other.name) × (one.address ≢ other.address)

-- the earlier clients differ from these
abbrev AreApart : List Client → List Client → Type 0
AreApart earlier clients =
    (one other : Client) → Contains earlier one → Contains clients other → Differ one other

tests : (named addressed : Bool)
    → cond named (Some TwiceNamed) (cond addressed (Some TwiceAddressed) None) ≡ None
    → (named ≡ false) × (addressed ≡ false)
tests true addressed e = absurd (let clash : Some TwiceNamed ≡ None = e in cc)
tests false true e = absurd (let clash : Some TwiceAddressed ≡ None = e in cc)
tests false false e = (refl, refl)

apart_from : (earlier : List Client) (client : Client) → client_fault earlier client ≡ None
    → (one : Client) → Contains earlier one → Differ one client
apart_from earlier client e one there =
    let pass =
    tests (list_any (has_name client.name) earlier) (list_any (has_address client.address)
    earlier) e in
    let named : bytes_eq one.name client.name ≡ false =
    none_same (λ _ x. has_name client.name x) one earlier pass.0 one there in
    let addressed : bytes_eq one.address client.address ≡ false =
    none_same (λ _ x. has_address client.address x) one earlier pass.1 one there in (
      λ same. true≢false (sym ((Decides-bytes_eq one.name client.name).1 same) ∙ named),
      λ same. true≢false (sym ((Decides-bytes_eq one.address client.address).1 same) ∙ addressed),
    )

pairs_nil : AllPairs Differ []
pairs_nil i j d below within = absurd (omega arith)

-- clients without a fault after earlier ones differ
apart : (earlier clients : List Client) → first_fault_after client_fault earlier clients ≡ None
    → AllPairs Differ clients × AreApart earlier clients
apart earlier [] e = (pairs_nil, λ one other there none. absurd (nowhere other none))
apart earlier (client ∷ clients) e =
    let own =
    first_none (client_fault earlier client)
    (first_fault_after client_fault (earlier ++ client ∷ []) clients) e in
    let rest =
    apart (earlier ++ client ∷ []) clients (second_none (client_fault earlier client)
    (first_fault_after client_fault (earlier ++ client ∷ []) clients) e) in
    let next : All (Differ client) clients =
    all_listed (Differ client) clients
    (λ other at. rest.1 client other (Contains-append_right earlier (client ∷ []) client
    (here client [])) at) in (
      AllPairs-cons Differ client clients next rest.0,
      λ one other there at. elim (front_or_behind client other clients at) [
        | inl is ↦ subst (λ v. Differ one v) is (apart_from earlier client own one there)
        | inr later ↦ rest.1 one other (Contains-append_left earlier (client ∷ []) one there) later
      ],
    )

pub clients_differ : ClientsDiffer
clients_differ clients e = (apart [] clients e).0
