-- What is read of a table is all that rounds need.
use Rattle.std.proofs.Common.{ℕ, ◌≡◌, Vec, Bool, List, length, sym, subst}
use Rattle.model_tree.specs.Label.{Label}
use Rattle.label_core.specs.Meaning.{Meaning}
use Rattle.sta_core.specs.Machine.{Machine}
use Rattle.sta_classes.specs.Meant.{IsTableOf}
use Rattle.sta_classes.specs.Plain.{PlainTable, HasKinds}
use Rattle.sta_min.specs.Kinds.{nested, AreOfAllPlaces}
use Rattle.sta_min.specs.Tables.{IsSpace}
use Rattle.sta_min.specs.Values.{TellAllApart}

module _ {A V W : Type 0} {label_of : V → Label} {holds : A → Label → Bool} (M : Meaning label_of holds W) (sta : Machine A) (t u : PlainTable A V) (same : u ≡ t) (machine : t.machine ≡ sta)
    (values : List (List V)) (tell : TellAllApart M u.machine.rules (length u.machine.ranks) values) where
  pub space_from : IsTableOf M sta t → HasKinds holds t → {G H : Type 0} (ranks : List ℕ) → ranks ≡ t.machine.ranks → (kinds given : List (Vec (Vec ℕ G) H)) → AreOfAllPlaces t ranks (length ranks) kinds → given ≡ kinds → IsSpace label_of holds u values (nested given) M
  space_from table has_kinds ranks is kinds given are deref =
      let here : AreOfAllPlaces t t.machine.ranks (length t.machine.ranks) given = subst (λ r. AreOfAllPlaces t r (length r) given) is (subst (AreOfAllPlaces t ranks (length ranks)) (sym deref) are) in
      subst (λ z. IsSpace label_of holds z values (nested given) M) (sym same) (record {
        table = subst (λ m. IsTableOf M m t) (sym machine) table;
        has_kinds = has_kinds;
        tell = subst (λ z. TellAllApart M z.machine.rules (length z.machine.ranks) values) same tell;
        many = here.many;
        of_kinds = here.each;
      })
