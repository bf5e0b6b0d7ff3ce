-- What is built for a name by its written rules is carried and seen, and two rules are a part.
use Rattle.std.proofs.Common.{◌≡◌, inl, inr, ℕ, zero, suc, Bool, List, [], ◌∷◌, Some, None, refl, sym, ap, subst, ◌∙◌}
use Rattle.std.specs.Prelude.{slice_get, unwrap_or}
use Rattle.model_tree.specs.Label.{Label}
use Rattle.model_sta.specs.Pairwise.{Pairwise}
use Rattle.model_sttr.specs.Transducer.{out_rules}
use Rattle.model_program.specs.Syntax.{Name}
use Rattle.model_grammar.specs.Syntax.{named, Item}
use Rattle.model_run.specs.Parts.{meant, both_apply, relation, reached_language, two_rules, reached_relation}
use Rattle.model_run.specs.Seen.{listed, tested, fields_at, list_of_rule, guard_of_rule, Agree, IsLabelOf}
use Rattle.model_layers.specs.Written.{IsWrittenGuard, NamesAreCarried, NamesAreSeen, AppliesAs, TwoRulesArePart}
use Rattle.model_layers.proofs.Chosen.{first_of}

pub names_are_carried : (items : List Item) (n : Name) → NamesAreCarried items n
names_are_carried items n = record {
  language = λ type a built. record {
    is_on = built.is_on;
    in_range = built.in_range;
    means = built.means;
    each_state = λ q low. (let (m, reached, on, alike) = built.states q low in (meant (named m), reached_language n m type reached on, alike));
  };
  transformation = λ from into f built. record {
    goes = built.goes;
    in_range = built.in_range;
    means = built.means;
    each_state = λ q low. (let (m, reached, goes, alike) = built.states q low in (relation (named m), reached_relation n m from into reached goes, alike));
    each_look = λ q low. (let (m, reached, on, alike) = built.looks q low in (meant (named m), reached_language n m from reached on, alike));
    typed = built.typed;
    gives_same = built.gives_same;
  };
}

module _ (items : List Item) (n : Name) (type : List ℕ) where
  agrees : (guard : Label → Bool) → IsWrittenGuard items n type guard → (l m : Label) → IsLabelOf items type l → IsLabelOf items type m → Agree items (named n ∷ []) type l m → guard l ≡ guard m
  agrees guard (inl always) l m is_l is_m agree = always l is_l ∙ sym (always m is_m)
  agrees guard (inr (e, is, says)) l m is_l is_m agree = says l is_l ∙ agree (named n) (first_of (named n) []) (tested (fields_at items type) e) (guard_of_rule n type e is) ∙ sym (says m is_m)

pub names_are_seen : (items : List Item) (n : Name) → NamesAreSeen items n
names_are_seen items n = record {
  language = λ type rules are l m is_l is_m agree q r at. agrees items n type r.guard (are q r at) l m is_l is_m agree;
  transformation = λ from into f are. record {
    goes = are.goes;
    guards = λ l m is_l is_m agree. record {
      looks = λ q r at. agrees items n from r.guard (are.looks q r at) l m is_l is_m agree;
      rules = λ q r at. agrees items n from r.rule.guard (are.guards q r at) l m is_l is_m agree;
    };
    maps = λ k is. (let (labels, here, alike) = are.maps k is in (listed (fields_at items from) (fields_at items into) labels, list_of_rule n from into labels here, alike));
    makes = are.makes;
    gives_same = are.gives_same;
  };
}

-- ---- two rules

none_there : {A B : Type 0} (x : A) → None ≡ Some x → B
none_there x e = cc

pairwise_at : {X Y : Type 0} (R : X → Y → Type 0) (xs : List X) (ys : List Y) → Pairwise R xs ys → (i : ℕ) (x : X) → slice_get xs i ≡ Some x → (y : Y) × (slice_get ys i ≡ Some y) × R x y
pairwise_at R [] ys all i x at = none_there x at
pairwise_at R (z ∷ xs) [] all i x at = absurd all
pairwise_at R (z ∷ xs) (y ∷ ys) all zero x at = (y, refl, subst (λ w. R w y) (ap (λ o. unwrap_or o z) at) all.0)
pairwise_at R (z ∷ xs) (y ∷ ys) all (suc i) x at = pairwise_at R xs ys all.1 i x at

pub two_rules_are_part : TwoRulesArePart
two_rules_are_part items n m from into f q reached goes all i j r s before at other =
    let (v, here, first) = pairwise_at (AppliesAs items from f m) (out_rules f q) _ all i r at in
    let (w, there, second) = pairwise_at (AppliesAs items from f m) (out_rules f q) _ all j s other in (
      both_apply m.text v w,
      two_rules n m from into v w reached goes (record { first = i; second = j; in_order = before; is_first = here; is_second = there }),
      λ t typed. (λ h. ((first t typed).0 h.0, (second t typed).0 h.1), λ h. ((first t typed).1 h.0, (second t typed).1 h.1)),
    )
