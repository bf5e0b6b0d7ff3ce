-- What the operations owe, from what is built.
use Rattle.std.proofs.Common.{ℕ, ◌≡◌, Bool, List, [], ◌∷◌, map, subst, ap}
use Rattle.model_tree.specs.Label.{Label}
use Rattle.model_sta.specs.Automaton.{Rule}
use Rattle.model_sttr.specs.Transducer.{SttrFits}
use Rattle.label_core.specs.Meaning.{Meaning}
use Rattle.sta_core.specs.Machine.{Machine}
use Rattle.sta_core.specs.Sta.{automaton_of, rule_meaning}
use Rattle.sta_core.specs.declared.Lang.{Lang}
use Rattle.sttr_core.specs.Machine.{transducer_of}
use Rattle.sttr_core.specs.declared.sttr.Trans.{Trans}
use Rattle.sttr_theory.specs.Triples.{LookName}
use Rattle.sttr_theory.specs.Results.{IsBuiltPreImage}
use Rattle.sttr_theory.proofs.Guards.{domain_guards, preimage_guards}
use Rattle.sttr_theory.proofs.Records.{domain_owed, preimage_owed}
use Rattle.sttr_preimage.specs.Results.{HasDomain, HasPreImage, trans_at, auto_at}

module _ {A M V W : Type 0} (make : M → Label → Label) {label_of : V → Label} {holds : A → Label → Bool} (N : Meaning label_of holds W) (f : Trans A M) (fits : SttrFits (transducer_of holds make f.sttr) f.sttr.looks.ranks) where
  abbrev Built : List (List (Rule Label)) → List ℕ → Lang A → Type 0
  Built rules all c = (names : List LookName) × IsBuiltPreImage f.sttr.looks.ranks N.has (trans_at holds make f) rules all names (auto_at holds c)

  pub domain_language : (nothing : Machine A) → nothing.rules ≡ [] → (all : List ℕ) → all ≡ [] → (c : Lang A) → Built (automaton_of holds nothing) all c → HasDomain make N f c
  domain_language nothing none all empty c built =
      let (names, b) = subst (λ z. Built [] z c) empty (subst (λ rs. Built rs all c) (ap (map (map (rule_meaning holds))) none) built) in
      record {
        exact = domain_owed f.sttr.looks.ranks N.has (trans_at holds make f) fits names (auto_at holds c) b;
        guards = domain_guards f.sttr.looks.ranks N.has (trans_at holds make f) names (auto_at holds c) b;
      }

  pub preimage_language : (a : Lang A) (all : List ℕ) → all ≡ a.state ∷ [] → (c : Lang A) → Built (automaton_of holds a.sta) all c → HasPreImage make N f a c
  preimage_language a all one c built =
      let (names, b) = subst (λ z. Built (automaton_of holds a.sta) z c) one built in
      record {
        exact = preimage_owed f.sttr.looks.ranks N.has (trans_at holds make f) fits (auto_at holds a) names (auto_at holds c) b;
        guards = λ l m dl dm agree. preimage_guards f.sttr.looks.ranks N.has (trans_at holds make f) (automaton_of holds a.sta) (a.state ∷ []) names (auto_at holds c) b l m dl dm agree;
      }
