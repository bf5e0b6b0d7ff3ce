-- Transducers that begin with one state, and have states for all that it calls.
use Rattle.std.specs.Prelude.{⊤}
use Rattle.std.proofs.Common.{ℕ, ◌≡◌, ◌<◌, ◌⊎◌, inl, inr, Bool, List, [], ◌++◌, map, length, All, Contains, sym, subst, ap, ◌∙◌}
use Rattle.model_tree.specs.Label.{Label}
use Rattle.model_tree.specs.Formula.{EveryAtom}
use Rattle.model_sttr.specs.Transducer.{Sttr, GivesSame}
use Rattle.model_sttr.specs.Plain.{PlainOut}
use Rattle.label_core.specs.Meaning.{Meaning}
use Rattle.sta_core.specs.Machine.{PlainRule}
use Rattle.sta_core.specs.Sta.{rule_meaning}
use Rattle.sttr_core.specs.Machine.{OutMachine, transducer_of}
use Rattle.sttr_core.specs.declared.sttr.Trans.{Trans}
use Rattle.sttr_theory.specs.Lists.{IsAt}
use Rattle.sttr_theory.specs.Triples.{Triple, LookName, of_first, of_second, middle}
use Rattle.sttr_theory.specs.Built.{LookNameFits, IsBuiltLook, IsPart}
use Rattle.sttr_theory.proofs.Grow.{all_states, part_grown, extends_self}
use Rattle.sttr_run.specs.Sources.{GivesChild}
use Rattle.sttr_preimage.specs.Names.{IsNumber}
use Rattle.sttr_preimage.specs.Called.{KeepsOutput}
use Rattle.sttr_preimage.specs.Images.{IsSecond, IsMiddle, HasOne, CanAsk, first_of, second_of, meant, IsLookName, IsLookAtom, AreAllRows}
use Rattle.sttr_preimage.specs.Outs.{HasState, OutStands, AreAllOuts, RuleOver, IsTransFor}
use Rattle.sttr_preimage.specs.Through.{IsThroughAtom}
use Rattle.sttr_preimage.proofs.Atoms.{all_map, every_map}
use Rattle.sttr_preimage.proofs.Finished.{name_fits, image_atom, look_built, every_name, every_fit, every_atom}
use Rattle.sttr_preimage.proofs.Middles.{rule_more}
use Rattle.sttr_preimage.proofs.Numbered.{adds_extends, adds_length}
use Rattle.sttr_preimage.proofs.Outing.{state_wider}
use Rattle.sttr_preimage.proofs.Standing.{as_many_rules, gives_child}

module _ {A M V W : Type 0} (is_put : M → A → A → Type 0) (make : M → Label → Label) {label_of : V → Label} {holds : A → Label → Bool} (N : Meaning label_of holds W) (fits : A → Type 0) (f g : OutMachine A M) (Q : Type 0 → M → Type 0) where
  abbrev F : Sttr Label
  F = first_of holds make f g

  abbrev G : Sttr Label
  G = second_of holds make f g

  module _ (start : Triple) (empty before : List Triple) (none : empty ≡ []) (n : ℕ) (is : IsNumber empty before start n) where
    abbrev pub K : Type 0
    K = HasOne KeepsOutput before

    only_start : (y : Triple) → Contains before y → start ≡ y
    only_start y c = is.adds.wanted y (subst (λ l. Contains l y) (is.adds.behind ∙ ap (λ l. l ++ is.adds.more) none) c)

    pub keeps : K → KeepsOutput start
    keeps (y, c, k) = subst KeepsOutput (sym (only_start y c)) k

    pub states_known : HasState is_put make N fits f g (KeepsOutput start) start → (y : Triple) → Contains before y → HasState is_put make N fits f g K y
    states_known known y c = subst (HasState is_put make N fits f g K) (only_start y c) (state_wider is_put make N fits f g Q (KeepsOutput start) K (λ k. inl (start, (n, is.at.0, is.at.1), k)) start known)

    module _ (after : List Triple) (old names : List LookName) (no_names : old ≡ []) (rules : List (List (PlainOut (PlainRule A) M))) (h : AreAllOuts is_put make N fits f g Q K old names before after rules) where
      asked_known : (x : LookName) → Contains names x → IsLookName holds make f g ⊥ ⊤ x
      asked_known x c = h.adds.wanted x (subst (λ l. Contains l x) (h.adds.behind ∙ ap (λ l. l ++ h.adds.more) no_names) c)

      second_same : HasOne IsSecond names → GivesSame F
      second_same (x, c, is) = by x (asked_known x c) is
        where
          by : (x : LookName) → IsLookName holds make f g ⊥ ⊤ x → IsSecond x → GivesSame F
          by (of_first s) k is = absurd is
          by (of_second s) k is = elim k.1 [ inl g ↦ g | inr none ↦ absurd none ]
          by (middle q all) k is = absurd is

      pub rows_known : (x : LookName) → Contains names x → IsLookName holds make f g (HasOne IsSecond names) (HasOne IsMiddle names) x
      rows_known x c = by x c (asked_known x c)
        where
          by : (x : LookName) → Contains names x → IsLookName holds make f g ⊥ ⊤ x → IsLookName holds make f g (HasOne IsSecond names) (HasOne IsMiddle names) x
          by (of_first s) c k = k
          by (of_second s) c k = (k.0, elim k.1 [ inl g ↦ inl g | inr none ↦ absurd none ])
          by (middle q all) c k = (k.0, k.1, (middle q all, c, tt))

      child_of : GivesChild f ⊎ HasOne IsSecond names → GivesChild f ⊎ ⊥
      child_of (inl child) = inl child
      child_of (inr s) = inl (gives_child holds make f (second_same s))

      pub rows_can : {T : Type 0} (atom_fits : T → A → Type 0) (map_fits map_makes : T → M → Type 0) (theory : T) → CanAsk atom_fits map_fits map_makes theory f g ⊥ ⊤ → CanAsk atom_fits map_fits map_makes theory f g (HasOne IsSecond names) (HasOne IsMiddle names)
      rows_can atom_fits map_fits map_makes theory can = record {
        looks = can.looks;
        stands = can.stands;
        labels = can.labels;
        second_looks = can.second_looks;
        second_stands = can.second_stands;
        makes = λ p. can.makes tt;
        ranks = λ e. can.ranks (child_of e);
        speaks = λ e. can.speaks (child_of e);
      }

      module _ (Q_wide : (m : M) → Q K m → Q (KeepsOutput start) m) (new : List LookName) (rows : List (List (PlainRule A))) (all : AreAllRows is_put make N fits f g (HasOne IsSecond names) (HasOne IsMiddle names) names new rows) (c : Trans A M) (ranks : c.sttr.looks.ranks ≡ f.looks.ranks) (looks_are : c.sttr.looks.rules ≡ rows)
          (rules_are : c.sttr.rules ≡ rules) (state : c.state ≡ n) where
        abbrev S : Type 0
        S = HasOne IsSecond names

        abbrev P : Type 0
        P = HasOne IsMiddle names

        abbrev Atom : A → Type 0
        Atom = IsThroughAtom N.equal is_put f g

        abbrev Over : ℕ → PlainOut (PlainRule A) M → Type 0
        Over = RuleOver fits Atom (Q (KeepsOutput start)) f

        wide_atom : (b : A) → IsLookAtom is_put make N fits f g ⊥ ⊤ b → Atom b
        wide_atom b k = image_atom is_put make N fits f g ⊥ ⊤ (λ s. absurd s) (gives_child holds make f) b k

        rule_over_new : (r : PlainOut (PlainRule A) M) → OutStands is_put make N fits f g Q K (length names) r → Over (length new) r
        rule_over_new r is = record {
          stands = rule_more f.looks.ranks (length names) (length new) (adds_length names new _ all.adds) r.rule is.rule.stands;
          fit = is.rule.fit;
          atoms = every_map (IsLookAtom is_put make N fits f g ⊥ ⊤) Atom wide_atom r.rule.guard is.rule.atoms;
          maps = λ m o. Q_wide m (is.maps m o);
        }

        start_at : IsAt after c.state start
        start_at = subst (λ i. IsAt after i start) (sym state) (adds_extends before after _ h.calls n start is.at)

        as_many : length (transducer_of holds make c.sttr).rules ≡ length after
        as_many = as_many_rules holds make c.sttr ∙ ap length rules_are ∙ h.count

        pub trans_done : IsTransFor is_put make N fits f g Q start c
        trans_done = record {
          looks = new;
          names = after;
          built = record {
            built = all_states f.looks.ranks N.has F G new after (transducer_of holds make c.sttr)
                (subst (λ rs. IsBuiltLook f.looks.ranks N.has F G new (map (map (rule_meaning holds)) rs)) (sym looks_are) (look_built is_put make N fits f g S P names new rows all))
                (subst (λ rs. IsPart f.looks.ranks N.has F G new after (map (map (meant holds make f g)) rs)) (sym rules_are) (part_grown f.looks.ranks N.has F G names new (adds_extends names new _ all.adds) after after (extends_self after) (map (map (meant holds make f g)) rules) h.part))
                as_many;
            looks_fit = every_name is_put make N fits f g S P names new rows all (LookNameFits F G) (λ x k. name_fits is_put make N fits f g S P second_same x k);
            fit = λ i x at. state_wider is_put make N fits f g Q K (KeepsOutput start) (λ k. inl (keeps k)) x (h.known x (i, at.0, at.1));
            start = start_at;
          };
          low = subst (λ k. c.state < k) (sym as_many ∙ as_many_rules holds make c.sttr) start_at.0;
          over = record {
            ranks = ranks;
            fit = subst (λ rs. All (λ rules. All (λ r. EveryAtom fits r.guard) rules) rs) (sym looks_are) (every_fit is_put make N fits f g S P names new rows all);
            atoms = subst (λ rs. All (λ rules. All (λ r. EveryAtom Atom r.guard) rules) rs) (sym looks_are) (every_atom is_put make N fits f g S P names new rows all Atom (λ b k. image_atom is_put make N fits f g S P second_same (gives_child holds make f) b k));
            rules = subst (λ n. All (All (Over n)) c.sttr.rules) (sym all.count ∙ ap length (sym looks_are)) (subst (All (All (Over (length new)))) (sym rules_are)
                (all_map (All (OutStands is_put make N fits f g Q K (length names))) (All (Over (length new))) rules (λ rs k. all_map (OutStands is_put make N fits f g Q K (length names)) (Over (length new)) rs rule_over_new k) h.stand));
          };
        }
