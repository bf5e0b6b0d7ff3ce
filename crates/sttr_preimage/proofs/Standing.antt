-- Transducers that stand, over labels.
use Rattle.std.proofs.Common.{ℕ, ◌≡◌, ◌<◌, inl, inr, Bool, List, [], map, get_or, length, All, Contains, sym, subst}
use Rattle.std.proofs.lemmas.List.{length-map}
use Rattle.model_tree.specs.Label.{Label}
use Rattle.model_sta.specs.Automaton.{Rule}
use Rattle.model_sta.specs.Sets.{Each}
use Rattle.model_sttr.specs.Terms.{Term, on, build, Parts, no_parts, part, with_maps, parts_with_maps, Occurs, OccursIn}
use Rattle.model_sttr.specs.Transducer.{Head, identity, run, OutRule, Sttr, out_rules, GivesSame, IsHead, OutRuleFits, SttrFits}
use Rattle.model_sttr.specs.Plain.{PlainOut}
use Rattle.sta_core.specs.Machine.{PlainRule}
use Rattle.sta_core.specs.Sta.{rule_meaning}
use Rattle.sta_core.proofs.Meaning.{rules_of_automaton}
use Rattle.sttr_core.specs.Machine.{OutMachine, plain_out, transducer_of}
use Rattle.sttr_core.specs.declared.sttr.SttrRule.{SttrRule}
use Rattle.sttr_core.proofs.Meaning.{mapped_from, rule_held, meaning_of, rules_meant, uses_as_with_maps}
use Rattle.sttr_theory.proofs.Each.{each_all}
use Rattle.model_sttr.proofs.Heads.{in_range}
use Rattle.sttr_run.specs.Fits.{RuleStands, OutStands, SttrStands}
use Rattle.sttr_run.specs.Sources.{GivesChild}
use Rattle.sttr_preimage.specs.Images.{HasOutRule}
use Rattle.sttr_preimage.specs.Kept.{IsBelow}
use Rattle.sttr_preimage.proofs.Atoms.{row_in, all_in}
use Rattle.sttr_theory.proofs.Members.{to_mapped}

module _ {H M N : Type 0} (f : M → N) (h : H) (j : ℕ) where
  mutual
    -- maps do not matter to what stands at a child
    pub occurs_out : (p : Term H M) → Occurs h j (with_maps f p) → Occurs h j p
    occurs_out (on k i) o = o
    occurs_out (build c m ps) o = occurs_in_out ps o

    occurs_in_out : (ps : Parts H M) → OccursIn h j (parts_with_maps f ps) → OccursIn h j ps
    occurs_in_out no_parts o = o
    occurs_in_out (part p ps) (inl o) = inl (occurs_out p o)
    occurs_in_out (part p ps) (inr o) = inr (occurs_in_out ps o)

  mutual
    pub occurs_back : (p : Term H M) → Occurs h j p → Occurs h j (with_maps f p)
    occurs_back (on k i) o = o
    occurs_back (build c m ps) o = occurs_in_back ps o

    occurs_in_back : (ps : Parts H M) → OccursIn h j ps → OccursIn h j (parts_with_maps f ps)
    occurs_in_back no_parts o = o
    occurs_in_back (part p ps) (inl o) = inl (occurs_back p o)
    occurs_in_back (part p ps) (inr o) = inr (occurs_in_back ps o)

-- each is one of them
pub all_to_each : {X : Type 0} (P Q : X → Type 0) → ((x : X) → P x → Q x) → (xs : List X) → All P xs → Each Q xs
all_to_each P Q f xs h = each_all Q xs (λ x at. f x (all_in P xs h x at))

pub states_to_each : (P Q : ℕ → Type 0) → ((s : ℕ) → P s → Q s) → (ds : List (List ℕ)) → All (All P) ds → Each (Each Q) ds
states_to_each P Q f ds h = all_to_each (All P) (Each Q) (λ d all. all_to_each P Q f d all) ds h

-- what a rule demands are states
pub below_of : {A : Type 0} (ranks : List ℕ) (n : ℕ) (r : PlainRule A) → RuleStands ranks n r → IsBelow n r
below_of ranks n r h j s c = all_in (λ s. s < n) (get_or r.demands j []) (all_in (All (λ s. s < n)) r.demands h.demands (get_or r.demands j []) (row_in r.demands j (in_range r.demands j s c))) s c

module _ {A M : Type 0} (holds : A → Label → Bool) (make : M → Label → Label) (f : OutMachine A M) where
  abbrev pub meant_of : Sttr Label
  meant_of = transducer_of holds make f

  pub as_many_looks : length meant_of.looks ≡ length f.looks.rules
  as_many_looks = length-map f.looks.rules (map (rule_meaning holds))

  pub as_many_rules : length meant_of.rules ≡ length f.rules
  as_many_rules = length-map f.rules (map (meaning_of holds make))

  -- a rule that is held is one over labels
  pub rule_over : (q : ℕ) (r : PlainOut (PlainRule A) M) → HasOutRule f q r → Contains (out_rules meant_of q) (meaning_of holds make r)
  rule_over q r there = subst (λ rs. Contains rs (meaning_of holds make r)) (sym (rules_meant holds make f q)) (to_mapped (meaning_of holds make) (get_or f.rules q []) r there.1)

  pub held_rule : (q : ℕ) (r : OutRule Label) → Contains (out_rules meant_of q) r → (x : PlainOut (PlainRule A) M) × HasOutRule f q x × (meaning_of holds make x ≡ r)
  held_rule q r at = let (x, there, is) = rule_held holds make f q r at in (x, (in_range f.rules q x there, there), is)

  -- a child that is given as it is
  pub gives_child : GivesSame meant_of → GivesChild f
  gives_child (q, r, at, j, o) =
      let (x, there, is) = held_rule q r at in
      (get_or f.rules q [], row_in f.rules q there.0, x, there.1, j, occurs_out make identity j x.term (subst (λ (z : OutRule Label). Occurs identity j z.term) (sym is) o))

  pub stands_at : SttrStands f → (q : ℕ) (r : PlainOut (PlainRule A) M) → HasOutRule f q r → OutStands f.looks.ranks (length f.looks.rules) (length f.rules) r
  stands_at h q r there = all_in (OutStands f.looks.ranks (length f.looks.rules) (length f.rules)) (get_or f.rules q []) (all_in (All (OutStands f.looks.ranks (length f.looks.rules) (length f.rules))) f.rules h (get_or f.rules q []) (row_in f.rules q there.0)) r there.1

  module _ (looks : All (All (RuleStands f.looks.ranks (length f.looks.rules))) f.looks.rules) (stands : SttrStands f) where
    low_demands : (r : PlainRule A) → RuleStands f.looks.ranks (length f.looks.rules) r → Each (Each (λ s. s < length meant_of.looks)) r.demands
    low_demands r h = states_to_each (λ s. s < length f.looks.rules) (λ s. s < length meant_of.looks) (λ s low. subst (λ n. s < n) (sym as_many_looks) low) r.demands h.demands

    look_at : (s : ℕ) (r : PlainRule A) → Contains (get_or f.looks.rules s []) r → RuleStands f.looks.ranks (length f.looks.rules) r
    look_at s r at = all_in (RuleStands f.looks.ranks (length f.looks.rules)) (get_or f.looks.rules s []) (all_in (All (RuleStands f.looks.ranks (length f.looks.rules))) f.looks.rules looks (get_or f.looks.rules s []) (row_in f.looks.rules s (in_range f.looks.rules s r at))) r at

    head_of : (q : ℕ) (x : PlainOut (PlainRule A) M) → HasOutRule f q x → (h : Head) (j : ℕ) → Occurs h j x.term → IsHead meant_of h
    head_of q x there identity j o = (q, meaning_of holds make x, rule_over q x there, j, occurs_back make identity j x.term o)
    head_of q x there (run k) j o = subst (λ n. k < n) (sym as_many_rules) ((stands_at stands q x there).calls k j o)

    -- its rules fit
    pub sttr_fits : SttrFits meant_of f.looks.ranks
    sttr_fits = record {
      looks = λ s r at.
          let (k, low, e) = subst (λ rs. Contains rs r) (rules_of_automaton holds f.looks s) at in
          let (x, there, is) = mapped_from (rule_meaning holds) (get_or f.looks.rules s []) k r low e in
          subst (λ (z : Rule Label). Each (Each (λ s. s < length meant_of.looks)) z.demands) is (low_demands x (look_at s x there));
      rules = λ q r at.
          let (x, there, is) = held_rule q r at in
          subst (OutRuleFits meant_of f.looks.ranks) is (record {
            children = λ j u. (stands_at stands q x there).children j (uses_as_with_maps make j x.term u);
            heads = λ h j o. head_of q x there h j (occurs_out make h j x.term o);
            demands = low_demands x.rule (stands_at stands q x there).rule;
          });
    }

-- a rule of a state as it is held
pub item_there : {A M : Type 0} (f : OutMachine A M) (q : ℕ) (rs : List (SttrRule A M)) (i : ℕ) (r : SttrRule A M) → map plain_out rs ≡ get_or f.rules q [] → i < length rs → r ≡ get_or rs i r → Contains (get_or f.rules q []) (plain_out r)
item_there f q rs i r e low at = subst (λ l. Contains l (plain_out r)) e (to_mapped plain_out rs r (i, low, sym at))
