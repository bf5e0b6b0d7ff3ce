-- What an answer on sets of states says of languages.
use Rattle.std.proofs.Common.{ℕ, ◌≡◌, ◌<◌, ◌+◌, Bool, List, map, length, sym, ap, ap₂, subst, ◌∙◌, arith}
use Rattle.std.proofs.lemmas.List.{length-map}
use Rattle.model_tree.specs.Label.{Label}
use Rattle.model_tree.specs.Tree.{LabelTree}
use Rattle.model_sta.specs.Automaton.{is_accepted}
use Rattle.model_sta.specs.Sets.{has, set_of}
use Rattle.model_sta.specs.Told.{IsBeside}
use Rattle.model_sta.proofs.Sets.{set_is_accepted}
use Rattle.model_sta.proofs.Beside.{first_accepts, second_accepts}
use Rattle.label_core.specs.Meaning.{Meaning}
use Rattle.sta_core.specs.Machine.{Machine, PlainRule}
use Rattle.sta_core.specs.Sta.{automaton_of, AtomsFit, rule_meaning}
use Rattle.sta_core.specs.declared.Lang.{Lang}
use Rattle.sta_ops.specs.declared.emptiness.Found.{Found}
use Rattle.sta_ops.specs.declared.emptiness.Asked.TheVariants.{Has, Two}
use Rattle.sta_ops.specs.declared.emptiness.Wanted.{Wanted}
use Rattle.sta_ops.specs.Asked.{is_wanted, has_asked, IsAnswer}
use Rattle.sta_ops.specs.Empty.{IsEmptyAnswer, IsCompared, side_by_side}
use Rattle.sta_ops.specs.Rules.{beside}
use Rattle.sta_ops.proofs.EachRule.{EachRule, each_beside}
use Rattle.sta_ops.proofs.Fitting.{PlainFits, own_of}
use Rattle.sta_ops.proofs.Atoms.{Guarded, from_fit, to_fit}
use Rattle.sta_ops.proofs.Joining.{beside_meant}
use Rattle.sta_theory.proofs.Placed.{placed_beside}

pub both_are : {A : Type 0} (m : Machine A) (a b : Lang A) (ranks : List ℕ) → m.ranks ≡ ranks → ranks ≡ a.sta.ranks → m.rules ≡ beside a.sta.rules b.sta.rules → m ≡ side_by_side a b
both_are {A} m a b ranks given same are =
    let made : List ℕ → List (List (PlainRule A)) → Machine A = λ rs qs. record { ranks = rs; rules = qs } in
    ap₂ made (given ∙ same) are

pub both_fit : {A : Type 0} (P : A → Type 0) (a b : Lang A) → AtomsFit P a.sta → AtomsFit P b.sta → AtomsFit P (side_by_side a b)
both_fit P a b f g = to_fit P (side_by_side a b) (each_beside (Guarded P) (Guarded P) (Guarded P) a.sta.rules b.sta.rules (λ r h. h) (λ r h. h) (from_fit P a.sta f) (from_fit P b.sta g))

module _ {A V W : Type 0} {label_of : V → Label} {holds : A → Label → Bool} (M : Meaning label_of holds W) where
  pub empty_from : (m sta : Machine A) (state most : ℕ) (found : Found V) → m ≡ sta → IsAnswer M m.ranks (λ t. has_asked (Has state) (set_of (automaton_of holds m) t)) most found → IsEmptyAnswer M sta state most found
  empty_from m sta state most found same answer =
      subst (λ member. IsAnswer M sta.ranks member most found) (λ i t. set_is_accepted (automaton_of holds sta) t state i)
      (subst (λ k. IsAnswer M k.ranks (λ t. has (set_of (automaton_of holds k) t) state) most found) same answer)

  module _ (a b : Lang A) (fit_a : EachRule (PlainFits a.sta.ranks (length a.sta.rules)) a.sta.rules) (fit_b : EachRule (PlainFits b.sta.ranks (length b.sta.rules)) b.sta.rules) (low_a : a.state < length a.sta.rules) (low_b : b.state < length b.sta.rules) where
    pub is_beside : IsBeside (automaton_of holds a.sta) (automaton_of holds b.sta) (automaton_of holds (side_by_side a b))
    is_beside = subst (IsBeside (automaton_of holds a.sta) (automaton_of holds b.sta)) (sym (beside_meant holds a.sta.rules b.sta.rules)) (placed_beside (automaton_of holds a.sta) (automaton_of holds b.sta))

    first_has : (t : LabelTree) → has (set_of (automaton_of holds (side_by_side a b)) t) a.state ≡ is_accepted (automaton_of holds a.sta) t a.state
    first_has t =
        set_is_accepted (automaton_of holds (side_by_side a b)) t a.state
        ∙ first_accepts (automaton_of holds a.sta) (automaton_of holds b.sta) (automaton_of holds (side_by_side a b)) (own_of holds a.sta fit_a) (own_of holds b.sta fit_b) is_beside t a.state (omega (arith, low_a, length-map a.sta.rules (map (rule_meaning holds))))

    second_has : (other : ℕ) → other ≡ length a.sta.rules + b.state → (t : LabelTree) → has (set_of (automaton_of holds (side_by_side a b)) t) other ≡ is_accepted (automaton_of holds b.sta) t b.state
    second_has other at t =
        set_is_accepted (automaton_of holds (side_by_side a b)) t other
        ∙ ap (is_accepted (automaton_of holds (side_by_side a b)) t) (at ∙ ap (λ n. n + b.state) (sym (length-map a.sta.rules (map (rule_meaning holds)))))
        ∙ second_accepts (automaton_of holds a.sta) (automaton_of holds b.sta) (automaton_of holds (side_by_side a b)) (own_of holds a.sta fit_a) (own_of holds b.sta fit_b) is_beside t b.state (omega (arith, low_b, length-map b.sta.rules (map (rule_meaning holds))))

    pub compared_from : (wanted : Wanted) (m : Machine A) (other most : ℕ) (found : Found V) → m ≡ side_by_side a b → other ≡ length a.sta.rules + b.state → IsAnswer M m.ranks (λ t. has_asked (Two wanted a.state other) (set_of (automaton_of holds m) t)) most found → IsCompared M wanted a b most found
    compared_from wanted m other most found same at answer =
        subst (λ member. IsAnswer M a.sta.ranks member most found) (λ i t. is_wanted wanted (first_has t i) (second_has other at t i))
        (subst (λ k. IsAnswer M k.ranks (λ t. is_wanted wanted (has (set_of (automaton_of holds k) t) a.state) (has (set_of (automaton_of holds k) t) other)) most found) same answer)
