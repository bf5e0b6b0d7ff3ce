-- Unions and intersections have what they owe.
use Rattle.std.proofs.Common.{ℕ, suc, ◌≡◌, ◌<◌, ◌+◌, Bool, List, ◌++◌, length, sym, ap, subst, arith}
use Rattle.std.specs.Cmp.{IsEquivalence}
use Rattle.model_tree.specs.Label.{Label}
use Rattle.model_sta.specs.Told.{AreOwn}
use Rattle.model_sta.specs.Operations.{KeepsGuards}
use Rattle.label_core.specs.Meaning.{Meaning}
use Rattle.sta_core.specs.Machine.{PlainRule}
use Rattle.sta_core.specs.Sta.{automaton_of, AtomsFit}
use Rattle.sta_core.specs.declared.Lang.{Lang}
use Rattle.sta_classes.specs.Guards.{all_guards}
use Rattle.sta_ops.specs.Rules.{with_either, with_pairs}
use Rattle.sta_ops.specs.Languages.{auto_of, TypedFor, HasUnion, HasIntersection, IsMadeOfBoth}
use Rattle.sta_ops.proofs.EachRule.{EachRule}
use Rattle.sta_ops.proofs.Fitting.{PlainFits, own_of, fits_among, fits_moved, fits_both}
use Rattle.sta_ops.proofs.Atoms.{Guarded, IsAmong, from_fit, to_fit, among, each_equal}
use Rattle.sta_ops.proofs.Joining.{is_either, is_paired, each_either, each_pairs, either_long, pairs_long}
use Rattle.sta_theory.proofs.Lists.{in_left, in_right}
use Rattle.sta_theory.proofs.Joined.{is_union, is_intersection, union_keeps, intersection_keeps}

module _ {A : Type 0} (a b : Lang A) where
  abbrev FitsOf : Lang A → Type 0
  FitsOf x = EachRule (PlainFits x.sta.ranks (length x.sta.rules)) x.sta.rules

  abbrev total : ℕ
  total = suc (length a.sta.rules + length b.sta.rules)

  module _ (same : b.sta.ranks ≡ a.sta.ranks) (fit_a : FitsOf a) (fit_b : FitsOf b) where
    fit_b' : EachRule (PlainFits a.sta.ranks (length b.sta.rules)) b.sta.rules
    fit_b' = subst (λ ranks. EachRule (PlainFits ranks (length b.sta.rules)) b.sta.rules) same fit_b

    -- the rules fit
    pub either_fits : EachRule (PlainFits a.sta.ranks total) (with_either a b)
    either_fits =
        each_either (PlainFits a.sta.ranks (length a.sta.rules)) (PlainFits a.sta.ranks (length b.sta.rules)) (PlainFits a.sta.ranks total) a b
        (fits_among a.sta.ranks (length a.sta.rules) total (omega arith)) (fits_moved a.sta.ranks (length a.sta.rules) (length b.sta.rules) total (omega arith)) fit_a fit_b'

    pub pairs_fit : EachRule (PlainFits a.sta.ranks total) (with_pairs a b)
    pairs_fit =
        each_pairs (PlainFits a.sta.ranks (length a.sta.rules)) (PlainFits a.sta.ranks (length b.sta.rules)) (PlainFits a.sta.ranks total) a b
        (fits_among a.sta.ranks (length a.sta.rules) total (omega arith)) (fits_moved a.sta.ranks (length a.sta.rules) (length b.sta.rules) total (omega arith)) fit_a fit_b' (fits_both a.sta.ranks total)

module _ {A V W : Type 0} {label_of : V → Label} {holds : A → Label → Bool} (M : Meaning label_of holds W) (E : A → A → Bool) (own_equal : M.equal ≡ E) (laws : IsEquivalence E) (fits : A → Type 0) (a b c : Lang A)
    (fit_a : EachRule (PlainFits a.sta.ranks (length a.sta.rules)) a.sta.rules) (fit_b : EachRule (PlainFits b.sta.ranks (length b.sta.rules)) b.sta.rules)
    (atoms_a : AtomsFit fits a.sta) (atoms_b : AtomsFit fits b.sta) (ranks : c.sta.ranks ≡ a.sta.ranks) where
  own_a : AreOwn (automaton_of holds a.sta)
  own_a = own_of holds a.sta fit_a

  own_b : AreOwn (automaton_of holds b.sta)
  own_b = own_of holds b.sta fit_b

  laws' : IsEquivalence M.equal
  laws' = subst IsEquivalence (sym own_equal) laws

  -- what is owed besides the language
  pub owed : c.state < length c.sta.rules → KeepsGuards (auto_of holds a) (auto_of holds b) (auto_of holds c) → ((P : A → Type 0) → EachRule (Guarded P) a.sta.rules → EachRule (Guarded P) b.sta.rules → EachRule (Guarded P) c.sta.rules) → IsMadeOfBoth M fits a b c
  owed low keeps each =
      let guards = all_guards a.sta.rules ++ all_guards b.sta.rules in
      record {
        ranks = ranks;
        low = low;
        fit = to_fit fits c.sta (each fits (from_fit fits a.sta atoms_a) (from_fit fits b.sta atoms_b));
        guards = keeps;
        atoms = each_equal M.equal laws' guards c.sta.rules
            (each (IsAmong M.equal laws' guards) (among M.equal laws' guards a.sta.rules (in_left (all_guards a.sta.rules) (all_guards b.sta.rules))) (among M.equal laws' guards b.sta.rules (in_right (all_guards a.sta.rules) (all_guards b.sta.rules))));
      }

  state_is : (rules : List (List (PlainRule A))) → c.sta.rules ≡ rules → length rules ≡ suc (length a.sta.rules + length b.sta.rules) → c.state + 1 ≡ length rules → c.state ≡ length a.sta.rules + length b.sta.rules
  state_is rules are long last = omega (arith, long, last)

  pub union_is : c.sta.rules ≡ with_either a b → c.state + 1 ≡ length (with_either a b) → HasUnion M a b c
  union_is are last = is_union (TypedFor M a) (auto_of holds a) (auto_of holds b) (auto_of holds c) own_a own_b (is_either holds a b c are (state_is (with_either a b) are (either_long a b) last))

  pub union_owed : c.sta.rules ≡ with_either a b → c.state + 1 ≡ length (with_either a b) → IsMadeOfBoth M fits a b c
  union_owed are last =
      owed (omega (arith, last, ap length are)) (union_keeps (auto_of holds a) (auto_of holds b) (auto_of holds c) (is_either holds a b c are (state_is (with_either a b) are (either_long a b) last)))
      (λ P f g. subst (EachRule (Guarded P)) (sym are) (each_either (Guarded P) (Guarded P) (Guarded P) a b (λ r h. h) (λ r h. h) f g))

  pub intersection_is : c.sta.rules ≡ with_pairs a b → c.state + 1 ≡ length (with_pairs a b) → HasIntersection M a b c
  intersection_is are last = is_intersection (TypedFor M a) (auto_of holds a) (auto_of holds b) (auto_of holds c) own_a own_b (is_paired holds a b c are (state_is (with_pairs a b) are (pairs_long a b) last))

  pub intersection_owed : c.sta.rules ≡ with_pairs a b → c.state + 1 ≡ length (with_pairs a b) → IsMadeOfBoth M fits a b c
  intersection_owed are last =
      owed (omega (arith, last, ap length are)) (intersection_keeps (auto_of holds a) (auto_of holds b) (auto_of holds c) (is_paired holds a b c are (state_is (with_pairs a b) are (pairs_long a b) last)))
      (λ P f g. subst (EachRule (Guarded P)) (sym are) (each_pairs (Guarded P) (Guarded P) (Guarded P) a b (λ r h. h) (λ r h. h) f g (λ r s same p q. (p, (q, tt)))))
