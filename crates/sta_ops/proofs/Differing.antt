-- The difference is the intersection with the complement.
use Rattle.std.proofs.Common.{◌≡◌, ◌<◌, inl, inr, Bool, List, ◌++◌, map, length, Contains, sym, subst, arith}
use Rattle.std.specs.Cmp.{IsEquivalence}
use Rattle.std.proofs.lemmas.List.{length-map}
use Rattle.model_tree.specs.Label.{Label}
use Rattle.model_tree.specs.Formula.{Formula, EveryAtom, all_of, formulas_of}
use Rattle.model_sta.specs.Sets.{Fits}
use Rattle.model_sta.specs.Operations.{IsComplement}
use Rattle.label_core.specs.Atoms.{EachHasEqual}
use Rattle.label_core.specs.Meaning.{Meaning}
use Rattle.label_core.proofs.Chains.{among_grows}
use Rattle.label_split.proofs.SameAtoms.{all_atoms}
use Rattle.sta_core.specs.Sta.{rule_meaning}
use Rattle.sta_core.specs.declared.Lang.{Lang}
use Rattle.sta_classes.specs.Guards.{all_guards, atoms_of_all}
use Rattle.sta_classes.proofs.Atoms.{of_each_formula, guards_among}
use Rattle.sta_theory.proofs.Joined.{is_difference, difference_keeps}
use Rattle.sta_theory.proofs.Lists.{append_member, in_left, in_right}
use Rattle.sta_ops.specs.Languages.{auto_of, TypedFor, HasIntersection, HasComplement, HasDifference, IsMadeOfBoth}
use Rattle.sta_ops.proofs.Atoms.{IsAmong, each_in, in_each, guard_of, each_among}

module _ {A V W : Type 0} {label_of : V → Label} {holds : A → Label → Bool} (M : Meaning label_of holds W) (E : A → A → Bool) (own_equal : M.equal ≡ E) (laws : IsEquivalence E) (fits : A → Type 0) (a b k c : Lang A) (same : b.sta.ranks ≡ a.sta.ranks) where
  pub difference_is : b.state < length b.sta.rules → HasComplement M b k → HasIntersection M a k c → HasDifference M a b c
  difference_is low complement both =
      is_difference (TypedFor M a) (auto_of holds a) (auto_of holds b) (auto_of holds k) (auto_of holds c) (omega (arith, low, length-map b.sta.rules (map (rule_meaning holds))))
      (subst (λ ranks. IsComplement (Fits ranks M.has) (auto_of holds b) (auto_of holds k)) same complement) both

  laws' : IsEquivalence M.equal
  laws' = subst IsEquivalence (sym own_equal) laws

  abbrev all : List (Formula A)
  all = all_guards a.sta.rules ++ all_guards b.sta.rules

  abbrev Ours : Formula A → Type 0
  Ours = EveryAtom (IsAmong M.equal laws' all)

  -- where each atom of each formula is among these, so are all
  grown : (gs : List (Formula A)) → ((f : Formula A) → Contains gs f → Ours f) → EachHasEqual M.equal (atoms_of_all gs) (atoms_of_all all)
  grown gs h = all_atoms (IsAmong M.equal laws' all) (all_of (formulas_of gs)) (of_each_formula (IsAmong M.equal laws' all) gs (in_each Ours gs h))

  there : (f : Formula A) → Contains all f → Ours f
  there = each_in Ours all (guards_among M.equal laws' all)

  pub difference_owed : IsMadeOfBoth M fits b b k → IsMadeOfBoth M fits a k c → IsMadeOfBoth M fits a b c
  difference_owed first second =
      let seconds : (f : Formula A) → Contains (all_guards b.sta.rules) f → Ours f = λ f at. there f (in_right (all_guards a.sta.rules) (all_guards b.sta.rules) f at) in
      let of_k : EachHasEqual M.equal (atoms_of_all (all_guards k.sta.rules)) (atoms_of_all all) =
      among_grows M.equal laws' (atoms_of_all (all_guards k.sta.rules)) (atoms_of_all (all_guards b.sta.rules ++ all_guards b.sta.rules)) (atoms_of_all all)
      (grown (all_guards b.sta.rules ++ all_guards b.sta.rules) (λ f at. elim (append_member (all_guards b.sta.rules) (all_guards b.sta.rules) f at) [ inl x ↦ seconds f x | inr y ↦ seconds f y ])) first.atoms in
      record {
        ranks = second.ranks;
        low = second.low;
        fit = second.fit;
        guards = difference_keeps (auto_of holds a) (auto_of holds b) (auto_of holds k) (auto_of holds c) first.guards second.guards;
        atoms = among_grows M.equal laws' (atoms_of_all (all_guards c.sta.rules)) (atoms_of_all (all_guards a.sta.rules ++ all_guards k.sta.rules)) (atoms_of_all all)
            (grown (all_guards a.sta.rules ++ all_guards k.sta.rules) (λ f at. elim (append_member (all_guards a.sta.rules) (all_guards k.sta.rules) f at) [
              | inl x ↦ there f (in_left (all_guards a.sta.rules) (all_guards b.sta.rules) f x)
              | inr y ↦ guard_of Ours k.sta.rules (each_among M.equal laws' all k.sta.rules of_k) f y
            ])) second.atoms;
      }
