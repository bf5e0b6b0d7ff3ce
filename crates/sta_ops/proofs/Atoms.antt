-- The atoms of rules that are made of others.
use Rattle.std.proofs.Common.{zero, suc, inl, inr, Bool, IsTrue, List, [], ◌∷◌, map, All, Contains, sym, subst, arith}
use Rattle.std.specs.Cmp.{IsEquivalence}
use Rattle.model_tree.specs.Formula.{Formula, all_of, formulas_of, EveryAtom}
use Rattle.model_sta.specs.Sets.{Each}
use Rattle.label_core.specs.Atoms.{has_equal, EachHasEqual}
use Rattle.label_split.proofs.SameAtoms.{all_atoms, every_atom}
use Rattle.sta_core.specs.Machine.{Machine, PlainRule}
use Rattle.sta_core.specs.Sta.{AtomsFit}
use Rattle.sta_classes.specs.Guards.{all_guards, atoms_of_all}
use Rattle.sta_classes.proofs.Atoms.{each_formula, of_each_formula, guards_among}
use Rattle.sta_ops.proofs.EachRule.{all_in, in_all, EachRule}
use Rattle.sta_theory.proofs.Lists.{none_in, first_in, later_in, append_member, in_left, in_right, map_member, in_map}

pub each_in : {X : Type 0} (P : X → Type 0) (xs : List X) → Each P xs → (x : X) → Contains xs x → P x
each_in P [] h x at = absurd (none_in x at)
each_in P (y ∷ xs) h x (zero, low, is) = subst P is h.0
each_in P (y ∷ xs) h x (suc k, low, is) = each_in P xs h.1 x (k, omega arith, is)

pub in_each : {X : Type 0} (P : X → Type 0) (xs : List X) → ((x : X) → Contains xs x → P x) → Each P xs
in_each P [] h = tt
in_each P (x ∷ xs) h = (h x (first_in x xs), in_each P xs (λ y at. h y (later_in x y xs at)))

module _ {A : Type 0} where
  -- a rule's guard is one of all
  pub guard_in : (rules : List (List (PlainRule A))) (rs : List (PlainRule A)) (r : PlainRule A) → Contains rules rs → Contains rs r → Contains (all_guards rules) r.guard
  guard_in [] rs r at here = absurd (none_in rs at)
  guard_in (qs ∷ rules) rs r (zero, low, is) here = in_left (map (λ r. r.guard) qs) (all_guards rules) r.guard (in_map (λ r. r.guard) qs r (subst (λ z. Contains z r) (sym is) here))
  guard_in (qs ∷ rules) rs r (suc k, low, is) here = in_right (map (λ r. r.guard) qs) (all_guards rules) r.guard (guard_in rules rs r (k, omega arith, is) here)

  pub guard_of : (P : Formula A → Type 0) (rules : List (List (PlainRule A))) → EachRule (λ r. P r.guard) rules → (f : Formula A) → Contains (all_guards rules) f → P f
  guard_of P [] h f at = absurd (none_in f at)
  guard_of P (qs ∷ rules) h f at = elim (append_member (map (λ r. r.guard) qs) (all_guards rules) f at) [
    | inl here ↦ (let (r, at_r, is) = map_member (λ r. r.guard) qs f here in subst P is (h qs (first_in qs rules) r at_r))
    | inr there ↦ guard_of P rules (λ rs at_rs. h rs (later_in qs rs rules at_rs)) f there
  ]

  abbrev pub Guarded : (A → Type 0) → PlainRule A → Type 0
  Guarded P r = EveryAtom P r.guard

  pub from_fit : (P : A → Type 0) (m : Machine A) → AtomsFit P m → EachRule (Guarded P) m.rules
  from_fit P m h rs at r here = all_in (λ r. EveryAtom P r.guard) rs (all_in (λ rules. All (λ r. EveryAtom P r.guard) rules) m.rules h rs at) r here

  pub to_fit : (P : A → Type 0) (m : Machine A) → EachRule (Guarded P) m.rules → AtomsFit P m
  to_fit P m h = in_all (λ rules. All (λ r. EveryAtom P r.guard) rules) m.rules (λ rs at. in_all (λ r. EveryAtom P r.guard) rs (h rs at))

  module _ (eq : A → A → Bool) (laws : IsEquivalence eq) where
    abbrev pub IsAmong : List (Formula A) → A → Type 0
    IsAmong guards x = IsTrue (has_equal eq (atoms_of_all guards) x)

    -- the atoms of a machine's rules are among those of guards that have its guards
    pub among : (guards : List (Formula A)) (rules : List (List (PlainRule A))) → ((f : Formula A) → Contains (all_guards rules) f → Contains guards f) → EachRule (Guarded (IsAmong guards)) rules
    among guards rules sub rs at r here = each_in (EveryAtom (IsAmong guards)) guards (guards_among eq laws guards) r.guard (sub r.guard (guard_in rules rs r at here))

    pub each_equal : (guards : List (Formula A)) (rules : List (List (PlainRule A))) → EachRule (Guarded (IsAmong guards)) rules → EachHasEqual eq (atoms_of_all (all_guards rules)) (atoms_of_all guards)
    each_equal guards rules h =
        all_atoms (IsAmong guards) (all_of (formulas_of (all_guards rules)))
        (of_each_formula (IsAmong guards) (all_guards rules) (in_each (EveryAtom (IsAmong guards)) (all_guards rules) (guard_of (EveryAtom (IsAmong guards)) rules h)))

    pub each_among : (guards : List (Formula A)) (rules : List (List (PlainRule A))) → EachHasEqual eq (atoms_of_all (all_guards rules)) (atoms_of_all guards) → EachRule (Guarded (IsAmong guards)) rules
    each_among guards rules h rs at r here =
        each_in (EveryAtom (IsAmong guards)) (all_guards rules) (each_formula (IsAmong guards) (all_guards rules) (every_atom (IsAmong guards) (all_of (formulas_of (all_guards rules))) h)) r.guard (guard_in rules rs r at here)
