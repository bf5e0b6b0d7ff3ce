-- The examples of labels that are far from the kept ones.
use Rattle.std.proofs.Common.{◌≡◌, ◌⊎◌, inl, inr, ℕ, ℤ, pos, negsuc, Bool, true, false, ◌&&◌, List, [], ◌∷◌, Some, None, cond, codes, Contains, refl, sym, ap, ◌∙◌, subst, arith}
use Rattle.std.specs.Prelude.{nat_lt, ◌^◌}
use Rattle.std.proofs.lemmas.Bool.Decides.{nat_tests}
use Rattle.model_tree.specs.Label.{whole, truth, text, Label, row, pair}
use Rattle.model_tree.specs.Kept.{is_kept_label}
use Rattle.model_grammar.specs.Syntax.{Expr, Rule, OutRule, lang, Item}
use Rattle.model_names.specs.Declared.{same_text, rules_of, out_rules_of, own_rules, own_out_rules}
use Rattle.model_meaning.proofs.Members.{one_of, none_of}
use Rattle.std.specs.Option.{option_map_or}
use Rattle.model_meaning.specs.Reached.{itself}
use Rattle.model_run.proofs.Undefined.{opens_nothing}
use Rattle.model_meaning.specs.Programs.{here, name, x}
use Rattle.model_run.specs.Seen.{Guard, tested, guard_truth, IsTest, of_language, of_transformation, IsGuard, guard_of_rule, guard_opened, guard_of_operand, guard_put, fields_at, Agree, IsLabelOf, HasFarLabel}
use Rattle.model_run.specs.Examples.{AreFar, is_big, is_neither, guarded}

abbrev the_rule : Expr → Rule
the_rule e = record { ctor = name (codes "z"); vars = []; guard = Some e; given = [] }

-- the guard of the one rule
abbrev the_guard : Expr → Guard
the_guard e = tested (fields_at (guarded e) (codes "N")) e

is_guard : (e : Expr) → IsGuard (guarded e) (x (codes "p")) (codes "N") (the_guard e)
is_guard e = guard_of_rule (name (codes "p")) (codes "N") e (of_language (name (codes "p")) (name (codes "p")) (codes "N") (the_rule e) e itself refl (0, omega arith, refl) refl)

-- a label of the type is one whole number
one_number : (e : Expr) (P : Label → Type 0) → ((n : ℤ) → P (row (whole n ∷ []))) → (m : Label) → IsLabelOf (guarded e) (codes "N") m → P m
one_number e P each (row []) sorts = absurd (cc)
one_number e P each (row (whole n ∷ [])) sorts = each n
one_number e P each (row (whole n ∷ v ∷ vs)) sorts = absurd (cc)
one_number e P each (row (truth b ∷ vs)) sorts = absurd (cc)
one_number e P each (row (text t ∷ vs)) sorts = absurd (cc)
one_number e P each (pair l m) sorts = absurd sorts

no_less : (n : ℕ) → nat_lt n 0 ≡ false
no_less n = grind (arith, nat_tests)

abbrev lang_of : Expr → Item
lang_of e = record { place = here; body = lang (record { name = name (codes "p"); of = name (codes "N"); rules = the_rule e ∷ [] }) }

first_true : (b : Bool) → (b && true) ≡ true → b ≡ true
first_true true e = refl
first_true false e = absurd (cc)

not_big : (n : ℤ) → is_kept_label (row (whole n ∷ [])) ≡ true → true ≡ guard_truth (the_guard is_big) (row (whole n ∷ [])) → ⊥
not_big (pos n) kept big =
    let low : nat_lt n (2 ^ 63) ≡ true = first_true (nat_lt n (2 ^ 63)) kept in
    let high : nat_lt 9223372036854775807 n ≡ true = sym big in
    grind (arith, nat_tests)
not_big (negsuc n) kept big = let bad : true ≡ false = big in cc

pub big_is_far : HasFarLabel (guarded is_big) (x (codes "p") ∷ []) (codes "N")
big_is_far = (
  row (whole (pos 9223372036854775808) ∷ []),
  refl,
  one_number is_big (λ m. is_kept_label m ≡ true → ¬ (Agree (guarded is_big) (x (codes "p") ∷ []) (codes "N") (row (whole (pos 9223372036854775808) ∷ [])) m))
      (λ n kept agree. not_big n kept (agree (x (codes "p")) (0, omega arith, refl) (the_guard is_big) (is_guard is_big))),
)

-- the guard is false at every number
never : (n : ℤ) → guard_truth (the_guard is_neither) (row (whole n ∷ [])) ≡ false
never (pos n) = by (nat_lt 9223372036854775807 n) (nat_lt n 0) (no_less n)
  where
    by : (a b : Bool) → b ≡ false → (a && (b && true)) ≡ false
    by true true e = e
    by true false e = refl
    by false b e = refl
never (negsuc n) = refl

-- each guard of the program is this one
only_guard : (e other : Expr) (q : List ℕ) → ((r : Rule) × Contains (rules_of (guarded e) q) r × (r.guard ≡ Some other)) ⊎ ((r : OutRule) × Contains (out_rules_of (guarded e) q) r × (r.rule.guard ≡ Some other)) → e ≡ other
only_guard e other q h = by (same_text (codes "p") q) h
  where
    by : (b : Bool) → ((r : Rule) × Contains (option_map_or (λ item. own_rules item.body) (cond b (Some (lang_of e)) None) []) r × (r.guard ≡ Some other))
        ⊎ ((r : OutRule) × Contains (option_map_or (λ item. own_out_rules item.body) (cond b (Some (lang_of e)) None) []) r × (r.rule.guard ≡ Some other)) → e ≡ other
    by true (inl (r, at, is)) = elim (one_of (the_rule e) r [] at) [ inl same ↦ (let guard : Some e ≡ Some other = ap (λ k. k.guard) same ∙ is in cc) | inr more ↦ absurd (none_of r more) ]
    by true (inr (r, at, is)) = absurd (none_of r at)
    by false (inl (r, at, is)) = absurd (none_of r at)
    by false (inr (r, at, is)) = absurd (none_of r at)

all_agree : (l m : Label) → IsLabelOf (guarded is_neither) (codes "N") l → IsLabelOf (guarded is_neither) (codes "N") m → Agree (guarded is_neither) (x (codes "p") ∷ []) (codes "N") l m
all_agree l m own other e at g is = elim (one_of (x (codes "p")) e [] at) [
  | inl same ↦ by_guard g (subst (λ z. IsGuard (guarded is_neither) z (codes "N") g) (sym same) is)
  | inr more ↦ absurd (none_of e more)
]
  where
    false_at : (k : Label) → IsLabelOf (guarded is_neither) (codes "N") k → guard_truth (the_guard is_neither) k ≡ false
    false_at = one_number is_neither (λ k. guard_truth (the_guard is_neither) k ≡ false) never

    by_test : (e : Expr) → IsTest (guarded is_neither) (name (codes "p")) (codes "N") e → is_neither ≡ e
    by_test e (of_language _ k _ r _ reached on at is) = only_guard is_neither e k.text (inl (r, at, is))
    by_test e (of_transformation _ k _ r _ reached on at is) = only_guard is_neither e k.text (inr (r, at, is))

    by_guard : (g : Guard) → IsGuard (guarded is_neither) (x (codes "p")) (codes "N") g → guard_truth g l ≡ guard_truth g m
    by_guard g (guard_of_rule _ _ e test) =
        let same : tested (fields_at (guarded is_neither) (codes "N")) e ≡ the_guard is_neither = ap (λ d. tested (fields_at (guarded is_neither) (codes "N")) d) (sym (by_test e test)) in
        subst (λ h. guard_truth h l ≡ guard_truth h m) (sym same) (false_at l own ∙ sym (false_at m other))
    by_guard g (guard_opened _ z _ _ opens is) = absurd (opens_nothing (guarded is_neither) (refl, (refl, tt)) (codes "p") z opens)
    by_guard g (guard_of_operand _ z _ _ at is) = absurd (none_of z at)
    by_guard g (guard_put _ z _ into k h put is) = absurd put.back

pub neither_is_far : ¬ (HasFarLabel (guarded is_neither) (x (codes "p") ∷ []) (codes "N"))
neither_is_far (l, is, far) = far (row (whole (pos 0) ∷ [])) refl refl (all_agree l (row (whole (pos 0) ∷ [])) is refl)

pub are_far : AreFar
are_far = record { big = big_is_far; neither = neither_is_far }
